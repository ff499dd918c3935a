-- Banks to which nothing has happened yet.
use Rattle.std.proofs.Common.{◌≡◌, ◌≢◌, ℕ, zero, suc, ◌+◌, ◌≤◌, false, List, [], ◌∷◌, ◌++◌, length, slice_get, Some, refl, inl, inr, sym, ap, ◌∙◌, subst, arith}
use Rattle.std.proofs.lemmas.Bool.{cases_eq}
use Rattle.std.proofs.lemmas.List.{length_push}
use Rattle.std.proofs.lemmas.Option.{same_Some, none-some}
use Rattle.reri_fields.specs.declared.report.RecordCopy.{RecordCopy}
use Rattle.reri_fields.specs.Fields.{control_spare, bits}
use Rattle.reri_fields.specs.Records.{Origin, Stands}
use Rattle.reri_fields.specs.Banks.{BankStands, events_of, asks}

pub clean_control : (control : ℕ) → control ≤ 255 → control_spare control ≡ 0
unfolding control_spare bits
clean_control control h = omega arith

nothing_happened : (at : ℕ) → events_of at [] ≡ []
unfolding events_of
nothing_happened at = refl

nobody_asks : (origins : List Origin) → asks origins [] ≡ false
unfolding asks
nobody_asks origins = refl

pub bank_of_none : BankStands [] [] (record { copies = []; asks = false })
bank_of_none =
    record {
      count = refl;
      controls = λ at origin h. absurd (none-some origin h);
      each = λ at origin copy h k. absurd
          (none-some origin h);
      asking = sym (nobody_asks []);
    }

pub get-push_same : {X : Type 0} (xs : List X) (y : X) → slice_get (xs ++ y ∷ []) (length xs) ≡ Some y
get-push_same [] y = refl
get-push_same (x ∷ xs) y = get-push_same xs y

pub get-push_other : {X : Type 0} (xs : List X) (y z : X) (at : ℕ) → at ≢ length xs → slice_get (xs ++ y ∷ []) at
    ≡ Some z → slice_get xs at ≡ Some z
get-push_other [] y z zero ne h = absurd (ne refl)
get-push_other [] y z (suc at) ne h = absurd (none-some z h)
get-push_other (x ∷ xs) y z zero ne h = h
get-push_other (x ∷ xs) y z (suc at) ne h = get-push_other xs y z at (λ e. ne (ap suc e)) h

pub bank_with_one : (origins : List Origin) (copies : List RecordCopy) (origin : Origin) (copy : RecordCopy)
    → BankStands origins [] (record { copies = copies; asks = false }) → control_spare origin.control ≡ 0
    → Stands origin [] copy
    → BankStands (origins ++ origin ∷ []) [] (record { copies = copies ++ copy ∷ []; asks = false })
bank_with_one origins copies origin copy s clean fresh =
    record {
      count = length_push copies copy ∙ ap (λ n. n + 1) s.count ∙ sym (length_push origins origin);
      controls = λ at o h.
          elim (cases_eq at (length origins)) as (λ _. control_spare o.control ≡ 0) [
            | inl here ↦
                rw (same_Some o origin (sym h ∙ ap (slice_get (origins ++ origin ∷ [])) here
                ∙ get-push_same origins origin)) clean
            | inr elsewhere ↦ s.controls at o (get-push_other origins origin o at elsewhere h)
          ];
      each = λ at o c h k.
          elim (cases_eq at (length origins)) as (λ _. Stands o (events_of at []) c) [
            | inl here ↦
                let same_origin = same_Some o origin (sym h ∙ ap (slice_get (origins ++ origin ∷ [])) here
                ∙ get-push_same origins origin) in
                let same_copy = same_Some c copy (sym k ∙ ap (slice_get (copies ++ copy ∷ [])) (here ∙ sym s.count)
                ∙ get-push_same copies copy) in
                subst (λ x. Stands x (events_of at []) c) (sym same_origin)
                (subst (λ x. Stands origin (events_of at []) x) (sym same_copy)
                (subst (λ x. Stands origin x copy) (sym (nothing_happened at)) fresh))
            | inr elsewhere ↦
                s.each at o c (get-push_other origins origin o at elsewhere h)
                (get-push_other copies copy c at (λ e. elsewhere (e ∙ s.count)) k)
          ];
      asking = sym (nobody_asks (origins ++ origin ∷ []));
    }
