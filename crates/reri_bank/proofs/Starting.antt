-- The words of a bank to which nothing has happened yet, as a loop puts them together.
use Rattle.std.proofs.Common.{◌≡◌, ℕ, ◌+◌, ◌*◌, ◌≤◌, false, cond, List, [], ◌∷◌, ◌++◌, length, refl, inl, inr, sym, ap, ◌∙◌, slice_get, subst, arith}
use Rattle.std.specs.List.{flat_map}
use Rattle.std.proofs.lemmas.List.{flat_map_more}
use Rattle.std.proofs.lemmas.Bool.{cases_eq}
use Rattle.std.proofs.lemmas.Option.{same_Some, none-some}
use Rattle.reri_fields.specs.declared.report.RecordCopy.{RecordCopy}
use Rattle.reri_fields.specs.Fields.{status_fields, control_spare}
use Rattle.reri_fields.specs.Records.{Origin, Stands, IsRecord, since, is_any}
use Rattle.reri_fields.specs.Words.{registers}
use Rattle.reri_fields.specs.Banks.{BankStands}
use Rattle.reri_bank.specs.Registers.{summary}
use Rattle.reri_bank.specs.Layout.{words_of, copies_in, AreRecords, IsLaidOut}
use Rattle.reri_bank.proofs.Fresh.{bank_of_none, bank_with_one, get-push_same, get-push_other}
use Rattle.reri_bank.proofs.Placed.{lay_out, copies_back}

-- the words so far are those of records that began so, none of which is valid
pub record Started (origins : List Origin) (words : List ℕ) : Type 0 where
  pub copies : List RecordCopy
  pub are : words ≡ words_of copies
  pub stands : BankStands origins [] (record { copies = copies; asks = false })
  pub records : AreRecords copies
  pub none : summary copies ≡ 0

pub started_none : (words : List ℕ) → words ≡ 0 ∷ [] → Started [] words
unfolding words_of summary
started_none words is =
    record {
      copies = [];
      are = is;
      stands = bank_of_none;
      records = λ at copy h. absurd (none-some copy h);
      none =
          refl;
    }

not_valid : (origin : Origin) (copy : RecordCopy) → Stands origin [] copy → (status_fields copy.status).valid ≡ false
unfolding since is_any
not_valid origin copy s = s.shows.valid

summary_one : (copy : RecordCopy) (copies : List RecordCopy) → (status_fields copy.status).valid ≡ false
    → summary (copy ∷ copies) ≡ 2 * summary copies
unfolding summary
summary_one copy copies h = rw h (omega arith)

summary_none : summary [] ≡ 0
unfolding summary
summary_none = refl

summary_rest : (copy : RecordCopy) (copies : List RecordCopy) → summary (copy ∷ copies)
    ≡ cond (status_fields copy.status).valid 1 0 + 2 * summary copies
unfolding summary
summary_rest copy copies = refl

summary_push : (copies : List RecordCopy) (copy : RecordCopy) → summary copies ≡ 0 → (status_fields copy.status).valid
    ≡ false → summary (copies ++ copy ∷ []) ≡ 0
summary_push [] copy h v = summary_one copy [] v ∙ ap (λ n. 2 * n) summary_none
summary_push (first ∷ copies) copy h v =
    let rest : summary copies ≡ 0 = omega (arith, summary_rest first copies) in
    let more = summary_push copies copy rest v in
    omega (arith, summary_rest first copies, summary_rest first (copies ++ copy ∷ []), more)

records_push : (copies : List RecordCopy) (copy : RecordCopy) → AreRecords copies → IsRecord copy
    → AreRecords (copies ++ copy ∷ [])
records_push copies copy are is =
    λ at other there.
    elim (cases_eq at (length copies)) as (λ _. IsRecord other) [
      | inl here ↦
          subst IsRecord
          (sym (same_Some other copy (sym there ∙ ap (slice_get (copies ++ copy ∷ [])) here
          ∙ get-push_same copies copy))) is
      | inr elsewhere ↦ are at other (get-push_other copies copy other at elsewhere there)
    ]

words_push : (copies : List RecordCopy) (copy : RecordCopy) → summary copies ≡ 0 → (status_fields copy.status).valid
    ≡ false → words_of copies ++ registers copy ≡ words_of (copies ++ copy ∷ [])
unfolding words_of
words_push copies copy h v =
    flat_map_more registers (summary copies ∷ []) copies copy
    ∙ ap (λ n. n ∷ flat_map registers (copies ++ copy ∷ [])) (h ∙ sym (summary_push copies copy h v))

pub started_more : (origins : List Origin) (origin : Origin) (words : List ℕ) (copy : RecordCopy)
    → Started origins words → control_spare origin.control ≡ 0 → Stands origin [] copy → IsRecord copy
    → Started (origins ++ origin ∷ []) (words ++ registers copy)
started_more origins origin words copy s clean fresh is =
    let off = not_valid origin copy fresh in
    record {
      copies = s.copies ++ copy ∷ [];
      are = ap (λ xs. xs ++ registers copy) s.are ∙ words_push s.copies copy s.none off;
      stands = bank_with_one origins s.copies origin copy s.stands clean fresh;
      records = records_push s.copies copy s.records is;
      none = summary_push s.copies copy s.none off;
    }

pub started_copies : (origins : List Origin) (words : List ℕ) → (s : Started origins words) → copies_in words ≡ s.copies
started_copies origins words s = ap copies_in s.are ∙ copies_back s.copies

pub started_stands : (origins : List Origin) (words : List ℕ) → Started origins words
    → BankStands origins [] (record { copies = copies_in words; asks = false })
started_stands origins words s =
    subst (λ copies. BankStands origins [] (record { copies = copies; asks = false }))
    (sym (started_copies origins words s)) s.stands

pub started_many : (origins : List Origin) (words : List ℕ) → Started origins words → length (copies_in words)
    ≡ length origins
started_many origins words s = ap length (started_copies origins words s) ∙ s.stands.count

pub started_laid : (origins : List Origin) (words : List ℕ) → 1 ≤ length origins → length origins ≤ 63
    → Started origins words → IsLaidOut words
started_laid origins words some few s =
    lay_out s.copies words (omega (arith, s.stands.count)) (omega (arith, s.stands.count)) s.records s.are
