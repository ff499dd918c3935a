-- What a drain has read of its record stays the record's, whatever the drain or an error does.
use Rattle.std.proofs.Common.{◌≡◌, ℕ, ◌<◌, Bool, true, false, cond, eqb, ◌==◌, ◌||◌, List, length, slice_get, Option, Some, None, refl, inl, inr, sym, ap, ◌∙◌, subst, arith}
use Rattle.std.specs.Prelude.{IfSome, IsNone, IsSome, ◌↔◌}
use Rattle.std.specs.Option.{option_map, option_eq}
use Rattle.std.proofs.lemmas.List.{length-set}
use Rattle.std.proofs.lemmas.Bool.{cases_Bool, true≢false}
use Rattle.std.proofs.lemmas.Option.{same_Some, slice_get_within}
use Rattle.reri_fields.specs.declared.report.RecordCopy.{RecordCopy}
use Rattle.reri_fields.specs.declared.drain.Phase.{Phase}
use Rattle.reri_fields.specs.declared.drain.Phase.TheVariants.{Address, Check}
use Rattle.reri_fields.specs.declared.severity.Severity.TheVariants.{Ce, Ued, Uec}
use Rattle.reri_fields.specs.Fields.{StatusFields, status_fields, greatest}
use Rattle.reri_fields.specs.Records.{IsRecord}
use Rattle.reri_fields.specs.Banks.{BankView}
use Rattle.reri_fields.specs.Block.{IsCopy}
use Rattle.reri_fields.specs.Drain.{Draining}
use Rattle.reri_bank.specs.Registers.{OneChanges, IsClaimed, claimed}
use Rattle.reri_bank.proofs.Stands.{get-set_same}
use Rattle.ras_drain.specs.Fits.{AreRead, HoldsRecord}

-- ---- A claim ----

claimed_valid : (fields : StatusFields) → (claimed fields).valid ≡ fields.valid
unfolding claimed
claimed_valid fields =
    elim fields.valid as (λ b. (cond b (record fields { in_progress = true }) fields).valid ≡ fields.valid)
    [ true ↦ refl | false ↦ refl ]

pub claim_holds : (d : Draining) (got : RecordCopy) (before bank : BankView) (copy : RecordCopy)
    → HoldsRecord d got before → OneChanges IsClaimed d.rec before.copies bank.copies
    → slice_get bank.copies d.rec ≡ Some copy
    → HoldsRecord (record d { phase = Address }) (record got { control = copy.control }) bank
claim_holds d got before bank copy h one there =
    let within = slice_get_within before.copies d.rec one.before one.was in
    let after : one.after ≡ copy = same_Some one.after copy (sym (get-set_same before.copies d.rec one.after within)
    ∙ ap (λ copies. slice_get copies d.rec) (sym one.is) ∙ there) in
    let same : h.copy ≡ one.before = same_Some h.copy one.before (sym h.there ∙ one.was) in
    let valid = ap (λ f. f.valid) one.changes.status ∙ claimed_valid (status_fields one.before.status)
    ∙ ap (λ c. (status_fields c.status).valid) (sym same) ∙ h.valid in
    record {
      copy = copy;
      there = there;
      valid = ap (λ c. (status_fields c.status).valid) (sym after) ∙ valid;
      read = λ _. refl;
    }

-- ---- A register that is read ----

pub read_holds : (d : Draining) (phase : Phase) (got next : RecordCopy) (bank : BankView) (copy : RecordCopy)
    → HoldsRecord d got bank → slice_get bank.copies d.rec ≡ Some copy
    → (AreRead d.phase got copy → AreRead phase next copy) → HoldsRecord (record d { phase = phase }) next bank
read_holds d phase got next bank copy h there step =
    let same : h.copy ≡ copy = same_Some h.copy copy (sym h.there ∙ there) in
    record {
      copy = copy;
      there = there;
      valid = ap (λ c. (status_fields c.status).valid) (sym same) ∙ h.valid;
      read = λ on. step
          (subst (AreRead d.phase got) same (h.read (ap (λ c. (status_fields c.status).in_progress) same ∙ on)));
    }

-- ---- A Check ----

-- the copy that is published is the record's six registers as they are now
pub whole : (d : Draining) (got : RecordCopy) (bank : BankView) (copy : RecordCopy)
    → HoldsRecord (record d { phase = Check }) got bank
    → slice_get bank.copies d.rec ≡ Some copy → (status_fields copy.status).in_progress ≡ true
    → record got { status = copy.status } ≡ copy
whole d got bank copy h there on =
    let same : h.copy ≡ copy = same_Some h.copy copy (sym h.there ∙ there) in
    let are = subst (AreRead Check got) same (h.read (ap (λ c. (status_fields c.status).in_progress) same ∙ on)) in
    λ i. record {
      control = are.0 i;
      status = copy.status;
      address = are.1 i;
      info = are.2 i;
      supplement = are.3 i;
      time = are.4 i;
    }

none_set : (a b c : Bool) → a ≡ false → b ≡ false → c ≡ false → (a || b || c) ≡ false
none_set a b c h k l = rw (h, k, l) refl

greatest_some : (fields : StatusFields) → (fields.ce || fields.ued || fields.uec) ≡ true → IsSome (greatest fields)
unfolding greatest
greatest_some fields h =
    elim (cases_Bool fields.uec) as (λ _. IsSome
    (cond fields.uec (Some Uec) (cond fields.ued (Some Ued) (cond fields.ce (Some Ce) None)))) [
      | inl uec ↦ rw uec refl
      | inr not_uec ↦
          rw not_uec
          (elim (cases_Bool fields.ued) as (λ _. IsSome
          (cond fields.ued (Some Ued) (cond fields.ce (Some Ce) None))) [
            | inl ued ↦ rw ued refl
            | inr not_ued ↦
                rw not_ued (elim (cases_Bool fields.ce) as (λ _. IsSome (cond fields.ce (Some Ce) None)) [
                  | inl ce ↦ rw ce refl
                  | inr not_ce ↦
                      absurd (true≢false (sym h ∙ none_set fields.ce fields.ued fields.uec not_ce not_ued not_uec))
                ])
          ])
    ]

-- a copy of a valid record is one that a block can hold
pub copy_of_valid : (copy : RecordCopy) → IsRecord copy → (status_fields copy.status).valid ≡ true → IsCopy copy
copy_of_valid copy is valid =
    record {
      valid = valid;
      severity = greatest_some (status_fields copy.status) (sym is.valid ∙ valid);
      status_spare = is.status_spare;
      control_spare = is.control_spare;
    }

pub holds_valid : (d : Draining) (got : RecordCopy) (bank : BankView) (copy : RecordCopy) → HoldsRecord d got bank
    → slice_get bank.copies d.rec ≡ Some copy → (status_fields copy.status).valid ≡ true
holds_valid d got bank copy h there =
    ap (λ c. (status_fields c.status).valid) (same_Some copy h.copy (sym there ∙ h.there)) ∙ h.valid

-- ---- What an access to a record that is there gives ----

pub granted : (r : Option ℕ) (P Q : Type 0) → (IsNone r ↔ ¬ P) → P → IfSome r (λ _. Q) → Q
granted None P Q h p q = absurd (h.0 refl p)
granted (Some x) P Q h p q = q

pub one_within : (change : RecordCopy → RecordCopy → Type 0) (rec : ℕ) (old new : List RecordCopy)
    → OneChanges change rec old new → rec < length new
one_within change rec old new one =
    let within = slice_get_within old rec one.before one.was in
    omega (arith, ap length one.is, length-set old rec one.after)

is_one : (b : Bool) → (cond b 1 0 == 1) ≡ b
is_one true = refl
is_one false = refl

-- an invalidation answers 1 exactly where the record was claimed
pub cleared_told : (r : Option ℕ) (copies : List RecordCopy) (rec : ℕ) (copy : RecordCopy)
    → slice_get copies rec ≡ Some copy
    → (IsNone r ↔ ¬ (rec < length copies))
    → IfSome r (λ value. option_map (λ c. cond (status_fields c.status).in_progress 1 0) (slice_get copies rec)
    ≡ Some value)
    → option_eq eqb r (Some 1) ≡ (status_fields copy.status).in_progress
cleared_told None copies rec copy there none gives = absurd (none.0 refl (slice_get_within copies rec copy there))
cleared_told (Some value) copies rec copy there none gives =
    let taken : RecordCopy → ℕ = λ c. cond (status_fields c.status).in_progress 1 0 in
    let is : value ≡ taken copy = same_Some value (taken copy) (sym gives ∙ ap (option_map taken) there) in
    ap (λ n. n == 1) is ∙ is_one (status_fields copy.status).in_progress
