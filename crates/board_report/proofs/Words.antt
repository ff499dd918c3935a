-- What holds of each item that was seen so far.
use Rattle.std.proofs.Common.{◌≡◌, ℕ, ◌+◌, ◌^◌, ◌<◌, ◌≤◌, List, length, slice_get, Some, inl, inr, sym, ap, ◌∙◌, subst, arith}
use Rattle.std.proofs.lemmas.Bool.{cases_eq}
use Rattle.std.proofs.lemmas.Option.{same_Some, slice_get_within}
use Rattle.reri_fields.specs.declared.report.RecordCopy.{RecordCopy}
use Rattle.board_bank.specs.Standing.{BankParts}
use Rattle.board_report.specs.Told.{AreWords, EachAreWords}

-- one more that was seen
seen-more : {A : Type 0} → (P : A → Type 0) (xs : List A) (k : ℕ) (x : A) → slice_get xs k ≡ Some x → P x
    → ((i : ℕ) (y : A) → i < k → slice_get xs i ≡ Some y → P y)
    → (i : ℕ) (y : A) → i < k + 1 → slice_get xs i ≡ Some y → P y
seen-more {A} P xs k x there here before i y low is =
    elim (cases_eq i k) as (λ _. P y) [
      | inl same ↦ subst P (same_Some x y (sym there ∙ ap (slice_get xs) (sym same) ∙ is)) here
      | inr other ↦ before i y (omega (arith, low, other)) is
    ]

-- all were seen
seen-all : {A : Type 0} → (P : A → Type 0) (xs : List A) (k : ℕ) → length xs ≤ k
    → ((i : ℕ) (y : A) → i < k → slice_get xs i ≡ Some y → P y) → (i : ℕ) (y : A) → slice_get xs i ≡ Some y → P y
seen-all P xs k few seen i y is = seen i y (omega (arith, few, slice_get_within xs i y is)) is

pub words-more : (cs : List RecordCopy) (k : ℕ) (copy : RecordCopy) → slice_get cs k ≡ Some copy
    → copy.status < 2 ^ 64
    → ((i : ℕ) (c : RecordCopy) → i < k → slice_get cs i ≡ Some c → c.status < 2 ^ 64)
    → (i : ℕ) (c : RecordCopy) → i < k + 1 → slice_get cs i ≡ Some c → c.status < 2 ^ 64
words-more cs k copy there here before = seen-more (λ (c : RecordCopy). c.status < 2 ^ 64) cs k copy there here before

pub words-all : (cs : List RecordCopy) (k : ℕ) → length cs ≤ k
    → ((i : ℕ) (c : RecordCopy) → i < k → slice_get cs i ≡ Some c → c.status < 2 ^ 64) → AreWords cs
words-all cs k few seen = seen-all (λ (c : RecordCopy). c.status < 2 ^ 64) cs k few seen

pub banks-more : (bs : List BankParts) (k : ℕ) (b : BankParts) → slice_get bs k ≡ Some b → AreWords b.bank.copies
    → ((i : ℕ) (c : BankParts) → i < k → slice_get bs i ≡ Some c → AreWords c.bank.copies)
    → (i : ℕ) (c : BankParts) → i < k + 1 → slice_get bs i ≡ Some c → AreWords c.bank.copies
banks-more bs k b there here before = seen-more (λ (c : BankParts). AreWords c.bank.copies) bs k b there here before

pub banks-seen : (bs : List BankParts) (k : ℕ) → length bs ≤ k
    → ((i : ℕ) (c : BankParts) → i < k → slice_get bs i ≡ Some c → AreWords c.bank.copies) → EachAreWords bs
banks-seen bs k few seen = seen-all (λ (c : BankParts). AreWords c.bank.copies) bs k few seen
