-- A record that was written among words is read again.
use Rattle.std.proofs.Common.{◌≡◌, ℕ, zero, suc, ◌+◌, ◌≤◌, List, [], ◌∷◌, length, refl, arith}
use Rattle.reri_fields.specs.declared.report.RecordCopy.{RecordCopy}
use Rattle.reri_fields.specs.Words.{copy_at, with_record}

pub written_is : (words : List ℕ) (at : ℕ) (copy : RecordCopy) → at + 6 ≤ length words
    → copy_at (with_record words at copy) at ≡ copy
unfolding copy_at with_record
written_is (a ∷ b ∷ c ∷ d ∷ e ∷ f ∷ words) zero copy h = refl
written_is (a ∷ b ∷ c ∷ d ∷ e ∷ []) zero copy h = absurd (omega arith)
written_is (a ∷ b ∷ c ∷ d ∷ []) zero copy h = absurd (omega arith)
written_is (a ∷ b ∷ c ∷ []) zero copy h = absurd (omega arith)
written_is (a ∷ b ∷ []) zero copy h = absurd (omega arith)
written_is (a ∷ []) zero copy h = absurd (omega arith)
written_is [] at copy h = absurd (omega arith)
written_is (word ∷ words) (suc at) copy h =
    let next : (n : ℕ) → suc at + n ≡ suc (at + n) = λ n. omega arith in
    rw (next 1, next 2, next 3, next 4, next 5) (written_is words at copy (omega arith))
