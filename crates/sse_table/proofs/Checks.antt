-- Checks over a range, one attribute after another, and what checked words fit.
use Rattle.std.proofs.Common.{◌≡◌, ℕ, suc, ◌+◌, ◌-◌, ◌<◌, ◌≤◌, ◌^◌, Bool, true, false, List, [], ◌∷◌, length, get_or, drop, drop-cons, refl, arith, ◌⊎◌, inl, inr}
use Rattle.std.specs.Prelude.{◌||◌}
use Rattle.std.proofs.lemmas.Bool.{cases_lt}
use Rattle.std.proofs.lemmas.Bool.Decides.{nat_tests}
use Rattle.sse_base.specs.Calls.{some_attribute, some_word, word_for, is_refused_value}

pub one_more_attribute : (test : ℕ → Bool) (base count i : ℕ) → i < count →
    some_attribute test (base + i) (count - i)
    ≡ (test (base + i) || some_attribute test (base + (i + 1)) (count - (i + 1)))
one_more_attribute test base count i h =
    let e : count - i ≡ suc (count - (i + 1)) = omega arith
    in let f : base + (i + 1) ≡ base + i + 1 = omega arith
    in rw (e, f) refl

pub one_more_word : (test : ℕ → ℕ → Bool) (base i : ℕ) (words : List ℕ) → i < length words →
    some_word test (base + i) (drop i words)
    ≡ (test (base + i) (get_or words i 0) || some_word test (base + (i + 1)) (drop (i + 1) words))
one_more_word test base i words h =
    let e : drop i words ≡ get_or words i 0 ∷ drop (suc i) words = drop-cons words i 0 h
    in let s : i + 1 ≡ suc i = omega arith
    in let f : base + suc i ≡ base + i + 1 = omega arith
    in rw (s, e, f) refl

both_false : (a b : Bool) → (a || b) ≡ false → (a ≡ false) × (b ≡ false)
both_false true b h = cc
both_false false b h = (refl, h)

-- each word of a range passes the test
word_passes : (test : ℕ → ℕ → Bool) (attr base : ℕ) (words : List ℕ) → some_word test base words ≡ false →
    base ≤ attr → attr < base + length words → test attr (get_or words (attr - base) 0) ≡ false
word_passes test attr base [] p l h = absurd (omega arith)
word_passes test attr base (w ∷ ws) p l h =
    let q = both_false (test base w) (some_word test (base + 1) ws) p
    in elim (cases_lt base attr) [
      | inl m ↦
          let e : attr - base ≡ suc (attr - (base + 1)) = omega arith
          in rw e (word_passes test attr (base + 1) ws q.1 (omega arith) (omega arith))
      | inr m ↦
          let z : attr - base ≡ 0 = omega arith
          in let e : attr ≡ base = omega arith
          in rw (z, e) q.0
    ]

-- what an attribute takes passes the test, or is what it was
pub word_cases : (test : ℕ → ℕ → Bool) (attr base : ℕ) (words : List ℕ) (old : ℕ) → some_word test base words ≡ false →
    (word_for attr base words old ≡ old) ⊎ (test attr (word_for attr base words old) ≡ false)
unfolding word_for
word_cases test attr base words old p =
    elim (cases_lt attr base) [
      | inl m ↦ inl (grind (arith, nat_tests))
      | inr m ↦ elim (cases_lt attr (base + length words)) [
        | inl k ↦ inr (grind (arith, nat_tests, word_passes test attr base words p m k))
        | inr k ↦ inl (grind (arith, nat_tests))
      ]
    ]

pub priority_fits : (harts base : ℕ) (words : List ℕ) (old : ℕ) → some_word (is_refused_value harts) base words
    ≡ false →
    old < 2 ^ 32 → word_for 1 base words old < 2 ^ 32
unfolding is_refused_value
priority_fits harts base words old p h =
    elim (word_cases (is_refused_value harts) 1 base words old p) [
      | inl e ↦ rw e h
      | inr e ↦ grind (arith, nat_tests, e)
    ]

pub preferred_fits : (harts base : ℕ) (words : List ℕ) (old : ℕ) → some_word (is_refused_value harts) base words
    ≡ false →
    harts < 2 ^ 8 → old < 2 ^ 8 → word_for 3 base words old < 2 ^ 8
unfolding is_refused_value
preferred_fits harts base words old p k h =
    elim (word_cases (is_refused_value harts) 3 base words old p) [
      | inl e ↦ rw e h
      | inr e ↦ grind (arith, nat_tests, e)
    ]
