-- What is read in a word at one place, after bits were set at another or at the same place.
use Rattle.std.proofs.Common.{◌≡◌, ℕ, ◌+◌, ◌-◌, ◌*◌, ◌/◌, ◌%◌, ◌^◌, ◌<◌, ◌≤◌, Bool, true, refl, sym, ◌∙◌, ap, subst, arith}
use Rattle.std.proofs.Common.{inl, inr}
use Rattle.std.specs.Prelude.{◌==◌, ◌&&◌, ◌||◌, nat_le, if◌then◌else◌}
use Rattle.std.proofs.lemmas.Nat.{pow-add, pow_pos, shr-shr, shr_high, mod_low, field_of, mod_below}
use Rattle.std.proofs.lemmas.Bool.{leb-true, eqb-true, or_cases, and_parts, cases_Bool}
use Rattle.std.proofs.Math.Pow.{mod-mod-pow}
use Rattle.std.proofs.Math.Path.{fun_ext}
use Rattle.reri_fields.specs.Fields.{bits, with_bits}

-- the new word is what lies above the place, the value and what lies below, one behind the other
pub split : (word low width value : ℕ) → with_bits word low width value
    ≡ (word / 2 ^ (low + width) * 2 ^ width + value) * 2 ^ low + word % 2 ^ low
unfolding with_bits
split word low width value =
    let high : ℕ = word / 2 ^ (low + width) in
    let moved : (h p q v r : ℕ) → h * (p * q) + v * p + r ≡ (h * q + v) * p + r = λ h p q v r. omega arith in
    subst (λ (p : ℕ). high * p + value * 2 ^ low + word % 2 ^ low
    ≡ (high * 2 ^ width + value) * 2 ^ low + word % 2 ^ low) (sym (pow-add 2 low width))
    (moved high (2 ^ low) (2 ^ width) value (word % 2 ^ low))

low_part : (word low : ℕ) → word % 2 ^ low < 2 ^ low
low_part word low = mod_below word (2 ^ low) (pow_pos low)

-- what lies below the place stays
same_low : (word low width value : ℕ) → with_bits word low width value % 2 ^ low ≡ word % 2 ^ low
same_low word low width value = rw (split word low width value) (mod_low _ low _ (low_part word low))

-- what lies above the place stays
same_high : (word low width value : ℕ) → value < 2 ^ width → with_bits word low width value / 2 ^ (low + width)
    ≡ word / 2 ^ (low + width)
same_high word low width value fits =
    sym (shr-shr _ low width)
    ∙ ap (λ n. n / 2 ^ width) (ap (λ n. n / 2 ^ low) (split word low width value)
    ∙ shr_high _ low _ (low_part word low))
    ∙ shr_high _ width value fits

-- what was set is read
pub at_it : (word low width value : ℕ) → value < 2 ^ width → bits (with_bits word low width value) low width ≡ value
unfolding bits
at_it word low width value fits =
    ap (λ n. n / 2 ^ low % 2 ^ width) (split word low width value)
    ∙ ap (λ n. n % 2 ^ width) (shr_high _ low _ (low_part word low))
    ∙ mod_low _ width value fits

-- a place below is as it was
below_it : (word low width value l w d : ℕ) → low ≡ d + (w + l) → bits (with_bits word low width value) l w
    ≡ bits word l w
unfolding bits
below_it word low width value l w d e =
    let seen : (n : ℕ) → n / 2 ^ l % 2 ^ w ≡ n % 2 ^ low % 2 ^ (w + l) / 2 ^ l = λ n.
    sym (field_of n w l)
    ∙ ap (λ k. k / 2 ^ l) (sym (mod-mod-pow n d (w + l)) ∙ ap (λ k. n % 2 ^ k % 2 ^ (w + l)) (sym e)) in
    seen (with_bits word low width value)
    ∙ ap (λ n. n % 2 ^ (w + l) / 2 ^ l) (same_low word low width value)
    ∙ sym (seen word)

-- a place above is as it was
above_it : (word low width value l w d : ℕ) → value < 2 ^ width → l ≡ low + width + d
    → bits (with_bits word low width value) l w ≡ bits word l w
unfolding bits
above_it word low width value l w d fits e =
    let seen : (n : ℕ) → n / 2 ^ l ≡ n / 2 ^ (low + width) / 2 ^ d = λ n. ap (λ k. n / 2 ^ k) e
    ∙ sym (shr-shr n (low + width) d) in
    ap (λ n. n % 2 ^ w) (seen (with_bits word low width value)
    ∙ ap (λ n. n / 2 ^ d) (same_high word low width value fits) ∙ sym (seen word))

-- whether two places have no bit in common
abbrev pub is_apart : ℕ → ℕ → ℕ → ℕ → Bool
is_apart l w low width = nat_le (l + w) low || nat_le (low + width) l

-- what is read at a place after a value was set: the value at its own place, at a place apart from it what was there
unfoldable pub patched : ℕ → ℕ → ℕ → ℕ → ℕ → ℕ → ℕ
patched word low width value l w =
    if is_apart l w low width
    then bits word l w
    else if l == low && w == width then value else bits (with_bits word low width value) l w

pub apart : (word low width value l w : ℕ) → value < 2 ^ width → is_apart l w low width ≡ true
    → bits (with_bits word low width value) l w ≡ bits word l w
apart word low width value l w fits h =
    elim (or_cases _ _ h) [
      | inl b ↦ let k : l + w ≤ low = leb-true _ _ b in below_it word low width value l w (low - (l + w)) (omega arith)
      | inr a ↦ let k : low + width ≤ l = leb-true _ _ a in above_it word low width value l w (l - (low + width)) fits
          (omega arith)
    ]

pub read_at : (word low width value l w : ℕ) → value < 2 ^ width → bits (with_bits word low width value) l w
    ≡ patched word low width value l w
unfolding patched
read_at word low width value l w fits =
    elim (cases_Bool (is_apart l w low width)) [
      | inl yes_apart ↦ rw yes_apart (apart word low width value l w fits yes_apart)
      | inr not_apart ↦ rw not_apart (elim (cases_Bool (l == low && w == width)) [
        | inl same ↦
            let places : (l == low) ≡ true = (and_parts _ _ same).0 in
            let widths : (w == width) ≡ true = (and_parts _ _ same).1 in
            rw same (rw (eqb-true l low places, eqb-true w width widths) (at_it word low width value fits))
        | inr other ↦ rw other refl
      ])
    ]

-- the same as an equation of all that can be read
pub reads : (word low width value : ℕ) → value < 2 ^ width → bits (with_bits word low width value)
    ≡ patched word low width value
reads word low width value fits = fun_ext (λ l. fun_ext (λ w. read_at word low width value l w fits))
