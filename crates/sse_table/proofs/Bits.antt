-- Reading and writing one bit of the words.
use Rattle.std.proofs.Common.{◌≡◌, ◌≢◌, ℕ, zero, suc, ◌*◌, ◌/◌, ◌%◌, ◌^◌, ◌<◌, ◌≤◌, Bool, true, false, List, [], ◌∷◌, length, get_or, set, replicate, refl, ap, sym, ◌∙◌, arith, inl, inr, length-set, get_or-set_same, get_or-set_other}
use Rattle.std.specs.Prelude.{Some, slice_get, ◌==◌}
use Rattle.std.specs.Int.{bit_at, bit_not, w64}
use Rattle.std.specs.Int.RustNames.{bit_or, bit_and}
use Rattle.std.proofs.lemmas.Bool.{cases_eq}
use Rattle.std.proofs.lemmas.List.{length-replicate, get_or-replicate}
use Rattle.std.proofs.lemmas.Option.{slice_get-get_or}
use Rattle.std.proofs.lemmas.List.FromFn.{length-map-range_with_len, get_or-map-range_with_len, fill_by_all}
use Rattle.std.proofs.lemmas.Nat.Bits.{bit_at-zero, shr_and_one, bit_at_set_same, bit_at_set_other, bit_at_clear_same, bit_at_clear_other}
use Rattle.sse_table.specs.Bits.{is_set, bits}

pub bits_length : (words : List ℕ) (n : ℕ) → length (bits words n) ≡ n
bits_length words n = length-map-range_with_len (is_set words) 0 n

-- the word of a bit is there
pub within : (words : List ℕ) (n i : ℕ) → i < length (bits words n) → n ≤ 256 → i / 64 < 4
within words n i h k = omega (arith, bits_length words n)

bit_at_place : (words : List ℕ) (n i : ℕ) (d : Bool) → i < n → get_or (bits words n) i d ≡ is_set words i
bit_at_place words n i d h = get_or-map-range_with_len (is_set words) 0 n i i d h (omega arith)

-- words are known by their bits
same_bits : (words : List ℕ) (bs : List Bool) (n : ℕ) → length bs ≡ n
    → ((k : ℕ) → k < n → get_or bs k false ≡ is_set words k) → bits words n ≡ bs
same_bits words bs n l each = sym (fill_by_all (is_set words) bs n false l each)

-- a bit is written, all others stay
abbrev Written : List ℕ → ℕ → ℕ → Bool → Type 0
Written words i w b = ((bit_at w (i % 64) == 1) ≡ b)
    × ((j : ℕ) → j < 64 → j ≢ i % 64 → bit_at w j ≡ bit_at (get_or words (i / 64) 0) j)

written_at : (words : List ℕ) (n i w j : ℕ) (b : Bool) → i < n → i / 64 < length words → Written words i w b → j < n →
    get_or (set (bits words n) i b) j false ≡ is_set (set words (i / 64) w) j
written_at words n i w j b h k p l =
    let long : length (bits words n) ≡ n = bits_length words n
    in elim (cases_eq j i) [
      | inl e ↦
          let here : i < length (bits words n) = omega arith
          in rw (e, get_or-set_same (bits words n) i b false here, get_or-set_same words (i / 64) w 0 k) (sym p.0)
      | inr ne ↦ elim (cases_eq (j / 64) (i / 64)) [
        | inl e ↦
            let apart : j % 64 ≢ i % 64 = omega arith
            in rw (
              get_or-set_other (bits words n) i j b false ne,
              bit_at_place words n j false l,
              e,
              get_or-set_same words (i / 64) w 0 k,
            )
            (sym (ap (λ x. x == 1) (p.1 (j % 64) (omega arith) apart)))
        | inr apart ↦
            rw (
              get_or-set_other (bits words n) i j b false ne,
              bit_at_place words n j false l,
              get_or-set_other words (i / 64) (j / 64) w 0 apart,
            ) refl
      ]
    ]

written : (words : List ℕ) (n i w : ℕ) (b : Bool) → i < n → i / 64 < length words → Written words i w b →
    bits (set words (i / 64) w) n ≡ set (bits words n) i b
written words n i w b h k p =
    same_bits (set words (i / 64) w) (set (bits words n) i b) n (length-set (bits words n) i b
    ∙ bits_length words n) (λ j l. written_at words n i w j b h k p l)

pub one_set : (words : List ℕ) (n i : ℕ) → i < n → i / 64 < length words →
    bits (set words (i / 64) (bit_or (get_or words (i / 64) 0) (1 * 2 ^ (i % 64) % 2 ^ 64))) n
    ≡ set (bits words n) i true
one_set words n i h k =
    let place : i % 64 < 64 = omega arith
    in written words n i _ true h k (
      rw (bit_at_set_same w64 (get_or words (i / 64) 0) (i % 64) place) refl,
      λ j l ne. bit_at_set_other w64 (get_or words (i / 64) 0) (i % 64) place j ne,
    )

pub one_cleared : (words : List ℕ) (n i : ℕ) → i < n → i / 64 < length words →
    bits (set words (i / 64) (bit_and (get_or words (i / 64) 0) (bit_not w64 (1 * 2 ^ (i % 64) % 2 ^ 64)))) n
    ≡ set (bits words n) i false
one_cleared words n i h k =
    let place : i % 64 < 64 = omega arith
    in written words n i _ false h k (
      rw (bit_at_clear_same w64 (get_or words (i / 64) 0) (i % 64) place) refl,
      λ j l ne. bit_at_clear_other w64 (get_or words (i / 64) 0) (i % 64) place j l ne,
    )

-- words of zeros have no bit
abbrev zeros : List ℕ
zeros = 0 ∷ 0 ∷ 0 ∷ 0 ∷ []

zero_word : (k : ℕ) → get_or zeros k 0 ≡ zero
zero_word zero = refl
zero_word (suc zero) = refl
zero_word (suc (suc zero)) = refl
zero_word (suc (suc (suc zero))) = refl
zero_word (suc (suc (suc (suc k)))) = refl

none_at : (i : ℕ) → is_set zeros i ≡ false
none_at i = rw (zero_word (i / 64), bit_at-zero (i % 64)) refl

pub none_set : (n : ℕ) → bits (0 ∷ 0 ∷ 0 ∷ 0 ∷ []) n ≡ replicate n false
none_set n =
    same_bits zeros (replicate n false) n (length-replicate n false) (λ k l. get_or-replicate n k false false l
    ∙ sym (none_at k))

pub bit_there : (words : List ℕ) (n i : ℕ) → i < length (bits words n) →
    slice_get (bits words n) i ≡ Some (bit_and (get_or words (i / 64) 0 / 2 ^ (i % 64)) 1 == 1)
bit_there words n i h =
    let l : i < n = omega (arith, bits_length words n)
    in slice_get-get_or (bits words n) i false h
    ∙ ap (λ b. Some b) (bit_at_place words n i false l
    ∙ sym (ap (λ x. x == 1) (shr_and_one (get_or words (i / 64) 0) (i % 64))))
