-- A number that is read digit by digit.
use Rattle.std.proofs.Common.{◌≡◌, ℕ, suc, ◌+◌, ◌*◌, ◌^◌, ◌<◌, ◌≤◌, Bool, true, false, ◌&&◌, List, [], ◌∷◌, length, Option, Some, None, refl, sym, ap, ◌∙◌, arith, add-one, ltb, if◌then◌else◌, nat_eq, lit<, lit≤, drop, get_or}
use Rattle.std.proofs.Math.Seq.{drop-cons}
use Rattle.std.proofs.Math.ListN.{drop_of_length-le}
use Rattle.std.proofs.lemmas.Bool.{lt-ltb, ltb-true, ltb-false, le-ltb}
use Rattle.std.proofs.Math.Nat.{mul-le-mul_left, pow-suc, pow-le-pow_right}
use Rattle.std.specs.Char.{digit_value}
use Rattle.std.specs.List.{list_all}
use Rattle.std.specs.Str.Parse.{digits_value_after}
use Rattle.ras_text.specs.Numbers.{is_digit_of, value_in, number}

-- the number after further digits, where each stays below 2 ^ 64
abbrev pub onto : ℕ → ℕ → List ℕ → Option ℕ
onto base n [] = Some n
onto base n (d ∷ ds) = if is_digit_of base d && ltb (n * base + digit_value d) (2 ^ 64)
    then onto base (n * base + digit_value d) ds else None

-- a number where a test holds
abbrev picked : ℕ → Bool → Option ℕ
picked n b = if b then Some n else None

and_false : (a : Bool) → (a && false) ≡ false
and_false true = refl
and_false false = refl

module _ (base : ℕ) where
  -- further digits make a number no smaller
  grows : 1 ≤ base → (n : ℕ) (ds : List ℕ) → n ≤ digits_value_after base n ds
  grows low n [] = omega arith
  grows low n (d ∷ ds) = omega (arith, grows low (n * base + digit_value d) ds, mul-le-mul_left n low)

  -- the answer at once
  abbrev whole : ℕ → List ℕ → Option ℕ
  whole n ds = picked (digits_value_after base n ds) (list_all (is_digit_of base) ds
      && ltb (digits_value_after base n ds) (2 ^ 64))

  -- one more digit, by whether it is one and whether the number stays small
  one_digit : 1 ≤ base → (n d : ℕ) (ds : List ℕ) (a b : Bool) → ltb (n * base + digit_value d) (2 ^ 64) ≡ b
      → (n * base + digit_value d < 2 ^ 64 → onto base (n * base + digit_value d) ds
      ≡ whole (n * base + digit_value d) ds)
      → (if a && b then onto base (n * base + digit_value d) ds else None)
      ≡ picked (digits_value_after base (n * base + digit_value d) ds) ((a && list_all (is_digit_of base) ds)
      && ltb (digits_value_after base (n * base + digit_value d) ds) (2 ^ 64))
  one_digit low n d ds false b is more = refl
  one_digit low n d ds true true is more = more (ltb-true _ _ is)
  one_digit low n d ds true false is more =
      let m = n * base + digit_value d in
      let big : 2 ^ 64 ≤ digits_value_after base m ds = omega (arith, ltb-false m (2 ^ 64) is, grows low m ds) in
      sym (ap (λ b. picked (digits_value_after base m ds) (list_all (is_digit_of base) ds && b)) (le-ltb _ _ big)
      ∙ ap (picked (digits_value_after base m ds)) (and_false (list_all (is_digit_of base) ds)))

  onto_whole : 1 ≤ base → (n : ℕ) (ds : List ℕ) → n < 2 ^ 64 → onto base n ds ≡ whole n ds
  onto_whole low n [] small = sym (ap (picked n) (lt-ltb n (2 ^ 64) small))
  onto_whole low n (d ∷ ds) small =
      one_digit low n d ds (is_digit_of base d) _ refl (onto_whole low (n * base + digit_value d) ds)

  pub value_is : 1 ≤ base → (ds : List ℕ) → 0 < length ds → value_in base ds ≡ onto base 0 ds
  unfolding value_in
  value_is low [] some = absurd (omega arith)
  value_is low (d ∷ ds) some = sym (onto_whole low 0 (d ∷ ds) (lit< tt))

  pub value_none : (ds : List ℕ) → length ds ≡ 0 → value_in base ds ≡ None
  unfolding value_in
  value_none [] none = refl
  value_none (d ∷ ds) none = absurd (omega arith)

  -- ---- where the reading stops

  at_place : (n i : ℕ) (ds : List ℕ) → i < length ds → onto base n (drop i ds) ≡ onto base n (get_or ds i 0
      ∷ drop (suc i) ds)
  at_place n i ds here = ap (onto base n) (drop-cons ds i 0 here)

  pub not_digit : (n i : ℕ) (ds : List ℕ) → i < length ds → base ≤ digit_value (get_or ds i 0)
      → onto base n (drop i ds) ≡ None
  not_digit n i ds here far =
      let d = get_or ds i 0 in
      let m = n * base + digit_value d in
      at_place n i ds here ∙ ap (λ a. if a && ltb m (2 ^ 64) then onto base m (drop (suc i) ds)
      else None) (le-ltb _ _ far)

  too_big : (v : ℕ) (b : Bool) → None ≡ (if b then Some v else None) → b ≡ false
  too_big v true e = cc
  too_big v false e = refl

  pub over : (n i v : ℕ) (ds : List ℕ) → i < length ds → v ≡ digit_value (get_or ds i 0) → v < base
      → None ≡ (if ltb (n * base + v) (2 ^ 64) then Some (n * base + v) else None) → onto base n (drop i ds) ≡ None
  over n i v ds here is digit none =
      let d = get_or ds i 0 in
      let m = n * base + digit_value d in
      let big : ltb m (2 ^ 64) ≡ false = ap (λ x. ltb (n * base + x) (2 ^ 64)) (sym is) ∙ too_big _ _ none in
      at_place n i ds here
      ∙ ap (λ a. if a && ltb m (2 ^ 64) then onto base m (drop (suc i) ds)
      else None) (lt-ltb (digit_value d) base (omega arith))
      ∙ ap (λ b. if b then onto base m (drop (suc i) ds) else None) big

  pub ended : (n i : ℕ) (ds : List ℕ) → length ds ≤ i → onto base n (drop i ds) ≡ Some n
  ended n i ds end = ap (onto base n) (drop_of_length-le ds end)

  pub onto_digit : (n i v : ℕ) (ds : List ℕ) → i < length ds → v ≡ digit_value (get_or ds i 0) → v < base
      → n * base + v < 2 ^ 64 → onto base n (drop i ds) ≡ onto base (n * base + v) (drop (i + 1) ds)
  onto_digit n i v ds here is digit small =
      let d = get_or ds i 0 in
      let m = n * base + digit_value d in
      let same : m ≡ n * base + v = ap (λ x. n * base + x) (sym is) in
      at_place n i ds here
      ∙ ap (λ a. if a && ltb m (2 ^ 64) then onto base m (drop (suc i) ds)
      else None) (lt-ltb (digit_value d) base (omega arith))
      ∙ ap (λ b. if b then onto base m (drop (suc i) ds) else None) (lt-ltb m (2 ^ 64) (omega arith))
      ∙ ap (λ x. onto base x (drop (suc i) ds)) same
      ∙ ap (λ j. onto base (n * base + v) (drop j ds)) (sym (add-one i))

-- ---- numbers of one digit, and of a few

pub one_digit_is : (d v : ℕ) → v ≡ digit_value d → v < 10 → value_in 10 (d ∷ []) ≡ Some v
one_digit_is d v is digit =
    let same : 0 * 10 + v ≡ v = omega arith in
    value_is 10 (lit≤ tt) (d ∷ []) (omega arith)
    ∙ onto_digit 10 0 0 v (d ∷ []) (omega arith) is digit (omega arith)
    ∙ ap (λ (n : ℕ). Some n) same

pub no_digit_is : (d : ℕ) → 10 ≤ digit_value d → value_in 10 (d ∷ []) ≡ None
no_digit_is d far = value_is 10 (lit≤ tt) (d ∷ []) (omega arith) ∙ not_digit 10 0 0 (d ∷ []) (omega arith) far

-- no prefix stands before one byte
pub short_number : (d : ℕ) → number (d ∷ []) ≡ value_in 10 (d ∷ [])
unfolding number
short_number d =
    ap (λ b. if b then value_in 16 (drop 2 (d ∷ [])) else value_in 10 (d ∷ [])) (and_false (nat_eq 48 d))

pub one_digit_more : (n d i : ℕ) → n < 10 ^ i → d < 10 → n * 10 + d < 10 ^ (i + 1)
one_digit_more n d i small digit =
    let more : 10 ^ (i + 1) ≡ 10 ^ i * 10 = rw add-one (pow-suc 10 i) in omega arith

pub nineteen_digits : (n d i : ℕ) → n < 10 ^ i → i < 19 → d < 10 → n * 10 + d < 2 ^ 64
nineteen_digits n d i small few digit =
    let within : i ≤ 18 = omega arith in
    let top : 10 ^ i ≤ 10 ^ 18 = pow-le-pow_right (lit< tt) within in omega arith
