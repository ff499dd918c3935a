-- What was written is read again.
use Rattle.std.proofs.Common.{◌≡◌, ℕ, ◌^◌, ◌<◌, Bool, true, false, ◌&&◌, List, [], ◌∷◌, drop, Some, None, decimal, codes, refl, ap, ◌∙◌, arith, nat_eq, if◌then◌else◌, nat_lt}
use Rattle.std.proofs.lemmas.Bool.{lt-ltb, ne_eqb}
use Rattle.std.proofs.lemmas.Fmt.{decimal_is_IsNumeral, digits_is_IsNumeral}
use Rattle.std.specs.Char.{digit_value}
use Rattle.std.specs.Fmt.{digits}
use Rattle.std.specs.List.{list_all, starts_with}
use Rattle.std.specs.Str.Parse.{AllDigits, IsNumeral, digits_value}
use Rattle.ras_text.specs.Numbers.{is_digit_of, value_in, number, hexadecimal}

-- every byte is a digit, as a test
all_digits : (base : ℕ) (ds : List ℕ) → AllDigits base ds → list_all (is_digit_of base) ds ≡ true
all_digits base [] h = refl
all_digits base (d ∷ ds) h = ap (λ b. b && list_all (is_digit_of base) ds) (lt-ltb (digit_value d) base h.0)
    ∙ all_digits base ds h.1

-- a numeral that is small enough has its number
pub value_of_numeral : (base : ℕ) (ds : List ℕ) → IsNumeral base ds → digits_value base ds < 2 ^ 64
    → value_in base ds ≡ Some (digits_value base ds)
unfolding value_in
value_of_numeral base [] h small = absurd (omega arith)
value_of_numeral base (d ∷ ds) h small =
    let v = digits_value base (d ∷ ds) in
    ap (λ b. if b && nat_lt v (2 ^ 64) then Some v else None) (all_digits base (d ∷ ds) h.1)
    ∙ ap (λ b. if b then Some v else None) (lt-ltb v (2 ^ 64) small)

and_false : (a : Bool) → (a && false) ≡ false
and_false true = refl
and_false false = refl

-- a decimal numeral has no x at its second place
no_prefix : (ds : List ℕ) → AllDigits 10 ds → starts_with nat_eq ds (codes "0x") ≡ false
no_prefix [] h = refl
no_prefix (d ∷ []) h = and_false (nat_eq 48 d)
no_prefix (d ∷ e ∷ ds) h =
    let no : 120 ≡ e → ⊥ = λ q. let v = ap digit_value q in omega (arith, v, h.1.0) in
    ap (λ b. nat_eq 48 d && (b && true)) (ne_eqb 120 e no) ∙ and_false (nat_eq 48 d)

-- a number in decimal is read again
pub number_decimal : (n : ℕ) → n < 2 ^ 64 → number (decimal n) ≡ Some n
unfolding number
number_decimal n small =
    let is = decimal_is_IsNumeral n small in
    ap (λ b. if b then value_in 16 (drop 2 (decimal n)) else value_in 10 (decimal n)) (no_prefix (decimal n) is.0.1)
    ∙ value_of_numeral 10 (decimal n) is.0 (omega (arith, is.1)) ∙ ap Some is.1

-- a number in hexadecimal is read again
pub number_hexadecimal : (n : ℕ) → n < 2 ^ 64 → number (hexadecimal n) ≡ Some n
unfolding number hexadecimal
number_hexadecimal n small =
    let is : IsNumeral 16 (digits 16 false n) × (digits_value 16 (digits 16 false n) ≡ n) =
    digits_is_IsNumeral 16 false (omega arith) (omega arith) n (omega arith) in
    value_of_numeral 16 (digits 16 false n) is.0 (omega (arith, is.1)) ∙ ap Some is.1
