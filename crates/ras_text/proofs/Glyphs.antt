-- Digits in hexadecimal, and where a number is written.
use Rattle.std.proofs.Common.{◌≡◌, ℕ, zero, suc, ◌+◌, ◌*◌, ◌/◌, ◌%◌, ◌^◌, ◌<◌, ◌≤◌, ◌⊎◌, ⊎_elim, Bool, true, false, ◌&&◌, ◌==◌, cond, List, [], ◌∷◌, ◌++◌, length, take, drop, get_or, codes, decimal, refl, sym, ap, ◌∙◌, arith, append_assoc, length-append, take-take}
use Rattle.std.proofs.lemmas.Nat.{pow_pos}
use Rattle.std.proofs.lemmas.Bool.{eq-eqb, ne_eqb, eqb-true}
use Rattle.std.proofs.lemmas.Fmt.{hex_one_digit, decimal_digit, decimal_step}
use Rattle.std.proofs.lemmas.List.{drop-take, take-append-drop}
use Rattle.std.proofs.Math.Seq.{take-append_seam}
use Rattle.std.proofs.Math.Nat.{pow-suc}
use Rattle.std.proofs.Math.Pow.{pow_mono}
use Rattle.std.specs.Fmt.{digit_glyph, digits_onto, digits}
use Rattle.ras_text.specs.Numbers.{hexadecimal}
use Rattle.ras_text.proofs.Joined.{both}
use Rattle.ras_text.specs.declared.hex.TheConstants.{PAIRS}

-- ---- one digit more

abbrev last_glyph : ℕ → ℕ
last_glyph n = digit_glyph false (n % 16)

abbrev spell : ℕ → ℕ → List ℕ → List ℕ
spell k n acc = digits_onto k 16 false n acc

by_size : (n : ℕ) → (n < 16) ⊎ (16 ≤ n)
by_size n = grind arith

spell_last : (k n : ℕ) (acc : List ℕ) → n < 16 → spell (suc k) n acc ≡ last_glyph n ∷ acc
spell_last k n acc h =
    ap (λ t. cond t (last_glyph n ∷ acc) (spell k (n / 16) (last_glyph n ∷ acc))) (eq-eqb (n / 16) 0 (omega arith))

spell_next : (k n : ℕ) (acc : List ℕ) → 16 ≤ n → spell (suc k) n acc ≡ spell k (n / 16) (last_glyph n ∷ acc)
spell_next k n acc h =
    ap (λ t. cond t (last_glyph n ∷ acc) (spell k (n / 16) (last_glyph n ∷ acc)))
    (ne_eqb (n / 16) 0 (λ e. omega (arith, e)))

spell_append : (k n : ℕ) (acc : List ℕ) → spell k n acc ≡ spell k n [] ++ acc
spell_append zero n acc = refl
spell_append (suc k) n acc = ⊎_elim
    (λ l. spell_last k n acc l ∙ ap (λ x. x ++ acc) (sym (spell_last k n [] l)))
    (λ l. spell_next k n acc l ∙ spell_append k (n / 16) (last_glyph n ∷ acc)
    ∙ sym (append_assoc (spell k (n / 16) []) (last_glyph n ∷ []) acc)
    ∙ ap (λ x. x ++ acc) (sym (spell_next k n [] l ∙ spell_append k (n / 16) (last_glyph n ∷ []))))
    (by_size n)

-- how many digits there may be doesn't matter where there are enough
spell_enough : (j k n : ℕ) (acc : List ℕ) → n < 16 ^ suc j → n < 16 ^ suc k → spell (suc j) n acc ≡ spell (suc k) n acc
spell_enough zero k n acc p q = spell_last zero n acc (omega (arith, p)) ∙ sym (spell_last k n acc (omega (arith, p)))
spell_enough (suc j) zero n acc p q =
    spell_last (suc j) n acc (omega (arith, q)) ∙ sym (spell_last zero n acc (omega (arith, q)))
spell_enough (suc j) (suc k) n acc p q = ⊎_elim
    (λ l. spell_last (suc j) n acc l ∙ sym (spell_last (suc k) n acc l))
    (λ l. spell_next (suc j) n acc l
    ∙ spell_enough j k (n / 16) (last_glyph n ∷ acc) (omega (arith, p)) (omega (arith, q))
    ∙ sym (spell_next (suc k) n acc l))
    (by_size n)

-- a number of two digits or more
digits_more : (n : ℕ) → 16 ≤ n → n < 2 ^ 64 → digits 16 false n ≡ digits 16 false (n / 16) ++ last_glyph n ∷ []
unfolding digits
digits_more n some small =
    spell_next 63 n [] some
    ∙ spell_enough 62 63 (n / 16) (last_glyph n ∷ []) (omega (arith, small)) (omega (arith, small))
    ∙ spell_append 64 (n / 16) (last_glyph n ∷ [])

-- a number of two digits
pub two_digits : (n : ℕ) → 16 ≤ n → n < 256 → digits 16 false n ≡ digit_glyph false (n / 16) ∷ last_glyph n ∷ []
two_digits n some small =
    digits_more n some (omega (arith, small))
    ∙ ap (λ (ds : List ℕ). ds ++ last_glyph n ∷ []) (hex_one_digit false (n / 16) (omega (arith, small)))

-- a number of three digits or more ends in the two digits of a byte
pub pair_more : (n : ℕ) → 256 ≤ n → n < 2 ^ 64
    → digits 16 false n
    ≡ digits 16 false (n / 256) ++ digit_glyph false (n % 256 / 16) ∷ digit_glyph false (n % 256 % 16) ∷ []
pair_more n some small =
    let high : n / 16 % 16 ≡ n % 256 / 16 = omega arith in
    let low : n % 16 ≡ n % 256 % 16 = omega arith in
    let rest : n / 16 / 16 ≡ n / 256 = omega arith in
    digits_more n (omega (arith, some)) small
    ∙ ap (λ (ds : List ℕ). ds ++ last_glyph n ∷ [])
    (digits_more (n / 16) (omega (arith, some)) (omega (arith, small)))
    ∙ append_assoc (digits 16 false (n / 16 / 16)) (last_glyph (n / 16) ∷ []) (last_glyph n ∷ [])
    ∙ ap (λ (m : ℕ). digits 16 false m ++ last_glyph (n / 16) ∷ last_glyph n ∷ []) rest
    ∙ ap (λ (d : ℕ). digits 16 false (n / 256) ++ digit_glyph false d ∷ last_glyph n ∷ []) high
    ∙ ap (λ (d : ℕ). digits 16 false (n / 256) ++ digit_glyph false (n % 256 / 16) ∷ digit_glyph false d ∷ []) low

-- ---- how many digits there are

pub length_one : (n : ℕ) → n < 16 → length (digits 16 false n) ≡ 1
length_one n small = ap length (hex_one_digit false n small)

pub length_two : (n : ℕ) → 16 ≤ n → n < 256 → length (digits 16 false n) ≡ 2
length_two n some small = ap length (two_digits n some small)

pub length_pair : (n : ℕ) → 256 ≤ n → n < 2 ^ 64
    → length (digits 16 false n) ≡ length (digits 16 false (n / 256)) + 2
length_pair n some small = ap length (pair_more n some small) ∙ length-append (digits 16 false (n / 256)) _

power_of : (m : ℕ) → 2 ^ (m + 4) ≡ 16 * 2 ^ m
power_of m =
    let one = pow-suc 2 m in
    let two = pow-suc 2 (suc m) in
    let three = pow-suc 2 (suc (suc m)) in
    let four = pow-suc 2 (suc (suc (suc m))) in
    let same : m + 4 ≡ suc (suc (suc (suc m))) = omega arith in
    ap (λ (i : ℕ). 2 ^ i) same ∙ omega (arith, one, two, three, four)

power_more : (k : ℕ) → 2 ^ (suc k * 4) ≡ 16 * 2 ^ (k * 4)
power_more k =
    let same : suc k * 4 ≡ k * 4 + 4 = omega arith in
    ap (λ (i : ℕ). 2 ^ i) same ∙ power_of (k * 4)

power_further : (k : ℕ) → 2 ^ (4 + suc k * 4) ≡ 16 * 2 ^ (4 + k * 4)
power_further k =
    let same : 4 + suc k * 4 ≡ 4 + k * 4 + 4 = omega arith in
    ap (λ (i : ℕ). 2 ^ i) same ∙ power_of (4 + k * 4)

-- a number between two neighbouring powers of 16
length_hex : (k n : ℕ) → 2 ^ (k * 4) ≤ n → n < 2 ^ (4 + k * 4) → n < 2 ^ 64 → length (digits 16 false n) ≡ suc k
length_hex zero n low high small = length_one n (omega (arith, high))
length_hex (suc k) n low high small =
    let next : 2 ^ (suc k * 4) ≡ 16 * 2 ^ (k * 4) = power_more k in
    let after : 2 ^ (4 + suc k * 4) ≡ 16 * 2 ^ (4 + k * 4) = power_further k in
    let least : 0 < 2 ^ (k * 4) = pow_pos (k * 4) in
    ap length (digits_more n (omega (arith, low, next, least)) small)
    ∙ length-append (digits 16 false (n / 16)) (last_glyph n ∷ [])
    ∙ ap (λ (l : ℕ). l + 1)
    (length_hex k (n / 16) (omega (arith, low, next)) (omega (arith, high, after)) (omega (arith, small)))
    ∙ omega arith

pub length_by_bits : (n r : ℕ) → 2 ^ r ≤ n → n < 2 * 2 ^ r → n < 2 ^ 64 → length (digits 16 false n) ≡ r / 4 + 1
length_by_bits n r low high small =
    let k : ℕ = r / 4 in
    let least : 2 ^ (k * 4) ≤ 2 ^ r = pow_mono {i = k * 4} {j = r} (omega arith) in
    let most : 2 ^ suc r ≤ 2 ^ (4 + k * 4) = pow_mono {i = suc r} {j = 4 + k * 4} (omega arith) in
    let double : 2 ^ suc r ≡ 2 ^ r * 2 = pow-suc 2 r in
    length_hex k n (omega (arith, least, low)) (omega (arith, most, double, high)) small ∙ omega arith

-- a number between two neighbouring powers of 10
pub length_decimal : (k n : ℕ) → 10 ^ k ≤ n → n < 10 * 10 ^ k → n < 2 ^ 64 → length (decimal n) ≡ k + 1
length_decimal zero n low high small = ap length (decimal_digit n (omega (arith, high)))
length_decimal (suc k) n low high small =
    ap length (decimal_step n (omega (arith, low)) small)
    ∙ length-append (decimal (n / 10)) _
    ∙ ap (λ (l : ℕ). l + 1)
    (length_decimal k (n / 10) (omega (arith, low)) (omega (arith, high)) (omega (arith, small)))
    ∙ omega arith

-- ---- the table of pairs

is_pair : ℕ → Bool
is_pair b =
    (get_or PAIRS (b * 2) 0 == digit_glyph false (b / 16))
    && (get_or PAIRS (b * 2 + 1) 0 == digit_glyph false (b % 16))

all_pairs : ℕ → Bool
all_pairs zero = true
all_pairs (suc n) = is_pair n && all_pairs n

by_place : (b n : ℕ) → b < suc n → (b ≡ n) ⊎ (b < n)
by_place b n less = grind (arith, less)

pair_below : (n b : ℕ) → all_pairs n ≡ true → b < n → is_pair b ≡ true
unfolding all_pairs
pair_below zero b all less = absurd (omega (arith, less))
pair_below (suc n) b all less = ⊎_elim
    (λ (e : b ≡ n). ap is_pair e ∙ (both (is_pair n) _ all).0)
    (λ (l : b < n). pair_below n b (both (is_pair n) _ all).1 l)
    (by_place b n less)

pub pair_at : (b : ℕ) → b < 256 → (get_or PAIRS (b * 2) 0 ≡ digit_glyph false (b / 16))
    × (get_or PAIRS (b * 2 + 1) 0 ≡ digit_glyph false (b % 16))
unfolding all_pairs is_pair
pair_at b small =
    let is = both _ _ (pair_below 256 b refl small) in (eqb-true _ _ is.0, eqb-true _ _ is.1)

-- ---- where a number is written

-- what was written behind a text stands there
pub placed : (new old ds rest : List ℕ) (start : ℕ) → take start new ≡ take start old → drop start new ≡ ds ++ rest
    → take (start + length ds) new ≡ take start old ++ ds
placed new old ds rest start front back =
    sym (take-append-drop start (take (start + length ds) new))
    ∙ ap (λ (xs : List ℕ). xs ++ drop start (take (start + length ds) new))
    (take-take start (start + length ds) new (omega arith) ∙ front)
    ∙ ap (λ (xs : List ℕ). take start old ++ xs)
    (drop-take start (length ds) new ∙ ap (take (length ds)) back ∙ take-append_seam ds rest)

-- one digit
pub one_digit : (n : ℕ) → n < 16 → codes "0x" ++ digit_glyph false n ∷ [] ≡ hexadecimal n
unfolding hexadecimal
one_digit n small = ap (λ (ds : List ℕ). codes "0x" ++ ds) (sym (hex_one_digit false n small))
