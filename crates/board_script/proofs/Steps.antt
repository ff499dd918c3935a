-- What an answer says of the steps that led to it, and what the words that were read are.
use Rattle.std.proofs.Common.{◌≡◌, ℕ, ◌%◌, ◌^◌, ◌<◌, ◌≤◌, ◌==◌, Bool, true, false, not, ◌&&◌, nat_lt, nat_le, if◌then◌else◌, List, [], ◌∷◌, drop, Option, Some, None, Result, Ok, Err, refl, sym, ap, ◌∙◌, arith}
use Rattle.std.specs.List.{list_all}
use Rattle.std.specs.Str.Parse.{digits_value}
use Rattle.std.proofs.lemmas.Bool.{ltb-true, leb-true}
use Rattle.ras_text.specs.Numbers.{is_digit_of, value_in, number}
use Rattle.sse_base.specs.Ids.{is_platform}
use Rattle.board_plan.specs.declared.plan.LineFault.{LineFault}
use Rattle.board_plan.specs.declared.plan.LineFault.TheVariants.{Number, Range, Unknown}
use Rattle.board_plan.specs.Words.{◌>>=◌, otherwise, found, any_number, number_upto, number_from_1_to, number_below, known_below, op_address, may_be_on_board, event_id, platform_id}

-- ---- One step after another ----

pub bind_then : {A B E : Type 0} (r : Result A E) (f : A → Result B E) (y : B) (P : Type 0) → (r >>= f) ≡ Ok y
    → ((x : A) → r ≡ Ok x → f x ≡ Ok y → P) → P
bind_then (Ok x) f y P e k = k x refl e
bind_then (Err fault) f y P e k = cc

pub test_then : {B : Type 0} (fault : LineFault) (holds : Bool) (f : Unit {0} → Result B LineFault) (y : B)
    (P : Type 0) → (otherwise fault holds >>= f) ≡ Ok y → (holds ≡ true → f tt ≡ Ok y → P) → P
test_then fault true f y P e k = k refl e
test_then fault false f y P e k = cc

pub found_then : {A B : Type 0} (fault : LineFault) (o : Option A) (f : A → Result B LineFault) (y : B) (P : Type 0)
    → (found fault o >>= f) ≡ Ok y → ((x : A) → o ≡ Some x → f x ≡ Ok y → P) → P
found_then fault None f y P e k = cc
found_then fault (Some x) f y P e k = k x refl e

pub if_then : {A : Type 0} (b : Bool) (r s : A) (y : A) (P : Type 0) → (if b then r else s) ≡ y
    → (b ≡ true → r ≡ y → P) → (b ≡ false → s ≡ y → P) → P
if_then true r s y P e k l = k refl e
if_then false r s y P e k l = l refl e

pub ok_is : {A E : Type 0} (x y : A) → ◌≡◌ {A = Result A E} (Ok x) (Ok y) → x ≡ y
ok_is x y e = cc

pub not_true : (b : Bool) → not b ≡ true → b ≡ false
not_true true e = cc
not_true false e = refl

pub both_true : (a b : Bool) → (a && b) ≡ true → (a ≡ true) × (b ≡ true)
both_true true b e = (refl, e)
both_true false b e = cc

-- ---- Numbers ----

picked : (v n : ℕ) (a : Bool) → (if a && nat_lt v (2 ^ 64) then Some v else None) ≡ Some n → n < 2 ^ 64
picked v n false e = cc
picked v n true e = small (nat_lt v (2 ^ 64)) refl e
  where
    small : (b : Bool) → nat_lt v (2 ^ 64) ≡ b → (if b then Some v else None) ≡ Some n → n < 2 ^ 64
    small true is e = let same : v ≡ n = cc in let below : v < 2 ^ 64 = ltb-true v (2 ^ 64) is in omega arith
    small false is e = cc

value_small : (base : ℕ) (ds : List ℕ) (n : ℕ) → value_in base ds ≡ Some n → n < 2 ^ 64
unfolding value_in
value_small base [] n e = cc
value_small base (d ∷ ds) n e = picked (digits_value base (d ∷ ds)) n (list_all (is_digit_of base) (d ∷ ds)) e

by_prefix : (word : List ℕ) (n : ℕ) (b : Bool) → (if b then value_in 16 (drop 2 word) else value_in 10 word) ≡ Some n
    → n < 2 ^ 64
by_prefix word n true e = value_small 16 (drop 2 word) n e
by_prefix word n false e = value_small 10 word n e

pub number_small : (word : List ℕ) (n : ℕ) → number word ≡ Some n → n < 2 ^ 64
unfolding number
number_small word n e = by_prefix word n _ e

found_is : {A : Type 0} (fault : LineFault) (o : Option A) (x : A) → found fault o ≡ Ok x → o ≡ Some x
found_is fault None x e = cc
found_is fault (Some y) x e = cc

pub any_is : (word : List ℕ) (n : ℕ) → any_number word ≡ Ok n → n < 2 ^ 64
unfolding any_number
any_is word n e = number_small word n (found_is Number (number word) n e)

pub upto_is : (most : ℕ) (word : List ℕ) (n : ℕ) → number_upto most word ≡ Ok n → n ≤ most
unfolding number_upto
upto_is most word n e =
    bind_then (any_number word) _ n _ e (λ m made e1. test_then Range (nat_le m most) _ n _ e1 (λ fits e2.
    let same : m ≡ n = cc in
    let low : m ≤ most = leb-true m most fits in
    omega arith))

pub from_1_is : (most : ℕ) (word : List ℕ) (n : ℕ) → number_from_1_to most word ≡ Ok n → (1 ≤ n) × (n ≤ most)
unfolding number_from_1_to
from_1_is most word n e =
    bind_then (number_upto most word) _ n _ e (λ m made e1. test_then Range (nat_lt 0 m) _ n _ e1 (λ some e2.
    let same : m ≡ n = cc in
    let low : 0 < m = ltb-true 0 m some in
    let high : m ≤ most = upto_is most word m made in
    (omega arith, omega arith)))

pub below_is : (limit : ℕ) (word : List ℕ) (n : ℕ) → number_below limit word ≡ Ok n → n < limit
unfolding number_below
below_is limit word n e =
    bind_then (any_number word) _ n _ e (λ m made e1. test_then Range (nat_lt m limit) _ n _ e1 (λ fits e2.
    let same : m ≡ n = cc in
    let low : m < limit = ltb-true m limit fits in
    omega arith))

pub known_is : (count : ℕ) (word : List ℕ) (n : ℕ) → known_below count word ≡ Ok n → n < count
unfolding known_below
known_is count word n e =
    bind_then (any_number word) _ n _ e (λ m made e1. test_then Unknown (nat_lt m count) _ n _ e1 (λ fits e2.
    let same : m ≡ n = cc in
    let low : m < count = ltb-true m count fits in
    omega arith))

pub address_is : (word : List ℕ) (n : ℕ) → op_address word ≡ Ok n → (n ≤ 0xffff0000) × ((n % 2 == 0) ≡ true)
unfolding op_address
address_is word n e =
    bind_then (number_upto 0xffff0000 word) _ n _ e (λ m made e1. test_then Range (m % 2 == 0) _ n _ e1 (λ even e2.
    let same : m ≡ n = cc in
    let low : m ≤ 0xffff0000 = upto_is 0xffff0000 word m made in
    (omega arith, ap (λ a. a % 2 == 0) (sym same) ∙ even)))

pub event_id_is : (word : List ℕ) (n : ℕ) → event_id word ≡ Ok n → (n ≤ 0xffffffff) × (may_be_on_board n ≡ true)
unfolding event_id
event_id_is word n e =
    bind_then (number_upto 0xffffffff word) _ n _ e (λ m made e1.
    test_then Range (may_be_on_board m) _ n _ e1 (λ may e2.
    let same : m ≡ n = cc in
    let low : m ≤ 0xffffffff = upto_is 0xffffffff word m made in
    (omega arith, ap may_be_on_board (sym same) ∙ may)))

pub platform_id_is : (word : List ℕ) (n : ℕ) → platform_id word ≡ Ok n → (n ≤ 0xffffffff) × (is_platform n ≡ true)
unfolding platform_id
platform_id_is word n e =
    bind_then (number_upto 0xffffffff word) _ n _ e (λ m made e1. test_then Range (is_platform m) _ n _ e1 (λ is e2.
    let same : m ≡ n = cc in
    let low : m ≤ 0xffffffff = upto_is 0xffffffff word m made in
    (omega arith, ap is_platform (sym same) ∙ is)))
