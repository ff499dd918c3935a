-- How numbers are spelled in the project's texts. The rules are this project's own.
use Rattle.std.specs.Prelude.{ℕ, ◌^◌, Bool, false, nat_eq, nat_lt, ◌&&◌, List, [], ◌∷◌, ◌++◌, drop, codes, Option, Some, None, if◌then◌else◌}
use Rattle.std.specs.Char.{is_digit}
use Rattle.std.specs.Fmt.{digits}
use Rattle.std.specs.List.{list_all, starts_with}
use Rattle.std.specs.Str.Parse.{digits_value}

-- a digit of the base
abbrev pub is_digit_of : ℕ → ℕ → Bool
is_digit_of base c = is_digit c base

-- the number of some digits: there is one digit or more, nothing else, and the sum of the digits
-- times powers of the base is below 2 ^ 64
unfoldable pub value_in : ℕ → List ℕ → Option ℕ
value_in base [] = None
value_in base (d ∷ ds) =
    if list_all (is_digit_of base) (d ∷ ds) && nat_lt (digits_value base (d ∷ ds)) (2 ^ 64)
    then Some (digits_value base (d ∷ ds))
    else None

-- the number of a word: decimal digits, or 0x and hexadecimal digits of either case
unfoldable pub number : List ℕ → Option ℕ
number word = if starts_with nat_eq word (codes "0x") then value_in 16 (drop 2 word) else value_in 10 word

-- a number in hexadecimal: lower-case digits with no leading zero, and 0 is 0x0
unfoldable pub hexadecimal : ℕ → List ℕ
hexadecimal n = codes "0x" ++ digits 16 false n
