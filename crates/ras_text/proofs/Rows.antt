-- Worked rows of the spelling of numbers, and of words and lines.
use Rattle.std.proofs.Common.{◌≡◌, [], ◌∷◌, ◌++◌, Some, None, codes, refl}
use Rattle.ras_text.specs.Numbers.{number, value_in}
use Rattle.ras_text.specs.Pieces.{words, lines}

decimal_row : number (codes "0042") ≡ Some 42
unfolding number value_in
decimal_row = refl

greatest_row : number (codes "18446744073709551615") ≡ Some 18446744073709551615
unfolding number value_in
greatest_row = refl

too_great_row : number (codes "18446744073709551616") ≡ None
unfolding number value_in
too_great_row = refl

hexadecimal_row : number (codes "0x00fF") ≡ Some 255
unfolding number value_in
hexadecimal_row = refl

no_digits_row : number (codes "0x") ≡ None
unfolding number value_in
no_digits_row = refl

upper_case_row : number (codes "0X1") ≡ None
unfolding number value_in
upper_case_row = refl

empty_row : number [] ≡ None
unfolding number value_in
empty_row = refl

words_row : words (9 ∷ codes "op  nop ") ≡ codes "op" ∷ codes "nop" ∷ []
unfolding words
words_row = refl

no_words_row : words (32 ∷ 9 ∷ []) ≡ []
unfolding words
no_words_row = refl

lines_row : lines (codes "a" ++ 13 ∷ 10 ∷ 10 ∷ codes "b") ≡ codes "a" ∷ [] ∷ codes "b" ∷ []
lines_row = refl

last_newline_row : lines (codes "a" ++ 10 ∷ []) ≡ codes "a" ∷ []
last_newline_row = refl
