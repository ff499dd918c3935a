-- Texts of lines, one after another.
use Rattle.std.proofs.Common.{◌≡◌, List, [], ◌∷◌, ◌++◌, ◌+◌, ◌*◌, ◌/◌, ◌^◌, ℕ, suc, codes, decimal, arith, refl, sym, ap, ◌∙◌}
use mathlib.Core.List.{append_assoc, append-nil}
use Rattle.board_load.specs.Load.{line_text, lines_text, lines_below, error_line, act_line, line_below, next_state, state_after, drawn, register_line, board_lines, bank_lines, hart_lines, list_lines, reporter_lines, load_lines}

-- the text of two parts
pub lines_append : (a b : List (List (List ℕ))) → lines_text (a ++ b) ≡ lines_text a ++ lines_text b
unfolding lines_text
lines_append [] b = refl
lines_append (line ∷ a) b =
    ap (λ t. line_text line ++ t) (lines_append a b) ∙ sym (append_assoc (line_text line) (lines_text a) (lines_text b))

-- the text of no lines
pub no_lines : lines_text [] ≡ []
unfolding lines_text
no_lines = refl

-- the text of a line and its further lines
pub first_line : (line : List (List ℕ)) (lines : List (List (List ℕ))) →
    lines_text (line ∷ lines) ≡ line_text line ++ lines_text lines
unfolding lines_text
first_line line lines = refl

-- a text and its further lines
pub ruleset joining = (append_assoc, append-nil, lines_append, first_line, no_lines)

-- a line and its parts
pub ruleset parts = (append_assoc, append-nil)

-- one number more
pub one_more_below : (f : ℕ → List (List (List ℕ))) (k : ℕ) →
    lines_text (lines_below f (k + 1)) ≡ lines_text (lines_below f k) ++ lines_text (f k)
unfolding lines_below
one_more_below f k =
    let e : k + 1 ≡ suc k = omega arith in
    ap (λ m. lines_text (lines_below f m)) e ∙ lines_append (lines_below f k) (f k)

-- one line more
pub one_line_more : (f : ℕ → List (List ℕ)) (k : ℕ) →
    lines_text (line_below f (k + 1)) ≡ lines_text (line_below f k) ++ line_text (f k)
unfolding line_below lines_text
one_line_more f k =
    let e : k + 1 ≡ suc k = omega arith in
    ap (λ m. lines_text (line_below f m)) e
    ∙ lines_append (line_below f k) (f k ∷ [])
    ∙ ap (λ t. lines_text (line_below f k) ++ t) (append-nil (line_text (f k)))

-- an act, from the generator's state
pub act_drawn : (n reporter i x : ℕ) → x ≡ state_after n (500 * reporter + i) →
    error_line reporter i (next_state x / 2 ^ 32) ≡ act_line n reporter i
unfolding act_line drawn state_after
act_drawn n reporter i x e = ap (λ y. error_line reporter i (next_state y / 2 ^ 32)) e

-- the generator's state after one more act
pub state_next : (n reporter i x : ℕ) → x ≡ state_after n (500 * reporter + i) →
    next_state x ≡ state_after n (500 * reporter + (i + 1))
unfolding state_after
state_next n reporter i x e =
    let next : 500 * reporter + (i + 1) ≡ suc (500 * reporter + i) = omega arith in
    ap (λ y. next_state y) e ∙ sym (ap (λ k. state_after n k) next)

-- a text before the first number
pub text_none : (f : ℕ → List (List (List ℕ))) (text : List ℕ) → text ≡ text ++ lines_text (lines_below f 0)
unfolding lines_below lines_text
text_none f text = sym (append-nil text)

-- a text before the first line
pub text_no_line : (f : ℕ → List (List ℕ)) (text : List ℕ) → text ≡ text ++ lines_text (line_below f 0)
unfolding line_below lines_text
text_no_line f text = sym (append-nil text)

-- a text after one number more
pub text_more : (f : ℕ → List (List (List ℕ))) (k : ℕ) (before text new : List ℕ) →
    text ≡ before ++ lines_text (lines_below f k) → new ≡ text ++ lines_text (f k) →
    new ≡ before ++ lines_text (lines_below f (k + 1))
text_more f k before text new e more =
    more
    ∙ ap (λ t. t ++ lines_text (f k)) e
    ∙ append_assoc before (lines_text (lines_below f k)) (lines_text (f k))
    ∙ ap (λ t. before ++ t) (sym (one_more_below f k))

-- a text after one line more
pub text_one_line : (f : ℕ → List (List ℕ)) (k : ℕ) (before text new : List ℕ) →
    text ≡ before ++ lines_text (line_below f k) → new ≡ text ++ line_text (f k) →
    new ≡ before ++ lines_text (line_below f (k + 1))
text_one_line f k before text new e more =
    more
    ∙ ap (λ t. t ++ line_text (f k)) e
    ∙ append_assoc before (lines_text (line_below f k)) (line_text (f k))
    ∙ ap (λ t. before ++ t) (sym (one_line_more f k))

-- the line that registers an event, piece by piece
pub register_text : (id : List ℕ) (entry : ℕ) →
    codes "op sbi 0x535345 2 " ++ (id ++ (codes " " ++ (decimal entry ++ codes " 0\n")))
    ≡ line_text (register_line id entry)
unfolding line_text
register_text id entry = simp append_assoc refl

-- the text of the whole script, by its parts
pub load_parts : (n : ℕ) →
    lines_text (load_lines n)
    ≡ lines_text board_lines
    ++ (lines_text (lines_below (bank_lines n) 3)
    ++ (lines_text (lines_below hart_lines 4)
    ++ (lines_text list_lines ++ lines_text (lines_below (reporter_lines n) 4))))
unfolding load_lines
load_parts n =
    lines_append board_lines _
    ∙ ap (λ t. lines_text board_lines ++ t)
    (lines_append (lines_below (bank_lines n) 3) _
    ∙ ap (λ t. lines_text (lines_below (bank_lines n) 3) ++ t)
    (lines_append (lines_below hart_lines 4) _
    ∙ ap (λ t. lines_text (lines_below hart_lines 4) ++ t) (lines_append list_lines _)))

-- a text and the parts of the whole script
pub ruleset whole = (append_assoc, load_parts)
