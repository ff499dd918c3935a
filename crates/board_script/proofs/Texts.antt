-- Lines of whole words are read line by line, as they were written.
use Rattle.std.proofs.Common.{◌≡◌, ℕ, ◌+◌, ◌^◌, ◌<◌, ◌==◌, Bool, true, false, ◌&&◌, if◌then◌else◌, List, [], ◌∷◌, ◌++◌, length, Result, Ok, Err, refl, ap, ◌∙◌, arith, append_assoc, decimal}
use Rattle.std.proofs.lemmas.Bool.{and_from, not_from_false, or_from, ne_eqb}
use Rattle.std.proofs.lemmas.Fmt.{decimal_is_IsNumeral}
use Rattle.std.proofs.lemmas.List.Folds.{list_all-append}
use Rattle.std.specs.Char.{digit_value}
use Rattle.std.specs.List.{list_all, join_with_byte}
use Rattle.std.specs.Str.Parse.{AllDigits}
use Rattle.ras_text.specs.Pieces.{is_blank, is_word, words, lines}
use Rattle.ras_text.proofs.Joined.{is_word_byte, is_whole_word, is_line_byte, words_joined, lines_more}
use Rattle.board_plan.specs.declared.plan.LineFault.{LineFault}
use Rattle.board_plan.specs.Words.{◌>>=◌}
use Rattle.board_plan.specs.Script.{Half, statement, Refusal, at_line, is_passed, after_line, follow}
use Rattle.board_plan.specs.Canonical.{line_text, lines_text}
use Rattle.board_script.proofs.Chains.{Each, Each-append}
use Rattle.board_script.proofs.Steps.{bind_then, both_true, ok_is}

-- ---- Words and lines ----

abbrev pub is_plain_byte : ℕ → Bool
is_plain_byte b = is_word_byte b && is_line_byte b

-- a word of which no byte ends a word or a line
abbrev pub is_plain : List ℕ → Bool
is_plain w = is_word w && list_all is_plain_byte w

abbrev pub IsPlain : List ℕ → Type 0
IsPlain w = is_plain w ≡ true

abbrev pub ArePlain : List (List ℕ) → Type 0
ArePlain ws = Each IsPlain ws

-- the words of a line that is a statement
abbrev pub IsLine : List (List ℕ) → Type 0
IsLine ws = ArePlain ws × (is_passed ws ≡ false)

word_bytes : (w : List ℕ) → list_all is_plain_byte w ≡ true → list_all is_word_byte w ≡ true
word_bytes [] e = refl
word_bytes (b ∷ w) e =
    let p = both_true (is_plain_byte b) _ e in
    and_from _ _ (both_true (is_word_byte b) _ p.0).0 (word_bytes w p.1)

line_bytes : (w : List ℕ) → list_all is_plain_byte w ≡ true → list_all is_line_byte w ≡ true
line_bytes [] e = refl
line_bytes (b ∷ w) e =
    let p = both_true (is_plain_byte b) _ e in
    and_from _ _ (both_true (is_word_byte b) _ p.0).1 (line_bytes w p.1)

whole_words : (ws : List (List ℕ)) → ArePlain ws → list_all is_whole_word ws ≡ true
whole_words [] p = refl
whole_words (w ∷ ws) p =
    let q = both_true (is_word w) _ p.0 in
    and_from _ _ (and_from _ _ q.0 (word_bytes w q.1)) (whole_words ws p.1)

line_of_bytes : (ws : List (List ℕ)) → ArePlain ws → list_all is_line_byte (join_with_byte 32 ws) ≡ true
line_of_bytes [] p = refl
line_of_bytes (w ∷ []) p = line_bytes w (both_true (is_word w) _ p.0).1
line_of_bytes (w ∷ v ∷ ws) p =
    list_all-append is_line_byte w (32 ∷ join_with_byte 32 (v ∷ ws))
    ∙ and_from _ _ (line_bytes w (both_true (is_word w) _ p.0).1) (line_of_bytes (v ∷ ws) p.1)

-- a line is read as its words, and the others behind it
pub line_again : (ws : List (List ℕ)) (rest : List ℕ) → ArePlain ws
    → lines (line_text ws ++ rest) ≡ join_with_byte 32 ws ∷ lines rest
unfolding line_text
line_again ws rest p =
    ap lines (append_assoc (join_with_byte 32 ws) (10 ∷ []) rest)
    ∙ lines_more (join_with_byte 32 ws) rest (line_of_bytes ws p)

pub words_again : (ws : List (List ℕ)) → ArePlain ws → words (join_with_byte 32 ws) ≡ ws
words_again ws p = words_joined ws (whole_words ws p)

-- ---- Numbers ----

other_byte : (d n : ℕ) → digit_value d < 10 → 10 < digit_value n → (d == n) ≡ false
other_byte d n low high = ne_eqb d n (λ e. let same = ap digit_value e in omega arith)

plain_digit : (d : ℕ) → digit_value d < 10 → is_plain_byte d ≡ true
plain_digit d low =
    and_from _ _
    (not_from_false (is_blank d) (or_from _ _ (other_byte d 32 low (omega arith)) (other_byte d 9 low (omega arith))))
    (and_from _ _ (not_from_false _ (other_byte d 10 low (omega arith)))
    (not_from_false _ (other_byte d 13 low (omega arith))))

plain_digits : (ds : List ℕ) → AllDigits 10 ds → list_all is_plain_byte ds ≡ true
plain_digits [] h = refl
plain_digits (d ∷ ds) h = and_from _ _ (plain_digit d h.0) (plain_digits ds h.1)

pub plain_behind : (ds : List ℕ) → 0 < length ds → list_all is_plain_byte ds ≡ true → IsPlain ds
plain_behind [] some e = absurd (omega arith)
plain_behind (d ∷ ds) some e = e

pub plain_bytes : (n : ℕ) → n < 2 ^ 64 → list_all is_plain_byte (decimal n) ≡ true
plain_bytes n small = plain_digits (decimal n) (decimal_is_IsNumeral n small).0.1

pub plain_decimal : (n : ℕ) → n < 2 ^ 64 → IsPlain (decimal n)
plain_decimal n small = plain_behind (decimal n) (decimal_is_IsNumeral n small).0.0 (plain_bytes n small)

-- ---- Statements ----

-- what statements make, one after another
abbrev pub run : Half → List (List (List ℕ)) → Result Half LineFault
run h [] = Ok h
run h (ws ∷ wss) = statement h ws >>= λ k. run k wss

-- these lines are statements, and make k of h
pub record Makes (h : Half) (wss : List (List (List ℕ))) (k : Half) : Type 0 where
  pub plain : Each IsLine wss
  pub runs : run h wss ≡ Ok k

pub makes_none : (h k : Half) → h ≡ k → Makes h [] k
makes_none h k e = record { plain = tt; runs = ap (λ (x : Half). Ok x) e }

one_run : (r : Result Half LineFault) (k : Half) → r ≡ Ok k → (r >>= λ x. Ok x) ≡ Ok k
one_run (Ok h) k e = e
one_run (Err fault) k e = e

pub makes_one : (h : Half) (ws : List (List ℕ)) (k : Half) → IsLine ws → statement h ws ≡ Ok k → Makes h (ws ∷ []) k
makes_one h ws k p e = record { plain = (p, tt); runs = one_run (statement h ws) k e }

run_append : (h : Half) (wss vss : List (List (List ℕ))) (k : Half) → run h wss ≡ Ok k
    → run h (wss ++ vss) ≡ run k vss
run_append h [] vss k e = ap (λ x. run_from x vss) e
  where
    run_from : Result Half LineFault → List (List (List ℕ)) → Result Half LineFault
    run_from r vss = r >>= λ x. run x vss
run_append h (ws ∷ wss) vss k e =
    bind_then (statement h ws) _ k _ e (λ x made e1.
    ap (λ r. r >>= λ y. run y (wss ++ vss)) made ∙ run_append x wss vss k e1)

pub makes_both : (h k m : Half) (wss vss : List (List (List ℕ))) → Makes h wss k → Makes k vss m
    → Makes h (wss ++ vss) m
makes_both h k m wss vss p q =
    record {
      plain = Each-append IsLine wss vss p.plain q.plain;
      runs = run_append h wss vss k p.runs ∙ q.runs;
    }

pub makes_same : (h k m : Half) (wss : List (List (List ℕ))) → k ≡ m → Makes h wss k → Makes h wss m
makes_same h k m wss e p = record { plain = p.plain; runs = p.runs ∙ ap (λ (x : Half). Ok x) e }

after_again : (n : ℕ) (h k : Half) (ws : List (List ℕ)) → is_passed ws ≡ false → statement h ws ≡ Ok k
    → after_line n h ws ≡ Ok k
unfolding after_line
after_again n h k ws counts made =
    ap (λ b. if b then Ok h else at_line n (statement h ws)) counts ∙ ap (at_line n) made

-- the text of such lines gives the plan that they make
pub follow_makes : (n : ℕ) (h : Half) (wss : List (List (List ℕ))) (k : Half) → Makes h wss k
    → follow n h (lines (lines_text wss)) ≡ Ok k.plan
unfolding follow lines_text
follow_makes n h [] k m = let same : h ≡ k = ok_is h k m.runs in ap (λ (x : Half). Ok x.plan) same
follow_makes n h (ws ∷ wss) k m =
    let plain = m.plain.0.0 in
    let rest = lines (lines_text wss) in
    bind_then (statement h ws) _ k _ m.runs (λ x made e1.
    ap (follow n h) (line_again ws (lines_text wss) plain)
    ∙ ap (λ l. after_line n h l >>= λ y. follow (n + 1) y rest) (words_again ws plain)
    ∙ ap (λ (r : Result Half Refusal). r >>= λ y. follow (n + 1) y rest) (after_again n h x ws m.plain.0.1 made)
    ∙ follow_makes (n + 1) x wss k (record { plain = m.plain.1; runs = e1 }))
