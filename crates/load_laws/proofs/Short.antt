-- The script of each load is short.
use Rattle.std.proofs.Common.{◌≡◌, ℕ, zero, suc, ◌+◌, ◌*◌, ◌/◌, ◌%◌, ◌<◌, ◌≤◌, ◌==◌, nat_lt, nat_le, if◌then◌else◌, Bool, true, false, List, [], ◌∷◌, ◌++◌, length, codes, decimal, refl, ap, ◌∙◌, arith, length-append}
use Rattle.std.specs.List.{join_with_byte}
use Rattle.std.specs.Fmt.{digits}
use Rattle.std.proofs.lemmas.Fmt.{length-decimal-le}
use Rattle.std.proofs.lemmas.Bool.{leb-true}
use Rattle.board_load.specs.Load.{severity_word, error_line, act_line, drawn, reporter_lines, lines_below, line_below, line_text, lines_text, load_text, bank_lines, register_lines, global_lines, event_lines, loop_lines, bank_handler_lines, raise_handler_lines, hart_lines}
use Rattle.board_load.proofs.Lines.{lines_append}
use Rattle.load_laws.proofs.Opening.{opening, opening_same}
use Rattle.load_laws.proofs.Whole.{first, lines_are}

-- ---- A line ----

-- the bytes of some words, and one byte behind each
abbrev width : List (List ℕ) → ℕ
width [] = 0
width (w ∷ ws) = length w + 1 + width ws

join_short : (w : List ℕ) (ws : List (List ℕ)) → length (join_with_byte 32 (w ∷ ws)) + 1 ≡ width (w ∷ ws)
join_short w [] = omega arith
join_short w (v ∷ vs) =
    omega (
      arith,
      length-append w (32 ∷ join_with_byte 32 (v ∷ vs)),
      join_short v vs,
    )

line_short : (w : List ℕ) (ws : List (List ℕ)) → length (line_text (w ∷ ws)) ≡ width (w ∷ ws)
unfolding line_text
line_short w ws =
    omega (
      arith,
      length-append (join_with_byte 32 (w ∷ ws)) (10 ∷ []),
      join_short w ws,
    )

-- ---- Acts ----

by_tests : (x y : Bool) → length (if x then codes "ce" else (if y then codes "ued" else codes "uec")) ≤ 3
by_tests true y = omega arith
by_tests false true = omega arith
by_tests false false = omega arith

error_short : (k i r : ℕ) → k < 4 → i < 500 → length (line_text (error_line k i r)) ≤ 100
error_short k i r low few =
    let width_is = line_short (codes "act") (decimal k ∷ codes "error" ∷ decimal (r % 3) ∷ decimal (r / 3 % 4)
    ∷ severity_word (r / 12 % 8) ∷ decimal (r / 96 % 4) ∷ decimal (r / 384 % 256) ∷ decimal (4096 * (r / 98304 % 64))
    ∷ decimal i ∷ codes "0" ∷ decimal i ∷ []) in
    let reporter = length-decimal-le 1 k (omega arith) (omega arith) (omega arith) in
    let bank = length-decimal-le 1 (r % 3) (omega arith) (omega arith) (omega arith) in
    let rec = length-decimal-le 1 (r / 3 % 4) (omega arith) (omega arith) (omega arith) in
    let severity = by_tests (nat_lt (r / 12 % 8) 6) (r / 12 % 8 == 6) in
    let priority = length-decimal-le 1 (r / 96 % 4) (omega arith) (omega arith) (omega arith) in
    let code = length-decimal-le 3 (r / 384 % 256) (omega arith) (omega arith) (omega arith) in
    let address = length-decimal-le 6 (4096 * (r / 98304 % 64)) (omega arith) (omega arith) (omega arith) in
    let info = length-decimal-le 3 i (omega arith) (omega arith) (omega arith) in
    omega (arith, width_is, reporter, bank, rec, severity, priority, code, address, info)

acts_short : (n k m : ℕ) → k < 4 → m ≤ 500 → length (lines_text (line_below (act_line n k) m)) ≤ 100 * m
unfolding line_below lines_text act_line
acts_short n k zero low few = omega arith
acts_short n k (suc m) low few =
    let before = line_below (act_line n k) m in
    let last = line_text (act_line n k m) in
    omega (
      arith,
      ap length (lines_append before (act_line n k m ∷ [])),
      length-append (lines_text before) (last ++ []),
      length-append last [],
      acts_short n k m low (omega arith),
      error_short k m (drawn n (500 * k + m)) low (omega arith),
    )

reporters_short : (n m : ℕ) → m ≤ 4 → length (lines_text (lines_below (reporter_lines n) m)) ≤ 50000 * m
unfolding lines_below lines_text reporter_lines
reporters_short n zero few = omega arith
reporters_short n (suc m) few =
    let before = lines_below (reporter_lines n) m in
    omega (
      arith,
      ap length (lines_append before (reporter_lines n m)),
      length-append (lines_text before) (lines_text (reporter_lines n m)),
      reporters_short n m (omega arith),
      acts_short n m 500 (omega arith) (omega arith),
    )

-- ---- The lines before them ----

abbrev is_short : ℕ → Bool
is_short p = nat_le (length (lines_text (first ∷ opening p))) 100000

short_0 : is_short 0 ≡ true
unfolding digits line_text lines_text lines_below line_below bank_lines register_lines global_lines event_lines
    loop_lines bank_handler_lines raise_handler_lines hart_lines
short_0 = refl

short_1 : is_short 1 ≡ true
unfolding digits line_text lines_text lines_below line_below bank_lines register_lines global_lines event_lines
    loop_lines bank_handler_lines raise_handler_lines hart_lines
short_1 = refl

by_parity : (p : ℕ) → p < 2 → is_short p ≡ true
by_parity zero low = short_0
by_parity (suc zero) low = short_1
by_parity (suc (suc p)) low = absurd (omega arith)

opening_short : (n : ℕ) → length (lines_text (first ∷ opening n)) ≤ 100000
opening_short n =
    leb-true _ _ (ap (λ (ls : List (List (List ℕ))). nat_le (length (lines_text (first ∷ ls))) 100000) (opening_same n)
    ∙ by_parity (n % 2) (omega arith))

-- ---- The whole ----

pub load_short : (n : ℕ) → length (load_text n) ≤ 1048576
unfolding load_text
load_short n =
    let acts = lines_below (reporter_lines n) 4 in
    omega (
      arith,
      ap (λ ls. length (lines_text ls)) (lines_are n),
      ap length (lines_append (first ∷ opening n) acts),
      length-append (lines_text (first ∷ opening n)) (lines_text acts),
      opening_short n,
      reporters_short n 4 (omega arith),
    )
