-- The script of each load is accepted.
use Rattle.std.proofs.Common.{◌≡◌, ℕ, ◌≤◌, List, [], ◌∷◌, ◌++◌, rules, Result, Ok, IsOk, codes, refl, sym, ap, ◌∙◌, arith, append_assoc, if◌then◌else◌}
use Rattle.ras_text.specs.Numbers.{number, value_in}
use Rattle.ras_text.specs.Pieces.{lines}
use Rattle.board_plan.specs.declared.plan.LineFault.{LineFault}
use Rattle.board_plan.specs.Words.{◌>>=◌, is, any_number, number_upto, number_from_1_to}
use Rattle.board_plan.specs.Script.{Half, bare_board, version_of, board_of, versioned, board, is_passed, at_line, follow, begin, script}
use Rattle.board_plan.specs.Canonical.{line_text, lines_text}
use Rattle.board_script.proofs.Texts.{ArePlain, line_again, words_again, follow_makes}
use Rattle.board_load.specs.Load as load
use Rattle.load_laws.proofs.Acts.{Made, all_made, both_made}
use Rattle.load_laws.proofs.Opening.{opening, opening_made}

-- a text of lines is the same for both books
texts_same : (wss : List (List (List ℕ))) → load.lines_text wss ≡ lines_text wss
unfolding load.lines_text load.line_text lines_text line_text
texts_same [] = refl
texts_same (ws ∷ wss) = ap (λ t. line_text ws ++ t) (texts_same wss)

abbrev pub first : List (List ℕ)
first = codes "board" ∷ codes "1" ∷ codes "4" ∷ []

first_plain : ArePlain first
first_plain = (refl, (refl, (refl, tt)))

first_made : board first ≡ Ok (bare_board 1 4)
unfolding board versioned version_of board_of is number_from_1_to number_upto any_number number value_in
first_made = refl

abbrev pub later : ℕ → List (List (List ℕ))
later n = opening n ++ load.lines_below (load.reporter_lines n) 4

pub lines_are : (n : ℕ) → load.load_lines n ≡ first ∷ later n
unfolding load.load_lines
lines_are n =
    let recs = load.lines_below (load.bank_lines n) 3 in
    let harts = load.lines_below load.hart_lines 4 in
    let acts = load.lines_below (load.reporter_lines n) 4 in
    ap (λ t. load.board_lines ++ t)
    (sym (append_assoc recs (harts ++ load.list_lines) acts
    ∙ ap (λ t. recs ++ t) (append_assoc harts load.list_lines acts)))

later_made : (n : ℕ) → Made 2000 (bare_board 1 4) (later n)
later_made n =
    let opened = opening_made n in
    both_made 0 2000 (bare_board 1 4) (opening n) (load.lines_below (load.reporter_lines n) 4) opened
    (all_made n 4 (omega arith) opened.half opened.roomy)

read : (n : ℕ) → script (lines_text (first ∷ later n)) ≡ Ok (later_made n).half.plan
unfolding script begin lines_text
read n =
    let rest = lines (lines_text (later n)) in
    let made = later_made n in
    ap (begin 1) (line_again first (lines_text (later n)) first_plain)
    ∙ ap (λ l. if is_passed l then begin 2 rest else (at_line 1 (board l) >>= λ k. follow 2 k rest))
    (words_again first first_plain)
    ∙ ap (λ (r : Result Half LineFault). at_line 1 r >>= λ k. follow 2 k rest) first_made
    ∙ follow_makes 2 (bare_board 1 4) (later n) made.half made.makes

pub load_accepted : (n : ℕ) → n ≤ 1000 → IsOk (script (load.load_text n))
unfolding load.load_text
load_accepted n low =
    let text = ap load.lines_text (lines_are n) ∙ texts_same (first ∷ later n) in
    let e = ap script text ∙ read n in
    search (rules, e)
