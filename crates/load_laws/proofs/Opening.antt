-- The opening lines of a load, up to its reporters, are read.
use Rattle.std.proofs.Common.{◌≡◌, ℕ, zero, suc, ◌+◌, ◌%◌, ◌<◌, ◌==◌, if◌then◌else◌, codes, decimal, sym, subst, ◌&&◌, not, Bool, List, [], ◌∷◌, ◌++◌, true, false, Result, Ok, Err, is_ok, refl, drop, ap, ◌∙◌, arith}
use Rattle.std.specs.List.{list_all}
use Rattle.std.specs.Fmt.{digits}
use Rattle.sse_base.specs.Ids.{class_of, is_platform}
use Rattle.ras_text.specs.Numbers.{number, value_in}
use Rattle.board_plan.specs.declared.plan.Reporter.{Reporter}
use Rattle.board_plan.specs.declared.plan.LineFault.{LineFault}
use Rattle.board_plan.specs.Words.{is, first_of_two, any_number, number_upto, number_from_1_to, number_below, known_below, op_address, may_be_on_board, event_id}
use Rattle.board_plan.specs.OpForms.{argument_at, arguments, call_of, sbi_op, inc_op, jlt_op, ack_op, op_of}
use Rattle.board_plan.specs.Script.{Half, bare_board, has_event, has_record, has_op, has_start, total_budget, with_event, bank_of, with_bank, record_of, with_record, with_address, placed, with_op, start_of, with_start, added, with_list, with_reporter, statement, is_passed}
use Rattle.board_script.proofs.Chains.{Each}
use Rattle.board_script.proofs.Fits.{with_reporters}
use Rattle.board_script.proofs.Steps.{both_true}
use Rattle.board_script.proofs.Texts.{IsLine, ArePlain, is_plain, run}
use Rattle.board_load.specs.Load.{record_line, lines_below, line_below, board_lines, bank_lines, register_lines, global_lines, event_lines, loop_lines, bank_handler_lines, raise_handler_lines, hart_lines, list_lines}
use Rattle.load_laws.proofs.Acts.{four, Made}

-- the lines behind the first one, up to the reporters; the records' controls are those of number p
abbrev pub opening : ℕ → List (List (List ℕ))
opening p =
    drop 1 board_lines ++ (lines_below (bank_lines p) 3 ++ (lines_below hart_lines 4 ++ list_lines))

abbrev or_bare : Result Half LineFault → Half
or_bare (Ok h) = h
or_bare (Err e) = bare_board 1 4

ok_made : (r : Result Half LineFault) → is_ok r ≡ true → r ≡ Ok (or_bare r)
ok_made (Ok h) e = refl
ok_made (Err f) e = cc

abbrev is_line : List (List ℕ) → Bool
is_line ws = list_all is_plain ws && not (is_passed ws)

abbrev half : ℕ → Half
half p = or_bare (run (bare_board 1 4) (opening p))

runs_0 : is_ok (run (bare_board 1 4) (opening 0)) ≡ true
unfolding is first_of_two any_number number_upto number_from_1_to number_below known_below op_address may_be_on_board
    event_id argument_at arguments call_of sbi_op inc_op jlt_op ack_op op_of has_event has_record has_op has_start
    total_budget with_event bank_of with_bank record_of with_record with_address placed with_op start_of with_start
    added with_list with_reporter statement number value_in class_of is_platform digits
    lines_below line_below bank_lines register_lines global_lines event_lines loop_lines
    bank_handler_lines raise_handler_lines hart_lines
runs_0 = refl

reporters_0 : (half 0).plan.reporters ≡ four [] [] [] []
unfolding is first_of_two any_number number_upto number_from_1_to number_below known_below op_address may_be_on_board
    event_id argument_at arguments call_of sbi_op inc_op jlt_op ack_op op_of has_event has_record has_op has_start
    total_budget with_event bank_of with_bank record_of with_record with_address placed with_op start_of with_start
    added with_list with_reporter statement number value_in class_of is_platform digits
    lines_below line_below bank_lines register_lines global_lines event_lines loop_lines
    bank_handler_lines raise_handler_lines hart_lines
reporters_0 = refl

plain_0 : list_all is_line (opening 0) ≡ true
unfolding digits lines_below line_below bank_lines register_lines global_lines event_lines loop_lines
    bank_handler_lines raise_handler_lines hart_lines
plain_0 = refl

runs_1 : is_ok (run (bare_board 1 4) (opening 1)) ≡ true
unfolding is first_of_two any_number number_upto number_from_1_to number_below known_below op_address may_be_on_board
    event_id argument_at arguments call_of sbi_op inc_op jlt_op ack_op op_of has_event has_record has_op has_start
    total_budget with_event bank_of with_bank record_of with_record with_address placed with_op start_of with_start
    added with_list with_reporter statement number value_in class_of is_platform digits
    lines_below line_below bank_lines register_lines global_lines event_lines loop_lines
    bank_handler_lines raise_handler_lines hart_lines
runs_1 = refl

reporters_1 : (half 1).plan.reporters ≡ four [] [] [] []
unfolding is first_of_two any_number number_upto number_from_1_to number_below known_below op_address may_be_on_board
    event_id argument_at arguments call_of sbi_op inc_op jlt_op ack_op op_of has_event has_record has_op has_start
    total_budget with_event bank_of with_bank record_of with_record with_address placed with_op start_of with_start
    added with_list with_reporter statement number value_in class_of is_platform digits
    lines_below line_below bank_lines register_lines global_lines event_lines loop_lines
    bank_handler_lines raise_handler_lines hart_lines
reporters_1 = refl

plain_1 : list_all is_line (opening 1) ≡ true
unfolding digits lines_below line_below bank_lines register_lines global_lines event_lines loop_lines
    bank_handler_lines raise_handler_lines hart_lines
plain_1 = refl

not_so : (a : Bool) → not a ≡ true → a ≡ false
not_so true e = cc
not_so false e = refl

each_plain : (ws : List (List ℕ)) → list_all is_plain ws ≡ true → ArePlain ws
each_plain [] e = tt
each_plain (w ∷ ws) e =
    let p = both_true (is_plain w) _ e in (p.0, each_plain ws p.1)

line_of : (ws : List (List ℕ)) → is_line ws ≡ true → IsLine ws
line_of ws e =
    let p = both_true (list_all is_plain ws) _ e in (each_plain ws p.0, not_so _ p.1)

each_line : (wss : List (List (List ℕ))) → list_all is_line wss ≡ true → Each IsLine wss
each_line [] e = tt
each_line (ws ∷ wss) e =
    let p = both_true (is_line ws) _ e in (line_of ws p.0, each_line wss p.1)

same_reporters : (h : Half) (rs : List Reporter) → h.plan.reporters ≡ rs → h ≡ with_reporters h rs
same_reporters h rs e = ap (with_reporters h) e

opened : (p : ℕ) → is_ok (run (bare_board 1 4) (opening p)) ≡ true → (half p).plan.reporters ≡ four [] [] [] []
    → list_all is_line (opening p) ≡ true → Made 0 (bare_board 1 4) (opening p)
opened p runs reporters plain =
    record {
      half = half p;
      makes = record {
        plain = each_line (opening p) plain;
        runs = ok_made (run (bare_board 1 4) (opening p)) runs;
      };
      roomy = record {
        rest = half p;
        a = [];
        b = [];
        c = [];
        d = [];
        whole = same_reporters (half p) (four [] [] [] []) reporters;
        low_a = omega arith;
        low_b = omega arith;
        low_c = omega arith;
        low_d = omega arith;
      };
    }

by_parity : (p : ℕ) → p < 2 → Made 0 (bare_board 1 4) (opening p)
by_parity zero low = opened 0 runs_0 reporters_0 plain_0
by_parity (suc zero) low = opened 1 runs_1 reporters_1 plain_1
by_parity (suc (suc p)) low = absurd (omega arith)

-- ---- Only the parity of the number counts ----

odd_same : (s n : ℕ) → (s + n) % 2 ≡ (s + n % 2) % 2
odd_same s n = omega arith

record_same : (n bank rec : ℕ) → record_line n bank rec ≡ record_line (n % 2) bank rec
record_same n bank rec =
    ap (λ x. codes "record" ∷ decimal bank ∷ decimal rec ∷ (if x == 1 then codes "0x97" else codes "0x95")
    ∷ codes "0" ∷ []) (odd_same (bank + rec) n)

line_below_same : (f g : ℕ → List (List ℕ)) → ((i : ℕ) → f i ≡ g i) → (k : ℕ) → line_below f k ≡ line_below g k
unfolding line_below
line_below_same f g e zero = refl
line_below_same f g e (suc k) =
    ap (λ t. t ++ f k ∷ []) (line_below_same f g e k) ∙ ap (λ x. line_below g k ++ x ∷ []) (e k)

lines_below_same : (f g : ℕ → List (List (List ℕ))) → ((i : ℕ) → f i ≡ g i) → (k : ℕ)
    → lines_below f k ≡ lines_below g k
unfolding lines_below
lines_below_same f g e zero = refl
lines_below_same f g e (suc k) =
    ap (λ t. t ++ f k) (lines_below_same f g e k) ∙ ap (λ x. lines_below g k ++ x) (e k)

bank_same : (n bank : ℕ) → bank_lines n bank ≡ bank_lines (n % 2) bank
unfolding bank_lines
bank_same n bank = line_below_same (record_line n bank) (record_line (n % 2) bank) (record_same n bank) 4

pub opening_same : (n : ℕ) → opening n ≡ opening (n % 2)
opening_same n =
    ap (λ t. drop 1 board_lines ++ (t ++ (lines_below hart_lines 4 ++ list_lines)))
    (lines_below_same (bank_lines n) (bank_lines (n % 2)) (bank_same n) 3)

-- the opening lines of each load are read
pub opening_made : (n : ℕ) → Made 0 (bare_board 1 4) (opening n)
opening_made n =
    subst (λ (wss : List (List (List ℕ))). Made 0 (bare_board 1 4) wss) (sym (opening_same n))
    (by_parity (n % 2) (omega arith))
