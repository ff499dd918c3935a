-- Worked scripts: a text with every form and its plan, and a text for each kind of refusal. Each is computed from the
-- definitions of the board book.
use Rattle.std.specs.Prelude.{◌≡◌, ℕ, true, List, [], ◌∷◌, ◌++◌, map, Option, Some, None, Result, Ok, Err, codes}
use Rattle.std.proofs.Common.{refl}
use Rattle.sse_base.specs.Ids.{class_of, is_platform}
use Rattle.reri_fields.specs.declared.severity.Severity.TheVariants.{Uec}
use Rattle.ras_device.specs.declared.act.Act.TheVariants.{Error, Raise}
use Rattle.ras_text.specs.Numbers.{number, value_in}
use Rattle.ras_text.specs.Pieces.{words}
use Rattle.board_plan.specs.declared.notes.Step.TheVariants as step
use Rattle.board_plan.specs.declared.ops.Op.TheVariants as op
use Rattle.board_plan.specs.declared.ops.Reg.TheVariants.{Sie}
use Rattle.board_plan.specs.declared.plan.LineFault.{LineFault}
use Rattle.board_plan.specs.declared.plan.LineFault.TheVariants.{Head, Word, Count, Number, Range, Unknown, Twice, Full}
use Rattle.board_plan.specs.declared.plan.Plan.{Plan}
use Rattle.board_plan.specs.Words.{is, first_of_two, severity, register, any_number, number_upto, number_from_1_to, number_below, known_below, op_address, value_of, may_be_on_board, event_id, platform_id, is_digits, entry_number, hart_entry, reporter_entry, entry}
use Rattle.board_plan.specs.OpForms.{bare_op, argument_at, arguments, call_of, sbi_op, set_op, load_op, save_op, store_op, inc_op, jump_op, jlt_op, ack_op, unplug_op, op_of}
use Rattle.board_plan.specs.Script.{Refusal, has_event, has_number, has_record, has_op, has_start, is_number, has_device, is_list, total_budget, version_of, board_of, versioned, board, with_event, bank_of, with_bank, plat_of, with_plat, gather_of, with_gather, record_of, with_record, with_address, placed, with_op, start_of, with_start, added, with_list, with_device, with_reporter, known_list, with_one_act, error_of, error_act, with_error, raise_of, with_raise, with_act, with_entries, with_schedule, statement, after_line, follow, begin, script}

-- what a text gives: its refusal, or none
abbrev refusal : Result Plan Refusal → Option (ℕ × LineFault)
refusal (Ok plan) = None
refusal (Err r) = Some (r.line, r.kind)

abbrev refusals : List (List ℕ) → List (Option (ℕ × LineFault))
refusals texts = map (λ text. refusal (script text)) texts

abbrev three_reporters : List ℕ
three_reporters = codes "reporter list\nreporter list\nreporter list\n"

abbrev nine_reporters : List ℕ
nine_reporters = three_reporters ++ three_reporters ++ three_reporters

-- a text behind a board of version 1 or 2
abbrev on_1 : List ℕ → List ℕ
on_1 text = codes "board 1 1\n" ++ text

abbrev on_2 : List ℕ → List ℕ
on_2 text = codes "board 2 1\n" ++ text

-- the first statement
first_statements :
    refusals (codes ""
    ∷ codes "# none\n\n"
    ∷ codes "board 3 1\n"
    ∷ codes "board\n"
    ∷ codes "board 1 9\n"
    ∷ codes "board 2 33\n" ∷ [])
    ≡ Some (1, Head) ∷ Some (3, Head) ∷ Some (1, Head) ∷ Some (1, Count) ∷ Some (1, Range) ∷ Some (1, Range) ∷ []
unfolding is first_of_two severity register any_number number_upto number_from_1_to number_below known_below
    op_address value_of may_be_on_board event_id platform_id is_digits entry_number hart_entry reporter_entry entry
    bare_op argument_at arguments call_of sbi_op set_op load_op save_op store_op inc_op jump_op jlt_op ack_op
    unplug_op op_of has_event has_number has_record has_op has_start is_number has_device is_list total_budget
    version_of board_of versioned board with_event bank_of with_bank plat_of with_plat gather_of with_gather
    record_of with_record with_address placed with_op start_of with_start added with_list with_device with_reporter
    known_list with_one_act error_of error_act with_error raise_of with_raise with_act with_entries with_schedule
    statement after_line follow begin script number value_in words class_of is_platform
first_statements = refl

-- statements that aren't known, and a second board
later_statements :
    refusals (on_1 (codes "board 1 1\n")
    ∷ on_1 (codes "foo\n")
    ∷ on_1 (codes "gather 0 2\n") ∷ [])
    ≡ Some (2, Twice) ∷ Some (2, Word) ∷ Some (2, Word) ∷ []
unfolding is first_of_two severity register any_number number_upto number_from_1_to number_below known_below
    op_address value_of may_be_on_board event_id platform_id is_digits entry_number hart_entry reporter_entry entry
    bare_op argument_at arguments call_of sbi_op set_op load_op save_op store_op inc_op jump_op jlt_op ack_op
    unplug_op op_of has_event has_number has_record has_op has_start is_number has_device is_list total_budget
    version_of board_of versioned board with_event bank_of with_bank plat_of with_plat gather_of with_gather
    record_of with_record with_address placed with_op start_of with_start added with_list with_device with_reporter
    known_list with_one_act error_of error_act with_error raise_of with_raise with_act with_entries with_schedule
    statement after_line follow begin script number value_in words class_of is_platform
later_statements = refl

-- events and banks
events_and_banks :
    refusals (on_1 (codes "event 0x2 maybe\n")
    ∷ on_1 (codes "event 0x4000 maybe\n")
    ∷ on_1 (codes "event 0 inject\nevent 0x0 inject\n")
    ∷ on_1 (codes "plat 0 0x4000\n")
    ∷ on_1 (codes "bank 0 local 1\nplat 0 0x8000\n")
    ∷ on_1 (codes "bank 0 local 1\nrecord 0 1 0 0\n") ∷ [])
    ≡ Some (2, Range) ∷ Some (2, Word) ∷ Some (3, Twice) ∷ Some (2, Unknown) ∷ Some (3, Range) ∷ Some (3, Unknown) ∷ []
unfolding is first_of_two severity register any_number number_upto number_from_1_to number_below known_below
    op_address value_of may_be_on_board event_id platform_id is_digits entry_number hart_entry reporter_entry entry
    bare_op argument_at arguments call_of sbi_op set_op load_op save_op store_op inc_op jump_op jlt_op ack_op
    unplug_op op_of has_event has_number has_record has_op has_start is_number has_device is_list total_budget
    version_of board_of versioned board with_event bank_of with_bank plat_of with_plat gather_of with_gather
    record_of with_record with_address placed with_op start_of with_start added with_list with_device with_reporter
    known_list with_one_act error_of error_act with_error raise_of with_raise with_act with_entries with_schedule
    statement after_line follow begin script number value_in words class_of is_platform
events_and_banks = refl

-- gather numbers
gather_numbers :
    refusals (on_2 (codes "bank 0 local 1\ngather 0 5\n")
    ∷ on_2 (codes "bank 0 local 1\ngather 0 4\ngather 0 4\n") ∷ [])
    ≡ Some (3, Range) ∷ Some (4, Twice) ∷ []
unfolding is first_of_two severity register any_number number_upto number_from_1_to number_below known_below
    op_address value_of may_be_on_board event_id platform_id is_digits entry_number hart_entry reporter_entry entry
    bare_op argument_at arguments call_of sbi_op set_op load_op save_op store_op inc_op jump_op jlt_op ack_op
    unplug_op op_of has_event has_number has_record has_op has_start is_number has_device is_list total_budget
    version_of board_of versioned board with_event bank_of with_bank plat_of with_plat gather_of with_gather
    record_of with_record with_address placed with_op start_of with_start added with_list with_device with_reporter
    known_list with_one_act error_of error_act with_error raise_of with_raise with_act with_entries with_schedule
    statement after_line follow begin script number value_in words class_of is_platform
gather_numbers = refl

-- ops and starts
ops_and_starts :
    refusals (on_1 (codes "op\n")
    ∷ on_1 (codes "op set sp 2\n")
    ∷ on_1 (codes "op set sie 2\n")
    ∷ on_1 (codes "at 0x1001\n")
    ∷ on_1 (codes "op nop\nat 0x1000\nop nop\n")
    ∷ on_1 (codes "start 0 0x 1\n")
    ∷ on_1 (codes "start 0 0 10001\n") ∷ [])
    ≡ Some (2, Count) ∷ Some (2, Word) ∷ Some (2, Range) ∷ Some (2, Range) ∷ Some (4, Twice) ∷ Some (2, Number)
    ∷ Some (2, Range) ∷ []
unfolding is first_of_two severity register any_number number_upto number_from_1_to number_below known_below
    op_address value_of may_be_on_board event_id platform_id is_digits entry_number hart_entry reporter_entry entry
    bare_op argument_at arguments call_of sbi_op set_op load_op save_op store_op inc_op jump_op jlt_op ack_op
    unplug_op op_of has_event has_number has_record has_op has_start is_number has_device is_list total_budget
    version_of board_of versioned board with_event bank_of with_bank plat_of with_plat gather_of with_gather
    record_of with_record with_address placed with_op start_of with_start added with_list with_device with_reporter
    known_list with_one_act error_of error_act with_error raise_of with_raise with_act with_entries with_schedule
    statement after_line follow begin script number value_in words class_of is_platform
ops_and_starts = refl

-- reporters and schedules
reporters_and_schedules :
    refusals (on_1 (codes "act x foo\n")
    ∷ on_1 (codes "act 0 raise 0 0\n")
    ∷ on_1 (codes "reporter device 0 1\nact 0 raise 0 0\n")
    ∷ on_1 nine_reporters
    ∷ on_1 (codes "schedule h1\n")
    ∷ on_1 (codes "schedule h256\n")
    ∷ on_1 (codes "schedule x0\n") ∷ [])
    ≡ Some (2, Word) ∷ Some (2, Unknown) ∷ Some (3, Unknown) ∷ Some (10, Full) ∷ Some (2, Unknown) ∷ Some (2, Range)
    ∷ Some (2, Word) ∷ []
unfolding is first_of_two severity register any_number number_upto number_from_1_to number_below known_below
    op_address value_of may_be_on_board event_id platform_id is_digits entry_number hart_entry reporter_entry entry
    bare_op argument_at arguments call_of sbi_op set_op load_op save_op store_op inc_op jump_op jlt_op ack_op
    unplug_op op_of has_event has_number has_record has_op has_start is_number has_device is_list total_budget
    version_of board_of versioned board with_event bank_of with_bank plat_of with_plat gather_of with_gather
    record_of with_record with_address placed with_op start_of with_start added with_list with_device with_reporter
    known_list with_one_act error_of error_act with_error raise_of with_raise with_act with_entries with_schedule
    statement after_line follow begin script number value_in words class_of is_platform
reporters_and_schedules = refl

-- a text with every form of statement
abbrev every_form : List ℕ
every_form =
    codes "board 2 2\nevent 0x4000 inject\nbank 1 global 3\nplat 0 0x4000\ngather 0 2\nrecord 0 2 0x95 7\n"
    ++ codes "op sbi 1 2 3\nat 0x2000\nop set sie 1\nop jlt 8 9 10\nstart 1 0x1000 100\n"
    ++ codes "reporter list\nreporter device 7 50\nact 0 raise 0x4000 1\n"
    ++ codes "act 0 error 0 1 uec 3 4 5 6 7 8\nschedule h1 r0\n"

every_form_is_read :
    script every_form
    ≡ Ok (record {
      version = 2;
      harts = 2;
      events = record { id = record { 0 = 0x4000 }; inject = true } ∷ [];
      banks = record { home = 1; global = true; recs = 3; plat = Some 0x4000; gather = 2 } ∷ [];
      recs = record { bank = 0; rec = 2; control = 0x95; count = 7 } ∷ [];
      ops =
          record { pc = 0x1000; op = op.Sbi 1 2 (3 ∷ 0 ∷ 0 ∷ 0 ∷ 0 ∷ []) } ∷ record { pc = 0x2000; op = op.Set Sie 1 }
          ∷ record { pc = 0x2004; op = op.Jlt 8 9 10 } ∷ [];
      starts = record { hart = 1; pc = 0x1000; budget = 100 } ∷ [];
      reporters =
          record {
            device = None;
            limit = 2;
            acts =
                Raise 0x4000 1
                ∷ Error (record {
                  bank = 0;
                  rec = 1;
                  severity = Uec;
                  priority = 3;
                  code = 4;
                  address = 5;
                  info = 6;
                  supplement = 7;
                  time = 8;
                })
                ∷ [];
          }
          ∷ record { device = Some 7; limit = 50; acts = [] } ∷ [];
      schedule = Some (step.Hart 1 ∷ step.Reporter 0 ∷ []);
    })
unfolding is first_of_two severity register any_number number_upto number_from_1_to number_below known_below
    op_address value_of may_be_on_board event_id platform_id is_digits entry_number hart_entry reporter_entry entry
    bare_op argument_at arguments call_of sbi_op set_op load_op save_op store_op inc_op jump_op jlt_op ack_op
    unplug_op op_of has_event has_number has_record has_op has_start is_number has_device is_list total_budget
    version_of board_of versioned board with_event bank_of with_bank plat_of with_plat gather_of with_gather
    record_of with_record with_address placed with_op start_of with_start added with_list with_device with_reporter
    known_list with_one_act error_of error_act with_error raise_of with_raise with_act with_entries with_schedule
    statement after_line follow begin script number value_in words class_of is_platform
every_form_is_read = refl
