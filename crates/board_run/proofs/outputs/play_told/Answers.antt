-- The lines of all steps, each as it was made.
use Rattle.std.proofs.Common.{arith}
use Rattle.board_core.specs.Played.{own_run}
use Rattle.board_report.specs.Reports.{trace_bytes}
use Rattle.board_report.proofs.Tracing.{same-trace, trace-wrote}
use Rattle.board_run.proofs.Copies.{few_notes}
use Rattle.board_run.proofs.outputs.play_told.Goals as goal

pub returns-clause-bytes : goal.returns-clause-bytes
unfolding trace_bytes
returns-clause-bytes g c =
    (trace-wrote g.K.Sink.written g.K.Sink.faults g.K.Sink.writes (own_run c.in_ok-board.board).notes
    c.args.tracer.now c.play_plan.new.watch c.requires.first c.requires.going
    (omega (arith, few_notes c.in_ok-board.board c.steps-steps.ensures.played)) c.in_ok-board.ensures.told).bytes

pub returns-clause-cause : goal.returns-clause-cause
returns-clause-cause g c =
    (trace-wrote g.K.Sink.written g.K.Sink.faults g.K.Sink.writes (own_run c.in_ok-board.board).notes
    c.args.tracer.now c.play_plan.new.watch c.requires.first c.requires.going
    (omega (arith, few_notes c.in_ok-board.board c.steps-steps.ensures.played)) c.in_ok-board.ensures.told).cause

pub returns-clause-same_trace : goal.returns-clause-same_trace
returns-clause-same_trace g c =
    same-trace g.K.Sink.written g.K.Sink.faults g.K.Sink.writes (own_run c.in_ok-board.board).notes c.args.tracer.now
    c.play_plan.new.watch c.in_ok-board.ensures.told
