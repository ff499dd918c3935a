-- One instance more, and all of them.
use Rattle.std.proofs.Common.{refl, ap, map, ◌∙◌, arith}
use Rattle.std.proofs.lemmas.List.{take_all}
use Rattle.sse_base.specs.Events.{slots}
use Rattle.board_plan.specs.Text.{event_line}
use Rattle.board_report.proofs.Growing.{grows-nil}
use Rattle.board_report.proofs.OneMore.{grows-more, grows-same, events-next}
use Rattle.board_report.proofs.walks.write_events.Goals as goal

pub loop-i-init : goal.loop-i-init
loop-i-init g c = record { empty = c.requires; wrote = grows-nil _; same_pages = refl }

pub loop-i-preserved : goal.loop-i-preserved
loop-i-preserved g c =
    record {
      empty = c.write_event.ensures.empty;
      wrote = grows-more _ _ _ _ _ _ (events-next c.loop-i.i
          (slots c.args.table.now) c.slot.result c.slot.ensures) c.loop-i.invariant.wrote c.write_event.ensures.wrote;
      same_pages = c.write_event.ensures.same_pages ∙ c.loop-i.invariant.same_pages;
    }

pub returns-clause-wrote : goal.returns-clause-wrote
returns-clause-wrote g c =
    grows-same _ _ _ _ (ap (map event_line) (take_all c.loop-i.i (slots c.args.table.now) (omega
    (arith, c.instances-i-end.ensures.slots)))) c.loop-i.invariant.wrote
