-- One line of a schedule more, and all of them.
use Rattle.std.proofs.Common.{ℕ, List, [], ◌∷◌, refl, ap, ◌∙◌}
use Rattle.board_plan.specs.Text.{schedule_line, entries_of_line}
use Rattle.board_report.proofs.Growing.{grows-nil}
use Rattle.board_report.proofs.OneMore.{grows-more, grows-same, numbered-next}
use Rattle.board_report.proofs.walks.write_schedule.Goals as goal

pub loop-k-init : goal.loop-k-init
loop-k-init g c = record { empty = c.requires.empty; wrote = grows-nil _; same_pages = refl }

pub loop-k-preserved : goal.loop-k-preserved
loop-k-preserved g c =
    let f = λ (k : ℕ). schedule_line (entries_of_line c.args.steps.now k) in
    record {
      empty = c.write_entries.ensures.empty;
      wrote = grows-more _ _ _ _ _ _ (numbered-next f c.loop-k.k) c.loop-k.invariant.wrote
          (grows-same _ _ _ _ (ap (λ
          (es : List _). schedule_line es ∷ []) c.entries_of.ensures.entries) c.write_entries.ensures.wrote);
      same_pages = c.write_entries.ensures.same_pages ∙ c.loop-k.invariant.same_pages;
    }
