-- The list of a board's copies, and what came of its lines.
use Rattle.std.proofs.Common.{◌<◌, ◌^◌, List, length, ◌∙◌, subst, sym}
use Rattle.board_plan.specs.declared.notes.Published.{Published}
use Rattle.board_run.proofs.Copies.{few_published}
use Rattle.board_run.proofs.Listing.{listed}
use Rattle.board_run.proofs.pages.write_pages.Goals as goal

pub pages-requires : goal.pages-requires
pages-requires g c =
    subst (λ (ps : List Published). length ps < 2 ^ 32) (sym c.published.ensures)
    (few_published c.args.board.now c.steps-steps.ensures.played)

pub returns-clause-wrote : goal.returns-clause-wrote
returns-clause-wrote g c =
    listed c.args.threshold _ _ c.as_slice.result.now _ _ c.write_lines.result c.status_of.result
    c.published.ensures (c.as_slice.ensures.value ∙ c.in-Ok.ensures) c.status_of.ensures c.write_lines.ensures.bytes
