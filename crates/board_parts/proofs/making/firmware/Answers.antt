-- Each hart begins at its place.
use Rattle.std.proofs.Common.{◌≡◌, List, length, ap, ◌∙◌, subst}
use Rattle.std.specs.Result.{IfOk}
use Rattle.std.proofs.lemmas.List.FromFn.{length-map-range_with_len}
use Rattle.sse_base.specs.declared.events.EventDecl.{EventDecl}
use Rattle.sse_base.specs.Machine.{Machine}
use Rattle.sse_base.specs.Start.{start_machine}
use Rattle.board_plan.specs.declared.plan.Start.{Start}
use Rattle.board_plan.specs.State.{start_places}
use Rattle.board_parts.proofs.making.firmware.Goals as goal

pub new-requires-clause-starts : goal.new-requires-clause-starts
new-requires-clause-starts c =
    ap length (c.as_slice-3.ensures.value ∙ c.in_ok-places.ensures)
    ∙ length-map-range_with_len _ 0 c.args.plan.now.harts

pub returns : goal.returns
returns c =
    let harts = c.args.plan.now.harts in
    let places = c.as_slice-3.ensures.value ∙ c.in_ok-places.ensures
    ∙ ap (λ (ss : List Start). start_places harts ss) c.as_slice.ensures in
    let is : start_machine harts c.as_slice-2.result.now c.as_slice-3.result.now
    ≡ start_machine harts c.args.plan.now.events (start_places harts c.args.plan.now.starts) =
    ap (λ (es : List EventDecl). start_machine harts es c.as_slice-3.result.now) c.as_slice-2.ensures
    ∙ ap (start_machine harts c.args.plan.now.events) places in
    subst (λ (m : Machine). IfOk c.new.result (λ f. f ≡ m)) is c.new.ensures
