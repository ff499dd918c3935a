-- The first of the hart's queue, where it is unmasked.
use Rattle.std.proofs.Common.{◌≡◌, ◌∙◌, sym, ap, length, get_or}
use Rattle.std.specs.Prelude.{true, false}
use Rattle.sse_base.specs.Choice.{is_masked}
use Rattle.sse_target.specs.Lines.{Lines}
use Rattle.sse_target.specs.Picked.{picked}
use Rattle.sse_target.proofs.Chosen.{first_chosen, none_chosen}
use Rattle.sse_target.proofs.targets.Targets.first.Goals as goal

pub returns-then-is_masked-clause-chosen : goal.returns-then-is_masked-clause-chosen
returns-then-is_masked-clause-chosen c = λ t held top.
    let l : Lines = c.args.self.now
    in let masks : c.as_slice.result.now ≡ l.masks = c.as_slice.ensures.value
    ∙ ap (λ (x : Lines). x.masks) c.self.view_is
    in let shut : is_masked c.args.hart l.masks ≡ true = rw (← masks) (sym c.is_masked.ensures ∙ c.if-is_masked.true)
    in none_chosen c.args.hart top l.masks t shut

pub returns-clause-chosen : goal.returns-clause-chosen
returns-clause-chosen c = λ t held top.
    let l : Lines = c.args.self.now
    in let masks : c.as_slice.result.now ≡ l.masks = c.as_slice.ensures.value
    ∙ ap (λ (x : Lines). x.masks) c.self.view_is
    in let queues : c.deref.result.now ≡ l.queues = c.deref.ensures.0 ∙ ap (λ (x : Lines). x.queues) c.self.view_is
    in let open_to : is_masked c.args.hart l.masks ≡ false = rw (← masks) (sym c.is_masked.ensures
    ∙ c.if-is_masked.false)
    in let each : length l.queues ≡ length l.masks = rw (← c.self.view_is) c.self.invariant
    in let here : c.index-deref-hart.result ≡ get_or l.queues c.args.hart c.index-deref-hart.result =
    rw (← queues) c.index-deref-hart.is
    in ap (λ o. picked o top) c.first.ensures.first
    ∙ first_chosen c.args.hart top l t c.index-deref-hart.result open_to each here held
