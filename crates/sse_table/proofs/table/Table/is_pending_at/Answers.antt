-- The slot that stands at the instance's number.
use Rattle.std.proofs.Common.{◌≡◌, ◌<◌, false, length, get_or, ap, sym, ◌∙◌, subst, arith}
use Rattle.std.specs.Prelude.{Some, slice_get}
use Rattle.std.proofs.lemmas.List.{get_or_default}
use Rattle.sse_base.specs.declared.ids.Instance.{Instance}
use Rattle.sse_base.specs.declared.events.Event.{Event}
use Rattle.sse_base.specs.Ids.{place}
use Rattle.sse_base.specs.Events.{Events, event, fresh_event, slots}
use Rattle.sse_base.proofs.Instances.{at_its_place}
use Rattle.sse_table.specs.Found.{IsPlace}
use Rattle.sse_table.proofs.Slots.{slot_at}
use Rattle.sse_table.proofs.table.Table.is_pending_at.Goals as goal

pub returns-clause-slot : goal.returns-clause-slot
returns-clause-slot c =
    let at : Instance = c.args.place.at
    in let x = c.self.inside
    in let k : IsPlace c.args.place x.instances =
    subst (λ (t : Events). IsPlace c.args.place t.instances) (sym c.self.view_is) c.requires
    in let stands : place at x.instances < length x.each.items = omega (arith, k.on_board, c.self.invariant)
    in let e : Event = get_or x.each.items (place at x.instances) (fresh_event false 0)
    in let own : at ≡ get_or x.instances c.args.place.index at =
    sym (ap (λ i. get_or x.instances i at) k.index ∙ at_its_place at x.instances at k.on_board)
    in let its : e ≡ get_or x.each.items c.args.place.index e =
    get_or_default x.each.items (place at x.instances) (fresh_event false 0) e stands
    ∙ ap (λ i. get_or x.each.items i e) (sym k.index)
    in subst (λ (t : Events). slice_get (slots t) c.args.place.index ≡ Some (record {
      at = at;
      event = event at t;
      pending = c.test.result;
    })) c.self.view_is
    (slot_at x.instances x.each.items x.marks c.args.place.index at e c.test.result
    (omega (arith, k.index, k.on_board)) (omega (arith, k.index, stands))
    (omega (arith, k.index, k.on_board, c.self.invariant)) own its c.test.ensures)
