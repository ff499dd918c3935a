-- One instance after another.
use Rattle.std.proofs.Common.{◌<◌, ◌∙◌, ◌≡◌, sym, ap, subst, length, arith}
use Rattle.sse_base.specs.Choice.{waits_for}
use Rattle.sse_base.specs.Events.{slots}
use Rattle.sse_target.specs.Lines.{waiting_of}
use Rattle.sse_target.specs.Steps.{Takes, moved}
use Rattle.sse_target.proofs.Waits.{followed_takes, one_followed, none_followed, all_followed}
use Rattle.sse_target.proofs.lines.follow_all.Goals as goal

pub loop-i-init : goal.loop-i-init
loop-i-init c = λ h k. c.requires.each h k ∙ none_followed h c.args.before.now c.args.after.now c.args.table.now

pub follow-requires : goal.follow-requires
follow-requires c = λ h k x y.
    subst (Takes (waiting_of c.slot-slot.result)) (sym (c.loop-i.invariant h k))
    (followed_takes h c.loop-i.i c.args.before.now c.args.after.now c.args.table.now c.slot-slot.result
    c.requires.board c.slot-slot.ensures x y)

pub loop-i-preserved : goal.loop-i-preserved
loop-i-preserved c = λ h k.
    let here : h < length c.loop-i.queues = omega arith
    in c.follow.ensures h here
    ∙ ap (moved (waits_for h c.args.before.now c.slot-slot.result) (waits_for h c.args.after.now c.slot-slot.result)
    (waiting_of c.slot-slot.result)) (c.loop-i.invariant h here)
    ∙ one_followed h c.loop-i.i c.args.before.now c.args.after.now c.args.table.now c.slot-slot.result
    c.requires.board c.slot-slot.ensures

pub returns : goal.returns
returns c = λ h k.
    let here : h < length c.loop-i.queues = omega arith
    in let end : c.loop-i.i ≡ length (slots c.args.table.now) = omega arith
    in c.loop-i.invariant h here ∙ all_followed h c.loop-i.i c.args.before.now c.args.after.now c.args.table.now end
