-- An instance stays, or leaves one hart and waits on another.
use Rattle.std.proofs.Common.{◌<◌, ◌∙◌, sym, ap, subst, length, get_or, [], arith}
use Rattle.sse_base.specs.Choice.{is_hart}
use Rattle.sse_target.specs.Lines.{waiting_of}
use Rattle.sse_target.specs.Steps.{Takes, put_if}
use Rattle.sse_target.proofs.Waits.{stays_there, goes_over, goes_takes}
use Rattle.sse_target.proofs.lines.follow.Goals as goal

pub returns-then-eq : goal.returns-then-eq
returns-then-eq c = λ h k.
    stays_there h c.args.before.now c.args.after.now c.args.slot.now (get_or c.args.queues.now h [])
    c.waits_on-from.result c.waits_on-to.result
    c.waits_on-from.ensures c.waits_on-to.ensures (sym c.eq.ensures ∙ c.if-eq.true)

pub put_in-requires : goal.put_in-requires
put_in-requires c = λ h k e.
    let here : h < length c.args.queues.now = omega arith
    in subst (Takes (waiting_of c.args.slot.now)) (sym (c.take_out.ensures h here))
    (goes_takes h c.args.before.now c.args.after.now c.args.slot.now (get_or c.args.queues.now h [])
    c.waits_on-from.result c.waits_on-to.result
    c.waits_on-from.ensures c.waits_on-to.ensures (sym c.eq.ensures ∙ c.if-eq.false) e (c.requires h here))

pub returns : goal.returns
returns c = λ h k.
    let here : h < length c.take_out.new.queues = omega arith
    in c.put_in.ensures h here
    ∙ ap (put_if (is_hart h c.waits_on-to.result) (waiting_of c.args.slot.now)) (c.take_out.ensures h k)
    ∙ goes_over h c.args.before.now c.args.after.now c.args.slot.now (get_or c.args.queues.now h [])
    c.waits_on-from.result c.waits_on-to.result
    c.waits_on-from.ensures c.waits_on-to.ensures (sym c.eq.ensures ∙ c.if-eq.false)
