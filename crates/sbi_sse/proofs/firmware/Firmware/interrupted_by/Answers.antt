-- A local instance runs on its own hart, or nowhere.
use Rattle.std.proofs.Common.{◌≡◌, ◌<◌, ◌≤◌, List, length, get_or, ap, sym, ◌∙◌, arith}
use Rattle.sse_base.specs.declared.ids.Instance.{Instance}
use Rattle.sse_base.specs.Machine.{Machine}
use Rattle.sse_base.specs.Contexts.{Stack}
use Rattle.sse_base.specs.Calls.{interrupted_on}
use Rattle.sbi_sse.proofs.Interrupted.{read_there, read_nowhere}
use Rattle.sbi_sse.proofs.firmware.Firmware.interrupted_by.Goals as goal

pub returns-in-Some : goal.returns-in-Some
returns-in-Some c = λ attr.
    let x = c.self.inside
    in let ss : List Stack = x.stacks.items
    in let s : Stack = c.in-Some.stack.now
    in let looked = c.in-Some.ensures.lookup
    in let l : c.in-Local.hart < length ss = omega (arith, looked.3.0, ap length c.deref.ensures.value)
    in let here : s ≡ get_or ss c.in-Local.hart s =
    looked.1 ∙ ap (λ (xs : List Stack). get_or xs c.in-Local.hart s) c.deref.ensures.value
    in c.interrupted_here.ensures attr
    ∙ sym (read_there attr c.in-Local.id c.in-Local.hart x.table x.targets.masks ss s c.self.invariant.kept l here)
    ∙ ap (λ (y : Instance). interrupted_on attr y ss) (sym c.in-Local.is)
    ∙ ap (λ (m : Machine). interrupted_on attr c.args.at m.stacks) c.self.view_is

pub returns-in-None : goal.returns-in-None
returns-in-None c = λ attr.
    let x = c.self.inside
    in let ss : List Stack = x.stacks.items
    in let past : length ss ≤ c.in-Local.hart = omega (arith, c.in-None.ensures.lookup, ap length c.deref.ensures.value)
    in c.nothing.ensures attr
    ∙ sym (read_nowhere attr c.in-Local.id c.in-Local.hart x.table x.targets.masks ss c.self.invariant.kept past)
    ∙ ap (λ (y : Instance). interrupted_on attr y ss) (sym c.in-Local.is)
    ∙ ap (λ (m : Machine). interrupted_on attr c.args.at m.stacks) c.self.view_is
