-- Goals of `add` that the tactics leave open.
use Rattle.std.proofs.Common.{◌==◌, true, ap, sym, ◌∙◌, cond}
use Rattle.std.specs.Cmp.{unsigned_tied}
use Rattle.std.specs.Ordering.{nat_cmp}
use Rattle.std.specs.BTreeSet.{contains}
use Rattle.board_plan.specs.Script.{has_op}
use Rattle.board_script.proofs.Tables.{has_op-added}
use Rattle.board_script.proofs.op_table.OpTable.add.Goals as goal

pub invariant_of-self-in-Ok : goal.invariant_of-self-in-Ok
invariant_of-self-in-Ok c = λ pc.
    let old = c.self.inside.placed.items in
    let placed = c.args.placed in
    c.in-Ok.ensures.updates.0 pc
    ∙ ap (λ b. cond b true (contains nat_cmp c.self.inside.addresses pc)) (unsigned_tied placed.pc pc)
    ∙ ap (cond (placed.pc == pc) true) (c.self.invariant pc)
    ∙ sym (has_op-added old placed pc)
    ∙ ap (has_op pc) (cc)
