-- An op that is added is found where none was found before.
use Rattle.std.proofs.Common.{◌==◌, ap, sym, ◌∙◌, cond, Some, is_some}
use Rattle.std.specs.Cmp.{unsigned_tied}
use Rattle.std.specs.Ordering.{nat_cmp}
use Rattle.std.specs.BTreeMap.{get}
use Rattle.board_ops.proofs.Indexing.{known_already, first_there}
use Rattle.board_ops.proofs.index.Tree.add.Goals as goal

pub returns-then-contains_key : goal.returns-then-contains_key
returns-then-contains_key c = λ ops h.
    record {
      finds = λ q. h.finds q ∙ sym (known_already ops c.args.placed.now q
          (ap is_some (sym (h.finds c.args.placed.now.pc)) ∙ sym c.contains_key.ensures ∙ c.if-contains_key.true));
    }

pub returns-in-Ok : goal.returns-in-Ok
returns-in-Ok c = λ ops h.
    let p = c.args.placed.now in
    record {
      finds = λ q. c.in-Ok.ensures.updates.0 q
          ∙ ap (λ b. cond b (Some p.op) (get nat_cmp c.args.self.now.by_pc q)) (unsigned_tied p.pc q)
          ∙ ap (cond (p.pc == q) (Some p.op)) (h.finds q)
          ∙ sym (first_there ops p q
          (ap is_some (sym (h.finds p.pc)) ∙ sym c.contains_key.ensures ∙ c.if-contains_key.false));
    }
