-- The bytes of a full slot spell its copies.
use Rattle.std.proofs.Common.{◌≤◌, length, take, sym, subst}
use Rattle.reri_fields.specs.Block.{Spells}
use Rattle.ghes_block.proofs.Entries.{held_spells}
use Rattle.ghes_block.proofs.slot.Slot.bytes.Goals as goal

pub returns-clause-spelled : goal.returns-clause-spelled
returns-clause-spelled c = λ some.
    subst (λ cs. Spells (take c.self.inside.length c.self.inside.bytes) cs) c.self.view_is
    (held_spells c.self.inside.copies.items c.self.inside.bytes c.self.inside.length c.self.invariant
    (subst (λ cs. 1 ≤ length cs) (sym c.self.view_is) some))
