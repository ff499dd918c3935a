-- One more copy, and the block of all of them.
use Rattle.std.proofs.Common.{List, [], ◌∷◌, length, length-append, ap, arith}
use Rattle.reri_fields.specs.declared.report.RecordCopy.{RecordCopy}
use Rattle.reri_fields.specs.Block.{AreWords}
use Rattle.ghes_block.proofs.Entries.{holds_more}
use Rattle.ghes_block.proofs.slot.Slot.hold.Goals as goal

pub invariant_of-self : goal.invariant_of-self
invariant_of-self c =
    let words : AreWords c.args.copy = record {
      control = omega arith;
      status = omega arith;
      address = omega arith;
      info = omega arith;
      supplement = omega arith;
      time = omega arith;
    }
    in holds_more c.self.inside.copies.items c.args.copy c.push.new.self.items c.as_slice.result.now c.self.inside.bytes
    c.encode_all-self-inside.new.out c.self.inside.length c.encode_all-self-inside.result c.self.invariant
    c.requires.copy words
    c.push.ensures.items c.as_slice.ensures.value (omega (
      arith,
      c.requires.room,
      ap (λ (cs : List RecordCopy). length cs) c.self.view_is,
      ap (λ (cs : List RecordCopy). length cs) c.push.ensures.items,
      length-append c.self.inside.copies.items (c.args.copy ∷ []),
    )) c.encode_all-self-inside.ensures.length
    c.encode_all-self-inside.ensures.block
