-- A copy by value has registers of 64 bits.
use Rattle.std.proofs.Common.{arith}
use Rattle.reri_fields.specs.Block.{AreWords}
use Rattle.ghes_block.proofs.copies.fits.Goals as goal

pub returns : goal.returns
returns c =
    let words : AreWords c.args.copy = record {
      control = omega arith;
      status = omega arith;
      address = omega arith;
      info = omega arith;
      supplement = omega arith;
      time = omega arith;
    }
    in (λ t. (c.is_copy.ensures.0 t, words), λ p. c.is_copy.ensures.1 p.0)
