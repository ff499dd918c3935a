-- The six words stand one behind the other, and they are all of the section.
use Rattle.std.proofs.Common.{◌≡◌, take, arith}
use Rattle.std.proofs.lemmas.List.{take_all}
use Rattle.reri_fields.specs.Block.{section}
use Rattle.ghes_block.proofs.block.section.Goals as goal

pub returns : goal.returns
unfolding section
returns c =
    let whole : take 48 c.put_u64-6.new.out ≡ c.put_u64-6.new.out = take_all 48 c.put_u64-6.new.out (omega arith) in
    cc
