-- The entries so far stand behind the header, and nothing else was touched.
use Rattle.std.proofs.Common.{◌≡◌, ◌++◌, ◌+◌, ◌*◌, take, drop, length}
use Rattle.std.specs.List.{flat_map}
use Rattle.reri_fields.specs.Block.{header, entry}
use Rattle.ghes_block.proofs.block.encode_all.Given as goal

abbrev pub invariant-loop-copy : goal.invariant-loop-copy
invariant-loop-copy l =
    (l.place ≡ 20 + 120 * l.copy-index)
    × (take l.place l.out ≡ header l.copies ++ flat_map entry (take l.copy-index l.copies))
    × (drop l.place l.out ≡ drop l.place l.fn.out)
    × (length l.out ≡ 500)
