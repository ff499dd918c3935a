-- Goals of `read` that the tactics leave open.
use Rattle.std.proofs.Common.{◌≡◌, ◌≤◌, length, take, drop, ◌++◌, arith, min, ap}
use Rattle.std.proofs.lemmas.Grind.{common_steps}
use Rattle.ras_io.proofs.Copied.{reads_front, reads_end}
use Rattle.ras_io.proofs.memory.MemSourceSource.read.Goals as goal

pub returns-clause-bytes : goal.returns-clause-bytes
returns-clause-bytes c =
    let view : drop c.self.inside.at c.self.inside.bytes.items ≡ c.args.self.now.left =
    ap (λ s. s.left) c.self.view_is in
    let n = c.min-count.result in
    let left = c.args.self.now.left in
    let fits : n ≤ length left = grind (arith, common_steps) in
    let copied : c.copy_from_slice.new.self ≡ take n left = grind (arith, common_steps) in
    let room : n ≤ length c.args.buf.now = omega arith in
    let all : length (c.copy_from_slice.new.self ++ drop n c.args.buf.now) ≡ length c.args.buf.now =
    grind (arith, common_steps) in
    let count : n ≡ min (min c.self.inside.most (length c.args.buf.now)) (length left) = grind (arith, common_steps)
    in (
      reads_front _ _ _ _ _ _ fits view copied,
      λ none space. reads_end _ _ c.self.inside.most (length c.args.buf.now) _ _ view count c.self.invariant.1
          (let e = all in omega arith) none,
    )
