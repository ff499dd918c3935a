-- Goals of `write_register` that the tactics leave open.
use Rattle.std.proofs.Common.{List, ℕ, ◌≡◌, ◌++◌, OnOk, string_bytes, subst}
use Rattle.board_load.proofs.Lines.{register_text}
use Rattle.board_load.proofs.harts.write_register.Goals as goal

pub returns : goal.returns
returns c =
    subst (λ (t : List ℕ). OnOk c.writeln.result (string_bytes c.writeln.new.self ≡ string_bytes c.args.text.now ++ t))
    (register_text c.args.id.now c.args.entry) c.writeln.ensures.bytes
