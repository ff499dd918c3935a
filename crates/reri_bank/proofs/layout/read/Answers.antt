-- The words at a record's place are its registers.
use Rattle.std.proofs.Common.{◌≡◌, sym, ◌∙◌, ap, Some, slice_get}
use Rattle.reri_bank.specs.Layout.{copies_in}
use Rattle.reri_bank.proofs.Placed.{read_is}
use Rattle.reri_bank.proofs.layout.read.Goals as goal
use Rattle.reri_bank.proofs.layout.read.Goals.{After-record_at}

is_there : (c : After-record_at) → slice_get (copies_in c.args.words.now) c.args.rec ≡ Some c.record_at.result
is_there c =
    read_is (copies_in c.args.words.now) c.args.words.now c.args.rec c.place.result c.requires.laid.same
    c.requires.there c.place.ensures
    ∙ ap (λ copy. Some copy) (sym c.record_at.ensures)

pub returns-clause-value : goal.returns-clause-value
returns-clause-value c = is_there c

pub returns-clause-kept : goal.returns-clause-kept
returns-clause-kept c = c.requires.laid.records c.args.rec c.record_at.result (is_there c)
