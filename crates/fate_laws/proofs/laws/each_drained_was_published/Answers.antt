-- Each drained error was published once.
use Rattle.fate_laws.proofs.Closing.{each_drained_was_published}
use Rattle.fate_laws.proofs.laws.each_drained_was_published.Goals as goal

pub returns : goal.returns
returns c = λ plan acts is. each_drained_was_published plan acts
