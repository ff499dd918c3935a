-- The numbers add up.
use Rattle.fate_laws.proofs.Closing.{numbers_add_up}
use Rattle.fate_laws.proofs.laws.fates_add_up.Goals as goal

pub returns : goal.returns
returns c = λ plan acts tries is. numbers_add_up plan acts tries
