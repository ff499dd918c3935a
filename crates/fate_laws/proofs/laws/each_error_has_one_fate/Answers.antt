-- Each error has one fate.
use Rattle.fate_laws.proofs.Closing.{each_error_has_one_fate}
use Rattle.fate_laws.proofs.laws.each_error_has_one_fate.Goals as goal

pub returns : goal.returns
returns c = λ plan acts tries is. each_error_has_one_fate plan acts tries
