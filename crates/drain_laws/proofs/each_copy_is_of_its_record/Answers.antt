use Rattle.board_plan.specs.Run.{ran}
use Rattle.drain_laws.proofs.Showing.{each_copy_is_of_its_record}
use Rattle.drain_laws.proofs.each_copy_is_of_its_record.Goals as goal

pub returns : goal.returns
returns c = λ plan acts tries is. each_copy_is_of_its_record plan acts (ran plan acts tries).state
