-- A hart's line, and then those of its handlers.
use Rattle.std.proofs.Common.{refl}
use Rattle.board_report.proofs.OneMore.{grows-more}
use Rattle.board_report.proofs.walks.write_one_hart.Goals as goal

pub returns-clause-wrote : goal.returns-clause-wrote
returns-clause-wrote g c = grows-more _ _ _ _ _ _ refl c.write_hart.ensures.wrote c.write_frames.ensures.wrote
