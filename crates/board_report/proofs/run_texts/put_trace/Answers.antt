-- The lines of a trace.
use Rattle.board_report.proofs.OneMore.{wrote-of}
use Rattle.board_report.proofs.run_texts.put_trace.Goals as goal

pub returns-clause-bytes : goal.returns-clause-bytes
returns-clause-bytes g c = (wrote-of _ _ _ c.requires.going c.write_steps.ensures.wrote).bytes

pub returns-clause-cause : goal.returns-clause-cause
returns-clause-cause g c = (wrote-of _ _ _ c.requires.going c.write_steps.ensures.wrote).cause

pub returns-clause-writes : goal.returns-clause-writes
returns-clause-writes g c = (wrote-of _ _ _ c.requires.going c.write_steps.ensures.wrote).writes
