-- The three lines of a short report.
use Rattle.std.proofs.Common.{refl}
use Rattle.board_report.proofs.OneMore.{grows-more, wrote-of}
use Rattle.board_report.proofs.run_texts.put_short.Goals as goal

pub returns-clause-bytes : goal.returns-clause-bytes
returns-clause-bytes g c =
    let first = grows-more _ _ _ _ _ _ refl c.write_head.ensures.wrote c.write_fates.ensures.wrote in
    (wrote-of _ _ _ c.requires.going (grows-more _ _ _ _ _ _ refl first c.write_end.ensures.wrote)).bytes

pub returns-clause-cause : goal.returns-clause-cause
returns-clause-cause g c =
    let first = grows-more _ _ _ _ _ _ refl c.write_head.ensures.wrote c.write_fates.ensures.wrote in
    (wrote-of _ _ _ c.requires.going (grows-more _ _ _ _ _ _ refl first c.write_end.ensures.wrote)).cause

pub returns-clause-writes : goal.returns-clause-writes
returns-clause-writes g c =
    let first = grows-more _ _ _ _ _ _ refl c.write_head.ensures.wrote c.write_fates.ensures.wrote in
    (wrote-of _ _ _ c.requires.going (grows-more _ _ _ _ _ _ refl first c.write_end.ensures.wrote)).writes
