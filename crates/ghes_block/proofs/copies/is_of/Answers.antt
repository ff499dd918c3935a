-- The kind of a copy by its greatest severity.
use Rattle.std.proofs.Common.{rules}
use Rattle.reri_fields.specs.Block.{has_worst, is_corrected, is_uncorrected, is_worst}
use Rattle.ghes_block.specs.Sections.{is_of}
use Rattle.ghes_block.proofs.copies.is_of.Goals as goal

pub returns-in-Some-Ce : goal.returns-in-Some-Ce
unfolding is_of is_corrected is_uncorrected has_worst is_worst
returns-in-Some-Ce c = search rules

pub returns-in-Some-Ued : goal.returns-in-Some-Ued
unfolding is_of is_corrected is_uncorrected has_worst is_worst
returns-in-Some-Ued c = search rules

pub returns-in-Some-Uec : goal.returns-in-Some-Uec
unfolding is_of is_corrected is_uncorrected has_worst is_worst
returns-in-Some-Uec c = search rules

pub returns-in-None : goal.returns-in-None
unfolding is_of is_corrected is_uncorrected has_worst is_worst
returns-in-None c = search rules
