-- The first word is the summary.
use Rattle.std.proofs.Common.{ap, ◌∙◌, arith}
use Rattle.std.proofs.lemmas.List.{get_or_read}
use Rattle.reri_bank.specs.Registers.{summary}
use Rattle.reri_bank.proofs.Placed.{laid_length, first_is}
use Rattle.reri_bank.proofs.bank.Bank.summary.Goals as goal

pub index-requires : goal.index-requires
index-requires c = omega (arith, laid_length c.self.inside.words.items c.self.invariant.0, c.self.inside.words.ok.0)

pub returns : goal.returns
returns c =
    let words = c.self.inside.words.items in
    get_or_read words _ _ (omega (arith, laid_length words c.self.invariant.0)) c.index.ensures 0
    ∙ first_is words c.self.invariant.0
    ∙ ap (λ v. summary v.copies) c.self.view_is
