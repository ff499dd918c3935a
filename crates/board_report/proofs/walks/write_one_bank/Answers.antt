-- A bank's line, then its records, and then its block.
use Rattle.std.proofs.Common.{Bool, List, [], ◌∷◌, refl, ap, ◌∙◌}
use Rattle.reri_fields.specs.declared.report.RecordCopy.{RecordCopy}
use Rattle.board_report.specs.Told.{told_bank}
use Rattle.board_report.proofs.OneMore.{grows-more, grows-same}
use Rattle.board_report.proofs.walks.write_one_bank.Goals as goal

pub returns-clause-wrote : goal.returns-clause-wrote
returns-clause-wrote g c =
    let number = c.args.number in
    let d = c.args.decl.now in
    let phase = c.args.phase in
    let asking = ap (λ (b : Bool). told_bank number d b c.copies.result.now phase ∷ []) c.asks.ensures in
    let full = ap (λ (cs : List RecordCopy). told_bank number d c.args.bank.now.asks cs phase ∷ [])
    c.copies.ensures.copies in
    grows-more _ _ _ _ _ _ refl
    (grows-more _ _ _ _ _ _ refl (grows-same _ _ _ _ (asking ∙ full) c.write_bank.ensures.wrote)
    c.write_records.ensures.wrote)
    c.write_blocks.ensures.wrote
