-- The words that were written hold the record that was logged into.
use Rattle.std.proofs.Common.{◌∷◌, sym, ◌∙◌, ap, subst}
use Rattle.reri_fields.specs.Records.{Stands}
use Rattle.reri_fields.specs.Records.Event.{Reported}
use Rattle.reri_fields.specs.Words.{copy_at}
use Rattle.reri_fields.proofs.Written.{written_is}
use Rattle.reri_log.proofs.log_words.Goals as goal

pub returns-clause-stands : goal.returns-clause-stands
returns-clause-stands c =
    λ origin history step early s.
    let now = ap (λ words. copy_at words c.args.at) c.put_record.ensures
    ∙ written_is c.args.words.now c.args.at c.log-answer.new.rec c.requires.room in
    let before = subst (Stands origin history) (sym c.record_at-rec.ensures) s in
    subst (Stands origin (Reported (record { step = step; report = c.args.report.now }) ∷ history)) (sym now)
    (c.log-answer.ensures.stands origin history step early before)
