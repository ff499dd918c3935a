-- A record that has nothing but a count.
use Rattle.std.proofs.Common.{arith}
use Rattle.reri_fields.proofs.Fresh.{fresh_stands, fresh_is_record}
use Rattle.reri_fields.proofs.report.RecordCopy.fresh.Goals as goal

pub returns-clause-stands : goal.returns-clause-stands
returns-clause-stands c = fresh_stands c.args.control c.args.count _ (omega arith) c.with_count.ensures.set
    c.with_count.ensures.others

pub returns-clause-clean : goal.returns-clause-clean
returns-clause-clean c = λ clean. fresh_is_record c.args.control c.args.count _ c.with_count.ensures.set
    c.with_count.ensures.others clean
