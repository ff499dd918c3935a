-- Goals of `log` that the tactics leave open.
use Rattle.std.proofs.Common.{sym, ◌∙◌}
use Rattle.reri_fields.specs.declared.report.Logged.TheVariants.{Disabled, Counted}
use Rattle.reri_log.specs.Update.{Updates}
use Rattle.reri_log.proofs.Logging.{updates_disabled, updates_counted, updates_entered, logged_stands, logged_answer}
use Rattle.reri_log.proofs.log.Goals as goal
use Rattle.reri_log.proofs.log.Goals.{Then-not-enable, Then-count_up}

off : (c : goal.Then-not-enable) → Updates c.args.rec.now c.args.report.now c.args.rec.now Disabled
off c = updates_disabled c.args.rec.now c.args.report.now (sym c.enable.ensures ∙ c.if-not-enable.true)

pub returns-then-not-enable-clause-registers : goal.returns-then-not-enable-clause-registers
returns-then-not-enable-clause-registers c = off c

pub returns-then-not-enable-clause-stands : goal.returns-then-not-enable-clause-stands
returns-then-not-enable-clause-stands c = logged_stands _ _ _ _ (off c)

pub returns-then-not-enable-clause-answer : goal.returns-then-not-enable-clause-answer
returns-then-not-enable-clause-answer c = logged_answer _ _ _ _ (off c)

counted_up : (c : Then-count_up) → Updates c.args.rec.now c.args.report.now c.count_up.new.rec Counted
counted_up c = updates_counted _ _ _ _ (sym c.enable.ensures ∙ c.if-not-enable.false) c.count_up.ensures
    c.if-count_up.true

pub returns-then-count_up-clause-registers : goal.returns-then-count_up-clause-registers
returns-then-count_up-clause-registers c = counted_up c

pub returns-then-count_up-clause-stands : goal.returns-then-count_up-clause-stands
returns-then-count_up-clause-stands c = logged_stands _ _ _ _ (counted_up c)

pub returns-then-count_up-clause-answer : goal.returns-then-count_up-clause-answer
returns-then-count_up-clause-answer c = logged_answer _ _ _ _ (counted_up c)

pub returns-clause-registers : goal.returns-clause-registers
returns-clause-registers c = updates_entered _ _ _ _ _ _ (sym c.enable.ensures ∙ c.if-not-enable.false)
    c.count_up.ensures c.if-count_up.false c.enter.ensures

pub returns-clause-stands : goal.returns-clause-stands
returns-clause-stands c = logged_stands _ _ _ _
    (updates_entered _ _ _ _ _ _ (sym c.enable.ensures ∙ c.if-not-enable.false) c.count_up.ensures c.if-count_up.false
    c.enter.ensures)

pub returns-clause-answer : goal.returns-clause-answer
returns-clause-answer c = logged_answer _ _ _ _
    (updates_entered _ _ _ _ _ _ (sym c.enable.ensures ∙ c.if-not-enable.false) c.count_up.ensures c.if-count_up.false
    c.enter.ensures)
