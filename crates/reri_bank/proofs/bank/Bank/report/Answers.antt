-- An error is logged into its record, or names none.
use Rattle.std.proofs.Common.{◌≤◌, ap, sym, ◌∙◌, ◌||◌, nat_lt, subst, Some, length, arith}
use Rattle.std.proofs.lemmas.Option.{slice_get_within}
use Rattle.reri_fields.specs.Records.{Error}
use Rattle.reri_log.specs.Update.{Updates}
use Rattle.reri_bank.specs.Registers.{OneChanges}
use Rattle.reri_bank.proofs.Stands.{log_nowhere, logged_bank, logged_here}
use Rattle.reri_bank.proofs.bank.Bank.report.Goals as goal
use Rattle.reri_bank.proofs.bank.Bank.report.Goals.{Then-report-self}

past : (c : Then-report-self) → length c.args.self.now.copies ≤ c.args.report.now.rec
past c = subst (λ v. length v.copies ≤ c.args.report.now.rec) c.self.view_is (omega (arith, c.self.invariant.1))

pub returns-then-report-self-clause-stands : goal.returns-then-report-self-clause-stands
returns-then-report-self-clause-stands c =
    λ origins history step early s.
    log_nowhere origins history (record { step = step; report = c.args.report.now }) _ early s (past c)

pub returns-then-report-self-clause-answer : goal.returns-then-report-self-clause-answer
returns-then-report-self-clause-answer c =
    λ origins history step origin early s h.
    let within = slice_get_within origins c.args.report.now.rec origin h in
    absurd (omega (arith, s.count, past c))

pub returns-clause-stands : goal.returns-clause-stands
returns-clause-stands c =
    λ origins history step early s.
    let e : Error = record { step = step; report = c.args.report.now } in
    let one =
    subst (λ v. OneChanges (λ old new. Updates old c.args.report.now new c.log_at-answer.result)
    c.args.report.now.rec c.args.self.now.copies v.copies) (sym c.self-2.view_is) c.log_at-answer.ensures.records in
    let asking = ap (λ v. v.asks || nat_lt 0 c.level.result) c.self-2.view_is
    ∙ ap (λ b. b || nat_lt 0 c.level.result) c.log_at-answer.ensures.asking
    ∙ ap (λ n. c.args.self.now.asks || nat_lt 0 n) c.level.ensures in
    logged_bank origins history e c.args.self.now _ c.log_at-answer.result early s one asking

pub returns-clause-answer : goal.returns-clause-answer
returns-clause-answer c =
    λ origins history step origin early s h.
    let e : Error = record { step = step; report = c.args.report.now } in
    ap (λ x. Some x)
    (logged_here origins history e c.args.self.now c.log_at-answer.new.self c.log_at-answer.result origin early s
    c.log_at-answer.ensures.records h)
