-- A word of the layout, or none.
use Rattle.std.proofs.Common.{◌<◌, ◌*◌, ◌+◌, ◌/◌, length, refl, sym, ap, ◌∙◌, arith}
use Rattle.std.proofs.lemmas.Bool.{true≢false}
use Rattle.std.proofs.lemmas.Option.{slice_get_read, slice_get_past}
use Rattle.reri_bank.specs.Layout.{word_at}
use Rattle.reri_bank.proofs.Placed.{word_there, word_nowhere, laid_length}
use Rattle.reri_bank.proofs.bank.Bank.word.Goals as goal
use Rattle.reri_bank.proofs.bank.Bank.word.Goals.{Then-at-len, Else-at-len}

pub returns-then-offset-ne0-clause-value : goal.returns-then-offset-ne0-clause-value
returns-then-offset-ne0-clause-value c = sym (word_nowhere c.args.self.now.copies c.args.offset c.if-offset-ne0.true)

pub returns-then-at-len-clause-value : goal.returns-then-at-len-clause-value
returns-then-at-len-clause-value c =
    let words = c.self.inside.words.items in
    sym (ap (λ v. word_at v.copies c.args.offset) (sym c.self.view_is)
    ∙ word_there words c.args.offset c.self.invariant.0 (omega (arith, c.if-offset-ne0.false))
    ∙ slice_get_past words (c.args.offset / 8) (omega (arith, c.self.inside.words.ok.0)))

pub returns-clause-value : goal.returns-clause-value
returns-clause-value c =
    let words = c.self.inside.words.items in
    let bound : c.args.offset / 8 < length words = omega (arith, c.self.inside.words.ok.0) in
    sym (ap (λ v. word_at v.copies c.args.offset) (sym c.self.view_is)
    ∙ word_there words c.args.offset c.self.invariant.0 (omega (arith, c.if-offset-ne0.false))
    ∙ slice_get_read words (length words) (c.args.offset / 8) c.index.result.now refl bound c.index.ensures)

pub returns-then-at-len-clause-none : goal.returns-then-at-len-clause-none
returns-then-at-len-clause-none c =
    let many = laid_length c.self.inside.words.items c.self.invariant.0
    ∙ ap (λ v. 1 + 6 * length v.copies) c.self.view_is in
    (λ _ h. absurd (omega (arith, h.1, many, c.self.inside.words.ok.0)), λ _. refl)

pub returns-clause-none : goal.returns-clause-none
returns-clause-none c =
    let many = laid_length c.self.inside.words.items c.self.invariant.0
    ∙ ap (λ v. 1 + 6 * length v.copies) c.self.view_is in (
      λ h _. absurd (true≢false h),
      λ h. absurd
          (h (omega (arith, c.if-offset-ne0.false), omega (arith, many, c.self.inside.words.ok.0))),
    )
