-- The first record that is found signalled is the least, and a search that finds none has seen each.
use Rattle.std.proofs.Common.{◌≡◌, ◌<◌, length, false, Some, None, below_more, inl, inr, ap, sym, ◌∙◌, arith}
use Rattle.std.proofs.lemmas.Bool.{cases_lt}
use Rattle.reri_fields.specs.Banks.{is_signalled_at, is_signalled_after, IsLeast}
use Rattle.reri_bank.specs.Layout.{copies_in}
use Rattle.reri_bank.proofs.Signalled.{signalled_is, signalled_there, signalled_nowhere, least_same}
use Rattle.reri_bank.proofs.Placed.{laid_room}
use Rattle.reri_bank.proofs.bank.Bank.next_signalled.Goals as goal
use Rattle.reri_bank.proofs.bank.Bank.next_signalled.Goals.{After-is_signalled, Then-is_signalled, After-loop-rec}

pub read-requires-clause-room : goal.read-requires-clause-room
read-requires-clause-room c =
    let there : c.loop-rec.rec < length (copies_in c.self.inside.words.items) = omega (arith, c.self.invariant.1) in
    omega (
      arith,
      laid_room c.self.inside.words.items c.loop-rec.rec c.self.invariant.0 there,
      ap length
          c.deref.ensures.value,
    )

-- whether the record that the loop has come to is signalled
here : (c : After-is_signalled) → is_signalled_at c.args.self.now.copies c.loop-rec.rec ≡ c.is_signalled.result
here c =
    ap (λ v. is_signalled_at v.copies c.loop-rec.rec) (sym c.self.view_is)
    ∙ ap (λ words. is_signalled_at (copies_in words) c.loop-rec.rec) (sym c.deref.ensures.value)
    ∙ signalled_there (copies_in c.deref.result.now) c.loop-rec.rec c.read.result c.read.ensures.value
    ∙ sym c.is_signalled.ensures

found : (c : Then-is_signalled) → IsLeast (is_signalled_at c.args.self.now.copies) (Some c.loop-rec.rec)
found c = (here c.before ∙ c.if-is_signalled.true, c.loop-rec.invariant)

pub returns-then-is_signalled-clause-least : goal.returns-then-is_signalled-clause-least
returns-then-is_signalled-clause-least c = found c

pub returns-then-is_signalled-clause-stands : goal.returns-then-is_signalled-clause-stands
returns-then-is_signalled-clause-stands c =
    λ origins history s.
    least_same (is_signalled_at c.args.self.now.copies) (is_signalled_after origins history) (Some c.loop-rec.rec)
    (signalled_is origins history c.args.self.now s) (found c)

pub loop-rec-preserved : goal.loop-rec-preserved
loop-rec-preserved c =
    below_more (λ at. is_signalled_at c.args.self.now.copies at ≡ false) c.loop-rec.rec c.loop-rec.invariant
    (here c.before ∙ c.if-is_signalled.false)

none : (c : After-loop-rec) → IsLeast (is_signalled_at c.args.self.now.copies) None
none c =
    let many : c.self.inside.count ≡ length c.args.self.now.copies = c.self.invariant.1
    ∙ ap (λ v. length v.copies) c.self.view_is in
    λ at.
    elim (cases_lt at c.loop-rec.rec) as (λ _. is_signalled_at c.args.self.now.copies at ≡ false) [
      | inl before ↦ c.loop-rec.invariant at before
      | inr after ↦ signalled_nowhere c.args.self.now.copies at (omega (arith, many))
    ]

pub returns-clause-least : goal.returns-clause-least
returns-clause-least c = none c

pub returns-clause-stands : goal.returns-clause-stands
returns-clause-stands c =
    λ origins history s.
    least_same (is_signalled_at c.args.self.now.copies) (is_signalled_after origins history) None
    (signalled_is origins history c.args.self.now s) (none c)
