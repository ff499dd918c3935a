-- One bank more.
use Rattle.std.proofs.Common.{◌≡◌, [], ◌∷◌, List, length, slice_get, false, None, Some, sym, ap, ◌∙◌, subst, arith, length-append, get_or}
use Rattle.std.proofs.lemmas.Option.{slice_get-get_or}
use Rattle.board_plan.specs.declared.plan.BankDecl.{BankDecl}
use Rattle.board_bank.specs.Standing.{BankParts}
use Rattle.board_parts.specs.Shows.{AreBanks}
use Rattle.board_parts.proofs.MadeOf.{AreMade, one_bank_at, all_made, fresh_banks}
use Rattle.board_parts.proofs.making.banks.Goals as goal

abbrev no_bank : BankDecl
no_bank = record { home = 0; global = false; recs = 0; plat = None; gather = 0 }

pub loop-at-preserved : goal.loop-at-preserved
loop-at-preserved c =
    let plan = c.args.plan.now in
    let decls = c.as_slice-decls.result.now in
    let banks = c.loop-at.banks in
    let at = c.loop-at.at in
    let bank = c.in_ok-bank.field-0 in
    let declared : slice_get plan.banks at ≡ Some (get_or decls at no_bank) =
    ap (λ (ds : List BankDecl). slice_get ds at) (sym c.as_slice-decls.ensures)
    ∙ slice_get-get_or decls at no_bank c.loop-at-test.true in
    record {
      there = omega (
        arith,
        ap (λ (bs : List BankParts). length bs) c.in_ok-push.ensures.ok,
        length-append banks (bank ∷ []),
        c.loop-at.invariant.there,
      );
      made = subst (AreMade plan) (sym c.in_ok-push.ensures.ok)
          (one_bank_at plan banks at (get_or decls at no_bank) bank c.loop-at.invariant.there declared
          c.in_ok-bank.ensures c.loop-at.invariant.made);
    }

pub returns : goal.returns
returns c =
    let plan = c.args.plan.now in
    let there : length c.loop-at.banks ≡ length plan.banks =
    omega (
      arith,
      c.loop-at.invariant.there,
      c.loop-at-test.false,
      c.loop-at.auto.at-end,
      ap (λ (ds : List BankDecl). length ds) c.as_slice-decls.ensures,
    ) in
    subst (AreBanks plan (fresh_banks plan)) (sym c.into_vec.ensures)
    (all_made plan c.loop-at.banks there c.loop-at.invariant.made)
