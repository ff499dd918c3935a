-- A bank has no more records than there may be.
use Rattle.std.proofs.Common.{◌≡◌, length, sym, ap, ◌∙◌, arith}
use Rattle.std.proofs.lemmas.List.{length-map}
use Rattle.std.proofs.lemmas.List.FromFn.{length-map-range_with_len}
use Rattle.reri_bank.specs.Registers.{origin_of as origin_from}
use Rattle.board_parts.proofs.making.bank.Goals as goal

pub new-requires-clause-room : goal.new-requires-clause-room
new-requires-clause-room c =
    let is = c.requires.plan.banks c.args.bank c.args.decl.now c.requires.declared in
    let origins = c.in_ok-origins.origins.items in
    let many : length origins ≡ c.args.decl.now.recs =
    sym (length-map origins origin_from) ∙ ap length c.in_ok-origins.ensures.values
    ∙ length-map-range_with_len _ 0 c.args.decl.now.recs in
    omega (arith, many, is.few, ap length c.as_slice-2.ensures.value)
