-- Of a bank that is there it is told by the bank.
use Rattle.std.proofs.Common.{◌≡◌, ◌&&◌, ◌==◌, true, is_some, length, refl, sym, ap, ◌∙◌, arith}
use Rattle.std.proofs.lemmas.Bool.Decides.{nat_tests}
use Rattle.std.proofs.lemmas.Option.{slice_get_read}
use Rattle.board_parts.proofs.AtBanks.{drains_is}
use Rattle.board_parts.proofs.parts.Parts.is_draining.Goals as goal

pub returns : goal.returns
returns c =
    λ plan s h.
    let p = c.args.self.now in
    let d = c.index.result.now in
    let b = c.index-2.result.now in
    let decl = slice_get_read p.decls.items (length p.decls.items) c.args.at d refl (omega
    (arith, p.declared, c.requires)) c.index.ensures in
    let here = slice_get_read p.banks.items (length p.banks.items) c.args.at b refl c.requires c.index-2.ensures in
    let home : (d.home == c.args.hart) ≡ true = let e = c.if-index-hart.false in grind (arith, nat_tests) in
    drains_is plan s p c.args.hart c.args.at d b h decl here
    ∙ ap (λ own. own && (is_some b.drain)) home
    ∙ sym c.is_draining.ensures
