-- Where every bank is quiet no drain is due, and the banks of a fresh board are quiet.
use Rattle.std.proofs.Common.{◌≡◌, ℕ, ◌<◌, ◌==◌, ◌&&◌, Bool, true, false, List, length, slice_get, Some, None, is_some, refl, sym, ap, ◌∙◌, subst, arith}
use Rattle.std.specs.Prelude.{All}
use Rattle.std.proofs.lemmas.List.Elements.{All-get_or}
use Rattle.std.proofs.lemmas.Option.{get_or_from_slice_get}
use Rattle.reri_fields.specs.Banks.{asks}
use Rattle.reri_fields.specs.Drain.{bank_start, is_free}
use Rattle.reri_bank.proofs.Stands.{get_there}
use Rattle.board_plan.specs.declared.plan.Plan.{Plan}
use Rattle.board_plan.specs.State.{BoardState}
use Rattle.board_plan.specs.Step.{passes, is_draining, is_waiting, bank_due}
use Rattle.board_bank.specs.Standing.{BankParts}
use Rattle.board_parts.specs.declared.parts.Parts.{Parts}
use Rattle.board_parts.specs.Quiet.{IsQuiet}
use Rattle.board_parts.specs.Shows.{AreBanks, Shows}
use Rattle.board_parts.proofs.AtBanks.{drains_is, waits_is}
use Rattle.board_parts.proofs.MadeOf.{fresh_banks, fresh_bank_at}
use Rattle.board_parts.proofs.Searching.{due_waits, nowhere, waits_none, waits_first}

never : (a : Bool) → (a && false) ≡ false
never true = refl
never false = refl

quiet_at : (banks : List BankParts) (k : ℕ) (b : BankParts) → All IsQuiet banks → k < length banks
    → slice_get banks k ≡ Some b → IsQuiet b
quiet_at banks k b all low here =
    subst IsQuiet (get_or_from_slice_get banks k b b here) (All-get_or IsQuiet banks k b low all)

drains_never : (plan : Plan) (s : BoardState) (p : Parts) (h k : ℕ) → Shows plan s p → All IsQuiet p.banks.items
    → k < length p.banks.items
    → passes (is_draining h plan k) (slice_get plan.banks k) (slice_get s.banks k) ≡ false
drains_never plan s p h k shows all low =
    let b = get_there p.banks.items k low in
    let d = get_there p.decls.items k (omega (arith, low, p.declared)) in
    let quiet = quiet_at p.banks.items k b.0 all low b.1 in
    drains_is plan s p h k d.0 b.0 shows d.1 b.1
    ∙ ap (λ o. (d.0.home == h) && is_some o) quiet.drain
    ∙ never (d.0.home == h)

waits_never : (plan : Plan) (s : BoardState) (p : Parts) (h k : ℕ) → Shows plan s p → All IsQuiet p.banks.items
    → k < length p.banks.items
    → passes (is_waiting h plan k) (slice_get plan.banks k) (slice_get s.banks k) ≡ false
waits_never plan s p h k shows all low =
    let b = get_there p.banks.items k low in
    let d = get_there p.decls.items k (omega (arith, low, p.declared)) in
    let quiet = quiet_at p.banks.items k b.0 all low b.1 in
    waits_is plan s p h k d.0 b.0 shows d.1 b.1
    ∙ ap (λ (a : Bool). (d.0.home == h) && (a && is_free b.0.slot)) quiet.asks
    ∙ never (d.0.home == h)

pub nothing_due : (plan : Plan) (s : BoardState) (p : Parts) (h : ℕ) → Shows plan s p → All IsQuiet p.banks.items
    → bank_due h plan s.banks ≡ None
nothing_due plan s p h shows all =
    let many = length p.banks.items in
    due_waits h plan s.banks None
    (nowhere (is_draining h plan) plan s.banks many (sym shows.banks.there)
    (λ k low. drains_never plan s p h k shows all low))
    (waits_first h plan s.banks many None (sym shows.banks.there)
    (waits_none h plan s.banks many (λ k low. waits_never plan s p h k shows all low)))

pub fresh_are_quiet : (plan : Plan) (banks : List BankParts) → AreBanks plan (fresh_banks plan) banks
    → All IsQuiet banks
unfolding asks
fresh_are_quiet plan banks are =
    λ i d low.
    let b = get_there banks i low in
    let decl = get_there plan.banks i (omega (arith, low, are.there)) in
    let stands = are.each i decl.0 bank_start b.0 decl.1 (fresh_bank_at plan i decl.0 decl.1) b.1 in
    let quiet : IsQuiet b.0 = record { asks = stands.stands.asking; drain = stands.drain_is } in
    subst IsQuiet (sym (get_or_from_slice_get banks i b.0 d b.1)) quiet
