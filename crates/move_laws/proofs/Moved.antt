-- A moved plan is the plan in another version.
use Rattle.std.proofs.Common.{◌≡◌, ℕ, suc, ◌==◌, inl, inr, Bool, if◌then◌else◌, List, [], ◌∷◌, map, slice_get, Some, refl, sym, ap, ◌∙◌}
use Rattle.std.proofs.lemmas.Bool.{eq-eqb}
use Rattle.board_plan.specs.declared.plan.BankDecl.{BankDecl}
use Rattle.board_plan.specs.declared.plan.Plan.{Plan}
use Rattle.board_plan.specs.Canonical.{with_gather_1, moved}
use Rattle.move_laws.specs.Moves.{EachGathersOne, GathersByVersion}

gather_same : (b : BankDecl) → b.gather ≡ 1 → with_gather_1 b ≡ b
gather_same b e = ap (λ (g : ℕ). record b { gather = g }) (sym e)

banks_same : (bs : List BankDecl) → ((i : ℕ) (d : BankDecl) → slice_get bs i ≡ Some d → d.gather ≡ 1) →
    map with_gather_1 bs ≡ bs
banks_same [] h = refl
banks_same (b ∷ bs) h =
    ap (λ (c : BankDecl). c ∷ map with_gather_1 bs) (gather_same b (h 0 b refl))
    ∙ ap (λ (cs : List BankDecl). b ∷ cs) (banks_same bs (λ i d e. h (suc i) d e))

abbrev pub in_version : ℕ → Plan → Plan
in_version v p = record p { version = v }

-- what a move leaves, by the test of the version
abbrev moved_by : Plan → Bool → Plan
moved_by p b = if b then p else record p { version = 2; banks = map with_gather_1 p.banks }

moved_2 : (p : Plan) → p.version ≡ 2 → moved p ≡ in_version 2 p
moved_2 p e = ap (moved_by p) (eq-eqb p.version 2 e) ∙ ap (λ (v : ℕ). in_version v p) e

moved_1 : (p : Plan) → p.version ≡ 1 → EachGathersOne p → moved p ≡ in_version 2 p
moved_1 p e h =
    ap (λ (v : ℕ). moved_by p (v == 2)) e
    ∙ ap (λ (bs : List BankDecl). record p { version = 2; banks = bs }) (banks_same p.banks h)

pub moved_is : (p : Plan) → GathersByVersion p → moved p ≡ in_version 2 p
moved_is p (inl e) = moved_2 p e
moved_is p (inr e) = moved_1 p e.0 e.1
