-- One more op in a table, and one more start in a sum.
use Rattle.std.proofs.Common.{◌≡◌, ℕ, ◌+◌, ◌==◌, Bool, true, false, ◌||◌, cond, List, [], ◌∷◌, ◌++◌, refl, ◌∙◌, arith}
use Rattle.std.specs.List.{list_any}
use Rattle.std.proofs.lemmas.List.Folds.{list_any-append}
use Rattle.board_plan.specs.declared.ops.Placed.{Placed}
use Rattle.board_plan.specs.declared.plan.Start.{Start}
use Rattle.board_plan.specs.Script.{has_op, total_budget}

or_last : (a b : Bool) → (b || (a || false)) ≡ cond a true b
or_last true true = refl
or_last true false = refl
or_last false true = refl
or_last false false = refl

-- an address is taken where the new op stands, and where one was taken before
pub has_op-added : (ops : List Placed) (p : Placed) (pc : ℕ) → has_op pc (ops ++ p ∷ [])
    ≡ cond (p.pc == pc) true (has_op pc ops)
unfolding has_op
has_op-added ops p pc = list_any-append (λ q. q.pc == pc) ops (p ∷ [])
    ∙ or_last (p.pc == pc) (list_any (λ q. q.pc == pc) ops)

-- one more budget in the sum
pub total_budget-added : (starts : List Start) (s : Start) → total_budget (starts ++ s ∷ [])
    ≡ total_budget starts + s.budget
unfolding total_budget
total_budget-added [] s = omega arith
total_budget-added (x ∷ starts) s = omega (arith, total_budget-added starts s)
