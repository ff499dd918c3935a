-- What is so of each state that a run of a plan comes to, and of a board that keeps its run (describes code). This
-- project's own, over the runs of the board book.
use Rattle.std.specs.Prelude.{◌≡◌, ◌≤◌, ◌+◌, ℕ, List, [], ◌∷◌, length, map, sum_by}
use Rattle.board_plan.specs.declared.notes.Published.{Published}
use Rattle.board_plan.specs.declared.plan.Plan.{Plan}
use Rattle.board_plan.specs.State.{BoardState}
use Rattle.board_parts.specs.Shows.{AreEarly, budgets, limits}
use Rattle.board_core.specs.Played.{Played, AreListsReports, IsPlayed, own_run, state_of}

-- each number is at most the one at its place in the other list, which is as long
abbrev pub AreWithin : List ℕ → List ℕ → Type 0
AreWithin [] [] = Unit {0}
AreWithin (x ∷ xs) (y ∷ ys) = (x ≤ y) × AreWithin xs ys
AreWithin xs ys = ⊥

-- how many steps each hart has made, and how many acts each reporter
abbrev pub spent : BoardState → List ℕ
spent s = map (λ c. c.steps) s.counts

abbrev pub made : BoardState → List ℕ
made s = map (λ r. r.made) s.reporters

-- errors came at steps that were made before; harts and reporters are within their budgets and limits, and have made
-- all steps that were made
pub record IsReached (plan : Plan) (s : BoardState) : Type 0 where
  pub early : AreEarly s
  pub within_budgets : AreWithin (spent s) (budgets plan)
  pub within_limits : AreWithin (made s) (limits plan)
  pub total : s.steps ≡ sum_by (λ c. c.steps) s.counts + sum_by (λ r. r.made) s.reporters

-- a board keeps its run: the copies are those of the run
pub record Keeps (b : Played) (published : List Published) : Type 0 where
  pub played : IsPlayed b
  pub reached : IsReached b.plan (state_of b)
  pub many : (state_of b).steps ≡ length b.steps
  pub published_are : published ≡ (own_run b).published
  pub few_published : length published ≤ length b.steps
  pub lists_reports : AreListsReports b.plan
