-- When the parts of a board are those of a plan in a state. This project's own, over the board book.
use Rattle.std.specs.Prelude.{◌≡◌, ℕ, suc, List, map, slice_get, length, Some}
use Rattle.std.specs.List.{range_with_len}
use Rattle.reri_fields.specs.Banks.{AllLogsBefore}
use Rattle.reri_fields.specs.Drain.{BankState}
use Rattle.board_plan.specs.declared.plan.BankDecl.{BankDecl}
use Rattle.board_plan.specs.declared.plan.Plan.{Plan}
use Rattle.board_plan.specs.State.{BoardState, bank_plan, budget_of}
use Rattle.board_ops.specs.Indexes.{Indexes}
use Rattle.board_bank.specs.Standing.{BankParts, StandsFor}
use Rattle.board_parts.specs.declared.parts.Parts.{Parts}

-- the banks are those of the plan, each in its state
pub record AreBanks (plan : Plan) (states : List BankState) (banks : List BankParts) : Type 0 where
  pub count : length states ≡ length plan.banks
  pub there : length banks ≡ length plan.banks
  pub each : (i : ℕ) (d : BankDecl) (x : BankState) (b : BankParts) → slice_get plan.banks i ≡ Some d
      → slice_get states i ≡ Some x → slice_get banks i ≡ Some b → StandsFor (bank_plan i d plan.recs) x b

-- how many steps each hart may make, and how many acts each reporter
abbrev pub budgets : Plan → List ℕ
budgets plan = map (λ h. budget_of h plan.starts) (range_with_len 0 plan.harts)

abbrev pub limits : Plan → List ℕ
limits plan = map (λ r. r.limit) plan.reporters

-- Firmware, banks, counts and reporters are those of the state, and what never changes is the plan's. How many steps
-- were made is kept elsewhere.
pub record Shows (plan : Plan) (s : BoardState) (p : Parts) : Type 0 where
  pub machine : p.firmware ≡ s.machine
  pub index : Indexes plan.ops p.index
  pub decls : p.decls.items ≡ plan.banks
  pub banks : AreBanks plan s.banks p.banks.items
  pub budgets_are : p.budgets.items ≡ budgets plan
  pub counts : p.counts.items ≡ s.counts
  pub limits_are : p.limits.items ≡ limits plan
  pub reporters : p.reporters.items ≡ s.reporters

-- each error that came to a bank came at a step that was made before
abbrev pub AreEarly : BoardState → Type 0
AreEarly s = (i : ℕ) (x : BankState) → slice_get s.banks i ≡ Some x → AllLogsBefore (suc s.steps) x.history
