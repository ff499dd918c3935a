-- Which plans a board can be made of: those within its limits. Each plan that a script gives is one. This project's
-- own.
use Rattle.std.specs.Prelude.{◌≡◌, ℕ, ◌+◌, ◌<◌, ◌≤◌, true, List, length, slice_get, sum_by, Option, Some, None}
use Rattle.sse_base.specs.Start.{are_distinct}
use Rattle.reri_fields.specs.declared.report.Report.{Report}
use Rattle.ras_device.specs.declared.act.Act.{Act}
use Rattle.ras_device.specs.declared.act.Act.TheVariants as act
use Rattle.board_plan.specs.declared.plan.BankDecl.{BankDecl}
use Rattle.board_plan.specs.declared.plan.RecDecl.{RecDecl}
use Rattle.board_plan.specs.declared.plan.Reporter.{Reporter}
use Rattle.board_plan.specs.declared.plan.Plan.{Plan}

-- a bank of a board of so many harts
pub record IsBank (harts : ℕ) (d : BankDecl) : Type 0 where
  pub home : d.home < harts
  pub some : 1 ≤ d.recs
  pub few : d.recs ≤ 63
  pub gathers : 1 ≤ d.gather
  pub gathers_few : d.gather ≤ 4

-- how many steps all harts and reporters make at most
abbrev pub most_steps : Plan → ℕ
most_steps plan = sum_by (λ s. s.budget) plan.starts + sum_by (λ r. r.limit) plan.reporters

-- the device that a reporter names, if any
abbrev pub named_by : Option Reporter → Option ℕ
named_by None = None
named_by (Some r) = r.device

-- no two reporters name one device
abbrev pub AreNamedOnce : List Reporter → Type 0
AreNamedOnce reporters =
    (i j k : ℕ) → named_by (slice_get reporters i) ≡ Some k → named_by (slice_get reporters j) ≡ Some k → i ≡ j

pub record IsPlan (plan : Plan) : Type 0 where
  pub harts : 1 ≤ plan.harts
  pub few_harts : plan.harts ≤ 32
  pub few_events : length plan.events ≤ 8
  pub distinct : are_distinct plan.events ≡ true
  pub few_banks : length plan.banks ≤ 4
  pub banks : (i : ℕ) (d : BankDecl) → slice_get plan.banks i ≡ Some d → IsBank plan.harts d
  pub controls : (i : ℕ) (r : RecDecl) → slice_get plan.recs i ≡ Some r → r.control ≤ 0xff
  pub few_reporters : length plan.reporters ≤ 8
  pub named_once : AreNamedOnce plan.reporters
  pub few_steps : most_steps plan ≤ 160000

-- acts whose errors have a priority below 4, as those of every script have
abbrev pub AreReports : (ℕ → List Act) → Type 0
AreReports acts = (r i : ℕ) (report : Report) → slice_get (acts r) i ≡ Some (act.Error report) → report.priority < 4
