-- What each part of a half-read plan was when its statement was read.
use Rattle.std.proofs.Common.{◌≡◌, ℕ, ◌+◌, ◌%◌, ◌^◌, ◌<◌, ◌≤◌, ◌==◌, ◌⊎◌, Bool, true, false, List, [], ◌∷◌, ◌++◌, length, map, slice_get, slice_set, Option, Some, None}
use Rattle.std.specs.List.{list_any}
use Rattle.sse_base.specs.declared.events.EventDecl.{EventDecl}
use Rattle.sse_base.specs.Ids.{is_platform}
use Rattle.ras_device.specs.declared.act.Act.{Act}
use Rattle.ras_device.specs.declared.act.Act.TheVariants.{Error, Raise}
use Rattle.reri_fields.specs.declared.report.Report.{Report}
use Rattle.board_plan.specs.declared.notes.Step.{Step}
use Rattle.board_plan.specs.declared.notes.Step.TheVariants as step
use Rattle.board_plan.specs.declared.ops.Op.{Op}
use Rattle.board_plan.specs.declared.ops.Op.TheVariants.{Nop, Sbi, Set, Load, Save, Store, Inc, Jump, Jlt, Sret, Ack, Unplug}
use Rattle.board_plan.specs.declared.ops.Placed.{Placed}
use Rattle.board_plan.specs.declared.ops.Reg.{Reg}
use Rattle.board_plan.specs.declared.ops.Reg.TheVariants.{A6, A7, Sepc, Spp, Spie, Sie}
use Rattle.board_plan.specs.declared.plan.BankDecl.{BankDecl}
use Rattle.board_plan.specs.declared.plan.RecDecl.{RecDecl}
use Rattle.board_plan.specs.declared.plan.Start.{Start}
use Rattle.board_plan.specs.declared.plan.Reporter.{Reporter}
use Rattle.board_plan.specs.declared.plan.Plan.{Plan}
use Rattle.board_plan.specs.Words.{may_be_on_board}
use Rattle.board_plan.specs.Script.{Half, has_event, has_record, has_op, has_start, is_number, total_budget, most_harts, most_records, fresh_bank, and_act, steps_of}
use Rattle.board_script.proofs.Chains.{Each, EachFits}

-- ---- Parts ----

pub record EventFits (before : List EventDecl) (e : EventDecl) : Type 0 where
  pub small : e.id.0 ≤ 0xffffffff
  pub may : may_be_on_board e.id.0 ≡ true
  pub fresh : has_event e.id.0 before ≡ false
  pub room : length before < 8

pub record PlatFits (events : List EventDecl) (id : ℕ) : Type 0 where
  pub small : id ≤ 0xffffffff
  pub is : is_platform id ≡ true
  pub there : has_event id events ≡ true

-- where there is a value, this holds of it
abbrev pub Where : (ℕ → Type 0) → Option ℕ → Type 0
Where P None = Unit {0}
Where P (Some n) = P n

-- the gather numbers that a version has
abbrev pub GatherFits : ℕ → ℕ → Type 0
GatherFits version gather = (1 ≤ gather) × (gather ≤ 4) × (version ≡ 1 → gather ≡ 1)

pub record BankFits (version harts : ℕ) (events : List EventDecl) (b : BankDecl) : Type 0 where
  pub home : b.home < harts
  pub some : 1 ≤ b.recs
  pub few : b.recs ≤ most_records version
  pub plat : Where (PlatFits events) b.plat
  pub gather : GatherFits version b.gather

-- a bank has a record of this number
pub record HasRecord (banks : List BankDecl) (bank rec : ℕ) : Type 0 where
  pub decl : BankDecl
  pub there : slice_get banks bank ≡ Some decl
  pub within : rec < decl.recs

pub record RecFits (banks : List BankDecl) (before : List RecDecl) (r : RecDecl) : Type 0 where
  pub there : HasRecord banks r.bank r.rec
  pub control : r.control ≤ 0xff
  pub count : r.count ≤ 65535
  pub fresh : has_record r.bank r.rec before ≡ false

abbrev pub IsU64 : ℕ → Type 0
IsU64 n = n < 2 ^ 64

abbrev pub ValueFits : Reg → ℕ → Type 0
ValueFits A6 value = IsU64 value
ValueFits A7 value = IsU64 value
ValueFits Sepc value = IsU64 value
ValueFits Spp value = value ≤ 1
ValueFits Spie value = value ≤ 1
ValueFits Sie value = value ≤ 1

-- five arguments
pub record ArgsFit (args : List ℕ) : Type 0 where
  pub a : ℕ
  pub b : ℕ
  pub c : ℕ
  pub d : ℕ
  pub e : ℕ
  pub are : args ≡ a ∷ b ∷ c ∷ d ∷ e ∷ []
  pub small_a : IsU64 a
  pub small_b : IsU64 b
  pub small_c : IsU64 c
  pub small_d : IsU64 d
  pub small_e : IsU64 e

abbrev pub OpFits : Op → Type 0
OpFits Nop = Unit {0}
OpFits (Sbi eid fid args) = IsU64 eid × IsU64 fid × ArgsFit args
OpFits (Set reg value) = ValueFits reg value
OpFits (Load reg addr) = IsU64 addr
OpFits (Save reg addr) = IsU64 addr
OpFits (Store addr value) = IsU64 addr × IsU64 value
OpFits (Inc addr) = IsU64 addr
OpFits (Jump pc) = IsU64 pc
OpFits (Jlt addr value pc) = IsU64 addr × IsU64 value × IsU64 pc
OpFits Sret = Unit {0}
OpFits (Ack bank) = bank ≤ 255
OpFits (Unplug reporter) = reporter ≤ 255

-- an address that `at` can give
abbrev pub IsOpAddress : ℕ → Type 0
IsOpAddress pc = (pc ≤ 0xffff0000) × ((pc % 2 == 0) ≡ true)

-- the address behind some ops, of which the first stands at this address where no `at` is before it
abbrev pub behind : ℕ → List Placed → ℕ
behind next [] = next
behind next (p ∷ ps) = behind (p.pc + 4) ps

-- it follows the ops before it, or an `at` gave it
abbrev pub IsNext : List Placed → ℕ → Type 0
IsNext before pc = (pc ≡ behind 0x1000 before) ⊎ IsOpAddress pc

pub record PlacedFits (before : List Placed) (p : Placed) : Type 0 where
  pub op : OpFits p.op
  pub next : IsNext before p.pc
  pub fresh : has_op p.pc before ≡ false
  pub room : length before < 4096

pub record StartFits (harts : ℕ) (before : List Start) (s : Start) : Type 0 where
  pub hart : s.hart < harts
  pub pc : IsU64 s.pc
  pub budget : s.budget ≤ 10000
  pub fresh : has_start s.hart before ≡ false
  pub room : total_budget before + s.budget ≤ 80000

pub record ReportFits (r : Report) : Type 0 where
  pub bank : r.bank ≤ 255
  pub rec : r.rec ≤ 255
  pub priority : r.priority ≤ 3
  pub code : r.code ≤ 255
  pub address : IsU64 r.address
  pub info : IsU64 r.info
  pub supplement : IsU64 r.supplement
  pub time : IsU64 r.time

abbrev pub ActFits : Act → Type 0
ActFits (Error r) = ReportFits r
ActFits (Raise id hart) = (id ≤ 0xffffffff) × (hart ≤ 255)

-- a list with its acts, or a device
abbrev pub SourceFits : Option ℕ → ℕ → List Act → Type 0
SourceFits None limit acts = (limit ≡ length acts) × (limit ≤ 10000) × Each ActFits acts
SourceFits (Some k) limit acts = (k ≤ 7) × (limit ≤ 10000) × (acts ≡ [])

abbrev pub ReporterFits : Reporter → Type 0
ReporterFits r = SourceFits r.device r.limit r.acts

abbrev pub devices_of : List Reporter → List (Option ℕ)
devices_of rs = map (λ r. r.device) rs

-- no reporter before it has its device
abbrev pub DeviceFits : List (Option ℕ) → Option ℕ → Type 0
DeviceFits before None = Unit {0}
DeviceFits before (Some k) = list_any (is_number k) before ≡ false

abbrev pub StepFits : ℕ → ℕ → Step → Type 0
StepFits harts reporters (step.Hart h) = (h < harts) × (h ≤ 255)
StepFits harts reporters (step.Reporter r) = (r < reporters) × (r ≤ 255)

-- ---- The whole ----

pub record HeadFits (version harts : ℕ) : Type 0 where
  pub known : (version ≡ 1) ⊎ (version ≡ 2)
  pub some : 1 ≤ harts
  pub few : harts ≤ most_harts version

pub record BanksFit (version harts : ℕ) (events : List EventDecl) (banks : List BankDecl) : Type 0 where
  pub each : Each (BankFits version harts events) banks
  pub few : length banks ≤ 4

pub record ReportersFit (reporters : List Reporter) : Type 0 where
  pub each : Each ReporterFits reporters
  pub devices : EachFits DeviceFits [] (devices_of reporters)
  pub few : length reporters ≤ 8

pub record StepsFit (harts reporters : ℕ) (steps : List Step) : Type 0 where
  pub each : Each (StepFits harts reporters) steps
  pub few : length steps ≤ 200000

pub record PlanFits (p : Plan) : Type 0 where
  pub head : HeadFits p.version p.harts
  pub events : EachFits EventFits [] p.events
  pub banks : BanksFit p.version p.harts p.events p.banks
  pub recs : EachFits (RecFits p.banks) [] p.recs
  pub ops : EachFits PlacedFits [] p.ops
  pub starts : EachFits (StartFits p.harts) [] p.starts
  pub reporters : ReportersFit p.reporters
  pub schedule : StepsFit p.harts (length p.reporters) (steps_of p.schedule)

pub record HalfFits (h : Half) : Type 0 where
  pub plan : PlanFits h.plan
  pub next : IsNext h.plan.ops h.next

-- ---- What a statement changes ----

abbrev pub with_events : Half → List EventDecl → Half
with_events h events = record h { plan = record h.plan { events = events } }

abbrev pub with_banks : Half → List BankDecl → Half
with_banks h banks = record h { plan = record h.plan { banks = banks } }

abbrev pub with_recs : Half → List RecDecl → Half
with_recs h recs = record h { plan = record h.plan { recs = recs } }

abbrev pub with_next : Half → ℕ → Half
with_next h next = record h { next = next }

abbrev pub with_ops : Half → List Placed → ℕ → Half
with_ops h ops next = record h { plan = record h.plan { ops = ops }; next = next }

abbrev pub with_starts : Half → List Start → Half
with_starts h starts = record h { plan = record h.plan { starts = starts } }

abbrev pub with_reporters : Half → List Reporter → Half
with_reporters h reporters = record h { plan = record h.plan { reporters = reporters } }

abbrev pub with_steps : Half → Option (List Step) → Half
with_steps h schedule = record h { plan = record h.plan { schedule = schedule } }

abbrev pub with_gathered : Half → List BankDecl → List ℕ → Half
with_gathered h banks gathered = record h { plan = record h.plan { banks = banks }; gathered = gathered }

-- ---- What a statement was ----

abbrev pub fresh_one : Half → ℕ → Bool → ℕ → BankDecl
fresh_one h home global recs = fresh_bank h.plan.version home global recs

pub data Taken (h k : Half) : Type 0 where
  an_event : (e : EventDecl) → EventFits h.plan.events e → k ≡ with_events h (h.plan.events ++ e ∷ []) → Taken h k
  a_bank : (home : ℕ) (global : Bool) (recs : ℕ) → home < h.plan.harts → 1 ≤ recs
      → recs ≤ most_records h.plan.version → length h.plan.banks < 4
      → k ≡ with_banks h (h.plan.banks ++ fresh_one h home global recs ∷ []) → Taken h k
  a_plat : (n id : ℕ) (b : BankDecl) → slice_get h.plan.banks n ≡ Some b → PlatFits h.plan.events id
      → k ≡ with_banks h (slice_set h.plan.banks n (record b { plat = Some id })) → Taken h k
  a_gather : (n count : ℕ) (b : BankDecl) → slice_get h.plan.banks n ≡ Some b → h.plan.version ≡ 2 → 1 ≤ count
      → count ≤ 4
      → k ≡ with_gathered h (slice_set h.plan.banks n (record b { gather = count })) (h.gathered ++ n ∷ []) → Taken h k
  a_record : (r : RecDecl) → RecFits h.plan.banks h.plan.recs r → k ≡ with_recs h (h.plan.recs ++ r ∷ []) → Taken h k
  an_address : (pc : ℕ) → IsOpAddress pc → k ≡ with_next h pc → Taken h k
  an_op : (op : Op) → OpFits op → has_op h.next h.plan.ops ≡ false → length h.plan.ops < 4096
      → k ≡ with_ops h (h.plan.ops ++ record { pc = h.next; op = op } ∷ []) (h.next + 4) → Taken h k
  a_start : (s : Start) → StartFits h.plan.harts h.plan.starts s → k ≡ with_starts h (h.plan.starts ++ s ∷ [])
      → Taken h k
  a_reporter : (r : Reporter) → ReporterFits r → DeviceFits (devices_of h.plan.reporters) r.device
      → length h.plan.reporters < 8 → k ≡ with_reporters h (h.plan.reporters ++ r ∷ []) → Taken h k
  an_act : (n : ℕ) (act : Act) (r : Reporter) → slice_get h.plan.reporters n ≡ Some r → r.device ≡ None → ActFits act
      → length r.acts < 10000 → k ≡ with_reporters h (slice_set h.plan.reporters n (and_act act r)) → Taken h k
  a_schedule : (steps : List Step) → Each (StepFits h.plan.harts (length h.plan.reporters)) steps
      → length (steps_of h.plan.schedule ++ steps) ≤ 200000
      → k ≡ with_steps h (Some (steps_of h.plan.schedule ++ steps)) → Taken h k
