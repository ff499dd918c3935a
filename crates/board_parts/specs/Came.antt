-- What a step, or a part of one, makes of the parts of a board: its outcome, and the state that they are of then.
use Rattle.std.specs.Prelude.{◌≡◌, ◌<◌, ℕ, Bool, true, false, List, slice_get, slice_set, Option, Some, None, option_map}
use Rattle.sse_base.specs.Machine.{placed}
use Rattle.ras_device.specs.declared.act.Act.{Act}
use Rattle.ras_device.specs.declared.act.Act.TheVariants as act
use Rattle.reri_fields.specs.declared.report.Report.{Report}
use Rattle.board_plan.specs.declared.notes.Published.{Published}
use Rattle.board_plan.specs.declared.notes.StepNote.{StepNote}
use Rattle.board_plan.specs.declared.plan.Plan.{Plan}
use Rattle.board_plan.specs.State.{BoardState, ReporterState}
use Rattle.board_plan.specs.Step.{BoardReach, Effect, Made, Stepped, with_one_more}
use Rattle.board_plan.specs.Run.{state_after}
use Rattle.board_parts.specs.declared.outcome.Outcome.{Outcome}
use Rattle.board_parts.specs.declared.parts.Parts.{Parts}
use Rattle.board_parts.specs.Shows.{Shows}

-- the outcome was wanted, and the parts are of this state
pub record Gives (plan : Plan) (s : BoardState) (wanted : Option Outcome) (p : Parts)
    (came : Option Outcome) : Type 0 where
  pub outcome : came ≡ wanted
  pub shows : Shows plan s p

abbrev pub outcome_of : StepNote → Option Published → Outcome
outcome_of n p = record { note = n; published = p }

-- ---- A step ----

-- the step that the book makes, if any
abbrev pub Steps : Plan → BoardState → Option Stepped → Parts → Option Outcome → Type 0
Steps plan s o p came = Gives plan (state_after s o) (option_map (λ d. outcome_of d.note d.published) o) p came

-- ---- Its parts ----

-- an effect on events and banks, if any
abbrev pub with_effect_on : BoardState → Effect → BoardState
with_effect_on s e = record s { machine = record s.machine { events = e.events }; banks = e.banks }

abbrev pub after_effect : BoardState → Option Effect → BoardState
after_effect s None = s
after_effect s (Some e) = with_effect_on s e

abbrev pub Takes : Plan → BoardState → Option Effect → Parts → Option Outcome → Type 0
Takes plan s o p came = Gives plan (after_effect s o) (option_map (λ e. outcome_of e.note e.published) o) p came

-- what a hart reaches, put back into the state, with nothing counted yet
abbrev pub reached : ℕ → BoardState → BoardReach → BoardState
reached h s r = record s { machine = placed h r.own s.machine; banks = r.banks; reporters = r.reporters }

abbrev pub after_made : ℕ → BoardState → Option Made → BoardState
after_made h s None = s
after_made h s (Some m) = reached h s m.reach

abbrev pub Acts : ℕ → Plan → BoardState → Option Made → Parts → Option Outcome → Type 0
Acts h plan s o p came = Gives plan (after_made h s o) (option_map (λ m. outcome_of m.note m.published) o) p came

-- ---- Reporters ----

-- whether a reporter is plugged; one that the board hasn't isn't
abbrev pub is_plugged : Option ReporterState → Bool
is_plugged None = false
is_plugged (Some x) = x.plugged

abbrev pub was_plugged : ℕ → BoardState → Bool
was_plugged r s = is_plugged (slice_get s.reporters r)

-- the state with a reporter unplugged
abbrev pub unplug_in : ℕ → List ReporterState → Option ReporterState → List ReporterState
unplug_in r reporters None = reporters
unplug_in r reporters (Some x) = slice_set reporters r (record x { plugged = false })

abbrev pub without_plug : ℕ → BoardState → BoardState
without_plug r s = record s { reporters = unplug_in r s.reporters (slice_get s.reporters r) }

-- the state with one act more of a reporter, where it is counted
abbrev pub with_act_counted : ℕ → BoardState → Bool → BoardState
with_act_counted r s false = s
with_act_counted r s true = record s { reporters = with_one_more r s.reporters (slice_get s.reporters r) }

-- an error that is reported has a priority below 4
abbrev pub IsReport : Option Act → Type 0
IsReport a = (report : Report) → a ≡ Some (act.Error report) → report.priority < 4

-- ---- What came of a step ----

-- what came of a step: where it was made, its outcome
abbrev pub came : Bool → Outcome → Option Outcome
came false o = None
came true o = Some o
