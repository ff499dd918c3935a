-- A run of a board as one of its banks sees it.
use Rattle.std.proofs.Common.{◌≡◌, ℕ, suc, ◌<◌, false, List, [], ◌∷◌, slice_get, Option, Some, None, refl, sym, ◌∙◌, subst, arith}
use Rattle.std.proofs.lemmas.Option.{same_Some, slice_get_within}
use Rattle.sse_base.specs.Events.{Events}
use Rattle.reri_fields.specs.Banks.{AllLogsBefore}
use Rattle.reri_fields.specs.Drain.{BankState, BankTry, BankNote}
use Rattle.reri_fields.specs.Drain.BankTry.{Reports, Drains, Acknowledges}
use Rattle.reri_bank.proofs.Stands.{get_there}
use Rattle.ras_device.specs.declared.act.Act.{Act}
use Rattle.board_plan.specs.declared.notes.Step.{Step}
use Rattle.board_plan.specs.declared.notes.Step.TheVariants.{Hart, Reporter}
use Rattle.board_plan.specs.declared.notes.StepNote.{StepNote}
use Rattle.board_plan.specs.declared.plan.BankDecl.{BankDecl}
use Rattle.board_plan.specs.declared.plan.Plan.{Plan}
use Rattle.board_plan.specs.State.{BoardState, bank_plan}
use Rattle.board_plan.specs.Step.{Stepped, bank_note, acts_made, step}
use Rattle.board_plan.specs.Run.{Noted, state_after, noted, run, notes}
use Rattle.board_plan.specs.Plans.{IsPlan, AreReports}
use Rattle.drain_laws.proofs.BankMoves.{Moves}
use Rattle.drain_laws.proofs.BoardMoves.{Comes}
use Rattle.drain_laws.proofs.BoardSound.{BoardSound, step_sound}
use Rattle.drain_laws.proofs.Turns.{is_of, Turn, TakesTurn, turn_of, there_after}
use Rattle.drain_laws.proofs.Turns.Turn.{rests, takes}

-- an error comes after all that the bank had before, and has the priority of a report
abbrev pub IsFit : (ℕ → List Act) → BankState → BankTry → Type 0
IsFit acts x (Reports e) = AllLogsBefore e.step x.history × (AreReports acts → e.report.priority < 4)
IsFit acts x Drains = Unit {0}
IsFit acts x Acknowledges = Unit {0}

-- a move of the bank, with the board's note of it
pub record Moved (plan : Plan) (acts : ℕ → List Act) (bank : ℕ) (decl : BankDecl) (x y : BankState) (n : StepNote) :
    Type 0 where
  pub come : BankTry
  pub told : BankNote
  pub events : Events
  pub moves : Moves (bank_plan bank decl plan.recs) x come y told
  pub note_is : n ≡ bank_note bank decl events told
  pub fit : IsFit acts x come

-- from one state of the bank to another, with the notes of the board in between
pub data BankRun (plan : Plan) (acts : ℕ → List Act) (bank : ℕ) (decl : BankDecl) :
    BankState → List Noted → BankState → Type 0 where
  ends : (x : BankState) → BankRun plan acts bank decl x [] x
  waits : (x z : BankState) (n : Noted) (ns : List Noted) → is_of bank n.note ≡ false
      → BankRun plan acts bank decl x ns z → BankRun plan acts bank decl x (n ∷ ns) z
  goes : (x y z : BankState) (n : Noted) (ns : List Noted) → Moved plan acts bank decl x y n.note
      → BankRun plan acts bank decl y ns z → BankRun plan acts bank decl x (n ∷ ns) z

-- ---- Of the board's run ----

fit_for : (plan : Plan) (acts : ℕ → List Act) (t : Step) (s : BoardState) (bank : ℕ) (x : BankState) (come : BankTry)
    → AllLogsBefore (suc s.steps) x.history → Comes plan acts t s bank come → IsFit acts x come
fit_for plan acts (Hart h) s bank x (Reports e) early by = absurd by
fit_for plan acts (Hart h) s bank x Drains early by = tt
fit_for plan acts (Hart h) s bank x Acknowledges early by = tt
fit_for plan acts (Reporter r) s bank x (Reports e) early by = (
  subst (λ k. AllLogsBefore k x.history) (sym by.0) early,
  λ are. are r (acts_made r s) e.report by.2,
)
fit_for plan acts (Reporter r) s bank x Drains early by = absurd by
fit_for plan acts (Reporter r) s bank x Acknowledges early by = absurd by

pub moved : (plan : Plan) (acts : ℕ → List Act) (t : Step) (s : BoardState) (d : Stepped) (bank : ℕ) (decl : BankDecl)
    (x y : BankState) → AllLogsBefore (suc s.steps) x.history → TakesTurn plan acts t s d bank decl x y
    → Moved plan acts bank decl x y d.note
moved plan acts t s d bank decl x y early a =
    record {
      come = a.come;
      told = a.told;
      events = a.events;
      moves = a.moves;
      note_is = a.note_is;
      fit = fit_for plan acts t s bank x a.come early a.comes;
    }

one_more : (plan : Plan) (acts : ℕ → List Act) (t : Step) (s : BoardState) (d : Stepped) (bank : ℕ) (decl : BankDecl)
    (x y z : BankState) (ns : List Noted) → AllLogsBefore (suc s.steps) x.history
    → Turn plan acts t s d bank decl x y → BankRun plan acts bank decl y ns z
    → BankRun plan acts bank decl x (record { by = t; note = d.note } ∷ ns) z
one_more plan acts t s d bank decl x y z ns early (rests same off) rest =
    waits x z (record { by = t; note = d.note }) ns off
    (subst (λ (b : BankState). BankRun plan acts bank decl b ns z) same rest)
one_more plan acts t s d bank decl x y z ns early (takes a) rest =
    goes x y z (record { by = t; note = d.note }) ns (moved plan acts t s d bank decl x y early a) rest

-- where a bank comes to
pub record Reaches (plan : Plan) (acts : ℕ → List Act) (s : BoardState) (tries : List Step) (bank : ℕ)
    (decl : BankDecl) (x : BankState) : Type 0 where
  pub last : BankState
  pub there : slice_get (run plan acts s tries).banks bank ≡ Some last
  pub goes_there : BankRun plan acts bank decl x (notes plan acts s tries) last

record Onward (plan : Plan) (acts : ℕ → List Act) (s : BoardState) (t : Step) (o : Option Stepped) (tries : List Step)
    (bank : ℕ) (decl : BankDecl) (x : BankState) : Type 0 where
  last : BankState
  there : slice_get (run plan acts (state_after s o) tries).banks bank ≡ Some last
  goes_there : BankRun plan acts bank decl x (noted t o (notes plan acts (state_after s o) tries)) last

onward : (plan : Plan) (acts : ℕ → List Act) (s : BoardState) (t : Step) (o : Option Stepped) (tries : List Step)
    (bank : ℕ) (decl : BankDecl) (x : BankState) → IsPlan plan → BoardSound plan s
    → slice_get plan.banks bank ≡ Some decl → slice_get s.banks bank ≡ Some x → step plan acts t s ≡ o
    → ((r : BoardState) (y : BankState) → BoardSound plan r → slice_get r.banks bank ≡ Some y
    → Reaches plan acts r tries bank decl y) → Onward plan acts s t o tries bank decl x
onward plan acts s t None tries bank decl x is sound known there makes further =
    let rest = further s x sound there in
    record { last = rest.last; there = rest.there; goes_there = rest.goes_there }
onward plan acts s t (Some d) tries bank decl x is sound known there makes further =
    let after = there_after plan acts t s d bank x makes there in
    let rest = further d.state after.0 (step_sound plan acts is t s d makes sound) after.1 in
    record {
      last = rest.last;
      there = rest.there;
      goes_there = one_more plan acts t s d bank decl x after.0 rest.last (notes plan acts d.state tries)
          (sound.each bank decl x known there).early
          (turn_of plan acts t s d bank decl x after.0 makes known there after.1) rest.goes_there;
    }

pub reaches : (plan : Plan) (acts : ℕ → List Act) (s : BoardState) (tries : List Step) (bank : ℕ) (decl : BankDecl)
    (x : BankState) → IsPlan plan → BoardSound plan s → slice_get plan.banks bank ≡ Some decl
    → slice_get s.banks bank ≡ Some x → Reaches plan acts s tries bank decl x
reaches plan acts s [] bank decl x is sound known there = record { last = x; there = there; goes_there = ends x }
reaches plan acts s (t ∷ ts) bank decl x is sound known there =
    let so = onward plan acts s t (step plan acts t s) ts bank decl x is sound known there refl
    (λ r y h here. reaches plan acts r ts bank decl y is h known here) in
    record { last = so.last; there = so.there; goes_there = so.goes_there }

-- the run between two states of which both are known
pub bank_run : (plan : Plan) (acts : ℕ → List Act) (s : BoardState) (tries : List Step) (bank : ℕ) (decl : BankDecl)
    (x y : BankState) → IsPlan plan → BoardSound plan s → slice_get plan.banks bank ≡ Some decl
    → slice_get s.banks bank ≡ Some x → slice_get (run plan acts s tries).banks bank ≡ Some y
    → BankRun plan acts bank decl x (notes plan acts s tries) y
bank_run plan acts s tries bank decl x y is sound known there after =
    let so = reaches plan acts s tries bank decl x is sound known there in
    subst (BankRun plan acts bank decl x (notes plan acts s tries)) (same_Some so.last y (sym so.there ∙ after))
    so.goes_there

-- a bank of the board is one of the plan
pub declared : (plan : Plan) (s : BoardState) (bank : ℕ) (x : BankState) → BoardSound plan s
    → slice_get s.banks bank ≡ Some x → (d : BankDecl) × (slice_get plan.banks bank ≡ Some d)
declared plan s bank x sound there =
    get_there plan.banks bank (omega (arith, slice_get_within s.banks bank x there, sound.count))
