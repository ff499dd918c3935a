-- Each bank of a board is sound at each state of each run.
use Rattle.std.proofs.Common.{◌≡◌, ℕ, suc, ◌≤◌, List, length, slice_get, Option, Some, None, sym, ◌∙◌, subst, arith}
use Rattle.std.specs.Option.{option_map}
use Rattle.std.proofs.lemmas.List.{length-map}
use Rattle.std.proofs.lemmas.Option.{none-some, same_Some, slice_get-map}
use Rattle.reri_fields.specs.Drain.{BankState, BankTry, bank_start}
use Rattle.reri_fields.specs.Drain.BankTry.{Reports, Drains, Acknowledges}
use Rattle.ras_device.specs.declared.act.Act.{Act}
use Rattle.board_plan.specs.declared.notes.Step.{Step}
use Rattle.board_plan.specs.declared.notes.Step.TheVariants.{Hart, Reporter}
use Rattle.board_plan.specs.declared.plan.BankDecl.{BankDecl}
use Rattle.board_plan.specs.declared.plan.Plan.{Plan}
use Rattle.board_plan.specs.State.{BoardState, bank_plan, start_state}
use Rattle.board_plan.specs.Step.{Stepped, step}
use Rattle.board_plan.specs.Run.{run, ran}
use Rattle.board_plan.specs.Plans.{IsPlan}
use Rattle.drain_laws.proofs.BoardMoves.{Comes, step_does}
use Rattle.drain_laws.proofs.BankSound.{BankSound, sound_later}
use Rattle.drain_laws.proofs.BankSteps.{IsNow, moves_sound, start_sound}
use Rattle.drain_laws.proofs.Turns.{Turn, turn_of, same_count, there_before}
use Rattle.drain_laws.proofs.Turns.Turn.{rests, takes}
use Rattle.drain_laws.proofs.Runs.{kept, kept_from_start}

pub record BoardSound (plan : Plan) (s : BoardState) : Type 0 where
  pub count : length s.banks ≡ length plan.banks
  pub each : (bank : ℕ) (d : BankDecl) (x : BankState) → slice_get plan.banks bank ≡ Some d
      → slice_get s.banks bank ≡ Some x → BankSound (bank_plan bank d plan.recs) (suc s.steps) x

comes_now : (plan : Plan) (acts : ℕ → List Act) (t : Step) (s : BoardState) (bank : ℕ) (come : BankTry)
    → Comes plan acts t s bank come → IsNow (suc s.steps) come
comes_now plan acts (Hart h) s bank (Reports e) so = absurd so
comes_now plan acts (Hart h) s bank Drains so = tt
comes_now plan acts (Hart h) s bank Acknowledges so = tt
comes_now plan acts (Reporter r) s bank (Reports e) so = so.0
comes_now plan acts (Reporter r) s bank Drains so = absurd so
comes_now plan acts (Reporter r) s bank Acknowledges so = absurd so

turned_sound : (plan : Plan) (acts : ℕ → List Act) (t : Step) (s : BoardState) (d : Stepped) (bank : ℕ)
    (decl : BankDecl) (x y : BankState) → 1 ≤ decl.gather
    → BankSound (bank_plan bank decl plan.recs) (suc s.steps) x → Turn plan acts t s d bank decl x y
    → BankSound (bank_plan bank decl plan.recs) (suc (suc s.steps)) y
turned_sound plan acts t s d bank decl x y some h (rests same off) =
    subst (BankSound (bank_plan bank decl plan.recs) (suc (suc s.steps))) (sym same)
    (sound_later (bank_plan bank decl plan.recs) (suc s.steps) (suc (suc s.steps)) x (omega arith) h)
turned_sound plan acts t s d bank decl x y some h (takes a) =
    moves_sound (bank_plan bank decl plan.recs) (suc s.steps) x a.come y a.told some
    (comes_now plan acts t s bank a.come a.comes) h a.moves

pub step_sound : (plan : Plan) (acts : ℕ → List Act) → IsPlan plan → (t : Step) (s : BoardState) (d : Stepped)
    → step plan acts t s ≡ Some d → BoardSound plan s → BoardSound plan d.state
step_sound plan acts is t s d makes h =
    record {
      count = same_count plan acts t s d makes ∙ h.count;
      each = λ bank decl y known after.
          let was = there_before plan acts t s d bank y makes after in
          subst (λ n. BankSound (bank_plan bank decl plan.recs) (suc n) y) (sym (step_does plan acts t s d makes).steps)
          (turned_sound plan acts t s d bank decl was.0 y (is.banks bank decl known).gathers
          (h.each bank decl was.0 known was.1)
          (turn_of plan acts t s d bank decl was.0 y makes known was.1 after));
    }

started : (plan : Plan) (o : Option BankDecl) (bank : ℕ) (d : BankDecl) (x : BankState)
    → option_map (λ (e : BankDecl). bank_start) o ≡ Some x → BankSound (bank_plan bank d plan.recs) 1 x
started plan None bank d x h = absurd (none-some x h)
started plan (Some e) bank d x h =
    subst (BankSound (bank_plan bank d plan.recs) 1) (same_Some bank_start x h)
    (start_sound (bank_plan bank d plan.recs) 1)

pub start_board : (plan : Plan) → BoardSound plan (start_state plan)
start_board plan =
    record {
      count = length-map plan.banks (λ (e : BankDecl). bank_start);
      each = λ bank d x known there.
          started plan (slice_get plan.banks bank) bank d x
          (sym (slice_get-map (λ (e : BankDecl). bank_start) plan.banks bank) ∙ there);
    }

-- after any tries
pub ran_sound : (plan : Plan) (acts : ℕ → List Act) (tries : List Step) → IsPlan plan
    → BoardSound plan (ran plan acts tries).state
ran_sound plan acts tries is =
    kept_from_start plan acts (BoardSound plan) (step_sound plan acts is) (start_board plan) tries

pub run_sound : (plan : Plan) (acts : ℕ → List Act) (s : BoardState) (tries : List Step) → IsPlan plan
    → BoardSound plan s → BoardSound plan (run plan acts s tries)
run_sound plan acts s tries is h = kept plan acts (BoardSound plan) (step_sound plan acts is) s tries h
