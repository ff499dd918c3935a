-- What holds of the parts of a bank at all times, and what the parts of its drain's step leave. This describes the
-- code; no public clause cites it.
use Rattle.std.specs.Prelude.{◌≡◌, ◌≤◌, ℕ, List, IsSome}
use Rattle.reri_fields.specs.declared.report.RecordCopy.{RecordCopy}
use Rattle.reri_fields.specs.declared.drain.DrainNote.{DrainNote}
use Rattle.reri_fields.specs.Banks.{BankView}
use Rattle.reri_fields.specs.Drain.{BankPlan, BankState, Draining, due_drain, phase_step}
use Rattle.ras_drain.specs.Fits.{DrainView, Fits, HasRoom}
use Rattle.ras_drain.specs.Steps.{Took}
use Rattle.board_bank.specs.Standing.{BankParts}

-- the drain may take its next step
pub record IsReady (bank : BankView) (slot : List RecordCopy) (drain : DrainView) (gather : ℕ) : Type 0 where
  pub fits : Fits drain bank
  pub room : HasRoom drain.drain slot
  pub some : 1 ≤ gather
  pub few : gather ≤ 4
  pub gathers : IsSome drain.drain → drain.gather ≡ gather

-- the drain that is due is under way where there is one, and nothing else changes
pub record Begins (plan : BankPlan) (s : BankState) (old new : BankParts) : Type 0 where
  pub drain : new.drain ≡ due_drain plan s s.drain
  pub bank : new.bank ≡ old.bank
  pub slot : new.slot ≡ old.slot
  pub gather : new.gather ≡ old.gather

-- a phase of the drain was taken
pub record Advances (plan : BankPlan) (s : BankState) (d : Draining) (new : BankParts) (rec : ℕ)
    (note : DrainNote) : Type 0 where
  pub took : Took plan (phase_step plan s d d.phase) new.drain new.bank new.slot note
  pub rec_is : rec ≡ d.rec
  pub gather : new.gather ≡ plan.gather
