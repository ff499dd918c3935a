-- When a bank with its slot and its drain is that of a plan in a state. This project's own, over the bank's steps
-- of the record book.
use Rattle.std.specs.Prelude.{◌≡◌, ℕ, List, Option, Some}
use Rattle.reri_fields.specs.declared.report.RecordCopy.{RecordCopy}
use Rattle.reri_fields.specs.Banks.{BankView, BankStands}
use Rattle.reri_fields.specs.Drain.{BankPlan, BankState, BankTry, BankNote, Draining, bank_step}

-- what contracts see of it: the registers and the ask flag, the copies in the slot, the drain where one is under
-- way, and how many copies a drain gathers
pub record BankParts : Type 0 where
  pub bank : BankView
  pub slot : List RecordCopy
  pub drain : Option Draining
  pub gather : ℕ

-- it is a bank of this plan in this state
pub record StandsFor (plan : BankPlan) (s : BankState) (b : BankParts) : Type 0 where
  pub stands : BankStands plan.origins s.history b.bank
  pub slot_is : b.slot ≡ s.slot
  pub drain_is : b.drain ≡ s.drain
  pub gather_is : b.gather ≡ plan.gather

-- a try at the bank makes a step with this note, and it is a bank of the plan in the state after it
pub record Makes (plan : BankPlan) (s : BankState) (t : BankTry) (note : BankNote) (b : BankParts) : Type 0 where
  pub state : BankState
  pub step : bank_step plan s t ≡ Some (record { state = state; note = note })
  pub stands_for : StandsFor plan state b
