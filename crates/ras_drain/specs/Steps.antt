-- What a step of a drain does, beside what the bank's history says of it: which errors came since a claim or a check.
-- This project's own.
use Rattle.std.specs.Prelude.{◌≡◌, ◌<◌, ◌↔◌, true, false, List, ◌∷◌, ◌++◌, slice_get, Option, Some}
use Rattle.reri_fields.specs.declared.report.RecordCopy.{RecordCopy}
use Rattle.reri_fields.specs.declared.drain.Phase.TheVariants.{Check, Invalidate}
use Rattle.reri_fields.specs.declared.drain.DrainNote.{DrainNote}
use Rattle.reri_fields.specs.declared.drain.DrainNote.TheVariants.{Torn, Invalidated}
use Rattle.reri_fields.specs.Records.{Event, Origin, AreInOrder, is_any, shown_rank, since, in_progress}
use Rattle.reri_fields.specs.Records.Event.{Claimed}
use Rattle.reri_fields.specs.Outcome.{AreErrors, any_wrote}
use Rattle.reri_fields.specs.Banks.{BankEvent, BankView, BankStands, events_of}
use Rattle.reri_fields.specs.Drain.{BankPlan, BankState, Draining, Drained}

-- bank and slot are those of a bank in this state
pub record IsAt (plan : BankPlan) (s : BankState) (bank : BankView) (slot : List RecordCopy) : Type 0 where
  pub stands : BankStands plan.origins s.history bank
  pub slot_is : slot ≡ s.slot

-- drain, bank and slot are those after this step, and so is the note
pub record Took (plan : BankPlan) (step : Drained) (drain : Option Draining) (bank : BankView)
    (slot : List RecordCopy) (note : DrainNote) : Type 0 where
  pub state : IsAt plan step.state bank slot
  pub drain_is : drain ≡ step.state.drain
  pub note_is : note ≡ step.note

-- Errors alone came to the record since then: to what had happened to it before, they were added.
pub record CameSince (later before now : List Event) : Type 0 where
  pub are : now ≡ later ++ before
  pub only : AreErrors later
  pub in_order : AreInOrder (later ++ before)

-- a Check is torn exactly where an error has written the record since its claim, and then the rank that it shows has
-- risen
pub record TornMeans (origin : Origin) (later before : List Event) (note : DrainNote) : Type 0 where
  pub wrote : (note ≡ Torn) ↔ (any_wrote origin later (Claimed ∷ before) ≡ true)
  pub rises : note ≡ Torn → shown_rank (since origin before) < shown_rank (since origin (later ++ Claimed ∷ before))

-- of a drain that is at a Check: what it means that the Check is torn
abbrev pub TornAfterClaim : List Origin → BankView → List BankEvent → Draining → DrainNote → Type 0
TornAfterClaim origins bank history d note = (origin : Origin) (later before : List Event)
    → d.phase ≡ Check → slice_get origins d.rec ≡ Some origin → BankStands origins history bank
    → CameSince later (Claimed ∷ before) (events_of d.rec history) → is_any (since origin before) ≡ true
    → TornMeans origin later before note

-- of a drain that is at an Invalidate: the record is left as it is exactly where an error has written it since the
-- Check
abbrev pub StoodAfterCheck : List Origin → BankView → List BankEvent → Draining → DrainNote → Type 0
StoodAfterCheck origins bank history d note = (origin : Origin) (later before : List Event)
    → d.phase ≡ Invalidate → slice_get origins d.rec ≡ Some origin → BankStands origins history bank
    → CameSince later before (events_of d.rec history) → in_progress origin before ≡ true
    → (note ≡ Invalidated false) ↔ (any_wrote origin later before ≡ true)
