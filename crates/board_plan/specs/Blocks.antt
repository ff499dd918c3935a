-- What holds of published blocks until they are acknowledged, and of the claims of a drain. This project's own, over
-- the record book (RERI 1.0; ACPI 6.5, 18.3.2.8 for the acknowledgement of a block).
use Rattle.std.specs.Prelude.{◌≡◌, ℕ, suc, ◌<◌, ◌≤◌, ◌==◌, ◌&&◌, not, Bool, true, false, if◌then◌else◌, List, [], ◌∷◌, ◌++◌, count_by, slice_get, Option, Some, None}
use Rattle.std.specs.List.{list_any}
use Rattle.reri_fields.specs.declared.report.RecordCopy.{RecordCopy}
use Rattle.reri_fields.specs.Records.{Error, Origin, rank_of, greatest_of, shown, copy_after}
use Rattle.reri_fields.specs.Banks.{events_of}
use Rattle.reri_fields.specs.Drain.{BankState, errors_at, is_free}
use Rattle.ras_device.specs.declared.act.Act.{Act}
use Rattle.board_plan.specs.declared.notes.Step.{Step}
use Rattle.board_plan.specs.declared.notes.StepNote.{StepNote}
use Rattle.board_plan.specs.declared.notes.StepNote.TheVariants as note
use Rattle.board_plan.specs.declared.plan.Plan.{Plan}
use Rattle.board_plan.specs.Step.{Stepped, step}
use Rattle.board_plan.specs.Run.{Noted, run, notes, ran}
use Rattle.board_plan.specs.Fates.{has_fate, news, errors_made, origin_at}
use Rattle.board_plan.specs.Fates.Fate.{Drained}
use Rattle.board_plan.specs.Sound.{newest_copies, times_published}

-- ---- Notes of a bank ----

-- a Check that published, an acknowledgement that found the slot full, a claim
abbrev pub publishes_on : ℕ → StepNote → Bool
publishes_on bank (note.Check b rec torn) = (b == bank) && not torn
publishes_on bank n = false

abbrev pub is_yes : Option Bool → Bool
is_yes None = false
is_yes (Some full) = full

abbrev pub acks_on : ℕ → StepNote → Bool
acks_on bank (note.Ack b was) = (b == bank) && is_yes was
acks_on bank n = false

abbrev pub claims_on : ℕ → StepNote → Bool
claims_on bank (note.Claim b rec) = b == bank
claims_on bank n = false

-- whether some note passes, and how many do
abbrev pub some_note : (StepNote → Bool) → List Noted → Bool
some_note test ns = list_any (λ n. test n.note) ns

abbrev pub number_of_notes : (StepNote → Bool) → List Noted → ℕ
number_of_notes test ns = count_by (λ n. test n.note) ns

-- ---- Blocks ----

-- how many copies were published since the last acknowledgement that found the slot full, the oldest note first
abbrev pub since_ack : ℕ → ℕ → List Noted → ℕ
since_ack bank count [] = count
since_ack bank count (n ∷ ns) =
    if acks_on bank n.note then since_ack bank 0 ns
    else (if publishes_on bank n.note then since_ack bank (suc count) ns
    else since_ack bank count ns)

-- a slot holds the copies that were published since then
abbrev pub EachSlotIsOfItsNotes : Plan → (ℕ → List Act) → Type 0
EachSlotIsOfItsNotes plan acts =
    (tries : List Step) (bank : ℕ) (x : BankState) → slice_get (ran plan acts tries).state.banks bank ≡ Some x
    → x.slot ≡ newest_copies (since_ack bank 0 (ran plan acts tries).notes) x.published

-- a copy stays at its place in the slot until that acknowledgement
abbrev pub EachCopyStands : Plan → (ℕ → List Act) → Type 0
EachCopyStands plan acts =
    (older tries : List Step) (bank place : ℕ) (x y : BankState) (copy : RecordCopy)
    → slice_get (ran plan acts older).state.banks bank ≡ Some x
    → slice_get (run plan acts (ran plan acts older).state tries).banks bank ≡ Some y
    → some_note (acks_on bank) (notes plan acts (ran plan acts older).state tries) ≡ false
    → slice_get x.slot place ≡ Some copy → slice_get y.slot place ≡ Some copy

-- a block that was signalled stays as it is until that acknowledgement
abbrev pub EachSignalledBlockRests : Plan → (ℕ → List Act) → Type 0
EachSignalledBlockRests plan acts =
    (older tries : List Step) (t : Step) (d : Stepped) (bank level : ℕ) (id : Option ℕ) (x y : BankState)
    → step plan acts t (ran plan acts older).state ≡ Some d → d.note ≡ note.Signal bank level id
    → slice_get d.state.banks bank ≡ Some x → slice_get (run plan acts d.state tries).banks bank ≡ Some y
    → some_note (acks_on bank) (notes plan acts d.state tries) ≡ false → is_free x.slot ≡ false → y.slot ≡ x.slot

-- the Check that published an error: it copied the six values that the record showed of that very error
pub record IsPublicationOf (plan : Plan) (acts : ℕ → List Act) (tries : List Step) (e : Error) : Type 0 where
  pub before : List Step
  pub after : List Step
  pub by : Step
  pub made : Stepped
  pub copy : RecordCopy
  pub bank : BankState
  pub origin : Origin
  pub tried : tries ≡ before ++ by ∷ after
  pub steps : step plan acts by (ran plan acts before).state ≡ Some made
  pub checks : made.note ≡ note.Check e.report.bank e.report.rec false
  pub publishes : made.published ≡ Some (record { bank = e.report.bank; copy = copy })
  pub begins : origin_at plan e.report.bank e.report.rec ≡ Some origin
  pub there : slice_get (ran plan acts before).state.banks e.report.bank ≡ Some bank
  pub showed : shown (errors_at origin e.report.rec bank.history) ≡ Some e
  pub values : copy ≡ copy_after origin (events_of e.report.rec bank.history)

-- for each drained error there is one Check that published it, and no second
pub record WasDrainedOnce (plan : Plan) (acts : ℕ → List Act) (tries : List Step) (e : Error) : Type 0 where
  pub once : times_published plan e.step (news (ran plan acts tries).notes) ≡ 1
  pub check : IsPublicationOf plan acts tries e

abbrev pub EachDrainedWasPublished : Plan → (ℕ → List Act) → Type 0
EachDrainedWasPublished plan acts =
    (tries : List Step) (i : ℕ) (e : Error) → slice_get (errors_made (news (ran plan acts tries).notes)) i ≡ Some e
    → has_fate plan (news (ran plan acts tries).notes) Drained e ≡ true → WasDrainedOnce plan acts tries e

pub record AreBlocksKept (plan : Plan) (acts : ℕ → List Act) : Type 0 where
  pub slots : EachSlotIsOfItsNotes plan acts
  pub copies : EachCopyStands plan acts
  pub signalled : EachSignalledBlockRests plan acts
  pub drained : EachDrainedWasPublished plan acts

-- ---- Claims ----

-- at most twelve claims are made for one record before a Check publishes it
abbrev pub AreAtMostTwelveClaims : Plan → (ℕ → List Act) → Type 0
AreAtMostTwelveClaims plan acts =
    (older tries : List Step) (t : Step) (d : Stepped) (bank rec : ℕ)
    → step plan acts t (ran plan acts older).state ≡ Some d → d.note ≡ note.Scan bank (Some rec)
    → some_note (publishes_on bank) (notes plan acts d.state tries) ≡ false
    → number_of_notes (claims_on bank) (notes plan acts d.state tries) ≤ 12

-- the greatest rank of the errors that a record shows one of
abbrev pub rank_shown : Origin → ℕ → BankState → ℕ
rank_shown origin rec x = greatest_of rank_of (errors_at origin rec x.history)

-- between a claim and the torn Check of that try, the record came to show an error of strictly greater rank
abbrev pub EachTornCheckRises : Plan → (ℕ → List Act) → Type 0
EachTornCheckRises plan acts =
    (older tries : List Step) (t u : Step) (d e : Stepped) (bank rec : ℕ) (origin : Origin) (x y : BankState)
    → step plan acts t (ran plan acts older).state ≡ Some d → d.note ≡ note.Claim bank rec
    → number_of_notes (claims_on bank) (notes plan acts d.state tries) ≡ 0
    → step plan acts u (run plan acts d.state tries) ≡ Some e → e.note ≡ note.Check bank rec true
    → origin_at plan bank rec ≡ Some origin
    → slice_get (ran plan acts older).state.banks bank ≡ Some x
    → slice_get (run plan acts d.state tries).banks bank ≡ Some y → rank_shown origin rec x < rank_shown origin rec y

pub record AreClaimsBounded (plan : Plan) (acts : ℕ → List Act) : Type 0 where
  pub twelve : AreAtMostTwelveClaims plan acts
  pub torn : EachTornCheckRises plan acts
