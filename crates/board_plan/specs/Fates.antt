-- What became of each error that reporters made. This project's own, over the histories of the record book (RERI 1.0).
-- The seven conditions stand apart from one another. They read the notes of the steps and what the record book says of
-- the histories that these tell; nothing here counts along, and nothing reads the state of the board.
use Rattle.std.specs.Prelude.{◌≡◌, ℕ, suc, ◌==◌, ◌&&◌, ◌||◌, not, Bool, true, false, if◌then◌else◌, List, [], ◌∷◌, map, reverse, length, count_by, slice_get, Option, Some, None}
use Rattle.reri_fields.specs.declared.report.Report.{Report}
use Rattle.reri_fields.specs.declared.report.Logged.{Logged}
use Rattle.reri_fields.specs.declared.report.Logged.TheVariants.{Disabled, Counted, Wrote, Kept}
use Rattle.reri_fields.specs.Records.{Error, Event, Origin, came_at, shown, since}
use Rattle.reri_fields.specs.Records.Event.{Reported, Claimed, Invalidated}
use Rattle.reri_fields.specs.Outcome.{outcome, wrote}
use Rattle.board_plan.specs.declared.notes.Fates as fates
use Rattle.board_plan.specs.declared.notes.StepNote.{StepNote}
use Rattle.board_plan.specs.declared.notes.StepNote.TheVariants as note
use Rattle.board_plan.specs.declared.plan.BankDecl.{BankDecl}
use Rattle.board_plan.specs.declared.plan.Plan.{Plan}
use Rattle.board_plan.specs.State.{bank_plan}
use Rattle.board_plan.specs.Run.{Noted}

-- ---- What a record went through ----

-- What can happen to a record, and that a drain read its status last: true where it published. A list of deeds has the
-- newest first.
pub data Deed : Type 0 where
  Was : Event → Deed
  Checked : Bool → Deed

-- the history of the record book that they are
abbrev pub told : List Deed → List Event
told [] = []
told (Was event ∷ deeds) = event ∷ told deeds
told (Checked published ∷ deeds) = told deeds

-- ---- The conditions, for the error that came at a step ----

-- the record shows it
unfoldable pub is_shown : Origin → List Deed → ℕ → Bool
is_shown origin deeds step = came_at step (shown (since origin (told deeds)))

abbrev pub says_disabled : Logged → Bool
says_disabled Disabled = true
says_disabled logged = false

abbrev pub says_counted : Logged → Bool
says_counted Counted = true
says_counted logged = false

abbrev pub says_wrote : Logged → Bool
says_wrote (Wrote level) = true
says_wrote logged = false

abbrev pub says_kept : Logged → Bool
says_kept Kept = true
says_kept logged = false

-- logging it had such an outcome
unfoldable pub is_answered : (Logged → Bool) → Origin → List Deed → ℕ → Bool
is_answered test origin [] step = false
is_answered test origin (Was (Reported error) ∷ deeds) step =
    (error.step == step && test (outcome origin (told deeds) error)) || is_answered test origin deeds step
is_answered test origin (deed ∷ deeds) step = is_answered test origin deeds step

-- it was the one that its record showed at some Check that published
unfoldable pub is_drained : Origin → List Deed → ℕ → Bool
is_drained origin [] step = false
is_drained origin (Checked true ∷ deeds) step = is_shown origin deeds step || is_drained origin deeds step
is_drained origin (deed ∷ deeds) step = is_drained origin deeds step

-- it lost its record to a later error before any Check had published it
unfoldable pub is_written_over : Origin → List Deed → ℕ → Bool
is_written_over origin [] step = false
is_written_over origin (Was (Reported error) ∷ deeds) step =
    (wrote origin (told deeds) error && is_shown origin deeds step && not (is_drained origin deeds step))
    || is_written_over origin deeds step
is_written_over origin (deed ∷ deeds) step = is_written_over origin deeds step

-- ---- Fates ----

pub data Fate : Type 0 where
  Stray : Fate
  WasDisabled : Fate
  WasCounted : Fate
  WasKept : Fate
  Drained : Fate
  Overwritten : Fate
  Stands : Fate

-- whether an error for a record that the board has, the one that came at a step, has a fate
unfoldable pub has_fate_here : Fate → Origin → List Deed → ℕ → Bool
has_fate_here Stray origin deeds step = false
has_fate_here WasDisabled origin deeds step = is_answered says_disabled origin deeds step
has_fate_here WasCounted origin deeds step = is_answered says_counted origin deeds step
has_fate_here WasKept origin deeds step = is_answered says_kept origin deeds step
has_fate_here Drained origin deeds step = is_drained origin deeds step
has_fate_here Overwritten origin deeds step =
    is_answered says_wrote origin deeds step && is_written_over origin deeds step
has_fate_here Stands origin deeds step = is_shown origin deeds step && not (is_drained origin deeds step)

-- an error for a record that the board hasn't is stray
abbrev pub is_stray : Fate → Bool
is_stray Stray = true
is_stray fate = false

abbrev pub has_fate_of : Fate → List Deed → ℕ → Option Origin → Bool
has_fate_of fate deeds step None = is_stray fate
has_fate_of fate deeds step (Some origin) = has_fate_here fate origin deeds step

-- ---- Deeds and errors as notes tell them ----

-- What a note says of records: an error was made, a drain claimed a record, checked it (true where it published), tried
-- to clear it; or nothing.
pub data News : Type 0 where
  Errs : Report → News
  Claims : ℕ → ℕ → News
  Checks : ℕ → ℕ → Bool → News
  Invalidates : ℕ → ℕ → News
  Other : News

abbrev pub news_of : StepNote → News
news_of (note.Error report logged) = Errs report
news_of (note.Claim bank rec) = Claims bank rec
news_of (note.Check bank rec torn) = Checks bank rec (not torn)
news_of (note.Invalidate bank rec cleared) = Invalidates bank rec
news_of n = Other

-- the news of some notes, the newest first: so the step of a piece of news is by one more than what is behind it
abbrev pub news : List Noted → List News
news ns = reverse (map (λ n. news_of n.note) ns)

abbrev pub error_at : ℕ → Report → Error
error_at step report = record { step = step; report = report }

-- the errors that were made, the newest first
abbrev pub errors_made : List News → List Error
errors_made [] = []
errors_made (Errs report ∷ older) = error_at (suc (length older)) report ∷ errors_made older
errors_made (n ∷ older) = errors_made older

abbrev pub is_at : ℕ → ℕ → ℕ → ℕ → Bool
is_at bank rec b r = (b == bank) && (r == rec)

-- what a piece of news, of the step with this number, is for a record
unfoldable pub deed_at : ℕ → ℕ → ℕ → News → Option Deed
deed_at bank rec step (Errs report) =
    if is_at bank rec report.bank report.rec then Some (Was (Reported (error_at step report))) else None
deed_at bank rec step (Claims b r) = if is_at bank rec b r then Some (Was Claimed) else None
deed_at bank rec step (Checks b r published) = if is_at bank rec b r then Some (Checked published) else None
deed_at bank rec step (Invalidates b r) = if is_at bank rec b r then Some (Was Invalidated) else None
deed_at bank rec step Other = None

abbrev pub with_deed : Option Deed → List Deed → List Deed
with_deed None deeds = deeds
with_deed (Some deed) deeds = deed ∷ deeds

abbrev pub deeds_of : ℕ → ℕ → List News → List Deed
deeds_of bank rec [] = []
deeds_of bank rec (n ∷ older) = with_deed (deed_at bank rec (suc (length older)) n) (deeds_of bank rec older)

-- how a record of the board begins
abbrev pub origin_in : ℕ → ℕ → Plan → Option BankDecl → Option Origin
origin_in bank rec plan None = None
origin_in bank rec plan (Some d) = slice_get (bank_plan bank d plan.recs).origins rec

abbrev pub origin_at : Plan → ℕ → ℕ → Option Origin
origin_at plan bank rec = origin_in bank rec plan (slice_get plan.banks bank)

-- whether an error that was made has a fate
abbrev pub has_fate : Plan → List News → Fate → Error → Bool
has_fate plan ns fate error =
    let r = error.report in
    has_fate_of fate (deeds_of r.bank r.rec ns) error.step (origin_at plan r.bank r.rec)

abbrev pub ExactlyOne : (Fate → Bool) → Type 0
ExactlyOne has = (fate : Fate) × (has fate ≡ true) × ((other : Fate) → has other ≡ true → other ≡ fate)

-- ---- How many have each ----

unfoldable pub number_with : Plan → List News → Fate → ℕ
number_with plan ns fate = count_by (has_fate plan ns fate) (errors_made ns)

abbrev pub fates_of : Plan → List Noted → fates.Fates
fates_of plan ns =
    record {
      made = length (errors_made (news ns));
      stray = number_with plan (news ns) Stray;
      disabled = number_with plan (news ns) WasDisabled;
      counted = number_with plan (news ns) WasCounted;
      drained = number_with plan (news ns) Drained;
      overwritten = number_with plan (news ns) Overwritten;
      kept = number_with plan (news ns) WasKept;
      stands = number_with plan (news ns) Stands;
    }
