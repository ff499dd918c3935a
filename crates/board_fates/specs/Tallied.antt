-- When a tally is that of the notes of a run, and which note can come next in a run. This project's own, over the fates
-- of the board book and the histories of the record book (RERI 1.0).
use Rattle.std.specs.Prelude.{◌≡◌, ℕ, suc, ◌<◌, ◌≤◌, not, Bool, false, List, length, Option, IsSome}
use Rattle.std.specs.Option.{option_map, option_map_or}
use Rattle.reri_fields.specs.declared.report.Logged.{Logged}
use Rattle.reri_fields.specs.Records.{Error, Origin, shown, since, in_progress}
use Rattle.reri_fields.specs.Outcome.{outcome}
use Rattle.board_plan.specs.declared.notes.Fates as fates
use Rattle.board_plan.specs.declared.notes.StepNote.{StepNote}
use Rattle.board_plan.specs.declared.notes.StepNote.TheVariants as note
use Rattle.board_plan.specs.declared.plan.Plan.{Plan}
use Rattle.board_plan.specs.Plans.{IsPlan}
use Rattle.board_plan.specs.Run.{Noted}
use Rattle.board_plan.specs.Fates.{Deed, News, told, is_drained, deeds_of, origin_at, errors_made, error_at, number_with, news}
use Rattle.board_plan.specs.Fates.Fate.{Stray, WasDisabled, WasCounted, WasKept, Drained, Overwritten, Stands}
use Rattle.board_fates.specs.declared.tally.Tally.{Tally}
use Rattle.board_fates.specs.Counted.{mark_at}

-- ---- What is told of a record ----

-- the record shows an error that no Check has published
unfoldable pub shows_unpublished : Origin → List Deed → Bool
shows_unpublished origin deeds =
    option_map_or (λ (error : Error). not (is_drained origin deeds error.step)) (shown (since origin (told deeds)))
    false

-- the same of a record of a plan; false where the plan has no such record
unfoldable pub is_unpublished_at : Plan → List News → ℕ → ℕ → Bool
is_unpublished_at plan ns bank rec =
    option_map_or (λ origin. shows_unpublished origin (deeds_of bank rec ns)) (origin_at plan bank rec) false

-- what becomes of an error that is reported after some news; none where the plan has no such record
abbrev pub answer_to : Plan → List News → Error → Option Logged
answer_to plan ns error =
    let r = error.report in
    option_map (λ origin. outcome origin (told (deeds_of r.bank r.rec ns)) error) (origin_at plan r.bank r.rec)

-- whether a claim of what a record holds still counts
abbrev pub is_claimed_at : Plan → List News → ℕ → ℕ → Bool
is_claimed_at plan ns bank rec =
    option_map_or (λ origin. in_progress origin (told (deeds_of bank rec ns))) (origin_at plan bank rec) false

-- ---- A tally, and the notes that it is of ----

-- how many of the errors that some news tell of have each fate
unfoldable pub numbers : Plan → List News → fates.Fates
numbers plan ns =
    record {
      made = length (errors_made ns);
      stray = number_with plan ns Stray;
      disabled = number_with plan ns WasDisabled;
      counted = number_with plan ns WasCounted;
      drained = number_with plan ns Drained;
      overwritten = number_with plan ns Overwritten;
      kept = number_with plan ns WasKept;
      stands = number_with plan ns Stands;
    }

-- its counts are the numbers of errors, and a record is marked where it shows an error that no Check has published
pub record IsTallyOf (plan : Plan) (ns : List News) (t : Tally) : Type 0 where
  pub is_plan : IsPlan plan
  pub counts : t.counts ≡ numbers plan ns
  pub marks : (bank rec : ℕ) → bank < 4 → rec < 64 → mark_at bank rec t ≡ is_unpublished_at plan ns bank rec
  pub room : length t.marks ≡ 256

abbrev pub Tallies : Plan → List Noted → Tally → Type 0
Tallies plan ns t = IsTallyOf plan (news ns) t

-- ---- The note that comes next ----

-- An error is answered as its record's history says, a Check publishes of a record that is there, and an invalidation
-- says whether it took effect. All other notes say nothing of records.
abbrev pub IsTrue : Plan → List News → StepNote → Type 0
IsTrue plan ns (note.Error report logged) = logged ≡ answer_to plan ns (error_at (suc (length ns)) report)
IsTrue plan ns (note.Check bank rec torn) = torn ≡ false → IsSome (origin_at plan bank rec)
IsTrue plan ns (note.Invalidate bank rec cleared) = cleared ≡ is_claimed_at plan ns bank rec
IsTrue plan ns n = Unit {0}

-- a note that can come next in a run, which is of 160,000 steps at most
pub record IsNext (plan : Plan) (ns : List Noted) (n : StepNote) : Type 0 where
  pub few : length ns ≤ 160000
  pub is_true : IsTrue plan (news ns) n
