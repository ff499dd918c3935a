-- What a note adds to a tally: this describes the code. The fates that it counts are those of the board book, and that
-- it counts them right is said in Tallied.
use Rattle.std.specs.Prelude.{ℕ, ◌+◌, ◌-◌, ◌*◌, ◌^◌, min, Bool, true, false, if◌then◌else◌, slice_index_or, slice_set, Option, Some, None}
use Rattle.reri_fields.specs.declared.report.Logged.{Logged}
use Rattle.reri_fields.specs.declared.report.Logged.TheVariants.{Disabled, Counted, Wrote, Kept}
use Rattle.board_plan.specs.declared.notes.Fates as fates
use Rattle.board_plan.specs.declared.notes.StepNote.{StepNote}
use Rattle.board_plan.specs.declared.notes.StepNote.TheVariants as note
use Rattle.board_fates.specs.declared.tally.Tally.{Tally}

-- ---- Marks ----

-- the mark of a record, of which a bank has 64
abbrev pub mark_at : ℕ → ℕ → Tally → Bool
mark_at bank rec t = slice_index_or t.marks (64 * bank + rec) false

abbrev pub with_mark : ℕ → ℕ → Bool → Tally → Tally
with_mark bank rec mark t = record t { marks = slice_set t.marks (64 * bank + rec) mark }

-- ---- Counts ----

-- one more, as far as 32 bits go
abbrev pub more : ℕ → ℕ
more n = min (n + 1) (2 ^ 32 - 1)

-- one error more was made
abbrev pub one_made : fates.Fates → fates.Fates
one_made f = record f { made = more f.made }

-- An error that was answered so, where the mark of its record was this one. An error that writes over one that no Check
-- has published stands in its place.
abbrev pub with_answer : Option Logged → Bool → fates.Fates → fates.Fates
with_answer None mark f = record f { stray = more f.stray }
with_answer (Some Disabled) mark f = record f { disabled = more f.disabled }
with_answer (Some Counted) mark f = record f { counted = more f.counted }
with_answer (Some (Wrote level)) true f = record f { overwritten = more f.overwritten }
with_answer (Some (Wrote level)) false f = record f { stands = more f.stands }
with_answer (Some Kept) mark f = record f { kept = more f.kept }

abbrev pub writes : Option Logged → Bool
writes (Some (Wrote level)) = true
writes logged = false

abbrev pub with_counts : fates.Fates → Tally → Tally
with_counts f t = record t { counts = f }

abbrev pub marked_if : Bool → ℕ → ℕ → Tally → Tally
marked_if true bank rec t = with_mark bank rec true t
marked_if false bank rec t = t

-- ---- Notes ----

-- an error for a record was answered so
abbrev pub with_error : ℕ → ℕ → Option Logged → Tally → Tally
with_error bank rec logged t =
    marked_if (writes logged) bank rec (with_counts (with_answer logged (mark_at bank rec t) (one_made t.counts)) t)

-- what a marked record shows stands no longer
abbrev pub fallen : ℕ → ℕ → Tally → Tally
fallen bank rec t = with_mark bank rec false (with_counts (record t.counts { stands = t.counts.stands - 1 }) t)

abbrev pub drained : Tally → Tally
drained t = with_counts (record t.counts { drained = more t.counts.drained }) t

-- a Check published what a record shows
abbrev pub with_published : ℕ → ℕ → Tally → Tally
with_published bank rec t = if mark_at bank rec t then drained (fallen bank rec t) else t

-- an invalidation cleared a record
abbrev pub with_cleared : ℕ → ℕ → Tally → Tally
with_cleared bank rec t = if mark_at bank rec t then fallen bank rec t else t

abbrev pub with_note : StepNote → Tally → Tally
with_note (note.Error report logged) t = with_error report.bank report.rec logged t
with_note (note.Check bank rec torn) t = if torn then t else with_published bank rec t
with_note (note.Invalidate bank rec cleared) t = if cleared then with_cleared bank rec t else t
with_note n t = t
