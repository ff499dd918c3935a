-- The note of a step that was made, and that of none.
use Rattle.std.proofs.Common.{◌≡◌, Bool, true, false, refl, sym, ap}
use Rattle.std.proofs.lemmas.Bool.{true≢false}
use Rattle.board_plan.specs.declared.notes.StepNote.{StepNote}
use Rattle.board_plan.specs.declared.notes.StepNote.TheVariants as note
use Rattle.board_plan.specs.Notes.{has_text}
use Rattle.board_core.specs.Played.{note_if}
use Rattle.board_lock.specs.Trying.{is_step}

-- what has a text is the note of a step
has_step : (n : StepNote) → has_text n ≡ true → true ≡ is_step n
has_step note.Idle text = absurd (true≢false (sym text))
has_step n text = refl

-- whether a step was made shows in its note
pub made_text : (made : Bool) (n : StepNote) → (made ≡ true → has_text n ≡ true)
    → made ≡ is_step (note_if made n)
made_text true n text = has_step n (text refl)
made_text false n text = refl

-- the note of a step, or `Idle`
pub told : (n : StepNote) → note_if (is_step n) n ≡ n
told note.Idle = refl
told n = refl

pub told_made : (n : StepNote) → is_step n ≡ is_step (note_if (is_step n) n)
told_made n = ap is_step (sym (told n))
