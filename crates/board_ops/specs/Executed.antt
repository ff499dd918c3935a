-- What an op's execution leaves of the firmware's machine, and its note, against the book.
use Rattle.std.specs.Prelude.{◌≡◌, ℕ}
use Rattle.sse_base.specs.Machine.{Machine, placed}
use Rattle.board_plan.specs.declared.notes.StepNote.{StepNote}
use Rattle.board_plan.specs.Ops.{Done}

-- the hart's reach and the note are those of the book, and the board stays what it is
pub record Executes (hart : ℕ) (old new : Machine) (note : StepNote) (wanted : Done) : Type 0 where
  pub note_is : note ≡ wanted.note
  pub next : new ≡ placed hart wanted.reach old
  pub harts : new.events.harts ≡ old.events.harts
  pub instances : new.events.instances ≡ old.events.instances
