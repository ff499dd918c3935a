-- Lines on their way to a sink, of which a write may fail. This project's own; public clauses cite the count of writes
-- alone.
use Rattle.std.specs.Prelude.{◌≡◌, ℕ, zero, suc, List, length, OnOk, OnErr, Option, Result}
use Rattle.ras_io.specs.Causes.{HasCause, Puts, one_more}
use Rattle.ras_io.specs.declared.faults.SinkFault.{SinkFault}
use Rattle.ras_text.specs.Lines.{sink_of, SameSink}
use Rattle.board_plan.specs.Text.{bytes_of}
use Rattle.board_report.specs.declared.pages.Pages.{Pages}

-- a count after so many more
abbrev pub many : ℕ → ℕ → ℕ
many n zero = n
many n (suc k) = one_more (many n k)

-- what a sink was given, how many writes and faults it counts, and whether a write of the pages failed
pub record State : Type 0 where
  pub written : Option (List ℕ)
  pub faults : ℕ
  pub writes : ℕ
  pub outcome : Result (Unit {0}) SinkFault

-- some lines went out: all of them, each in a write of its own, or a front of their bytes where a write failed
pub record Wrote (a b : State) (ls : List (List ℕ)) : Type 0 where
  pub bytes : Puts a.written b.written b.outcome (bytes_of ls)
  pub cause : HasCause a.faults b.faults b.outcome
  pub writes : OnOk b.outcome (b.writes ≡ many a.writes (length ls))

-- some lines were to go out: nothing more goes out after a failure
pub record Grows (a b : State) (ls : List (List ℕ)) : Type 0 where
  pub all : OnOk a.outcome (Wrote a b ls)
  pub still : OnErr a.outcome (b ≡ a)

module _ {K : Type 0} where
  -- how far pages are, by what a sink of their kind tells
  abbrev pub state_of : (K → Option (List ℕ)) → (K → ℕ) → (K → ℕ) → Pages K → State
  state_of written faults writes p =
      record {
        written = written (sink_of p.line);
        faults = faults (sink_of p.line);
        writes = writes (sink_of p.line);
        outcome = p.outcome;
      }

  -- pages with some lines more
  abbrev pub Adds : (K → Option (List ℕ)) → (K → ℕ) → (K → ℕ) → Pages K → Pages K → List (List ℕ) → Type 0
  Adds written faults writes old new ls = Grows (state_of written faults writes old)
      (state_of written faults writes new) ls

  -- both go to the same sink
  abbrev pub SamePages : Pages K → Pages K → Type 0
  SamePages new old = SameSink new.line old.line
