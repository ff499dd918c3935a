-- The machine of a board at its start, and which declarations a board may have.
-- SBI 3.0, "Supervisor Software Events", event ids: an id names one event; hart mask: each hart begins masked. Memory
-- that begins with zeros is this project's own rule.
use Rattle.std.specs.Prelude.{ℕ, ◌==◌, ◌&&◌, ◌||◌, not, Bool, true, false, List, [], ◌∷◌, map, replicate}
use Rattle.sse_base.specs.declared.events.EventDecl.{EventDecl}
use Rattle.sse_base.specs.Events.{start_events}
use Rattle.sse_base.specs.Contexts.{fresh_stack}
use Rattle.sse_base.specs.Words.{fresh_memory}
use Rattle.sse_base.specs.Machine.{Machine}

abbrev pub has_id : ℕ → List EventDecl → Bool
has_id id [] = false
has_id id (d ∷ ds) = (d.id.0 == id) || has_id id ds

-- each id is declared once
abbrev pub are_distinct : List EventDecl → Bool
are_distinct [] = true
are_distinct (d ∷ ds) = not (has_id d.id.0 ds) && are_distinct ds

-- nobody has used an event, each hart is masked and begins at its place, and memory is zeros
abbrev pub start_machine : ℕ → List EventDecl → List ℕ → Machine
start_machine harts decls starts =
    record {
      events = start_events harts decls;
      masks = replicate harts true;
      stacks = map fresh_stack starts;
      memory = fresh_memory;
    }
