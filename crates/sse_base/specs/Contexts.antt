-- What a hart runs, and what its handlers interrupted. SBI 3.0, "Supervisor Software Events", software event delivery
-- and completion, and the INTERRUPTED attributes. A saved value stands here with the frame to which it belongs: the
-- code's registers and attributes keep it one level away. This project's own rules are that no bit of sepc is dropped,
-- and the 0 that an INTERRUPTED attribute reads where nothing runs.
use Rattle.std.specs.Prelude.{ℕ, ◌+◌, ◌*◌, ◌/◌, ◌%◌, ◌==◌, Bool, true, false, if◌then◌else◌, List, [], ◌∷◌, Option, Some, None}
use Rattle.std.specs.List.{list_any}
use Rattle.sse_base.specs.declared.contexts.Privilege.{Privilege}
use Rattle.sse_base.specs.declared.contexts.Privilege.TheVariants.{User, Supervisor}
use Rattle.sse_base.specs.declared.ids.Instance.{Instance}
use Rattle.sse_base.specs.Ids.{same_instance}
use Rattle.sse_base.specs.Attributes.{INTERRUPTED_SEPC, INTERRUPTED_FLAGS, INTERRUPTED_A6}

-- what a hart runs
pub record Context : Type 0 where
  pub pc : ℕ
  pub privilege : Privilege
  pub sie : Bool
  pub a6 : ℕ
  pub a7 : ℕ

-- a handler that runs, and the context that it interrupted
pub record Frame : Type 0 where
  pub at : Instance
  pub saved : Context

-- what sepc, spp and spie are where no handler runs
pub record Triple : Type 0 where
  pub sepc : ℕ
  pub spp : Privilege
  pub spie : Bool

-- a hart: what is live, its handlers from the newest to the oldest, and the triple below them all
pub record Stack : Type 0 where
  pub live : Context
  pub frames : List Frame
  pub base : Triple

-- the triple that a saved context is for the handler above it
abbrev pub triple_of : Context → Triple
triple_of c = record { sepc = c.pc; spp = c.privilege; spie = c.sie }

abbrev pub with_triple : Triple → Context → Context
with_triple t c = record { pc = t.sepc; privilege = t.spp; sie = t.spie; a6 = c.a6; a7 = c.a7 }

abbrev pub fresh_stack : ℕ → Stack
fresh_stack pc =
    record {
      live = record { pc = pc; privilege = Supervisor; sie = false; a6 = 0; a7 = 0 };
      frames = [];
      base = record { sepc = 0; spp = User; spie = false };
    }

-- a delivery on a hart saves what is live, and begins the handler
abbrev pub deliver : Instance → ℕ → ℕ → ℕ → Stack → Stack
deliver at entry arg hart s =
    record {
      live = record { pc = entry; privilege = Supervisor; sie = false; a6 = hart; a7 = arg };
      frames = record { at = at; saved = s.live } ∷ s.frames;
      base = s.base;
    }

-- a completion goes on with what the newest handler interrupted; where none runs nothing changes
abbrev pub without_newest : Stack → List Frame → Stack
without_newest s [] = s
without_newest s (f ∷ fs) = record { live = f.saved; frames = fs; base = s.base }

abbrev pub complete : Stack → Stack
complete s = without_newest s s.frames

-- the same with another pc
abbrev pub with_pc : ℕ → Stack → Stack
with_pc pc s = record { live = record s.live { pc = pc }; frames = s.frames; base = s.base }

-- the newest handler
abbrev pub newest : List Frame → Option Instance
newest [] = None
newest (f ∷ fs) = Some f.at

-- the triple right below these handlers: of the newest one's saved context, or the base
abbrev pub below : List Frame → Triple → Triple
below [] base = base
below (f ∷ fs) base = triple_of f.saved

-- what lies under a live context
pub record Under : Type 0 where
  pub frames : List Frame
  pub base : Triple

abbrev pub on_top : Frame → Under → Under
on_top f u = record { frames = f ∷ u.frames; base = u.base }

abbrev pub over : Context → Under → Stack
over live u = record { live = live; frames = u.frames; base = u.base }

-- these handlers with another triple right below
abbrev pub with_below : Triple → List Frame → Triple → Under
with_below t [] base = record { frames = []; base = t }
with_below t (f ∷ fs) base = record { frames = record { at = f.at; saved = with_triple t f.saved } ∷ fs; base = base }

-- sepc, spp and spie as the running code sees them, and a change of them
abbrev pub top_triple : Stack → Triple
top_triple s = below s.frames s.base

abbrev pub change_top : (Triple → Triple) → Stack → Stack
change_top g s = over s.live (with_below (g (top_triple s)) s.frames s.base)

-- a change of the triple that lies below an instance's own handler
abbrev pub changed_below : Instance → (Triple → Triple) → List Frame → Triple → Under
changed_below at g [] base = record { frames = []; base = base }
changed_below at g (f ∷ fs) base =
    if same_instance f.at at then on_top f (with_below (g (below fs base)) fs base)
    else on_top f (changed_below at g fs base)

abbrev pub change_below : Instance → (Triple → Triple) → Stack → Stack
change_below at g s = over s.live (changed_below at g s.frames s.base)

-- a change of the context that an instance's handler interrupted
abbrev pub changed_own : Instance → (Context → Context) → List Frame → List Frame
changed_own at g [] = []
changed_own at g (f ∷ fs) =
    if same_instance f.at at then record { at = f.at; saved = g f.saved } ∷ fs else f ∷ changed_own at g fs

abbrev pub change_own : Instance → (Context → Context) → Stack → Stack
change_own at g s = record { live = s.live; frames = changed_own at g s.frames; base = s.base }

-- whether an instance's handler runs here
abbrev pub has_frame : Instance → List Frame → Bool
has_frame at frames = list_any (λ f. same_instance f.at at) frames

-- spp and spie as the attribute INTERRUPTED_FLAGS has them: in bits 0 and 1
abbrev pub privilege_bit : Privilege → ℕ
privilege_bit User = 0
privilege_bit Supervisor = 1

abbrev pub bit : Bool → ℕ
bit false = 0
bit true = 1

abbrev pub flags_of : Triple → ℕ
flags_of t = privilege_bit t.spp + 2 * bit t.spie

abbrev pub privilege_at : Bool → Privilege
privilege_at false = User
privilege_at true = Supervisor

-- one of the four INTERRUPTED attributes: of a handler's own context, with the triple below its frame
abbrev pub kept_by : ℕ → Context → Triple → ℕ
kept_by attr own t =
    if attr == INTERRUPTED_SEPC then t.sepc
    else (if attr == INTERRUPTED_FLAGS then flags_of t
    else (if attr == INTERRUPTED_A6 then own.a6
    else own.a7))

-- that attribute of an instance, where its handler runs on this hart
abbrev pub interrupted : ℕ → Instance → List Frame → Triple → Option ℕ
interrupted attr at [] base = None
interrupted attr at (f ∷ fs) base =
    if same_instance f.at at then Some (kept_by attr f.saved (below fs base)) else interrupted attr at fs base
