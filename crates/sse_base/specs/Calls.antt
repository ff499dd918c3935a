-- The ten calls of the extension.
-- SBI 3.0, "Supervisor Software Events", functions 0 to 9 of its extension. This project's own rules are which check
-- comes before which, the code of each refusal, in which states a call or the write of an attribute is accepted, and
-- that a completion with no handler succeeds and changes nothing. Each call below is its row of checks, from the first
-- to the last, and then its effect.
use Rattle.std.specs.Prelude.{ℕ, zero, suc, ◌+◌, ◌-◌, ◌*◌, ◌/◌, ◌%◌, ◌==◌, ◌&&◌, ◌||◌, not, nat_lt, nat_le, Bool, true, false, if◌then◌else◌, List, [], ◌∷◌, ◌++◌, length, replicate, slice_index, slice_set, Option, Some, None, option_map, unwrap_or, Result, Ok, Err}
use Rattle.sse_base.specs.declared.arrows.State.{State}
use Rattle.sse_base.specs.declared.arrows.State.TheVariants.{Unused, Registered, Enabled, Running}
use Rattle.sse_base.specs.declared.arrows.Move.{Move}
use Rattle.sse_base.specs.declared.arrows.Move.TheVariants.{Register, Unregister, Enable, Disable}
use Rattle.sse_base.specs.declared.functions.Function.{Function}
use Rattle.sse_base.specs.declared.functions.Function.TheVariants as functions
use Rattle.sse_base.specs.declared.attributes.AttrRange.{AttrRange}
use Rattle.sse_base.specs.declared.attributes.RangeFault.{RangeFault}
use Rattle.sse_base.specs.declared.attributes.RangeFault.TheVariants as faults
use Rattle.sse_base.specs.declared.codes.SbiCode.{SbiCode}
use Rattle.sse_base.specs.declared.codes.SbiCode.TheVariants.{Success, NotSupported, InvalidParam, Denied, InvalidAddress, AlreadyStarted, AlreadyStopped, InvalidState, BadRange}
use Rattle.sse_base.specs.declared.ids.EventClass.{EventClass}
use Rattle.sse_base.specs.declared.ids.EventClass.TheVariants.{Reserved}
use Rattle.sse_base.specs.declared.ids.Instance.{Instance}
use Rattle.sse_base.specs.declared.events.Event.{Event}
use Rattle.sse_base.specs.Ids.{class_of, instance_of, is_local}
use Rattle.sse_base.specs.Attributes.{STATUS, PRIORITY, CONFIG, PREFERRED_HART, ENTRY_PC, ENTRY_ARG, INTERRUPTED_SEPC, INTERRUPTED_FLAGS, INTERRUPTED_A6, INTERRUPTED_A7, range_of}
use Rattle.sse_base.specs.Events.{Events, event, change, is_pending, is_on_board, is_unused, is_registered, moved, signal, set_running, set_completed}
use Rattle.sse_base.specs.Contexts.{Context, Triple, Stack, deliver, complete, newest, has_frame, interrupted, bit, flags_of, privilege_at, change_below, change_own}
use Rattle.sse_base.specs.Words.{are_words, words_at, put_words, word_index}
use Rattle.sse_base.specs.Functions.{function_of}
use Rattle.sse_base.specs.Machine.{Machine, Reach, reach}
use Rattle.sse_base.specs.Choice.{is_masked}

-- the code of a call on the events, and the events after it
pub record Called : Type 0 where
  pub code : SbiCode
  pub next : Events

abbrev pub refused : SbiCode → Events → Called
refused code t = record { code = code; next = t }

abbrev pub accepted : Events → Called
accepted t = record { code = Success; next = t }

-- the code of a call, the words that an accepted write took with zeros up to ten, and what the hart's reach is then
pub record Answer : Type 0 where
  pub code : SbiCode
  pub written : List ℕ
  pub reach : Reach

abbrev pub no_words : List ℕ
no_words = replicate 10 0

abbrev pub refuse : SbiCode → Reach → Answer
refuse code r = record { code = code; written = no_words; reach = r }

abbrev pub accept : Reach → Answer
accept r = record { code = Success; written = no_words; reach = r }

abbrev pub with_events : Events → Reach → Reach
with_events t r = record { stack = r.stack; events = t; masks = r.masks; memory = r.memory }

abbrev pub with_masks : List Bool → Reach → Reach
with_masks masks r = record { stack = r.stack; events = r.events; masks = masks; memory = r.memory }

abbrev pub with_memory : List ℕ → Reach → Reach
with_memory words r = record { stack = r.stack; events = r.events; masks = r.masks; memory = words }

-- what a call on the events alone answers and leaves
abbrev pub of_events : Called → Reach → Answer
of_events c r = record { code = c.code; written = no_words; reach = with_events c.next r }

-- the instance that an id means on a hart, or why there is none
abbrev pub is_reserved_class : EventClass → Bool
is_reserved_class Reserved = true
is_reserved_class class = false

unfoldable pub is_reserved : ℕ → Bool
is_reserved id = nat_lt 0xffffffff id || is_reserved_class (class_of id)

abbrev pub find_instance : ℕ → ℕ → Events → Result Instance SbiCode
find_instance id hart t =
    if is_reserved id then Err InvalidParam
    else (if is_on_board (instance_of id hart) t then Ok (instance_of id hart) else Err NotSupported)

-- what is asked for, or the code that says why there is none
abbrev pub found : {A : Type 0} → Result A SbiCode → Reach → (A → Answer) → Answer
found (Err code) r f = refuse code r
found (Ok x) r f = f x

abbrev pub on_instance : ℕ → ℕ → Reach → (Instance → Answer) → Answer
on_instance id h r f = found (find_instance id h r.events) r f

-- The attributes, and what each reads.

abbrev pub state_number : State → ℕ
state_number Unused = 0
state_number Registered = 1
state_number Enabled = 2
state_number Running = 3

-- STATUS: the state in bits 1:0, pending in bit 2, whether it may be injected in bit 3
abbrev pub status_word : Instance → Events → ℕ
status_word at t = state_number (event at t).state + 4 * bit (is_pending at t) + 8 * bit (event at t).inject

unfoldable pub attribute : ℕ → Instance → Events → ℕ
attribute attr at t =
    if attr == STATUS then status_word at t
    else (if attr == PRIORITY then (event at t).priority
    else (if attr == CONFIG then bit (event at t).oneshot
    else (if attr == PREFERRED_HART then (event at t).preferred
    else (if attr == ENTRY_PC then (event at t).entry
    else (event at t).arg))))

-- an INTERRUPTED attribute reads the same whichever hart asks, and 0 where no handler of the instance runs
abbrev pub interrupted_on : ℕ → Instance → List Stack → ℕ
interrupted_on attr at [] = 0
interrupted_on attr at (s ∷ ss) = unwrap_or (interrupted attr at s.frames s.base) (interrupted_on attr at ss)

abbrev pub read : ℕ → Instance → List Stack → Events → ℕ
read attr at stacks t = if nat_lt attr INTERRUPTED_SEPC then attribute attr at t else interrupted_on attr at stacks

-- so many attributes from one on
abbrev pub reads : ℕ → ℕ → Instance → List Stack → Events → List ℕ
reads attr zero at stacks t = []
reads attr (suc n) at stacks t = read attr at stacks t ∷ reads (attr + 1) n at stacks t

-- The checks of a write, each over the whole range before the next.

abbrev pub some_attribute : (ℕ → Bool) → ℕ → ℕ → Bool
some_attribute test attr zero = false
some_attribute test attr (suc n) = test attr || some_attribute test (attr + 1) n

abbrev pub some_word : (ℕ → ℕ → Bool) → ℕ → List ℕ → Bool
some_word test attr [] = false
some_word test attr (v ∷ vs) = test attr v || some_word test (attr + 1) vs

unfoldable pub is_never_written : Instance → ℕ → Bool
is_never_written at attr =
    (attr == STATUS) || (attr == ENTRY_PC) || (attr == ENTRY_ARG) || ((attr == PREFERRED_HART) && is_local at)

-- priority, oneshot mark and preferred hart may be written while the event is unused or registered, and the INTERRUPTED
-- attributes by the hart that runs its handler
unfoldable pub is_shut : State → Bool → ℕ → Bool
is_shut state running_here attr =
    (nat_le PRIORITY attr && nat_le attr PREFERRED_HART && not (is_unused state || is_registered state))
    || (nat_le INTERRUPTED_SEPC attr && not running_here)

unfoldable pub is_refused_value : ℕ → ℕ → ℕ → Bool
is_refused_value harts attr value =
    ((attr == PRIORITY) && nat_lt 0xffffffff value) || ((attr == CONFIG) && nat_lt 1 value)
    || ((attr == PREFERRED_HART) && not (nat_lt value harts)) || ((attr == INTERRUPTED_FLAGS) && nat_lt 3 value)

abbrev pub check_write : ℕ → List ℕ → Instance → Bool → Events → SbiCode
check_write base words at running_here t =
    if some_attribute (is_never_written at) base (length words) then Denied
    else (if some_attribute (is_shut (event at t).state running_here) base (length words) then InvalidState
    else (if some_word (is_refused_value t.harts) base words then InvalidParam
    else Success))

-- The effect of a write: each attribute of the range takes its word.

abbrev pub covers : ℕ → ℕ → ℕ → Bool
covers base count attr = nat_le base attr && nat_lt attr (base + count)

-- the word for an attribute, or what it was where the range hasn't it
unfoldable pub word_for : ℕ → ℕ → List ℕ → ℕ → ℕ
word_for attr base words old = if covers base (length words) attr then slice_index words (attr - base) else old

abbrev pub with_attributes : ℕ → List ℕ → Event → Event
with_attributes base words e =
    record e {
      priority = word_for PRIORITY base words e.priority;
      oneshot = word_for CONFIG base words (bit e.oneshot) == 1;
      preferred = word_for PREFERRED_HART base words e.preferred;
    }

abbrev pub with_interrupted_triple : ℕ → List ℕ → Triple → Triple
with_interrupted_triple base words t =
    record {
      sepc = word_for INTERRUPTED_SEPC base words t.sepc;
      spp = privilege_at (word_for INTERRUPTED_FLAGS base words (flags_of t) % 2 == 1);
      spie = word_for INTERRUPTED_FLAGS base words (flags_of t) / 2 % 2 == 1;
    }

abbrev pub with_interrupted_words : ℕ → List ℕ → Context → Context
with_interrupted_words base words c =
    record c { a6 = word_for INTERRUPTED_A6 base words c.a6; a7 = word_for INTERRUPTED_A7 base words c.a7 }

abbrev pub with_interrupted : ℕ → List ℕ → Instance → Stack → Stack
with_interrupted base words at s =
    change_own at (with_interrupted_words base words) (change_below at (with_interrupted_triple base words) s)

abbrev pub written_to : ℕ → List ℕ → Instance → Reach → Reach
written_to base words at r =
    record {
      stack = with_interrupted base words at r.stack;
      events = change at (with_attributes base words (event at r.events)) r.events;
      masks = r.masks;
      memory = r.memory;
    }

abbrev pub padded : List ℕ → List ℕ
padded words = words ++ replicate (10 - length words) 0

-- The calls.

-- The range of attributes that a read or a write names, with words in memory for it; or why it is refused.
abbrev pub with_words_for : ℕ → ℕ → AttrRange → Result AttrRange SbiCode
with_words_for lo hi range = if not (hi == 0) || not (are_words lo range.count) then Err InvalidAddress else Ok range

abbrev pub in_memory : ℕ → ℕ → Result AttrRange RangeFault → Result AttrRange SbiCode
in_memory lo hi (Err faults.Zero) = Err InvalidParam
in_memory lo hi (Err faults.Reserved) = Err BadRange
in_memory lo hi (Ok range) = with_words_for lo hi range

abbrev pub find_range : ℕ → ℕ → ℕ → ℕ → Result AttrRange SbiCode
find_range base count lo hi = in_memory lo hi (range_of base count)

-- read attributes: they stand in memory
abbrev pub read_range : ℕ → Instance → List Stack → Reach → AttrRange → Answer
read_range lo at stacks r range =
    accept (with_memory (put_words r.memory (word_index lo) (reads range.base range.count at stacks r.events)) r)

abbrev pub read_attrs : ℕ → ℕ → ℕ → ℕ → Instance → List Stack → Reach → Answer
read_attrs base count lo hi at stacks r = found (find_range base count lo hi) r (read_range lo at stacks r)

-- write attributes: they take the words in memory, all of them or none
abbrev pub write_checked : SbiCode → ℕ → List ℕ → Instance → Reach → Answer
write_checked Success base words at r =
    record { code = Success; written = padded words; reach = written_to base words at r }
write_checked code base words at r = refuse code r

abbrev pub write_words : ℕ → List ℕ → Instance → Reach → Answer
write_words base words at r =
    write_checked (check_write base words at (has_frame at r.stack.frames) r.events) base words at r

abbrev pub write_range : ℕ → Instance → Reach → AttrRange → Answer
write_range lo at r range = write_words range.base (words_at r.memory lo range.count) at r

abbrev pub write_attrs : ℕ → ℕ → ℕ → ℕ → Instance → Reach → Answer
write_attrs base count lo hi at r = found (find_range base count lo hi) r (write_range lo at r)

-- A call that makes a move is refused where the event's state has no such arrow.
abbrev pub take_next : Option Event → Instance → Events → Called
take_next None at t = refused InvalidState t
take_next (Some e) at t = accepted (change at e t)

abbrev pub with_handler : ℕ → ℕ → Event → Event
with_handler pc arg e = record e { entry = pc; arg = arg }

-- register: with where its handler begins, and its argument
abbrev pub register : ℕ → ℕ → Instance → Events → Called
register pc arg at t =
    if pc % 2 == 1 then refused InvalidParam t
    else take_next (option_map (with_handler pc arg) (moved Register (event at t))) at t

-- unregister: entry and argument become 0, all else stays
abbrev pub unregister : Instance → Events → Called
unregister at t = take_next (option_map (with_handler 0 0) (moved Unregister (event at t))) at t

abbrev pub enable : Instance → Events → Called
enable at t = take_next (moved Enable (event at t)) at t

abbrev pub disable : Instance → Events → Called
disable at t = take_next (moved Disable (event at t)) at t

-- complete: the newest handler of the hart is done
abbrev pub completed_at : Option Instance → Reach → Reach
completed_at None r = r
completed_at (Some at) r = record {
  stack = complete r.stack;
  events = set_completed at r.events;
  masks = r.masks;
  memory = r.memory;
}

abbrev pub complete_newest : Reach → Reach
complete_newest r = completed_at (newest r.stack.frames) r

-- inject: the instance, on the hart that is named where it is local, is signalled
abbrev pub inject : ℕ → ℕ → Instance → Events → Called
inject id hart at t =
    if not (event at t).inject then refused InvalidParam t
    else (if is_local at && not (nat_lt hart t.harts) then refused InvalidParam t
    else accepted (signal (instance_of id hart) t))

-- hart unmask and hart mask: the hart's own mask
abbrev pub Masking : Type 0
Masking = SbiCode × List Bool

abbrev pub unmask : ℕ → List Bool → Masking
unmask h masks = if is_masked h masks then (Success, slice_set masks h false) else (AlreadyStarted, masks)

abbrev pub mask : ℕ → List Bool → Masking
mask h masks = if is_masked h masks then (AlreadyStopped, masks) else (Success, slice_set masks h true)

abbrev pub of_masks : Masking → Reach → Answer
of_masks m r = record { code = m.0; written = no_words; reach = with_masks m.1 r }

-- Any call of a hart: first the function, then the event of those that take one, then the call's own checks. What the
-- hart itself runs is in its reach, so of the harts' stacks only the others' are looked at.

abbrev pub argument_at : List ℕ → ℕ → ℕ
argument_at args i = slice_index args i

abbrev pub function : ℕ → Function → List ℕ → List Stack → Reach → Answer
function h functions.ReadAttrs args stacks r =
    on_instance (argument_at args 0) h r (λ at.
    read_attrs (argument_at args 1) (argument_at args 2) (argument_at args 3) (argument_at args 4) at
    (slice_set stacks h r.stack) r)
function h functions.WriteAttrs args stacks r =
    on_instance (argument_at args 0) h r (λ at.
    write_attrs (argument_at args 1) (argument_at args 2) (argument_at args 3) (argument_at args 4) at r)
function h functions.Register args stacks r =
    on_instance (argument_at args 0) h r
    (λ at. of_events (register (argument_at args 1) (argument_at args 2) at r.events) r)
function h functions.Unregister args stacks r =
    on_instance (argument_at args 0) h r (λ at. of_events (unregister at r.events) r)
function h functions.Enable args stacks r =
    on_instance (argument_at args 0) h r (λ at. of_events (enable at r.events) r)
function h functions.Disable args stacks r =
    on_instance (argument_at args 0) h r (λ at. of_events (disable at r.events) r)
function h functions.Complete args stacks r = accept (complete_newest r)
function h functions.Inject args stacks r =
    on_instance (argument_at args 0) h r
    (λ at. of_events (inject (argument_at args 0) (argument_at args 1) at r.events) r)
function h functions.HartUnmask args stacks r = of_masks (unmask h r.masks) r
function h functions.HartMask args stacks r = of_masks (mask h r.masks) r

abbrev pub known : ℕ → Option Function → List ℕ → List Stack → Reach → Answer
known h None args stacks r = refuse NotSupported r
known h (Some f) args stacks r = function h f args stacks r

-- the extension id of supervisor software events, "SSE"
abbrev pub extension : ℕ
extension = 0x535345

abbrev pub call : ℕ → ℕ → ℕ → List ℕ → List Stack → Reach → Answer
call h eid fid args stacks r =
    if not (eid == extension) then refuse NotSupported r else known h (function_of fid) args stacks r

-- The one other change of a hart: a delivery.
abbrev pub delivered : ℕ → Instance → Reach → Reach
delivered h at r =
    record {
      stack = deliver at (event at r.events).entry (event at r.events).arg h r.stack;
      events = set_running at r.events;
      masks = r.masks;
      memory = r.memory;
    }
