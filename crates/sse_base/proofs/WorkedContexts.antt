-- A worked nesting of two handlers on one hart: what each delivery saves, what is written while both run, and what each
-- completion goes back to.
use Rattle.std.specs.Prelude.{◌≡◌, ℕ, Bool, true, false, List, [], ◌∷◌, Option, Some, None}
use Rattle.std.proofs.Common.{refl}
use Rattle.sse_base.specs.declared.arrows.State.TheVariants.{Enabled}
use Rattle.sse_base.specs.declared.codes.SbiCode.TheVariants.{Success}
use Rattle.sse_base.specs.declared.contexts.Privilege.{Privilege}
use Rattle.sse_base.specs.declared.contexts.Privilege.TheVariants.{User, Supervisor}
use Rattle.sse_base.specs.declared.ids.Instance.{Instance}
use Rattle.sse_base.specs.declared.events.Event.{Event}
use Rattle.sse_base.specs.Ids.{is_global, is_platform, class_of, same_instance}
use Rattle.sse_base.specs.Contexts.{Context, Triple, Stack, top_triple, change_top, interrupted, with_pc}
use Rattle.sse_base.specs.Words.{fresh_memory}
use Rattle.sse_base.specs.Machine.{Machine, stack_of}
use Rattle.sse_base.specs.Choice.{is_more_urgent, target, waits_for, chosen}
use Rattle.sse_base.specs.Calls.{is_reserved, is_never_written, is_shut, is_refused_value, word_for}
use Rattle.sse_base.proofs.Played.{Asked, ask, codes, after, after_all, next_on, after_delivery, with_signal, with_words, local_on}

-- the less urgent event of the two, and the more urgent one
abbrev lesser : Instance
lesser = local_on 0x100000 0

abbrev greater : Instance
greater = local_on 0x0 0

abbrev enabled : ℕ → ℕ → ℕ → Event
enabled priority entry arg =
    record {
      inject = false;
      state = Enabled;
      priority = priority;
      oneshot = false;
      preferred = 0;
      entry = entry;
      arg = arg;
    }

abbrev context : ℕ → Bool → ℕ → ℕ → Context
context pc sie a6 a7 = record { pc = pc; privilege = Supervisor; sie = sie; a6 = a6; a7 = a7 }

abbrev triple : ℕ → Privilege → Bool → Triple
triple sepc spp spie = record { sepc = sepc; spp = spp; spie = spie }

-- the hart before the first delivery, with the lesser event pending
abbrev quiet : Machine
quiet =
    record {
      events =
          record {
            harts = 1;
            instances = greater ∷ lesser ∷ [];
            each = enabled 1 0x3000 0xb ∷ enabled 9 0x2000 0xa ∷ [];
            marks = false ∷ true ∷ [];
          };
      masks = false ∷ [];
      stacks = record { live = context 0x1020 true 0x11 0x22; frames = []; base = triple 0xaaa0 User true } ∷ [];
      memory = fresh_memory;
    }

abbrev with_stack : Stack → Machine → Machine
with_stack s m = record { events = m.events; masks = m.masks; stacks = s ∷ []; memory = m.memory }

abbrev live : Machine → Context
live m = (stack_of 0 m).live

abbrev below_live : Machine → Triple
below_live m = top_triple (stack_of 0 m)

-- the four INTERRUPTED attributes of an instance
abbrev kept_in : Instance → Stack → List (Option ℕ)
kept_in at s =
    interrupted 6 at s.frames s.base ∷ interrupted 7 at s.frames s.base ∷ interrupted 8 at s.frames s.base
    ∷ interrupted 9 at s.frames s.base ∷ []

abbrev kept : Instance → Machine → List (Option ℕ)
kept at m = kept_in at (stack_of 0 m)

-- the lesser event is delivered
abbrev one_runs : Machine
one_runs = after_delivery 0 quiet

-- its first instruction is done and the greater event is signalled and delivered
abbrev two_run : Machine
two_run = after_delivery 0 (with_signal greater (with_stack (with_pc 0x2004 (stack_of 0 one_runs)) one_runs))

-- INTERRUPTED_SEPC of both is written, and then sepc
abbrev writes : List Asked
writes = ask 0 1 (0x100000 ∷ 6 ∷ 1 ∷ 0x80000000 ∷ []) ∷ ask 0 1 (0x0 ∷ 6 ∷ 1 ∷ 0x80000008 ∷ []) ∷ []

abbrev to_write : Machine
to_write = with_words (0x5550 ∷ 0x1030 ∷ []) two_run

abbrev set_sepc : ℕ → Triple → Triple
set_sepc sepc t = record { sepc = sepc; spp = t.spp; spie = t.spie }

abbrev written : Machine
written = with_stack (change_top (set_sepc 0x2008) (stack_of 0 (after_all writes to_write))) (after_all writes to_write)

-- both complete
abbrev one_left : Machine
one_left = after (ask 0 6 []) written

abbrev none_left : Machine
none_left = after (ask 0 6 []) one_left

pub the_pending_event_is_next : next_on 0 quiet ≡ Some lesser
unfolding same_instance is_more_urgent target waits_for chosen
the_pending_event_is_next = refl

pub a_delivery_begins_the_handler : live one_runs ≡ context 0x2000 false 0 0xa
unfolding same_instance is_more_urgent target waits_for chosen
a_delivery_begins_the_handler = refl

pub a_delivery_saves_in_sepc : below_live one_runs ≡ triple 0x1020 Supervisor true
unfolding same_instance is_more_urgent target waits_for chosen
a_delivery_saves_in_sepc = refl

pub a_delivery_keeps_what_it_writes_over : kept lesser one_runs ≡ Some 0xaaa0 ∷ Some 2 ∷ Some 0x11 ∷ Some 0x22 ∷ []
unfolding same_instance is_more_urgent target waits_for chosen
a_delivery_keeps_what_it_writes_over = refl

pub a_more_urgent_event_interrupts_a_handler : live two_run ≡ context 0x3000 false 0 0xb
unfolding same_instance is_more_urgent target waits_for chosen
a_more_urgent_event_interrupts_a_handler = refl

pub a_second_delivery_saves_in_sepc : below_live two_run ≡ triple 0x2004 Supervisor false
unfolding same_instance is_more_urgent target waits_for chosen
a_second_delivery_saves_in_sepc = refl

pub a_second_delivery_keeps_what_it_writes_over : kept greater two_run ≡ Some 0x1020 ∷ Some 3 ∷ Some 0 ∷ Some 0xa ∷ []
unfolding same_instance is_more_urgent target waits_for chosen
a_second_delivery_keeps_what_it_writes_over = refl

pub both_handlers_may_write_what_they_interrupted : codes writes to_write ≡ Success ∷ Success ∷ []
unfolding same_instance is_more_urgent target waits_for chosen is_reserved class_of is_platform is_global
    is_never_written is_shut is_refused_value word_for
both_handlers_may_write_what_they_interrupted = refl

pub the_older_one_has_its_word : kept lesser written ≡ Some 0x5550 ∷ Some 2 ∷ Some 0x11 ∷ Some 0x22 ∷ []
unfolding same_instance is_more_urgent target waits_for chosen is_reserved class_of is_platform is_global
    is_never_written is_shut is_refused_value word_for
the_older_one_has_its_word = refl

pub the_newer_one_has_its_word : kept greater written ≡ Some 0x1030 ∷ Some 3 ∷ Some 0 ∷ Some 0xa ∷ []
unfolding same_instance is_more_urgent target waits_for chosen is_reserved class_of is_platform is_global
    is_never_written is_shut is_refused_value word_for
the_newer_one_has_its_word = refl

pub sepc_is_set_beside_them : below_live written ≡ triple 0x2008 Supervisor false
unfolding same_instance is_more_urgent target waits_for chosen is_reserved class_of is_platform is_global
    is_never_written is_shut is_refused_value word_for
sepc_is_set_beside_them = refl

-- each handler goes back to the context that it interrupted, with what was written to it since
pub the_newer_one_goes_back : live one_left ≡ context 0x2008 false 0 0xa
unfolding same_instance is_more_urgent target waits_for chosen is_reserved class_of is_platform is_global
    is_never_written is_shut is_refused_value word_for
the_newer_one_goes_back = refl

pub sepc_is_what_the_newer_one_had_kept : below_live one_left ≡ triple 0x1030 Supervisor true
unfolding same_instance is_more_urgent target waits_for chosen is_reserved class_of is_platform is_global
    is_never_written is_shut is_refused_value word_for
sepc_is_what_the_newer_one_had_kept = refl

pub the_older_one_goes_back : live none_left ≡ context 0x1030 true 0x11 0x22
unfolding same_instance is_more_urgent target waits_for chosen is_reserved class_of is_platform is_global
    is_never_written is_shut is_refused_value word_for
the_older_one_goes_back = refl

pub sepc_is_what_the_older_one_had_kept : below_live none_left ≡ triple 0x5550 User true
unfolding same_instance is_more_urgent target waits_for chosen is_reserved class_of is_platform is_global
    is_never_written is_shut is_refused_value word_for
sepc_is_what_the_older_one_had_kept = refl

pub nothing_is_kept_of_what_is_done : kept lesser none_left ≡ None ∷ None ∷ None ∷ None ∷ []
unfolding same_instance is_more_urgent target waits_for chosen is_reserved class_of is_platform is_global
    is_never_written is_shut is_refused_value word_for
nothing_is_kept_of_what_is_done = refl
