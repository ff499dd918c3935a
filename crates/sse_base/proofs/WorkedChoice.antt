-- Worked choices: urgency, targets, masks, and events that are signalled while they run.
use Rattle.std.specs.Prelude.{◌≡◌, ℕ, Bool, true, false, List, [], ◌∷◌, Some, None}
use Rattle.std.proofs.Common.{refl}
use Rattle.sse_base.specs.declared.arrows.State.{State}
use Rattle.sse_base.specs.declared.arrows.State.TheVariants.{Enabled}
use Rattle.sse_base.specs.declared.codes.SbiCode.TheVariants.{Success, InvalidState}
use Rattle.sse_base.specs.declared.contexts.Privilege.TheVariants.{User, Supervisor}
use Rattle.sse_base.specs.declared.ids.Instance.{Instance}
use Rattle.sse_base.specs.declared.events.Event.{Event}
use Rattle.sse_base.specs.Ids.{is_global, is_platform, class_of, same_instance}
use Rattle.sse_base.specs.Contexts.{Stack, fresh_stack}
use Rattle.sse_base.specs.Words.{fresh_memory}
use Rattle.sse_base.specs.Machine.{Machine}
use Rattle.sse_base.specs.Choice.{is_more_urgent, target, waits_for, chosen}
use Rattle.sse_base.specs.Calls.{is_reserved, attribute, status_word, is_never_written, is_shut, is_refused_value, word_for}
use Rattle.sse_base.proofs.Played.{Asked, ask, codes, after, after_all, next_on, after_delivery, with_signal, local_on, global}

abbrev event_with : State → ℕ → Bool → ℕ → Event
event_with state priority oneshot preferred =
    record {
      inject = true;
      state = state;
      priority = priority;
      oneshot = oneshot;
      preferred = preferred;
      entry = 0x2000;
      arg = 0;
    }

abbrev machine : List Instance → List Event → List Bool → List Bool → List Stack → Machine
machine instances each marks masks stacks =
    record {
      events = record { harts = 2; instances = instances; each = each; marks = marks };
      masks = masks;
      stacks = stacks;
      memory = fresh_memory;
    }

-- Two events of equal priority on one hart: the smaller id is the more urgent one.

abbrev first : Instance
first = local_on 0x0 0

abbrev second : Instance
second = local_on 0xffff0000 0

abbrev pair : List Bool → Machine
pair marks =
    machine (first ∷ second ∷ []) (event_with Enabled 0 false 0
    ∷ event_with Enabled 0 false 0 ∷ []) marks (false ∷ []) (fresh_stack 0 ∷ [])

abbrev second_runs : Machine
second_runs = after_delivery 0 (pair (false ∷ true ∷ []))

abbrev first_runs : Machine
first_runs = after_delivery 0 (pair (true ∷ false ∷ []))

pub the_smaller_id_interrupts : next_on 0 (with_signal first second_runs) ≡ Some first
unfolding same_instance is_more_urgent target waits_for chosen
the_smaller_id_interrupts = refl

pub the_larger_id_waits : next_on 0 (with_signal second first_runs) ≡ None
unfolding same_instance is_more_urgent target waits_for chosen
the_larger_id_waits = refl

pub the_larger_id_follows : next_on 0 (after (ask 0 6 []) (with_signal second first_runs)) ≡ Some second
unfolding same_instance is_more_urgent target waits_for chosen
the_larger_id_follows = refl

-- A global event that prefers hart 1, which is masked, while hart 0 is not.

abbrev shared : Instance
shared = global 0xffff8000

abbrev waiting : Machine
waiting = machine (shared ∷ []) (event_with Enabled 0 false 1 ∷ []) (true ∷ []) (false ∷ true ∷ []) (fresh_stack 0
    ∷ fresh_stack 0 ∷ [])

abbrev on_zero : Machine
on_zero = after_delivery 0 waiting

abbrev changes : List Asked
changes = ask 0 7 (0xffff8000 ∷ 0 ∷ []) ∷ ask 0 9 [] ∷ ask 1 8 [] ∷ ask 0 8 [] ∷ []

pub a_masked_preference_gives_way : next_on 0 waiting ∷ next_on 1 waiting ∷ [] ≡ Some shared ∷ None ∷ []
unfolding same_instance is_more_urgent target waits_for chosen
a_masked_preference_gives_way = refl

pub the_changes_are_accepted : codes changes on_zero ≡ Success ∷ Success ∷ Success ∷ Success ∷ []
unfolding same_instance is_more_urgent target waits_for chosen is_reserved class_of is_platform is_global
the_changes_are_accepted = refl

pub a_running_event_is_not_delivered_again :
    next_on 0 (after_all changes on_zero) ∷ next_on 1 (after_all changes on_zero) ∷ [] ≡ None ∷ None ∷ []
unfolding same_instance is_more_urgent target waits_for chosen is_reserved class_of is_platform is_global
a_running_event_is_not_delivered_again = refl

pub then_the_preferred_hart_has_it :
    next_on 0 (after (ask 0 6 []) (after_all changes on_zero))
    ∷ next_on 1 (after (ask 0 6 []) (after_all changes on_zero)) ∷ [] ≡ None ∷ Some shared ∷ []
unfolding same_instance is_more_urgent target waits_for chosen is_reserved class_of is_platform is_global
then_the_preferred_hart_has_it = refl

-- A oneshot event that is signalled again while it runs.

abbrev once : Machine
once = after_delivery 0 (machine (second ∷ []) (event_with Enabled 0 true 0 ∷ []) (true ∷ []) (false ∷ [])
    (fresh_stack 0 ∷ []))

abbrev status : Machine → ℕ
status m = status_word second m.events

abbrev enable_it : Asked
enable_it = ask 0 4 (0xffff0000 ∷ [])

abbrev signalled_again : Machine
signalled_again = after (ask 0 6 []) (with_signal second once)

abbrev runs_again : Machine
runs_again = after_delivery 0 (after enable_it signalled_again)

abbrev done_again : Machine
done_again = after (ask 0 6 []) runs_again

pub a_signal_outlasts_a_oneshot_completion : status signalled_again ≡ 0xd
unfolding same_instance is_more_urgent target waits_for chosen
a_signal_outlasts_a_oneshot_completion = refl

pub it_is_delivered_once_enabled : next_on 0 (after enable_it signalled_again) ≡ Some second
unfolding same_instance is_more_urgent target waits_for chosen is_reserved class_of is_platform is_global
it_is_delivered_once_enabled = refl

pub a_delivery_takes_the_signal : status done_again ≡ 0x9
unfolding same_instance is_more_urgent target waits_for chosen is_reserved class_of is_platform is_global
a_delivery_takes_the_signal = refl

pub a_registered_event_takes_a_signal : status (with_signal second done_again) ≡ 0xd
unfolding same_instance is_more_urgent target waits_for chosen is_reserved class_of is_platform is_global
a_registered_event_takes_a_signal = refl

pub and_is_delivered_once_enabled : next_on 0 (after enable_it (with_signal second done_again)) ≡ Some second
unfolding same_instance is_more_urgent target waits_for chosen is_reserved class_of is_platform is_global
and_is_delivered_once_enabled = refl

-- A global event that runs on hart 0, having interrupted a6 = 0x11, and the calls of hart 1 about it.

abbrev busy : Stack
busy =
    record {
      live = record { pc = 0; privilege = Supervisor; sie = false; a6 = 0x11; a7 = 0 };
      frames = [];
      base = record { sepc = 0; spp = User; spie = false };
    }

abbrev runs_on_zero : Machine
runs_on_zero =
    after_delivery 0
    (machine (shared ∷ []) (event_with Enabled 0 false 0 ∷ []) (true ∷ []) (false ∷ false ∷ []) (busy
    ∷ fresh_stack 0 ∷ []))

abbrev write_it : Asked
write_it = ask 1 1 (0xffff8000 ∷ 8 ∷ 1 ∷ 0x80000000 ∷ [])

abbrev read_it : Asked
read_it = ask 1 0 (0xffff8000 ∷ 8 ∷ 1 ∷ 0x80000000 ∷ [])

pub another_hart_may_read_but_not_write : codes (write_it ∷ read_it ∷ []) runs_on_zero ≡ InvalidState ∷ Success ∷ []
unfolding same_instance is_more_urgent target waits_for chosen is_reserved class_of is_platform is_global
    is_never_written is_shut is_refused_value word_for attribute
another_hart_may_read_but_not_write = refl

pub its_write_changes_nothing : after write_it runs_on_zero ≡ runs_on_zero
unfolding same_instance is_more_urgent target waits_for chosen is_reserved class_of is_platform is_global
    is_never_written is_shut is_refused_value word_for
its_write_changes_nothing = refl

abbrev first_word : List ℕ → ℕ
first_word [] = 0
first_word (w ∷ ws) = w

pub it_reads_what_the_running_hart_kept : first_word (after read_it runs_on_zero).memory ≡ 0x11
unfolding same_instance is_more_urgent target waits_for chosen is_reserved class_of is_platform is_global attribute
it_reads_what_the_running_hart_kept = refl

pub its_completion_is_of_its_own_handlers : after (ask 1 6 []) runs_on_zero ≡ runs_on_zero
unfolding same_instance is_more_urgent target waits_for chosen
its_completion_is_of_its_own_handlers = refl

pub a_running_event_is_not_disabled :
    codes (ask 1 6 [] ∷ ask 1 5 (0xffff8000 ∷ []) ∷ []) runs_on_zero ≡ Success ∷ InvalidState ∷ []
unfolding same_instance is_more_urgent target waits_for chosen is_reserved class_of is_platform is_global
a_running_event_is_not_disabled = refl

-- Both harts are masked; then hart 1 unmasks itself.

abbrev both_masked : Machine
both_masked =
    machine (shared ∷ []) (event_with Enabled 0 false 0 ∷ []) (true ∷ []) (true ∷ true ∷ []) (fresh_stack 0
    ∷ fresh_stack 0 ∷ [])

pub the_unmasked_hart_has_it :
    next_on 0 (after (ask 1 8 []) both_masked) ∷ next_on 1 (after (ask 1 8 []) both_masked) ∷ [] ≡ None
    ∷ Some shared ∷ []
unfolding same_instance is_more_urgent target waits_for chosen
the_unmasked_hart_has_it = refl

-- Three events that wait on one hart that is masked; two of them have equal priority.

abbrev three : Machine
three =
    machine (first ∷ local_on 0x100000 0 ∷ shared ∷ [])
    (event_with Enabled 5 false 0 ∷ event_with Enabled 3 false 0 ∷ event_with Enabled 3 false 0 ∷ [])
    (true ∷ true ∷ true ∷ [])
    (true ∷ [])
    (fresh_stack 0 ∷ [])

abbrev three_unmasked : Machine
three_unmasked = after (ask 0 8 []) three

pub nothing_is_next_where_masked : next_on 0 three ≡ None
unfolding same_instance is_more_urgent target waits_for chosen
nothing_is_next_where_masked = refl

pub the_smaller_id_of_the_urgent_two_is_next : next_on 0 three_unmasked ≡ Some (local_on 0x100000 0)
unfolding same_instance is_more_urgent target waits_for chosen
the_smaller_id_of_the_urgent_two_is_next = refl

pub then_nothing_is_above_it : next_on 0 (after_delivery 0 three_unmasked) ≡ None
unfolding same_instance is_more_urgent target waits_for chosen
then_nothing_is_above_it = refl

pub after_its_completion_the_other_is_next : next_on 0 (after (ask 0 6 []) (after_delivery 0 three_unmasked))
    ≡ Some shared
unfolding same_instance is_more_urgent target waits_for chosen
after_its_completion_the_other_is_next = refl
