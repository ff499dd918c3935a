-- Worked calls on a board of one hart with one event.
use Rattle.std.specs.Prelude.{◌≡◌, ℕ, Bool, true, false, List, [], ◌∷◌, replicate, take}
use Rattle.std.proofs.Common.{refl}
use Rattle.sse_base.specs.declared.codes.SbiCode.TheVariants.{Success, NotSupported, InvalidParam, Denied, InvalidAddress, AlreadyStarted, AlreadyStopped, InvalidState, BadRange}
use Rattle.sse_base.specs.Ids.{is_global, is_platform, class_of, same_instance}
use Rattle.sse_base.specs.Events.{event}
use Rattle.sse_base.specs.Machine.{Machine}
use Rattle.sse_base.specs.Calls.{is_reserved, attribute, is_never_written, is_shut, is_refused_value, word_for}
use Rattle.sse_base.proofs.Played.{Asked, ask, call_on, answer, after, codes, after_all, board, injectable, with_words, local_on}

-- the board of these examples, and its event
abbrev injected : Machine
injected = board 1 (injectable 0xffff0000 ∷ [])

abbrev priority : Machine → ℕ
priority m = (event (local_on 0xffff0000 0) m.events).priority

abbrev oneshot : Machine → Bool
oneshot m = (event (local_on 0xffff0000 0) m.events).oneshot

pub an_odd_entry_is_refused_and_a_second_register_too :
    codes (ask 0 2 (0xffff0000 ∷ 0x1001 ∷ []) ∷ ask 0 2 (0xffff0000 ∷ 0x1002 ∷ [])
    ∷ ask 0 2 (0xffff0000 ∷ 0x1002 ∷ []) ∷ []) injected
    ≡ InvalidParam ∷ Success ∷ InvalidState ∷ []
unfolding is_reserved class_of is_platform is_global same_instance
an_odd_entry_is_refused_and_a_second_register_too = refl

pub a_completion_of_nothing_succeeds : codes (ask 0 6 [] ∷ []) injected ≡ Success ∷ []
a_completion_of_nothing_succeeds = refl

pub a_completion_of_nothing_changes_nothing : after (ask 0 6 []) injected ≡ injected
a_completion_of_nothing_changes_nothing = refl

pub a_mask_is_set_and_cleared_once :
    codes (ask 0 8 [] ∷ ask 0 8 [] ∷ ask 0 9 [] ∷ ask 0 9 [] ∷ []) injected ≡ Success ∷ AlreadyStarted ∷ Success
    ∷ AlreadyStopped ∷ []
a_mask_is_set_and_cleared_once = refl

-- reads of attributes: all ten, then a range too long, an empty one, one that ends with memory, and three bad addresses
abbrev read : ℕ → ℕ → ℕ → ℕ → Asked
read base count lo hi = ask 0 0 (0xffff0000 ∷ base ∷ count ∷ lo ∷ hi ∷ [])

pub reads_are_checked_in_order :
    codes
    (read 0 10 0x80000000 0 ∷ read 0 11 0x80000000 0 ∷ read 0 0 0x80000000 0 ∷ read 0 10 0x80000fb0 0
    ∷ read 0 10 0x80000fb8 0
    ∷ read 0 10 0x80000004 0 ∷ read 0 10 0x80000000 1 ∷ [])
    injected
    ≡ Success ∷ BadRange ∷ InvalidParam ∷ Success ∷ InvalidAddress ∷ InvalidAddress ∷ InvalidAddress ∷ []
unfolding is_reserved class_of is_platform is_global same_instance attribute
reads_are_checked_in_order = refl

pub an_unused_event_reads_as_injectable : take 10 (after (read 0 10 0x80000000 0) injected).memory ≡ 8 ∷ replicate 9 0
unfolding is_reserved class_of is_platform is_global same_instance attribute
an_unused_event_reads_as_injectable = refl

pub base_and_count_are_whole_numbers : codes (read 0xffffffffffffffff 2 0x80000000 0 ∷ []) injected ≡ BadRange ∷ []
unfolding is_reserved class_of is_platform is_global same_instance
base_and_count_are_whole_numbers = refl

pub a_range_that_is_too_long_changes_nothing : after (read 0xffffffffffffffff 2 0x80000000 0) injected ≡ injected
unfolding is_reserved class_of is_platform is_global same_instance
a_range_that_is_too_long_changes_nothing = refl

-- writes of attributes, with 0, 5, 1 and 0 in memory
abbrev write : ℕ → ℕ → ℕ → Asked
write base count lo = ask 0 1 (0xffff0000 ∷ base ∷ count ∷ lo ∷ [])

abbrev filled : Machine
filled = with_words (0 ∷ 5 ∷ 1 ∷ 0 ∷ []) injected

abbrev writes : List Asked
writes =
    write 0 2 0x80000000 ∷ write 1 3 0x80000008 ∷ write 1 1 0x80000008 ∷ write 3 1 0x80000018
    ∷ write 6 1 0x80000018 ∷ []

pub writes_are_checked_in_order : codes writes filled ≡ Denied ∷ Denied ∷ Success ∷ Denied ∷ InvalidState ∷ []
unfolding is_reserved class_of is_platform is_global same_instance is_never_written is_shut is_refused_value word_for
writes_are_checked_in_order = refl

pub a_denied_write_leaves_its_front :
    priority (after_all (write 0 2 0x80000000 ∷ write 1 3 0x80000008 ∷ []) filled) ≡ 0
unfolding is_reserved class_of is_platform is_global same_instance is_never_written is_shut is_refused_value word_for
a_denied_write_leaves_its_front = refl

pub a_denied_write_leaves_its_middle : oneshot (after (write 1 3 0x80000008) filled) ≡ false
unfolding is_reserved class_of is_platform is_global same_instance is_never_written is_shut is_refused_value word_for
a_denied_write_leaves_its_middle = refl

pub an_accepted_write_is_made : priority (after_all writes filled) ≡ 5
unfolding is_reserved class_of is_platform is_global same_instance is_never_written is_shut is_refused_value word_for
an_accepted_write_is_made = refl

pub an_accepted_write_tells_its_words : (answer (write 1 1 0x80000008) filled).written ≡ 5 ∷ replicate 9 0
unfolding is_reserved class_of is_platform is_global same_instance is_never_written is_shut is_refused_value word_for
an_accepted_write_tells_its_words = refl

-- CONFIG: 2 is refused, and 1 is taken
pub a_config_above_one_is_refused : codes (write 2 1 0x80000000 ∷ []) (with_words (2 ∷ []) injected) ≡ InvalidParam ∷ []
unfolding is_reserved class_of is_platform is_global same_instance is_never_written is_shut is_refused_value word_for
a_config_above_one_is_refused = refl

pub a_refused_config_stays : oneshot (after (write 2 1 0x80000000) (with_words (2 ∷ []) injected)) ≡ false
unfolding is_reserved class_of is_platform is_global same_instance is_never_written is_shut is_refused_value word_for
a_refused_config_stays = refl

pub a_config_of_one_is_taken : oneshot (after (write 2 1 0x80000000) (with_words (1 ∷ []) injected)) ≡ true
unfolding is_reserved class_of is_platform is_global same_instance is_never_written is_shut is_refused_value word_for
a_config_of_one_is_taken = refl

-- PREFERRED_HART of a global event on a board of one hart: 1 is refused, and 0 is taken
abbrev prefer : Asked
prefer = ask 0 1 (0xffff8000 ∷ 3 ∷ 1 ∷ 0x80000000 ∷ [])

abbrev whole : Machine
whole = board 1 (injectable 0xffff8000 ∷ [])

pub a_hart_that_is_not_there_is_no_preference : codes (prefer ∷ []) (with_words (1 ∷ []) whole) ≡ InvalidParam ∷ []
unfolding is_reserved class_of is_platform is_global same_instance is_never_written is_shut is_refused_value word_for
a_hart_that_is_not_there_is_no_preference = refl

pub the_only_hart_may_be_preferred : codes (prefer ∷ []) (with_words (0 ∷ []) whole) ≡ Success ∷ []
unfolding is_reserved class_of is_platform is_global same_instance is_never_written is_shut is_refused_value word_for
the_only_hart_may_be_preferred = refl

-- a range of which the second word is refused
abbrev two : Machine
two = with_words (5 ∷ 2 ∷ []) injected

pub one_bad_word_refuses_the_range : codes (write 1 2 0x80000000 ∷ []) two ≡ InvalidParam ∷ []
unfolding is_reserved class_of is_platform is_global same_instance is_never_written is_shut is_refused_value word_for
one_bad_word_refuses_the_range = refl

pub one_bad_word_leaves_all : after (write 1 2 0x80000000) two ≡ two
unfolding is_reserved class_of is_platform is_global same_instance is_never_written is_shut is_refused_value word_for
one_bad_word_leaves_all = refl

-- ids: reserved, of the table but not here, of the platform but not here, and too large
pub ids_are_looked_up :
    codes
    (ask 0 4 (0x2 ∷ []) ∷ ask 0 4 (0x1 ∷ []) ∷ ask 0 4 (0x10000 ∷ []) ∷ ask 0 4 (0x4000 ∷ [])
    ∷ ask 0 4 (0x100000000 ∷ []) ∷ [])
    injected
    ≡ InvalidParam ∷ NotSupported ∷ NotSupported ∷ NotSupported ∷ InvalidParam ∷ []
unfolding is_reserved class_of is_platform is_global same_instance
ids_are_looked_up = refl

pub another_extension_is_not_supported : (call_on 0 0x10 4 (0xffff0000 ∷ []) injected).code ≡ NotSupported
another_extension_is_not_supported = refl

pub there_is_no_tenth_function : codes (ask 0 10 (0xffff0000 ∷ []) ∷ []) injected ≡ NotSupported ∷ []
there_is_no_tenth_function = refl
