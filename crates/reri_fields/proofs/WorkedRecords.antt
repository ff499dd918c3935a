-- Histories of one record, with what it holds and shows after them and what each error did, computed from the
-- definitions.
use Rattle.std.proofs.Common.{◌≡◌, ℕ, ◌%◌, false, List, [], ◌∷◌, refl}
use Rattle.std.specs.Prelude.{nat_lt}
use Rattle.reri_fields.specs.declared.severity.Severity.{Severity}
use Rattle.reri_fields.specs.declared.severity.Severity.TheVariants.{Ce, Ued, Uec}
use Rattle.reri_fields.specs.declared.report.Logged.TheVariants.{Disabled, Counted, Wrote, Kept}
use Rattle.reri_fields.specs.Fields.{StatusFields, control_fields, status_fields, status_spare, level_of, severity_number, flag, bits}
use Rattle.reri_fields.specs.Records.{Error, Event, Origin, Stands, severity_of, rank_of, greatest_of, is_any, shown, is_multiple, has_severity, came_at, is_shown_after, is_ce, is_counted, counted, is_logged, since, in_progress, number_in}
use Rattle.reri_fields.specs.Records.Event.{Reported, Claimed, Invalidated}
use Rattle.reri_fields.specs.Outcome.{wrote, outcome}

-- an error of record 0 in bank 0, at a step: its severity, priority, code, address and time
abbrev error : ℕ → Severity → ℕ → ℕ → ℕ → ℕ → Error
error step severity priority code address time = record {
  step = step;
  report = record {
    bank = 0;
    rec = 0;
    severity = severity;
    priority = priority;
    code = code;
    address = address;
    info = 0;
    supplement = 0;
    time = time;
  };
}

-- the fields that a status word has after the history
abbrev fields_of : Origin → List Event → StatusFields
fields_of origin history = record {
  valid = is_any (since origin history);
  ce = has_severity 0 (since origin history);
  ued = has_severity 1 (since origin history);
  uec = has_severity 2 (since origin history);
  priority = number_in (λ report. report.priority) (shown (since origin history));
  multiple = is_multiple (since origin history);
  in_progress = in_progress origin history;
  overflow = nat_lt 65535 (counted origin history);
  code = number_in (λ report. report.code) (shown (since origin history));
  count = counted origin history % 65536;
}

-- enabled, no counting, levels 1, 1 and 2
abbrev plain : Origin
plain = record { control = 0x95; count = 0 }

-- ---- A claim is torn by a greater error, and the next one is not ----

abbrev torn_first : Error
torn_first = error 1 Ued 0 1 0x100 1

abbrev torn_second : Error
torn_second = error 4 Uec 0 2 0x200 2

abbrev torn_history : List Event
torn_history = Reported torn_second ∷ Claimed ∷ Reported torn_first ∷ []

torn_first_wrote : outcome plain [] torn_first ≡ Wrote 1
unfolding outcome wrote in_progress since is_logged control_fields status_fields status_spare flag bits level_of
    is_counted is_ce counted is_any is_shown_after came_at shown greatest_of rank_of severity_of severity_number
    has_severity is_multiple number_in
torn_first_wrote = refl

torn_second_wrote : outcome plain (Claimed ∷ Reported torn_first ∷ []) torn_second ≡ Wrote 2
unfolding outcome wrote in_progress since is_logged control_fields status_fields status_spare flag bits level_of
    is_counted is_ce counted is_any is_shown_after came_at shown greatest_of rank_of severity_of severity_number
    has_severity is_multiple number_in
torn_second_wrote = refl

first_try_is_torn : in_progress plain torn_history ≡ false
unfolding outcome wrote in_progress since is_logged control_fields status_fields status_spare flag bits level_of
    is_counted is_ce counted is_any is_shown_after came_at shown greatest_of rank_of severity_of severity_number
    has_severity is_multiple number_in
first_try_is_torn = refl

second_try_publishes : Stands plain (Claimed ∷ torn_history)
    (record { control = 0x95; status = 0x2008d; address = 0x200; info = 0; supplement = 0; time = 2 })
unfolding outcome wrote in_progress since is_logged control_fields status_fields status_spare flag bits level_of
    is_counted is_ce counted is_any is_shown_after came_at shown greatest_of rank_of severity_of severity_number
    has_severity is_multiple number_in
second_try_publishes = record {
  control = refl;
  shows = record {
    valid = refl;
    ce = refl;
    ued = refl;
    uec = refl;
    multiple = refl;
    priority = refl;
    code = refl;
    address = refl;
    info = refl;
    supplement = refl;
    time = refl;
  };
  in_progress = refl;
  count = refl;
  overflow = refl;
  others = refl;
}

-- ---- An error that comes after the copy was taken stays when the record is invalidated ----

abbrev early : Error
early = error 1 Ce 0 1 0x100 1

abbrev late : Error
late = error 9 Uec 0 2 0x200 2

early_shows : status_fields 0x10083 ≡ fields_of plain (Claimed ∷ Reported early ∷ [])
unfolding outcome wrote in_progress since is_logged control_fields status_fields status_spare flag bits level_of
    is_counted is_ce counted is_any is_shown_after came_at shown greatest_of rank_of severity_of severity_number
    has_severity is_multiple number_in
early_shows = refl

late_wrote : outcome plain (Claimed ∷ Reported early ∷ []) late ≡ Wrote 2
unfolding outcome wrote in_progress since is_logged control_fields status_fields status_spare flag bits level_of
    is_counted is_ce counted is_any is_shown_after came_at shown greatest_of rank_of severity_of severity_number
    has_severity is_multiple number_in
late_wrote = refl

invalidation_stood : since plain (Invalidated ∷ Reported late ∷ Claimed ∷ Reported early ∷ []) ≡ early ∷ late ∷ []
unfolding outcome wrote in_progress since is_logged control_fields status_fields status_spare flag bits level_of
    is_counted is_ce counted is_any is_shown_after came_at shown greatest_of rank_of severity_of severity_number
    has_severity is_multiple number_in
invalidation_stood = refl

late_shows : status_fields 0x2008b
    ≡ fields_of plain (Claimed ∷ Invalidated ∷ Reported late ∷ Claimed ∷ Reported early ∷ [])
unfolding outcome wrote in_progress since is_logged control_fields status_fields status_spare flag bits level_of
    is_counted is_ce counted is_any is_shown_after came_at shown greatest_of rank_of severity_of severity_number
    has_severity is_multiple number_in
late_shows = refl

then_cleared : status_fields 0
    ≡ fields_of plain (Invalidated ∷ Claimed ∷ Invalidated ∷ Reported late ∷ Claimed ∷ Reported early ∷ [])
unfolding outcome wrote in_progress since is_logged control_fields status_fields status_spare flag bits level_of
    is_counted is_ce counted is_any is_shown_after came_at shown greatest_of rank_of severity_of severity_number
    has_severity is_multiple number_in
then_cleared = refl

-- ---- Twelve errors of rising rank, and a claim before each but the first: only the last claim is not torn ----

abbrev rising_1 : List Event
rising_1 = Reported (error 1 Ce 0 1 0 0) ∷ []

abbrev rising_2 : List Event
rising_2 = Reported (error 2 Ce 1 2 0 0) ∷ Claimed ∷ rising_1

abbrev rising_3 : List Event
rising_3 = Reported (error 3 Ce 2 3 0 0) ∷ Claimed ∷ rising_2

abbrev rising_4 : List Event
rising_4 = Reported (error 4 Ce 3 4 0 0) ∷ Claimed ∷ rising_3

abbrev rising_5 : List Event
rising_5 = Reported (error 5 Ued 0 5 0 0) ∷ Claimed ∷ rising_4

abbrev rising_6 : List Event
rising_6 = Reported (error 6 Ued 1 6 0 0) ∷ Claimed ∷ rising_5

abbrev rising_7 : List Event
rising_7 = Reported (error 7 Ued 2 7 0 0) ∷ Claimed ∷ rising_6

abbrev rising_8 : List Event
rising_8 = Reported (error 8 Ued 3 8 0 0) ∷ Claimed ∷ rising_7

abbrev rising_9 : List Event
rising_9 = Reported (error 9 Uec 0 9 0 0) ∷ Claimed ∷ rising_8

abbrev rising_10 : List Event
rising_10 = Reported (error 10 Uec 1 10 0 0) ∷ Claimed ∷ rising_9

abbrev rising_11 : List Event
rising_11 = Reported (error 11 Uec 2 11 0 0) ∷ Claimed ∷ rising_10

abbrev rising_12 : List Event
rising_12 = Reported (error 12 Uec 3 12 0 0) ∷ Claimed ∷ rising_11

each_earlier_claim_is_torn : (in_progress plain rising_2 ≡ false) × (in_progress plain rising_3 ≡ false)
    × (in_progress plain rising_4 ≡ false) × (in_progress plain rising_5 ≡ false)
    × (in_progress plain rising_6 ≡ false) × (in_progress plain rising_7 ≡ false)
    × (in_progress plain rising_8 ≡ false) × (in_progress plain rising_9 ≡ false)
    × (in_progress plain rising_10 ≡ false) × (in_progress plain rising_11 ≡ false)
    × (in_progress plain rising_12 ≡ false)
unfolding outcome wrote in_progress since is_logged control_fields status_fields status_spare flag bits level_of
    is_counted is_ce counted is_any is_shown_after came_at shown greatest_of rank_of severity_of severity_number
    has_severity is_multiple number_in
each_earlier_claim_is_torn = (refl, refl, refl, refl, refl, refl, refl, refl, refl, refl, refl)

twelfth_claim_is_not_torn : status_fields 0xc00ff ≡ fields_of plain (Claimed ∷ rising_12)
unfolding outcome wrote in_progress since is_logged control_fields status_fields status_spare flag bits level_of
    is_counted is_ce counted is_any is_shown_after came_at shown greatest_of rank_of severity_of severity_number
    has_severity is_multiple number_in
twelfth_claim_is_not_torn = refl

-- ---- Ranks: an equal one and a smaller one are kept out ----

abbrev ranked_first : Error
ranked_first = error 1 Ce 1 3 0 0

abbrev ranked_equal : Error
ranked_equal = error 2 Ce 1 4 0 0

abbrev ranked_greater : Error
ranked_greater = error 3 Uec 0 5 0 0

abbrev ranked_middle : Error
ranked_middle = error 4 Ued 3 6 0 0

ranked_first_outcome : outcome plain [] ranked_first ≡ Wrote 1
unfolding outcome wrote in_progress since is_logged control_fields status_fields status_spare flag bits level_of
    is_counted is_ce counted is_any is_shown_after came_at shown greatest_of rank_of severity_of severity_number
    has_severity is_multiple number_in
ranked_first_outcome = refl

ranked_first_shows : status_fields 0x30013 ≡ fields_of plain (Reported ranked_first ∷ [])
unfolding outcome wrote in_progress since is_logged control_fields status_fields status_spare flag bits level_of
    is_counted is_ce counted is_any is_shown_after came_at shown greatest_of rank_of severity_of severity_number
    has_severity is_multiple number_in
ranked_first_shows = refl

ranked_equal_outcome : outcome plain (Reported ranked_first ∷ []) ranked_equal ≡ Kept
unfolding outcome wrote in_progress since is_logged control_fields status_fields status_spare flag bits level_of
    is_counted is_ce counted is_any is_shown_after came_at shown greatest_of rank_of severity_of severity_number
    has_severity is_multiple number_in
ranked_equal_outcome = refl

ranked_equal_shows : status_fields 0x30053 ≡ fields_of plain (Reported ranked_equal ∷ Reported ranked_first ∷ [])
unfolding outcome wrote in_progress since is_logged control_fields status_fields status_spare flag bits level_of
    is_counted is_ce counted is_any is_shown_after came_at shown greatest_of rank_of severity_of severity_number
    has_severity is_multiple number_in
ranked_equal_shows = refl

ranked_greater_outcome : outcome plain (Reported ranked_equal ∷ Reported ranked_first ∷ []) ranked_greater ≡ Wrote 2
unfolding outcome wrote in_progress since is_logged control_fields status_fields status_spare flag bits level_of
    is_counted is_ce counted is_any is_shown_after came_at shown greatest_of rank_of severity_of severity_number
    has_severity is_multiple number_in
ranked_greater_outcome = refl

ranked_greater_shows : status_fields 0x5000b
    ≡ fields_of plain (Reported ranked_greater ∷ Reported ranked_equal ∷ Reported ranked_first ∷ [])
unfolding outcome wrote in_progress since is_logged control_fields status_fields status_spare flag bits level_of
    is_counted is_ce counted is_any is_shown_after came_at shown greatest_of rank_of severity_of severity_number
    has_severity is_multiple number_in
ranked_greater_shows = refl

ranked_middle_outcome : outcome plain (Reported ranked_greater ∷ Reported ranked_equal ∷ Reported ranked_first ∷ [])
    ranked_middle ≡ Kept
unfolding outcome wrote in_progress since is_logged control_fields status_fields status_spare flag bits level_of
    is_counted is_ce counted is_any is_shown_after came_at shown greatest_of rank_of severity_of severity_number
    has_severity is_multiple number_in
ranked_middle_outcome = refl

ranked_middle_shows : status_fields 0x5000f
    ≡ fields_of plain (Reported ranked_middle ∷ Reported ranked_greater ∷ Reported ranked_equal
    ∷ Reported ranked_first ∷ [])
unfolding outcome wrote in_progress since is_logged control_fields status_fields status_spare flag bits level_of
    is_counted is_ce counted is_any is_shown_after came_at shown greatest_of rank_of severity_of severity_number
    has_severity is_multiple number_in
ranked_middle_shows = refl

-- ---- The same errors where the record is not enabled ----

abbrev off : Origin
off = record { control = 0x94; count = 0 }

none_logged : since off (Reported ranked_middle ∷ Reported ranked_greater ∷ Reported ranked_equal
    ∷ Reported ranked_first ∷ []) ≡ []
unfolding outcome wrote in_progress since is_logged control_fields status_fields status_spare flag bits level_of
    is_counted is_ce counted is_any is_shown_after came_at shown greatest_of rank_of severity_of severity_number
    has_severity is_multiple number_in
none_logged = refl

all_disabled : (outcome off [] ranked_first ≡ Disabled)
    × (outcome off (Reported ranked_first ∷ []) ranked_equal ≡ Disabled)
    × (outcome off (Reported ranked_equal ∷ Reported ranked_first ∷ []) ranked_greater ≡ Disabled)
    × (outcome off (Reported ranked_greater ∷ Reported ranked_equal ∷ Reported ranked_first ∷ []) ranked_middle
    ≡ Disabled)
unfolding outcome wrote in_progress since is_logged control_fields status_fields status_spare flag bits level_of
    is_counted is_ce counted is_any is_shown_after came_at shown greatest_of rank_of severity_of severity_number
    has_severity is_multiple number_in
all_disabled = (refl, refl, refl, refl)

off_shows : status_fields 0
    ≡ fields_of off (Reported ranked_middle ∷ Reported ranked_greater ∷ Reported ranked_equal ∷ Reported ranked_first
    ∷ [])
unfolding outcome wrote in_progress since is_logged control_fields status_fields status_spare flag bits level_of
    is_counted is_ce counted is_any is_shown_after came_at shown greatest_of rank_of severity_of severity_number
    has_severity is_multiple number_in
off_shows = refl

-- ---- The count wraps: the error at which it does is logged ----

abbrev counting : Origin
counting = record { control = 0x97; count = 65534 }

abbrev corrected_1 : Error
corrected_1 = error 1 Ce 0 7 0 0

abbrev corrected_2 : Error
corrected_2 = error 2 Ce 0 7 0 0

abbrev corrected_3 : Error
corrected_3 = error 3 Ce 0 7 0 0

wraps_at_the_second : (outcome counting [] corrected_1 ≡ Counted)
    × (outcome counting (Reported corrected_1 ∷ []) corrected_2 ≡ Wrote 1)
    × (outcome counting (Reported corrected_2 ∷ Reported corrected_1 ∷ []) corrected_3 ≡ Counted)
unfolding outcome wrote in_progress since is_logged control_fields status_fields status_spare flag bits level_of
    is_counted is_ce counted is_any is_shown_after came_at shown greatest_of rank_of severity_of severity_number
    has_severity is_multiple number_in
wraps_at_the_second = (refl, refl, refl)

wrapped_shows : status_fields 0x100070103
    ≡ fields_of counting (Reported corrected_3 ∷ Reported corrected_2 ∷ Reported corrected_1 ∷ [])
unfolding outcome wrote in_progress since is_logged control_fields status_fields status_spare flag bits level_of
    is_counted is_ce counted is_any is_shown_after came_at shown greatest_of rank_of severity_of severity_number
    has_severity is_multiple number_in
wrapped_shows = refl
