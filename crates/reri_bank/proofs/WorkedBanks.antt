-- Histories of a bank, with whether it asks and which records are signalled after them, computed from the definitions.
use Rattle.std.proofs.Common.{◌≡◌, ℕ, true, false, List, [], ◌∷◌, refl}
use Rattle.reri_fields.specs.declared.severity.Severity.{Severity}
use Rattle.reri_fields.specs.declared.severity.Severity.TheVariants.{Ce, Ued, Uec}
use Rattle.reri_fields.specs.Fields.{control_fields, flag, bits, level_of, severity_number}
use Rattle.reri_fields.specs.Records.{Error, Origin, severity_of, rank_of, greatest_of, is_any, shown, came_at, is_shown_after, is_ce, is_counted, counted, is_logged, since, in_progress}
use Rattle.reri_fields.specs.Outcome.{wrote, outcome}
use Rattle.reri_fields.specs.Banks.{BankEvent, events_of, level_in, raised, asks, level_after, is_signalled_after}
use Rattle.reri_fields.specs.Banks.BankEvent.{Logs, Claims, Invalidates, ScanOver}

abbrev error : ℕ → ℕ → Severity → Error
error step rec severity = record {
  step = step;
  report = record {
    bank = 0;
    rec = rec;
    severity = severity;
    priority = 0;
    code = 1;
    address = 0;
    info = 0;
    supplement = 0;
    time = 0;
  };
}

-- record 0 has levels 1, 1 and 2 for the three severities, record 1 has 0, 1 and 0
abbrev origins : List Origin
origins = record { control = 0x95; count = 0 } ∷ record { control = 0x11; count = 0 } ∷ []

abbrev written : List BankEvent
written = Logs (error 1 0 Ce) ∷ []

abbrev cleared : List BankEvent
cleared = Invalidates 0 ∷ Claims 0 ∷ written

-- an error that writes at level 1: the bank asks until a search finds none, whatever was cleared before
written_asks : (asks origins written ≡ true) × (asks origins cleared ≡ true)
    × (asks origins (ScanOver ∷ cleared) ≡ false)
unfolding asks raised is_signalled_after level_after events_of level_in outcome wrote in_progress since is_logged
    control_fields flag bits level_of is_counted is_ce counted is_any is_shown_after came_at shown greatest_of rank_of
    severity_of severity_number
written_asks = (refl, refl, refl)

-- its record is signalled until it is cleared, and no other is
written_signalled : (is_signalled_after origins written 0 ≡ true) × (is_signalled_after origins written 1 ≡ false)
    × (is_signalled_after origins cleared 0 ≡ false)
unfolding asks raised is_signalled_after level_after events_of level_in outcome wrote in_progress since is_logged
    control_fields flag bits level_of is_counted is_ce counted is_any is_shown_after came_at shown greatest_of rank_of
    severity_of severity_number
written_signalled = (refl, refl, refl)

-- a valid record of level 0 is not signalled, and the bank does not ask for it
level_zero : (asks origins (Logs (error 1 1 Uec) ∷ []) ≡ false)
    × (is_signalled_after origins (Logs (error 1 1 Uec) ∷ []) 1 ≡ false)
unfolding asks raised is_signalled_after level_after events_of level_in outcome wrote in_progress since is_logged
    control_fields flag bits level_of is_counted is_ce counted is_any is_shown_after came_at shown greatest_of rank_of
    severity_of severity_number
level_zero = (refl, refl)

-- an error that is kept out does not make the bank ask again
kept_does_not_ask : asks origins (Logs (error 2 0 Ce) ∷ ScanOver ∷ written) ≡ false
unfolding asks raised is_signalled_after level_after events_of level_in outcome wrote in_progress since is_logged
    control_fields flag bits level_of is_counted is_ce counted is_any is_shown_after came_at shown greatest_of rank_of
    severity_of severity_number
kept_does_not_ask = refl

-- an error for a record that the bank has not
stray : asks origins (Logs (error 1 2 Uec) ∷ []) ≡ false
unfolding asks raised is_signalled_after level_after events_of level_in outcome wrote in_progress since is_logged
    control_fields flag bits level_of is_counted is_ce counted is_any is_shown_after came_at shown greatest_of rank_of
    severity_of severity_number
stray = refl

-- an error that came after the claim leaves its record signalled through the invalidation
late_stays : is_signalled_after origins (Invalidates 0 ∷ Logs (error 2 0 Ued) ∷ Claims 0 ∷ written) 0 ≡ true
unfolding asks raised is_signalled_after level_after events_of level_in outcome wrote in_progress since is_logged
    control_fields flag bits level_of is_counted is_ce counted is_any is_shown_after came_at shown greatest_of rank_of
    severity_of severity_number
late_stays = refl
