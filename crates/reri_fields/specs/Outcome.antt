-- What logging an error did to a record, told from the record's history.
-- The levels are the signal codes of RERI 1.0 (`control_i`); that a counted error is not logged is this project's own.
use Rattle.std.specs.Prelude.{Bool, false, ◌&&◌, ◌||◌, List, [], ◌∷◌, ◌++◌, if◌then◌else◌}
use Rattle.reri_fields.specs.declared.report.Logged.{Logged}
use Rattle.reri_fields.specs.declared.report.Logged.TheVariants.{Disabled, Counted, Wrote, Kept}
use Rattle.reri_fields.specs.Fields.{control_fields, level_of}
use Rattle.reri_fields.specs.Records.Event.{Reported, Claimed, Invalidated}
use Rattle.reri_fields.specs.Records.{Error, Event, Origin, is_logged, is_shown_after, since}

-- an error wrote the record where it was logged and is the shown one afterwards
unfoldable pub wrote : Origin → List Event → Error → Bool
wrote origin history error =
    is_logged origin history error.report && is_shown_after (since origin history) error

-- only errors came, and nobody claimed the record or tried to clear it
abbrev pub AreErrors : List Event → Type 0
AreErrors [] = Unit {0}
AreErrors (Reported error ∷ later) = AreErrors later
AreErrors (Claimed ∷ later) = ⊥
AreErrors (Invalidated ∷ later) = ⊥

-- one of the errors that came later wrote the record, to which this had happened before
unfoldable pub any_wrote : Origin → List Event → List Event → Bool
any_wrote origin [] before = false
any_wrote origin (Reported error ∷ later) before = any_wrote origin later before || wrote origin (later ++ before) error
any_wrote origin (Claimed ∷ later) before = any_wrote origin later before
any_wrote origin (Invalidated ∷ later) before = any_wrote origin later before

unfoldable pub outcome : Origin → List Event → Error → Logged
outcome origin history error =
    if (control_fields origin.control).enable
    then (if is_logged origin history error.report
    then (if wrote origin history error
    then Wrote (level_of (control_fields origin.control) error.report.severity) else Kept)
    else Counted)
    else Disabled
