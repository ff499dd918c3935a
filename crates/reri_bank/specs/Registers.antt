-- What a reader does to the registers of one record, and what they read as, for any registers. Read-in-progress and
-- the invalidation follow RERI 1.0 (`srdp` and `sinv` of `control_i`), in this project's profile: an invalidation
-- takes effect only where read-in-progress is set.
use Rattle.std.specs.Prelude.{◌≡◌, ℕ, ◌+◌, ◌*◌, true, false, if◌then◌else◌, MatchBool, List, [], ◌∷◌, slice_get, slice_set, Some}
use Rattle.reri_fields.specs.declared.report.RecordCopy.{RecordCopy}
use Rattle.reri_fields.specs.Records.{Origin}
use Rattle.reri_fields.specs.Fields.{StatusFields, status_fields, status_spare}

-- how a record begins that is given by its control word and its starting count
abbrev pub origin_of : ℕ × ℕ → Origin
origin_of first = record { control = first.0; count = first.1 }

-- the status fields with read-in-progress set, where the record is valid
unfoldable pub claimed : StatusFields → StatusFields
claimed fields = if fields.valid then record fields { in_progress = true } else fields

-- the record was claimed: nothing but its read-in-progress changed
pub record IsClaimed (old new : RecordCopy) : Type 0 where
  pub status : status_fields new.status ≡ claimed (status_fields old.status)
  pub others : status_spare new.status ≡ status_spare old.status
  pub rest : new ≡ record old { status = new.status }

-- the record was cleared: its control, count and overflow stay, and all else is 0
pub record IsCleared (old new : RecordCopy) : Type 0 where
  pub control : new.control ≡ old.control
  pub status : status_fields new.status ≡ record {
    valid = false;
    ce = false;
    ued = false;
    uec = false;
    priority = 0;
    multiple = false;
    in_progress = false;
    overflow = (status_fields old.status).overflow;
    code = 0;
    count = (status_fields old.status).count;
  }
  pub others : status_spare new.status ≡ (0, 0, 0)
  pub address : new.address ≡ 0
  pub info : new.info ≡ 0
  pub supplement : new.supplement ≡ 0
  pub time : new.time ≡ 0

-- an invalidation clears the record where its read-in-progress is set, and else leaves it
abbrev pub IsInvalidated : RecordCopy → RecordCopy → Type 0
IsInvalidated old new = MatchBool (status_fields old.status).in_progress (IsCleared old new) (new ≡ old)

-- one record changed so, and every other record stayed
pub record OneChanges (change : RecordCopy → RecordCopy → Type 0) (rec : ℕ) (old new : List RecordCopy) : Type 0 where
  pub before : RecordCopy
  pub after : RecordCopy
  pub was : slice_get old rec ≡ Some before
  pub is : new ≡ slice_set old rec after
  pub changes : change before after

-- one bit for each valid record, record 0 in the lowest bit
unfoldable pub summary : List RecordCopy → ℕ
summary [] = 0
summary (copy ∷ copies) = (if (status_fields copy.status).valid then 1 else 0) + 2 * summary copies
