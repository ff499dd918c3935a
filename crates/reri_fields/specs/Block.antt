-- The spelling of an error status block that holds copies of error records.
-- Layout and field names: ACPI 6.5, 18.3.2.7.1 (Generic Error Status Block, and Generic Error Data Entry of revision
-- 0x0300). This project's own: the section type, its section of 48 bytes, which severity means which number, at most
-- four entries, no raw data, and zeros in every field that is spelled as zeros here.
use Rattle.std.specs.Prelude.{◌≡◌, ◌≤◌, ◌<◌, ℕ, zero, suc, ◌+◌, ◌*◌, ◌/◌, ◌%◌, ◌^◌, Bool, true, false, ◌&&◌, ◌||◌, if◌then◌else◌, Option, Some, IsSome, List, [], ◌∷◌, ◌++◌, length, replicate, nat_lt, codes, count_by}
use Rattle.std.specs.List.{list_any, flat_map}
use Rattle.reri_fields.specs.declared.severity.Severity.{Severity}
use Rattle.reri_fields.specs.declared.severity.Severity.TheVariants.{Ce, Ued, Uec}
use Rattle.reri_fields.specs.declared.report.RecordCopy.{RecordCopy}
use Rattle.reri_fields.specs.Fields.{control_spare, status_fields, status_spare, greatest}

-- a number as so many digits in base 256, the lowest first
unfoldable pub digits : ℕ → ℕ → List ℕ
digits zero number = []
digits (suc count) number = number % 256 ∷ digits count (number / 256)

-- so many bytes of 0
unfoldable pub zeros : ℕ → List ℕ
zeros count = replicate count 0

-- a copy that a block can hold: it shows an error, and the spare bits of its two words are clear
pub record IsCopy (copy : RecordCopy) : Type 0 where
  pub valid : (status_fields copy.status).valid ≡ true
  pub severity : IsSome (greatest (status_fields copy.status))
  pub status_spare : status_spare copy.status ≡ (0, 0, 0)
  pub control_spare : control_spare copy.control ≡ 0

-- its registers are words of 64 bits
pub record AreWords (copy : RecordCopy) : Type 0 where
  pub control : copy.control < 2 ^ 64
  pub status : copy.status < 2 ^ 64
  pub address : copy.address < 2 ^ 64
  pub info : copy.info < 2 ^ 64
  pub supplement : copy.supplement < 2 ^ 64
  pub time : copy.time < 2 ^ 64

-- whether a copy's greatest severity is this one
unfoldable pub is_worst : Severity → Option Severity → Bool
is_worst Ce (Some Ce) = true
is_worst Ued (Some Ued) = true
is_worst Uec (Some Uec) = true
is_worst _ _ = false

unfoldable pub has_worst : Severity → RecordCopy → Bool
has_worst severity copy = is_worst severity (greatest (status_fields copy.status))

unfoldable pub is_corrected : RecordCopy → Bool
is_corrected copy = has_worst Ce copy

unfoldable pub is_uncorrected : RecordCopy → Bool
is_uncorrected copy = has_worst Ued copy || has_worst Uec copy

-- whether two such copies stand, or one for which two or more errors of its greatest severity came
unfoldable pub are_several : (RecordCopy → Bool) → List RecordCopy → Bool
are_several chosen copies =
    nat_lt 1 (count_by chosen copies) || list_any (λ copy. chosen copy && (status_fields copy.status).multiple) copies

-- Block Status: bit 0 uncorrectable, bit 1 correctable, bit 2 multiple uncorrectable, bit 3 multiple correctable, and
-- the number of entries in bits 4 to 13
unfoldable pub block_status : List RecordCopy → ℕ
block_status copies =
    (if list_any is_uncorrected copies then 1 else 0) + (if list_any is_corrected copies then 2 else 0)
    + (if are_several is_uncorrected copies then 4 else 0) +
    (if are_several is_corrected copies then 8 else 0) + 16 * length copies

-- Error Severity, the gravest of the copies: 1 (fatal) if any shows a critical error, 0 (recoverable) if any shows a
-- deferred one, and 2 (corrected) if there are corrected errors alone
unfoldable pub error_severity : List RecordCopy → ℕ
error_severity copies = if list_any (has_worst Uec) copies then 1 else if list_any (has_worst Ued) copies then 0 else 2

-- Generic Error Status Block: Block Status, Raw Data Offset, Raw Data Length, Data Length, Error Severity
unfoldable pub header : List RecordCopy → List ℕ
header copies = digits 4 (block_status copies) ++ digits 4 0 ++ digits 4 0 ++ digits 4 (120 * length copies)
    ++ digits 4 (error_severity copies)

unfoldable pub section_type : List ℕ
section_type = codes "RERI-RECORD-0001"

-- the section: the six registers in their order
unfoldable pub section : RecordCopy → List ℕ
section copy = digits 8 copy.control ++ digits 8 copy.status ++ digits 8 copy.address ++ digits 8 copy.info
    ++ digits 8 copy.supplement ++ digits 8 copy.time

-- Generic Error Data Entry: Section Type, Error Severity of this copy alone, Revision, Validation Bits, Flags,
-- Error Data Length, FRU Id, FRU Text, Timestamp, and the section
unfoldable pub entry : RecordCopy → List ℕ
entry copy =
    section_type ++ digits 4 (error_severity (copy ∷ [])) ++ digits 2 0x0300 ++ zeros 1 ++ zeros 1 ++ digits 4 48
    ++ zeros 16 ++ zeros 20 ++ zeros 8 ++ section copy

unfoldable pub spelling : List RecordCopy → List ℕ
spelling copies = header copies ++ flat_map entry copies

abbrev pub AreCopies : List RecordCopy → Type 0
AreCopies [] = Unit {0}
AreCopies (copy ∷ copies) = IsCopy copy × AreWords copy × AreCopies copies

-- what stands in a slot that holds these copies: nothing where it is free
unfoldable pub slot_text : List RecordCopy → List ℕ
slot_text [] = []
slot_text (copy ∷ copies) = spelling (copy ∷ copies)

-- the text is the block of these copies, of which there are one to four
pub record Spells (text : List ℕ) (copies : List RecordCopy) : Type 0 where
  pub some : 1 ≤ length copies
  pub few : length copies ≤ 4
  pub each : AreCopies copies
  pub same : text ≡ spelling copies
