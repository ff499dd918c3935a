-- The fields of the two words of an error record, `control` and `status`.
-- Severities, their order, and the signal codes follow RERI 1.0 (the registers `control_i` and `status_i` of an
-- error record). The places of the bits, `counting`, the count and its overflow are this project's own.
use Rattle.std.specs.Prelude.{ℕ, ◌+◌, ◌*◌, ◌/◌, ◌%◌, ◌^◌, ◌==◌, Bool, if◌then◌else◌, Option, Some, None}
use Rattle.reri_fields.specs.declared.severity.Severity.{Severity}
use Rattle.reri_fields.specs.declared.severity.Severity.TheVariants.{Ce, Ued, Uec}

-- the number in the `width` bits of a word from bit `low` up
unfoldable pub bits : ℕ → ℕ → ℕ → ℕ
bits word low width = word / 2 ^ low % 2 ^ width

-- the word with this number in those bits, and every other bit as it was
unfoldable pub with_bits : ℕ → ℕ → ℕ → ℕ → ℕ
with_bits word low width value = word / 2 ^ (low + width) * 2 ^ (low + width) + value * 2 ^ low + word % 2 ^ low

-- whether one bit of a word is set
unfoldable pub flag : ℕ → ℕ → Bool
flag word at = bits word at 1 == 1

pub record ControlFields : Type 0 where
  pub enable : Bool
  pub counting : Bool
  pub ce_signal : ℕ
  pub ued_signal : ℕ
  pub uec_signal : ℕ

-- the fields of a control word
unfoldable pub control_fields : ℕ → ControlFields
control_fields word = record {
  enable = flag word 0;
  counting = flag word 1;
  ce_signal = bits word 2 2;
  ued_signal = bits word 4 2;
  uec_signal = bits word 6 2;
}

-- the bits of a control word that are in no field
unfoldable pub control_spare : ℕ → ℕ
control_spare word = bits word 8 56

pub record StatusFields : Type 0 where
  pub valid : Bool
  pub ce : Bool
  pub ued : Bool
  pub uec : Bool
  pub priority : ℕ
  pub multiple : Bool
  pub in_progress : Bool
  pub overflow : Bool
  pub code : ℕ
  pub count : ℕ

-- the fields of a status word
unfoldable pub status_fields : ℕ → StatusFields
status_fields word = record {
  valid = flag word 0;
  ce = flag word 1;
  ued = flag word 2;
  uec = flag word 3;
  priority = bits word 4 2;
  multiple = flag word 6;
  in_progress = flag word 7;
  overflow = flag word 8;
  code = bits word 16 8;
  count = bits word 32 16;
}

-- the bits of a status word that are in no field: above overflow, above the code, above the count
unfoldable pub status_spare : ℕ → ℕ × ℕ × ℕ
status_spare word = (bits word 9 7, bits word 24 8, bits word 48 16)

-- a bit of this value at a place
unfoldable pub bit_at : ℕ → Bool → ℕ
bit_at at value = (if value then 1 else 0) * 2 ^ at

-- the status word that has these fields and no other bit
unfoldable pub status_word : StatusFields → ℕ
status_word fields =
    bit_at 0 fields.valid + bit_at 1 fields.ce + bit_at 2 fields.ued + bit_at 3 fields.uec
    + fields.priority * 2 ^ 4 + bit_at 6 fields.multiple + bit_at 7 fields.in_progress + bit_at 8 fields.overflow
    + fields.code * 2 ^ 16 + fields.count * 2 ^ 32

-- severities as numbers that rise with them
unfoldable pub severity_number : Severity → ℕ
severity_number Ce = 0
severity_number Ued = 1
severity_number Uec = 2

-- the signal code that a control word has for a severity
unfoldable pub level_of : ControlFields → Severity → ℕ
level_of fields Ce = fields.ce_signal
level_of fields Ued = fields.ued_signal
level_of fields Uec = fields.uec_signal

-- the greatest severity whose bit is set
unfoldable pub greatest : StatusFields → Option Severity
greatest fields =
    if fields.uec then Some Uec else if fields.ued then Some Ued else if fields.ce then Some Ce else None
