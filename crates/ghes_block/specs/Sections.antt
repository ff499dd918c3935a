-- Registers read from entries that stand one behind the other, and copies of one kind. This describes the code; no
-- public clause cites it.
use Rattle.std.specs.Prelude.{ℕ, zero, suc, Bool, true, false, ◌&&◌, ◌==◌, if◌then◌else◌, Option, Some, None, List, [], ◌∷◌, drop}
use Rattle.byteorder.specs.Endian.{little_number}
use Rattle.reri_fields.specs.declared.report.RecordCopy.{RecordCopy}
use Rattle.reri_fields.specs.Fields.{status_fields}
use Rattle.reri_fields.specs.Block.{is_corrected, is_uncorrected}

-- the six registers in an entry, whatever else it holds
abbrev pub registers_in : List ℕ → RecordCopy
registers_in entry = record {
  control = little_number 8 (drop 72 entry);
  status = little_number 8 (drop 80 entry);
  address = little_number 8 (drop 88 entry);
  info = little_number 8 (drop 96 entry);
  supplement = little_number 8 (drop 104 entry);
  time = little_number 8 (drop 112 entry);
}

-- those of so many entries
unfoldable pub registers_of : ℕ → List ℕ → List RecordCopy
registers_of zero entries = []
registers_of (suc count) entries = registers_in entries ∷ registers_of count (drop 120 entries)

-- whether a copy is a corrected one, or an uncorrected one
unfoldable pub is_of : Bool → RecordCopy → Bool
is_of true = is_corrected
is_of false = is_uncorrected

-- whether it is of this kind, and two or more errors of its greatest severity came
unfoldable pub is_repeated : Bool → RecordCopy → Bool
is_repeated corrected copy = is_of corrected copy && (status_fields copy.status).multiple

-- how many entries a block of this length has
unfoldable pub entries_in : ℕ → Option ℕ
entries_in total =
    if total == 140 then Some 1
    else (if total == 260 then Some 2
    else (if total == 380 then Some 3
    else (if total == 500 then Some 4
    else None)))
