-- A bank as words in a row: the summary, and then the six registers of each record. This layout is this project's own.
use Rattle.std.specs.Prelude.{◌≡◌, ◌<◌, ◌≤◌, ℕ, ◌%◌, ◌/◌, ◌==◌, if◌then◌else◌, List, [], ◌∷◌, length, drop, slice_get, Option, Some, None}
use Rattle.std.specs.List.{flat_map}
use Rattle.reri_fields.specs.declared.report.RecordCopy.{RecordCopy}
use Rattle.reri_fields.specs.Records.{IsRecord}
use Rattle.reri_fields.specs.Words.{registers}
use Rattle.reri_bank.specs.Registers.{summary}

-- the words of a bank that has these records
unfoldable pub words_of : List RecordCopy → List ℕ
words_of copies = summary copies ∷ flat_map registers copies

-- the word at a byte offset, which is a multiple of 8
unfoldable pub word_at : List RecordCopy → ℕ → Option ℕ
word_at copies offset = if offset % 8 == 0 then slice_get (words_of copies) (offset / 8) else None

-- ---- What the code keeps of it: cited by private functions alone ----

-- the records that stand in words, six words each
unfoldable pub records_in : List ℕ → List RecordCopy
records_in (control ∷ status ∷ address ∷ info ∷ supplement ∷ time ∷ words) =
    record {
      control = control;
      status = status;
      address = address;
      info = info;
      supplement = supplement;
      time =
          time;
    } ∷ records_in words
records_in _ = []

-- the records of a bank with these words
abbrev pub copies_in : List ℕ → List RecordCopy
copies_in words = records_in (drop 1 words)

-- each of the copies is what registers always are
abbrev pub AreRecords : List RecordCopy → Type 0
AreRecords copies = (at : ℕ) (copy : RecordCopy) → slice_get copies at ≡ Some copy → IsRecord copy

-- the words are laid out as those of a bank of 1 to 63 records, and the summary is true
pub record IsLaidOut (words : List ℕ) : Type 0 where
  pub some : 0 < length (copies_in words)
  pub few : length (copies_in words) ≤ 63
  pub same : words ≡ words_of (copies_in words)
  pub records : AreRecords (copies_in words)
