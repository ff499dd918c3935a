-- An error record as six words in a row, in a list of words that holds more. The layout is this project's own: the
-- registers in the order control, status, address, info, supplement, time.
use Rattle.std.specs.Prelude.{◌≡◌, ℕ, ◌+◌, List, [], ◌∷◌, slice_index, slice_set}
use Rattle.reri_fields.specs.declared.report.RecordCopy.{RecordCopy}

-- the six registers, in their order
abbrev pub registers : RecordCopy → List ℕ
registers copy = copy.control ∷ copy.status ∷ copy.address ∷ copy.info ∷ copy.supplement ∷ copy.time ∷ []

-- the record whose first word stands at this place
unfoldable pub copy_at : List ℕ → ℕ → RecordCopy
copy_at words at =
    record {
      control = slice_index words at;
      status = slice_index words (at + 1);
      address = slice_index words (at + 2);
      info = slice_index words (at + 3);
      supplement = slice_index words (at + 4);
      time = slice_index words (at + 5);
    }

-- these words, with the six words from this place on written, and every other word as it was
unfoldable pub with_record : List ℕ → ℕ → RecordCopy → List ℕ
with_record words at copy =
    let head = slice_set (slice_set (slice_set words at copy.control) (at + 1) copy.status) (at + 2) copy.address in
    slice_set (slice_set (slice_set head (at + 3) copy.info) (at + 4) copy.supplement) (at + 5) copy.time

-- one record among the words changed so, and every other word stayed
pub record OneRecordChanges (change : RecordCopy → RecordCopy → Type 0) (at : ℕ) (old new : List ℕ) : Type 0 where
  pub after : RecordCopy
  pub is : new ≡ with_record old at after
  pub changes : change (copy_at old at) after
