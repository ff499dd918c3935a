-- What a ledger is: its room, a mark for each copy that was added, and the copies that it stands for. This project's
-- own.
use Rattle.std.specs.Prelude.{◌≡◌, ℕ, ◌==◌, ◌&&◌, ◌||◌, Bool, List, length, count_by}
use Rattle.std.specs.List.{list_any}
use Rattle.reri_fields.specs.declared.severity.Severity.TheVariants.{Ce, Ued, Uec}
use Rattle.reri_fields.specs.Fields.{status_fields, greatest}
use Rattle.reri_fields.specs.Block.{is_worst}
use Rattle.board_plan.specs.declared.notes.Published.{Published}
use Rattle.ras_policy.specs.declared.marks.Mark.{Mark}
use Rattle.ras_policy.specs.Retired.{page_of, is_on, corrected_of, uncorrected_of}

-- the mark of a copy: its page, and its greatest severity
abbrev pub mark_of : Published → Mark
mark_of x = record { page = page_of x; severity = greatest (status_fields x.copy.status) }

-- whether the greatest severity of the mark's copy is CE, and whether it is UED or UEC
abbrev pub marks_corrected : Mark → Bool
marks_corrected m = is_worst Ce m.severity

abbrev pub marks_uncorrected : Mark → Bool
marks_uncorrected m = is_worst Ued m.severity || is_worst Uec m.severity

-- the room for copies, and the marks of those that were added
pub record Books : Type 0 where
  pub room : ℕ
  pub marks : List Mark

-- A ledger stands for a list of copies, in whatever order they were added: of each page it has the numbers of that
-- list, it has the pages of that list, and it counted as many copies.
pub record StandsFor (copies : List Published) (books : Books) : Type 0 where
  pub corrected :
      (page : ℕ) → count_by (λ m. (m.page == page) && marks_corrected m) books.marks ≡ corrected_of page copies
  pub uncorrected :
      (page : ℕ) → count_by (λ m. (m.page == page) && marks_uncorrected m) books.marks ≡ uncorrected_of page copies
  pub pages : (page : ℕ) → list_any (λ m. m.page == page) books.marks ≡ list_any (is_on page) copies
  pub number : length books.marks ≡ length copies
