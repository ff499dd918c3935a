-- The text of the pages to retire. This project's own: a line a page, by rising page.
use Rattle.std.specs.Prelude.{ℕ, List, ◌++◌, map, codes, decimal}
use Rattle.ras_text.specs.Numbers.{hexadecimal}
use Rattle.ras_device.specs.declared.act.Act.{Act}
use Rattle.ras_policy.specs.declared.marks.Page.{Page}
use Rattle.ras_policy.specs.Retired.{pages_of}
use Rattle.board_plan.specs.declared.notes.Published.{Published}
use Rattle.board_plan.specs.declared.notes.Step.{Step}
use Rattle.board_plan.specs.declared.plan.Plan.{Plan}
use Rattle.board_plan.specs.Run.{ran}
use Rattle.board_plan.specs.Text.{bytes_of}

-- a page, and how many copies were published of errors on it that were corrected, and of others
unfoldable pub page_line : Page → List ℕ
page_line p =
    codes "page " ++ hexadecimal p.page ++ codes " corrected " ++ decimal p.corrected
    ++ codes " uncorrected " ++ decimal p.uncorrected

-- the lines of the pages to retire by these copies
unfoldable pub page_lines : ℕ → List Published → List (List ℕ)
page_lines threshold copies = map page_line (pages_of threshold copies)

-- the text of the pages to retire by all copies of a run
unfoldable pub retired : ℕ → Plan → (ℕ → List Act) → List Step → List ℕ
retired threshold plan acts tries = bytes_of (page_lines threshold (ran plan acts tries).published)
