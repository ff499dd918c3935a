-- Which pages of memory to retire. This project's own, over the copies of error records that drains publish (RERI 1.0):
-- a page is 4,096 bytes, and what counts of a copy is its greatest severity.
use Rattle.std.specs.Prelude.{ℕ, ◌/◌, ◌==◌, ◌&&◌, ◌||◌, nat_lt, nat_le, Bool, if◌then◌else◌, List, [], ◌∷◌, map, count_by}
use Rattle.std.specs.List.{filter}
use Rattle.reri_fields.specs.Block.{is_corrected, is_uncorrected}
use Rattle.board_plan.specs.declared.notes.Published.{Published}
use Rattle.ras_policy.specs.declared.marks.Page.{Page}

-- the page that the error of a copy struck
abbrev pub page_of : Published → ℕ
page_of published = published.copy.address / 4096

abbrev pub is_on : ℕ → Published → Bool
is_on page published = page_of published == page

-- how many copies on a page have the greatest severity CE, and how many UED or UEC
unfoldable pub corrected_of : ℕ → List Published → ℕ
corrected_of page copies = count_by (λ x. is_on page x && is_corrected x.copy) copies

unfoldable pub uncorrected_of : ℕ → List Published → ℕ
uncorrected_of page copies = count_by (λ x. is_on page x && is_uncorrected x.copy) copies

-- a page with its numbers
abbrev pub numbers_of : List Published → ℕ → Page
numbers_of copies page =
    record { page = page; corrected = corrected_of page copies; uncorrected = uncorrected_of page copies }

-- a page at its place among pages that rise, where it isn't among them
unfoldable pub with_page : ℕ → List ℕ → List ℕ
with_page page [] = page ∷ []
with_page page (p ∷ ps) =
    if nat_lt page p then page ∷ p ∷ ps else (if p == page then p ∷ ps else p ∷ with_page page ps)

-- the pages of some copies, each once, by rising page
unfoldable pub pages_in : List Published → List ℕ
pages_in [] = []
pages_in (x ∷ xs) = with_page (page_of x) (pages_in xs)

-- a page is to be retired where it has so many corrected copies, or an uncorrected one
abbrev pub is_listed : ℕ → Page → Bool
is_listed threshold p = nat_le threshold p.corrected || nat_lt 0 p.uncorrected

-- the pages to retire, by rising page, each with its numbers
unfoldable pub pages_of : ℕ → List Published → List Page
pages_of threshold copies = filter (is_listed threshold) (map (numbers_of copies) (pages_in copies))
