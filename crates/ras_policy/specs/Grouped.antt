-- How marks that rise by page are grouped into pages (describes code).
use Rattle.std.specs.Prelude.{ℕ, ◌+◌, ◌==◌, Bool, if◌then◌else◌, List, [], ◌∷◌}
use Rattle.ras_policy.specs.declared.marks.Mark.{Mark}
use Rattle.ras_policy.specs.declared.marks.Page.{Page}
use Rattle.ras_policy.specs.Books.{marks_corrected, marks_uncorrected}

abbrev pub one_if : Bool → ℕ
one_if b = if b then 1 else 0

-- a page with one mark more
abbrev pub with_mark : Mark → Page → Page
with_mark m p =
    record p {
      corrected = p.corrected + one_if (marks_corrected m);
      uncorrected = p.uncorrected + one_if (marks_uncorrected m);
    }

-- the page of a first mark
abbrev pub first_of : Mark → Page
first_of m = with_mark m (record { page = m.page; corrected = 0; uncorrected = 0 })

-- the pages of marks that come after those of a page which is still being counted
unfoldable pub grouped : Page → List Mark → List Page
grouped p [] = p ∷ []
grouped p (m ∷ ms) = if m.page == p.page then grouped (with_mark m p) ms else p ∷ grouped (first_of m) ms

abbrev pub all_grouped : List Mark → List Page
all_grouped [] = []
all_grouped (m ∷ ms) = grouped (first_of m) ms
