-- What a ledger stands for: it begins empty, each copy adds a mark, and its sorted marks are grouped into the pages of
-- the copies.
use Rattle.std.proofs.Common.{◌≡◌, ℕ, ◌+◌, ◌==◌, ◌&&◌, ◌||◌, Bool, true, false, cond, List, [], ◌∷◌, ◌++◌, length, refl, sym, ap, ◌∙◌}
use Rattle.std.specs.List.{count_by, list_any, filter}
use Rattle.std.specs.List.Sorted.{IsPermutation, IsNonDecreasingBy}
use Rattle.std.proofs.lemmas.List.{length_push}
use Rattle.std.proofs.lemmas.List.Sums.{sum_by_push}
use Rattle.std.proofs.lemmas.List.Sorted.{sum_by-IsPermutation, list_any-IsPermutation}
use Rattle.reri_fields.specs.Block.{is_corrected, is_uncorrected, has_worst}
use Rattle.board_plan.specs.declared.notes.Published.{Published}
use Rattle.ras_policy.specs.declared.marks.Mark.{Mark}
use Rattle.ras_policy.specs.declared.marks.Page.{Page}
use Rattle.ras_policy.specs.Retired.{page_of, is_on, corrected_of, uncorrected_of, numbers_of, is_listed, pages_in, pages_of}
use Rattle.ras_policy.specs.Grouped.{all_grouped}
use Rattle.ras_policy.specs.Books.{mark_of, marks_corrected, marks_uncorrected, Books, StandsFor}
use Rattle.ras_policy.proofs.Rising.{Agrees, same_list}
use Rattle.ras_policy.proofs.Groups.{corrected_on, uncorrected_on, on, all_corrected, all_uncorrected, all_has, all_rises}
use Rattle.ras_policy.proofs.Listed.{numbered, copies_corrected, copies_uncorrected, copies_have, copies_rise}

-- ---- Adding ----

pub none_stands : (books : Books) → books.marks ≡ [] → StandsFor [] books
unfolding corrected_of uncorrected_of
none_stands books e =
    record {
      corrected = λ p. ap (λ ms. count_by (corrected_on p) ms) e;
      uncorrected = λ p. ap (λ ms. count_by (uncorrected_on p) ms) e;
      pages = λ p. ap (λ ms. list_any (on p) ms) e;
      number = ap (λ (ms : List Mark). length ms) e;
    }

marked_corrected : (x : Published) → marks_corrected (mark_of x) ≡ is_corrected x.copy
unfolding is_corrected has_worst
marked_corrected x = refl

marked_uncorrected : (x : Published) → marks_uncorrected (mark_of x) ≡ is_uncorrected x.copy
unfolding is_uncorrected has_worst
marked_uncorrected x = refl

any_push : {X : Type 0} (t : X → Bool) (xs : List X) (y : X) → list_any t (xs ++ y ∷ []) ≡ (list_any t xs || t y)
any_push t [] y =
    or_none (t y)
  where
    or_none : (b : Bool) → (b || false) ≡ b
    or_none true = refl
    or_none false = refl
any_push t (x ∷ xs) y =
    ap (λ b. t x || b) (any_push t xs y) ∙ grouped_or (t x) (list_any t xs) (t y)
  where
    grouped_or : (a b c : Bool) → (a || (b || c)) ≡ ((a || b) || c)
    grouped_or true b c = refl
    grouped_or false b c = refl

count_push : {X : Type 0} (t : X → Bool) (xs : List X) (y : X)
    → count_by t (xs ++ y ∷ []) ≡ count_by t xs + cond (t y) 1 0
count_push t xs y = sum_by_push (λ x. cond (t x) 1 0) xs y

pub more_stands : (x : Published) (xs : List Published) (old new : Books) → new.marks ≡ old.marks ++ mark_of x ∷ []
    → StandsFor xs old → StandsFor (xs ++ x ∷ []) new
unfolding corrected_of uncorrected_of
more_stands x xs old new e h =
    let m = mark_of x in
    record {
      corrected = λ p. ap (λ ms. count_by (corrected_on p) ms) e ∙ count_push (corrected_on p) old.marks m
          ∙ ap (λ n. n + cond (corrected_on p m) 1 0) (h.corrected p)
          ∙ ap (λ b. count_by (λ y. is_on p y && is_corrected y.copy) xs + cond ((page_of x == p) && b) 1 0)
          (marked_corrected x)
          ∙ sym (count_push (λ y. is_on p y && is_corrected y.copy) xs x);
      uncorrected = λ p. ap (λ ms. count_by (uncorrected_on p) ms) e ∙ count_push (uncorrected_on p) old.marks m
          ∙ ap (λ n. n + cond (uncorrected_on p m) 1 0) (h.uncorrected p)
          ∙ ap (λ b. count_by (λ y. is_on p y && is_uncorrected y.copy) xs + cond ((page_of x == p) && b) 1 0)
          (marked_uncorrected x)
          ∙ sym (count_push (λ y. is_on p y && is_uncorrected y.copy) xs x);
      pages = λ p. ap (λ ms. list_any (on p) ms) e ∙ any_push (on p) old.marks m
          ∙ ap (λ b. b || (page_of x == p)) (h.pages p) ∙ sym (any_push (is_on p) xs x);
      number = ap (λ (ms : List Mark). length ms) e ∙ length_push old.marks m ∙ ap (λ n. n + 1) h.number
          ∙ sym (length_push xs x);
    }

-- ---- Asking ----

pub numbers_are : (page : ℕ) (xs : List Published) (books : Books) (r : Page) → StandsFor xs books → r.page ≡ page
    → r.corrected ≡ count_by (λ (m : Mark). (m.page == page) && marks_corrected m) books.marks
    → r.uncorrected ≡ count_by (λ (m : Mark). (m.page == page) && marks_uncorrected m) books.marks
    → r ≡ numbers_of xs page
numbers_are page xs books r h p c u =
    let at_page : ℕ → Page = λ n. record { page = n; corrected = r.corrected; uncorrected = r.uncorrected } in
    let at_corrected : ℕ → Page = λ n. record { page = page; corrected = n; uncorrected = r.uncorrected } in
    let at_both : ℕ → Page = λ n. record { page = page; corrected = corrected_of page xs; uncorrected = n } in
    ap at_page p ∙ ap at_corrected (c ∙ h.corrected page) ∙ ap at_both (u ∙ h.uncorrected page)

groups_are : (xs : List Published) (books : Books) (sorted : List Mark) → StandsFor xs books
    → IsPermutation books.marks sorted → IsNonDecreasingBy (λ (m : Mark). m.page) sorted
    → all_grouped sorted ≡ numbered xs (pages_in xs)
groups_are xs books sorted h moved rises =
    let agrees : Agrees (all_grouped sorted) (numbered xs (pages_in xs)) =
    record {
      corrected = λ p. all_corrected p sorted
          ∙ sum_by-IsPermutation (λ m. cond (corrected_on p m) 1 0) books.marks sorted moved ∙ h.corrected p
          ∙ sym (copies_corrected p xs);
      uncorrected = λ p. all_uncorrected p sorted
          ∙ sum_by-IsPermutation (λ m. cond (uncorrected_on p m) 1 0) books.marks sorted moved ∙ h.uncorrected p
          ∙ sym (copies_uncorrected p xs);
      pages = λ p. all_has p sorted ∙ sym (list_any-IsPermutation (on p) books.marks sorted moved) ∙ h.pages p
          ∙ sym (copies_have p xs);
    } in
    same_list (all_grouped sorted) (numbered xs (pages_in xs)) (all_rises sorted rises) (copies_rise xs) agrees

pub list_is : (threshold : ℕ) (xs : List Published) (books : Books) (sorted : List Mark) → StandsFor xs books
    → IsPermutation books.marks sorted → IsNonDecreasingBy (λ (m : Mark). m.page) sorted
    → filter (is_listed threshold) (all_grouped sorted) ≡ pages_of threshold xs
unfolding pages_of
list_is threshold xs books sorted h moved rises =
    ap (λ ps. filter (is_listed threshold) ps) (groups_are xs books sorted h moved rises)
