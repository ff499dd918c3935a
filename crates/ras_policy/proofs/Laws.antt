-- What the definition of the list says, page by page: it rises, it has a page exactly where some copy struck it and the
-- page's numbers make it one to retire, and it then has those numbers.
use Rattle.std.proofs.Common.{◌≡◌, ℕ, ◌==◌, ◌&&◌, ◌||◌, Bool, true, false, cond, List, [], ◌∷◌, refl, sym, ap, ◌∙◌}
use Rattle.std.specs.List.{list_any, filter}
use Rattle.std.specs.List.Sorted.{IsPermutation}
use Rattle.std.proofs.lemmas.Bool.{eqb-true}
use Rattle.std.proofs.lemmas.List.Sorted.{sum_by-IsPermutation, list_any-IsPermutation, length_permutation}
use Rattle.reri_fields.specs.Block.{is_corrected, is_uncorrected}
use Rattle.board_plan.specs.declared.notes.Published.{Published}
use Rattle.ras_policy.specs.declared.marks.Page.{Page}
use Rattle.ras_policy.specs.Books.{Books, StandsFor}
use Rattle.ras_policy.specs.Retired.{corrected_of, uncorrected_of, is_on, numbers_of, is_listed, pages_in, pages_of}
use Rattle.ras_policy.proofs.Rising.{has, Above, Rises}
use Rattle.ras_policy.proofs.Listed.{among, numbered, pages_are, copies_rise}

kept_above : (p : ℕ) (t : Page → Bool) (xs : List Page) → Above p xs → Above p (filter t xs)
kept_above p t [] h = tt
kept_above p t (x ∷ xs) h =
    elim (t x) as (λ b. Above p (cond b (x ∷ filter t xs) (filter t xs))) [
      | true ↦ (h.0, kept_above p t xs h.1)
      | false ↦ kept_above p t xs h.1
    ]

kept_rises : (t : Page → Bool) (xs : List Page) → Rises xs → Rises (filter t xs)
kept_rises t [] h = tt
kept_rises t (x ∷ xs) h =
    elim (t x) as (λ b. Rises (cond b (x ∷ filter t xs) (filter t xs))) [
      | true ↦ (kept_above x.page t xs h.0, kept_rises t xs h.1)
      | false ↦ kept_rises t xs h.1
    ]

-- by rising page, and so each page once
pub list_rises : (threshold : ℕ) (copies : List Published) → Rises (pages_of threshold copies)
unfolding pages_of
list_rises threshold copies =
    kept_rises (is_listed threshold) (numbered copies (pages_in copies)) (copies_rise copies)

either : (a b t u : Bool) → (a ≡ true → t ≡ u)
    → cond t (a || (b && u)) (b && u) ≡ ((a || b) && u)
either true b true u h =
    let e = h refl in
    cc
either true true false u h = refl
either true false false u h = h refl
either false b true u h = refl
either false b false u h = refl

kept_has : (p threshold : ℕ) (copies : List Published) (ps : List ℕ)
    → has p (filter (is_listed threshold) (numbered copies ps))
    ≡ (among p ps && is_listed threshold (numbers_of copies p))
kept_has p threshold copies [] = refl
kept_has p threshold copies (q ∷ ps) =
    let u = is_listed threshold (numbers_of copies p) in
    let rest = filter (is_listed threshold) (numbered copies ps) in
    pulled (is_listed threshold (numbers_of copies q)) (numbers_of copies q) rest
    ∙ ap (λ b. cond (is_listed threshold (numbers_of copies q)) ((q == p) || b) b) (kept_has p threshold copies ps)
    ∙ either (q == p) (among p ps) (is_listed threshold (numbers_of copies q)) u
    (λ t. ap (λ r. is_listed threshold (numbers_of copies r)) (eqb-true q p t))
  where
    pulled : (b : Bool) (x : Page) (xs : List Page)
        → has p (cond b (x ∷ xs) xs) ≡ cond b ((x.page == p) || has p xs) (has p xs)
    pulled true x xs = refl
    pulled false x xs = refl

-- it has a page exactly where it is to be retired
pub list_has : (page threshold : ℕ) (copies : List Published)
    → has page (pages_of threshold copies)
    ≡ (list_any (is_on page) copies && is_listed threshold (numbers_of copies page))
unfolding pages_of
list_has page threshold copies =
    kept_has page threshold copies (pages_in copies)
    ∙ ap (λ b. b && is_listed threshold (numbers_of copies page)) (pages_are page copies)

-- each page of it has the numbers of the copies
abbrev pub AreNumbered : List Published → List Page → Type 0
AreNumbered copies [] = Unit {0}
AreNumbered copies (x ∷ xs) = (x ≡ numbers_of copies x.page) × AreNumbered copies xs

kept_numbered : (t : Page → Bool) (copies : List Published) (ps : List ℕ)
    → AreNumbered copies (filter t (numbered copies ps))
kept_numbered t copies [] = tt
kept_numbered t copies (p ∷ ps) =
    elim (t (numbers_of copies p)) as (λ b. AreNumbered copies
    (cond b (numbers_of copies p ∷ filter t (numbered copies ps)) (filter t (numbered copies ps)))) [
      | true ↦ (refl, kept_numbered t copies ps)
      | false ↦ kept_numbered t copies ps
    ]

pub list_numbered : (threshold : ℕ) (copies : List Published) → AreNumbered copies (pages_of threshold copies)
unfolding pages_of
list_numbered threshold copies = kept_numbered (is_listed threshold) copies (pages_in copies)

-- a ledger that stands for some copies stands for them in any other order too
pub any_order : (xs ys : List Published) (books : Books) → IsPermutation xs ys → StandsFor xs books → StandsFor ys books
unfolding corrected_of uncorrected_of
any_order xs ys books moved h =
    record {
      corrected = λ p. h.corrected p
          ∙ sym (sum_by-IsPermutation (λ x. cond (is_on p x && is_corrected x.copy) 1 0) xs ys moved);
      uncorrected = λ p. h.uncorrected p
          ∙ sym (sum_by-IsPermutation (λ x. cond (is_on p x && is_uncorrected x.copy) 1 0) xs ys moved);
      pages = λ p. h.pages p ∙ list_any-IsPermutation (is_on p) xs ys moved;
      number = h.number ∙ sym (length_permutation xs ys moved);
    }
