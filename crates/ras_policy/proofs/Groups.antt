-- The pages into which marks are grouped: they rise, and say of each page what the marks say.
use Rattle.std.proofs.Common.{◌≡◌, ℕ, suc, ◌+◌, ◌<◌, ◌≤◌, ◌==◌, ◌&&◌, ◌||◌, Bool, true, false, cond, List, [], ◌∷◌, refl, inl, inr, sym, ap, ◌∙◌, subst, arith}
use Rattle.std.specs.List.{count_by, list_any}
use Rattle.std.specs.List.Sorted.{IsNonDecreasingBy}
use Rattle.std.proofs.lemmas.Bool.{cases_Bool, eqb-true, eqb-false}
use Rattle.std.proofs.lemmas.List.Sums.{sum_by-cons}
use Rattle.ras_policy.specs.declared.marks.Mark.{Mark}
use Rattle.ras_policy.specs.declared.marks.Page.{Page}
use Rattle.ras_policy.specs.Grouped.{one_if, with_mark, first_of, grouped, all_grouped}
use Rattle.ras_policy.specs.Books.{marks_corrected, marks_uncorrected}
use Rattle.ras_policy.proofs.Rising.{corrected_at, uncorrected_at, has, Above, Rises}

-- what marks say of a page
abbrev pub corrected_on : ℕ → Mark → Bool
corrected_on p m = (m.page == p) && marks_corrected m

abbrev pub uncorrected_on : ℕ → Mark → Bool
uncorrected_on p m = (m.page == p) && marks_uncorrected m

abbrev pub on : ℕ → Mark → Bool
on p m = m.page == p

-- marks that don't fall, the first of them at p or above
abbrev pub RiseFrom : ℕ → List Mark → Type 0
RiseFrom p [] = Unit {0}
RiseFrom p (m ∷ ms) = (p ≤ m.page) × RiseFrom m.page ms

pub count_cons : (t : Mark → Bool) (m : Mark) (ms : List Mark) → count_by t (m ∷ ms) ≡ cond (t m) 1 0 + count_by t ms
count_cons t m ms = sum_by-cons (λ x. cond (t x) 1 0) m ms

-- ---- Numbers ----

counted_here : (b w : Bool) (n k : ℕ) → cond b (n + one_if w) 0 + k ≡ cond b n 0 + (cond (b && w) 1 0 + k)
counted_here true true n k = omega arith
counted_here true false n k = omega arith
counted_here false w n k = omega arith

counted_first : (b w : Bool) (k : ℕ) → cond b (0 + one_if w) 0 + k ≡ cond (b && w) 1 0 + k
counted_first true true k = refl
counted_first true false k = refl
counted_first false w k = refl

grouped_corrected : (p : ℕ) (c : Page) (ms : List Mark)
    → corrected_at p (grouped c ms) ≡ cond (c.page == p) c.corrected 0 + count_by (corrected_on p) ms
unfolding grouped
grouped_corrected p c [] = refl
grouped_corrected p c (m ∷ ms) =
    let w = marks_corrected m in
    let k = count_by (corrected_on p) ms in
    let all : count_by (corrected_on p) (m ∷ ms) ≡ cond ((m.page == p) && w) 1 0 + k =
    count_cons (corrected_on p) m ms in
    let both : Bool → List Page = λ b. cond b (grouped (with_mark m c) ms) (c ∷ grouped (first_of m) ms) in
    elim (cases_Bool (m.page == c.page)) [
      | inl is ↦
          let one : c.page ≡ m.page = sym (eqb-true m.page c.page is) in
          ap (λ b. corrected_at p (both b)) is ∙ grouped_corrected p (with_mark m c) ms
          ∙ counted_here (c.page == p) w c.corrected k
          ∙ ap (λ q. cond (c.page == p) c.corrected 0 + (cond ((q == p) && w) 1 0 + k)) one
          ∙ ap (λ n. cond (c.page == p) c.corrected 0 + n) (sym all)
      | inr isnt ↦
          ap (λ b. corrected_at p (both b)) isnt
          ∙ ap (λ n. cond (c.page == p) c.corrected 0 + n)
          (grouped_corrected p (first_of m) ms ∙ counted_first (m.page == p) w k ∙ sym all)
    ]

grouped_uncorrected : (p : ℕ) (c : Page) (ms : List Mark)
    → uncorrected_at p (grouped c ms) ≡ cond (c.page == p) c.uncorrected 0 + count_by (uncorrected_on p) ms
unfolding grouped
grouped_uncorrected p c [] = refl
grouped_uncorrected p c (m ∷ ms) =
    let w = marks_uncorrected m in
    let k = count_by (uncorrected_on p) ms in
    let all : count_by (uncorrected_on p) (m ∷ ms) ≡ cond ((m.page == p) && w) 1 0 + k =
    count_cons (uncorrected_on p) m ms in
    let both : Bool → List Page = λ b. cond b (grouped (with_mark m c) ms) (c ∷ grouped (first_of m) ms) in
    elim (cases_Bool (m.page == c.page)) [
      | inl is ↦
          let one : c.page ≡ m.page = sym (eqb-true m.page c.page is) in
          ap (λ b. uncorrected_at p (both b)) is ∙ grouped_uncorrected p (with_mark m c) ms
          ∙ counted_here (c.page == p) w c.uncorrected k
          ∙ ap (λ q. cond (c.page == p) c.uncorrected 0 + (cond ((q == p) && w) 1 0 + k)) one
          ∙ ap (λ n. cond (c.page == p) c.uncorrected 0 + n) (sym all)
      | inr isnt ↦
          ap (λ b. uncorrected_at p (both b)) isnt
          ∙ ap (λ n. cond (c.page == p) c.uncorrected 0 + n)
          (grouped_uncorrected p (first_of m) ms ∙ counted_first (m.page == p) w k ∙ sym all)
    ]

-- ---- Pages ----

absorbed : (b c : Bool) → (b || c) ≡ (b || (b || c))
absorbed true c = refl
absorbed false c = refl

grouped_has : (p : ℕ) (c : Page) (ms : List Mark) → has p (grouped c ms) ≡ ((c.page == p) || list_any (on p) ms)
unfolding grouped
grouped_has p c [] = refl
grouped_has p c (m ∷ ms) =
    let both : Bool → List Page = λ b. cond b (grouped (with_mark m c) ms) (c ∷ grouped (first_of m) ms) in
    elim (cases_Bool (m.page == c.page)) [
      | inl is ↦
          let one : c.page ≡ m.page = sym (eqb-true m.page c.page is) in
          ap (λ b. has p (both b)) is ∙ grouped_has p (with_mark m c) ms
          ∙ absorbed (c.page == p) (list_any (on p) ms)
          ∙ ap (λ q. (c.page == p) || ((q == p) || list_any (on p) ms)) one
      | inr isnt ↦
          ap (λ b. has p (both b)) isnt ∙ ap (λ b. (c.page == p) || b) (grouped_has p (first_of m) ms)
    ]

-- ---- Order ----

grouped_above : (q : ℕ) (c : Page) (ms : List Mark) → q < c.page → RiseFrom c.page ms → Above q (grouped c ms)
unfolding grouped
grouped_above q c [] less h = (less, tt)
grouped_above q c (m ∷ ms) less h =
    let le : c.page ≤ m.page = h.0 in
    let both : Bool → List Page = λ b. cond b (grouped (with_mark m c) ms) (c ∷ grouped (first_of m) ms) in
    elim (cases_Bool (m.page == c.page)) [
      | inl is ↦
          let rest : RiseFrom c.page ms = subst (λ (n : ℕ). RiseFrom n ms) (eqb-true m.page c.page is) h.1 in
          subst (λ (b : Bool). Above q (both b)) (sym is) (grouped_above q (with_mark m c) ms less rest)
      | inr isnt ↦
          subst (λ (b : Bool). Above q (both b)) (sym isnt)
          (less, grouped_above q (first_of m) ms (omega arith) h.1)
    ]

grouped_rises : (c : Page) (ms : List Mark) → RiseFrom c.page ms → Rises (grouped c ms)
unfolding grouped
grouped_rises c [] h = (tt, tt)
grouped_rises c (m ∷ ms) h =
    let le : c.page ≤ m.page = h.0 in
    let both : Bool → List Page = λ b. cond b (grouped (with_mark m c) ms) (c ∷ grouped (first_of m) ms) in
    elim (cases_Bool (m.page == c.page)) [
      | inl is ↦
          let rest : RiseFrom c.page ms = subst (λ (n : ℕ). RiseFrom n ms) (eqb-true m.page c.page is) h.1 in
          subst (λ (b : Bool). Rises (both b)) (sym is) (grouped_rises (with_mark m c) ms rest)
      | inr isnt ↦
          let past : c.page < m.page = above le (eqb-false m.page c.page isnt) in
          subst (λ (b : Bool). Rises (both b)) (sym isnt)
          (grouped_above c.page (first_of m) ms past h.1, grouped_rises (first_of m) ms h.1)
    ]
  where
    above : {a b : ℕ} → a ≤ b → (b ≡ a → ⊥) → a < b
    above {a} {b} le ne = omega arith

rise_from : (m : Mark) (ms : List Mark) → IsNonDecreasingBy (λ (x : Mark). x.page) (m ∷ ms) → RiseFrom m.page ms
rise_from m [] h = tt
rise_from m (n ∷ ms) h = (
  h 0 1 m (omega arith) (omega arith),
  rise_from n ms (λ i j d le less. h (suc i) (suc j) d (omega arith) (omega arith)),
)

-- ---- All marks ----

pub all_corrected : (p : ℕ) (ms : List Mark) → corrected_at p (all_grouped ms) ≡ count_by (corrected_on p) ms
all_corrected p [] = refl
all_corrected p (m ∷ ms) =
    grouped_corrected p (first_of m) ms
    ∙ counted_first (m.page == p) (marks_corrected m) (count_by (corrected_on p) ms)
    ∙ sym (count_cons (corrected_on p) m ms)

pub all_uncorrected : (p : ℕ) (ms : List Mark) → uncorrected_at p (all_grouped ms) ≡ count_by (uncorrected_on p) ms
all_uncorrected p [] = refl
all_uncorrected p (m ∷ ms) =
    grouped_uncorrected p (first_of m) ms
    ∙ counted_first (m.page == p) (marks_uncorrected m) (count_by (uncorrected_on p) ms)
    ∙ sym (count_cons (uncorrected_on p) m ms)

pub all_has : (p : ℕ) (ms : List Mark) → has p (all_grouped ms) ≡ list_any (on p) ms
all_has p [] = refl
all_has p (m ∷ ms) = grouped_has p (first_of m) ms

pub all_rises : (ms : List Mark) → IsNonDecreasingBy (λ (x : Mark). x.page) ms → Rises (all_grouped ms)
all_rises [] h = tt
all_rises (m ∷ ms) h = grouped_rises (first_of m) ms (rise_from m ms h)
