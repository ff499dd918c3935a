-- The pages of some copies with their numbers: they rise, and say of each page what the copies say.
use Rattle.std.proofs.Common.{◌≡◌, ℕ, ◌+◌, ◌<◌, ◌≤◌, ◌==◌, ◌&&◌, ◌||◌, Bool, true, false, cond, List, [], ◌∷◌, map, nat_lt, refl, inl, inr, sym, ap, ◌∙◌, subst, arith}
use Rattle.std.specs.List.{count_by, list_any}
use Rattle.std.proofs.lemmas.Bool.{cases_Bool, eqb-true, or_from}
use Rattle.std.proofs.lemmas.Bool.Decides.{nat_tests}
use Rattle.std.proofs.lemmas.List.Sums.{sum_by-cons}
use Rattle.reri_fields.specs.Block.{is_corrected, is_uncorrected}
use Rattle.board_plan.specs.declared.notes.Published.{Published}
use Rattle.ras_policy.specs.declared.marks.Page.{Page}
use Rattle.ras_policy.specs.Retired.{page_of, is_on, corrected_of, uncorrected_of, numbers_of, with_page, pages_in}
use Rattle.ras_policy.proofs.Rising.{corrected_at, uncorrected_at, has, Above, Rises, differ, first_none, second_none}

-- ---- Numbers that rise ----

abbrev pub among : ℕ → List ℕ → Bool
among p [] = false
among p (q ∷ qs) = (q == p) || among p qs

abbrev pub AllAbove : ℕ → List ℕ → Type 0
AllAbove p [] = Unit {0}
AllAbove p (q ∷ qs) = (p < q) × AllAbove p qs

abbrev pub Climbs : List ℕ → Type 0
Climbs [] = Unit {0}
Climbs (q ∷ qs) = AllAbove q qs × Climbs qs

higher : (p q : ℕ) (qs : List ℕ) → p ≤ q → AllAbove q qs → AllAbove p qs
higher p q [] le h = tt
higher p q (r ∷ qs) le h =
    let less : q < r = h.0 in
    (omega arith, higher p q qs le h.1)

not_among : (p : ℕ) (qs : List ℕ) → AllAbove p qs → among p qs ≡ false
not_among p [] h = refl
not_among p (q ∷ qs) h = or_from (q == p) (among p qs) (differ q p h.0) (not_among p qs h.1)

-- ---- One page more ----

swapped : (a b c : Bool) → (a || (b || c)) ≡ (b || (a || c))
swapped true true c = refl
swapped true false c = refl
swapped false b c = refl

absorbed : (b c : Bool) → (b || c) ≡ (b || (b || c))
absorbed true c = refl
absorbed false c = refl

among_with : (p a : ℕ) (qs : List ℕ) → among p (with_page a qs) ≡ ((a == p) || among p qs)
unfolding with_page
among_with p a [] = refl
among_with p a (q ∷ qs) =
    let inner : Bool → List ℕ = λ b. cond b (q ∷ qs) (q ∷ with_page a qs) in
    let outer : Bool → List ℕ = λ b. cond b (a ∷ q ∷ qs) (inner (q == a)) in
    elim (cases_Bool (nat_lt a q)) [
      | inl less ↦ ap (λ b. among p (outer b)) less
      | inr isnt ↦
          ap (λ b. among p (outer b)) isnt
          ∙ elim (cases_Bool (q == a)) as (λ _. among p (inner (q == a)) ≡ ((a == p) || ((q == p) || among p qs))) [
            | inl is ↦
                ap (λ b. among p (inner b)) is ∙ absorbed (q == p) (among p qs)
                ∙ ap (λ r. (r == p) || ((q == p) || among p qs)) (eqb-true q a is)
            | inr other ↦
                ap (λ b. among p (inner b)) other ∙ ap (λ b. (q == p) || b) (among_with p a qs)
                ∙ swapped (q == p) (a == p) (among p qs)
          ]
    ]

above_with : (p a : ℕ) (qs : List ℕ) → p < a → AllAbove p qs → AllAbove p (with_page a qs)
unfolding with_page
above_with p a [] less h = (less, tt)
above_with p a (q ∷ qs) less h =
    elim (nat_lt a q) as (λ b. AllAbove p (cond b (a ∷ q ∷ qs) (cond (q == a) (q ∷ qs) (q ∷ with_page a qs)))) [
      | true ↦ (less, h)
      | false ↦ elim (q == a) as (λ b. AllAbove p (cond b (q ∷ qs) (q ∷ with_page a qs))) [
        | true ↦ h
        | false ↦ (h.0, above_with p a qs less h.1)
      ]
    ]

test_less : (a b : ℕ) → nat_lt a b ≡ true → a < b
test_less a b h = grind (arith, nat_tests)

test_above : (a b : ℕ) → nat_lt a b ≡ false → (b == a) ≡ false → b < a
test_above a b h k = grind (arith, nat_tests)

climbs_with : (a : ℕ) (qs : List ℕ) → Climbs qs → Climbs (with_page a qs)
unfolding with_page
climbs_with a [] h = (tt, tt)
climbs_with a (q ∷ qs) h =
    let inner : Bool → List ℕ = λ b. cond b (q ∷ qs) (q ∷ with_page a qs) in
    let outer : Bool → List ℕ = λ b. cond b (a ∷ q ∷ qs) (inner (q == a)) in
    elim (cases_Bool (nat_lt a q)) [
      | inl less ↦
          let low : a < q = test_less a q less in
          subst (λ (b : Bool). Climbs (outer b)) (sym less) ((low, higher a q qs (omega arith) h.0), h)
      | inr isnt ↦
          let within : Climbs (inner (q == a)) =
          elim (cases_Bool (q == a)) as (λ _. Climbs (inner (q == a))) [
            | inl is ↦ subst (λ (b : Bool). Climbs (inner b)) (sym is) h
            | inr other ↦
                subst (λ (b : Bool). Climbs (inner b)) (sym other)
                (above_with q a qs (test_above a q isnt other) h.0, climbs_with a qs h.1)
          ] in
          subst (λ (b : Bool). Climbs (outer b)) (sym isnt) within
    ]

-- ---- The pages of copies ----

pub pages_climb : (xs : List Published) → Climbs (pages_in xs)
unfolding pages_in
pages_climb [] = tt
pages_climb (x ∷ xs) = climbs_with (page_of x) (pages_in xs) (pages_climb xs)

pub pages_are : (p : ℕ) (xs : List Published) → among p (pages_in xs) ≡ list_any (is_on p) xs
unfolding pages_in
pages_are p [] = refl
pages_are p (x ∷ xs) =
    among_with p (page_of x) (pages_in xs) ∙ ap (λ b. (page_of x == p) || b) (pages_are p xs)

count_none : (p : ℕ) (t : Published → Bool) (xs : List Published) → list_any (is_on p) xs ≡ false
    → count_by (λ x. is_on p x && t x) xs ≡ 0
count_none p t [] h = refl
count_none p t (x ∷ xs) h =
    let none : is_on p x ≡ false = first_none (is_on p x) (list_any (is_on p) xs) h in
    sum_by-cons (λ y. cond (is_on p y && t y) 1 0) x xs
    ∙ ap (λ b. cond (b && t x) 1 0 + count_by (λ y. is_on p y && t y) xs) none
    ∙ ap (λ n. 0 + n) (count_none p t xs (second_none (is_on p x) (list_any (is_on p) xs) h))

-- ---- With their numbers ----

-- the list of these pages with their numbers
abbrev pub numbered : List Published → List ℕ → List Page
numbered xs ps = map (numbers_of xs) ps

numbered_has : (p : ℕ) (xs : List Published) (ps : List ℕ) → has p (numbered xs ps) ≡ among p ps
numbered_has p xs [] = refl
numbered_has p xs (q ∷ ps) = ap (λ b. (q == p) || b) (numbered_has p xs ps)

numbered_above : (q : ℕ) (xs : List Published) (ps : List ℕ) → AllAbove q ps → Above q (numbered xs ps)
numbered_above q xs [] h = tt
numbered_above q xs (p ∷ ps) h = (h.0, numbered_above q xs ps h.1)

numbered_rises : (xs : List Published) (ps : List ℕ) → Climbs ps → Rises (numbered xs ps)
numbered_rises xs [] h = tt
numbered_rises xs (p ∷ ps) h = (numbered_above p xs ps h.0, numbered_rises xs ps h.1)

-- a sum over pages that rise is that of the page itself, where it is there
sum_here : (b c : Bool) (n m : ℕ) → (b ≡ true → n ≡ m) → (b ≡ true → c ≡ false)
    → cond b n 0 + cond c m 0 ≡ cond (b || c) m 0
sum_here true true n m h k = absurd (cc (k refl))
sum_here true false n m h k =
    let e = h refl in
    omega arith
sum_here false c n m h k = omega arith

numbered_corrected : (p : ℕ) (xs : List Published) (ps : List ℕ) → Climbs ps
    → corrected_at p (numbered xs ps) ≡ cond (among p ps) (corrected_of p xs) 0
numbered_corrected p xs [] h = refl
numbered_corrected p xs (q ∷ ps) h =
    ap (λ n. cond (q == p) (corrected_of q xs) 0 + n) (numbered_corrected p xs ps h.1)
    ∙ sum_here (q == p) (among p ps) (corrected_of q xs) (corrected_of p xs)
    (λ t. ap (λ r. corrected_of r xs) (eqb-true q p t))
    (λ t. not_among p ps (subst (λ (r : ℕ). AllAbove r ps) (eqb-true q p t) h.0))

numbered_uncorrected : (p : ℕ) (xs : List Published) (ps : List ℕ) → Climbs ps
    → uncorrected_at p (numbered xs ps) ≡ cond (among p ps) (uncorrected_of p xs) 0
numbered_uncorrected p xs [] h = refl
numbered_uncorrected p xs (q ∷ ps) h =
    ap (λ n. cond (q == p) (uncorrected_of q xs) 0 + n) (numbered_uncorrected p xs ps h.1)
    ∙ sum_here (q == p) (among p ps) (uncorrected_of q xs) (uncorrected_of p xs)
    (λ t. ap (λ r. uncorrected_of r xs) (eqb-true q p t))
    (λ t. not_among p ps (subst (λ (r : ℕ). AllAbove r ps) (eqb-true q p t) h.0))

-- ---- All copies ----

or_zero : (b : Bool) (n : ℕ) → (b ≡ false → n ≡ 0) → cond b n 0 ≡ n
or_zero true n h = refl
or_zero false n h = sym (h refl)

pub copies_corrected : (p : ℕ) (xs : List Published) → corrected_at p (numbered xs (pages_in xs)) ≡ corrected_of p xs
unfolding corrected_of
copies_corrected p xs =
    numbered_corrected p xs (pages_in xs) (pages_climb xs)
    ∙ or_zero (among p (pages_in xs)) (corrected_of p xs)
    (λ none. count_none p (λ x. is_corrected x.copy) xs (sym (pages_are p xs) ∙ none))

pub copies_uncorrected : (p : ℕ) (xs : List Published)
    → uncorrected_at p (numbered xs (pages_in xs)) ≡ uncorrected_of p xs
unfolding uncorrected_of
copies_uncorrected p xs =
    numbered_uncorrected p xs (pages_in xs) (pages_climb xs)
    ∙ or_zero (among p (pages_in xs)) (uncorrected_of p xs)
    (λ none. count_none p (λ x. is_uncorrected x.copy) xs (sym (pages_are p xs) ∙ none))

pub copies_have : (p : ℕ) (xs : List Published) → has p (numbered xs (pages_in xs)) ≡ list_any (is_on p) xs
copies_have p xs = numbered_has p xs (pages_in xs) ∙ pages_are p xs

pub copies_rise : (xs : List Published) → Rises (numbered xs (pages_in xs))
copies_rise xs = numbered_rises xs (pages_in xs) (pages_climb xs)
