-- Lists of errors: what is greatest, shown and counted in them, also once an error is added at the end.
use Rattle.std.proofs.Common.{◌≡◌, ℕ, ◌+◌, ◌<◌, ◌≤◌, max, Bool, true, false, cond, eqb, ◌==◌, nat_lt, ◌||◌, List, [], ◌∷◌, ◌++◌, Some, None, refl, sym, ap, ◌∙◌, subst, inl, inr, arith}
use Rattle.std.specs.List.{find, count_by}
use Rattle.std.specs.Option.{option_or}
use Rattle.std.proofs.Math.Nat.{le-max_left, le-max_right, max-le}
use Rattle.std.proofs.lemmas.Bool.{cases_lt, cases_Bool, eq-eqb, cond-true, cond-false, lt-ltb, or_from, or_left, or_right}
use Rattle.std.proofs.lemmas.Bool.Decides.{nat_tests}
use Rattle.std.proofs.lemmas.List.Folds.{find-append}
use Rattle.std.proofs.lemmas.Option.{none-some, same_Some}
use Rattle.std.proofs.lemmas.List.Sums.{sum_by-cons, sum_by_push}
use Rattle.reri_fields.specs.declared.severity.Severity.{Severity}
use Rattle.reri_fields.specs.declared.severity.Severity.TheVariants.{Ce, Ued, Uec}
use Rattle.reri_fields.specs.Fields.{severity_number}
use Rattle.reri_fields.specs.Records.{Error, severity_of, rank_of, greatest_of, is_any, shown, is_multiple, has_severity}

count_yes : (b : Bool) → b ≡ true → ◌≡◌ {A = ℕ} (cond b 1 0) 1
count_yes b h = rw h refl

count_no : (b : Bool) → b ≡ false → ◌≡◌ {A = ℕ} (cond b 1 0) 0
count_no b h = rw h refl

pub greatest_of-push : (f : Error → ℕ) (xs : List Error) (e : Error) → greatest_of f (xs ++ e ∷ [])
    ≡ max (greatest_of f xs) (f e)
unfolding greatest_of
greatest_of-push f [] e = grind arith
greatest_of-push f (x ∷ xs) e = rw (greatest_of-push f xs e) (grind arith)

-- nothing in the list has a number above the greatest
pub find_above : (f : Error → ℕ) (n : ℕ) (xs : List Error) → greatest_of f xs < n → find (λ x. f x == n) xs ≡ None
unfolding greatest_of
find_above f n [] h = refl
find_above f n (x ∷ xs) h =
    let less : f x < n = omega (arith, le-max_left (f x) (greatest_of f xs)) in
    let rest : greatest_of f xs < n = omega (arith, le-max_right (f x) (greatest_of f xs)) in
    let differ : eqb (f x) n ≡ false = grind (arith, nat_tests) in
    rw (cond-false _ (Some x) (find (λ x. f x == n) xs) differ) (find_above f n xs rest)

pub count_above : (f : Error → ℕ) (n : ℕ) (xs : List Error) → greatest_of f xs < n → count_by (λ x. f x == n) xs ≡ 0
unfolding greatest_of
count_above f n [] h = refl
count_above f n (x ∷ xs) h =
    let less : f x < n = omega (arith, le-max_left (f x) (greatest_of f xs)) in
    let rest : greatest_of f xs < n = omega (arith, le-max_right (f x) (greatest_of f xs)) in
    let differ : eqb (f x) n ≡ false = grind (arith, nat_tests) in
    sum_by-cons (λ x. cond (f x == n) 1 0) x xs ∙ omega (arith, count_above f n xs rest, count_no _ differ)

-- what `find` gives passes, and counts
pub find_passes : (p : Error → Bool) (xs : List Error) (x : Error) → find p xs ≡ Some x → p x ≡ true
find_passes p [] x h = cc
find_passes p (y ∷ ys) x h =
    elim (cases_Bool (p y)) as (λ _. p x ≡ true) [
      | inl yes_here ↦
          let same : Some y ≡ Some x = sym (cond-true _ (Some y) (find p ys) yes_here) ∙ h in
          let is : y ≡ x = cc in
          rw is at yes_here
      | inr not_here ↦ find_passes p ys x (sym (cond-false _ (Some y) (find p ys) not_here) ∙ h)
    ]

find_counts : (p : Error → Bool) (xs : List Error) (x : Error) → find p xs ≡ Some x → 0 < count_by p xs
find_counts p [] x h = absurd (none-some x h)
find_counts p (y ∷ ys) x h =
    elim (cases_Bool (p y)) as (λ _. 0 < count_by p (y ∷ ys)) [
      | inl yes_here ↦ rw (sum_by-cons (λ z. cond (p z) 1 0) y ys) (rw yes_here (omega arith))
      | inr not_here ↦
          rw (sum_by-cons (λ z. cond (p z) 1 0) y ys)
          (omega (arith, find_counts p ys x (sym (cond-false _ (Some y) (find p ys) not_here) ∙ h)))
    ]

-- where the list has an error, some error has the greatest number, and `find` gives it
pub find_attained : (f : Error → ℕ) (xs : List Error) → is_any xs ≡ true
    → (x : Error) × (find (λ y. f y == greatest_of f xs) xs ≡ Some x) × (f x ≡ greatest_of f xs)
unfolding greatest_of is_any
find_attained f [] h = cc
find_attained f (x ∷ []) h =
    let same : max (f x) 0 ≡ f x = grind arith in
    let here : eqb (f x) (max (f x) 0) ≡ true = eq-eqb _ _ (sym same) in
    (x, cond-true _ (Some x) None here, sym same)
find_attained f (x ∷ y ∷ ys) h =
    let n = greatest_of f (y ∷ ys) in
    elim (cases_lt (f x) n) as (λ _. (z : Error) × (find (λ w. f w == max (f x) n) (x ∷ y ∷ ys) ≡ Some z)
    × (f z ≡ max (f x) n)) [
      | inl less ↦
          let top : max (f x) n ≡ n = grind arith in
          let differ : eqb (f x) n ≡ false = grind (arith, nat_tests) in
          let rest = find_attained f (y ∷ ys) refl in
          subst (λ m. (z : Error) × (find (λ w. f w == m) (x ∷ y ∷ ys) ≡ Some z) × (f z ≡ m)) (sym top)
          (rest.0, cond-false _ (Some x) (find (λ w. f w == n) (y ∷ ys)) differ ∙ rest.1, rest.2)
      | inr more ↦
          let top : max (f x) n ≡ f x = grind arith in
          subst (λ m. (z : Error) × (find (λ w. f w == m) (x ∷ y ∷ ys) ≡ Some z) × (f z ≡ m)) (sym top)
          (x, cond-true _ (Some x) (find (λ w. f w == f x) (y ∷ ys)) (eq-eqb (f x) (f x) refl), refl)
    ]

pub count_attained : (f : Error → ℕ) (xs : List Error) → is_any xs ≡ true
    → 0 < count_by (λ y. f y == greatest_of f xs) xs
count_attained f xs h =
    let at = find_attained f xs h in
    find_counts (λ y. f y == greatest_of f xs) xs at.0 at.1

-- ---- The shown error ----

pub shown_alone : (e : Error) → shown (e ∷ []) ≡ Some e
unfolding shown greatest_of
shown_alone e =
    let same : max (rank_of e) 0 ≡ rank_of e = grind arith in
    cond-true _ (Some e) None (eq-eqb _ _ (sym same))

pub shown_greater : (xs : List Error) (e : Error) → greatest_of rank_of xs < rank_of e → shown (xs ++ e ∷ []) ≡ Some e
unfolding shown
shown_greater xs e h =
    let top : greatest_of rank_of (xs ++ e ∷ []) ≡ rank_of e = greatest_of-push rank_of xs e ∙ grind arith in
    ap (λ n. find (λ x. rank_of x == n) (xs ++ e ∷ [])) top
    ∙ find-append (λ x. rank_of x == rank_of e) xs (e ∷ [])
    ∙ ap (λ o. option_or o (find (λ x. rank_of x == rank_of e) (e ∷ []))) (find_above rank_of (rank_of e) xs h)
    ∙ cond-true _ (Some e) None (eq-eqb (rank_of e) (rank_of e) refl)

pub shown_not_greater : (xs : List Error) (e : Error) → is_any xs ≡ true → rank_of e ≤ greatest_of rank_of xs
    → shown (xs ++ e ∷ []) ≡ shown xs
unfolding shown
shown_not_greater xs e any h =
    let top : greatest_of rank_of (xs ++ e ∷ []) ≡ greatest_of rank_of xs = greatest_of-push rank_of xs e
    ∙ grind arith in
    let at = find_attained rank_of xs any in
    ap (λ n. find (λ x. rank_of x == n) (xs ++ e ∷ [])) top
    ∙ find-append (λ x. rank_of x == greatest_of rank_of xs) xs (e ∷ [])
    ∙ ap (λ o. option_or o (find (λ x. rank_of x == greatest_of rank_of xs) (e ∷ []))) at.1
    ∙ sym at.1

-- where there is an error, one is shown, and it has the greatest rank
pub shown_some : (xs : List Error) → is_any xs ≡ true → (x : Error) × (shown xs ≡ Some x)
    × (rank_of x ≡ greatest_of rank_of xs)
unfolding shown
shown_some xs any = find_attained rank_of xs any

pub shown_none : (xs : List Error) → is_any xs ≡ false → shown xs ≡ None
unfolding shown is_any
shown_none [] h = refl
shown_none (x ∷ xs) h = cc

-- ---- Multiple occurrence ----

pub multiple_alone : (e : Error) → is_multiple (e ∷ []) ≡ false
unfolding is_multiple greatest_of
multiple_alone e =
    let same : max (severity_of e) 0 ≡ severity_of e = grind arith in
    let one : 0 + cond (severity_of e == max (severity_of e) 0) 1 0
    ≡ 1 = omega (arith, count_yes (severity_of e == max (severity_of e) 0) (eq-eqb _ _ (sym same))) in
    ap (λ n. nat_lt 1 n) one

pub multiple_greater : (xs : List Error) (e : Error) → greatest_of severity_of xs < severity_of e
    → is_multiple (xs ++ e ∷ []) ≡ false
unfolding is_multiple
multiple_greater xs e h =
    let top : greatest_of severity_of (xs ++ e ∷ []) ≡ severity_of e = greatest_of-push severity_of xs e
    ∙ grind arith in
    let n = severity_of e in
    let count : count_by (λ x. severity_of x == n) (xs ++ e ∷ [])
    ≡ 1 = sum_by_push (λ x. cond (severity_of x == n) 1 0) xs e
    ∙ omega (arith, count_above severity_of n xs h, count_yes (n == n) (eq-eqb n n refl)) in
    ap (λ m. nat_lt 1 (count_by (λ x. severity_of x == m) (xs ++ e ∷ []))) top ∙ ap (λ k. nat_lt 1 k) count

pub multiple_equal : (xs : List Error) (e : Error) → is_any xs ≡ true → greatest_of severity_of xs ≡ severity_of e
    → is_multiple (xs ++ e ∷ []) ≡ true
unfolding is_multiple
multiple_equal xs e any h =
    let n = greatest_of severity_of xs in
    let top : greatest_of severity_of (xs ++ e ∷ []) ≡ n = greatest_of-push severity_of xs e ∙ grind arith in
    let more : 1 < count_by (λ x. severity_of x == n) (xs ++ e ∷ []) =
    rw (sum_by_push (λ x. cond (severity_of x == n) 1 0) xs e)
    (omega (arith, count_attained severity_of xs any, count_yes (severity_of e == n) (eq-eqb _ _ (sym h)))) in
    ap (λ m. nat_lt 1 (count_by (λ x. severity_of x == m) (xs ++ e ∷ []))) top ∙ lt-ltb _ _ more

pub multiple_less : (xs : List Error) (e : Error) → severity_of e < greatest_of severity_of xs
    → is_multiple (xs ++ e ∷ []) ≡ is_multiple xs
unfolding is_multiple
multiple_less xs e h =
    let n = greatest_of severity_of xs in
    let top : greatest_of severity_of (xs ++ e ∷ []) ≡ n = greatest_of-push severity_of xs e ∙ grind arith in
    let differ : (severity_of e == n) ≡ false = grind (arith, nat_tests) in
    let count : count_by (λ x. severity_of x == n) (xs ++ e ∷ [])
    ≡ count_by (λ x. severity_of x == n) xs = sum_by_push (λ x. cond (severity_of x == n) 1 0) xs e
    ∙ omega (arith, count_no (severity_of e == n) differ) in
    ap (λ m. nat_lt 1 (count_by (λ x. severity_of x == m) (xs ++ e ∷ []))) top ∙ ap (λ k. nat_lt 1 k) count

-- ---- Severities ----

pub has_severity-push : (s : ℕ) (xs : List Error) (e : Error) → has_severity s (xs ++ e ∷ [])
    ≡ (has_severity s xs || severity_of e == s)
unfolding has_severity
has_severity-push s [] e = elim (severity_of e == s) as (λ b. (b || false) ≡ b) [ true ↦ refl | false ↦ refl ]
has_severity-push s (x ∷ xs) e =
    rw (has_severity-push s xs e)
    (elim (severity_of x == s) as (λ b. (b || (has_severity s xs || severity_of e == s))
    ≡ ((b || has_severity s xs) || severity_of e == s)) [ true ↦ refl | false ↦ refl ])

found_has : (s : ℕ) (xs : List Error) (x : Error) → find (λ y. severity_of y == s) xs ≡ Some x
    → has_severity s xs ≡ true
unfolding has_severity
found_has s [] x h = absurd (none-some x h)
found_has s (y ∷ ys) x h =
    elim (cases_Bool (severity_of y == s)) as (λ _. (severity_of y == s || has_severity s ys) ≡ true) [
      | inl yes_here ↦ or_left _ _ yes_here
      | inr not_here ↦
          or_right _ _ (found_has s ys x (sym (cond-false _ (Some y) (find (λ z. severity_of z == s) ys) not_here) ∙ h))
    ]

pub has_greatest : (xs : List Error) → is_any xs ≡ true → has_severity (greatest_of severity_of xs) xs ≡ true
has_greatest xs any =
    let at = find_attained severity_of xs any in
    found_has (greatest_of severity_of xs) xs at.0 at.1

pub has_none_above : (s : ℕ) (xs : List Error) → greatest_of severity_of xs < s → has_severity s xs ≡ false
unfolding has_severity greatest_of
has_none_above s [] h = refl
has_none_above s (x ∷ xs) h =
    let less : severity_of x < s = omega (arith, le-max_left (severity_of x) (greatest_of severity_of xs)) in
    let rest : greatest_of severity_of xs < s =
    omega (arith, le-max_right (severity_of x) (greatest_of severity_of xs)) in
    let differ : (severity_of x == s) ≡ false = grind (arith, nat_tests) in
    or_from _ _ differ (has_none_above s xs rest)

severity_number_le : (s : Severity) → severity_number s ≤ 2
unfolding severity_number
severity_number_le Ce = omega arith
severity_number_le Ued = omega arith
severity_number_le Uec = omega arith

severity_le : (x : Error) → severity_of x ≤ 2
unfolding severity_of
severity_le x = severity_number_le x.report.severity

pub greatest_le : (xs : List Error) → greatest_of severity_of xs ≤ 2
unfolding greatest_of
greatest_le [] = omega arith
greatest_le (x ∷ xs) = max-le (severity_le x) (greatest_le xs)

pub found_le : (f : Error → ℕ) (p : Error → Bool) (xs : List Error) (x : Error) → find p xs ≡ Some x
    → f x ≤ greatest_of f xs
unfolding greatest_of
found_le f p [] x h = absurd (none-some x h)
found_le f p (y ∷ ys) x h =
    elim (cases_Bool (p y)) as (λ _. f x ≤ max (f y) (greatest_of f ys)) [
      | inl yes_here ↦
          let same : y ≡ x = same_Some y x (sym (cond-true _ (Some y) (find p ys) yes_here) ∙ h) in
          rw (← same) (le-max_left (f y) (greatest_of f ys))
      | inr not_here ↦
          let rest = found_le f p ys x (sym (cond-false _ (Some y) (find p ys) not_here) ∙ h) in
          omega (arith, le-max_right (f y) (greatest_of f ys), rest)
    ]

-- ---- Steps ----

-- each error of the list came before the step
abbrev pub StepsBelow : ℕ → List Error → Type 0
StepsBelow step [] = Unit {0}
StepsBelow step (error ∷ errors) = (error.step < step) × StepsBelow step errors

pub StepsBelow-push : (step : ℕ) (xs : List Error) (e : Error) → StepsBelow step xs → e.step < step
    → StepsBelow step (xs ++ e ∷ [])
StepsBelow-push step [] e h k = (k, tt)
StepsBelow-push step (x ∷ xs) e h k = (h.0, StepsBelow-push step xs e h.1 k)

pub found_before : (step : ℕ) (p : Error → Bool) (xs : List Error) (x : Error) → StepsBelow step xs
    → find p xs ≡ Some x → x.step < step
found_before step p [] x b h = absurd (none-some x h)
found_before step p (y ∷ ys) x b h =
    elim (cases_Bool (p y)) as (λ _. x.step < step) [
      | inl yes_here ↦
          let same : y ≡ x = same_Some y x (sym (cond-true _ (Some y) (find p ys) yes_here) ∙ h) in
          rw (← same) b.0
      | inr not_here ↦ found_before step p ys x b.1 (sym (cond-false _ (Some y) (find p ys) not_here) ∙ h)
    ]
