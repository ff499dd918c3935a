-- Pages that rise are settled by what they say of each page: two such lists that say the same are equal.
use Rattle.std.proofs.Common.{◌≡◌, ℕ, ◌+◌, ◌<◌, ◌≤◌, ◌==◌, ◌||◌, Bool, true, false, cond, List, [], ◌∷◌, refl, inl, inr, sym, ap, ◌∙◌, subst, arith}
use Rattle.std.proofs.lemmas.Bool.{cases_lt, eq-eqb, eqb-true, or_from}
use Rattle.std.proofs.lemmas.Bool.Decides.{nat_tests}
use Rattle.ras_policy.specs.declared.marks.Page.{Page}

-- ---- What a list says of a page ----

-- how many copies of each kind it has, and whether the page is there
abbrev pub corrected_at : ℕ → List Page → ℕ
corrected_at p [] = 0
corrected_at p (x ∷ xs) = cond (x.page == p) x.corrected 0 + corrected_at p xs

abbrev pub uncorrected_at : ℕ → List Page → ℕ
uncorrected_at p [] = 0
uncorrected_at p (x ∷ xs) = cond (x.page == p) x.uncorrected 0 + uncorrected_at p xs

abbrev pub has : ℕ → List Page → Bool
has p [] = false
has p (x ∷ xs) = (x.page == p) || has p xs

-- each page lies above p
abbrev pub Above : ℕ → List Page → Type 0
Above p [] = Unit {0}
Above p (x ∷ xs) = (p < x.page) × Above p xs

abbrev pub Rises : List Page → Type 0
Rises [] = Unit {0}
Rises (x ∷ xs) = Above x.page xs × Rises xs

-- two lists say the same of each page
pub record Agrees (xs ys : List Page) : Type 0 where
  pub corrected : (p : ℕ) → corrected_at p xs ≡ corrected_at p ys
  pub uncorrected : (p : ℕ) → uncorrected_at p xs ≡ uncorrected_at p ys
  pub pages : (p : ℕ) → has p xs ≡ has p ys

-- ---- Pages that aren't there ----

pub differ : (a b : ℕ) → b < a → (a == b) ≡ false
differ a b h = grind (arith, nat_tests)

pub first_none : (a b : Bool) → (a || b) ≡ false → a ≡ false
first_none false b h = refl
first_none true b h = h

pub second_none : (a b : Bool) → (a || b) ≡ false → b ≡ false
second_none false b h = h
second_none true b h = absurd (cc)

first_some : (a b : Bool) → a ≡ true → (a || b) ≡ true
first_some a b h = ap (λ x. x || b) h

itself : (x : Page) (xs : List Page) → has x.page (x ∷ xs) ≡ true
itself x xs = first_some (x.page == x.page) (has x.page xs) (eq-eqb x.page x.page refl)

not_below : (p q : ℕ) (xs : List Page) → q ≤ p → Above p xs → has q xs ≡ false
not_below p q [] le h = refl
not_below p q (x ∷ xs) le h =
    let less : p < x.page = h.0 in
    or_from (x.page == q) (has q xs) (differ x.page q (omega arith)) (not_below p q xs le h.1)

no_sum : (b : Bool) (a n : ℕ) → b ≡ false → n ≡ 0 → cond b a 0 + n ≡ 0
no_sum b a n h k = ap (λ x. cond x a 0 + n) h ∙ ap (λ m. 0 + m) k

none_corrected : (p : ℕ) (xs : List Page) → has p xs ≡ false → corrected_at p xs ≡ 0
none_corrected p [] h = refl
none_corrected p (x ∷ xs) h =
    no_sum (x.page == p) x.corrected (corrected_at p xs) (first_none (x.page == p) (has p xs) h)
    (none_corrected p xs (second_none (x.page == p) (has p xs) h))

none_uncorrected : (p : ℕ) (xs : List Page) → has p xs ≡ false → uncorrected_at p xs ≡ 0
none_uncorrected p [] h = refl
none_uncorrected p (x ∷ xs) h =
    no_sum (x.page == p) x.uncorrected (uncorrected_at p xs) (first_none (x.page == p) (has p xs) h)
    (none_uncorrected p xs (second_none (x.page == p) (has p xs) h))

-- ---- Lists that agree ----

least : (p : ℕ) (y : Page) (ys : List Page) → Above y.page ys → has p (y ∷ ys) ≡ true → y.page ≤ p
least p y ys h is =
    elim (cases_lt p y.page) [
      | inl less ↦
          let none : has p (y ∷ ys) ≡ false =
          or_from (y.page == p) (has p ys) (differ y.page p less) (not_below y.page p ys (omega arith) h) in
          let no : true ≡ false = sym is ∙ none in
          absurd (cc)
      | inr le ↦ le
    ]

same_fields : (x y : Page) → x.page ≡ y.page → x.corrected ≡ y.corrected → x.uncorrected ≡ y.uncorrected → x ≡ y
same_fields x y p c u =
    let at_page : ℕ → Page = λ n. record { page = n; corrected = x.corrected; uncorrected = x.uncorrected } in
    let at_corrected : ℕ → Page = λ n. record { page = y.page; corrected = n; uncorrected = x.uncorrected } in
    let at_uncorrected : ℕ → Page = λ n. record { page = y.page; corrected = y.corrected; uncorrected = n } in
    ap at_page p ∙ ap at_corrected c ∙ ap at_uncorrected u

head_count : (a b : Bool) (n m k j : ℕ) → a ≡ true → b ≡ true → k ≡ 0 → j ≡ 0 → cond a n 0 + k ≡ cond b m 0 + j
    → n ≡ m
head_count false b n m k j h g e f is = absurd (cc)
head_count true false n m k j h g e f is = absurd (cc)
head_count true true n m k j h g e f is = omega arith

cancelled : (a b n m : ℕ) → a ≡ b → a + n ≡ b + m → n ≡ m
cancelled a b n m h e = omega arith

tail_has : (a b c d : Bool) → a ≡ b → (a ≡ true → c ≡ d) → (a || c) ≡ (b || d) → c ≡ d
tail_has true b c d e h k = h refl
tail_has false false c d e h k = k
tail_has false true c d e h k = absurd (cc)

tails_agree : (x y : Page) (xs ys : List Page) → x ≡ y → Above x.page xs → Above x.page ys
    → Agrees (x ∷ xs) (y ∷ ys) → Agrees xs ys
tails_agree x y xs ys is h k e =
    record {
      corrected = λ p. cancelled (cond (x.page == p) x.corrected 0) (cond (y.page == p) y.corrected 0)
          (corrected_at p xs) (corrected_at p ys) (ap (λ (z : Page). cond (z.page == p) z.corrected 0) is)
          (e.corrected p);
      uncorrected = λ p. cancelled (cond (x.page == p) x.uncorrected 0) (cond (y.page == p) y.uncorrected 0)
          (uncorrected_at p xs) (uncorrected_at p ys) (ap (λ (z : Page). cond (z.page == p) z.uncorrected 0) is)
          (e.uncorrected p);
      pages = λ p. tail_has (x.page == p) (y.page == p) (has p xs) (has p ys) (ap (λ (z : Page). z.page == p) is)
          (λ t. let here : x.page ≡ p = eqb-true x.page p t in
          not_below x.page p xs (omega arith) h ∙ sym (not_below x.page p ys (omega arith) k)) (e.pages p);
    }

above_at : (p q : ℕ) (xs : List Page) → p ≡ q → Above p xs → Above q xs
above_at p q xs e h = subst (λ (n : ℕ). Above n xs) e h

heads_agree : (x y : Page) (xs ys : List Page) → Above x.page xs → Above y.page ys → Agrees (x ∷ xs) (y ∷ ys)
    → x ≡ y
heads_agree x y xs ys h k e =
    let low : y.page ≤ x.page = least x.page y ys k (sym (e.pages x.page) ∙ itself x xs) in
    let high : x.page ≤ y.page = least y.page x xs h (e.pages y.page ∙ itself y ys) in
    let one : x.page ≡ y.page = omega arith in
    let here : (x.page == x.page) ≡ true = eq-eqb x.page x.page refl in
    let there : (y.page == x.page) ≡ true = eq-eqb y.page x.page (sym one) in
    let no_x : has x.page xs ≡ false = not_below x.page x.page xs (omega arith) h in
    let no_y : has x.page ys ≡ false = not_below y.page x.page ys (omega arith) k in
    same_fields x y one
    (head_count (x.page == x.page) (y.page == x.page) x.corrected y.corrected (corrected_at x.page xs)
    (corrected_at x.page ys) here there (none_corrected x.page xs no_x) (none_corrected x.page ys no_y)
    (e.corrected x.page))
    (head_count (x.page == x.page) (y.page == x.page) x.uncorrected y.uncorrected (uncorrected_at x.page xs)
    (uncorrected_at x.page ys) here there (none_uncorrected x.page xs no_x) (none_uncorrected x.page ys no_y)
    (e.uncorrected x.page))

pub same_list : (xs ys : List Page) → Rises xs → Rises ys → Agrees xs ys → xs ≡ ys
same_list [] [] h k e = refl
same_list [] (y ∷ ys) h k e =
    let no : false ≡ true = e.pages y.page ∙ itself y ys in
    absurd (cc)
same_list (x ∷ xs) [] h k e =
    let no : false ≡ true = sym (e.pages x.page) ∙ itself x xs in
    absurd (cc)
same_list (x ∷ xs) (y ∷ ys) h k e =
    let is = heads_agree x y xs ys h.0 k.0 e in
    let back : y.page ≡ x.page = ap (λ (z : Page). z.page) (sym is) in
    let rest : xs ≡ ys =
    same_list xs ys h.1 k.1 (tails_agree x y xs ys is h.0 (above_at y.page x.page ys back k.0) e) in
    ap (λ z. z ∷ xs) is ∙ ap (λ zs. y ∷ zs) rest
