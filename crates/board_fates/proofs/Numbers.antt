-- How many errors have each fate after one piece of news more, and which records then show one that no Check has
-- published.
use Rattle.std.proofs.Common.{◌≡◌, ℕ, suc, ◌+◌, ◌≤◌, ◌==◌, ◌&&◌, not, Bool, true, false, cond, List, ◌∷◌, length, Option, Some, None, is_some, refl, inl, inr, sym, ap, ◌∙◌, subst, arith}
use Rattle.std.specs.List.{count_by}
use Rattle.std.specs.Option.{option_map_or}
use Rattle.std.proofs.lemmas.Bool.{cases_Bool, eq-eqb, eqb-true, and_parts, and_from}
use Rattle.std.proofs.lemmas.Bool.Decides.{nat_tests}
use Rattle.std.proofs.lemmas.List.Sums.{count_by-le-length}
use Rattle.reri_fields.specs.Records.{Error, Origin, came_at, shown, since}
use Rattle.board_plan.specs.declared.plan.Plan.{Plan}
use Rattle.board_plan.specs.Fates.{Deed, Fate, News, told, is_shown, is_drained, has_fate_here, has_fate_of, is_stray, has_fate, deed_at, deeds_of, with_deed, errors_made, is_at, origin_at, number_with}
use Rattle.board_plan.specs.Fates.Fate.{Stands}
use Rattle.board_fates.specs.Tallied.{shows_unpublished, is_unpublished_at}
use Rattle.board_fates.proofs.Places.{bit, balance, count_no, count_same, shows_it, shows_one}
use Rattle.board_fates.proofs.Moves.{Moves}

-- ---- The same record ----

eqb_turned : (a b : ℕ) → (a == b) ≡ (b == a)
eqb_turned a b = grind (arith, nat_tests)

pub at_turned : (b r c q : ℕ) → is_at b r c q ≡ is_at c q b r
at_turned b r c q = ap (λ x. x && (q == r)) (eqb_turned c b) ∙ ap (λ x. (b == c) && x) (eqb_turned q r)

pub at_itself : (b r : ℕ) → is_at b r b r ≡ true
at_itself b r = and_from (b == b) (r == r) (eq-eqb b b refl) (eq-eqb r r refl)

-- ---- The error that stands in a record ----

-- the error is one for the record, and stands
abbrev pub stands_at : Plan → List News → ℕ → ℕ → Error → Bool
stands_at plan ns bank rec e = is_at bank rec e.report.bank e.report.rec && has_fate plan ns Stands e

here_is : (plan : Plan) (ns : List News) (bank rec : ℕ) (e : Error)
    → stands_at plan ns bank rec e
    ≡ (is_at bank rec e.report.bank e.report.rec
    && has_fate_of Stands (deeds_of bank rec ns) e.step (origin_at plan bank rec))
here_is plan ns bank rec e =
    let at = is_at bank rec e.report.bank e.report.rec in
    let has : ℕ → ℕ → Bool = λ b r. has_fate_of Stands (deeds_of b r ns) e.step (origin_at plan b r) in
    elim (cases_Bool at) as (λ _. (at && has e.report.bank e.report.rec) ≡ (at && has bank rec)) [
      | inl here ↦
          let parts = and_parts (e.report.bank == bank) (e.report.rec == rec) here in
          let b : e.report.bank ≡ bank = eqb-true e.report.bank bank parts.0 in
          let r : e.report.rec ≡ rec = eqb-true e.report.rec rec parts.1 in
          ap (λ c. at && has c e.report.rec) b ∙ ap (λ q. at && has bank q) r
      | inr elsewhere ↦
          ap (λ x. x && has e.report.bank e.report.rec) elsewhere ∙ sym (ap (λ x. x && has bank rec) elsewhere)
    ]

and_no : (b c : Bool) → c ≡ false → (b && c) ≡ false
and_no true c h = h
and_no false c h = refl

-- the one that is shown is the one that came at the step
stands_if : (origin : Origin) (deeds : List Deed) (x : Error) (n : ℕ) → shown (since origin (told deeds)) ≡ Some x
    → (is_shown origin deeds n && not (is_drained origin deeds n))
    ≡ (is_shown origin deeds n && not (is_drained origin deeds x.step))
unfolding is_shown came_at
stands_if origin deeds x n is =
    let s = came_at n (shown (since origin (told deeds))) in
    elim (cases_Bool s) as (λ _. (s && not (is_drained origin deeds n)) ≡ (s && not (is_drained origin deeds x.step))) [
      | inl here ↦
          let same : x.step ≡ n = eqb-true x.step n (sym (ap (came_at n) is) ∙ here) in
          ap (λ k. s && not (is_drained origin deeds k)) (sym same)
      | inr elsewhere ↦
          ap (λ b. b && not (is_drained origin deeds n)) elsewhere
          ∙ sym (ap (λ b. b && not (is_drained origin deeds x.step)) elsewhere)
    ]

not_shown_at_all : (origin : Origin) (deeds : List Deed) (n : ℕ) → shown (since origin (told deeds)) ≡ None
    → is_shown origin deeds n ≡ false
unfolding is_shown came_at
not_shown_at_all origin deeds n is = ap (came_at n) is

gated : (s b : Bool) → (s && b) ≡ cond b s false
gated true true = refl
gated true false = refl
gated false true = refl
gated false false = refl

counts_if : (p : Error → Bool) (b : Bool) (ns : List News) (n : ℕ) → count_by p (errors_made ns) ≡ n
    → count_by (λ e. p e && b) (errors_made ns) ≡ cond b n 0
counts_if p true ns n h = count_same (λ e. p e && true) p ns (λ e _. gated (p e) true) ∙ h
counts_if p false ns n h = count_same (λ e. p e && false) (λ e. false) ns (λ e _. gated (p e) false) ∙ count_no ns

and_three : (a b c : Bool) → (a && (b && c)) ≡ ((a && b) && c)
and_three true b c = refl
and_three false b c = refl

stand_counts : (bank rec : ℕ) (origin : Origin) (ns : List News) (o : Option Error)
    → shown (since origin (told (deeds_of bank rec ns))) ≡ o
    → count_by (λ e. is_at bank rec e.report.bank e.report.rec
    && (is_shown origin (deeds_of bank rec ns) e.step && not (is_drained origin (deeds_of bank rec ns) e.step)))
    (errors_made ns)
    ≡ bit (option_map_or (λ (x : Error). not (is_drained origin (deeds_of bank rec ns) x.step)) o false)
stand_counts bank rec origin ns None is =
    let deeds = deeds_of bank rec ns in
    count_same
    (λ e. is_at bank rec e.report.bank e.report.rec
    && (is_shown origin deeds e.step && not (is_drained origin deeds e.step))) (λ e. false) ns
    (λ e _. and_no (is_at bank rec e.report.bank e.report.rec)
    (is_shown origin deeds e.step && not (is_drained origin deeds e.step))
    (ap (λ s. s && not (is_drained origin deeds e.step)) (not_shown_at_all origin deeds e.step is)))
    ∙ count_no ns
stand_counts bank rec origin ns (Some x) is =
    let deeds = deeds_of bank rec ns in
    let b = not (is_drained origin deeds x.step) in
    let one : count_by (shows_it bank rec origin deeds) (errors_made ns) ≡ 1 =
    shows_one bank rec origin ns ∙ ap (λ o. bit (is_some o)) is in
    count_same
    (λ e. is_at bank rec e.report.bank e.report.rec
    && (is_shown origin deeds e.step && not (is_drained origin deeds e.step)))
    (λ e. shows_it bank rec origin deeds e && b) ns
    (λ e _. ap (λ y. is_at bank rec e.report.bank e.report.rec && y) (stands_if origin deeds x e.step is)
    ∙ and_three (is_at bank rec e.report.bank e.report.rec) (is_shown origin deeds e.step) b)
    ∙ counts_if (shows_it bank rec origin deeds) b ns 1 one

stand_at_origin : (bank rec : ℕ) (ns : List News) (o : Option Origin)
    → count_by (λ e. is_at bank rec e.report.bank e.report.rec
    && has_fate_of Stands (deeds_of bank rec ns) e.step o) (errors_made ns)
    ≡ bit (option_map_or (λ origin. shows_unpublished origin (deeds_of bank rec ns)) o false)
unfolding has_fate_here shows_unpublished
stand_at_origin bank rec ns None =
    count_same (λ e. is_at bank rec e.report.bank e.report.rec && false) (λ e. false) ns
    (λ e _. and_no (is_at bank rec e.report.bank e.report.rec) false refl)
    ∙ count_no ns
stand_at_origin bank rec ns (Some origin) =
    stand_counts bank rec origin ns (shown (since origin (told (deeds_of bank rec ns)))) refl

-- one error stands in a record that shows one which no Check has published, and none in another
pub stands_one : (plan : Plan) (ns : List News) (bank rec : ℕ)
    → count_by (stands_at plan ns bank rec) (errors_made ns) ≡ bit (is_unpublished_at plan ns bank rec)
unfolding is_unpublished_at
stands_one plan ns bank rec =
    count_same (stands_at plan ns bank rec)
    (λ e. is_at bank rec e.report.bank e.report.rec
    && has_fate_of Stands (deeds_of bank rec ns) e.step (origin_at plan bank rec)) ns
    (λ e _. here_is plan ns bank rec e) ∙ stand_at_origin bank rec ns (origin_at plan bank rec)

-- ---- What a piece of news makes of the fates of older errors ----

-- the news are a deed of this record, and of no other
abbrev pub IsDeedOf : ℕ → ℕ → Deed → ℕ → News → Type 0
IsDeedOf bank rec deed step n = (b r : ℕ) → deed_at b r step n ≡ cond (is_at b r bank rec) (Some deed) None

record_moves : (from into : Fate → Bool) (deed : Deed) (deeds : List Deed) (k : ℕ) (f : Fate) (o : Option Origin)
    → ((origin : Origin) → o ≡ Some origin → Moves from into origin deed deeds k)
    → bit (has_fate_of f (deed ∷ deeds) k o) + bit (from f && has_fate_of Stands deeds k o)
    ≡ bit (has_fate_of f deeds k o) + bit (into f && has_fate_of Stands deeds k o)
record_moves from into deed deeds k f None h =
    ap (λ b. bit (is_stray f) + bit b) (and_no (from f) false refl)
    ∙ sym (ap (λ b. bit (is_stray f) + bit b) (and_no (into f) false refl))
record_moves from into deed deeds k f (Some origin) h = h origin refl f

-- what the news make of the fates of an error of this record, where they are a deed of that one
abbrev MovesAt : Plan → (Fate → Bool) → (Fate → Bool) → News → List News → ℕ → ℕ → Fate → ℕ → ℕ → ℕ → Type 0
MovesAt plan from into n ns bank rec f k b r =
    let has : Fate → Bool = λ g. has_fate_of g (deeds_of b r ns) k (origin_at plan b r) in
    bit (has_fate_of f (deeds_of b r (n ∷ ns)) k (origin_at plan b r))
    + bit (from f && (is_at bank rec b r && has Stands))
    ≡ bit (has f) + bit (into f && (is_at bank rec b r && has Stands))

moves_here : (plan : Plan) (from into : Fate → Bool) (deed : Deed) (n : News) (ns : List News) (bank rec : ℕ) (f : Fate)
    (k : ℕ) → IsDeedOf bank rec deed (suc (length ns)) n
    → ((origin : Origin) → origin_at plan bank rec ≡ Some origin → Moves from into origin deed (deeds_of bank rec ns) k)
    → MovesAt plan from into n ns bank rec f k bank rec
moves_here plan from into deed n ns bank rec f k is h =
    let deeds = deeds_of bank rec ns in
    let o = origin_at plan bank rec in
    let there : deeds_of bank rec (n ∷ ns) ≡ deed ∷ deeds =
    ap (λ d. with_deed d deeds) (is bank rec ∙ ap (λ b. cond b (Some deed) None) (at_itself bank rec)) in
    let stands = has_fate_of Stands deeds k o in
    ap (λ ds. bit (has_fate_of f ds k o) + bit (from f && (is_at bank rec bank rec && stands))) there
    ∙ ap (λ b. bit (has_fate_of f (deed ∷ deeds) k o) + bit (from f && (b && has_fate_of Stands deeds k o)))
    (at_itself bank rec)
    ∙ record_moves from into deed deeds k f o h
    ∙ sym (ap (λ b. bit (has_fate_of f deeds k o) + bit (into f && (b && has_fate_of Stands deeds k o)))
    (at_itself bank rec))

moves_elsewhere : (plan : Plan) (from into : Fate → Bool) (deed : Deed) (n : News) (ns : List News) (bank rec : ℕ)
    (f : Fate) (k b r : ℕ) → IsDeedOf bank rec deed (suc (length ns)) n → is_at b r bank rec ≡ false
    → MovesAt plan from into n ns bank rec f k b r
moves_elsewhere plan from into deed n ns bank rec f k b r is apart =
    let deeds = deeds_of b r ns in
    let o = origin_at plan b r in
    let s = has_fate_of Stands deeds k o in
    let other : is_at bank rec b r ≡ false = at_turned bank rec b r ∙ apart in
    let there : deeds_of b r (n ∷ ns) ≡ deeds =
    ap (λ d. with_deed d deeds) (is b r ∙ ap (λ x. cond x (Some deed) None) apart) in
    ap (λ ds. bit (has_fate_of f ds k o) + bit (from f && (is_at bank rec b r && s))) there
    ∙ ap (λ x. bit (has_fate_of f deeds k o) + bit x)
    (and_no (from f) (is_at bank rec b r && s) (ap (λ x. x && s) other))
    ∙ sym (ap (λ x. bit (has_fate_of f deeds k o) + bit x)
    (and_no (into f) (is_at bank rec b r && s) (ap (λ x. x && s) other)))

moves_at : (plan : Plan) (from into : Fate → Bool) (deed : Deed) (n : News) (ns : List News) (bank rec : ℕ) (f : Fate)
    (k b r : ℕ) → IsDeedOf bank rec deed (suc (length ns)) n
    → ((origin : Origin) → origin_at plan bank rec ≡ Some origin → Moves from into origin deed (deeds_of bank rec ns) k)
    → MovesAt plan from into n ns bank rec f k b r
moves_at plan from into deed n ns bank rec f k b r is h =
    elim (cases_Bool (is_at b r bank rec)) as (λ _. MovesAt plan from into n ns bank rec f k b r) [
      | inr apart ↦ moves_elsewhere plan from into deed n ns bank rec f k b r is apart
      | inl here ↦
          let parts = and_parts (bank == b) (rec == r) here in
          let b_is : bank ≡ b = eqb-true bank b parts.0 in
          let r_is : rec ≡ r = eqb-true rec r parts.1 in
          subst (λ q. MovesAt plan from into n ns bank rec f k b q) r_is
          (subst (λ c. MovesAt plan from into n ns bank rec f k c rec) b_is
          (moves_here plan from into deed n ns bank rec f k is h))
    ]

when : (b : Bool) (p : Error → Bool) (ns : List News) (n : ℕ) → count_by p (errors_made ns) ≡ n
    → count_by (λ e. b && p e) (errors_made ns) ≡ cond b n 0
when true p ns n h = h
when false p ns n h = count_no ns

-- how many of the older errors have a fate after the news
abbrev pub older_with : Plan → News → List News → Fate → ℕ
older_with plan n ns f = count_by (has_fate plan (n ∷ ns) f) (errors_made ns)

abbrev pub MovesNumbers : Plan → (Fate → Bool) → (Fate → Bool) → News → List News → ℕ → ℕ → Type 0
MovesNumbers plan from into n ns bank rec =
    let one = bit (is_unpublished_at plan ns bank rec) in
    (f : Fate) → older_with plan n ns f + cond (from f) one 0 ≡ number_with plan ns f + cond (into f) one 0

pub numbers_move : (plan : Plan) (from into : Fate → Bool) (deed : Deed) (n : News) (ns : List News) (bank rec : ℕ)
    → IsDeedOf bank rec deed (suc (length ns)) n
    → ((origin : Origin) (k : ℕ) → k ≤ length ns → origin_at plan bank rec ≡ Some origin
    → Moves from into origin deed (deeds_of bank rec ns) k)
    → MovesNumbers plan from into n ns bank rec
unfolding number_with
numbers_move plan from into deed n ns bank rec is h f =
    let s = stands_at plan ns bank rec in
    let one = stands_one plan ns bank rec in
    let sums = balance (has_fate plan (n ∷ ns) f) (λ e. from f && s e) (has_fate plan ns f) (λ e. into f && s e) ns
    (length ns) (omega arith)
    (λ e le. moves_at plan from into deed n ns bank rec f e.step e.report.bank e.report.rec is
    (λ origin there. h origin e.step le there)) in
    ap (λ k. older_with plan n ns f + k) (sym (when (from f) s ns (bit (is_unpublished_at plan ns bank rec)) one))
    ∙ sums
    ∙ ap (λ k. count_by (has_fate plan ns f) (errors_made ns) + k)
    (when (into f) s ns (bit (is_unpublished_at plan ns bank rec)) one)

-- ---- The same of marks ----

pub mark_elsewhere : (plan : Plan) (deed : Deed) (n : News) (ns : List News) (bank rec b r : ℕ)
    → IsDeedOf bank rec deed (suc (length ns)) n → is_at b r bank rec ≡ false
    → is_unpublished_at plan (n ∷ ns) b r ≡ is_unpublished_at plan ns b r
unfolding is_unpublished_at
mark_elsewhere plan deed n ns bank rec b r is apart =
    ap (λ ds. option_map_or (λ origin. shows_unpublished origin ds) (origin_at plan b r) false)
    (ap (λ d. with_deed d (deeds_of b r ns)) (is b r ∙ ap (λ x. cond x (Some deed) None) apart))

pub mark_here : (plan : Plan) (deed : Deed) (n : News) (ns : List News) (bank rec : ℕ)
    → IsDeedOf bank rec deed (suc (length ns)) n
    → is_unpublished_at plan (n ∷ ns) bank rec
    ≡ option_map_or (λ origin. shows_unpublished origin (deed ∷ deeds_of bank rec ns)) (origin_at plan bank rec) false
unfolding is_unpublished_at
mark_here plan deed n ns bank rec is =
    ap (λ ds. option_map_or (λ origin. shows_unpublished origin ds) (origin_at plan bank rec) false)
    (ap (λ d. with_deed d (deeds_of bank rec ns)) (is bank rec
    ∙ ap (λ x. cond x (Some deed) None) (at_itself bank rec)))

pub few_with : (plan : Plan) (ns : List News) (f : Fate) → number_with plan ns f ≤ length (errors_made ns)
unfolding number_with
few_with plan ns f = count_by-le-length (has_fate plan ns f) (errors_made ns)
