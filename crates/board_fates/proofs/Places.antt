-- Records' deeds and errors as news tell them: their steps, and how many errors a record shows.
use Rattle.std.proofs.Common.{◌≡◌, ℕ, suc, ◌+◌, ◌<◌, ◌≤◌, ◌==◌, ◌&&◌, Bool, true, false, cond, List, [], ◌∷◌, length, Some, None, is_some, refl, inl, inr, sym, ap, ◌∙◌, subst, arith}
use Rattle.std.specs.List.{count_by}
use Rattle.std.proofs.lemmas.Bool.{cases_Bool, eq-eqb}
use Rattle.std.proofs.lemmas.Bool.Decides.{nat_tests}
use Rattle.std.proofs.lemmas.List.Sums.{sum_by-cons}
use Rattle.reri_fields.specs.declared.report.Report.{Report}
use Rattle.reri_fields.specs.Records.{Error, Event, Origin, AllBefore, AreInOrder, shown, since, in_progress}
use Rattle.reri_fields.specs.Records.Event.{Reported, Claimed, Invalidated}
use Rattle.board_plan.specs.Fates.{Deed, News, told, is_shown, deed_at, deeds_of, with_deed, error_at, errors_made, is_at}
use Rattle.board_plan.specs.Fates.Deed.{Was, Checked}
use Rattle.board_plan.specs.Fates.News.{Errs, Claims, Checks, Invalidates, Other}
use Rattle.board_fates.proofs.Shown.{comes, later_unshown, shown_written, shown_left, shown_claimed, shown_checked, shown_cleared, shown_stood, none_shown, same_shown}
use Rattle.board_fates.proofs.Shown.Comes.{writes, leaves}

-- ---- Steps ----

before_more : (m n : ℕ) (history : List Event) → m ≤ n → AllBefore m history → AllBefore n history
before_more m n [] le h = tt
before_more m n (Reported e ∷ history) le h =
    let less : e.step < m = h.0 in
    (omega arith, before_more m n history le h.1)
before_more m n (Claimed ∷ history) le h = before_more m n history le h
before_more m n (Invalidated ∷ history) le h = before_more m n history le h

-- the errors came one after the other, and none at a step past this one
pub record Ordered (last : ℕ) (deeds : List Deed) : Type 0 where
  pub before : AllBefore (suc last) (told deeds)
  pub order : AreInOrder (told deeds)

later : (k : ℕ) (deeds : List Deed) → Ordered k deeds → Ordered (suc k) deeds
later k deeds h =
    record { before = before_more (suc k) (suc (suc k)) (told deeds) (omega arith) h.before; order = h.order }

deed_ordered : (bank rec k : ℕ) (n : News) (deeds : List Deed) → Ordered k deeds
    → Ordered (suc k) (with_deed (deed_at bank rec (suc k) n) deeds)
unfolding deed_at
deed_ordered bank rec k (Errs report) deeds h =
    elim (is_at bank rec report.bank report.rec) as (λ b. Ordered (suc k)
    (with_deed (cond b (Some (Was (Reported (error_at (suc k) report)))) None) deeds)) [
      | true ↦ record { before = (omega arith, (later k deeds h).before); order = (h.before, h.order) }
      | false ↦ later k deeds h
    ]
deed_ordered bank rec k (Claims b r) deeds h =
    elim (is_at bank rec b r) as (λ c. Ordered (suc k) (with_deed (cond c (Some (Was Claimed)) None) deeds)) [
      | true ↦ record { before = (later k deeds h).before; order = h.order }
      | false ↦ later k deeds h
    ]
deed_ordered bank rec k (Checks b r published) deeds h =
    elim (is_at bank rec b r) as (λ c. Ordered (suc k) (with_deed (cond c (Some (Checked published)) None) deeds)) [
      | true ↦ record { before = (later k deeds h).before; order = h.order }
      | false ↦ later k deeds h
    ]
deed_ordered bank rec k (Invalidates b r) deeds h =
    elim (is_at bank rec b r) as (λ c. Ordered (suc k) (with_deed (cond c (Some (Was Invalidated)) None) deeds)) [
      | true ↦ record { before = (later k deeds h).before; order = h.order }
      | false ↦ later k deeds h
    ]
deed_ordered bank rec k Other deeds h = later k deeds h

pub deeds_ordered : (bank rec : ℕ) (ns : List News) → Ordered (length ns) (deeds_of bank rec ns)
deeds_ordered bank rec [] = record { before = tt; order = tt }
deeds_ordered bank rec (n ∷ ns) =
    deed_ordered bank rec (length ns) n (deeds_of bank rec ns) (deeds_ordered bank rec ns)

-- ---- Sums over the errors made ----

abbrev pub bit : Bool → ℕ
bit b = cond b 1 0

pub count_next : (p : Error → Bool) (e : Error) (es : List Error) → count_by p (e ∷ es) ≡ bit (p e) + count_by p es
count_next p e es = sum_by-cons (λ x. cond (p x) 1 0) e es

abbrev pub Balance : (Error → Bool) → (Error → Bool) → (Error → Bool) → (Error → Bool) → ℕ → Type 0
Balance p g q h k = (e : Error) → e.step ≤ k → bit (p e) + bit (g e) ≡ bit (q e) + bit (h e)

errors_balance : (p g q h : Error → Bool) (n : News) (ns : List News) (k : ℕ) → suc (length ns) ≤ k → Balance p g q h k
    → count_by p (errors_made ns) + count_by g (errors_made ns)
    ≡ count_by q (errors_made ns) + count_by h (errors_made ns)
    → count_by p (errors_made (n ∷ ns)) + count_by g (errors_made (n ∷ ns))
    ≡ count_by q (errors_made (n ∷ ns)) + count_by h (errors_made (n ∷ ns))
errors_balance p g q h (Errs report) ns k le each rest =
    let e = error_at (suc (length ns)) report in
    omega (
      arith,
      each e le,
      rest,
      count_next p e (errors_made ns),
      count_next g e (errors_made ns),
      count_next q e (errors_made ns),
      count_next h e (errors_made ns),
    )
errors_balance p g q h (Claims b r) ns k le each rest = rest
errors_balance p g q h (Checks b r published) ns k le each rest = rest
errors_balance p g q h (Invalidates b r) ns k le each rest = rest
errors_balance p g q h Other ns k le each rest = rest

-- where two sums are the same at each error, they are the same over all
pub balance : (p g q h : Error → Bool) (ns : List News) (k : ℕ) → length ns ≤ k → Balance p g q h k
    → count_by p (errors_made ns) + count_by g (errors_made ns)
    ≡ count_by q (errors_made ns) + count_by h (errors_made ns)
balance p g q h [] k le each = refl
balance p g q h (n ∷ ns) k le each =
    errors_balance p g q h n ns k le each (balance p g q h ns k (omega arith) each)

pub count_no : (ns : List News) → count_by (λ (e : Error). false) (errors_made ns) ≡ 0
count_no ns = none (errors_made ns)
  where
    none : (es : List Error) → count_by (λ (e : Error). false) es ≡ 0
    none [] = refl
    none (e ∷ es) = count_next (λ x. false) e es ∙ omega (arith, none es)

-- a test that does as another does at each error counts the same
pub count_same : (p q : Error → Bool) (ns : List News) → ((e : Error) → e.step ≤ length ns → p e ≡ q e)
    → count_by p (errors_made ns) ≡ count_by q (errors_made ns)
count_same p q ns each =
    let no : Error → Bool = λ e. false in
    let same = balance p no q no ns (length ns) (omega arith) (λ e le. ap (λ b. bit b + bit false) (each e le)) in
    omega (arith, same)

pub few_made : (ns : List News) → length (errors_made ns) ≤ length ns
few_made [] = omega arith
few_made (Errs report ∷ ns) = omega (arith, few_made ns)
few_made (Claims b r ∷ ns) = omega (arith, few_made ns)
few_made (Checks b r published ∷ ns) = omega (arith, few_made ns)
few_made (Invalidates b r ∷ ns) = omega (arith, few_made ns)
few_made (Other ∷ ns) = omega (arith, few_made ns)

-- ---- How many errors a record shows ----

-- the error is one for the record, which shows it
abbrev pub shows_it : ℕ → ℕ → Origin → List Deed → Error → Bool
shows_it bank rec origin deeds e = is_at bank rec e.report.bank e.report.rec && is_shown origin deeds e.step

abbrev one_if_any : Origin → List Deed → ℕ
one_if_any origin deeds = bit (is_some (shown (since origin (told deeds))))

-- after a deed, the older ones of the errors that are shown number so many
abbrev CountsTo : ℕ → ℕ → Origin → List Deed → List News → ℕ → Type 0
CountsTo bank rec origin deeds ns n = count_by (shows_it bank rec origin deeds) (errors_made ns) ≡ n

same_shows : (bank rec : ℕ) (origin : Origin) (deeds more : List Deed) (ns : List News) (n : ℕ)
    → ((k : ℕ) → is_shown origin more k ≡ is_shown origin deeds k) → CountsTo bank rec origin deeds ns n
    → CountsTo bank rec origin more ns n
same_shows bank rec origin deeds more ns n same h =
    count_same (shows_it bank rec origin more) (shows_it bank rec origin deeds) ns
    (λ e _. ap (λ b. is_at bank rec e.report.bank e.report.rec && b) (same e.step)) ∙ h

and_no : (b : Bool) → (b && false) ≡ false
and_no true = refl
and_no false = refl

no_shows : (bank rec : ℕ) (origin : Origin) (deeds : List Deed) (ns : List News)
    → ((k : ℕ) → k ≤ length ns → is_shown origin deeds k ≡ false) → CountsTo bank rec origin deeds ns 0
no_shows bank rec origin deeds ns none =
    count_same (shows_it bank rec origin deeds) (λ e. false) ns
    (λ e le. ap (λ b. is_at bank rec e.report.bank e.report.rec && b) (none e.step le)
    ∙ and_no (is_at bank rec e.report.bank e.report.rec)) ∙ count_no ns

error_shows : (bank rec : ℕ) (origin : Origin) (deeds : List Deed) (ns : List News) (report : Report)
    → Ordered (length ns) deeds → is_at bank rec report.bank report.rec ≡ true
    → CountsTo bank rec origin deeds ns (one_if_any origin deeds)
    → (let e = error_at (suc (length ns)) report in
    let after = Was (Reported e) ∷ deeds in
    bit (shows_it bank rec origin after e) + count_by (shows_it bank rec origin after) (errors_made ns)
    ≡ one_if_any origin after)
error_shows bank rec origin deeds ns report h here before =
    let e = error_at (suc (length ns)) report in
    let after : List Deed = Was (Reported e) ∷ deeds in
    elim (comes origin (told deeds) e h.before) as (λ _. bit (shows_it bank rec origin after e)
    + count_by (shows_it bank rec origin after) (errors_made ns) ≡ one_if_any origin after) [
      | writes it at ↦
          let none = no_shows bank rec origin after ns (λ k le. shown_written origin deeds e k at
          ∙ differ k (length ns) le) in
          let mine : shows_it bank rec origin after e ≡ true =
          ap (λ b. b && is_shown origin after e.step) here ∙ shown_written origin deeds e e.step at
          ∙ eq-eqb e.step e.step refl in
          let one : one_if_any origin after ≡ 1 = ap (λ o. bit (is_some o)) at in
          omega (arith, none, ap bit mine, one)
      | leaves off at ↦
          let rest = same_shows bank rec origin deeds after ns (one_if_any origin deeds)
          (λ k. shown_left origin deeds e k at) before in
          let mine : shows_it bank rec origin after e ≡ false =
          ap (λ b. b && is_shown origin after e.step) here ∙ shown_left origin deeds e e.step at
          ∙ later_unshown origin deeds e.step h.before in
          let one : one_if_any origin after ≡ one_if_any origin deeds = ap (λ o. bit (is_some o)) at in
          omega (arith, rest, ap bit mine, one)
    ]
  where
    differ : (k n : ℕ) → k ≤ n → (suc n == k) ≡ false
    differ k n le = grind (arith, nat_tests)

claimed_shows : (bank rec : ℕ) (origin : Origin) (deeds : List Deed) (ns : List News)
    → CountsTo bank rec origin deeds ns (one_if_any origin deeds)
    → CountsTo bank rec origin (Was Claimed ∷ deeds) ns (one_if_any origin (Was Claimed ∷ deeds))
unfolding since
claimed_shows bank rec origin deeds ns h =
    same_shows bank rec origin deeds (Was Claimed ∷ deeds) ns (one_if_any origin deeds)
    (shown_claimed origin deeds) h

news_shows : (bank rec : ℕ) (origin : Origin) (n : News) (ns : List News)
    → CountsTo bank rec origin (deeds_of bank rec ns) ns (one_if_any origin (deeds_of bank rec ns))
    → CountsTo bank rec origin (deeds_of bank rec (n ∷ ns)) (n ∷ ns) (one_if_any origin (deeds_of bank rec (n ∷ ns)))
unfolding deed_at
news_shows bank rec origin (Errs report) ns h =
    let deeds = deeds_of bank rec ns in
    let e = error_at (suc (length ns)) report in
    elim (cases_Bool (is_at bank rec report.bank report.rec)) as (λ _.
    CountsTo bank rec origin (deeds_of bank rec (Errs report ∷ ns)) (Errs report ∷ ns)
    (one_if_any origin (deeds_of bank rec (Errs report ∷ ns)))) [
      | inl here ↦
          let after : List Deed = Was (Reported e) ∷ deeds in
          let same : deeds_of bank rec (Errs report ∷ ns) ≡ after =
          ap (λ b. with_deed (cond b (Some (Was (Reported e))) None) deeds) here in
          subst (λ ds. CountsTo bank rec origin ds (Errs report ∷ ns) (one_if_any origin ds)) (sym same)
          (count_next (shows_it bank rec origin after) e (errors_made ns)
          ∙ error_shows bank rec origin deeds ns report (deeds_ordered bank rec ns) here h)
      | inr elsewhere ↦
          let same : deeds_of bank rec (Errs report ∷ ns) ≡ deeds =
          ap (λ b. with_deed (cond b (Some (Was (Reported e))) None) deeds) elsewhere in
          let mine : shows_it bank rec origin deeds e ≡ false =
          ap (λ b. b && is_shown origin deeds e.step) elsewhere in
          subst (λ ds. CountsTo bank rec origin ds (Errs report ∷ ns) (one_if_any origin ds)) (sym same)
          (count_next (shows_it bank rec origin deeds) e (errors_made ns) ∙ omega (arith, ap bit mine, h))
    ]
news_shows bank rec origin (Claims b r) ns h =
    let deeds = deeds_of bank rec ns in
    elim (is_at bank rec b r) as (λ c. let ds = with_deed (cond c (Some (Was Claimed)) None) deeds in
    CountsTo bank rec origin ds ns (one_if_any origin ds)) [
      | true ↦ claimed_shows bank rec origin deeds ns h
      | false ↦ h
    ]
news_shows bank rec origin (Checks b r published) ns h =
    let deeds = deeds_of bank rec ns in
    elim (is_at bank rec b r) as (λ c. let ds = with_deed (cond c (Some (Checked published)) None) deeds in
    CountsTo bank rec origin ds ns (one_if_any origin ds)) [
      | true ↦
          same_shows bank rec origin deeds (Checked published ∷ deeds) ns (one_if_any origin deeds)
          (shown_checked origin deeds published) h
      | false ↦ h
    ]
news_shows bank rec origin (Invalidates b r) ns h =
    let deeds = deeds_of bank rec ns in
    elim (is_at bank rec b r) as (λ c. let ds = with_deed (cond c (Some (Was Invalidated)) None) deeds in
    CountsTo bank rec origin ds ns (one_if_any origin ds)) [
      | true ↦
          let after : List Deed = Was Invalidated ∷ deeds in
          elim (cases_Bool (in_progress origin (told deeds))) as (λ _. CountsTo bank rec origin after ns
          (one_if_any origin after)) [
            | inl on ↦
                no_shows bank rec origin after ns (λ k le. shown_cleared origin deeds k on)
                ∙ sym (ap (λ o. bit (is_some o)) (none_shown origin (told deeds) on))
            | inr off ↦
                same_shows bank rec origin deeds after ns (one_if_any origin deeds)
                (λ k. shown_stood origin deeds k off) h
                ∙ sym (ap (λ o. bit (is_some o)) (same_shown origin (told deeds) off))
          ]
      | false ↦ h
    ]
news_shows bank rec origin Other ns h = h

-- of the errors that were made for a record, it shows one or none
pub shows_one : (bank rec : ℕ) (origin : Origin) (ns : List News)
    → count_by (shows_it bank rec origin (deeds_of bank rec ns)) (errors_made ns)
    ≡ bit (is_some (shown (since origin (told (deeds_of bank rec ns)))))
unfolding since shown
shows_one bank rec origin [] = refl
shows_one bank rec origin (n ∷ ns) = news_shows bank rec origin n ns (shows_one bank rec origin ns)
