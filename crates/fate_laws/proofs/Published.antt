-- How many Checks published the error of a step: one where that error is drained, and none else.
use Rattle.std.proofs.Common.{◌≡◌, ℕ, suc, ◌+◌, ◌≤◌, ◌==◌, ◌||◌, Bool, true, false, cond, List, [], ◌∷◌, length, Option, Some, None, refl, inl, inr, sym, ap, ◌∙◌, subst, arith}
use Rattle.std.proofs.lemmas.Bool.{cases_Bool, true≢false, eqb-true, and_parts}
use Rattle.reri_fields.specs.declared.report.Report.{Report}
use Rattle.reri_fields.specs.Records.{Error, Origin, came_at, shown, since}
use Rattle.reri_fields.specs.Records.Event.{Reported, Claimed, Invalidated}
use Rattle.sse_base.specs.Contexts.{bit}
use Rattle.board_plan.specs.declared.plan.Plan.{Plan}
use Rattle.board_plan.specs.Fates.{Deed, News, told, is_shown, is_drained, has_fate_here, has_fate_of, has_fate, deed_at, deeds_of, with_deed, error_at, is_at, origin_at}
use Rattle.board_plan.specs.Fates.Deed.{Was, Checked}
use Rattle.board_plan.specs.Fates.Fate.{Drained}
use Rattle.board_plan.specs.Fates.News.{Errs, Claims, Checks, Invalidates, Other}
use Rattle.board_plan.specs.Sound.{shows_at, times_published}
use Rattle.board_fates.proofs.Places.{deeds_ordered}
use Rattle.board_fates.proofs.Shown.{later_undrained}
use Rattle.board_fates.proofs.Numbers.{at_itself}
use Rattle.fate_laws.proofs.Orderly.{IsOrderly, drained_shown}
use Rattle.fate_laws.proofs.Orderly.Stage.{Claiming, Publishing}
use Rattle.fate_laws.proofs.Made.{error_of, came_then, none_later, shown_was_made}
use Rattle.fate_laws.proofs.OneFate.{AreOrderly, orderly_before}

-- ---- Whether the error of a step is drained ----

abbrev pub was_drained : Plan → List News → Option Error → Bool
was_drained plan ns None = false
was_drained plan ns (Some e) = has_fate plan ns Drained e

-- what a record shows is of one step
pub shown_is : (origin : Origin) (deeds : List Deed) (n : ℕ) (x : Error) → shown (since origin (told deeds)) ≡ Some x
    → is_shown origin deeds n ≡ (x.step == n)
unfolding is_shown came_at
shown_is origin deeds n x is = ap (came_at n) is

pub record IsShownError (origin : Origin) (deeds : List Deed) (n : ℕ) : Type 0 where
  pub error : Error
  pub is : shown (since origin (told deeds)) ≡ Some error
  pub step : error.step ≡ n

pub shown_error : (origin : Origin) (deeds : List Deed) (n : ℕ) → is_shown origin deeds n ≡ true
    → IsShownError origin deeds n
unfolding is_shown came_at
shown_error origin deeds n h = go (shown (since origin (told deeds))) refl h
  where
    go : (o : Option Error) → shown (since origin (told deeds)) ≡ o → came_at n o ≡ true → IsShownError origin deeds n
    go None is h = absurd (true≢false (sym h))
    go (Some x) is h = record { error = x; is = is; step = eqb-true x.step n h }

-- ---- News that publish nothing ----

-- a deed that is no Check that published
abbrev pub is_no_publication : News → Bool
is_no_publication (Checks b r true) = false
is_no_publication news = true

drained_still : (origin : Origin) (bank rec k : ℕ) (news : News) (deeds : List Deed) (n : ℕ)
    → is_no_publication news ≡ true
    → is_drained origin (with_deed (deed_at bank rec k news) deeds) n ≡ is_drained origin deeds n
unfolding is_drained deed_at
drained_still origin bank rec k (Errs report) deeds n none =
    elim (is_at bank rec report.bank report.rec) as (λ b. is_drained origin
    (with_deed (cond b (Some (Was (Reported (error_at k report)))) None) deeds) n ≡ is_drained origin deeds n)
    [ true ↦ refl | false ↦ refl ]
drained_still origin bank rec k (Claims b r) deeds n none =
    elim (is_at bank rec b r) as (λ c. is_drained origin (with_deed (cond c (Some (Was Claimed)) None) deeds) n
    ≡ is_drained origin deeds n) [ true ↦ refl | false ↦ refl ]
drained_still origin bank rec k (Checks b r true) deeds n none = absurd (true≢false (sym none))
drained_still origin bank rec k (Checks b r false) deeds n none =
    elim (is_at bank rec b r) as (λ c. is_drained origin (with_deed (cond c (Some (Checked false)) None) deeds) n
    ≡ is_drained origin deeds n) [ true ↦ refl | false ↦ refl ]
drained_still origin bank rec k (Invalidates b r) deeds n none =
    elim (is_at bank rec b r) as (λ c. is_drained origin (with_deed (cond c (Some (Was Invalidated)) None) deeds) n
    ≡ is_drained origin deeds n) [ true ↦ refl | false ↦ refl ]
drained_still origin bank rec k Other deeds n none = refl

at_origin : (o : Option Origin) (deeds more : List Deed) (k : ℕ)
    → ((origin : Origin) → o ≡ Some origin → is_drained origin more k ≡ is_drained origin deeds k)
    → has_fate_of Drained more k o ≡ has_fate_of Drained deeds k o
unfolding has_fate_here
at_origin None deeds more k h = refl
at_origin (Some origin) deeds more k h = h origin refl

pub fate_still : (plan : Plan) (news : News) (ns : List News) (e : Error) → is_no_publication news ≡ true
    → has_fate plan (news ∷ ns) Drained e ≡ has_fate plan ns Drained e
fate_still plan news ns e none =
    let bank = e.report.bank in
    let rec = e.report.rec in
    at_origin (origin_at plan bank rec) (deeds_of bank rec ns) (deeds_of bank rec (news ∷ ns)) e.step
    (λ origin _. drained_still origin bank rec (suc (length ns)) news (deeds_of bank rec ns) e.step none)

drained_as : (plan : Plan) (news : News) (ns : List News) (o : Option Error)
    → ((e : Error) → o ≡ Some e → has_fate plan (news ∷ ns) Drained e ≡ has_fate plan ns Drained e)
    → was_drained plan (news ∷ ns) o ≡ was_drained plan ns o
drained_as plan news ns None h = refl
drained_as plan news ns (Some e) h = h e refl

-- an error of the newest step is not drained
pub newest_undrained : (plan : Plan) (ns : List News) (e : Error) → e.step ≡ suc (length ns)
    → has_fate plan ns Drained e ≡ false
unfolding has_fate_here
newest_undrained plan ns e new = go (origin_at plan e.report.bank e.report.rec)
  where
    go : (o : Option Origin) → has_fate_of Drained (deeds_of e.report.bank e.report.rec ns) e.step o ≡ false
    go None = refl
    go (Some origin) =
        ap (is_drained origin (deeds_of e.report.bank e.report.rec ns)) new
        ∙ later_undrained origin (deeds_of e.report.bank e.report.rec ns) (suc (length ns))
        (deeds_ordered e.report.bank e.report.rec ns).before

error_drained : (plan : Plan) (report : Report) (ns : List News) (n : ℕ)
    → was_drained plan (Errs report ∷ ns) (error_of n (Errs report ∷ ns)) ≡ was_drained plan ns (error_of n ns)
error_drained plan report ns n =
    let new = error_at (suc (length ns)) report in
    elim (cases_Bool (suc (length ns) == n)) as (λ _.
    was_drained plan (Errs report ∷ ns) (error_of n (Errs report ∷ ns)) ≡ was_drained plan ns (error_of n ns)) [
      | inl now ↦
          let at : suc (length ns) ≡ n = eqb-true (suc (length ns)) n now in
          ap (λ b. was_drained plan (Errs report ∷ ns) (cond b (Some new) (error_of n ns))) now
          ∙ fate_still plan (Errs report) ns new refl ∙ newest_undrained plan ns new refl
          ∙ sym (ap (was_drained plan ns) (none_later n ns (omega (arith, at))))
      | inr earlier ↦
          ap (λ b. was_drained plan (Errs report ∷ ns) (cond b (Some new) (error_of n ns))) earlier
          ∙ drained_as plan (Errs report) ns (error_of n ns) (λ e _. fate_still plan (Errs report) ns e refl)
    ]

-- ---- A Check that publishes ----

check_elsewhere : (origin : Origin) (bank rec k b r : ℕ) (deeds : List Deed) (n : ℕ) → is_at bank rec b r ≡ false
    → is_drained origin (with_deed (deed_at bank rec k (Checks b r true)) deeds) n ≡ is_drained origin deeds n
unfolding deed_at
check_elsewhere origin bank rec k b r deeds n apart =
    ap (λ c. is_drained origin (with_deed (cond c (Some (Checked true)) None) deeds) n) apart

check_here : (origin : Origin) (bank rec k b r : ℕ) (deeds : List Deed) (n : ℕ) → is_at bank rec b r ≡ true
    → is_drained origin (with_deed (deed_at bank rec k (Checks b r true)) deeds) n
    ≡ (is_shown origin deeds n || is_drained origin deeds n)
unfolding deed_at is_drained
check_here origin bank rec k b r deeds n here =
    ap (λ c. is_drained origin (with_deed (cond c (Some (Checked true)) None) deeds) n) here

-- the numbers of a record
pub record IsSame (bank rec b r : ℕ) : Type 0 where
  pub bank_is : b ≡ bank
  pub rec_is : r ≡ rec

pub same_record : (bank rec b r : ℕ) → is_at bank rec b r ≡ true → IsSame bank rec b r
same_record bank rec b r here =
    let parts = and_parts (b == bank) (r == rec) here in
    record { bank_is = eqb-true b bank parts.0; rec_is = eqb-true r rec parts.1 }

-- it changes nothing for an error that its record doesn't show
pub check_still : (plan : Plan) (b r : ℕ) (ns : List News) (e : Error)
    → shows_at (deeds_of b r ns) e.step (origin_at plan b r) ≡ false
    → has_fate plan (Checks b r true ∷ ns) Drained e ≡ has_fate plan ns Drained e
check_still plan b r ns e off =
    let bank = e.report.bank in
    let rec = e.report.rec in
    let deeds = deeds_of bank rec ns in
    at_origin (origin_at plan bank rec) deeds (deeds_of bank rec (Checks b r true ∷ ns)) e.step
    (λ origin there. elim (cases_Bool (is_at bank rec b r)) as (λ _.
    is_drained origin (deeds_of bank rec (Checks b r true ∷ ns)) e.step ≡ is_drained origin deeds e.step) [
      | inr apart ↦ check_elsewhere origin bank rec (suc (length ns)) b r deeds e.step apart
      | inl here ↦
          let same = same_record bank rec b r here in
          let unshown : is_shown origin deeds e.step ≡ false =
          sym (ap (shows_at deeds e.step) there)
          ∙ sym (ap (λ q. shows_at (deeds_of bank q ns) e.step (origin_at plan bank q)) same.rec_is)
          ∙ sym (ap (λ c. shows_at (deeds_of c r ns) e.step (origin_at plan c r)) same.bank_is) ∙ off in
          check_here origin bank rec (suc (length ns)) b r deeds e.step here
          ∙ ap (λ s. s || is_drained origin deeds e.step) unshown
    ])

-- the error that its record shows was not drained, and is now
pub record Drains (plan : Plan) (b r : ℕ) (ns : List News) (n : ℕ) : Type 0 where
  pub error : Error
  pub made : error_of n ns ≡ Some error
  pub here : is_at b r error.report.bank error.report.rec ≡ true
  pub before : has_fate plan ns Drained error ≡ false
  pub after : has_fate plan (Checks b r true ∷ ns) Drained error ≡ true

not_both : {A : Type 0} → Claiming ≡ Publishing → A
not_both h = absurd cc

undrained : (origin : Origin) (bank rec : ℕ) (ns : List News) (plan : Plan) (n : ℕ)
    → AreOrderly plan (Checks bank rec true ∷ ns) → origin_at plan bank rec ≡ Some origin
    → is_shown origin (deeds_of bank rec ns) n ≡ true → is_drained origin (deeds_of bank rec ns) n ≡ false
unfolding deed_at
undrained origin bank rec ns plan n orderly there is =
    let deeds = deeds_of bank rec ns in
    let ok = subst (λ c. IsOrderly origin
    (with_deed (cond c (Some (Checked true)) None) deeds)) (at_itself bank rec) (orderly.each bank rec origin there) in
    elim (cases_Bool (is_drained origin deeds n)) as (λ _. is_drained origin deeds n ≡ false) [
      | inr off ↦ off
      | inl on ↦
          let way = drained_shown origin deeds n ok.2 (deeds_ordered bank rec ns).order is on in
          not_both (sym ok.0 ∙ way.at)
    ]

-- whether an error that was made for a record is drained
fate_at : (plan : Plan) (bank rec : ℕ) (ns : List News) (e : Error) (origin : Origin)
    → is_at bank rec e.report.bank e.report.rec ≡ true → origin_at plan bank rec ≡ Some origin
    → has_fate plan ns Drained e ≡ is_drained origin (deeds_of bank rec ns) e.step
unfolding has_fate_here
fate_at plan bank rec ns e origin here there =
    let same = same_record bank rec e.report.bank e.report.rec here in
    ap (λ q. has_fate_of Drained (deeds_of e.report.bank q ns) e.step (origin_at plan e.report.bank q)) same.rec_is
    ∙ ap (λ c. has_fate_of Drained (deeds_of c rec ns) e.step (origin_at plan c rec)) same.bank_is
    ∙ ap (has_fate_of Drained (deeds_of bank rec ns) e.step) there

drains_at : (plan : Plan) (bank rec : ℕ) (ns : List News) (n : ℕ) (origin : Origin)
    → AreOrderly plan (Checks bank rec true ∷ ns) → origin_at plan bank rec ≡ Some origin
    → is_shown origin (deeds_of bank rec ns) n ≡ true → Drains plan bank rec ns n
drains_at plan bank rec ns n origin orderly there is =
    let deeds = deeds_of bank rec ns in
    let x = shown_error origin deeds n is in
    let made = shown_was_made bank rec origin ns x.error x.is in
    let shown_now : is_shown origin deeds x.error.step ≡ true = ap (is_shown origin deeds) x.step ∙ is in
    record {
      error = x.error;
      made = sym (ap (λ k. error_of k ns) x.step) ∙ made.of_its_step;
      here = made.for_it;
      before = fate_at plan bank rec ns x.error origin made.for_it there
          ∙ undrained origin bank rec ns plan x.error.step orderly there shown_now;
      after = fate_at plan bank rec (Checks bank rec true ∷ ns) x.error origin made.for_it there
          ∙ check_here origin bank rec (suc (length ns)) bank rec deeds x.error.step (at_itself bank rec)
          ∙ ap (λ s. s || is_drained origin deeds x.error.step) shown_now;
    }

-- a Check that published an error drained it
pub check_drains : (plan : Plan) (bank rec : ℕ) (ns : List News) (n : ℕ)
    → AreOrderly plan (Checks bank rec true ∷ ns)
    → shows_at (deeds_of bank rec ns) n (origin_at plan bank rec) ≡ true → Drains plan bank rec ns n
check_drains plan bank rec ns n orderly is = go (origin_at plan bank rec) refl is
  where
    go : (o : Option Origin) → origin_at plan bank rec ≡ o → shows_at (deeds_of bank rec ns) n o ≡ true
        → Drains plan bank rec ns n
    go None there is = absurd (true≢false (sym is))
    go (Some origin) there is = drains_at plan bank rec ns n origin orderly there is

-- ---- How many published it ----

none_more : (x y : ℕ) → x ≡ y → ◌≡◌ {A = ℕ} (0 + x) y
none_more x y same = omega (arith, same)

check_times : (plan : Plan) (b r : ℕ) (ns : List News) (n : ℕ) → AreOrderly plan (Checks b r true ∷ ns)
    → times_published plan n ns ≡ bit (was_drained plan ns (error_of n ns))
    → times_published plan n (Checks b r true ∷ ns)
    ≡ bit (was_drained plan (Checks b r true ∷ ns) (error_of n ns))
check_times plan b r ns n orderly h =
    let now = shows_at (deeds_of b r ns) n (origin_at plan b r) in
    elim (cases_Bool now) as (λ _. bit now + times_published plan n ns
    ≡ bit (was_drained plan (Checks b r true ∷ ns) (error_of n ns))) [
      | inl is ↦
          let x = check_drains plan b r ns n orderly is in
          let before : times_published plan n ns ≡ 0 =
          h ∙ ap (λ o. bit (was_drained plan ns o)) x.made ∙ ap bit x.before in
          let after : bit (was_drained plan (Checks b r true ∷ ns) (error_of n ns)) ≡ 1 =
          ap (λ o. bit (was_drained plan (Checks b r true ∷ ns) o)) x.made ∙ ap bit x.after in
          omega (arith, before, after, ap bit is)
      | inr off ↦
          ap (λ c. bit c + times_published plan n ns) off
          ∙ none_more _ _ (h ∙ sym (ap bit (drained_as plan (Checks b r true) ns (error_of n ns)
          (λ e made. check_still plan b r ns e (ap (λ k. shows_at (deeds_of b r ns) k (origin_at plan b r))
          (came_then n ns e made).step ∙ off)))))
    ]

still : (plan : Plan) (news : News) (ns : List News) (n : ℕ) → is_no_publication news ≡ true
    → bit (was_drained plan ns (error_of n ns)) ≡ bit (was_drained plan (news ∷ ns) (error_of n ns))
still plan news ns n none =
    sym (ap bit (drained_as plan news ns (error_of n ns) (λ e _. fate_still plan news ns e none)))

-- as many as the error of the step is drained: one or none
pub times_is : (plan : Plan) (ns : List News) (n : ℕ) → AreOrderly plan ns
    → times_published plan n ns ≡ bit (was_drained plan ns (error_of n ns))
times_is plan [] n orderly = refl
times_is plan (Errs report ∷ ns) n orderly =
    none_more _ _ (times_is plan ns n (orderly_before plan (Errs report) ns orderly)
    ∙ sym (ap bit (error_drained plan report ns n)))
times_is plan (Checks b r true ∷ ns) n orderly =
    check_times plan b r ns n orderly (times_is plan ns n (orderly_before plan (Checks b r true) ns orderly))
times_is plan (Claims b r ∷ ns) n orderly =
    none_more _ _ (times_is plan ns n (orderly_before plan (Claims b r) ns orderly)
    ∙ still plan (Claims b r) ns n refl)
times_is plan (Checks b r false ∷ ns) n orderly =
    none_more _ _ (times_is plan ns n (orderly_before plan (Checks b r false) ns orderly)
    ∙ still plan (Checks b r false) ns n refl)
times_is plan (Invalidates b r ∷ ns) n orderly =
    none_more _ _ (times_is plan ns n (orderly_before plan (Invalidates b r) ns orderly)
    ∙ still plan (Invalidates b r) ns n refl)
times_is plan (Other ∷ ns) n orderly =
    none_more _ _ (times_is plan ns n (orderly_before plan Other ns orderly) ∙ still plan Other ns n refl)

bit_small : (b : Bool) → bit b ≤ 1
bit_small true = omega arith
bit_small false = omega arith

pub at_most_once : (plan : Plan) (ns : List News) (n : ℕ) → AreOrderly plan ns → times_published plan n ns ≤ 1
at_most_once plan ns n orderly =
    let is = times_is plan ns n orderly in
    let small = bit_small (was_drained plan ns (error_of n ns)) in
    omega (arith, is, small)
