-- Each error that was made has exactly one fate, where drains kept their order on each record; so the fates add up.
use Rattle.std.proofs.Common.{◌≡◌, ℕ, suc, ◌+◌, ◌==◌, ◌&&◌, ◌||◌, not, Bool, true, false, cond, List, [], ◌∷◌, length, slice_get, zero, Option, Some, None, refl, inl, inr, sym, ap, ◌∙◌, subst, arith}
use Rattle.std.specs.List.{count_by}
use Rattle.std.proofs.lemmas.Bool.{cases_Bool, true≢false, eq-eqb}
use Rattle.std.proofs.lemmas.Option.{none-some, same_Some}
use Rattle.reri_fields.specs.declared.report.Report.{Report}
use Rattle.reri_fields.specs.declared.report.Logged.{Logged}
use Rattle.reri_fields.specs.declared.report.Logged.TheVariants.{Disabled, Counted, Wrote, Kept}
use Rattle.reri_fields.specs.Records.{Error, Origin}
use Rattle.reri_fields.specs.Records.Event.{Reported, Claimed, Invalidated}
use Rattle.reri_fields.specs.Outcome.{outcome}
use Rattle.board_plan.specs.declared.plan.Plan.{Plan}
use Rattle.board_plan.specs.Fates.{Deed, Fate, News, ExactlyOne, told, is_shown, is_answered, is_drained, is_written_over, says_disabled, says_counted, says_wrote, says_kept, has_fate_here, has_fate_of, is_stray, has_fate, deed_at, deeds_of, with_deed, error_at, is_at, origin_at}
use Rattle.board_plan.specs.Fates.Deed.{Was, Checked}
use Rattle.board_plan.specs.Fates.Fate.{Stray, WasDisabled, WasCounted, WasKept, Drained, Overwritten, Stands}
use Rattle.board_plan.specs.Fates.News.{Errs, Claims, Checks, Invalidates, Other}
use Rattle.board_fates.proofs.Places.{deeds_ordered, bit, count_next}
use Rattle.board_fates.proofs.Shown.{later_unanswered}
use Rattle.board_fates.proofs.Numbers.{at_itself}
use Rattle.fate_laws.proofs.Orderly.{IsOrderly, Course, course, or_none}
use Rattle.fate_laws.proofs.Orderly.Course.{wrote_not, drains, lost, stands}
use Rattle.fate_laws.proofs.Made.{error_of, newer_apart, came_then}

-- ---- All records ----

-- drains kept their order on each record that the plan has
pub record AreOrderly (plan : Plan) (ns : List News) : Type 0 where
  pub each : (bank rec : ℕ) (origin : Origin) → origin_at plan bank rec ≡ Some origin
      → IsOrderly origin (deeds_of bank rec ns)

deeds_before : (origin : Origin) (o : Option Deed) (deeds : List Deed) → IsOrderly origin (with_deed o deeds)
    → IsOrderly origin deeds
deeds_before origin None deeds h = h
deeds_before origin (Some (Was (Reported e))) deeds h = h
deeds_before origin (Some (Was Claimed)) deeds h = h.1
deeds_before origin (Some (Was Invalidated)) deeds h = h.1
deeds_before origin (Some (Checked published)) deeds h = h.2

pub orderly_before : (plan : Plan) (news : News) (ns : List News) → AreOrderly plan (news ∷ ns) → AreOrderly plan ns
orderly_before plan news ns h =
    record {
      each = λ bank rec origin there.
          deeds_before origin (deed_at bank rec (suc (length ns)) news) (deeds_of bank rec ns)
          (h.each bank rec origin there);
    }

-- ---- What became of an error when it was logged ----

-- one outcome, which each test of it is asked of
pub record Answered (origin : Origin) (deeds : List Deed) (step : ℕ) : Type 0 where
  pub logged : Logged
  pub is : (test : Logged → Bool) → is_answered test origin deeds step ≡ test logged

answered_still : (test : Logged → Bool) (origin : Origin) (bank rec k : ℕ) (news : News) (deeds : List Deed) (step : ℕ)
    → (k == step) ≡ false
    → is_answered test origin (with_deed (deed_at bank rec k news) deeds) step ≡ is_answered test origin deeds step
unfolding is_answered deed_at
answered_still test origin bank rec k (Errs report) deeds step apart =
    let e = error_at k report in
    elim (is_at bank rec report.bank report.rec) as (λ b. is_answered test origin
    (with_deed (cond b (Some (Was (Reported e))) None) deeds) step ≡ is_answered test origin deeds step) [
      | true ↦ ap (λ b. (b && test (outcome origin (told deeds) e)) || is_answered test origin deeds step) apart
      | false ↦ refl
    ]
answered_still test origin bank rec k (Claims b r) deeds step apart =
    elim (is_at bank rec b r) as (λ c. is_answered test origin (with_deed (cond c (Some (Was Claimed)) None) deeds) step
    ≡ is_answered test origin deeds step) [ true ↦ refl | false ↦ refl ]
answered_still test origin bank rec k (Checks b r published) deeds step apart =
    elim (is_at bank rec b r) as (λ c.
    is_answered test origin (with_deed (cond c (Some (Checked published)) None) deeds) step
    ≡ is_answered test origin deeds step) [ true ↦ refl | false ↦ refl ]
answered_still test origin bank rec k (Invalidates b r) deeds step apart =
    elim (is_at bank rec b r) as (λ c. is_answered test origin
    (with_deed (cond c (Some (Was Invalidated)) None) deeds) step
    ≡ is_answered test origin deeds step) [ true ↦ refl | false ↦ refl ]
answered_still test origin bank rec k Other deeds step apart = refl

still_answered : (origin : Origin) (bank rec : ℕ) (news : News) (ns : List News) (e : Error)
    → error_of e.step ns ≡ Some e → Answered origin (deeds_of bank rec ns) e.step
    → Answered origin (deeds_of bank rec (news ∷ ns)) e.step
still_answered origin bank rec news ns e made h =
    record {
      logged = h.logged;
      is = λ test.
          answered_still test origin bank rec (suc (length ns)) news (deeds_of bank rec ns) e.step
          (newer_apart (length ns) e.step (came_then e.step ns e made).low) ∙ h.is test;
    }

newest_answered : (origin : Origin) (bank rec : ℕ) (report : Report) (ns : List News)
    → is_at bank rec report.bank report.rec ≡ true
    → Answered origin (deeds_of bank rec (Errs report ∷ ns)) (suc (length ns))
unfolding is_answered deed_at
newest_answered origin bank rec report ns here =
    let e = error_at (suc (length ns)) report in
    let deeds = deeds_of bank rec ns in
    subst (λ ds. Answered origin ds (suc (length ns)))
    (sym (ap (λ b. with_deed (cond b (Some (Was (Reported e))) None) deeds) here))
    (record {
      logged = outcome origin (told deeds) e;
      is = λ test.
          ap (λ b. (b && test (outcome origin (told deeds) e)) || is_answered test origin deeds (suc (length ns)))
          (eq-eqb (suc (length ns)) (suc (length ns)) refl)
          ∙ or_none (test (outcome origin (told deeds) e)) (is_answered test origin deeds (suc (length ns)))
          (later_unanswered test origin deeds (suc (length ns)) (deeds_ordered bank rec ns).before);
    })

-- of an error that was made, where its own record is looked at
answered : (origin : Origin) (bank rec : ℕ) (ns : List News) (e : Error) → error_of e.step ns ≡ Some e
    → is_at bank rec e.report.bank e.report.rec ≡ true → Answered origin (deeds_of bank rec ns) e.step
answered origin bank rec [] e made here = absurd (none-some e made)
answered origin bank rec (Errs report ∷ ns) e made here =
    let new = error_at (suc (length ns)) report in
    elim (cases_Bool (suc (length ns) == e.step)) as (λ _. Answered origin
    (deeds_of bank rec (Errs report ∷ ns)) e.step) [
      | inl now ↦
          let same : new ≡ e =
          same_Some new e (sym (ap (λ b. cond b (Some new) (error_of e.step ns)) now) ∙ made) in
          subst (λ (x : Error). Answered origin (deeds_of bank rec (Errs report ∷ ns)) x.step) same
          (newest_answered origin bank rec report ns
          (ap (λ (x : Error). is_at bank rec x.report.bank x.report.rec) same ∙ here))
      | inr earlier ↦
          let older = sym (ap (λ b. cond b (Some new) (error_of e.step ns)) earlier) ∙ made in
          still_answered origin bank rec (Errs report) ns e older (answered origin bank rec ns e older here)
    ]
answered origin bank rec (Claims b r ∷ ns) e made here =
    still_answered origin bank rec (Claims b r) ns e made (answered origin bank rec ns e made here)
answered origin bank rec (Checks b r published ∷ ns) e made here =
    still_answered origin bank rec (Checks b r published) ns e made (answered origin bank rec ns e made here)
answered origin bank rec (Invalidates b r ∷ ns) e made here =
    still_answered origin bank rec (Invalidates b r) ns e made (answered origin bank rec ns e made here)
answered origin bank rec (Other ∷ ns) e made here =
    still_answered origin bank rec Other ns e made (answered origin bank rec ns e made here)

-- ---- One fate ----

-- exactly one, and so the seven tests add up to one
pub record HasOne (has : Fate → Bool) : Type 0 where
  pub one : ExactlyOne has
  pub sum : bit (has Stray) + bit (has WasDisabled) + bit (has WasCounted) + bit (has Drained) + bit (has Overwritten)
      + bit (has WasKept) + bit (has Stands) ≡ 1

-- the fate by the outcome of logging and by what is so of the record
abbrev fate_by : Logged → Bool → Bool → Bool → Fate → Bool
fate_by logged drained over shown Stray = false
fate_by logged drained over shown WasDisabled = says_disabled logged
fate_by logged drained over shown WasCounted = says_counted logged
fate_by logged drained over shown WasKept = says_kept logged
fate_by logged drained over shown Drained = drained
fate_by logged drained over shown Overwritten = says_wrote logged && over
fate_by logged drained over shown Stands = shown && not drained

only_disabled : (f : Fate) → fate_by Disabled false false false f ≡ true → f ≡ WasDisabled
only_disabled WasDisabled h = refl
only_disabled f h = absurd (true≢false (sym h))

only_counted : (f : Fate) → fate_by Counted false false false f ≡ true → f ≡ WasCounted
only_counted WasCounted h = refl
only_counted f h = absurd (true≢false (sym h))

only_kept : (f : Fate) → fate_by Kept false false false f ≡ true → f ≡ WasKept
only_kept WasKept h = refl
only_kept f h = absurd (true≢false (sym h))

only_drained : (level : ℕ) (shown : Bool) (f : Fate) → fate_by (Wrote level) true false shown f ≡ true → f ≡ Drained
only_drained level shown Drained h = refl
only_drained level true f h = absurd (true≢false (sym h))
only_drained level false f h = absurd (true≢false (sym h))

only_over : (level : ℕ) (f : Fate) → fate_by (Wrote level) false true false f ≡ true → f ≡ Overwritten
only_over level Overwritten h = refl
only_over level f h = absurd (true≢false (sym h))

only_stands : (level : ℕ) (f : Fate) → fate_by (Wrote level) false false true f ≡ true → f ≡ Stands
only_stands level Stands h = refl
only_stands level f h = absurd (true≢false (sym h))

one_by : (logged : Logged) (drained over shown : Bool) → Course (says_wrote logged) drained over shown
    → HasOne (fate_by logged drained over shown)
one_by Disabled d o s wrote_not = record { one = (WasDisabled, refl, only_disabled); sum = refl }
one_by Counted d o s wrote_not = record { one = (WasCounted, refl, only_counted); sum = refl }
one_by Kept d o s wrote_not = record { one = (WasKept, refl, only_kept); sum = refl }
one_by (Wrote level) d o s (drains true) = record { one = (Drained, refl, only_drained level true); sum = refl }
one_by (Wrote level) d o s (drains false) = record { one = (Drained, refl, only_drained level false); sum = refl }
one_by (Wrote level) d o s lost = record { one = (Overwritten, refl, only_over level); sum = refl }
one_by (Wrote level) d o s stands = record { one = (Stands, refl, only_stands level); sum = refl }

fate_is : (origin : Origin) (deeds : List Deed) (step : ℕ) (a : Answered origin deeds step) (f : Fate)
    → fate_by a.logged (is_drained origin deeds step) (is_written_over origin deeds step)
    (is_shown origin deeds step) f ≡ has_fate_here f origin deeds step
unfolding has_fate_here
fate_is origin deeds step a Stray = refl
fate_is origin deeds step a WasDisabled = sym (a.is says_disabled)
fate_is origin deeds step a WasCounted = sym (a.is says_counted)
fate_is origin deeds step a WasKept = sym (a.is says_kept)
fate_is origin deeds step a Drained = refl
fate_is origin deeds step a Overwritten = ap (λ b. b && is_written_over origin deeds step) (sym (a.is says_wrote))
fate_is origin deeds step a Stands = refl

one_here : (origin : Origin) (deeds : List Deed) (step : ℕ) → Answered origin deeds step
    → Course (is_answered says_wrote origin deeds step) (is_drained origin deeds step)
    (is_written_over origin deeds step) (is_shown origin deeds step)
    → HasOne (λ f. has_fate_here f origin deeds step)
one_here origin deeds step a h =
    let d = is_drained origin deeds step in
    let over = is_written_over origin deeds step in
    let s = is_shown origin deeds step in
    let same : fate_by a.logged d over s ≡ (λ f. has_fate_here f origin deeds step) =
    λ i. λ f. fate_is origin deeds step a f i in
    subst HasOne same
    (one_by a.logged d over s (subst (λ w. Course w d over s) (a.is says_wrote) h))

only_stray : (f : Fate) → is_stray f ≡ true → f ≡ Stray
only_stray Stray h = refl
only_stray f h = absurd (true≢false (sym h))

one_at : (deeds : List Deed) (step : ℕ) (o : Option Origin)
    → ((origin : Origin) → o ≡ Some origin → HasOne (λ f. has_fate_here f origin deeds step))
    → HasOne (λ f. has_fate_of f deeds step o)
one_at deeds step None h = record { one = (Stray, refl, only_stray); sum = refl }
one_at deeds step (Some origin) h = h origin refl

-- each error that was made has exactly one fate
pub has_one_fate : (plan : Plan) (ns : List News) (e : Error) → AreOrderly plan ns → error_of e.step ns ≡ Some e
    → HasOne (λ f. has_fate plan ns f e)
has_one_fate plan ns e orderly made =
    let bank = e.report.bank in
    let rec = e.report.rec in
    one_at (deeds_of bank rec ns) e.step (origin_at plan bank rec)
    (λ origin there.
    one_here origin (deeds_of bank rec ns) e.step (answered origin bank rec ns e made (at_itself bank rec))
    (course origin (deeds_of bank rec ns) e.step (orderly.each bank rec origin there)
    (deeds_ordered bank rec ns).order))

-- ---- The fates add up ----

-- over a list of errors with one fate each, the numbers that have each fate make its length
pub seven_make_all : (has : Fate → Error → Bool) (es : List Error)
    → ((i : ℕ) (e : Error) → slice_get es i ≡ Some e → HasOne (λ f. has f e))
    → length es ≡ count_by (has Stray) es + count_by (has WasDisabled) es + count_by (has WasCounted) es
    + count_by (has Drained) es + count_by (has Overwritten) es + count_by (has WasKept) es + count_by (has Stands) es
seven_make_all has [] each = refl
seven_make_all has (e ∷ es) each =
    omega (
      arith,
      seven_make_all has es (λ i x is. each (suc i) x is),
      (each zero e refl).sum,
      count_next (has Stray) e es,
      count_next (has WasDisabled) e es,
      count_next (has WasCounted) e es,
      count_next (has Drained) e es,
      count_next (has Overwritten) e es,
      count_next (has WasKept) e es,
      count_next (has Stands) e es,
    )
