-- What a record shows after one deed more, and what is so of an error that it shows.
use Rattle.std.proofs.Common.{◌≡◌, ℕ, ◌<◌, ◌==◌, ◌&&◌, ◌||◌, not, Bool, true, false, List, [], ◌∷◌, Option, Some, None, refl, inl, inr, sym, ap, ◌∙◌, subst, arith}
use Rattle.std.proofs.lemmas.Bool.{cases_Bool, true≢false, eqb-true, and_from, or_left, or_right, or_from}
use Rattle.std.proofs.lemmas.Bool.Decides.{nat_tests}
use Rattle.reri_fields.specs.declared.report.Logged.{Logged}
use Rattle.reri_fields.specs.Fields.{control_fields}
use Rattle.reri_fields.specs.Records.{Error, Event, Origin, AllBefore, AreInOrder, came_at, is_counted, is_logged, shown, since, in_progress}
use Rattle.reri_fields.specs.Records.Event.{Reported, Claimed, Invalidated}
use Rattle.reri_fields.specs.Outcome.{outcome, wrote}
use Rattle.reri_log.proofs.Errors.{StepsBelow, found_before}
use Rattle.reri_log.proofs.Histories.{since_before}
use Rattle.reri_log.proofs.Claims.{effect_of}
use Rattle.reri_log.proofs.Claims.Effect.{passes, writes_it, is_kept}
use Rattle.board_plan.specs.Fates.{Deed, told, is_shown, is_answered, is_drained, is_written_over, says_wrote}
use Rattle.board_plan.specs.Fates.Deed.{Was, Checked}

-- ---- What a record shows after an error ----

-- an error writes the record and is shown, or leaves what is shown
pub data Comes (origin : Origin) (history : List Event) (e : Error) : Type 0 where
  writes : wrote origin history e ≡ true → shown (since origin (Reported e ∷ history)) ≡ Some e
      → Comes origin history e
  leaves : wrote origin history e ≡ false → shown (since origin (Reported e ∷ history)) ≡ shown (since origin history)
      → Comes origin history e

pub comes : (origin : Origin) (history : List Event) (e : Error) → AllBefore e.step history → Comes origin history e
comes origin history e early =
    elim (effect_of origin history e early) as (λ _. Comes origin history e) [
      | passes off same _ ↦ leaves off (ap shown same)
      | writes_it it _ _ is _ ↦ writes it is
      | is_kept off _ _ is _ _ ↦ leaves off is
    ]

-- logging an error says that it wrote exactly where it did
unlogged : (origin : Origin) (history : List Event) (e : Error) → (control_fields origin.control).enable ≡ false
    → is_logged origin history e.report ≡ false
unfolding is_logged is_counted
unlogged origin history e off = rw off refl

unwritten : (origin : Origin) (history : List Event) (e : Error) → is_logged origin history e.report ≡ false
    → wrote origin history e ≡ false
unfolding wrote
unwritten origin history e off = rw off refl

pub says_it_wrote : (origin : Origin) (history : List Event) (e : Error)
    → says_wrote (outcome origin history e) ≡ wrote origin history e
unfolding outcome
says_it_wrote origin history e =
    elim (cases_Bool (control_fields origin.control).enable) as (λ _. says_wrote (outcome origin history e)
    ≡ wrote origin history e) [
      | inr off ↦ rw off (sym (unwritten origin history e (unlogged origin history e off)))
      | inl on ↦
          elim (cases_Bool (is_logged origin history e.report)) as (λ _. says_wrote (outcome origin history e)
          ≡ wrote origin history e) [
            | inr counted ↦ rw (on, counted) (sym (unwritten origin history e counted))
            | inl logged ↦
                elim (cases_Bool (wrote origin history e)) as (λ _. says_wrote (outcome origin history e)
                ≡ wrote origin history e) [ inl it ↦ rw (on, logged, it) refl | inr kept ↦ rw (on, logged, kept) refl ]
          ]
    ]

-- ---- Errors that are still to come ----

found_is : (xs : List Error) (x : Error) (step : ℕ) → shown xs ≡ Some x → StepsBelow step xs → x.step < step
unfolding shown
found_is xs x step is below = found_before step _ xs x below is

pub shown_before : (origin : Origin) (deeds : List Deed) (step : ℕ) (x : Error) → AllBefore step (told deeds)
    → shown (since origin (told deeds)) ≡ Some x → x.step < step
shown_before origin deeds step x early is =
    found_is (since origin (told deeds)) x step is (since_before step origin (told deeds) early)

not_come : (o : Option Error) (n : ℕ) → ((x : Error) → o ≡ Some x → x.step < n) → came_at n o ≡ false
unfolding came_at
not_come None n before = refl
not_come (Some x) n before = let less : x.step < n = before x refl in grind (arith, nat_tests)

pub later_unshown : (origin : Origin) (deeds : List Deed) (step : ℕ) → AllBefore step (told deeds)
    → is_shown origin deeds step ≡ false
unfolding is_shown
later_unshown origin deeds step early =
    not_come (shown (since origin (told deeds))) step (λ x is. shown_before origin deeds step x early is)

pub later_unanswered : (test : Logged → Bool) (origin : Origin) (deeds : List Deed) (step : ℕ)
    → AllBefore step (told deeds) → is_answered test origin deeds step ≡ false
unfolding is_answered
later_unanswered test origin [] step early = refl
later_unanswered test origin (Was (Reported e) ∷ deeds) step early =
    let less : e.step < step = early.0 in
    let differ : (e.step == step) ≡ false = grind (arith, nat_tests) in
    rw differ (later_unanswered test origin deeds step early.1)
later_unanswered test origin (Was Claimed ∷ deeds) step early = later_unanswered test origin deeds step early
later_unanswered test origin (Was Invalidated ∷ deeds) step early = later_unanswered test origin deeds step early
later_unanswered test origin (Checked published ∷ deeds) step early = later_unanswered test origin deeds step early

pub later_undrained : (origin : Origin) (deeds : List Deed) (step : ℕ) → AllBefore step (told deeds)
    → is_drained origin deeds step ≡ false
unfolding is_drained
later_undrained origin [] step early = refl
later_undrained origin (Was (Reported e) ∷ deeds) step early = later_undrained origin deeds step early.1
later_undrained origin (Was Claimed ∷ deeds) step early = later_undrained origin deeds step early
later_undrained origin (Was Invalidated ∷ deeds) step early = later_undrained origin deeds step early
later_undrained origin (Checked true ∷ deeds) step early =
    or_from (is_shown origin deeds step) (is_drained origin deeds step) (later_unshown origin deeds step early)
    (later_undrained origin deeds step early)
later_undrained origin (Checked false ∷ deeds) step early = later_undrained origin deeds step early

-- nothing is written over that is not shown
pub not_shown : (w s d o : Bool) → s ≡ false → o ≡ false → ((w && s && not d) || o) ≡ false
not_shown true true d o s_is o_is = absurd (true≢false s_is)
not_shown true false d o s_is o_is = o_is
not_shown false s d o s_is o_is = o_is

pub later_not_over : (origin : Origin) (deeds : List Deed) (step : ℕ) → AllBefore step (told deeds)
    → is_written_over origin deeds step ≡ false
unfolding is_written_over
later_not_over origin [] step early = refl
later_not_over origin (Was (Reported e) ∷ deeds) step early =
    not_shown (wrote origin (told deeds) e) (is_shown origin deeds step) (is_drained origin deeds step)
    (is_written_over origin deeds step) (later_unshown origin deeds step early.1)
    (later_not_over origin deeds step early.1)
later_not_over origin (Was Claimed ∷ deeds) step early = later_not_over origin deeds step early
later_not_over origin (Was Invalidated ∷ deeds) step early = later_not_over origin deeds step early
later_not_over origin (Checked published ∷ deeds) step early = later_not_over origin deeds step early

-- ---- What is shown after one deed more ----

pub shown_written : (origin : Origin) (deeds : List Deed) (e : Error) (n : ℕ)
    → shown (since origin (Reported e ∷ told deeds)) ≡ Some e
    → is_shown origin (Was (Reported e) ∷ deeds) n ≡ (e.step == n)
unfolding is_shown came_at
shown_written origin deeds e n is = ap (came_at n) is

pub shown_left : (origin : Origin) (deeds : List Deed) (e : Error) (n : ℕ)
    → shown (since origin (Reported e ∷ told deeds)) ≡ shown (since origin (told deeds))
    → is_shown origin (Was (Reported e) ∷ deeds) n ≡ is_shown origin deeds n
unfolding is_shown
shown_left origin deeds e n is = ap (came_at n) is

pub none_shown : (origin : Origin) (history : List Event) → in_progress origin history ≡ true
    → shown (since origin (Invalidated ∷ history)) ≡ None
unfolding since shown
none_shown origin history on = rw on refl

pub same_shown : (origin : Origin) (history : List Event) → in_progress origin history ≡ false
    → shown (since origin (Invalidated ∷ history)) ≡ shown (since origin history)
unfolding since
same_shown origin history off = rw off refl

pub shown_cleared : (origin : Origin) (deeds : List Deed) (n : ℕ) → in_progress origin (told deeds) ≡ true
    → is_shown origin (Was Invalidated ∷ deeds) n ≡ false
unfolding is_shown came_at
shown_cleared origin deeds n on = ap (came_at n) (none_shown origin (told deeds) on)

pub shown_stood : (origin : Origin) (deeds : List Deed) (n : ℕ) → in_progress origin (told deeds) ≡ false
    → is_shown origin (Was Invalidated ∷ deeds) n ≡ is_shown origin deeds n
unfolding is_shown
shown_stood origin deeds n off = ap (came_at n) (same_shown origin (told deeds) off)

pub shown_claimed : (origin : Origin) (deeds : List Deed) (n : ℕ)
    → is_shown origin (Was Claimed ∷ deeds) n ≡ is_shown origin deeds n
unfolding is_shown since
shown_claimed origin deeds n = refl

pub shown_checked : (origin : Origin) (deeds : List Deed) (published : Bool) (n : ℕ)
    → is_shown origin (Checked published ∷ deeds) n ≡ is_shown origin deeds n
unfolding is_shown
shown_checked origin deeds published n = refl

pub shown_at_first : (origin : Origin) (n : ℕ) → is_shown origin [] n ≡ false
unfolding is_shown since shown came_at
shown_at_first origin n = refl

-- ---- What is so of an error that is shown ----

-- it wrote the record
pub shown_wrote : (origin : Origin) (deeds : List Deed) (n : ℕ) → AreInOrder (told deeds)
    → is_shown origin deeds n ≡ true → is_answered says_wrote origin deeds n ≡ true
unfolding is_answered
shown_wrote origin [] n order is = absurd (true≢false (sym is ∙ shown_at_first origin n))
shown_wrote origin (Was (Reported e) ∷ deeds) n order is =
    let here = (e.step == n) && says_wrote (outcome origin (told deeds) e) in
    let before = is_answered says_wrote origin deeds n in
    elim (comes origin (told deeds) e order.0) as (λ _. (here || before) ≡ true) [
      | writes it at ↦
          or_left here before (and_from (e.step == n) (says_wrote (outcome origin (told deeds) e))
          (sym (shown_written origin deeds e n at) ∙ is) (says_it_wrote origin (told deeds) e ∙ it))
      | leaves off at ↦
          or_right here before (shown_wrote origin deeds n order.1 (sym (shown_left origin deeds e n at) ∙ is))
    ]
shown_wrote origin (Was Claimed ∷ deeds) n order is =
    shown_wrote origin deeds n order (sym (shown_claimed origin deeds n) ∙ is)
shown_wrote origin (Was Invalidated ∷ deeds) n order is =
    elim (cases_Bool (in_progress origin (told deeds))) as (λ _. is_answered says_wrote origin deeds n ≡ true) [
      | inl on ↦ absurd (true≢false (sym is ∙ shown_cleared origin deeds n on))
      | inr off ↦ shown_wrote origin deeds n order (sym (shown_stood origin deeds n off) ∙ is)
    ]
shown_wrote origin (Checked published ∷ deeds) n order is =
    shown_wrote origin deeds n order (sym (shown_checked origin deeds published n) ∙ is)

not_written : (w s d o : Bool) → w ≡ false → o ≡ false → ((w && s && not d) || o) ≡ false
not_written true s d o w_is o_is = absurd (true≢false w_is)
not_written false s d o w_is o_is = o_is

-- it has not been written over
pub shown_not_over : (origin : Origin) (deeds : List Deed) (n : ℕ) → AreInOrder (told deeds)
    → is_shown origin deeds n ≡ true → is_written_over origin deeds n ≡ false
unfolding is_written_over
shown_not_over origin [] n order is = refl
shown_not_over origin (Was (Reported e) ∷ deeds) n order is =
    let w = wrote origin (told deeds) e in
    let s = is_shown origin deeds n in
    let d = is_drained origin deeds n in
    let over = is_written_over origin deeds n in
    elim (comes origin (told deeds) e order.0) as (λ _. ((w && s && not d) || over) ≡ false) [
      | writes it at ↦
          let same : e.step ≡ n = eqb-true e.step n (sym (shown_written origin deeds e n at) ∙ is) in
          let early : AllBefore n (told deeds) = subst (λ k. AllBefore k (told deeds)) same order.0 in
          not_shown w s d over (later_unshown origin deeds n early) (later_not_over origin deeds n early)
      | leaves off at ↦
          not_written w s d over off (shown_not_over origin deeds n order.1 (sym (shown_left origin deeds e n at) ∙ is))
    ]
shown_not_over origin (Was Claimed ∷ deeds) n order is =
    shown_not_over origin deeds n order (sym (shown_claimed origin deeds n) ∙ is)
shown_not_over origin (Was Invalidated ∷ deeds) n order is =
    elim (cases_Bool (in_progress origin (told deeds))) as (λ _. is_written_over origin deeds n ≡ false) [
      | inl on ↦ absurd (true≢false (sym is ∙ shown_cleared origin deeds n on))
      | inr off ↦ shown_not_over origin deeds n order (sym (shown_stood origin deeds n off) ∙ is)
    ]
shown_not_over origin (Checked published ∷ deeds) n order is =
    shown_not_over origin deeds n order (sym (shown_checked origin deeds published n) ∙ is)
