-- The order in which drains act on a record, and what is so of each error of a record on which they kept it.
use Rattle.std.proofs.Common.{◌≡◌, ℕ, ◌==◌, ◌&&◌, ◌||◌, not, Bool, true, false, List, [], ◌∷◌, Some, refl, inl, inr, sym, ap, ◌∙◌, subst}
use Rattle.std.proofs.lemmas.Bool.{cases_Bool, true≢false, eqb-true, and_parts, or_left}
use Rattle.reri_fields.specs.Records.{Error, Origin, AllBefore, AreInOrder, shown, since, in_progress}
use Rattle.reri_fields.specs.Records.Event.{Reported, Claimed, Invalidated}
use Rattle.reri_fields.specs.Outcome.{outcome, wrote}
use Rattle.reri_log.proofs.Claims.{in_progress_reported}
use Rattle.board_plan.specs.Fates.{Deed, told, is_shown, is_answered, is_drained, is_written_over, says_wrote}
use Rattle.board_plan.specs.Fates.Deed.{Was, Checked}
use Rattle.board_fates.proofs.Shown.{comes, says_it_wrote, later_unshown, later_unanswered, later_undrained, later_not_over, not_shown, shown_written, shown_left, shown_claimed, shown_checked, shown_cleared, shown_stood, shown_at_first}
use Rattle.board_fates.proofs.Shown.Comes.{writes, leaves}

-- ---- The order of deeds ----

-- how far a drain has come with a record: not begun or done with it, claimed it, published it
pub data Stage : Type 0 where
  Idle : Stage
  Claiming : Stage
  Publishing : Stage

abbrev pub after_check : Bool → Stage
after_check true = Publishing
after_check false = Idle

-- errors pass a drain by
abbrev pub stage : List Deed → Stage
stage [] = Idle
stage (Was (Reported error) ∷ deeds) = stage deeds
stage (Was Claimed ∷ deeds) = Claiming
stage (Was Invalidated ∷ deeds) = Idle
stage (Checked published ∷ deeds) = after_check published

-- only a record that no drain has claimed yet is claimed; a Check is of a claimed record, and publishes where the claim
-- still counts; and only what was published is invalidated
abbrev pub IsOrderly : Origin → List Deed → Type 0
IsOrderly origin [] = Unit {0}
IsOrderly origin (Was (Reported error) ∷ deeds) = IsOrderly origin deeds
IsOrderly origin (Was Claimed ∷ deeds) = (stage deeds ≡ Idle) × IsOrderly origin deeds
IsOrderly origin (Was Invalidated ∷ deeds) = (stage deeds ≡ Publishing) × IsOrderly origin deeds
IsOrderly origin (Checked published ∷ deeds) =
    (stage deeds ≡ Claiming) × (published ≡ in_progress origin (told deeds)) × IsOrderly origin deeds

not_publishing : {A : Type 0} → Idle ≡ Publishing → A
not_publishing h = absurd cc

not_claiming : {A : Type 0} → Claiming ≡ Publishing → A
not_claiming h = absurd cc

-- ---- Shown and published ----

-- what an error leaves of a claim that still counts after it
claim_before : (origin : Origin) (deeds : List Deed) (e : Error)
    → in_progress origin (Reported e ∷ told deeds) ≡ true
    → (in_progress origin (told deeds) ≡ true) × (not (wrote origin (told deeds) e) ≡ true)
claim_before origin deeds e on =
    and_parts (in_progress origin (told deeds)) (not (wrote origin (told deeds) e))
    (sym (in_progress_reported origin (told deeds) e) ∙ on)

claim_after : (origin : Origin) (deeds : List Deed) (e : Error) → wrote origin (told deeds) e ≡ false
    → in_progress origin (told deeds) ≡ true → in_progress origin (Reported e ∷ told deeds) ≡ true
claim_after origin deeds e off on =
    in_progress_reported origin (told deeds) e
    ∙ ap (λ b. b && not (wrote origin (told deeds) e)) on ∙ ap not off

-- while a drain is about to invalidate what it published, and no error wrote since, the record shows a published error
pub publishing_drained : (origin : Origin) (deeds : List Deed) (n : ℕ) → IsOrderly origin deeds
    → AreInOrder (told deeds) → stage deeds ≡ Publishing → in_progress origin (told deeds) ≡ true
    → is_shown origin deeds n ≡ true → is_drained origin deeds n ≡ true
unfolding is_drained
publishing_drained origin [] n ok order at on is = not_publishing at
publishing_drained origin (Was (Reported e) ∷ deeds) n ok order at on is =
    let before = claim_before origin deeds e on in
    elim (comes origin (told deeds) e order.0) as (λ _. is_drained origin deeds n ≡ true) [
      | writes it _ ↦ absurd (true≢false (sym before.1 ∙ ap not it))
      | leaves _ same ↦
          publishing_drained origin deeds n ok order.1 at before.0 (sym (shown_left origin deeds e n same) ∙ is)
    ]
publishing_drained origin (Was Claimed ∷ deeds) n ok order at on is = not_claiming at
publishing_drained origin (Was Invalidated ∷ deeds) n ok order at on is = not_publishing at
publishing_drained origin (Checked true ∷ deeds) n ok order at on is =
    or_left (is_shown origin deeds n) (is_drained origin deeds n) (sym (shown_checked origin deeds true n) ∙ is)
publishing_drained origin (Checked false ∷ deeds) n ok order at on is = not_publishing at

-- a drain is about to invalidate the record, and no error wrote since it claimed it
pub record IsUnderWay (origin : Origin) (deeds : List Deed) : Type 0 where
  pub at : stage deeds ≡ Publishing
  pub on : in_progress origin (told deeds) ≡ true

-- a record that shows a published error is such
pub drained_shown : (origin : Origin) (deeds : List Deed) (n : ℕ) → IsOrderly origin deeds → AreInOrder (told deeds)
    → is_shown origin deeds n ≡ true → is_drained origin deeds n ≡ true → IsUnderWay origin deeds
unfolding is_drained
drained_shown origin [] n ok order is drained = absurd (true≢false (sym drained))
drained_shown origin (Was (Reported e) ∷ deeds) n ok order is drained =
    elim (comes origin (told deeds) e order.0) as (λ _. IsUnderWay origin (Was (Reported e) ∷ deeds)) [
      | writes _ at ↦
          let same : e.step ≡ n = eqb-true e.step n (sym (shown_written origin deeds e n at) ∙ is) in
          let early : AllBefore n (told deeds) = subst (λ k. AllBefore k (told deeds)) same order.0 in
          absurd (true≢false (sym drained ∙ later_undrained origin deeds n early))
      | leaves off at ↦
          let h = drained_shown origin deeds n ok order.1 (sym (shown_left origin deeds e n at) ∙ is) drained in
          record { at = h.at; on = claim_after origin deeds e off h.on }
    ]
drained_shown origin (Was Claimed ∷ deeds) n ok order is drained =
    let h = drained_shown origin deeds n ok.1 order (sym (shown_claimed origin deeds n) ∙ is) drained in
    not_publishing (sym ok.0 ∙ h.at)
drained_shown origin (Was Invalidated ∷ deeds) n ok order is drained =
    elim (cases_Bool (in_progress origin (told deeds))) as (λ _. IsUnderWay origin (Was Invalidated ∷ deeds)) [
      | inl on ↦ absurd (true≢false (sym is ∙ shown_cleared origin deeds n on))
      | inr off ↦
          let h = drained_shown origin deeds n ok.1 order (sym (shown_stood origin deeds n off) ∙ is) drained in
          absurd (true≢false (sym h.on ∙ off))
    ]
drained_shown origin (Checked true ∷ deeds) n ok order is drained = record { at = refl; on = sym ok.1 }
drained_shown origin (Checked false ∷ deeds) n ok order is drained =
    let h = drained_shown origin deeds n ok.2 order (sym (shown_checked origin deeds false n) ∙ is) drained in
    not_claiming (sym ok.0 ∙ h.at)

-- ---- What an error comes to ----

-- whether it wrote its record, a Check published it, it was written over, it is shown: all that can be at once
pub data Course : Bool → Bool → Bool → Bool → Type 0 where
  wrote_not : Course false false false false
  drains : (shown : Bool) → Course true true false shown
  lost : Course true false true false
  stands : Course true false false true

course_as : {w d o s x e p t : Bool} → x ≡ w → e ≡ d → p ≡ o → t ≡ s → Course w d o s → Course x e p t
course_as {w} {d} {o} {s} {x} {e} {p} {t} a b c f h =
    subst (λ q. Course q e p t) (sym a)
    (subst (λ q. Course w q p t) (sym b) (subst (λ q. Course w d q t) (sym c) (subst (λ q. Course w d o q) (sym f) h)))

after_write : {w d o s : Bool} → Course w d o s → Course w d ((true && s && not d) || o) false
after_write wrote_not = wrote_not
after_write (drains true) = drains false
after_write (drains false) = drains false
after_write lost = lost
after_write stands = lost

after_publishing : {w d o s : Bool} → Course w d o s → Course w (s || d) o s
after_publishing wrote_not = wrote_not
after_publishing (drains true) = drains true
after_publishing (drains false) = drains false
after_publishing lost = lost
after_publishing stands = drains true

after_clearing : {w d o s : Bool} → (s ≡ true → d ≡ true) → Course w d o s → Course w d o false
after_clearing h wrote_not = wrote_not
after_clearing h (drains shown) = drains false
after_clearing h lost = lost
after_clearing h stands = absurd (true≢false (sym (h refl)))

pub or_none : (a b : Bool) → b ≡ false → (a || b) ≡ a
or_none true b h = refl
or_none false b h = h

abbrev HasCourse : Origin → List Deed → ℕ → Type 0
HasCourse origin deeds n =
    Course (is_answered says_wrote origin deeds n) (is_drained origin deeds n) (is_written_over origin deeds n)
    (is_shown origin deeds n)

-- an error that writes the record is the one that came, or came later than the one
written_course : (origin : Origin) (deeds : List Deed) (e : Error) (n : ℕ) → AllBefore e.step (told deeds)
    → wrote origin (told deeds) e ≡ true → shown (since origin (Reported e ∷ told deeds)) ≡ Some e
    → HasCourse origin deeds n → HasCourse origin (Was (Reported e) ∷ deeds) n
unfolding is_answered is_drained is_written_over
written_course origin deeds e n early it at h =
    let w = is_answered says_wrote origin deeds n in
    let d = is_drained origin deeds n in
    let over = is_written_over origin deeds n in
    let s = is_shown origin deeds n in
    let now = says_wrote (outcome origin (told deeds) e) in
    let over_now : ((wrote origin (told deeds) e && s && not d) || over) ≡ ((true && s && not d) || over) =
    ap (λ b. (b && s && not d) || over) it in
    elim (cases_Bool (e.step == n)) as (λ _. HasCourse origin (Was (Reported e) ∷ deeds) n) [
      | inl here ↦
          let same : e.step ≡ n = eqb-true e.step n here in
          let before : AllBefore n (told deeds) = subst (λ k. AllBefore k (told deeds)) same early in
          course_as
          (ap (λ b. (b && now) || w) here ∙ or_none now w (later_unanswered says_wrote origin deeds n before)
          ∙ says_it_wrote origin (told deeds) e ∙ it)
          (later_undrained origin deeds n before)
          (over_now ∙ not_shown true s d over (later_unshown origin deeds n before)
          (later_not_over origin deeds n before))
          (shown_written origin deeds e n at ∙ here) stands
      | inr apart ↦
          course_as (ap (λ b. (b && now) || w) apart) refl over_now (shown_written origin deeds e n at ∙ apart)
          (after_write h)
    ]

-- one that leaves what is shown changes nothing of that
left_course : (origin : Origin) (deeds : List Deed) (e : Error) (n : ℕ) → wrote origin (told deeds) e ≡ false
    → shown (since origin (Reported e ∷ told deeds)) ≡ shown (since origin (told deeds))
    → HasCourse origin deeds n → HasCourse origin (Was (Reported e) ∷ deeds) n
unfolding is_answered is_drained is_written_over
left_course origin deeds e n off at h =
    let w = is_answered says_wrote origin deeds n in
    let d = is_drained origin deeds n in
    let over = is_written_over origin deeds n in
    let s = is_shown origin deeds n in
    course_as
    (ap (λ b. ((e.step == n) && b) || w) (says_it_wrote origin (told deeds) e ∙ off) ∙ never (e.step == n) w) refl
    (ap (λ b. (b && s && not d) || over) off) (shown_left origin deeds e n at) h
  where
    never : (a b : Bool) → ((a && false) || b) ≡ b
    never true b = refl
    never false b = refl

pub course : (origin : Origin) (deeds : List Deed) (n : ℕ) → IsOrderly origin deeds → AreInOrder (told deeds)
    → HasCourse origin deeds n
unfolding is_answered is_drained is_written_over
course origin [] n ok order = course_as refl refl refl (shown_at_first origin n) wrote_not
course origin (Was (Reported e) ∷ deeds) n ok order =
    let h = course origin deeds n ok order.1 in
    elim (comes origin (told deeds) e order.0) as (λ _. HasCourse origin (Was (Reported e) ∷ deeds) n) [
      | writes it at ↦ written_course origin deeds e n order.0 it at h
      | leaves off at ↦ left_course origin deeds e n off at h
    ]
course origin (Was Claimed ∷ deeds) n ok order =
    course_as refl refl refl (shown_claimed origin deeds n) (course origin deeds n ok.1 order)
course origin (Was Invalidated ∷ deeds) n ok order =
    let h = course origin deeds n ok.1 order in
    elim (cases_Bool (in_progress origin (told deeds))) as (λ _. HasCourse origin (Was Invalidated ∷ deeds) n) [
      | inl on ↦
          course_as refl refl refl (shown_cleared origin deeds n on)
          (after_clearing (publishing_drained origin deeds n ok.1 order ok.0 on) h)
      | inr off ↦ course_as refl refl refl (shown_stood origin deeds n off) h
    ]
course origin (Checked true ∷ deeds) n ok order =
    course_as refl refl refl (shown_checked origin deeds true n) (after_publishing (course origin deeds n ok.2 order))
course origin (Checked false ∷ deeds) n ok order =
    course_as refl refl refl (shown_checked origin deeds false n) (course origin deeds n ok.2 order)
