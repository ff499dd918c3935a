-- What a deed makes of the fates of older errors: only the error that the record shows can get another one.
use Rattle.std.proofs.Common.{◌≡◌, ℕ, ◌+◌, ◌==◌, ◌&&◌, ◌||◌, not, Bool, true, false, List, ◌∷◌, Option, Some, None, refl, sym, ap, ◌∙◌}
use Rattle.std.specs.Option.{option_map_or}
use Rattle.std.proofs.lemmas.Bool.{true≢false, eq-eqb}
use Rattle.reri_fields.specs.declared.report.Logged.{Logged}
use Rattle.reri_fields.specs.Records.{Error, Origin, AllBefore, AreInOrder, came_at, shown, since, in_progress}
use Rattle.reri_fields.specs.Records.Event.{Reported, Claimed, Invalidated}
use Rattle.reri_fields.specs.Outcome.{outcome, wrote}
use Rattle.board_plan.specs.Fates.{Deed, Fate, told, is_shown, is_answered, is_drained, is_written_over, says_disabled, says_counted, says_kept, says_wrote, has_fate_here}
use Rattle.board_plan.specs.Fates.Deed.{Was, Checked}
use Rattle.board_plan.specs.Fates.Fate.{Stray, WasDisabled, WasCounted, WasKept, Drained, Overwritten, Stands}
use Rattle.board_fates.specs.Tallied.{shows_unpublished}
use Rattle.board_fates.proofs.Shown.{comes, says_it_wrote, later_unshown, later_unanswered, later_undrained, later_not_over, not_shown, shown_written, shown_left, shown_claimed, shown_cleared, shown_stood, none_shown, same_shown, shown_wrote, shown_not_over}
use Rattle.board_fates.proofs.Shown.Comes.{writes, leaves}
use Rattle.board_fates.proofs.Places.{bit}

-- ---- Which fate comes for which ----

abbrev pub to_none : Fate → Bool
to_none f = false

abbrev pub to_stands : Fate → Bool
to_stands Stands = true
to_stands f = false

abbrev pub to_overwritten : Fate → Bool
to_overwritten Overwritten = true
to_overwritten f = false

abbrev pub to_drained : Fate → Bool
to_drained Drained = true
to_drained f = false

-- the error of a step that stands loses a fate, and gets another one
abbrev pub Moves : (Fate → Bool) → (Fate → Bool) → Origin → Deed → List Deed → ℕ → Type 0
Moves from into origin deed deeds n =
    (f : Fate)
    → bit (has_fate_here f origin (deed ∷ deeds) n) + bit (from f && has_fate_here Stands origin deeds n)
    ≡ bit (has_fate_here f origin deeds n) + bit (into f && has_fate_here Stands origin deeds n)

abbrev pub Stays : Origin → Deed → List Deed → ℕ → Type 0
Stays origin deed deeds n = (f : Fate) → has_fate_here f origin (deed ∷ deeds) n ≡ has_fate_here f origin deeds n

pub stays_moves : (origin : Origin) (deed : Deed) (deeds : List Deed) (n : ℕ) → Stays origin deed deeds n
    → Moves to_none to_none origin deed deeds n
stays_moves origin deed deeds n same f = ap (λ b. bit b + bit false) (same f)

at_same : (b c : Bool) → b ≡ c → ◌≡◌ {A = ℕ} (bit b + bit false) (bit c + bit false)
at_same b c h = ap (λ x. bit x + bit false) h

-- ---- An error ----

same_answer : (test : Logged → Bool) (origin : Origin) (deeds : List Deed) (e : Error) (n : ℕ) → (e.step == n) ≡ false
    → is_answered test origin (Was (Reported e) ∷ deeds) n ≡ is_answered test origin deeds n
unfolding is_answered
same_answer test origin deeds e n differ = rw differ refl

same_over : (origin : Origin) (deeds : List Deed) (e : Error) (n : ℕ) → wrote origin (told deeds) e ≡ false
    → is_written_over origin (Was (Reported e) ∷ deeds) n ≡ is_written_over origin deeds n
unfolding is_written_over
same_over origin deeds e n off = rw off refl

same_drained : (origin : Origin) (deeds : List Deed) (e : Error) (n : ℕ)
    → is_drained origin (Was (Reported e) ∷ deeds) n ≡ is_drained origin deeds n
unfolding is_drained
same_drained origin deeds e n = refl

-- one that leaves what is shown
pub error_stays : (origin : Origin) (deeds : List Deed) (e : Error) (n : ℕ) → (e.step == n) ≡ false
    → wrote origin (told deeds) e ≡ false
    → shown (since origin (Reported e ∷ told deeds)) ≡ shown (since origin (told deeds))
    → Stays origin (Was (Reported e)) deeds n
unfolding has_fate_here
error_stays origin deeds e n differ off at Stray = refl
error_stays origin deeds e n differ off at WasDisabled = same_answer says_disabled origin deeds e n differ
error_stays origin deeds e n differ off at WasCounted = same_answer says_counted origin deeds e n differ
error_stays origin deeds e n differ off at WasKept = same_answer says_kept origin deeds e n differ
error_stays origin deeds e n differ off at Drained = same_drained origin deeds e n
error_stays origin deeds e n differ off at Overwritten =
    ap (λ a. a && is_written_over origin (Was (Reported e) ∷ deeds) n) (same_answer says_wrote origin deeds e n differ)
    ∙ ap (λ o. is_answered says_wrote origin deeds n && o) (same_over origin deeds e n off)
error_stays origin deeds e n differ off at Stands =
    ap (λ s. s && not (is_drained origin (Was (Reported e) ∷ deeds) n)) (shown_left origin deeds e n at)
    ∙ ap (λ d. is_shown origin deeds n && not d) (same_drained origin deeds e n)

over_now : (origin : Origin) (deeds : List Deed) (e : Error) (n : ℕ) → wrote origin (told deeds) e ≡ true
    → is_written_over origin (Was (Reported e) ∷ deeds) n
    ≡ ((true && is_shown origin deeds n && not (is_drained origin deeds n)) || is_written_over origin deeds n)
unfolding is_written_over
over_now origin deeds e n it = rw it refl

over_moves : (a s d over : Bool) → (s ≡ true → a ≡ true) → (s ≡ true → over ≡ false)
    → ◌≡◌ {A = ℕ} (bit (a && ((true && s && not d) || over)) + bit (false && (s && not d)))
    (bit (a && over) + bit (true && (s && not d)))
over_moves a false d over wrote not_over = refl
over_moves true true true false wrote not_over = refl
over_moves true true false false wrote not_over = refl
over_moves true true d true wrote not_over = absurd (true≢false (not_over refl))
over_moves false true d over wrote not_over = absurd (true≢false (sym (wrote refl)))

stands_goes : (s b : Bool) → s ≡ false
    → ◌≡◌ {A = ℕ} (bit s + bit (true && b)) (bit b + bit (false && b))
stands_goes true b h = absurd (true≢false h)
stands_goes false true h = refl
stands_goes false false h = refl

and_false : (a b : Bool) → a ≡ false → (a && b) ≡ false
and_false a b h = ap (λ x. x && b) h

-- one that writes over it
pub error_moves : (origin : Origin) (deeds : List Deed) (e : Error) (n : ℕ) → AreInOrder (told deeds)
    → (e.step == n) ≡ false → wrote origin (told deeds) e ≡ true
    → shown (since origin (Reported e ∷ told deeds)) ≡ Some e
    → Moves to_stands to_overwritten origin (Was (Reported e)) deeds n
unfolding has_fate_here
error_moves origin deeds e n order differ it at Stray = refl
error_moves origin deeds e n order differ it at WasDisabled =
    at_same (is_answered says_disabled origin (Was (Reported e) ∷ deeds) n) (is_answered says_disabled origin deeds n)
    (same_answer says_disabled origin deeds e n differ)
error_moves origin deeds e n order differ it at WasCounted =
    at_same (is_answered says_counted origin (Was (Reported e) ∷ deeds) n) (is_answered says_counted origin deeds n)
    (same_answer says_counted origin deeds e n differ)
error_moves origin deeds e n order differ it at WasKept =
    at_same (is_answered says_kept origin (Was (Reported e) ∷ deeds) n) (is_answered says_kept origin deeds n)
    (same_answer says_kept origin deeds e n differ)
error_moves origin deeds e n order differ it at Drained =
    at_same (is_drained origin (Was (Reported e) ∷ deeds) n) (is_drained origin deeds n)
    (same_drained origin deeds e n)
error_moves origin deeds e n order differ it at Overwritten =
    let a = is_answered says_wrote origin deeds n in
    let s = is_shown origin deeds n in
    let d = is_drained origin deeds n in
    let over = is_written_over origin deeds n in
    ap (λ x. bit (x && is_written_over origin (Was (Reported e) ∷ deeds) n) + bit (false && (s && not d)))
    (same_answer says_wrote origin deeds e n differ)
    ∙ ap (λ x. bit (a && x) + bit (false && (s && not d))) (over_now origin deeds e n it)
    ∙ over_moves a s d over (shown_wrote origin deeds n order) (shown_not_over origin deeds n order)
error_moves origin deeds e n order differ it at Stands =
    stands_goes (is_shown origin (Was (Reported e) ∷ deeds) n && not (is_drained origin (Was (Reported e) ∷ deeds) n))
    (is_shown origin deeds n && not (is_drained origin deeds n))
    (and_false (is_shown origin (Was (Reported e) ∷ deeds) n) (not (is_drained origin (Was (Reported e) ∷ deeds) n))
    (shown_written origin deeds e n at ∙ differ))

-- ---- The new error ----

-- whether an error that was answered so has a fate at once
abbrev pub says : Fate → Logged → Bool
says Stray logged = false
says WasDisabled logged = says_disabled logged
says WasCounted logged = says_counted logged
says WasKept logged = says_kept logged
says Drained logged = false
says Overwritten logged = false
says Stands logged = says_wrote logged

or_only : (t b : Bool) → b ≡ false → (t || b) ≡ t
or_only true b h = refl
or_only false b h = h

new_answer : (test : Logged → Bool) (origin : Origin) (deeds : List Deed) (e : Error) → AllBefore e.step (told deeds)
    → is_answered test origin (Was (Reported e) ∷ deeds) e.step ≡ test (outcome origin (told deeds) e)
unfolding is_answered
new_answer test origin deeds e early =
    rw (eq-eqb e.step e.step refl)
    (or_only (test (outcome origin (told deeds) e)) (is_answered test origin deeds e.step)
    (later_unanswered test origin deeds e.step early))

new_not_over : (origin : Origin) (deeds : List Deed) (e : Error) → AllBefore e.step (told deeds)
    → is_written_over origin (Was (Reported e) ∷ deeds) e.step ≡ false
unfolding is_written_over
new_not_over origin deeds e early =
    not_shown (wrote origin (told deeds) e) (is_shown origin deeds e.step) (is_drained origin deeds e.step)
    (is_written_over origin deeds e.step) (later_unshown origin deeds e.step early)
    (later_not_over origin deeds e.step early)

and_no : (a b : Bool) → b ≡ false → (a && b) ≡ false
and_no true b h = h
and_no false b h = refl

and_not : (a b : Bool) → b ≡ false → (a && not b) ≡ a
and_not true true h = absurd (true≢false h)
and_not true false h = refl
and_not false b h = refl

new_shown : (origin : Origin) (deeds : List Deed) (e : Error) → AllBefore e.step (told deeds)
    → is_shown origin (Was (Reported e) ∷ deeds) e.step ≡ wrote origin (told deeds) e
new_shown origin deeds e early =
    elim (comes origin (told deeds) e early) as (λ _. is_shown origin (Was (Reported e) ∷ deeds) e.step
    ≡ wrote origin (told deeds) e) [
      | writes it at ↦ shown_written origin deeds e e.step at ∙ eq-eqb e.step e.step refl ∙ sym it
      | leaves off at ↦
          shown_left origin deeds e e.step at ∙ later_unshown origin deeds e.step early ∙ sym off
    ]

pub new_fates : (origin : Origin) (deeds : List Deed) (e : Error) (f : Fate) → AllBefore e.step (told deeds)
    → has_fate_here f origin (Was (Reported e) ∷ deeds) e.step ≡ says f (outcome origin (told deeds) e)
unfolding has_fate_here
new_fates origin deeds e Stray early = refl
new_fates origin deeds e WasDisabled early = new_answer says_disabled origin deeds e early
new_fates origin deeds e WasCounted early = new_answer says_counted origin deeds e early
new_fates origin deeds e WasKept early = new_answer says_kept origin deeds e early
new_fates origin deeds e Drained early =
    same_drained origin deeds e e.step ∙ later_undrained origin deeds e.step early
new_fates origin deeds e Overwritten early =
    and_no (is_answered says_wrote origin (Was (Reported e) ∷ deeds) e.step)
    (is_written_over origin (Was (Reported e) ∷ deeds) e.step) (new_not_over origin deeds e early)
new_fates origin deeds e Stands early =
    and_not (is_shown origin (Was (Reported e) ∷ deeds) e.step) (is_drained origin (Was (Reported e) ∷ deeds) e.step)
    (same_drained origin deeds e e.step ∙ later_undrained origin deeds e.step early)
    ∙ new_shown origin deeds e early ∙ sym (says_it_wrote origin (told deeds) e)

-- ---- A Check ----

checked_drained : (s d : Bool)
    → ◌≡◌ {A = ℕ} (bit (s || d) + bit (false && (s && not d))) (bit d + bit (true && (s && not d)))
checked_drained true true = refl
checked_drained true false = refl
checked_drained false true = refl
checked_drained false false = refl

checked_stands : (s d : Bool)
    → ◌≡◌ {A = ℕ} (bit (s && not (s || d)) + bit (true && (s && not d)))
    (bit (s && not d) + bit (false && (s && not d)))
checked_stands true true = refl
checked_stands true false = refl
checked_stands false true = refl
checked_stands false false = refl

-- one that published
pub check_moves : (origin : Origin) (deeds : List Deed) (n : ℕ)
    → Moves to_stands to_drained origin (Checked true) deeds n
unfolding has_fate_here is_answered is_drained is_written_over is_shown
check_moves origin deeds n Stray = refl
check_moves origin deeds n WasDisabled = refl
check_moves origin deeds n WasCounted = refl
check_moves origin deeds n WasKept = refl
check_moves origin deeds n Drained = checked_drained (is_shown origin deeds n) (is_drained origin deeds n)
check_moves origin deeds n Overwritten = refl
check_moves origin deeds n Stands = checked_stands (is_shown origin deeds n) (is_drained origin deeds n)

-- one that was torn
pub torn_stays : (origin : Origin) (deeds : List Deed) (n : ℕ) → Stays origin (Checked false) deeds n
unfolding has_fate_here is_answered is_drained is_written_over is_shown
torn_stays origin deeds n Stray = refl
torn_stays origin deeds n WasDisabled = refl
torn_stays origin deeds n WasCounted = refl
torn_stays origin deeds n WasKept = refl
torn_stays origin deeds n Drained = refl
torn_stays origin deeds n Overwritten = refl
torn_stays origin deeds n Stands = refl

-- ---- A claim, and an invalidation ----

pub claim_stays : (origin : Origin) (deeds : List Deed) (n : ℕ) → Stays origin (Was Claimed) deeds n
unfolding has_fate_here is_answered is_drained is_written_over
claim_stays origin deeds n Stray = refl
claim_stays origin deeds n WasDisabled = refl
claim_stays origin deeds n WasCounted = refl
claim_stays origin deeds n WasKept = refl
claim_stays origin deeds n Drained = refl
claim_stays origin deeds n Overwritten = refl
claim_stays origin deeds n Stands =
    ap (λ s. s && not (is_drained origin deeds n)) (shown_claimed origin deeds n)

-- one that took no effect
pub stood_stays : (origin : Origin) (deeds : List Deed) (n : ℕ) → in_progress origin (told deeds) ≡ false
    → Stays origin (Was Invalidated) deeds n
unfolding has_fate_here is_answered is_drained is_written_over
stood_stays origin deeds n off Stray = refl
stood_stays origin deeds n off WasDisabled = refl
stood_stays origin deeds n off WasCounted = refl
stood_stays origin deeds n off WasKept = refl
stood_stays origin deeds n off Drained = refl
stood_stays origin deeds n off Overwritten = refl
stood_stays origin deeds n off Stands =
    ap (λ s. s && not (is_drained origin deeds n)) (shown_stood origin deeds n off)

-- one that cleared the record
pub clear_moves : (origin : Origin) (deeds : List Deed) (n : ℕ) → in_progress origin (told deeds) ≡ true
    → Moves to_stands to_none origin (Was Invalidated) deeds n
unfolding has_fate_here is_answered is_drained is_written_over
clear_moves origin deeds n on Stray = refl
clear_moves origin deeds n on WasDisabled = refl
clear_moves origin deeds n on WasCounted = refl
clear_moves origin deeds n on WasKept = refl
clear_moves origin deeds n on Drained = refl
clear_moves origin deeds n on Overwritten = refl
clear_moves origin deeds n on Stands =
    stands_goes (is_shown origin (Was Invalidated ∷ deeds) n && not (is_drained origin deeds n))
    (is_shown origin deeds n && not (is_drained origin deeds n))
    (and_false (is_shown origin (Was Invalidated ∷ deeds) n) (not (is_drained origin deeds n))
    (shown_cleared origin deeds n on))

-- ---- Whether a record shows an error that no Check has published ----

pub mark_written : (origin : Origin) (deeds : List Deed) (e : Error) → AllBefore e.step (told deeds)
    → shown (since origin (Reported e ∷ told deeds)) ≡ Some e
    → shows_unpublished origin (Was (Reported e) ∷ deeds) ≡ true
unfolding shows_unpublished is_drained
mark_written origin deeds e early at =
    ap (λ o. option_map_or (λ (x : Error). not (is_drained origin deeds x.step)) o false) at
    ∙ ap not (later_undrained origin deeds e.step early)

pub mark_left : (origin : Origin) (deeds : List Deed) (e : Error)
    → shown (since origin (Reported e ∷ told deeds)) ≡ shown (since origin (told deeds))
    → shows_unpublished origin (Was (Reported e) ∷ deeds) ≡ shows_unpublished origin deeds
unfolding shows_unpublished is_drained
mark_left origin deeds e at =
    ap (λ o. option_map_or (λ (x : Error). not (is_drained origin deeds x.step)) o false) at

pub mark_claimed : (origin : Origin) (deeds : List Deed)
    → shows_unpublished origin (Was Claimed ∷ deeds) ≡ shows_unpublished origin deeds
unfolding shows_unpublished is_drained since
mark_claimed origin deeds = refl

pub mark_torn : (origin : Origin) (deeds : List Deed)
    → shows_unpublished origin (Checked false ∷ deeds) ≡ shows_unpublished origin deeds
unfolding shows_unpublished is_drained
mark_torn origin deeds = refl

published_now : (origin : Origin) (deeds : List Deed) (o : Option Error) → shown (since origin (told deeds)) ≡ o
    → option_map_or (λ (x : Error). not (is_shown origin deeds x.step || is_drained origin deeds x.step)) o false
    ≡ false
unfolding is_shown came_at
published_now origin deeds None is = refl
published_now origin deeds (Some x) is =
    ap (λ b. not (b || is_drained origin deeds x.step)) (ap (came_at x.step) is ∙ eq-eqb x.step x.step refl)

pub mark_published : (origin : Origin) (deeds : List Deed) → shows_unpublished origin (Checked true ∷ deeds) ≡ false
unfolding shows_unpublished is_drained
mark_published origin deeds = published_now origin deeds (shown (since origin (told deeds))) refl

pub mark_cleared : (origin : Origin) (deeds : List Deed) → in_progress origin (told deeds) ≡ true
    → shows_unpublished origin (Was Invalidated ∷ deeds) ≡ false
unfolding shows_unpublished
mark_cleared origin deeds on =
    ap (λ o. option_map_or (λ (x : Error). not (is_drained origin (Was Invalidated ∷ deeds) x.step)) o false)
    (none_shown origin (told deeds) on)

pub mark_stood : (origin : Origin) (deeds : List Deed) → in_progress origin (told deeds) ≡ false
    → shows_unpublished origin (Was Invalidated ∷ deeds) ≡ shows_unpublished origin deeds
unfolding shows_unpublished is_drained
mark_stood origin deeds off =
    ap (λ o. option_map_or (λ (x : Error). not (is_drained origin deeds x.step)) o false)
    (same_shown origin (told deeds) off)
