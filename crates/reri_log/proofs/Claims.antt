-- What an error does to the list of errors that a record holds, and to a claim of the record; and what holds after any
-- number of errors that came since a claim or a check.
use Rattle.std.proofs.Common.{◌≡◌, ◌<◌, ◌≤◌, Bool, true, false, not, ◌&&◌, ◌||◌, List, [], ◌∷◌, ◌++◌, Some, refl, inl, inr, sym, ap, ◌∙◌, arith}
use Rattle.std.proofs.lemmas.Bool.{cases_Bool, cases_lt, true≢false, eq-eqb}
use Rattle.std.proofs.Math.Nat.{le-max_left, le-max_right}
use Rattle.reri_fields.specs.Records.{Error, Event, Origin, AllBefore, AreInOrder, rank_of, greatest_of, is_any, shown, shown_rank, came_at, is_shown_after, is_logged, since, in_progress}
use Rattle.reri_fields.specs.Records.Event.{Reported, Claimed, Invalidated}
use Rattle.reri_fields.specs.Outcome.{wrote, any_wrote, AreErrors}
use Rattle.reri_log.proofs.Errors.{StepsBelow, shown_some, shown_none, shown_greater, shown_not_greater, greatest_of-push}
use Rattle.reri_log.proofs.Histories.{since_logged, since_unlogged, since_before, is_any-push}
use Rattle.reri_log.proofs.Entered.{shown_in_empty, lost_after}

-- ---- One error ----

-- an error at the end of a list is the shown one afterwards, or leaves the shown one
pub data Ends (e : Error) (errors : List Error) : Type 0 where
  wins : is_shown_after errors e ≡ true → shown (errors ++ e ∷ []) ≡ Some e
      → (is_any errors ≡ true → greatest_of rank_of errors < rank_of e) → Ends e errors
  loses : is_shown_after errors e ≡ false → shown (errors ++ e ∷ []) ≡ shown errors → is_any errors ≡ true
      → rank_of e ≤ greatest_of rank_of errors → Ends e errors

won_after : (errors : List Error) (e : Error) → shown (errors ++ e ∷ []) ≡ Some e → is_shown_after errors e ≡ true
unfolding is_shown_after came_at
won_after errors e h = rw h (eq-eqb e.step e.step refl)

pub ends : (errors : List Error) (e : Error) → StepsBelow e.step errors → Ends e errors
ends errors e early =
    elim (cases_Bool (is_any errors)) as (λ _. Ends e errors) [
      | inr none ↦
          let is = shown_in_empty errors e none in
          wins (won_after errors e is) is (λ any. absurd (true≢false (sym any ∙ none)))
      | inl any ↦
          elim (cases_lt (greatest_of rank_of errors) (rank_of e)) as (λ _. Ends e errors) [
            | inl more ↦
                let is = shown_greater errors e more in
                wins (won_after errors e is) is (λ _. more)
            | inr less ↦
                let is = shown_not_greater errors e any less in
                loses (lost_after errors e early any is) is any less
          ]
    ]

-- what an error does: nothing to what the record holds, or it becomes the shown error, or it is kept out
pub data Effect (e : Error) (errors : List Error) (claim : Bool) (later : List Error) (after : Bool) (writes : Bool) :
    Type 0 where
  passes : writes ≡ false → later ≡ errors → after ≡ claim → Effect e errors claim later after writes
  writes_it : writes ≡ true → later ≡ errors ++ e ∷ [] → after ≡ false → shown later ≡ Some e
      → (is_any errors ≡ true → greatest_of rank_of errors < rank_of e) → Effect e errors claim later after writes
  is_kept : writes ≡ false → later ≡ errors ++ e ∷ [] → after ≡ claim → shown later ≡ shown errors
      → is_any errors ≡ true → rank_of e ≤ greatest_of rank_of errors → Effect e errors claim later after writes

-- an error ends a claim exactly where it writes the record
pub in_progress_reported : (origin : Origin) (history : List Event) (e : Error)
    → in_progress origin (Reported e ∷ history) ≡ (in_progress origin history && not (wrote origin history e))
unfolding in_progress since wrote
in_progress_reported origin history e = refl

wrote_logged : (origin : Origin) (history : List Event) (e : Error) → is_logged origin history e.report ≡ true
    → wrote origin history e ≡ is_shown_after (since origin history) e
unfolding wrote
wrote_logged origin history e h = rw h refl

wrote_unlogged : (origin : Origin) (history : List Event) (e : Error) → is_logged origin history e.report ≡ false
    → wrote origin history e ≡ false
unfolding wrote
wrote_unlogged origin history e h = rw h refl

and_no : (b w : Bool) → w ≡ false → (b && not w) ≡ b
and_no true w h = ap not h
and_no false w h = refl

and_yes : (b w : Bool) → w ≡ true → (b && not w) ≡ false
and_yes true w h = ap not h
and_yes false w h = refl

pub effect_of : (origin : Origin) (history : List Event) (e : Error) → AllBefore e.step history
    → Effect e (since origin history) (in_progress origin history) (since origin (Reported e ∷ history))
    (in_progress origin (Reported e ∷ history)) (wrote origin history e)
effect_of origin history e early =
    let errors = since origin history in
    let claim = in_progress origin history in
    elim (cases_Bool (is_logged origin history e.report)) as (λ _. Effect e errors claim
    (since origin (Reported e ∷ history)) (in_progress origin (Reported e ∷ history)) (wrote origin history e)) [
      | inr unlogged ↦
          let off = wrote_unlogged origin history e unlogged in
          passes off (since_unlogged origin history e unlogged) (in_progress_reported origin history e
          ∙ and_no claim (wrote origin history e) off)
      | inl logged ↦
          let later = since_logged origin history e logged in
          elim (ends errors e (since_before e.step origin history early)) as (λ _. Effect e errors claim
          (since origin (Reported e ∷ history)) (in_progress origin (Reported e ∷ history))
          (wrote origin history e)) [
            | wins won is more ↦
                let it = wrote_logged origin history e logged ∙ won in
                writes_it it later (in_progress_reported origin history e ∙ and_yes claim (wrote origin history e) it)
                (ap shown later ∙ is) more
            | loses lost is any less ↦
                let off = wrote_logged origin history e logged ∙ lost in
                is_kept off later (in_progress_reported origin history e ∙ and_no claim (wrote origin history e) off)
                (ap shown later ∙ is) any less
          ]
    ]

-- ---- The errors since a claim or a check ----

or_none : (b : Bool) → (b && not false) ≡ b
or_none true = refl
or_none false = refl

step_claim : (b w v : Bool) → ((b && not w) && not v) ≡ (b && not (w || v))
step_claim true true v = refl
step_claim true false v = refl
step_claim false w v = refl

any_wrote_none : (origin : Origin) (before : List Event) → any_wrote origin [] before ≡ false
unfolding any_wrote
any_wrote_none origin before = refl

any_wrote_more : (origin : Origin) (later before : List Event) (e : Error)
    → any_wrote origin (Reported e ∷ later) before ≡ (any_wrote origin later before || wrote origin (later ++ before) e)
unfolding any_wrote
any_wrote_more origin later before e = refl

-- a claim still counts exactly where no error has written the record since
pub claim_lasts : (origin : Origin) (later before : List Event) → AreErrors later
    → in_progress origin (later ++ before) ≡ (in_progress origin before && not (any_wrote origin later before))
claim_lasts origin [] before h = rw (any_wrote_none origin before) (sym (or_none (in_progress origin before)))
claim_lasts origin (Reported e ∷ later) before h =
    in_progress_reported origin (later ++ before) e
    ∙ ap (λ b. b && not (wrote origin (later ++ before) e)) (claim_lasts origin later before h)
    ∙ step_claim (in_progress origin before) (any_wrote origin later before) (wrote origin (later ++ before) e)
    ∙ ap (λ b. in_progress origin before && not b) (sym (any_wrote_more origin later before e))
claim_lasts origin (Claimed ∷ later) before h = absurd h
claim_lasts origin (Invalidated ∷ later) before h = absurd h

or_off : (a b : Bool) → (a || b) ≡ false → (a ≡ false) × (b ≡ false)
or_off true b h = absurd (true≢false h)
or_off false b h = (refl, h)

-- a record that held an error still holds one
pub holds_still : (origin : Origin) (later before : List Event) → AreErrors later → AreInOrder (later ++ before)
    → is_any (since origin before) ≡ true → is_any (since origin (later ++ before)) ≡ true
holds_still origin [] before only order any = any
holds_still origin (Reported e ∷ later) before only order any =
    elim (effect_of origin (later ++ before) e order.0) as (λ _. is_any
    (since origin (Reported e ∷ (later ++ before))) ≡ true) [
      | passes off same _ ↦ ap is_any same ∙ holds_still origin later before only order.1 any
      | writes_it it longer _ _ _ ↦ ap is_any longer ∙ is_any-push (since origin (later ++ before)) e
      | is_kept off longer _ _ _ _ ↦ ap is_any longer ∙ is_any-push (since origin (later ++ before)) e
    ]
holds_still origin (Claimed ∷ later) before only order any = absurd only
holds_still origin (Invalidated ∷ later) before only order any = absurd only

-- where no error wrote the record, it shows what it showed
pub shown_still : (origin : Origin) (later before : List Event) → AreErrors later → AreInOrder (later ++ before)
    → any_wrote origin later before ≡ false → shown (since origin (later ++ before)) ≡ shown (since origin before)
shown_still origin [] before only order none = refl
shown_still origin (Reported e ∷ later) before only order none =
    let parts = or_off (any_wrote origin later before) (wrote origin (later ++ before) e)
    (sym (any_wrote_more origin later before e) ∙ none) in
    let rest = shown_still origin later before only order.1 parts.0 in
    elim (effect_of origin (later ++ before) e order.0) as (λ _. shown (since origin (Reported e ∷ (later ++ before)))
    ≡ shown (since origin before)) [
      | passes off same _ ↦ ap shown same ∙ rest
      | writes_it it _ _ _ _ ↦ absurd (true≢false (sym it ∙ parts.1))
      | is_kept off _ _ is _ _ ↦ is ∙ rest
    ]
shown_still origin (Claimed ∷ later) before only order none = absurd only
shown_still origin (Invalidated ∷ later) before only order none = absurd only

-- the rank of the shown error is the greatest
pub shown_rank_is : (errors : List Error) → shown_rank errors ≡ greatest_of rank_of errors
unfolding shown_rank greatest_of is_any
shown_rank_is [] = rw (shown_none [] refl) refl
shown_rank_is (x ∷ xs) =
    let at = shown_some (x ∷ xs) refl in
    rw (at.1) at.2

some_wrote : (a b : Bool) → (a || b) ≡ true → b ≡ false → a ≡ true
some_wrote true b h off = refl
some_wrote false b h off = absurd (true≢false (sym h ∙ off))

never_falls : (origin : Origin) (later before : List Event) → AreErrors later → AreInOrder (later ++ before)
    → greatest_of rank_of (since origin before) ≤ greatest_of rank_of (since origin (later ++ before))
never_falls origin [] before only order = omega arith
never_falls origin (Reported e ∷ later) before only order =
    let rest = never_falls origin later before only order.1 in
    let top = greatest_of-push rank_of (since origin (later ++ before)) e in
    let more = le-max_left (greatest_of rank_of (since origin (later ++ before))) (rank_of e) in
    elim (effect_of origin (later ++ before) e order.0) as (λ _. greatest_of rank_of (since origin before) ≤
    greatest_of rank_of (since origin (Reported e ∷ (later ++ before)))) [
      | passes off same _ ↦ rw same rest
      | writes_it it longer _ _ _ ↦ rw longer (omega (arith, rest, top, more))
      | is_kept off longer _ _ _ _ ↦ rw longer (omega (arith, rest, top, more))
    ]
never_falls origin (Claimed ∷ later) before only order = absurd only
never_falls origin (Invalidated ∷ later) before only order = absurd only

rises : (origin : Origin) (later before : List Event) → AreErrors later → AreInOrder (later ++ before)
    → is_any (since origin before) ≡ true → any_wrote origin later before ≡ true
    → greatest_of rank_of (since origin before) < greatest_of rank_of (since origin (later ++ before))
rises origin [] before only order any some = absurd (true≢false (sym some ∙ any_wrote_none origin before))
rises origin (Reported e ∷ later) before only order any some =
    let parts = sym (any_wrote_more origin later before e) ∙ some in
    let lower = never_falls origin later before only order.1 in
    let errors = since origin (later ++ before) in
    let top = greatest_of-push rank_of errors e in
    elim (effect_of origin (later ++ before) e order.0) as (λ _. greatest_of rank_of (since origin before) <
    greatest_of rank_of (since origin (Reported e ∷ (later ++ before)))) [
      | passes off same _ ↦
          rw same (rises origin later before only order.1 any (some_wrote (any_wrote origin later before) _ parts off))
      | writes_it it longer _ _ more ↦
          rw longer
          (omega (
            arith,
            lower,
            top,
            le-max_right (greatest_of rank_of errors) (rank_of e),
            more
                (holds_still origin later before only order.1 any),
          ))
      | is_kept off longer _ _ _ _ ↦
          rw longer
          (omega (
            arith,
            top,
            le-max_left (greatest_of rank_of errors) (rank_of e),
            rises origin later before only
                order.1 any (some_wrote (any_wrote origin later before) _ parts off),
          ))
    ]
rises origin (Claimed ∷ later) before only order any some = absurd only
rises origin (Invalidated ∷ later) before only order any some = absurd only

-- where some error wrote the record, which held one before, it shows one of greater rank
pub rank_rises : (origin : Origin) (later before : List Event) → AreErrors later → AreInOrder (later ++ before)
    → is_any (since origin before) ≡ true → any_wrote origin later before ≡ true
    → shown_rank (since origin before) < shown_rank (since origin (later ++ before))
rank_rises origin later before only order any some =
    rw (shown_rank_is (since origin before), shown_rank_is (since origin (later ++ before)))
    (rises origin later before only order any some)
