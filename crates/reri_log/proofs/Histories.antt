-- Histories of a record with one event more.
use Rattle.std.proofs.Common.{◌≡◌, ℕ, ◌+◌, true, false, cond, not, ◌&&◌, List, [], ◌∷◌, ◌++◌, refl, inl, inr, sym, ap, ◌∙◌}
use Rattle.std.proofs.lemmas.Bool.{cases_Bool, true≢false}
use Rattle.reri_fields.specs.Records.{Error, Event, Origin, AllBefore, is_any, is_shown_after, is_counted, counted, is_logged, since, in_progress}
use Rattle.reri_fields.specs.Records.Event.{Reported, Claimed, Invalidated}
use Rattle.reri_log.proofs.Errors.{StepsBelow, StepsBelow-push}

pub since_logged : (origin : Origin) (history : List Event) (e : Error) → is_logged origin history e.report ≡ true
    → since origin (Reported e ∷ history) ≡ since origin history ++ e ∷ []
unfolding since
since_logged origin history e h = rw h refl

pub since_unlogged : (origin : Origin) (history : List Event) (e : Error) → is_logged origin history e.report ≡ false
    → since origin (Reported e ∷ history) ≡ since origin history
unfolding since
since_unlogged origin history e h = rw h refl

pub in_progress_logged : (origin : Origin) (history : List Event) (e : Error) → is_logged origin history e.report
    ≡ true → in_progress origin (Reported e ∷ history)
    ≡ (in_progress origin history && not (is_shown_after (since origin history) e))
unfolding in_progress since
in_progress_logged origin history e h = rw h refl

pub in_progress_unlogged : (origin : Origin) (history : List Event) (e : Error) → is_logged origin history e.report
    ≡ false → in_progress origin (Reported e ∷ history) ≡ in_progress origin history
unfolding in_progress since
in_progress_unlogged origin history e h =
    rw h (elim (in_progress origin history) as (λ b. (b && true) ≡ b) [ true ↦ refl | false ↦ refl ])

pub counted_one : (origin : Origin) (history : List Event) (e : Error) → is_counted origin.control e.report ≡ true
    → counted origin (Reported e ∷ history) ≡ counted origin history + 1
unfolding counted
counted_one origin history e h = rw h refl

pub counted_none : (origin : Origin) (history : List Event) (e : Error) → is_counted origin.control e.report ≡ false
    → counted origin (Reported e ∷ history) ≡ counted origin history
unfolding counted
counted_none origin history e h = rw h refl

-- the errors that a record holds came before the step
pub since_before : (step : ℕ) (origin : Origin) (history : List Event) → AllBefore step history
    → StepsBelow step (since origin history)
unfolding since
since_before step origin [] h = tt
since_before step origin (Reported e ∷ history) h =
    let rest = since_before step origin history h.1 in
    elim (is_logged origin history e.report) as (λ b. StepsBelow step
    (cond b (since origin history ++ e ∷ []) (since origin history))) [
      | true ↦ StepsBelow-push step (since origin history) e rest h.0
      | false ↦ rest
    ]
since_before step origin (Claimed ∷ history) h = since_before step origin history h
since_before step origin (Invalidated ∷ history) h =
    elim (in_progress origin history) as (λ b. StepsBelow step (cond b [] (since origin history))) [
      | true ↦ tt
      | false ↦ since_before step origin history h
    ]

pub is_any-push : (errors : List Error) (e : Error) → is_any (errors ++ e ∷ []) ≡ true
unfolding is_any
is_any-push [] e = refl
is_any-push (x ∷ xs) e = refl

-- a record that holds no error is not claimed
pub not_claimed : (origin : Origin) (history : List Event) → is_any (since origin history) ≡ false
    → in_progress origin history ≡ false
unfolding since in_progress
not_claimed origin [] h = refl
not_claimed origin (Reported e ∷ history) h =
    elim (cases_Bool (is_logged origin history e.report)) as (λ _. (in_progress origin history
    && not (is_logged origin history e.report && is_shown_after (since origin history) e)) ≡ false) [
      | inl logged ↦
          absurd (true≢false (sym (is_any-push (since origin history) e)
          ∙ sym (ap is_any (since_logged origin history e logged)) ∙ h))
      | inr unlogged ↦
          let none : is_any (since origin history)
          ≡ false = sym (ap is_any (since_unlogged origin history e unlogged)) ∙ h in
          rw (not_claimed origin history none) refl
    ]
not_claimed origin (Claimed ∷ history) h = h
not_claimed origin (Invalidated ∷ history) h = refl
