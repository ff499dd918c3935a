-- Errors that a record shows no more, and can't show again.
use Rattle.std.proofs.Common.{◌≡◌, ◌≢◌, ℕ, ◌<◌, Bool, true, List, [], ◌∷◌, ◌++◌, find, Some, refl, inl, inr, sym, ap, ◌∙◌, subst, arith}
use Rattle.std.proofs.Math.Nat.{le-max_left, le-max_right}
use Rattle.std.proofs.lemmas.Bool.{cases_Bool, cond-true, cond-false}
use Rattle.std.proofs.lemmas.Option.{none-some, same_Some}
use Rattle.reri_fields.specs.Records.{Error, rank_of, greatest_of, is_any, shown}
use Rattle.reri_log.proofs.Errors.{shown_some, shown_none, greatest_of-push}
use Rattle.drain_laws.proofs.Held.{Enters}
use Rattle.drain_laws.proofs.Held.Enters.{passes_by, writes, keeps_out}

-- no error of the list came at this step
abbrev pub NoneAt : ℕ → List Error → Type 0
NoneAt step [] = Unit {0}
NoneAt step (e ∷ es) = (e.step ≢ step) × NoneAt step es

-- an error that isn't there, or stands behind a greater one
pub data Past (q : Error) (errors : List Error) : Type 0 where
  gone : NoneAt q.step errors → Past q errors
  buried : rank_of q < greatest_of rank_of errors → Past q errors

none_push : (step : ℕ) (errors : List Error) (e : Error) → NoneAt step errors → e.step ≢ step
    → NoneAt step (errors ++ e ∷ [])
none_push step [] e none apart = (apart, tt)
none_push step (x ∷ xs) e none apart = (none.0, none_push step xs e none.1 apart)

pub past_push : (q : Error) (errors : List Error) (e : Error) → q.step < e.step → Past q errors
    → Past q (errors ++ e ∷ [])
past_push q errors e earlier (gone none) = gone (none_push q.step errors e none (λ same. omega (arith, earlier, same)))
past_push q errors e earlier (buried low) =
    buried (omega (
      arith,
      low,
      greatest_of-push rank_of errors e,
      le-max_left (greatest_of rank_of errors) (rank_of e),
    ))

-- ---- What is shown ----

pub shown_any : (errors : List Error) (q : Error) → shown errors ≡ Some q → is_any errors ≡ true
shown_any errors q is =
    elim (cases_Bool (is_any errors)) as (λ _. is_any errors ≡ true) [
      | inl any ↦ any
      | inr none ↦ absurd (none-some q (sym (shown_none errors none) ∙ is))
    ]

pub shown_greatest : (errors : List Error) (q : Error) → shown errors ≡ Some q
    → rank_of q ≡ greatest_of rank_of errors
shown_greatest errors q is =
    let top = shown_some errors (shown_any errors q is) in
    ap rank_of (same_Some q top.0 (sym is ∙ top.1)) ∙ top.2

not_found : (p : Error → Bool) (step : ℕ) (errors : List Error) (q : Error) → NoneAt step errors
    → find p errors ≡ Some q → q.step ≢ step
not_found p step [] q none h = absurd (none-some q h)
not_found p step (x ∷ xs) q none h =
    elim (cases_Bool (p x)) as (λ _. q.step ≢ step) [
      | inl here ↦
          subst (λ (y : Error). y.step ≢ step) (same_Some x q (sym (cond-true _ (Some x) (find p xs) here) ∙ h)) none.0
      | inr not_here ↦ not_found p step xs q none.1 (sym (cond-false _ (Some x) (find p xs) not_here) ∙ h)
    ]

not_shown : (step : ℕ) (errors : List Error) (q : Error) → NoneAt step errors → shown errors ≡ Some q
    → q.step ≢ step
unfolding shown
not_shown step errors q none h = not_found _ step errors q none h

pub past_unshown : (q : Error) (errors : List Error) → Past q errors → shown errors ≢ Some q
past_unshown q errors (gone none) = λ is. not_shown q.step errors q none is refl
past_unshown q errors (buried low) = λ is. omega (arith, low, shown_greatest errors q is)

-- ---- After an error ----

pub past_enters : (q e : Error) (errors later : List Error) (claim after : Bool) → q.step < e.step
    → Enters e errors claim later after → Past q errors → Past q later
past_enters q e errors later claim after earlier (passes_by same _) past = subst (Past q) (sym same) past
past_enters q e errors later claim after earlier (writes longer _ _ _) past =
    subst (Past q) (sym longer) (past_push q errors e earlier past)
past_enters q e errors later claim after earlier (keeps_out longer _ _ _ _) past =
    subst (Past q) (sym longer) (past_push q errors e earlier past)

-- of an error that was published last: it is shown under a claim that still counts, or it is past
pub data Stays (q : Error) (errors : List Error) (claim : Bool) : Type 0 where
  still : claim ≡ true → shown errors ≡ Some q → Stays q errors claim
  past : Past q errors → Stays q errors claim

-- an error that writes the record buries the shown one
written_over : (q e : Error) (errors later : List Error) → later ≡ errors ++ e ∷ [] → shown errors ≡ Some q
    → (is_any errors ≡ true → greatest_of rank_of errors < rank_of e) → Past q later
written_over q e errors later longer is more =
    subst (Past q) (sym longer)
    (buried (omega (
      arith,
      shown_greatest errors q is,
      more (shown_any errors q is),
      greatest_of-push rank_of errors e,
      le-max_right (greatest_of rank_of errors) (rank_of e),
    )))

pub stays_enters : (q e : Error) (errors later : List Error) (claim after : Bool) → q.step < e.step
    → Enters e errors claim later after → Stays q errors claim → Stays q later after
stays_enters q e errors later claim after earlier enters (past so) =
    past (past_enters q e errors later claim after earlier enters so)
stays_enters q e errors later claim after earlier (passes_by same held) (still on is) =
    still (held ∙ on) (ap shown same ∙ is)
stays_enters q e errors later claim after earlier (writes longer off it more) (still on is) =
    past (written_over q e errors later longer is more)
stays_enters q e errors later claim after earlier (keeps_out longer held same any less) (still on is) =
    still (held ∙ on) (same ∙ is)
