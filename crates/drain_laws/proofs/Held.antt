-- What the records of a bank hold, and whether they are claimed, after one event more of the bank.
use Rattle.std.proofs.Common.{◌≡◌, ◌≢◌, ℕ, ◌<◌, ◌≤◌, Bool, true, false, List, [], ◌∷◌, ◌++◌, Some, refl, inl, inr, sym, ap, ◌∙◌}
use Rattle.std.proofs.lemmas.Bool.{cases_eq}
use Rattle.reri_fields.specs.Records.{Error, Event, Origin, rank_of, greatest_of, is_any, shown, since, in_progress}
use Rattle.reri_fields.specs.Records.Event.{Claimed, Invalidated}
use Rattle.reri_fields.specs.Banks.{AllLogsBefore, BankEvent, events_of}
use Rattle.reri_fields.specs.Banks.BankEvent.{Logs, Claims, Invalidates, ScanOver}
use Rattle.reri_fields.specs.Drain.{errors_at, claimed_at}
use Rattle.reri_log.proofs.Claims.{effect_of}
use Rattle.reri_log.proofs.Claims.Effect.{passes, writes_it, is_kept}
use Rattle.reri_bank.proofs.Stands.{logs_here, logs_elsewhere, claims_here, claims_elsewhere, invalidates_here, invalidates_elsewhere, before_events}

-- ---- An error ----

-- what an error does to a record of its bank: it passes it by, is shown from then on, or is kept out
pub data Enters (e : Error) (errors : List Error) (claim : Bool) (later : List Error) (after : Bool) : Type 0 where
  passes_by : later ≡ errors → after ≡ claim → Enters e errors claim later after
  writes : later ≡ errors ++ e ∷ [] → after ≡ false → shown later ≡ Some e
      → (is_any errors ≡ true → greatest_of rank_of errors < rank_of e) → Enters e errors claim later after
  keeps_out : later ≡ errors ++ e ∷ [] → after ≡ claim → shown later ≡ shown errors → is_any errors ≡ true
      → rank_of e ≤ greatest_of rank_of errors → Enters e errors claim later after

-- at each record of the bank
abbrev pub EntersAt : Origin → ℕ → Error → List BankEvent → Type 0
EntersAt o at e history =
    Enters e (errors_at o at history) (claimed_at o at history) (errors_at o at (Logs e ∷ history))
    (claimed_at o at (Logs e ∷ history))

pub logs_at : (o : Origin) (at : ℕ) (e : Error) (history : List BankEvent) → AllLogsBefore e.step history
    → EntersAt o at e history
logs_at o at e history early =
    elim (cases_eq at e.report.rec) as (λ _. EntersAt o at e history) [
      | inr elsewhere ↦
          let same = logs_elsewhere at e history elsewhere in
          passes_by (ap (since o) same) (ap (in_progress o) same)
      | inl here ↦
          let one = logs_here at e history (sym here) in
          let ss = ap (since o) one in
          let ps = ap (in_progress o) one in
          elim (effect_of o (events_of at history) e (before_events e.step at history early)) as (λ _. EntersAt o at e
          history) [
            | passes _ later after ↦ passes_by (ss ∙ later) (ps ∙ after)
            | writes_it _ later after is more ↦ writes (ss ∙ later) (ps ∙ after) (ap shown ss ∙ is) more
            | is_kept _ later after is any less ↦
                keeps_out (ss ∙ later) (ps ∙ after) (ap shown ss ∙ is) any less
          ]
    ]

-- ---- A claim ----

since_claimed : (o : Origin) (events : List Event) → since o (Claimed ∷ events) ≡ since o events
unfolding since
since_claimed o events = refl

claimed_after : (o : Origin) (events : List Event) → in_progress o (Claimed ∷ events) ≡ is_any (since o events)
unfolding in_progress since
claimed_after o events = refl

-- it leaves what each record holds
pub errors_claimed : (o : Origin) (at rec : ℕ) (history : List BankEvent)
    → errors_at o at (Claims rec ∷ history) ≡ errors_at o at history
errors_claimed o at rec history =
    elim (cases_eq at rec) as (λ _. errors_at o at (Claims rec ∷ history) ≡ errors_at o at history) [
      | inl here ↦ ap (since o) (claims_here at rec history (sym here)) ∙ since_claimed o (events_of at history)
      | inr elsewhere ↦ ap (since o) (claims_elsewhere at rec history elsewhere)
    ]

-- and claims a record that holds an error
pub claim_counts : (o : Origin) (rec : ℕ) (history : List BankEvent)
    → claimed_at o rec (Claims rec ∷ history) ≡ is_any (errors_at o rec history)
claim_counts o rec history =
    ap (in_progress o) (claims_here rec rec history refl) ∙ claimed_after o (events_of rec history)

-- ---- An invalidation ----

since_cleared : (o : Origin) (events : List Event) → in_progress o events ≡ true → since o (Invalidated ∷ events) ≡ []
unfolding since
since_cleared o events h = rw h refl

since_stood : (o : Origin) (events : List Event) → in_progress o events ≡ false
    → since o (Invalidated ∷ events) ≡ since o events
unfolding since
since_stood o events h = rw h refl

-- it leaves the other records
pub errors_elsewhere : (o : Origin) (at rec : ℕ) (history : List BankEvent) → at ≢ rec
    → errors_at o at (Invalidates rec ∷ history) ≡ errors_at o at history
errors_elsewhere o at rec history apart = ap (since o) (invalidates_elsewhere at rec history apart)

-- it clears its own where that is claimed, and leaves it where it isn't
pub errors_cleared : (o : Origin) (rec : ℕ) (history : List BankEvent) → claimed_at o rec history ≡ true
    → errors_at o rec (Invalidates rec ∷ history) ≡ []
errors_cleared o rec history on =
    ap (since o) (invalidates_here rec rec history refl) ∙ since_cleared o (events_of rec history) on

pub errors_stood : (o : Origin) (rec : ℕ) (history : List BankEvent) → claimed_at o rec history ≡ false
    → errors_at o rec (Invalidates rec ∷ history) ≡ errors_at o rec history
errors_stood o rec history off =
    ap (since o) (invalidates_here rec rec history refl) ∙ since_stood o (events_of rec history) off

-- ---- An empty search ----

pub errors_scanned : (o : Origin) (at : ℕ) (history : List BankEvent)
    → errors_at o at (ScanOver ∷ history) ≡ errors_at o at history
unfolding events_of
errors_scanned o at history = refl

pub claim_scanned : (o : Origin) (at : ℕ) (history : List BankEvent)
    → claimed_at o at (ScanOver ∷ history) ≡ claimed_at o at history
unfolding events_of
claim_scanned o at history = refl
