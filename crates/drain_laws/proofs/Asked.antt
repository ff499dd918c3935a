-- A bank with a signalled record asks: every event of a bank keeps this, and an empty search where it is truly empty.
use Rattle.std.proofs.Common.{◌≡◌, ℕ, nat_lt, Bool, true, false, ◌||◌, List, [], ◌∷◌, slice_get, Option, Some, None, refl, inl, inr, sym, ap, ◌∙◌, subst}
use Rattle.std.specs.Option.{option_map_or}
use Rattle.std.proofs.lemmas.Bool.{cases_Bool, cases_eq, true≢false, or_left, or_right}
use Rattle.reri_fields.specs.Fields.{control_fields, level_of}
use Rattle.reri_fields.specs.Records.{Error, Event, Origin, is_any, shown, is_counted, is_logged, since}
use Rattle.reri_fields.specs.Outcome.{outcome, wrote}
use Rattle.reri_fields.specs.Banks.{AllLogsBefore, BankEvent, events_of, level_in, raised, asks, level_after, is_signalled_after}
use Rattle.reri_fields.specs.Banks.BankEvent.{Logs, Claims, Invalidates, ScanOver}
use Rattle.reri_fields.specs.Drain.{errors_at, claimed_at}
use Rattle.reri_log.proofs.Errors.{shown_none}
use Rattle.reri_log.proofs.Claims.{effect_of}
use Rattle.reri_log.proofs.Claims.Effect.{passes, writes_it, is_kept}
use Rattle.reri_bank.proofs.Stands.{logs_here, logs_elsewhere, before_events}
use Rattle.drain_laws.proofs.Held.{errors_claimed, errors_elsewhere, errors_cleared, errors_stood, errors_scanned}

-- every signalled record's bank asks
pub record IsAsked (origins : List Origin) (history : List BankEvent) : Type 0 where
  pub each : (rec : ℕ) → is_signalled_after origins history rec ≡ true → asks origins history ≡ true

-- ---- When a record is signalled ----

-- by what it shows
abbrev signal_by : Origin → Option Error → Bool
signal_by o error =
    nat_lt 0 (option_map_or (λ (e : Error). level_of (control_fields o.control) e.report.severity) error 0)

-- a record that is there, and is signalled
pub record IsSignalled (origins : List Origin) (history : List BankEvent) (rec : ℕ) : Type 0 where
  pub origin : Origin
  pub there : slice_get origins rec ≡ Some origin
  pub signals : signal_by origin (shown (errors_at origin rec history)) ≡ true

signalled_in : (origins : List Origin) (history : List BankEvent) (rec : ℕ) (o : Option Origin)
    → slice_get origins rec ≡ o
    → option_map_or (λ origin. nat_lt 0 (level_after origin (events_of rec history))) o false ≡ true
    → IsSignalled origins history rec
unfolding level_after
signalled_in origins history rec None is h = absurd (true≢false (sym h))
signalled_in origins history rec (Some origin) is h = record { origin = origin; there = is; signals = h }

pub signalled : (origins : List Origin) (history : List BankEvent) (rec : ℕ)
    → is_signalled_after origins history rec ≡ true → IsSignalled origins history rec
unfolding is_signalled_after
signalled origins history rec h = signalled_in origins history rec (slice_get origins rec) refl h

signals_there : (origins : List Origin) (history : List BankEvent) (rec : ℕ) (o : Origin)
    → slice_get origins rec ≡ Some o → signal_by o (shown (errors_at o rec history)) ≡ true
    → is_signalled_after origins history rec ≡ true
unfolding is_signalled_after level_after
signals_there origins history rec o is h = rw is h

no_signal : (o : Origin) (errors : List Error) → is_any errors ≡ false → signal_by o (shown errors) ≡ true → ⊥
no_signal o errors none h = true≢false (sym h ∙ ap (signal_by o) (shown_none errors none))

any_or : (o : Origin) (errors : List Error) → signal_by o (shown errors) ≡ true → is_any errors ≡ true
any_or o errors h =
    elim (cases_Bool (is_any errors)) as (λ _. is_any errors ≡ true) [
      | inl any ↦ any
      | inr none ↦ absurd (no_signal o errors none h)
    ]

-- a record that is signalled holds an error
pub signalled_any : (origins : List Origin) (history : List BankEvent) (rec : ℕ)
    (s : IsSignalled origins history rec) → is_any (errors_at s.origin rec history) ≡ true
signalled_any origins history rec s = any_or s.origin (errors_at s.origin rec history) s.signals

-- where a record shows what it showed, it was signalled too
same_signal : (origins : List Origin) (before after : List BankEvent) (rec : ℕ) → IsSignalled origins after rec
    → ((o : Origin) → shown (errors_at o rec after) ≡ shown (errors_at o rec before))
    → is_signalled_after origins before rec ≡ true
same_signal origins before after rec s same =
    signals_there origins before rec s.origin s.there
    (sym (ap (signal_by s.origin) (same s.origin)) ∙ s.signals)

-- ---- An error ----

asks_log : (origins : List Origin) (e : Error) (history : List BankEvent)
    → asks origins (Logs e ∷ history) ≡ (asks origins history || nat_lt 0 (raised origins history e))
unfolding asks
asks_log origins e history = refl

raised_there : (origins : List Origin) (e : Error) (history : List BankEvent) (o : Origin)
    → slice_get origins e.report.rec ≡ Some o
    → raised origins history e ≡ level_in (outcome o (events_of e.report.rec history) e)
unfolding raised
raised_there origins e history o h = rw h refl

unlogged : (o : Origin) (events : List Event) (e : Error) → (control_fields o.control).enable ≡ false
    → is_logged o events e.report ≡ false
unfolding is_logged is_counted
unlogged o events e off = rw off refl

unwritten : (o : Origin) (events : List Event) (e : Error) → is_logged o events e.report ≡ false
    → wrote o events e ≡ false
unfolding wrote
unwritten o events e off = rw off refl

-- an error that wrote the record is signalled at its level
wrote_level : (o : Origin) (events : List Event) (e : Error) → wrote o events e ≡ true
    → level_in (outcome o events e) ≡ level_of (control_fields o.control) e.report.severity
unfolding outcome level_in
wrote_level o events e it =
    elim (cases_Bool (control_fields o.control).enable) as (λ _. level_in (outcome o events e)
    ≡ level_of (control_fields o.control) e.report.severity) [
      | inr off ↦ absurd (true≢false (sym it ∙ unwritten o events e (unlogged o events e off)))
      | inl on ↦
          elim (cases_Bool (is_logged o events e.report)) as (λ _. level_in (outcome o events e)
          ≡ level_of (control_fields o.control) e.report.severity) [
            | inr counted ↦ absurd (true≢false (sym it ∙ unwritten o events e counted))
            | inl logged ↦ rw (on, logged, it) refl
          ]
    ]

asked_here : (origins : List Origin) (history : List BankEvent) (e : Error) (o : Origin)
    → AllLogsBefore e.step history → IsAsked origins history → slice_get origins e.report.rec ≡ Some o
    → signal_by o (shown (errors_at o e.report.rec (Logs e ∷ history))) ≡ true
    → (asks origins history || nat_lt 0 (raised origins history e)) ≡ true
asked_here origins history e o early h there s =
    let at = e.report.rec in
    let before = asks origins history in
    let now = nat_lt 0 (raised origins history e) in
    let events = events_of at history in
    let ss = ap (λ es. shown (since o es)) (logs_here at e history refl) in
    elim (effect_of o events e (before_events e.step at history early)) as (λ _. (before || now) ≡ true) [
      | passes _ later _ ↦
          or_left before now (h.each at (signals_there origins history at o there
          (sym (ap (signal_by o) (ss ∙ ap shown later)) ∙ s)))
      | writes_it it _ _ is _ ↦
          or_right before now (ap (nat_lt 0) (raised_there origins e history o there ∙ wrote_level o events e it)
          ∙ sym (ap (signal_by o) (ss ∙ is)) ∙ s)
      | is_kept _ _ _ is _ _ ↦
          or_left before now (h.each at (signals_there origins history at o there
          (sym (ap (signal_by o) (ss ∙ is)) ∙ s)))
    ]

pub asked_log : (origins : List Origin) (history : List BankEvent) (e : Error) → AllLogsBefore e.step history
    → IsAsked origins history → IsAsked origins (Logs e ∷ history)
asked_log origins history e early h =
    record {
      each = λ rec now.
          let s = signalled origins (Logs e ∷ history) rec now in
          asks_log origins e history
          ∙ elim (cases_eq rec e.report.rec) as (λ _. (asks origins history || nat_lt 0 (raised origins history e))
          ≡ true) [
            | inl here ↦
                asked_here origins history e s.origin early h (ap (slice_get origins) (sym here) ∙ s.there)
                (ap (λ at. signal_by s.origin (shown (errors_at s.origin at (Logs e ∷ history)))) (sym here)
                ∙ s.signals)
            | inr elsewhere ↦
                or_left (asks origins history) (nat_lt 0 (raised origins history e))
                (h.each rec (same_signal origins history (Logs e ∷ history) rec s
                (λ o. ap (λ es. shown (since o es)) (logs_elsewhere rec e history elsewhere))))
          ];
    }

-- ---- A claim, an invalidation, an empty search ----

asks_claim : (origins : List Origin) (rec : ℕ) (history : List BankEvent)
    → asks origins (Claims rec ∷ history) ≡ asks origins history
unfolding asks
asks_claim origins rec history = refl

asks_invalidate : (origins : List Origin) (rec : ℕ) (history : List BankEvent)
    → asks origins (Invalidates rec ∷ history) ≡ asks origins history
unfolding asks
asks_invalidate origins rec history = refl

pub asked_claim : (origins : List Origin) (history : List BankEvent) (rec : ℕ) → IsAsked origins history
    → IsAsked origins (Claims rec ∷ history)
asked_claim origins history rec h =
    record {
      each = λ at now.
          asks_claim origins rec history
          ∙ h.each at (same_signal origins history (Claims rec ∷ history) at
          (signalled origins (Claims rec ∷ history) at now) (λ o. ap shown (errors_claimed o at rec history)));
    }

none_held : is_any [] ≡ false
unfolding is_any
none_held = refl

invalidated_here : (origins : List Origin) (history : List BankEvent) (rec : ℕ)
    → IsSignalled origins (Invalidates rec ∷ history) rec → is_signalled_after origins history rec ≡ true
invalidated_here origins history rec s =
    elim (cases_Bool (claimed_at s.origin rec history)) as (λ _. is_signalled_after origins history rec ≡ true) [
      | inl on ↦
          absurd (true≢false (sym (signalled_any origins (Invalidates rec ∷ history) rec s)
          ∙ ap is_any (errors_cleared s.origin rec history on) ∙ none_held))
      | inr off ↦
          signals_there origins history rec s.origin s.there
          (sym (ap (λ es. signal_by s.origin (shown es)) (errors_stood s.origin rec history off)) ∙ s.signals)
    ]

pub asked_invalidate : (origins : List Origin) (history : List BankEvent) (rec : ℕ) → IsAsked origins history
    → IsAsked origins (Invalidates rec ∷ history)
asked_invalidate origins history rec h =
    record {
      each = λ at now.
          let s = signalled origins (Invalidates rec ∷ history) at now in
          asks_invalidate origins rec history
          ∙ h.each at (elim (cases_eq at rec) as (λ _. is_signalled_after origins history at ≡ true) [
            | inl here ↦
                subst (λ k. is_signalled_after origins history k ≡ true) (sym here)
                (invalidated_here origins history rec
                (subst (IsSignalled origins (Invalidates rec ∷ history)) here s))
            | inr elsewhere ↦
                same_signal origins history (Invalidates rec ∷ history) at s
                (λ o. ap shown (errors_elsewhere o at rec history elsewhere))
          ]);
    }

-- a search that found none takes the ask back
pub asked_over : (origins : List Origin) (history : List BankEvent)
    → ((rec : ℕ) → is_signalled_after origins history rec ≡ false) → IsAsked origins (ScanOver ∷ history)
asked_over origins history none =
    record {
      each = λ at now.
          absurd (true≢false (sym (same_signal origins history (ScanOver ∷ history) at
          (signalled origins (ScanOver ∷ history) at now) (λ o. ap shown (errors_scanned o at history)))
          ∙ none at));
    }
