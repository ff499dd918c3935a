-- A bank that stands for a history stands for the history with one event more once that event has done its work on one
-- record. These lemmas speak of what contracts see of a bank, and of no way to store it.
use Rattle.std.proofs.Common.{◌≡◌, ◌≢◌, ℕ, suc, zero, ◌<◌, ◌≤◌, Bool, true, false, ◌||◌, nat_lt, ◌==◌, cond, List, [], ◌∷◌, length, set, slice_get, Some, None, refl, inl, inr, sym, ap, ◌∙◌, subst, arith}
use Rattle.std.proofs.lemmas.Bool.{cases_eq, eq-eqb, ne_eqb}
use Rattle.std.proofs.lemmas.List.{length-set}
use Rattle.std.proofs.lemmas.Option.{slice_get_within, slice_get_past, same_Some, none-some}
use Rattle.reri_fields.specs.declared.report.RecordCopy.{RecordCopy}
use Rattle.reri_fields.specs.declared.report.Logged.{Logged}
use Rattle.reri_fields.specs.Records.{Error, Origin, AllBefore, Stands}
use Rattle.reri_fields.specs.Records.Event.{Reported, Claimed, Invalidated}
use Rattle.reri_fields.specs.Outcome.{outcome}
use Rattle.reri_fields.specs.Banks.{BankEvent, BankView, BankStands, AllLogsBefore, events_of, level_in, raised, asks}
use Rattle.reri_fields.specs.Banks.BankEvent.{Logs, Claims, Invalidates, ScanOver}
use Rattle.reri_log.specs.Update.{Updates}
use Rattle.reri_log.proofs.Logging.{logged_stands, logged_answer}
use Rattle.reri_bank.specs.Registers.{OneChanges, IsClaimed, IsInvalidated}
use Rattle.reri_bank.proofs.Claimed.{claim_stands, invalidate_stands}

-- ---- Elements of a list ----

pub get_there : {X : Type 0} (xs : List X) (at : ℕ) → at < length xs → (x : X) × (slice_get xs at ≡ Some x)
get_there [] at h = absurd (omega arith)
get_there (x ∷ xs) zero h = (x, refl)
get_there (x ∷ xs) (suc at) h = get_there xs at (omega arith)

pub get_nowhere : {X : Type 0} (xs : List X) (at : ℕ) → slice_get xs at ≡ None → length xs ≤ at
get_nowhere [] at h = omega arith
get_nowhere (x ∷ xs) zero h = absurd (none-some x (sym h))
get_nowhere (x ∷ xs) (suc at) h = omega (arith, get_nowhere xs at h)

pub get-set_same : {X : Type 0} (xs : List X) (at : ℕ) (y : X) → at < length xs → slice_get (set xs at y) at ≡ Some y
get-set_same [] at y h = absurd (omega arith)
get-set_same (x ∷ xs) zero y h = refl
get-set_same (x ∷ xs) (suc at) y h = get-set_same xs at y (omega arith)

pub get-set_other : {X : Type 0} (xs : List X) (at k : ℕ) (y : X) → k ≢ at → slice_get (set xs at y) k ≡ slice_get xs k
get-set_other [] at k y h = refl
get-set_other (x ∷ xs) zero zero y h = absurd (h refl)
get-set_other (x ∷ xs) zero (suc k) y h = refl
get-set_other (x ∷ xs) (suc at) zero y h = refl
get-set_other (x ∷ xs) (suc at) (suc k) y h = get-set_other xs at k y (λ e. h (ap suc e))

-- ---- Histories with one event more ----

pub logs_here : (at : ℕ) (e : Error) (history : List BankEvent) → e.report.rec ≡ at → events_of at (Logs e ∷ history)
    ≡ Reported e ∷ events_of at history
unfolding events_of
logs_here at e history h = rw (eq-eqb e.report.rec at h) refl

pub logs_elsewhere : (at : ℕ) (e : Error) (history : List BankEvent) → at ≢ e.report.rec
    → events_of at (Logs e ∷ history) ≡ events_of at history
unfolding events_of
logs_elsewhere at e history h = rw (ne_eqb e.report.rec at (λ q. h (sym q))) refl

pub claims_here : (at rec : ℕ) (history : List BankEvent) → rec ≡ at → events_of at (Claims rec ∷ history) ≡ Claimed
    ∷ events_of at history
unfolding events_of
claims_here at rec history h = rw (eq-eqb rec at h) refl

pub claims_elsewhere : (at rec : ℕ) (history : List BankEvent) → at ≢ rec → events_of at (Claims rec ∷ history)
    ≡ events_of at history
unfolding events_of
claims_elsewhere at rec history h = rw (ne_eqb rec at (λ q. h (sym q))) refl

pub invalidates_here : (at rec : ℕ) (history : List BankEvent) → rec ≡ at → events_of at (Invalidates rec ∷ history)
    ≡ Invalidated ∷ events_of at history
unfolding events_of
invalidates_here at rec history h = rw (eq-eqb rec at h) refl

pub invalidates_elsewhere : (at rec : ℕ) (history : List BankEvent) → at ≢ rec
    → events_of at (Invalidates rec ∷ history) ≡ events_of at history
unfolding events_of
invalidates_elsewhere at rec history h = rw (ne_eqb rec at (λ q. h (sym q))) refl

pub before_events : (step at : ℕ) (history : List BankEvent) → AllLogsBefore step history
    → AllBefore step (events_of at history)
unfolding events_of
before_events step at [] h = tt
before_events step at (Logs e ∷ history) h =
    let rest = before_events step at history h.1 in
    elim (e.report.rec == at) as (λ b. AllBefore step
    (cond b (Reported e ∷ events_of at history) (events_of at history))) [ true ↦ (h.0, rest) | false ↦ rest ]
before_events step at (Claims rec ∷ history) h =
    let rest = before_events step at history h in
    elim (rec == at) as (λ b. AllBefore step (cond b (Claimed ∷ events_of at history) (events_of at history))) [
      | true ↦ rest
      | false ↦ rest
    ]
before_events step at (Invalidates rec ∷ history) h =
    let rest = before_events step at history h in
    elim (rec == at) as (λ b. AllBefore step (cond b (Invalidated ∷ events_of at history) (events_of at history))) [
      | true ↦ rest
      | false ↦ rest
    ]
before_events step at (ScanOver ∷ history) h = before_events step at history h

-- ---- One record changes, or none ----

-- each record but one stays, and that one stands for its own later history
pub one_changes : (origins : List Origin) (history later : List BankEvent) (rec : ℕ) (before after : RecordCopy)
    (bank : BankView) (asking : Bool) → BankStands origins history bank → slice_get bank.copies rec ≡ Some before
    → ((at : ℕ) → at ≢ rec → events_of at later ≡ events_of at history)
    → ((origin : Origin) → Stands origin (events_of rec history) before → Stands origin (events_of rec later) after)
    → asking ≡ asks origins later
    → BankStands origins later (record { copies = set bank.copies rec after; asks = asking })
one_changes origins history later rec before after bank asking s was same step ask =
    record {
      count = length-set bank.copies rec after ∙ s.count;
      controls = s.controls;
      each = λ at origin copy h k.
          elim (cases_eq at rec) as (λ _. Stands origin (events_of at later) copy) [
            | inl here ↦
                let now : copy
                ≡ after = same_Some copy after (sym k ∙ ap (λ i. slice_get (set bank.copies rec after) i) here
                ∙ get-set_same bank.copies rec after (slice_get_within bank.copies rec before was)) in
                subst (λ i. Stands origin (events_of i later) copy) (sym here)
                (subst (λ x. Stands origin (events_of rec later) x) (sym now)
                (step origin (s.each rec origin before (ap (λ i. slice_get origins i) (sym here) ∙ h) was)))
            | inr elsewhere ↦
                subst (λ x. Stands origin x copy) (sym (same at elsewhere))
                (s.each at origin copy h (sym (get-set_other bank.copies rec at after elsewhere) ∙ k))
          ];
      asking = ask;
    }

-- an event that names no record of the bank changes nothing
pub none_changes : (origins : List Origin) (history later : List BankEvent) (rec : ℕ) (bank : BankView)
    → BankStands origins history bank → length bank.copies ≤ rec
    → ((at : ℕ) → at ≢ rec → events_of at later ≡ events_of at history) → asks origins history ≡ asks origins later
    → BankStands origins later bank
none_changes origins history later rec bank s past same ask =
    record {
      count = s.count;
      controls = s.controls;
      each = λ at origin copy h k.
          let within = slice_get_within bank.copies at copy k in
          subst (λ x. Stands origin x copy) (sym (same at (λ e. omega arith))) (s.each at origin copy h k);
      asking = s.asking ∙ ask;
    }

-- ---- Each kind of event ----

asks_claim : (origins : List Origin) (rec : ℕ) (history : List BankEvent) → asks origins (Claims rec ∷ history)
    ≡ asks origins history
unfolding asks
asks_claim origins rec history = refl

asks_invalidate : (origins : List Origin) (rec : ℕ) (history : List BankEvent)
    → asks origins (Invalidates rec ∷ history) ≡ asks origins history
unfolding asks
asks_invalidate origins rec history = refl

asks_over : (origins : List Origin) (history : List BankEvent) → asks origins (ScanOver ∷ history) ≡ false
unfolding asks
asks_over origins history = refl

asks_log : (origins : List Origin) (e : Error) (history : List BankEvent) → asks origins (Logs e ∷ history)
    ≡ (asks origins history || nat_lt 0 (raised origins history e))
unfolding asks
asks_log origins e history = refl

raised_there : (origins : List Origin) (e : Error) (history : List BankEvent) (origin : Origin)
    → slice_get origins e.report.rec ≡ Some origin → raised origins history e
    ≡ level_in (outcome origin (events_of e.report.rec history) e)
unfolding raised
raised_there origins e history origin h = rw h refl

raised_nowhere : (origins : List Origin) (e : Error) (history : List BankEvent) → slice_get origins e.report.rec
    ≡ None → raised origins history e ≡ 0
unfolding raised
raised_nowhere origins e history h = rw h refl

pub claim_keeps : (origins : List Origin) (history : List BankEvent) (rec : ℕ) (before after : RecordCopy)
    (bank : BankView) → BankStands origins history bank → slice_get bank.copies rec ≡ Some before
    → IsClaimed before after
    → BankStands origins (Claims rec ∷ history) (record { copies = set bank.copies rec after; asks = bank.asks })
claim_keeps origins history rec before after bank s was k =
    one_changes origins history (Claims rec ∷ history) rec before after bank bank.asks s was
    (λ at h. claims_elsewhere at rec history h)
    (λ origin t. subst (λ x. Stands origin x after) (sym (claims_here rec rec history refl))
    (claim_stands origin (events_of rec history) before after k t))
    (s.asking ∙ sym (asks_claim origins rec history))

pub claim_nowhere : (origins : List Origin) (history : List BankEvent) (rec : ℕ) (bank : BankView)
    → BankStands origins history bank → length bank.copies ≤ rec → BankStands origins (Claims rec ∷ history) bank
claim_nowhere origins history rec bank s past =
    none_changes origins history (Claims rec ∷ history) rec bank s past (λ at h. claims_elsewhere at rec history h)
    (sym (asks_claim origins rec history))

pub invalidate_keeps : (origins : List Origin) (history : List BankEvent) (rec : ℕ) (before after : RecordCopy)
    (bank : BankView) → BankStands origins history bank → slice_get bank.copies rec ≡ Some before
    → IsInvalidated before after
    → BankStands origins (Invalidates rec ∷ history) (record { copies = set bank.copies rec after; asks = bank.asks })
invalidate_keeps origins history rec before after bank s was k =
    one_changes origins history (Invalidates rec ∷ history) rec before after bank bank.asks s was
    (λ at h. invalidates_elsewhere at rec history h)
    (λ origin t. subst (λ x. Stands origin x after) (sym (invalidates_here rec rec history refl))
    (invalidate_stands origin (events_of rec history) before after k t))
    (s.asking ∙ sym (asks_invalidate origins rec history))

pub invalidate_nowhere : (origins : List Origin) (history : List BankEvent) (rec : ℕ) (bank : BankView)
    → BankStands origins history bank → length bank.copies ≤ rec → BankStands origins (Invalidates rec ∷ history) bank
invalidate_nowhere origins history rec bank s past =
    none_changes origins history (Invalidates rec ∷ history) rec bank s past
    (λ at h. invalidates_elsewhere at rec history h) (sym (asks_invalidate origins rec history))

pub scan_over_keeps : (origins : List Origin) (history : List BankEvent) (bank : BankView)
    → BankStands origins history bank
    → BankStands origins (ScanOver ∷ history) (record { copies = bank.copies; asks = false })
unfolding events_of
scan_over_keeps origins history bank s =
    record { count = s.count; controls = s.controls; each = s.each; asking = sym (asks_over origins history) }

never : (b : Bool) → b ≡ (b || nat_lt 0 0)
never true = refl
never false = refl

module _ (origins : List Origin) (history : List BankEvent) (e : Error) (bank : BankView)
    (early : AllLogsBefore e.step history) (s : BankStands origins history bank) where
  -- what the history says became of the error
  pub log_answer : (before after : RecordCopy) (answer : Logged) (origin : Origin)
      → slice_get bank.copies e.report.rec ≡ Some before → Updates before e.report after answer
      → slice_get origins e.report.rec ≡ Some origin → answer ≡ outcome origin (events_of e.report.rec history) e
  log_answer before after answer origin was u h =
      logged_answer before e.report after answer u origin (events_of e.report.rec history) e.step
      (before_events e.step e.report.rec history early) (s.each e.report.rec origin before h was)

  pub log_keeps : (before after : RecordCopy) (answer : Logged) → slice_get bank.copies e.report.rec ≡ Some before
      → Updates before e.report after answer
      → BankStands origins (Logs e ∷ history)
      (record { copies = set bank.copies e.report.rec after; asks = bank.asks || nat_lt 0 (level_in answer) })
  log_keeps before after answer was u =
      let rec = e.report.rec in
      let within = slice_get_within bank.copies rec before was in
      let at = get_there origins rec (omega (arith, s.count)) in
      let level : level_in answer
      ≡ raised origins history e = ap level_in (log_answer before after answer at.0 was u at.1)
      ∙ sym (raised_there origins e history at.0 at.1) in
      one_changes origins history (Logs e ∷ history) rec before after bank (bank.asks || nat_lt 0 (level_in answer)) s
      was (λ k h. logs_elsewhere k e history h)
      (λ origin t. subst (λ x. Stands origin x after) (sym (logs_here rec e history refl))
      (logged_stands before e.report after answer u origin (events_of rec history) e.step
      (before_events e.step rec history early) t))
      (ap (λ b. b || nat_lt 0 (level_in answer)) s.asking ∙ ap (λ n. asks origins history || nat_lt 0 n) level
      ∙ sym (asks_log origins e history))

  pub log_nowhere : length bank.copies ≤ e.report.rec → BankStands origins (Logs e ∷ history) bank
  log_nowhere past =
      let nobody = raised_nowhere origins e history (slice_get_past origins e.report.rec (omega (arith, s.count))) in
      none_changes origins history (Logs e ∷ history) e.report.rec bank s past (λ k h. logs_elsewhere k e history h)
      (never (asks origins history) ∙ ap (λ n. asks origins history || nat_lt 0 n) (sym nobody)
      ∙ sym (asks_log origins e history))

-- ---- The same, told from what changed ----

pub logged_bank : (origins : List Origin) (history : List BankEvent) (e : Error) (bank later : BankView)
    (answer : Logged) → AllLogsBefore e.step history → BankStands origins history bank
    → OneChanges (λ old new. Updates old e.report new answer) e.report.rec bank.copies later.copies
    → later.asks ≡ (bank.asks || nat_lt 0 (level_in answer)) → BankStands origins (Logs e ∷ history) later
logged_bank origins history e bank later answer early s one asking =
    let is : record {
      copies = set bank.copies e.report.rec one.after;
      asks = bank.asks
          || nat_lt 0 (level_in answer);
    } ≡ later = λ i. record { copies = sym one.is i; asks = sym asking i } in
    subst (BankStands origins (Logs e ∷ history)) is
    (log_keeps origins history e bank early s one.before one.after answer one.was one.changes)

pub logged_here : (origins : List Origin) (history : List BankEvent) (e : Error) (bank later : BankView)
    (answer : Logged) (origin : Origin) → AllLogsBefore e.step history → BankStands origins history bank
    → OneChanges (λ old new. Updates old e.report new answer) e.report.rec bank.copies later.copies
    → slice_get origins e.report.rec ≡ Some origin → answer ≡ outcome origin (events_of e.report.rec history) e
logged_here origins history e bank later answer origin early s one h = log_answer origins history e bank early s
    one.before one.after answer origin one.was one.changes h
