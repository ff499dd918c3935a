-- What one step does to a bank, as one of ten moves with what each of them wants and leaves.
use Rattle.std.proofs.Common.{◌≡◌, ℕ, ◌&&◌, Bool, true, false, cond, slice_get, Option, Some, None, refl, ap, subst}
use Rattle.std.proofs.lemmas.Option.{none-some, same_Some}
use Rattle.reri_fields.specs.declared.drain.Phase.{Phase}
use Rattle.reri_fields.specs.declared.drain.Phase.TheVariants.{Scan, Claim, Address, Info, Supplement, Time, Check, Invalidate, Signal}
use Rattle.reri_fields.specs.declared.drain.DrainNote.TheVariants as drain
use Rattle.reri_fields.specs.Records.{Error, Origin}
use Rattle.reri_fields.specs.Banks.{asks, least_signalled}
use Rattle.reri_fields.specs.Drain.{BankPlan, BankState, BankTry, BankNote, BankStep, Draining, reported, acknowledged, scanned, claimed, goes_to, torn, published, publication, checked, checked_if, claimed_at, is_cleared, invalidated, signalled, heard, phase_step, fresh_drain, is_free, may_begin, due_drain, drained_by, bank_step}
use Rattle.reri_fields.specs.Drain.BankTry.{Reports, Drains, Acknowledges}
use Rattle.reri_fields.specs.Drain.BankNote.{Heard, Drew, Acknowledged}

-- ---- Phases ----

-- the four that read a register, and the four that such a read leads to
abbrev pub is_reading : Phase → Bool
is_reading Address = true
is_reading Info = true
is_reading Supplement = true
is_reading Time = true
is_reading phase = false

abbrev pub is_read_to : Phase → Bool
is_read_to Info = true
is_read_to Supplement = true
is_read_to Time = true
is_read_to Check = true
is_read_to phase = false

-- ---- The drain that a step goes on with ----

-- it is the one that is under way, or one that begins, with the bank asking and its slot free
pub data IsDue (plan : BankPlan) (s : BankState) : Draining → Type 0 where
  goes_on : (d : Draining) → s.drain ≡ Some d → IsDue plan s d
  begins : s.drain ≡ None → asks plan.origins s.history ≡ true → is_free s.slot ≡ true → IsDue plan s fresh_drain

both : (a b : Bool) → (a && b) ≡ true → (a ≡ true) × (b ≡ true)
both true b h = (refl, h)
both false b h = absurd (cc)

begun : (plan : BankPlan) (s : BankState) (may : Bool) (d : Draining) → may_begin plan s ≡ may → s.drain ≡ None
    → cond may (Some fresh_drain) None ≡ Some d → IsDue plan s d
begun plan s true d is none h =
    let so = both (asks plan.origins s.history) (is_free s.slot) is in
    subst (IsDue plan s) (same_Some fresh_drain d h) (begins none so.0 so.1)
begun plan s false d is none h = absurd (none-some d h)

due : (plan : BankPlan) (s : BankState) (o : Option Draining) (d : Draining) → s.drain ≡ o
    → due_drain plan s o ≡ Some d → IsDue plan s d
due plan s (Some e) d is h = subst (IsDue plan s) (same_Some e d h) (goes_on e is)
due plan s None d is h = begun plan s (may_begin plan s) d refl is h

-- ---- Moves ----

-- what is tried, the bank afterwards, and the note
pub data Moves (plan : BankPlan) (s : BankState) : BankTry → BankState → BankNote → Type 0 where
  reports : (e : Error)
      → Moves plan s (Reports e) (reported e s) (Heard e.report (heard plan.origins s.history e))
  acks : Moves plan s Acknowledges (acknowledged s) (Acknowledged (cond (is_free s.slot) false true))
  finds_none : (d : Draining) → IsDue plan s d → d.phase ≡ Scan → least_signalled plan.origins s.history ≡ None
      → Moves plan s Drains (scanned s d None).state (Drew d.rec drain.Over)
  finds : (d : Draining) (rec : ℕ) → IsDue plan s d → d.phase ≡ Scan
      → least_signalled plan.origins s.history ≡ Some rec
      → Moves plan s Drains (scanned s d (Some rec)).state (Drew d.rec (drain.Scanned rec))
  claims : (d : Draining) → IsDue plan s d → d.phase ≡ Claim
      → Moves plan s Drains (claimed s d).state (Drew d.rec drain.Claimed)
  reads : (d : Draining) (register : ℕ) (next : Phase) → IsDue plan s d → is_reading d.phase ≡ true
      → is_read_to next ≡ true → Moves plan s Drains (goes_to next s d) (Drew d.rec (drain.Read register))
  tears : (d : Draining) (o : Option Origin) → IsDue plan s d → d.phase ≡ Check → slice_get plan.origins d.rec ≡ o
      → is_cleared o d.rec s.history ≡ false → Moves plan s Drains (torn s d).state (Drew d.rec drain.Torn)
  publishes : (d : Draining) (origin : Origin) → IsDue plan s d → d.phase ≡ Check
      → slice_get plan.origins d.rec ≡ Some origin → claimed_at origin d.rec s.history ≡ true
      → Moves plan s Drains (published s d (publication s d.rec origin)).state
      (Drew d.rec (drain.Published (publication s d.rec origin).copy))
  clears : (d : Draining) → IsDue plan s d → d.phase ≡ Invalidate
      → Moves plan s Drains (invalidated plan s d).state
      (Drew d.rec (drain.Invalidated (is_cleared (slice_get plan.origins d.rec) d.rec s.history)))
  signals : (d : Draining) → IsDue plan s d → d.phase ≡ Signal
      → Moves plan s Drains (signalled s d).state (Drew d.rec (drain.Signal d.level))

abbrev Drawn : BankPlan → BankState → Draining → Phase → Type 0
Drawn plan s d phase =
    Moves plan s Drains (phase_step plan s d phase).state (Drew d.rec (phase_step plan s d phase).note)

scan_moves : (plan : BankPlan) (s : BankState) (d : Draining) (o : Option ℕ) → IsDue plan s d → d.phase ≡ Scan
    → least_signalled plan.origins s.history ≡ o
    → Moves plan s Drains (scanned s d o).state (Drew d.rec (scanned s d o).note)
scan_moves plan s d None is at found = finds_none d is at found
scan_moves plan s d (Some rec) is at found = finds d rec is at found

check_if : (plan : BankPlan) (s : BankState) (d : Draining) (origin : Origin) (b : Bool) → IsDue plan s d
    → d.phase ≡ Check → slice_get plan.origins d.rec ≡ Some origin → claimed_at origin d.rec s.history ≡ b
    → Moves plan s Drains (checked_if s d origin b).state (Drew d.rec (checked_if s d origin b).note)
check_if plan s d origin true is at known held = publishes d origin is at known held
check_if plan s d origin false is at known lost = tears d (Some origin) is at known lost

check_moves : (plan : BankPlan) (s : BankState) (d : Draining) (o : Option Origin) → IsDue plan s d → d.phase ≡ Check
    → slice_get plan.origins d.rec ≡ o
    → Moves plan s Drains (checked s d o).state (Drew d.rec (checked s d o).note)
check_moves plan s d None is at known = tears d None is at known refl
check_moves plan s d (Some origin) is at known =
    check_if plan s d origin (claimed_at origin d.rec s.history) is at known refl

phase_moves : (plan : BankPlan) (s : BankState) (d : Draining) (phase : Phase) → IsDue plan s d → d.phase ≡ phase
    → Drawn plan s d phase
phase_moves plan s d Scan is at = scan_moves plan s d (least_signalled plan.origins s.history) is at refl
phase_moves plan s d Claim is at = claims d is at
phase_moves plan s d Address is at = reads d 2 Info is (ap is_reading at) refl
phase_moves plan s d Info is at = reads d 3 Supplement is (ap is_reading at) refl
phase_moves plan s d Supplement is at = reads d 4 Time is (ap is_reading at) refl
phase_moves plan s d Time is at = reads d 5 Check is (ap is_reading at) refl
phase_moves plan s d Check is at = check_moves plan s d (slice_get plan.origins d.rec) is at refl
phase_moves plan s d Invalidate is at = clears d is at
phase_moves plan s d Signal is at = signals d is at

drained_moves : (plan : BankPlan) (s : BankState) (o : Option Draining) (m : BankStep)
    → due_drain plan s s.drain ≡ o → drained_by plan s o ≡ Some m → Moves plan s Drains m.state m.note
drained_moves plan s None m is h = absurd (none-some m h)
drained_moves plan s (Some d) m is h =
    subst (λ (x : BankStep). Moves plan s Drains x.state x.note) (same_Some _ m h)
    (phase_moves plan s d d.phase (due plan s s.drain d refl is) refl)

-- what a step of a bank does
pub moves : (plan : BankPlan) (s : BankState) (t : BankTry) (m : BankStep) → bank_step plan s t ≡ Some m
    → Moves plan s t m.state m.note
unfolding bank_step
moves plan s (Reports e) m h =
    subst (λ (x : BankStep). Moves plan s (Reports e) x.state x.note) (same_Some _ m h) (reports e)
moves plan s Drains m h = drained_moves plan s (due_drain plan s s.drain) m refl h
moves plan s Acknowledges m h =
    subst (λ (x : BankStep). Moves plan s Acknowledges x.state x.note) (same_Some _ m h) acks
