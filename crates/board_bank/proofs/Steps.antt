-- What each call of a bank makes of the states that it stands for.
use Rattle.std.proofs.Common.{◌≡◌, ℕ, zero, suc, ◌≤◌, ◌&&◌, Bool, true, false, cond, List, [], ◌∷◌, length, slice_get, Option, Some, None, is_some, refl, sym, ap, ◌∙◌, subst, arith}
use Rattle.std.specs.Prelude.{IsNone, IsTrue, ◌↔◌}
use Rattle.std.specs.Option.{option_map}
use Rattle.std.proofs.lemmas.Bool.{true≢false}
use Rattle.reri_fields.specs.declared.report.RecordCopy.{RecordCopy}
use Rattle.reri_fields.specs.declared.report.Report.{Report}
use Rattle.reri_fields.specs.declared.report.Logged.{Logged}
use Rattle.reri_fields.specs.declared.drain.DrainNote.{DrainNote}
use Rattle.reri_fields.specs.Records.{Error, Origin}
use Rattle.reri_fields.specs.Outcome.{outcome}
use Rattle.reri_fields.specs.Banks.{BankEvent, BankView, BankStands, events_of, asks}
use Rattle.reri_fields.specs.Banks.BankEvent.{Logs}
use Rattle.reri_fields.specs.Drain.{BankPlan, BankState, Draining, fresh_drain, is_free, may_begin, due_drain, drained_by, phase_step, heard, reported, acknowledged, bank_step}
use Rattle.reri_fields.specs.Drain.BankTry.{Reports, Drains, Acknowledges}
use Rattle.reri_fields.specs.Drain.BankNote.{Heard, Drew, Acknowledged}
use Rattle.ras_drain.specs.Fits.{has_record, FitsWhere, HasRoom}
use Rattle.ras_drain.specs.Steps.{IsAt}
use Rattle.board_bank.specs.Standing.{BankParts, StandsFor, Makes}
use Rattle.board_bank.specs.Inside.{Begins, Advances}

-- ---- An error ----

none_from : (r : Option Logged) → IsNone r → r ≡ None
none_from None h = refl
none_from (Some x) h = absurd (true≢false h)

heard_is : (origins : List Origin) (history : List BankEvent) (e : Error) (result : Option Logged)
    (found : Option Origin)
    → slice_get origins e.report.rec ≡ found
    → (found ≡ None → IsNone result)
    → ((origin : Origin) → found ≡ Some origin → result ≡ Some (outcome origin (events_of e.report.rec history) e))
    → heard origins history e ≡ result
heard_is origins history e result None is none some =
    ap (option_map (λ (origin : Origin). outcome origin (events_of e.report.rec history) e)) is
    ∙ sym (none_from result (none refl))
heard_is origins history e result (Some origin) is none some =
    ap (option_map (λ (o : Origin). outcome o (events_of e.report.rec history) e)) is ∙ sym (some origin refl)

past_end : (origins : List Origin) (rec : ℕ) → slice_get origins rec ≡ None → length origins ≤ rec
past_end [] rec h = omega arith
past_end (o ∷ os) zero h = absurd (true≢false (ap is_some h))
past_end (o ∷ os) (suc rec) h = let further = past_end os rec h in omega arith

pub reports : (plan : BankPlan) (s : BankState) (step : ℕ) (report : Report) (b : BankParts) (bank : BankView)
    (result : Option Logged)
    → StandsFor plan s b
    → (IsNone result ↔ (length b.bank.copies ≤ report.rec))
    → BankStands plan.origins (Logs (record { step = step; report = report }) ∷ s.history) bank
    → ((origin : Origin) → slice_get plan.origins report.rec ≡ Some origin → result
    ≡ Some (outcome origin (events_of report.rec s.history) (record { step = step; report = report })))
    → Makes plan s (Reports (record { step = step; report = report })) (Heard report result) (record b { bank = bank })
unfolding bank_step
reports plan s step report b bank result h none stands answer =
    let e : Error = record { step = step; report = report } in
    let told = heard_is plan.origins s.history e result (slice_get plan.origins report.rec) refl
    (λ nowhere. none.1 (omega (arith, h.stands.count, past_end plan.origins report.rec nowhere))) answer in
    record {
      state = reported e s;
      step = ap (λ (r : Option Logged). Some (record { state = reported e s; note = Heard report r })) told;
      stands_for = record { stands = stands; slot_is = h.slot_is; drain_is = h.drain_is; gather_is = h.gather_is };
    }

-- ---- An acknowledgement ----

full_is : (slot : List RecordCopy) (full : Bool) → ((full ≡ false) ↔ (slot ≡ [])) → cond (is_free slot) false true
    ≡ full
unfolding is_free
full_is [] full h = sym (h.1 refl)
full_is (copy ∷ slot) true h = refl
full_is (copy ∷ slot) false h = absurd (true≢false (sym (ap is_free (h.0 refl))))

pub acknowledges : (plan : BankPlan) (s : BankState) (b : BankParts) (full : Bool) → StandsFor plan s b
    → ((full ≡ false) ↔ (b.slot ≡ [])) → Makes plan s Acknowledges (Acknowledged full) (record b { slot = [] })
unfolding bank_step
acknowledges plan s b full h told =
    let is : cond (is_free s.slot) false true ≡ full = ap (λ slot. cond (is_free slot) false true) (sym h.slot_is)
    ∙ full_is b.slot full told in
    record {
      state = acknowledged s;
      step = ap (λ f. Some (record { state = acknowledged s; note = Acknowledged f })) is;
      stands_for = record { stands = h.stands; slot_is = refl; drain_is = h.drain_is; gather_is = h.gather_is };
    }

pub room_in_free : (d : Option Draining) → HasRoom d []
room_in_free None = tt
room_in_free (Some d) = omega arith

-- ---- A drain that begins ----

pub free_is : (slot : List RecordCopy) (r : Bool) → (IsTrue r ↔ (slot ≡ [])) → r ≡ is_free slot
unfolding is_free
free_is [] r h = h.1 refl
free_is (copy ∷ slot) true h = sym (ap is_free (h.0 refl))
free_is (copy ∷ slot) false h = refl

goes_on : (plan : BankPlan) (s : BankState) (d : Option Draining) → is_some d ≡ true → d ≡ due_drain plan s d
goes_on plan s None h = absurd (true≢false (sym h))
goes_on plan s (Some d) h = refl

waits : (plan : BankPlan) (s : BankState) (d : Option Draining) → is_some d ≡ false → may_begin plan s ≡ false → d
    ≡ due_drain plan s d
waits plan s None none not_yet = rw not_yet refl
waits plan s (Some d) none not_yet = absurd (true≢false none)

starts : (plan : BankPlan) (s : BankState) (d : Option Draining) → is_some d ≡ false → may_begin plan s ≡ true →
    Some fresh_drain ≡ due_drain plan s d
starts plan s None none may = rw may refl
starts plan s (Some d) none may = absurd (true≢false none)

may_is : (plan : BankPlan) (s : BankState) (b : BankParts) → StandsFor plan s b → (b.bank.asks && is_free b.slot)
    ≡ may_begin plan s
may_is plan s b h = ap (λ a. a && is_free b.slot) h.stands.asking
    ∙ ap (λ slot. asks plan.origins s.history && is_free slot) h.slot_is

pub begins_on : (plan : BankPlan) (s : BankState) (b : BankParts) → StandsFor plan s b → is_some b.drain ≡ true →
    Begins plan s b b
begins_on plan s b h some =
    record {
      drain = h.drain_is ∙ goes_on plan s s.drain (ap is_some (sym h.drain_is) ∙ some);
      bank = refl;
      slot = refl;
      gather = refl;
    }

pub begins_not : (plan : BankPlan) (s : BankState) (b : BankParts) → StandsFor plan s b → is_some b.drain ≡ false
    → (b.bank.asks && is_free b.slot) ≡ false → Begins plan s b b
begins_not plan s b h none not_yet =
    record {
      drain = h.drain_is ∙ waits plan s s.drain (ap is_some (sym h.drain_is) ∙ none)
          (sym (may_is plan s b h) ∙ not_yet);
      bank = refl;
      slot = refl;
      gather = refl;
    }

pub begins_anew : (plan : BankPlan) (s : BankState) (b : BankParts) (d : Option Draining) → StandsFor plan s b →
    is_some b.drain ≡ false
    → (b.bank.asks && is_free b.slot) ≡ true → d ≡ Some fresh_drain → Begins plan s b (record b { drain = d })
begins_anew plan s b d h none may fresh =
    record {
      drain = fresh ∙ starts plan s s.drain (ap is_some (sym h.drain_is) ∙ none) (sym (may_is plan s b h) ∙ may);
      bank = refl;
      slot = refl;
      gather = refl;
    }

-- a drain that begins has taken no record, and has room in a free slot
pub fresh_fits : (d : Option Draining) (got : RecordCopy) (bank : BankView) → d ≡ Some fresh_drain →
    FitsWhere d got bank
unfolding has_record
fresh_fits d got bank is = subst (λ x. FitsWhere x got bank) (sym is) (λ has. absurd (true≢false (sym has)))

empty_slot : (asking : Bool) (slot : List RecordCopy) → (asking && is_free slot) ≡ true → slot ≡ []
unfolding is_free
empty_slot true [] h = refl
empty_slot false [] h = refl
empty_slot true (copy ∷ slot) h = absurd (true≢false (sym h))
empty_slot false (copy ∷ slot) h = absurd (true≢false (sym h))

pub fresh_room : (d : Option Draining) (asking : Bool) (slot : List RecordCopy) → d ≡ Some fresh_drain →
    (asking && is_free slot) ≡ true → HasRoom d slot
fresh_room d asking slot is may =
    subst (λ x. HasRoom x slot) (sym is) (omega (arith, ap length (empty_slot asking slot may)))

-- ---- A step of a drain ----

idles : (plan : BankPlan) (s : BankState) (d : Option Draining) → is_some d ≡ false → drained_by plan s d ≡ None
idles plan s None h = refl
idles plan s (Some d) h = absurd (true≢false h)

pub no_step : (plan : BankPlan) (s : BankState) (old new : BankParts) → Begins plan s old new → is_some new.drain
    ≡ false → bank_step plan s Drains ≡ None
unfolding bank_step
no_step plan s old new b none = idles plan s (due_drain plan s s.drain) (ap is_some (sym b.drain) ∙ none)

-- what is there
pub found : (d : Option Draining) → is_some d ≡ true → (x : Draining) × (d ≡ Some x)
found None h = absurd (true≢false (sym h))
found (Some x) h = (x, refl)

pub at_begun : (plan : BankPlan) (s : BankState) (old new : BankParts) → StandsFor plan s old →
    Begins plan s old new → IsAt plan s new.bank new.slot
at_begun plan s old new h b =
    record {
      stands = subst (BankStands plan.origins s.history) (sym b.bank) h.stands;
      slot_is = b.slot ∙ h.slot_is;
    }

pub draws : (plan : BankPlan) (s : BankState) (old mid new : BankParts) (d : Draining) (rec : ℕ) (note : DrainNote)
    → Begins plan s old mid → mid.drain ≡ Some d → Advances plan s d new rec note →
    Makes plan s Drains (Drew rec note) new
unfolding bank_step
draws plan s old mid new d rec note b is a =
    let next = phase_step plan s d d.phase in
    record {
      state = next.state;
      step = ap (drained_by plan s) (sym b.drain ∙ is)
          ∙ ap (λ n. Some (record { state = next.state; note = Drew d.rec n })) (sym a.took.note_is)
          ∙ ap (λ r. Some (record { state = next.state; note = Drew r note })) (sym a.rec_is);
      stands_for = record {
        stands = a.took.state.stands;
        slot_is = a.took.state.slot_is;
        drain_is = a.took.drain_is;
        gather_is = a.gather;
      };
    }
