-- Laws of claims: how many a drain makes for one record before it publishes, and that only a greater error tears a
-- Check.
use Rattle.std.proofs.Common.{◌≡◌, ℕ, suc, ◌+◌, ◌≤◌, ◌==◌, ◌&&◌, nat_lt, max, Bool, true, false, cond, List, ◌∷◌, slice_get, Option, Some, None, refl, inl, inr, sym, ap, ◌∙◌, subst, arith}
use Rattle.std.proofs.Math.Nat.{le-max_left, le-max_right}
use Rattle.std.proofs.lemmas.Bool.{cases_Bool, true≢false, eq-eqb}
use Rattle.std.proofs.lemmas.List.Sums.{sum_by-cons}
use Rattle.std.proofs.lemmas.Option.{none-some, same_Some}
use Rattle.sse_base.specs.Events.{Events}
use Rattle.reri_fields.specs.declared.drain.Phase.{Phase}
use Rattle.reri_fields.specs.declared.drain.Phase.TheVariants.{Scan, Claim, Address, Info, Supplement, Time, Check, Invalidate, Signal}
use Rattle.reri_fields.specs.Records.{Error, Origin, rank_of, greatest_of, is_any}
use Rattle.reri_fields.specs.Banks.{BankEvent}
use Rattle.reri_fields.specs.Banks.BankEvent.{Claims}
use Rattle.reri_fields.specs.Drain.{BankPlan, BankState, BankTry, BankNote, Draining, errors_at, claimed_at, is_cleared}
use Rattle.reri_log.proofs.Errors.{greatest_of-push}
use Rattle.ras_device.specs.declared.act.Act.{Act}
use Rattle.board_plan.specs.declared.notes.StepNote.{StepNote}
use Rattle.board_plan.specs.declared.notes.StepNote.TheVariants as note
use Rattle.board_plan.specs.declared.plan.BankDecl.{BankDecl}
use Rattle.board_plan.specs.declared.plan.Plan.{Plan}
use Rattle.board_plan.specs.State.{bank_plan}
use Rattle.board_plan.specs.Step.{bank_note}
use Rattle.board_plan.specs.Run.{Noted, run, notes, ran}
use Rattle.board_plan.specs.Plans.{IsPlan, AreReports}
use Rattle.board_plan.specs.Fates.{origin_in}
use Rattle.board_plan.specs.Sound.{drained_bank, has_record}
use Rattle.board_plan.specs.Blocks.{publishes_on, claims_on, some_note, number_of_notes, AreAtMostTwelveClaims, EachTornCheckRises, AreClaimsBounded}
use Rattle.drain_laws.proofs.BankMoves.{Moves, IsDue, is_reading, is_read_to}
use Rattle.drain_laws.proofs.BankMoves.IsDue.{goes_on, begins}
use Rattle.drain_laws.proofs.BankMoves.Moves.{reports, acks, finds_none, finds, claims, reads, tears, publishes, clears, signals}
use Rattle.drain_laws.proofs.BankRuns.{IsFit, Moved, BankRun, bank_run, reaches}
use Rattle.drain_laws.proofs.BankRuns.BankRun.{ends, waits, goes}
use Rattle.drain_laws.proofs.BankSound.{BankSound}
use Rattle.drain_laws.proofs.BankSteps.{logs_any}
use Rattle.drain_laws.proofs.BoardSound.{ran_sound, step_sound}
use Rattle.drain_laws.proofs.Held.{Enters, logs_at, errors_claimed, claim_counts}
use Rattle.drain_laws.proofs.Held.Enters.{passes_by, writes, keeps_out}
use Rattle.drain_laws.proofs.OwnTurns.{own_turn}
use Rattle.drain_laws.proofs.Ranks.{AreRanked, ran_ranked, step_ranked, ranked_moves, top_low}
use Rattle.drain_laws.proofs.Slots.{claims_elsewhere, no_first}

-- ---- A drain that tries to read its record ----

-- from the claim to the Check
abbrev is_trying : Phase → Bool
is_trying Scan = false
is_trying Invalidate = false
is_trying Signal = false
is_trying phase = true

abbrev is_claim : Phase → Bool
is_claim Claim = true
is_claim phase = false

-- the greatest rank of what a record holds
abbrev top : Origin → ℕ → List BankEvent → ℕ
top o rec history = greatest_of rank_of (errors_at o rec history)

-- So many claims were made, each but the first after an error of greater rank: as many at most as the record's greatest
-- rank and one more, and not the one more where the next claim is due or the last one counts no longer.
record Tries (o : Origin) (rec count : ℕ) (x : BankState) : Type 0 where
  drain : Draining
  under : x.drain ≡ Some drain
  rec_is : drain.rec ≡ rec
  trying : is_trying drain.phase ≡ true
  any : is_any (errors_at o rec x.history) ≡ true
  most : count ≤ suc (top o rec x.history)
  lost : claimed_at o rec x.history ≡ false → count ≤ top o rec x.history
  due : is_claim drain.phase ≡ true → count ≤ top o rec x.history

-- the phases that follow a claim, up to the Check
abbrev is_under_claim : Phase → Bool
is_under_claim Scan = false
is_under_claim Claim = false
is_under_claim Invalidate = false
is_under_claim Signal = false
is_under_claim phase = true

-- the next Check wants a claim before it
record IsAway (x : BankState) : Type 0 where
  each : (u : Draining) → x.drain ≡ Some u → is_under_claim u.phase ≡ false

due_is : (plan : BankPlan) (x : BankState) (d u : Draining) → x.drain ≡ Some d → IsDue plan x u → d ≡ u
due_is plan x d u under (goes_on _ is) = same_Some d u (sym under ∙ is)
due_is plan x d u under (begins none asking free) = absurd (none-some d (sym none ∙ under))

-- ---- An error ----

error_tries : (o : Origin) (rec count : ℕ) (x y : BankState) (e : Error) (t : Tries o rec count x)
    → y.drain ≡ x.drain → Enters e (errors_at o rec x.history) (claimed_at o rec x.history)
    (errors_at o rec y.history) (claimed_at o rec y.history)
    → is_any (errors_at o rec y.history) ≡ true → Tries o rec count y
error_tries o rec count x y e t same (passes_by later after) any =
    let tops : top o rec y.history ≡ top o rec x.history = ap (greatest_of rank_of) later in
    record {
      drain = t.drain;
      under = same ∙ t.under;
      rec_is = t.rec_is;
      trying = t.trying;
      any = any;
      most = omega (arith, t.most, tops);
      lost = λ off. omega (arith, t.lost (sym after ∙ off), tops);
      due = λ at. omega (arith, t.due at, tops);
    }
error_tries o rec count x y e t same (writes longer off is more) any =
    let errors = errors_at o rec x.history in
    let tops : top o rec y.history ≡ max (top o rec x.history) (rank_of e) =
    ap (greatest_of rank_of) longer ∙ greatest_of-push rank_of errors e in
    let high : count ≤ top o rec y.history =
    omega (arith, t.most, tops, more t.any, le-max_right (top o rec x.history) (rank_of e)) in
    record {
      drain = t.drain;
      under = same ∙ t.under;
      rec_is = t.rec_is;
      trying = t.trying;
      any = any;
      most = omega (arith, high);
      lost = λ _. high;
      due = λ _. high;
    }
error_tries o rec count x y e t same (keeps_out longer after is held less) any =
    let errors = errors_at o rec x.history in
    let tops : top o rec y.history ≡ max (top o rec x.history) (rank_of e) =
    ap (greatest_of rank_of) longer ∙ greatest_of-push rank_of errors e in
    let high = le-max_left (top o rec x.history) (rank_of e) in
    record {
      drain = t.drain;
      under = same ∙ t.under;
      rec_is = t.rec_is;
      trying = t.trying;
      any = any;
      most = omega (arith, t.most, tops, high);
      lost = λ off. omega (arith, t.lost (sym after ∙ off), tops, high);
      due = λ at. omega (arith, t.due at, tops, high);
    }

-- ---- The drain's own steps ----

-- a claim is one claim more
claim_tries : (o : Origin) (rec count : ℕ) (x y : BankState) (u : Draining)
    → is_any (errors_at o rec x.history) ≡ true → u.rec ≡ rec
    → count ≤ top o rec x.history → y.history ≡ Claims u.rec ∷ x.history
    → y.drain ≡ Some (record u { phase = Address }) → Tries o rec (suc count) y
claim_tries o rec count x y u held rec_is low history under =
    let errors : errors_at o rec y.history ≡ errors_at o rec x.history =
    ap (errors_at o rec) history ∙ errors_claimed o rec u.rec x.history in
    let any = ap is_any errors ∙ held in
    let on : claimed_at o rec y.history ≡ true =
    ap (claimed_at o rec) history ∙ ap (λ k. claimed_at o rec (Claims k ∷ x.history)) rec_is
    ∙ claim_counts o rec x.history ∙ held in
    let tops : top o rec y.history ≡ top o rec x.history = ap (greatest_of rank_of) errors in
    record {
      drain = record u { phase = Address };
      under = under;
      rec_is = rec_is;
      trying = refl;
      any = any;
      most = omega (arith, low, tops);
      lost = λ off. absurd (true≢false (sym on ∙ off));
      due = λ at. absurd (true≢false (sym at));
    }

-- it goes on at another phase of the try
phase_tries : (o : Origin) (rec count : ℕ) (x y : BankState) (u : Draining) (phase : Phase) → Tries o rec count x
    → u.rec ≡ rec → is_trying phase ≡ true → (is_claim phase ≡ true → count ≤ top o rec x.history)
    → y.history ≡ x.history → y.drain ≡ Some (record u { phase = phase }) → Tries o rec count y
phase_tries o rec count x y u phase t rec_is trying due history under =
    let tops : top o rec y.history ≡ top o rec x.history = ap (top o rec) history in
    record {
      drain = record u { phase = phase };
      under = under;
      rec_is = rec_is;
      trying = trying;
      any = ap (λ h. is_any (errors_at o rec h)) history ∙ t.any;
      most = omega (arith, t.most, tops);
      lost = λ off. omega (arith, t.lost (sym (ap (claimed_at o rec) history) ∙ off), tops);
      due = λ at. omega (arith, due at, tops);
    }

-- only the slot changes
slot_tries : (o : Origin) (rec count : ℕ) (x y : BankState) → Tries o rec count x → y.history ≡ x.history
    → y.drain ≡ x.drain → Tries o rec count y
slot_tries o rec count x y t history same =
    phase_tries o rec count x y t.drain t.drain.phase t t.rec_is t.trying t.due history (same ∙ t.under)

-- a Check is torn where the claim counts no longer
torn_lost : (plan : BankPlan) (o : Origin) (rec : ℕ) (x : BankState) (u : Draining) (which : Option Origin)
    → slice_get plan.origins rec ≡ Some o → u.rec ≡ rec → slice_get plan.origins u.rec ≡ which
    → is_cleared which u.rec x.history ≡ false → claimed_at o rec x.history ≡ false
torn_lost plan o rec x u which there rec_is known off =
    let is : which ≡ Some o = sym known ∙ ap (slice_get plan.origins) rec_is ∙ there in
    ap (λ k. claimed_at o k x.history) (sym rec_is) ∙ sym (ap (λ w. is_cleared w u.rec x.history) is) ∙ off

-- ---- Any move ----

-- What a move makes of a drain that tries to read its record: the try goes on, or begins anew with one claim more, or
-- is over with a Check that published.
data TryMove (bank : ℕ) (n : StepNote) (o : Origin) (rec count : ℕ) (y : BankState) : Type 0 where
  stays : claims_on bank n ≡ false → Tries o rec count y → TryMove bank n o rec count y
  again : claims_on bank n ≡ true → Tries o rec (suc count) y → TryMove bank n o rec count y
  over : claims_on bank n ≡ false → publishes_on bank n ≡ true → IsAway y → TryMove bank n o rec count y

not_trying : (d u : Draining) (phase : Phase) → is_trying d.phase ≡ true → d ≡ u → u.phase ≡ phase
    → is_trying phase ≡ false → ⊥
not_trying d u phase trying same at off =
    true≢false (sym trying ∙ ap (λ (v : Draining). is_trying v.phase) same ∙ ap is_trying at ∙ off)

reading_on : (phase : Phase) → is_read_to phase ≡ true → is_trying phase ≡ true
reading_on Scan h = absurd (true≢false (sym h))
reading_on Invalidate h = absurd (true≢false (sym h))
reading_on Signal h = absurd (true≢false (sym h))
reading_on Claim h = refl
reading_on Address h = refl
reading_on Info h = refl
reading_on Supplement h = refl
reading_on Time h = refl
reading_on Check h = refl

reading_is_not_claim : (phase : Phase) → is_read_to phase ≡ true → is_claim phase ≡ false
reading_is_not_claim Claim h = absurd (true≢false (sym h))
reading_is_not_claim phase h = refl

away_at : (x : BankState) (u : Draining) → x.drain ≡ Some u → is_under_claim u.phase ≡ false → IsAway x
away_at x u under off =
    record {
      each = λ v over. ap (λ (w : Draining). is_under_claim w.phase) (same_Some v u (sym over ∙ under)) ∙ off;
    }

try_moves : (plan : BankPlan) (acts : ℕ → List Act) (bank : ℕ) (d : BankDecl) (events : Events) (o : Origin)
    (rec count : ℕ) (x y : BankState) (come : BankTry) (m : BankNote) → slice_get plan.origins rec ≡ Some o
    → IsFit acts x come → Tries o rec count x → Moves plan x come y m
    → TryMove bank (bank_note bank d events m) o rec count y
try_moves plan acts bank d events o rec count x y come m there fit t (reports e) =
    stays refl (error_tries o rec count x y e t refl (logs_at o rec e x.history fit.0)
    (logs_any e x.history fit.0 o rec t.any))
try_moves plan acts bank d events o rec count x y come m there fit t acks =
    stays refl (slot_tries o rec count x y t refl refl)
try_moves plan acts bank d events o rec count x y come m there fit t (finds_none u due phase found) =
    absurd (not_trying t.drain u Scan t.trying (due_is plan x t.drain u t.under due) phase refl)
try_moves plan acts bank d events o rec count x y come m there fit t (finds u r due phase found) =
    absurd (not_trying t.drain u Scan t.trying (due_is plan x t.drain u t.under due) phase refl)
try_moves plan acts bank d events o rec count x y come m there fit t (claims u due phase) =
    let same = due_is plan x t.drain u t.under due in
    let rec_is = sym (ap (λ (v : Draining). v.rec) same) ∙ t.rec_is in
    again (eq-eqb bank bank refl)
    (claim_tries o rec count x y u t.any rec_is
    (t.due (ap (λ (v : Draining). is_claim v.phase) same ∙ ap is_claim phase)) refl refl)
try_moves plan acts bank d events o rec count x y come m there fit t (reads u register next due phase to) =
    let same = due_is plan x t.drain u t.under due in
    let rec_is = sym (ap (λ (v : Draining). v.rec) same) ∙ t.rec_is in
    stays refl
    (phase_tries o rec count x y u next t rec_is (reading_on next to)
    (λ at. absurd (true≢false (sym at ∙ reading_is_not_claim next to))) refl refl)
try_moves plan acts bank d events o rec count x y come m there fit t (tears u which due phase known off) =
    let same = due_is plan x t.drain u t.under due in
    let rec_is = sym (ap (λ (v : Draining). v.rec) same) ∙ t.rec_is in
    stays refl
    (phase_tries o rec count x y u Claim t rec_is refl
    (λ _. t.lost (torn_lost plan o rec x u which there rec_is known off)) refl refl)
try_moves plan acts bank d events o rec count x y come m there fit t (publishes u origin due phase known on) =
    over refl (ap (λ c. c && true) (eq-eqb bank bank refl)) (away_at y _ refl refl)
try_moves plan acts bank d events o rec count x y come m there fit t (clears u due phase) =
    absurd (not_trying t.drain u Invalidate t.trying (due_is plan x t.drain u t.under due) phase refl)
try_moves plan acts bank d events o rec count x y come m there fit t (signals u due phase) =
    absurd (not_trying t.drain u Signal t.trying (due_is plan x t.drain u t.under due) phase refl)

-- ---- At most twelve claims ----

count_first : (test : StepNote → Bool) (n : Noted) (ns : List Noted)
    → number_of_notes test (n ∷ ns) ≡ cond (test n.note) 1 0 + number_of_notes test ns
count_first test n ns = sum_by-cons (λ (m : Noted). cond (test m.note) 1 0) n ns

count_not : (test : StepNote → Bool) (n : Noted) (ns : List Noted) → test n.note ≡ false
    → number_of_notes test (n ∷ ns) ≡ number_of_notes test ns
count_not test n ns off =
    let first : number_of_notes test (n ∷ ns) ≡ 0 + number_of_notes test ns =
    count_first test n ns ∙ ap (λ b. cond b 1 0 + number_of_notes test ns) off in
    omega (arith, first)

count_one : (test : StepNote → Bool) (n : Noted) (ns : List Noted) → test n.note ≡ true
    → number_of_notes test (n ∷ ns) ≡ suc (number_of_notes test ns)
count_one test n ns on =
    let first : number_of_notes test (n ∷ ns) ≡ 1 + number_of_notes test ns =
    count_first test n ns ∙ ap (λ b. cond b 1 0 + number_of_notes test ns) on in
    omega (arith, first)

moved_claims : (bank : ℕ) (n : Noted) (ns : List Noted) (o : Origin) (rec count : ℕ) (y : BankState)
    → publishes_on bank n.note ≡ false → TryMove bank n.note o rec count y
    → ((c : ℕ) → Tries o rec c y → c + number_of_notes (claims_on bank) ns ≤ 12)
    → count + number_of_notes (claims_on bank) (n ∷ ns) ≤ 12
moved_claims bank n ns o rec count y none (stays off t) further =
    omega (arith, further count t, count_not (claims_on bank) n ns off)
moved_claims bank n ns o rec count y none (again on t) further =
    omega (arith, further (suc count) t, count_one (claims_on bank) n ns on)
moved_claims bank n ns o rec count y none (over off published away) further =
    absurd (true≢false (sym published ∙ none))

try_move : (plan : Plan) (acts : ℕ → List Act) (bank : ℕ) (d : BankDecl) (n : StepNote) (o : Origin) (rec count : ℕ)
    (x y : BankState) → slice_get (bank_plan bank d plan.recs).origins rec ≡ Some o → Tries o rec count x
    → Moved plan acts bank d x y n → TryMove bank n o rec count y
try_move plan acts bank d n o rec count x y there t a =
    subst (λ k. TryMove bank k o rec count y) (sym a.note_is)
    (try_moves (bank_plan bank d plan.recs) acts bank d a.events o rec count x y a.come a.told there a.fit t a.moves)

most_claims : (plan : Plan) (acts : ℕ → List Act) (bank : ℕ) (d : BankDecl) (o : Origin) (rec count : ℕ)
    (x y : BankState) (ns : List Noted) → slice_get (bank_plan bank d plan.recs).origins rec ≡ Some o
    → AreReports acts → AreRanked x.history → Tries o rec count x → some_note (publishes_on bank) ns ≡ false
    → BankRun plan acts bank d x ns y → count + number_of_notes (claims_on bank) ns ≤ 12
most_claims plan acts bank d o rec count x y ns there are low t none (ends _) =
    omega (arith, t.most, top_low o rec x.history low)
most_claims plan acts bank d o rec count x y ns there are low t none (waits _ _ n more other rest) =
    omega (
      arith,
      count_not (claims_on bank) n more (claims_elsewhere bank n.note other),
      most_claims plan acts bank d o rec count x y more there are low t
          (no_first (publishes_on bank) n more none).1 rest,
    )
most_claims plan acts bank d o rec count x y ns there are low t none (goes _ between _ n more a rest) =
    let parts = no_first (publishes_on bank) n more none in
    let later = ranked_moves (bank_plan bank d plan.recs) acts x between a.come a.told are a.fit low a.moves in
    moved_claims bank n more o rec count between parts.0
    (try_move plan acts bank d n.note o rec count x between there t a)
    (λ c k. most_claims plan acts bank d o rec c between y more there are later k parts.1 rest)

-- a drain that found a record has made no claim of it
abbrev is_found : StepNote → Bool
is_found (note.Scan bank (Some rec)) = true
is_found n = false

-- the drain that a Scan leaves with a record
record Found (x : BankState) : Type 0 where
  drain : Draining
  under : x.drain ≡ Some drain
  phase : drain.phase ≡ Claim

found_drain : (plan : BankPlan) (bank : ℕ) (d : BankDecl) (events : Events) (x y : BankState) (come : BankTry)
    (m : BankNote) → Moves plan x come y m → is_found (bank_note bank d events m) ≡ true → Found y
found_drain plan bank d events x y come m (finds u rec due phase found) h =
    record { drain = record u { phase = Claim; rec = rec }; under = refl; phase = refl }
found_drain plan bank d events x y come m (reports e) h = absurd (true≢false (sym h))
found_drain plan bank d events x y come m acks h = absurd (true≢false (sym h))
found_drain plan bank d events x y come m (finds_none u due phase found) h = absurd (true≢false (sym h))
found_drain plan bank d events x y come m (claims u due phase) h = absurd (true≢false (sym h))
found_drain plan bank d events x y come m (reads u register next due phase to) h = absurd (true≢false (sym h))
found_drain plan bank d events x y come m (tears u o due phase known none) h = absurd (true≢false (sym h))
found_drain plan bank d events x y come m (publishes u origin due phase known on) h = absurd (true≢false (sym h))
found_drain plan bank d events x y come m (clears u due phase) h = absurd (true≢false (sym h))
found_drain plan bank d events x y come m (signals u due phase) h = absurd (true≢false (sym h))

first_try : (o : Origin) (x : BankState) (f : Found x) → is_any (errors_at o f.drain.rec x.history) ≡ true
    → Tries o f.drain.rec 0 x
first_try o x f any =
    record {
      drain = f.drain;
      under = f.under;
      rec_is = refl;
      trying = ap is_trying f.phase;
      any = any;
      most = omega arith;
      lost = λ _. omega arith;
      due = λ _. omega arith;
    }

pub at_most_twelve_claims : (plan : Plan) (acts : ℕ → List Act) → IsPlan plan → AreReports acts
    → AreAtMostTwelveClaims plan acts
at_most_twelve_claims plan acts is are =
    λ older tries t made bank rec makes told none.
    let s = (ran plan acts older).state in
    let ranked = step_ranked plan acts is are t s made makes (ran_ranked plan acts older is are) in
    let own = own_turn plan acts t s made bank makes (ap drained_bank told) in
    let bp = bank_plan bank own.decl plan.recs in
    let found = found_drain bp bank own.decl own.turn.events own.before own.after own.turn.come own.turn.told
    own.turn.moves (sym (ap is_found own.turn.note_is) ∙ ap is_found told) in
    let sound = ranked.sound.each bank own.decl own.after own.known own.then in
    let valid = (sound.fits found.drain found.under).record_valid (ap has_record found.phase) in
    let goal = reaches plan acts made.state tries bank own.decl own.after is ranked.sound own.known own.then in
    let few : 0 + number_of_notes (claims_on bank) (notes plan acts made.state tries) ≤ 12 =
    most_claims plan acts bank own.decl valid.origin found.drain.rec 0 own.after goal.last
    (notes plan acts made.state tries) valid.there are (ranked.each bank own.after own.then)
    (first_try valid.origin own.after found valid.valid) none goal.goes_there in
    omega (arith, few)

-- ---- A torn Check ----

-- what an empty Scan and an invalidation leave is no try
cond_away : (u : Draining) (none : Bool) (v : Draining)
    → cond none None (Some (record u { phase = Signal; rec = 0 })) ≡ Some v → is_under_claim v.phase ≡ false
cond_away u true v h = absurd (none-some v h)
cond_away u false v h = ap (λ (w : Draining). is_under_claim w.phase) (sym (same_Some _ v h))

clear_away : (u : Draining) (more : Bool) (v : Draining)
    → Some (cond more (record u { phase = Scan; rec = 0 }) (record u { phase = Signal })) ≡ Some v
    → is_under_claim v.phase ≡ false
clear_away u true v h = ap (λ (w : Draining). is_under_claim w.phase) (sym (same_Some _ v h))
clear_away u false v h = ap (λ (w : Draining). is_under_claim w.phase) (sym (same_Some _ v h))

away_due : (plan : BankPlan) (x : BankState) (u : Draining) → IsAway x → IsDue plan x u
    → is_under_claim u.phase ≡ false
away_due plan x u h (goes_on _ under) = h.each u under
away_due plan x u h (begins none asking free) = refl

reading_is_under : (phase : Phase) → is_reading phase ≡ true → is_under_claim phase ≡ true
reading_is_under Scan h = absurd (true≢false (sym h))
reading_is_under Claim h = absurd (true≢false (sym h))
reading_is_under Invalidate h = absurd (true≢false (sym h))
reading_is_under Signal h = absurd (true≢false (sym h))
reading_is_under phase h = refl

not_checking : (plan : BankPlan) (x : BankState) (u : Draining) → IsAway x → IsDue plan x u → u.phase ≡ Check → ⊥
not_checking plan x u h due at = true≢false (sym (ap is_under_claim at) ∙ away_due plan x u h due)

-- where no try is under way, one begins by a claim alone
away_moves : (plan : BankPlan) (bank : ℕ) (d : BankDecl) (events : Events) (x y : BankState) (come : BankTry)
    (m : BankNote) → Moves plan x come y m → IsAway x → claims_on bank (bank_note bank d events m) ≡ false → IsAway y
away_moves plan bank d events x y come m (reports e) h off = record { each = h.each }
away_moves plan bank d events x y come m acks h off = record { each = h.each }
away_moves plan bank d events x y come m (finds_none u due phase found) h off =
    record { each = λ v over. cond_away u (u.count == 0) v over }
away_moves plan bank d events x y come m (finds u rec due phase found) h off = away_at y _ refl refl
away_moves plan bank d events x y come m (claims u due phase) h off =
    absurd (true≢false (sym (eq-eqb bank bank refl) ∙ off))
away_moves plan bank d events x y come m (reads u register next due phase to) h off =
    absurd (true≢false (sym (reading_is_under u.phase phase) ∙ away_due plan x u h due))
away_moves plan bank d events x y come m (tears u o due phase known none) h off =
    absurd (not_checking plan x u h due phase)
away_moves plan bank d events x y come m (publishes u origin due phase known on) h off =
    absurd (not_checking plan x u h due phase)
away_moves plan bank d events x y come m (clears u due phase) h off =
    record { each = λ v over. clear_away u (nat_lt u.count plan.gather) v over }
away_moves plan bank d events x y come m (signals u due phase) h off =
    record { each = λ v over. absurd (none-some v over) }

-- the try of a claim goes on, or is over
data TryOf (o : Origin) (rec count : ℕ) (x : BankState) : Type 0 where
  goes_on_so : Tries o rec count x → TryOf o rec count x
  is_over : IsAway x → TryOf o rec count x

try_goes_on : (bank : ℕ) (n : StepNote) (o : Origin) (rec count : ℕ) (y : BankState) → claims_on bank n ≡ false
    → TryMove bank n o rec count y → TryOf o rec count y
try_goes_on bank n o rec count y off (stays _ t) = goes_on_so t
try_goes_on bank n o rec count y off (again on t) = absurd (true≢false (sym on ∙ off))
try_goes_on bank n o rec count y off (over _ published away) = is_over away

try_of : (plan : Plan) (acts : ℕ → List Act) (bank : ℕ) (d : BankDecl) (n : StepNote) (o : Origin) (rec count : ℕ)
    (x y : BankState) → slice_get (bank_plan bank d plan.recs).origins rec ≡ Some o → claims_on bank n ≡ false
    → TryOf o rec count x → Moved plan acts bank d x y n → TryOf o rec count y
try_of plan acts bank d n o rec count x y there off (goes_on_so t) a =
    try_goes_on bank n o rec count y off (try_move plan acts bank d n o rec count x y there t a)
try_of plan acts bank d n o rec count x y there off (is_over h) a =
    is_over (away_moves (bank_plan bank d plan.recs) bank d a.events x y a.come a.told a.moves h
    (sym (ap (claims_on bank) a.note_is) ∙ off))

none_first : (test : StepNote → Bool) (n : Noted) (ns : List Noted) → number_of_notes test (n ∷ ns) ≡ 0
    → (test n.note ≡ false) × (number_of_notes test ns ≡ 0)
none_first test n ns none =
    elim (cases_Bool (test n.note)) as (λ _. (test n.note ≡ false) × (number_of_notes test ns ≡ 0)) [
      | inl on ↦ absurd (omega (arith, none, count_one test n ns on))
      | inr off ↦ (off, omega (arith, none, count_not test n ns off))
    ]

try_after : (plan : Plan) (acts : ℕ → List Act) (bank : ℕ) (d : BankDecl) (o : Origin) (rec count : ℕ)
    (x y : BankState) (ns : List Noted) → slice_get (bank_plan bank d plan.recs).origins rec ≡ Some o
    → number_of_notes (claims_on bank) ns ≡ 0 → TryOf o rec count x → BankRun plan acts bank d x ns y
    → TryOf o rec count y
try_after plan acts bank d o rec count x y ns there none t (ends _) = t
try_after plan acts bank d o rec count x y ns there none t (waits _ _ n more other rest) =
    try_after plan acts bank d o rec count x y more there (none_first (claims_on bank) n more none).1 t rest
try_after plan acts bank d o rec count x y ns there none t (goes _ between _ n more a rest) =
    let parts = none_first (claims_on bank) n more none in
    try_after plan acts bank d o rec count between y more there parts.1
    (try_of plan acts bank d n.note o rec count x between there parts.0 t a) rest

abbrev is_torn : StepNote → Bool
is_torn (note.Check bank rec true) = true
is_torn n = false

torn_in : (plan : BankPlan) (o : Origin) (rec count : ℕ) (x : BankState) (u : Draining) (which : Option Origin)
    → slice_get plan.origins rec ≡ Some o → IsDue plan x u → u.phase ≡ Check → slice_get plan.origins u.rec ≡ which
    → is_cleared which u.rec x.history ≡ false → TryOf o rec count x → count ≤ top o rec x.history
torn_in plan o rec count x u which there due phase known off (goes_on_so t) =
    let same = due_is plan x t.drain u t.under due in
    let rec_is = sym (ap (λ (v : Draining). v.rec) same) ∙ t.rec_is in
    t.lost (torn_lost plan o rec x u which there rec_is known off)
torn_in plan o rec count x u which there due phase known off (is_over h) = absurd (not_checking plan x u h due phase)

torn_rises : (plan : BankPlan) (bank : ℕ) (d : BankDecl) (events : Events) (o : Origin) (rec count : ℕ)
    (x y : BankState) (come : BankTry) (m : BankNote) → slice_get plan.origins rec ≡ Some o
    → is_torn (bank_note bank d events m) ≡ true → TryOf o rec count x → Moves plan x come y m
    → count ≤ top o rec x.history
torn_rises plan bank d events o rec count x y come m there h t (tears u which due phase known off) =
    torn_in plan o rec count x u which there due phase known off t
torn_rises plan bank d events o rec count x y come m there h t (reports e) = absurd (true≢false (sym h))
torn_rises plan bank d events o rec count x y come m there h t acks = absurd (true≢false (sym h))
torn_rises plan bank d events o rec count x y come m there h t (finds_none u due phase found) =
    absurd (true≢false (sym h))
torn_rises plan bank d events o rec count x y come m there h t (finds u r due phase found) =
    absurd (true≢false (sym h))
torn_rises plan bank d events o rec count x y come m there h t (claims u due phase) = absurd (true≢false (sym h))
torn_rises plan bank d events o rec count x y come m there h t (reads u register next due phase to) =
    absurd (true≢false (sym h))
torn_rises plan bank d events o rec count x y come m there h t (publishes u origin due phase known on) =
    absurd (true≢false (sym h))
torn_rises plan bank d events o rec count x y come m there h t (clears u due phase) = absurd (true≢false (sym h))
torn_rises plan bank d events o rec count x y come m there h t (signals u due phase) = absurd (true≢false (sym h))

-- ---- The try of a claim ----

abbrev is_a_claim : StepNote → Bool
is_a_claim (note.Claim bank rec) = true
is_a_claim n = false

abbrev claimed_rec : StepNote → ℕ
claimed_rec (note.Claim bank rec) = rec
claimed_rec n = 0

-- the claimed record holds an error
claim_any_now : (plan : BankPlan) (n : ℕ) (x y : BankState) (u : Draining) (o : Origin) (rec : ℕ) → BankSound plan n y
    → y.drain ≡ Some (record u { phase = Address }) → y.history ≡ Claims u.rec ∷ x.history → u.rec ≡ rec
    → slice_get plan.origins rec ≡ Some o → is_any (errors_at o rec x.history) ≡ true
claim_any_now plan n x y u o rec sound under history rec_is there =
    let valid = (sound.fits (record u { phase = Address }) under).record_valid refl in
    let same : valid.origin ≡ o =
    same_Some valid.origin o (sym valid.there ∙ ap (slice_get plan.origins) rec_is ∙ there) in
    ap is_any (sym (errors_claimed o rec u.rec x.history))
    ∙ sym (ap (λ h. is_any (errors_at o rec h)) history)
    ∙ sym (ap (λ k. is_any (errors_at o k y.history)) rec_is)
    ∙ sym (ap (λ (p : Origin). is_any (errors_at p u.rec y.history)) same) ∙ valid.valid

claim_begins : (plan : BankPlan) (n bank : ℕ) (d : BankDecl) (events : Events) (o : Origin) (rec : ℕ)
    (x y : BankState) (come : BankTry) (m : BankNote) → slice_get plan.origins rec ≡ Some o
    → is_a_claim (bank_note bank d events m) ≡ true → claimed_rec (bank_note bank d events m) ≡ rec
    → BankSound plan n y → Moves plan x come y m → Tries o rec (suc (top o rec x.history)) y
claim_begins plan n bank d events o rec x y come m there h rec_is sound (claims u due phase) =
    claim_tries o rec (top o rec x.history) x y u (claim_any_now plan n x y u o rec sound refl refl rec_is there) rec_is
    (omega arith) refl refl
claim_begins plan n bank d events o rec x y come m there h rec_is sound (reports e) = absurd (true≢false (sym h))
claim_begins plan n bank d events o rec x y come m there h rec_is sound acks = absurd (true≢false (sym h))
claim_begins plan n bank d events o rec x y come m there h rec_is sound (finds_none u due phase found) =
    absurd (true≢false (sym h))
claim_begins plan n bank d events o rec x y come m there h rec_is sound (finds u r due phase found) =
    absurd (true≢false (sym h))
claim_begins plan n bank d events o rec x y come m there h rec_is sound (reads u register next due phase to) =
    absurd (true≢false (sym h))
claim_begins plan n bank d events o rec x y come m there h rec_is sound (tears u which due phase known off) =
    absurd (true≢false (sym h))
claim_begins plan n bank d events o rec x y come m there h rec_is sound (publishes u origin due phase known on) =
    absurd (true≢false (sym h))
claim_begins plan n bank d events o rec x y come m there h rec_is sound (clears u due phase) =
    absurd (true≢false (sym h))
claim_begins plan n bank d events o rec x y come m there h rec_is sound (signals u due phase) =
    absurd (true≢false (sym h))

pub each_torn_check_rises : (plan : Plan) (acts : ℕ → List Act) → IsPlan plan → EachTornCheckRises plan acts
each_torn_check_rises plan acts is =
    λ older tries t u made last bank rec origin x y makes told none ends_so torn begins_so before after.
    let s = (ran plan acts older).state in
    let later = step_sound plan acts is t s made makes (ran_sound plan acts older is) in
    let own = own_turn plan acts t s made bank makes (ap drained_bank told) in
    let bp = bank_plan bank own.decl plan.recs in
    let there : slice_get bp.origins rec ≡ Some origin =
    sym (ap (origin_in bank rec plan) own.known) ∙ begins_so in
    let x_is : own.before ≡ x = same_Some own.before x (sym own.there ∙ before) in
    let first = claim_begins bp (suc made.state.steps) bank own.decl own.turn.events origin rec own.before own.after
    own.turn.come own.turn.told there (sym (ap is_a_claim own.turn.note_is) ∙ ap is_a_claim told)
    (sym (ap claimed_rec own.turn.note_is) ∙ ap claimed_rec told)
    (later.each bank own.decl own.after own.known own.then) own.turn.moves in
    let goal = bank_run plan acts made.state tries bank own.decl own.after y is later own.known own.then after in
    let tried = try_after plan acts bank own.decl origin rec (suc (top origin rec own.before.history)) own.after y
    (notes plan acts made.state tries) there none (goes_on_so first) goal in
    let end = own_turn plan acts u (run plan acts made.state tries) last bank ends_so (ap drained_bank torn) in
    let y_is : end.before ≡ y = same_Some end.before y (sym end.there ∙ after) in
    let d_is : end.decl ≡ own.decl = same_Some end.decl own.decl (sym end.known ∙ own.known) in
    let high = torn_rises (bank_plan bank end.decl plan.recs) bank end.decl end.turn.events origin rec
    (suc (top origin rec own.before.history)) end.before end.after end.turn.come end.turn.told
    (ap (λ (e : BankDecl). slice_get (bank_plan bank e plan.recs).origins rec) d_is ∙ there)
    (sym (ap is_torn end.turn.note_is) ∙ ap is_torn torn)
    (subst (TryOf origin rec (suc (top origin rec own.before.history))) (sym y_is) tried) end.turn.moves in
    omega (
      arith,
      high,
      ap (λ (b : BankState). top origin rec b.history) y_is,
      ap (λ (b : BankState). top origin rec b.history) x_is,
    )

-- both
pub are_claims_bounded : (plan : Plan) (acts : ℕ → List Act) → IsPlan plan → AreReports acts
    → AreClaimsBounded plan acts
are_claims_bounded plan acts is are =
    record { twelve = at_most_twelve_claims plan acts is are; torn = each_torn_check_rises plan acts is }
