-- In every run drains keep their order on each record.
use Rattle.std.proofs.Common.{◌≡◌, ℕ, zero, suc, ◌<◌, ◌==◌, ◌&&◌, Bool, true, false, cond, nat_lt, List, [], ◌∷◌, map, length, set, slice_get, Option, Some, None, refl, inl, inr, sym, ap, ◌∙◌, subst, arith}
use Rattle.std.proofs.lemmas.Bool.{cases_eq, eq-eqb, eqb-true, ne_eqb, true≢false}
use Rattle.std.proofs.lemmas.Option.{slice_get_within}
use Rattle.sse_base.specs.Events.{Events}
use Rattle.reri_fields.specs.declared.report.Report.{Report}
use Rattle.reri_fields.specs.declared.drain.Phase.{Phase}
use Rattle.reri_fields.specs.declared.drain.Phase.TheVariants.{Scan, Claim, Address, Info, Supplement, Time, Check, Invalidate, Signal}
use Rattle.reri_fields.specs.declared.drain.DrainNote.TheVariants as drain
use Rattle.reri_fields.specs.Records.{Origin, in_progress}
use Rattle.reri_fields.specs.Records.Event.{Reported, Claimed, Invalidated}
use Rattle.reri_fields.specs.Banks.{BankEvent, events_of}
use Rattle.reri_fields.specs.Drain.{BankPlan, BankState, BankTry, BankNote, Draining, is_cleared, claimed_at, after_empty_scan, after_invalidate, fresh_drain, bank_start}
use Rattle.reri_fields.specs.Drain.BankNote.{Heard, Drew, Acknowledged}
use Rattle.ras_device.specs.declared.act.Act.{Act}
use Rattle.board_plan.specs.declared.notes.Published.{Published}
use Rattle.board_plan.specs.declared.notes.Step.{Step}
use Rattle.board_plan.specs.declared.notes.StepNote.{StepNote}
use Rattle.board_plan.specs.declared.notes.StepNote.TheVariants as note
use Rattle.board_plan.specs.declared.plan.BankDecl.{BankDecl}
use Rattle.board_plan.specs.declared.plan.Plan.{Plan}
use Rattle.board_plan.specs.State.{BoardState, bank_plan, start_state}
use Rattle.board_plan.specs.Step.{bank_note}
use Rattle.board_plan.specs.Run.{ran}
use Rattle.board_plan.specs.Fates.{Deed, News, told, with_deed, deed_at, deeds_of, error_at, is_at, origin_at, origin_in, news_of, news}
use Rattle.board_plan.specs.Fates.Deed.{Was, Checked}
use Rattle.board_plan.specs.Fates.News.{Errs}
use Rattle.board_fates.proofs.Runs.{ran_tells}
use Rattle.drain_laws.proofs.BankMoves.{IsDue, Moves, is_reading, is_read_to, moves}
use Rattle.drain_laws.proofs.BoardMoves.{AtBank, Touches, is_apart, step_does}
use Rattle.fate_laws.proofs.Orderly.{Stage, IsOrderly, stage}
use Rattle.fate_laws.proofs.Orderly.Stage.{Idle, Claiming, Publishing}
use Rattle.fate_laws.proofs.OneFate.{AreOrderly}
use Rattle.fate_laws.proofs.Tries.{ran_keeps}

-- ---- A drain and a record ----

-- how far a drain in this phase has come with its record
abbrev pub phase_stage : Phase → Stage
phase_stage Scan = Idle
phase_stage Claim = Idle
phase_stage Invalidate = Publishing
phase_stage Signal = Idle
phase_stage phase = Claiming

abbrev pub drain_stage : ℕ → Option Draining → Stage
drain_stage rec None = Idle
drain_stage rec (Some u) = cond (u.rec == rec) (phase_stage u.phase) Idle

-- the deeds of a record are in order, and have come as far as the drain
pub record Keeps (origin : Origin) (rec : ℕ) (deeds : List Deed) (u : Option Draining) : Type 0 where
  pub orderly : IsOrderly origin deeds
  pub stage_is : stage deeds ≡ drain_stage rec u

both_idle : (b : Bool) → cond b Idle Idle ≡ Idle
both_idle true = refl
both_idle false = refl

-- a drain that has no record, or has not claimed its own yet, or is done with it
idle_drain : (rec : ℕ) (u : Draining) → phase_stage u.phase ≡ Idle → drain_stage rec (Some u) ≡ Idle
idle_drain rec u phase = ap (λ p. cond (u.rec == rec) p Idle) phase ∙ both_idle (u.rec == rec)

stage_in : (origin : Origin) (rec : ℕ) (deeds : List Deed) (u : Draining) (phase : Phase)
    → Keeps origin rec deeds (Some u) → u.phase ≡ phase → stage deeds ≡ cond (u.rec == rec) (phase_stage phase) Idle
stage_in origin rec deeds u phase h is = h.stage_is ∙ ap (λ p. cond (u.rec == rec) (phase_stage p) Idle) is

idle_in : (origin : Origin) (rec : ℕ) (deeds : List Deed) (u : Draining)
    → Keeps origin rec deeds (Some u) → phase_stage u.phase ≡ Idle → stage deeds ≡ Idle
idle_in origin rec deeds u h phase = h.stage_is ∙ idle_drain rec u phase

keeps_idle : (origin : Origin) (rec : ℕ) (deeds : List Deed) (u : Draining) → IsOrderly origin deeds
    → stage deeds ≡ Idle → phase_stage u.phase ≡ Idle → Keeps origin rec deeds (Some u)
keeps_idle origin rec deeds u ok idle phase = record { orderly = ok; stage_is = idle ∙ sym (idle_drain rec u phase) }

due_keeps : (plan : BankPlan) (s : BankState) (origin : Origin) (rec : ℕ) (deeds : List Deed) (u : Draining)
    → IsDue plan s u → Keeps origin rec deeds s.drain → Keeps origin rec deeds (Some u)
due_keeps plan s origin rec deeds _ (IsDue.goes_on u is) h = subst (Keeps origin rec deeds) is h
due_keeps plan s origin rec deeds _ (IsDue.begins none asks free) h =
    keeps_idle origin rec deeds fresh_drain h.orderly (h.stage_is ∙ ap (drain_stage rec) none) refl

-- ---- An error ----

error_keeps : (origin : Origin) (rec bank k : ℕ) (report : Report) (deeds : List Deed) (u : Option Draining)
    → Keeps origin rec deeds u → Keeps origin rec (with_deed (deed_at bank rec k (Errs report)) deeds) u
unfolding deed_at
error_keeps origin rec bank k report deeds u h =
    elim (is_at bank rec report.bank report.rec) as (λ b. Keeps origin rec
    (with_deed (cond b (Some (Was (Reported (error_at k report)))) None) deeds) u) [
      | true ↦ record { orderly = h.orderly; stage_is = h.stage_is }
      | false ↦ h
    ]

-- ---- The phases that are a deed of a record of the bank ----

-- a deed of the record of this number
abbrev with_it : Bool → Deed → List Deed → List Deed
with_it b deed deeds = with_deed (cond b (Some deed) None) deeds

is_here : (bank rec c : ℕ) → is_at bank rec bank c ≡ (c == rec)
is_here bank rec c = ap (λ b. b && (c == rec)) (eq-eqb bank bank refl)

claim_keeps : (origin : Origin) (rec : ℕ) (u : Draining) (deeds : List Deed) (b : Bool) → (u.rec == rec) ≡ b
    → IsOrderly origin deeds → stage deeds ≡ Idle
    → Keeps origin rec (with_it b (Was Claimed) deeds) (Some (record u { phase = Address }))
claim_keeps origin rec u deeds true here ok idle =
    record { orderly = (idle, ok); stage_is = sym (ap (λ c. cond c Claiming Idle) here) }
claim_keeps origin rec u deeds false here ok idle =
    record { orderly = ok; stage_is = idle ∙ sym (ap (λ c. cond c Claiming Idle) here) }

reading_stage : (phase : Phase) → is_reading phase ≡ true → phase_stage phase ≡ Claiming
reading_stage Address h = refl
reading_stage Info h = refl
reading_stage Supplement h = refl
reading_stage Time h = refl
reading_stage Scan h = absurd (true≢false (sym h))
reading_stage Claim h = absurd (true≢false (sym h))
reading_stage Check h = absurd (true≢false (sym h))
reading_stage Invalidate h = absurd (true≢false (sym h))
reading_stage Signal h = absurd (true≢false (sym h))

read_to_stage : (phase : Phase) → is_read_to phase ≡ true → phase_stage phase ≡ Claiming
read_to_stage Info h = refl
read_to_stage Supplement h = refl
read_to_stage Time h = refl
read_to_stage Check h = refl
read_to_stage Scan h = absurd (true≢false (sym h))
read_to_stage Claim h = absurd (true≢false (sym h))
read_to_stage Address h = absurd (true≢false (sym h))
read_to_stage Invalidate h = absurd (true≢false (sym h))
read_to_stage Signal h = absurd (true≢false (sym h))

read_keeps : (origin : Origin) (rec : ℕ) (u : Draining) (deeds : List Deed) (next : Phase)
    → Keeps origin rec deeds (Some u) → is_reading u.phase ≡ true → is_read_to next ≡ true
    → Keeps origin rec deeds (Some (record u { phase = next }))
read_keeps origin rec u deeds next h reads to =
    record {
      orderly = h.orderly;
      stage_is = h.stage_is
          ∙ ap (λ p. cond (u.rec == rec) p Idle) (reading_stage u.phase reads ∙ sym (read_to_stage next to));
    }

-- a Check, by whether it is of this record; where it is, it published exactly where the claim still counts
check_keeps : (origin : Origin) (rec : ℕ) (deeds : List Deed) (on b : Bool) (v : Option Draining)
    → (b ≡ true → on ≡ in_progress origin (told deeds)) → IsOrderly origin deeds → stage deeds ≡ cond b Claiming Idle
    → drain_stage rec v ≡ cond b (stage (Checked on ∷ deeds)) Idle
    → Keeps origin rec (with_it b (Checked on) deeds) v
check_keeps origin rec deeds on true v is ok claiming next =
    record { orderly = (claiming, is refl, ok); stage_is = sym next }
check_keeps origin rec deeds on false v is ok idle next =
    record { orderly = ok; stage_is = idle ∙ sym next }

invalidate_keeps : (origin : Origin) (rec : ℕ) (deeds : List Deed) (b : Bool) (v : Draining)
    → IsOrderly origin deeds → stage deeds ≡ cond b Publishing Idle → phase_stage v.phase ≡ Idle
    → Keeps origin rec (with_it b (Was Invalidated) deeds) (Some v)
invalidate_keeps origin rec deeds true v ok was phase =
    record { orderly = (was, ok); stage_is = sym (idle_drain rec v phase) }
invalidate_keeps origin rec deeds false v ok was phase =
    record { orderly = ok; stage_is = was ∙ sym (idle_drain rec v phase) }

after_invalidate_idle : (gather : ℕ) (u : Draining) → phase_stage (after_invalidate gather u).phase ≡ Idle
after_invalidate_idle gather u =
    elim (nat_lt u.count gather) as (λ b. phase_stage (cond b (record u { phase = Scan; rec = 0 })
    (record u { phase = Signal })).phase ≡ Idle) [ true ↦ refl | false ↦ refl ]

empty_scan_keeps : (origin : Origin) (rec : ℕ) (u : Draining) (deeds : List Deed) → IsOrderly origin deeds
    → stage deeds ≡ Idle → Keeps origin rec deeds (after_empty_scan u)
empty_scan_keeps origin rec u deeds ok idle =
    elim (u.count == 0) as (λ b. Keeps origin rec deeds (cond b None (Some (record u { phase = Signal; rec = 0 })))) [
      | true ↦ record { orderly = ok; stage_is = idle }
      | false ↦ keeps_idle origin rec deeds (record u { phase = Signal; rec = 0 }) ok idle refl
    ]

-- a claim of the drain's record, as the record's deeds tell it
claim_is : (plan : BankPlan) (origin : Origin) (rec : ℕ) (u : Draining) (history : List BankEvent) (o : Option Origin)
    (deeds : List Deed) → slice_get plan.origins u.rec ≡ o → slice_get plan.origins rec ≡ Some origin
    → told deeds ≡ events_of rec history → (u.rec == rec) ≡ true
    → is_cleared o u.rec history ≡ in_progress origin (told deeds)
claim_is plan origin rec u history o deeds is there told_is here =
    let same : u.rec ≡ rec = eqb-true u.rec rec here in
    let o_is : o ≡ Some origin = sym is ∙ ap (slice_get plan.origins) same ∙ there in
    ap (λ x. is_cleared x u.rec history) o_is ∙ ap (λ c. claimed_at origin c history) same
    ∙ ap (in_progress origin) (sym told_is)

-- ---- A step of the record's own bank ----

pub record IsRecordOf (plan : BankPlan) (s : BankState) (origin : Origin) (rec : ℕ) (deeds : List Deed) : Type 0 where
  pub there : slice_get plan.origins rec ≡ Some origin
  pub told_is : told deeds ≡ events_of rec s.history
  pub keeps : Keeps origin rec deeds s.drain

abbrev next_deeds : ℕ → ℕ → ℕ → BankDecl → Events → BankNote → List Deed → List Deed
next_deeds bank rec k d events n deeds = with_deed (deed_at bank rec k (news_of (bank_note bank d events n))) deeds

here_keeps : (bank rec k : ℕ) (d : BankDecl) (events : Events) (plan : BankPlan) (s : BankState) (t : BankTry)
    (after : BankState) (n : BankNote) (origin : Origin) (deeds : List Deed) → Moves plan s t after n
    → IsRecordOf plan s origin rec deeds → Keeps origin rec (next_deeds bank rec k d events n deeds) after.drain
unfolding deed_at
here_keeps bank rec k d events plan s t after n origin deeds (Moves.reports e) h =
    error_keeps origin rec bank k e.report deeds s.drain h.keeps
here_keeps bank rec k d events plan s t after n origin deeds Moves.acks h = h.keeps
here_keeps bank rec k d events plan s t after n origin deeds (Moves.finds_none u due phase none) h =
    let was = due_keeps plan s origin rec deeds u due h.keeps in
    empty_scan_keeps origin rec u deeds was.orderly (idle_in origin rec deeds u was (ap phase_stage phase))
here_keeps bank rec k d events plan s t after n origin deeds (Moves.finds u found due phase is) h =
    let was = due_keeps plan s origin rec deeds u due h.keeps in
    keeps_idle origin rec deeds (record u { phase = Claim; rec = found }) was.orderly
    (idle_in origin rec deeds u was (ap phase_stage phase)) refl
here_keeps bank rec k d events plan s t after n origin deeds (Moves.claims u due phase) h =
    let was = due_keeps plan s origin rec deeds u due h.keeps in
    subst (λ b. Keeps origin rec (with_it b (Was Claimed) deeds) (Some (record u { phase = Address })))
    (sym (is_here bank rec u.rec))
    (claim_keeps origin rec u deeds (u.rec == rec) refl was.orderly
    (idle_in origin rec deeds u was (ap phase_stage phase)))
here_keeps bank rec k d events plan s t after n origin deeds (Moves.reads u register next due reads to) h =
    read_keeps origin rec u deeds next (due_keeps plan s origin rec deeds u due h.keeps) reads to
here_keeps bank rec k d events plan s t after n origin deeds (Moves.tears u o due phase is off) h =
    let was = due_keeps plan s origin rec deeds u due h.keeps in
    subst (λ b. Keeps origin rec (with_it b (Checked false) deeds) (Some (record u { phase = Claim })))
    (sym (is_here bank rec u.rec))
    (check_keeps origin rec deeds false (u.rec == rec) (Some (record u { phase = Claim }))
    (λ here. sym off ∙ claim_is plan origin rec u s.history o deeds is h.there h.told_is here) was.orderly
    (stage_in origin rec deeds u Check was phase) refl)
here_keeps bank rec k d events plan s t after n origin deeds (Moves.publishes u o due phase is on) h =
    let was = due_keeps plan s origin rec deeds u due h.keeps in
    subst (λ b. Keeps origin rec (with_it b (Checked true) deeds) after.drain) (sym (is_here bank rec u.rec))
    (check_keeps origin rec deeds true (u.rec == rec) after.drain
    (λ here. sym on ∙ claim_is plan origin rec u s.history (Some o) deeds is h.there h.told_is here) was.orderly
    (stage_in origin rec deeds u Check was phase) refl)
here_keeps bank rec k d events plan s t after n origin deeds (Moves.clears u due phase) h =
    let was = due_keeps plan s origin rec deeds u due h.keeps in
    subst (λ b. Keeps origin rec (with_it b (Was Invalidated) deeds) (Some (after_invalidate plan.gather u)))
    (sym (is_here bank rec u.rec))
    (invalidate_keeps origin rec deeds (u.rec == rec) (after_invalidate plan.gather u) was.orderly
    (stage_in origin rec deeds u Invalidate was phase) (after_invalidate_idle plan.gather u))
here_keeps bank rec k d events plan s t after n origin deeds (Moves.signals u due phase) h =
    let was = due_keeps plan s origin rec deeds u due h.keeps in
    record {
      orderly = was.orderly;
      stage_is = idle_in origin rec deeds u was (ap phase_stage phase);
    }

-- ---- A step of another bank ----

is_elsewhere : (bank rec b c : ℕ) → (b ≡ bank → ⊥) → is_at bank rec b c ≡ false
is_elsewhere bank rec b c h = ap (λ x. x && (c == rec)) (ne_eqb b bank h)

untouched : (b : Bool) (deed : Deed) (origin : Origin) (rec : ℕ) (deeds : List Deed) (u : Option Draining) → b ≡ false
    → Keeps origin rec deeds u → Keeps origin rec (with_it b deed deeds) u
untouched b deed origin rec deeds u off h = subst (λ c. Keeps origin rec (with_it c deed deeds) u) (sym off) h

-- what the note of another bank's step is for a record
elsewhere_keeps : (bank rec k b : ℕ) (d : BankDecl) (events : Events) (n : BankNote) (origin : Origin)
    (deeds : List Deed) (u : Option Draining) → (b ≡ bank → ⊥) → Keeps origin rec deeds u
    → Keeps origin rec (with_deed (deed_at bank rec k (news_of (bank_note b d events n))) deeds) u
unfolding deed_at
elsewhere_keeps bank rec k b d events (Heard report logged) origin deeds u other h =
    error_keeps origin rec bank k report deeds u h
elsewhere_keeps bank rec k b d events (Acknowledged full) origin deeds u other h = h
elsewhere_keeps bank rec k b d events (Drew c (drain.Scanned found)) origin deeds u other h = h
elsewhere_keeps bank rec k b d events (Drew c drain.Over) origin deeds u other h = h
elsewhere_keeps bank rec k b d events (Drew c drain.Claimed) origin deeds u other h =
    untouched (is_at bank rec b c) (Was Claimed) origin rec deeds u (is_elsewhere bank rec b c other) h
elsewhere_keeps bank rec k b d events (Drew c (drain.Read register)) origin deeds u other h = h
elsewhere_keeps bank rec k b d events (Drew c drain.Torn) origin deeds u other h =
    untouched (is_at bank rec b c) (Checked false) origin rec deeds u (is_elsewhere bank rec b c other) h
elsewhere_keeps bank rec k b d events (Drew c (drain.Published copy)) origin deeds u other h =
    untouched (is_at bank rec b c) (Checked true) origin rec deeds u (is_elsewhere bank rec b c other) h
elsewhere_keeps bank rec k b d events (Drew c (drain.Invalidated cleared)) origin deeds u other h =
    untouched (is_at bank rec b c) (Was Invalidated) origin rec deeds u (is_elsewhere bank rec b c other) h
elsewhere_keeps bank rec k b d events (Drew c (drain.Signal level)) origin deeds u other h = h

-- ---- Notes that tell of no bank's step ----

apart_keeps : (bank rec k : ℕ) (n : StepNote) (origin : Origin) (deeds : List Deed) (u : Option Draining)
    → is_apart n ≡ true → Keeps origin rec deeds u
    → Keeps origin rec (with_deed (deed_at bank rec k (news_of n)) deeds) u
unfolding deed_at
apart_keeps bank rec k (note.Error report logged) origin deeds u off h =
    error_keeps origin rec bank k report deeds u h
apart_keeps bank rec k (note.Claim b c) origin deeds u off h = absurd (true≢false (sym off))
apart_keeps bank rec k (note.Check b c torn) origin deeds u off h = absurd (true≢false (sym off))
apart_keeps bank rec k (note.Invalidate b c cleared) origin deeds u off h = absurd (true≢false (sym off))
apart_keeps bank rec k n origin deeds u off h = h

-- ---- The board ----

abbrev drain_in : Option BankState → Option Draining
drain_in None = None
drain_in (Some s) = s.drain

-- each record's deeds are in order, and have come as far as the drain of its bank
pub record IsInOrder (plan : Plan) (ns : List News) (s : BoardState) : Type 0 where
  pub each : (bank rec : ℕ) (origin : Origin) → origin_at plan bank rec ≡ Some origin
      → Keeps origin rec (deeds_of bank rec ns) (drain_in (slice_get s.banks bank))

start_in_order : (plan : Plan) → IsInOrder plan [] (start_state plan)
start_in_order plan =
    record {
      each = λ bank rec origin there.
          record { orderly = tt; stage_is = sym (ap (drain_stage rec) (none_begins plan.banks bank)) };
    }
  where
    none_begins : (ds : List BankDecl) (i : ℕ)
        → drain_in (slice_get (map (λ (d : BankDecl). bank_start) ds) i)
        ≡ None
    none_begins [] i = refl
    none_begins (d ∷ ds) zero = refl
    none_begins (d ∷ ds) (suc i) = none_begins ds i

set_same : {X : Type 0} (xs : List X) (i : ℕ) (x : X) → i < length xs → slice_get (set xs i x) i ≡ Some x
set_same [] i x low = absurd (omega arith)
set_same (y ∷ xs) zero x low = refl
set_same (y ∷ xs) (suc i) x low = set_same xs i x (omega arith)

set_other : {X : Type 0} (xs : List X) (i j : ℕ) (x : X) → (i ≡ j → ⊥) → slice_get (set xs i x) j ≡ slice_get xs j
set_other [] i j x apart = refl
set_other (y ∷ xs) zero zero x apart = absurd (apart refl)
set_other (y ∷ xs) zero (suc j) x apart = refl
set_other (y ∷ xs) (suc i) zero x apart = refl
set_other (y ∷ xs) (suc i) (suc j) x apart = set_other xs i j x (λ same. apart (ap suc same))

-- the news, and what they are for a record
abbrev NextKeeps : Plan → List News → List BankState → StepNote → Type 0
NextKeeps plan ns banks n =
    (bank rec : ℕ) (origin : Origin) → origin_at plan bank rec ≡ Some origin
    → Keeps origin rec (deeds_of bank rec (news_of n ∷ ns)) (drain_in (slice_get banks bank))

-- the records of the bank that made the step
bank_here : (plan : Plan) (ns : List News) (s : BoardState) (comes : ℕ → BankTry → Type 0) (banks : List BankState)
    (n : StepNote) (p : Option Published) → ((rec : ℕ) (i : ℕ) (b : BankState) → slice_get s.banks i ≡ Some b
    → told (deeds_of i rec ns) ≡ events_of rec b.history)
    → IsInOrder plan ns s → (a : AtBank plan comes s.banks banks n p) → (rec : ℕ) (origin : Origin)
    → origin_at plan a.bank rec ≡ Some origin
    → Keeps origin rec (deeds_of a.bank rec (news_of n ∷ ns)) (drain_in (slice_get banks a.bank))
bank_here plan ns s comes banks n p told_is h a rec origin there =
    let after = ap (λ bs. drain_in (slice_get bs a.bank)) a.after_is
    ∙ ap drain_in (set_same s.banks a.bank a.made.state (slice_get_within s.banks a.bank a.state a.there)) in
    subst (Keeps origin rec (deeds_of a.bank rec (news_of n ∷ ns))) (sym after)
    (subst (λ m. Keeps origin rec (deeds_of a.bank rec (news_of m ∷ ns)) a.made.state.drain) (sym a.note_is)
    (here_keeps a.bank rec (suc (length ns)) a.decl a.events (bank_plan a.bank a.decl plan.recs) a.state a.come
    a.made.state a.made.note origin (deeds_of a.bank rec ns)
    (moves (bank_plan a.bank a.decl plan.recs) a.state a.come a.made a.makes)
    (record {
      there = sym (ap (origin_in a.bank rec plan) a.known) ∙ there;
      told_is = told_is rec a.bank a.state a.there;
      keeps = subst (Keeps origin rec (deeds_of a.bank rec ns)) (ap drain_in a.there) (h.each a.bank rec origin there);
    })))

bank_elsewhere : (plan : Plan) (ns : List News) (s : BoardState) (comes : ℕ → BankTry → Type 0)
    (banks : List BankState) (n : StepNote) (p : Option Published) → IsInOrder plan ns s
    → (a : AtBank plan comes s.banks banks n p) → (bank rec : ℕ) (origin : Origin) → (a.bank ≡ bank → ⊥)
    → origin_at plan bank rec ≡ Some origin
    → Keeps origin rec (deeds_of bank rec (news_of n ∷ ns)) (drain_in (slice_get banks bank))
bank_elsewhere plan ns s comes banks n p h a bank rec origin other there =
    let after = ap (λ bs. drain_in (slice_get bs bank)) a.after_is
    ∙ ap drain_in (set_other s.banks a.bank bank a.made.state other) in
    subst (Keeps origin rec (deeds_of bank rec (news_of n ∷ ns))) (sym after)
    (subst (λ m. Keeps origin rec (deeds_of bank rec (news_of m ∷ ns)) (drain_in (slice_get s.banks bank)))
    (sym a.note_is)
    (elsewhere_keeps bank rec (suc (length ns)) a.bank a.decl a.events a.made.note origin (deeds_of bank rec ns)
    (drain_in (slice_get s.banks bank)) other (h.each bank rec origin there)))

touched_keeps : (plan : Plan) (ns : List News) (s : BoardState) (comes : ℕ → BankTry → Type 0)
    (banks : List BankState) (n : StepNote) (p : Option Published) → ((rec : ℕ) (i : ℕ) (b : BankState)
    → slice_get s.banks i ≡ Some b → told (deeds_of i rec ns) ≡ events_of rec b.history)
    → IsInOrder plan ns s → Touches plan comes s.banks banks n p → NextKeeps plan ns banks n
touched_keeps plan ns s comes banks n p told_is h (Touches.apart off same none) bank rec origin there =
    subst (λ bs. Keeps origin rec (deeds_of bank rec (news_of n ∷ ns)) (drain_in (slice_get bs bank))) (sym same)
    (apart_keeps bank rec (suc (length ns)) n origin (deeds_of bank rec ns) (drain_in (slice_get s.banks bank)) off
    (h.each bank rec origin there))
touched_keeps plan ns s comes banks n p told_is h (Touches.at a) bank rec origin there =
    elim (cases_eq a.bank bank) as (λ _.
    Keeps origin rec (deeds_of bank rec (news_of n ∷ ns)) (drain_in (slice_get banks bank))) [
      | inl same ↦
          subst (λ i. Keeps origin rec (deeds_of i rec (news_of n ∷ ns)) (drain_in (slice_get banks i))) same
          (bank_here plan ns s comes banks n p told_is h a rec origin
          (ap (λ i. origin_at plan i rec) same ∙ there))
      | inr other ↦ bank_elsewhere plan ns s comes banks n p h a bank rec origin other there
    ]

pub ran_in_order : (plan : Plan) (acts : ℕ → List Act) (ts : List Step)
    → IsInOrder plan (news (ran plan acts ts).notes) (ran plan acts ts).state
ran_in_order plan acts ts =
    ran_keeps plan acts (IsInOrder plan) (start_in_order plan)
    (λ us t d is h.
    let s = (ran plan acts us).state in
    let does = step_does plan acts t s d is in
    let tells = ran_tells plan acts us in
    record {
      each = touched_keeps plan (news (ran plan acts us).notes) s _ d.state.banks d.note d.published
          (λ rec i b there. tells.told_is i rec b there) h does.touches;
    })
    ts

pub ran_orderly : (plan : Plan) (acts : ℕ → List Act) (ts : List Step)
    → AreOrderly plan (news (ran plan acts ts).notes)
ran_orderly plan acts ts =
    let h = ran_in_order plan acts ts in
    record { each = λ bank rec origin there. (h.each bank rec origin there).orderly }
