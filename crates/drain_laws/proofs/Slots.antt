-- Laws of slots: what a slot holds, that a copy stands there until its acknowledgement, and that a signalled block
-- rests.
use Rattle.std.proofs.Common.{◌≡◌, ℕ, zero, suc, ◌==◌, ◌&&◌, ◌||◌, Bool, true, false, cond, List, [], ◌∷◌, ◌++◌, slice_get, Option, Some, None, refl, sym, ap, ◌∙◌, subst}
use Rattle.std.specs.Option.{option_map}
use Rattle.std.proofs.lemmas.Bool.{true≢false, eq-eqb}
use Rattle.std.proofs.lemmas.Option.{none-some, same_Some, slice_get-map}
use Rattle.sse_base.specs.Events.{Events}
use Rattle.reri_fields.specs.declared.report.RecordCopy.{RecordCopy}
use Rattle.reri_fields.specs.Drain.{BankPlan, BankState, BankTry, BankNote, Draining, Publication, bank_start, is_free, publication}
use Rattle.ras_device.specs.declared.act.Act.{Act}
use Rattle.board_plan.specs.declared.notes.Step.{Step}
use Rattle.board_plan.specs.declared.notes.StepNote.{StepNote}
use Rattle.board_plan.specs.declared.notes.StepNote.TheVariants as note
use Rattle.board_plan.specs.declared.plan.BankDecl.{BankDecl}
use Rattle.board_plan.specs.declared.plan.Plan.{Plan}
use Rattle.board_plan.specs.State.{BoardState, bank_plan, start_state}
use Rattle.board_plan.specs.Step.{Stepped, bank_note}
use Rattle.board_plan.specs.Run.{Noted, notes, ran}
use Rattle.board_plan.specs.Plans.{IsPlan}
use Rattle.board_plan.specs.Sound.{newest_copies}
use Rattle.board_plan.specs.Blocks.{publishes_on, acks_on, claims_on, some_note, since_ack, EachSlotIsOfItsNotes, EachCopyStands, EachSignalledBlockRests}
use Rattle.drain_laws.proofs.BankMoves.{Moves, IsDue}
use Rattle.drain_laws.proofs.BankMoves.IsDue.{goes_on, begins}
use Rattle.drain_laws.proofs.BankMoves.Moves.{reports, acks, finds_none, finds, claims, reads, tears, publishes, clears, signals}
use Rattle.drain_laws.proofs.BankRuns.{Moved, BankRun, bank_run, declared}
use Rattle.drain_laws.proofs.BankRuns.BankRun.{ends, waits, goes}
use Rattle.drain_laws.proofs.BoardSound.{start_board, ran_sound, step_sound}
use Rattle.drain_laws.proofs.Copies.{free_is_empty}
use Rattle.drain_laws.proofs.Turns.{is_of, Turn, turn_of, there_before}
use Rattle.drain_laws.proofs.Turns.Turn.{rests, takes}

-- ---- Notes of other banks ----

pub acks_elsewhere : (bank : ℕ) (n : StepNote) → is_of bank n ≡ false → acks_on bank n ≡ false
acks_elsewhere bank (note.Ack b (Some full)) h = ap (λ c. c && full) h
acks_elsewhere bank (note.Ack b None) h = never (b == bank)
  where
    never : (c : Bool) → (c && false) ≡ false
    never true = refl
    never false = refl
acks_elsewhere bank n h = refl

pub publishes_elsewhere : (bank : ℕ) (n : StepNote) → is_of bank n ≡ false → publishes_on bank n ≡ false
publishes_elsewhere bank (note.Check b rec true) h = ap (λ c. c && false) h
publishes_elsewhere bank (note.Check b rec false) h = ap (λ c. c && true) h
publishes_elsewhere bank n h = refl

pub claims_elsewhere : (bank : ℕ) (n : StepNote) → is_of bank n ≡ false → claims_on bank n ≡ false
claims_elsewhere bank (note.Claim b rec) h = h
claims_elsewhere bank n h = refl

-- ---- What a move does to the slot ----

-- it leaves slot and publications, or empties the slot, or publishes one copy more into it
pub data SlotMove (bank : ℕ) (n : StepNote) (x y : BankState) : Type 0 where
  keeps : acks_on bank n ≡ false → publishes_on bank n ≡ false → y.slot ≡ x.slot → y.published ≡ x.published
      → SlotMove bank n x y
  empties : acks_on bank n ≡ true → is_free x.slot ≡ false → y.slot ≡ [] → SlotMove bank n x y
  grows : (p : Publication) → acks_on bank n ≡ false → publishes_on bank n ≡ true → y.slot ≡ x.slot ++ p.copy ∷ []
      → y.published ≡ p ∷ x.published → SlotMove bank n x y

never_both : (c : Bool) → (c && false) ≡ false
never_both true = refl
never_both false = refl

acked : (bank : ℕ) (x y : BankState) (free : Bool) → is_free x.slot ≡ free → y.slot ≡ [] → y.published ≡ x.published
    → SlotMove bank (note.Ack bank (Some (cond free false true))) x y
acked bank x y true is none same =
    keeps (never_both (bank == bank)) refl (none ∙ sym (free_is_empty x.slot is)) same
acked bank x y false is none same = empties (ap (λ c. c && true) (eq-eqb bank bank refl)) is none

slot_moves : (plan : BankPlan) (bank : ℕ) (d : BankDecl) (events : Events) (x y : BankState) (come : BankTry)
    (m : BankNote) → Moves plan x come y m → SlotMove bank (bank_note bank d events m) x y
slot_moves plan bank d events x y come m (reports e) = keeps refl refl refl refl
slot_moves plan bank d events x y come m acks = acked bank x y (is_free x.slot) refl refl refl
slot_moves plan bank d events x y come m (finds_none u due phase found) = keeps refl refl refl refl
slot_moves plan bank d events x y come m (finds u rec due phase found) = keeps refl refl refl refl
slot_moves plan bank d events x y come m (claims u due phase) = keeps refl refl refl refl
slot_moves plan bank d events x y come m (reads u register next due phase to) = keeps refl refl refl refl
slot_moves plan bank d events x y come m (tears u o due phase known off) =
    keeps refl (never_both (bank == bank)) refl refl
slot_moves plan bank d events x y come m (publishes u origin due phase known on) =
    grows (publication x u.rec origin) refl (ap (λ c. c && true) (eq-eqb bank bank refl)) refl refl
slot_moves plan bank d events x y come m (clears u due phase) = keeps refl refl refl refl
slot_moves plan bank d events x y come m (signals u due phase) = keeps refl refl refl refl

pub slot_move : (plan : Plan) (acts : ℕ → List Act) (bank : ℕ) (d : BankDecl) (x y : BankState) (n : StepNote)
    → Moved plan acts bank d x y n → SlotMove bank n x y
slot_move plan acts bank d x y n a =
    subst (λ k. SlotMove bank k x y) (sym a.note_is)
    (slot_moves (bank_plan bank d plan.recs) bank d a.events x y a.come a.told a.moves)

-- ---- A slot holds the copies that were published since its last acknowledgement ----

count_same : (bank count : ℕ) (n : Noted) (ns : List Noted) → acks_on bank n.note ≡ false
    → publishes_on bank n.note ≡ false → since_ack bank count (n ∷ ns) ≡ since_ack bank count ns
count_same bank count n ns off none =
    ap (λ b. cond b (since_ack bank 0 ns) (cond (publishes_on bank n.note) (since_ack bank (suc count) ns)
    (since_ack bank count ns))) off
    ∙ ap (λ b. cond b (since_ack bank (suc count) ns) (since_ack bank count ns)) none

count_none : (bank count : ℕ) (n : Noted) (ns : List Noted) → acks_on bank n.note ≡ true
    → since_ack bank count (n ∷ ns) ≡ since_ack bank 0 ns
count_none bank count n ns on =
    ap (λ b. cond b (since_ack bank 0 ns) (cond (publishes_on bank n.note) (since_ack bank (suc count) ns)
    (since_ack bank count ns))) on

count_more : (bank count : ℕ) (n : Noted) (ns : List Noted) → acks_on bank n.note ≡ false
    → publishes_on bank n.note ≡ true → since_ack bank count (n ∷ ns) ≡ since_ack bank (suc count) ns
count_more bank count n ns off one =
    ap (λ b. cond b (since_ack bank 0 ns) (cond (publishes_on bank n.note) (since_ack bank (suc count) ns)
    (since_ack bank count ns))) off
    ∙ ap (λ b. cond b (since_ack bank (suc count) ns) (since_ack bank count ns)) one

-- the slot holds so many of the newest copies
abbrev HoldsNewest : ℕ → BankState → Type 0
HoldsNewest count x = x.slot ≡ newest_copies count x.published

moved_holds : (plan : Plan) (acts : ℕ → List Act) (bank : ℕ) (d : BankDecl) (x y z : BankState) (count : ℕ)
    (n : Noted) (ns : List Noted) → HoldsNewest count x → SlotMove bank n.note x y
    → ((c : ℕ) → HoldsNewest c y → HoldsNewest (since_ack bank c ns) z) → HoldsNewest (since_ack bank count (n ∷ ns)) z
moved_holds plan acts bank d x y z count n ns h (keeps off none slot same) further =
    further count (slot ∙ h ∙ ap (newest_copies count) (sym same))
    ∙ ap (λ c. newest_copies c z.published) (sym (count_same bank count n ns off none))
moved_holds plan acts bank d x y z count n ns h (empties on full slot) further =
    further 0 slot ∙ ap (λ c. newest_copies c z.published) (sym (count_none bank count n ns on))
moved_holds plan acts bank d x y z count n ns h (grows p off one slot more) further =
    further (suc count) (slot ∙ ap (λ xs. xs ++ p.copy ∷ []) h ∙ ap (newest_copies (suc count)) (sym more))
    ∙ ap (λ c. newest_copies c z.published) (sym (count_more bank count n ns off one))

holds_after : (plan : Plan) (acts : ℕ → List Act) (bank : ℕ) (d : BankDecl) (x y : BankState) (count : ℕ)
    (ns : List Noted) → HoldsNewest count x → BankRun plan acts bank d x ns y
    → HoldsNewest (since_ack bank count ns) y
holds_after plan acts bank d x y count ns h (ends _) = h
holds_after plan acts bank d x y count ns h (waits _ _ n more other rest) =
    holds_after plan acts bank d x y count more h rest
    ∙ ap (λ c. newest_copies c y.published)
    (sym (count_same bank count n more (acks_elsewhere bank n.note other) (publishes_elsewhere bank n.note other)))
holds_after plan acts bank d x y count ns h (goes _ between _ n more a rest) =
    moved_holds plan acts bank d x between y count n more h (slot_move plan acts bank d x between n.note a)
    (λ c k. holds_after plan acts bank d between y c more k rest)

fresh_holds : (o : Option BankDecl) (x : BankState) → option_map (λ (e : BankDecl). bank_start) o ≡ Some x
    → HoldsNewest 0 x
fresh_holds None x h = absurd (none-some x h)
fresh_holds (Some e) x h = subst (HoldsNewest 0) (same_Some bank_start x h) refl

-- the bank of a plan's start
pub first_bank : (plan : Plan) (bank : ℕ) (d : BankDecl) → slice_get plan.banks bank ≡ Some d
    → slice_get (start_state plan).banks bank ≡ Some bank_start
first_bank plan bank d known =
    slice_get-map (λ (e : BankDecl). bank_start) plan.banks bank
    ∙ ap (option_map (λ (e : BankDecl). bank_start)) known

pub each_slot_is_of_its_notes : (plan : Plan) (acts : ℕ → List Act) → IsPlan plan → EachSlotIsOfItsNotes plan acts
unfolding ran
each_slot_is_of_its_notes plan acts is =
    λ tries bank x there.
    let d = declared plan (ran plan acts tries).state bank x (ran_sound plan acts tries is) there in
    holds_after plan acts bank d.0 bank_start x 0 (notes plan acts (start_state plan) tries) refl
    (bank_run plan acts (start_state plan) tries bank d.0 bank_start x is (start_board plan) d.1
    (first_bank plan bank d.0 d.1) there)

-- ---- A copy stands until the acknowledgement ----

pub no_first : (test : StepNote → Bool) (n : Noted) (ns : List Noted) → some_note test (n ∷ ns) ≡ false
    → (test n.note ≡ false) × (some_note test ns ≡ false)
no_first test n ns h = neither (test n.note) (some_note test ns) h
  where
    neither : (a b : Bool) → (a || b) ≡ false → (a ≡ false) × (b ≡ false)
    neither true b h = absurd (true≢false h)
    neither false b h = (refl, h)

longer_get : (xs : List RecordCopy) (last copy : RecordCopy) (place : ℕ) → slice_get xs place ≡ Some copy
    → slice_get (xs ++ last ∷ []) place ≡ Some copy
longer_get [] last copy place h = absurd (none-some copy h)
longer_get (x ∷ xs) last copy zero h = h
longer_get (x ∷ xs) last copy (suc place) h = longer_get xs last copy place h

stands_moved : (bank : ℕ) (n : StepNote) (x y : BankState) (place : ℕ) (copy : RecordCopy) → acks_on bank n ≡ false
    → slice_get x.slot place ≡ Some copy → SlotMove bank n x y → slice_get y.slot place ≡ Some copy
stands_moved bank n x y place copy off here (keeps _ none slot same) = ap (λ xs. slice_get xs place) slot ∙ here
stands_moved bank n x y place copy off here (empties on full slot) = absurd (true≢false (sym on ∙ off))
stands_moved bank n x y place copy off here (grows p _ one slot more) =
    ap (λ xs. slice_get xs place) slot ∙ longer_get x.slot p.copy copy place here

stands_after : (plan : Plan) (acts : ℕ → List Act) (bank : ℕ) (d : BankDecl) (x y : BankState) (ns : List Noted)
    (place : ℕ) (copy : RecordCopy) → some_note (acks_on bank) ns ≡ false → slice_get x.slot place ≡ Some copy
    → BankRun plan acts bank d x ns y → slice_get y.slot place ≡ Some copy
stands_after plan acts bank d x y ns place copy off here (ends _) = here
stands_after plan acts bank d x y ns place copy off here (waits _ _ n more other rest) =
    stands_after plan acts bank d x y more place copy (no_first (acks_on bank) n more off).1 here rest
stands_after plan acts bank d x y ns place copy off here (goes _ between _ n more a rest) =
    let parts = no_first (acks_on bank) n more off in
    stands_after plan acts bank d between y more place copy parts.1
    (stands_moved bank n.note x between place copy parts.0 here (slot_move plan acts bank d x between n.note a)) rest

pub each_copy_stands : (plan : Plan) (acts : ℕ → List Act) → IsPlan plan → EachCopyStands plan acts
each_copy_stands plan acts is =
    λ older tries bank place x y copy before after none here.
    let s = (ran plan acts older).state in
    let sound = ran_sound plan acts older is in
    let d = declared plan s bank x sound before in
    stands_after plan acts bank d.0 x y (notes plan acts s tries) place copy none here
    (bank_run plan acts s tries bank d.0 x y is sound d.1 before after)

-- ---- A block that was signalled rests until the acknowledgement ----

-- no drain is under way, and none can begin
record IsResting (x : BankState) : Type 0 where
  idle : x.drain ≡ None
  full : is_free x.slot ≡ false

not_due : (plan : BankPlan) (x : BankState) (u : Draining) → IsResting x → IsDue plan x u → ⊥
not_due plan x u h (goes_on _ under) = none-some u (sym h.idle ∙ under)
not_due plan x u h (begins none asking free) = true≢false (sym free ∙ h.full)

-- a bank that rests is left as it is
record Rests (x y : BankState) : Type 0 where
  slot : y.slot ≡ x.slot
  drain : y.drain ≡ x.drain

rests_on : (plan : BankPlan) (bank : ℕ) (d : BankDecl) (events : Events) (x y : BankState) (come : BankTry)
    (m : BankNote) → Moves plan x come y m → IsResting x → acks_on bank (bank_note bank d events m) ≡ false
    → Rests x y
rests_on plan bank d events x y come m (reports e) h off = record { slot = refl; drain = refl }
rests_on plan bank d events x y come m acks h off =
    absurd (true≢false (sym (ap (λ c. c && true) (eq-eqb bank bank refl))
    ∙ sym (ap (λ free. acks_on bank (note.Ack bank (Some (cond free false true)))) h.full) ∙ off))
rests_on plan bank d events x y come m (finds_none u due phase found) h off = absurd (not_due plan x u h due)
rests_on plan bank d events x y come m (finds u rec due phase found) h off = absurd (not_due plan x u h due)
rests_on plan bank d events x y come m (claims u due phase) h off = absurd (not_due plan x u h due)
rests_on plan bank d events x y come m (reads u register next due phase to) h off = absurd (not_due plan x u h due)
rests_on plan bank d events x y come m (tears u o due phase known none) h off = absurd (not_due plan x u h due)
rests_on plan bank d events x y come m (publishes u origin due phase known on) h off =
    absurd (not_due plan x u h due)
rests_on plan bank d events x y come m (clears u due phase) h off = absurd (not_due plan x u h due)
rests_on plan bank d events x y come m (signals u due phase) h off = absurd (not_due plan x u h due)

rests_after : (plan : Plan) (acts : ℕ → List Act) (bank : ℕ) (d : BankDecl) (x y : BankState) (ns : List Noted)
    → some_note (acks_on bank) ns ≡ false → IsResting x → BankRun plan acts bank d x ns y → y.slot ≡ x.slot
rests_after plan acts bank d x y ns off h (ends _) = refl
rests_after plan acts bank d x y ns off h (waits _ _ n more other rest) =
    rests_after plan acts bank d x y more (no_first (acks_on bank) n more off).1 h rest
rests_after plan acts bank d x y ns off h (goes _ between _ n more a rest) =
    let parts = no_first (acks_on bank) n more off in
    let so = rests_on (bank_plan bank d plan.recs) bank d a.events x between a.come a.told a.moves h
    (sym (ap (acks_on bank) a.note_is) ∙ parts.0) in
    rests_after plan acts bank d between y more parts.1
    (record { idle = so.drain ∙ h.idle; full = ap is_free so.slot ∙ h.full }) rest
    ∙ so.slot

abbrev is_signal : StepNote → Bool
is_signal (note.Signal bank level id) = true
is_signal n = false

-- after its Signal no drain of the bank is under way
signal_idle : (plan : BankPlan) (bank : ℕ) (d : BankDecl) (events : Events) (x y : BankState) (come : BankTry)
    (m : BankNote) → Moves plan x come y m → is_signal (bank_note bank d events m) ≡ true → y.drain ≡ None
signal_idle plan bank d events x y come m (signals u due phase) h = refl
signal_idle plan bank d events x y come m (reports e) h = absurd (true≢false (sym h))
signal_idle plan bank d events x y come m acks h = absurd (true≢false (sym h))
signal_idle plan bank d events x y come m (finds_none u due phase found) h = absurd (true≢false (sym h))
signal_idle plan bank d events x y come m (finds u rec due phase found) h = absurd (true≢false (sym h))
signal_idle plan bank d events x y come m (claims u due phase) h = absurd (true≢false (sym h))
signal_idle plan bank d events x y come m (reads u register next due phase to) h = absurd (true≢false (sym h))
signal_idle plan bank d events x y come m (tears u o due phase known none) h = absurd (true≢false (sym h))
signal_idle plan bank d events x y come m (publishes u origin due phase known on) h = absurd (true≢false (sym h))
signal_idle plan bank d events x y come m (clears u due phase) h = absurd (true≢false (sym h))

signalled_idle : (plan : Plan) (acts : ℕ → List Act) (t : Step) (s : BoardState) (made : Stepped) (bank level : ℕ)
    (id : Option ℕ) (d : BankDecl) (x y : BankState) → made.note ≡ note.Signal bank level id
    → Turn plan acts t s made bank d x y → y.drain ≡ None
signalled_idle plan acts t s made bank level id d x y is (rests same off) =
    absurd (true≢false (sym (eq-eqb bank bank refl) ∙ sym (ap (is_of bank) is) ∙ off))
signalled_idle plan acts t s made bank level id d x y is (takes a) =
    signal_idle (bank_plan bank d plan.recs) bank d a.events x y a.come a.told a.moves
    (sym (ap is_signal a.note_is) ∙ ap is_signal is)

pub each_signalled_block_rests : (plan : Plan) (acts : ℕ → List Act) → IsPlan plan → EachSignalledBlockRests plan acts
each_signalled_block_rests plan acts is =
    λ older tries t made bank level id x y makes told before after none full.
    let s = (ran plan acts older).state in
    let sound = ran_sound plan acts older is in
    let later = step_sound plan acts is t s made makes sound in
    let d = declared plan made.state bank x later before in
    let was = there_before plan acts t s made bank x makes before in
    rests_after plan acts bank d.0 x y (notes plan acts made.state tries) none
    (record {
      idle = signalled_idle plan acts t s made bank level id d.0 was.0 x told
          (turn_of plan acts t s made bank d.0 was.0 x makes d.1 was.1 before);
      full = full;
    })
    (bank_run plan acts made.state tries bank d.0 x y is later d.1 before after)
