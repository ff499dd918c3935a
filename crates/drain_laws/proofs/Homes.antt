-- Drains are sound: the hart that makes a drain's steps is the bank's home, it has one drain at a time, and the slot
-- was free when it began.
use Rattle.std.proofs.Common.{◌≡◌, ◌⊎◌, ℕ, suc, true, List, slice_get, Option, Some, None, refl, inl, inr, sym, ap, ◌∙◌, subst}
use Rattle.std.specs.Option.{option_map}
use Rattle.std.proofs.lemmas.Bool.{true≢false}
use Rattle.std.proofs.lemmas.Option.{none-some, same_Some, slice_get-map}
use Rattle.sse_base.specs.Events.{Events}
use Rattle.reri_fields.specs.declared.drain.DrainNote.TheVariants as drain
use Rattle.reri_fields.specs.Drain.{BankPlan, BankState, BankTry, BankNote, Draining, bank_start}
use Rattle.reri_fields.specs.Drain.BankTry.{Drains}
use Rattle.reri_fields.specs.Drain.BankNote.{Heard, Drew, Acknowledged}
use Rattle.ras_device.specs.declared.act.Act.{Act}
use Rattle.board_plan.specs.declared.notes.Published.{Published}
use Rattle.board_plan.specs.declared.notes.Step.{Step}
use Rattle.board_plan.specs.declared.notes.Step.TheVariants.{Hart, Reporter}
use Rattle.board_plan.specs.declared.notes.StepNote.{StepNote}
use Rattle.board_plan.specs.declared.notes.StepNote.TheVariants as note
use Rattle.board_plan.specs.declared.plan.BankDecl.{BankDecl}
use Rattle.board_plan.specs.declared.plan.Plan.{Plan}
use Rattle.board_plan.specs.State.{BoardState, bank_plan, start_state}
use Rattle.board_plan.specs.Step.{Stepped, bank_note, bank_due, step}
use Rattle.board_plan.specs.Run.{ran}
use Rattle.board_plan.specs.Plans.{IsPlan}
use Rattle.board_plan.specs.Sound.{EachDrainIsSound, IsDrainSound, IsThere, drained_bank}
use Rattle.drain_laws.proofs.BankMoves.{Moves, moves}
use Rattle.drain_laws.proofs.BankMoves.Moves.{reports, acks, finds_none, finds, claims, reads, tears, publishes, clears, signals}
use Rattle.drain_laws.proofs.BoardMoves.{is_apart, Touches, Comes, step_does}
use Rattle.drain_laws.proofs.BoardMoves.Touches.{apart, at}
use Rattle.drain_laws.proofs.BankSound.{BankSound}
use Rattle.drain_laws.proofs.BoardSound.{ran_sound}
use Rattle.drain_laws.proofs.Copies.{free_is_empty}
use Rattle.drain_laws.proofs.DueBanks.{IsDueBank, Begins, due_bank, due_home, due_begins, drains_on}
use Rattle.drain_laws.proofs.Turns.{Turn, turn_of, there_before}
use Rattle.drain_laws.proofs.Turns.Turn.{rests, takes}
use Rattle.drain_laws.proofs.Runs.{kept_from_start}

-- ---- A drain's step is of the bank that is due ----

pub apart_undrained : (n : StepNote) → is_apart n ≡ true → drained_bank n ≡ None
apart_undrained (note.Scan bank rec) h = absurd (true≢false (sym h))
apart_undrained (note.Claim bank rec) h = absurd (true≢false (sym h))
apart_undrained (note.Read bank rec register) h = absurd (true≢false (sym h))
apart_undrained (note.Check bank rec torn) h = absurd (true≢false (sym h))
apart_undrained (note.Invalidate bank rec cleared) h = absurd (true≢false (sym h))
apart_undrained (note.Signal bank level id) h = absurd (true≢false (sym h))
apart_undrained n h = refl

-- which bank a bank's note names
pub named : (bank b : ℕ) (d : BankDecl) (events : Events) (m : BankNote)
    → drained_bank (bank_note bank d events m) ≡ Some b → bank ≡ b
named bank b d events (Heard report logged) h = absurd (none-some b h)
named bank b d events (Acknowledged full) h = absurd (none-some b h)
named bank b d events (Drew rec (drain.Scanned found)) h = same_Some bank b h
named bank b d events (Drew rec drain.Over) h = same_Some bank b h
named bank b d events (Drew rec drain.Claimed) h = same_Some bank b h
named bank b d events (Drew rec (drain.Read register)) h = same_Some bank b h
named bank b d events (Drew rec drain.Torn) h = same_Some bank b h
named bank b d events (Drew rec (drain.Published copy)) h = same_Some bank b h
named bank b d events (Drew rec (drain.Invalidated cleared)) h = same_Some bank b h
named bank b d events (Drew rec (drain.Signal level)) h = same_Some bank b h

-- a note that names a bank that was drained is of a drain's step
was_drained : (plan : BankPlan) (x y : BankState) (come : BankTry) (m : BankNote) (bank b : ℕ) (d : BankDecl)
    (events : Events) → Moves plan x come y m → drained_bank (bank_note bank d events m) ≡ Some b → come ≡ Drains
was_drained plan x y come m bank b d events (reports e) h = absurd (none-some b h)
was_drained plan x y come m bank b d events acks h = absurd (none-some b h)
was_drained plan x y come m bank b d events (finds_none u due phase found) h = refl
was_drained plan x y come m bank b d events (finds u rec due phase found) h = refl
was_drained plan x y come m bank b d events (claims u due phase) h = refl
was_drained plan x y come m bank b d events (reads u register next due phase to) h = refl
was_drained plan x y come m bank b d events (tears u o due phase known off) h = refl
was_drained plan x y come m bank b d events (publishes u origin due phase known on) h = refl
was_drained plan x y come m bank b d events (clears u due phase) h = refl
was_drained plan x y come m bank b d events (signals u due phase) h = refl

touched_due : (plan : Plan) (acts : ℕ → List Act) (h : ℕ) (s : BoardState) (after : List BankState) (n : StepNote)
    (p : Option Published) (bank : ℕ) → Touches plan (Comes plan acts (Hart h) s) s.banks after n p
    → drained_bank n ≡ Some bank → bank_due h plan s.banks ≡ Some bank
touched_due plan acts h s after n p bank (apart off same nothing) is =
    absurd (none-some bank (sym (apart_undrained n off) ∙ is))
touched_due plan acts h s after n p bank (at a) is =
    let told = ap drained_bank (sym a.note_is) ∙ is in
    let here : a.bank ≡ bank = named a.bank bank a.decl a.events a.made.note told in
    let so = was_drained (bank_plan a.bank a.decl plan.recs) a.state a.made.state a.come a.made.note a.bank bank a.decl
    a.events (moves (bank_plan a.bank a.decl plan.recs) a.state a.come a.made a.makes) told in
    subst (λ b. bank_due h plan s.banks ≡ Some b) here
    (subst (λ c. Comes plan acts (Hart h) s a.bank c) so a.by)

pub drained_due : (plan : Plan) (acts : ℕ → List Act) (h : ℕ) (s : BoardState) (bank : ℕ) (made : Stepped)
    → step plan acts (Hart h) s ≡ Some made → drained_bank made.note ≡ Some bank
    → IsDueBank h plan s.banks bank
drained_due plan acts h s bank made is told =
    due_bank h plan s.banks bank
    (touched_due plan acts h s made.state.banks made.note made.published bank
    (step_does plan acts (Hart h) s made is).touches told)

-- ---- One drain for each home ----

pub record OneForEachHome (plan : Plan) (s : BoardState) : Type 0 where
  pub one : (a b : ℕ) (d e : BankDecl) (x y : BankState) (u v : Draining) → IsThere plan s a d x → IsThere plan s b e y
      → x.drain ≡ Some u → y.drain ≡ Some v → d.home ≡ e.home → a ≡ b

-- a bank with a drain under way had it before the step, or the step began it
data DrainsOn (plan : Plan) (t : Step) (s : BoardState) (bank : ℕ) (d : BankDecl) (x : BankState) : Type 0 where
  had : (u : Draining) → x.drain ≡ Some u → DrainsOn plan t s bank d x
  began : (h : ℕ) → t ≡ Hart h → bank_due h plan s.banks ≡ Some bank → d.home ≡ h → Begins h plan s.banks x
      → DrainsOn plan t s bank d x

-- all but a drain's step leave it
left_drain : (plan : BankPlan) (x y : BankState) (come : BankTry) (m : BankNote) → Moves plan x come y m
    → (y.drain ≡ x.drain) ⊎ (come ≡ Drains)
left_drain plan x y come m (reports e) = inl refl
left_drain plan x y come m acks = inl refl
left_drain plan x y come m (finds_none u due phase found) = inr refl
left_drain plan x y come m (finds u rec due phase found) = inr refl
left_drain plan x y come m (claims u due phase) = inr refl
left_drain plan x y come m (reads u register next due phase to) = inr refl
left_drain plan x y come m (tears u o due phase known off) = inr refl
left_drain plan x y come m (publishes u origin due phase known on) = inr refl
left_drain plan x y come m (clears u due phase) = inr refl
left_drain plan x y come m (signals u due phase) = inr refl

drew_on : (plan : Plan) (acts : ℕ → List Act) (t : Step) (s : BoardState) (bank : ℕ) (d : BankDecl) (x : BankState)
    (o : Option Draining) → slice_get plan.banks bank ≡ Some d → slice_get s.banks bank ≡ Some x → x.drain ≡ o
    → Comes plan acts t s bank Drains → DrainsOn plan t s bank d x
drew_on plan acts (Reporter r) s bank d x o known there is by = absurd by
drew_on plan acts (Hart h) s bank d x (Some u) known there is by = had u is
drew_on plan acts (Hart h) s bank d x None known there is by =
    let due = due_bank h plan s.banks bank by in
    began h refl by (due_home h plan s.banks bank d x due known there)
    (due_begins h plan s.banks bank d x due known there is)

drains_on_turn : (plan : Plan) (acts : ℕ → List Act) (t : Step) (s : BoardState) (made : Stepped) (bank : ℕ)
    (d : BankDecl) (x y : BankState) (u : Draining) → slice_get plan.banks bank ≡ Some d
    → slice_get s.banks bank ≡ Some x → y.drain ≡ Some u → Turn plan acts t s made bank d x y
    → DrainsOn plan t s bank d x
drains_on_turn plan acts t s made bank d x y u known there under (rests same off) =
    had u (ap (λ (z : BankState). z.drain) (sym same) ∙ under)
drains_on_turn plan acts t s made bank d x y u known there under (takes a) =
    elim (left_drain (bank_plan bank d plan.recs) x y a.come a.told a.moves) as (λ _. DrainsOn plan t s bank d x) [
      | inl same ↦ had u (sym same ∙ under)
      | inr drew ↦
          drew_on plan acts t s bank d x x.drain known there refl
          (subst (λ c. Comes plan acts t s bank c) drew a.comes)
    ]

same_hart : (h k : ℕ) → Hart h ≡ Hart k → h ≡ k
same_hart h k is = cc

only_one : (plan : Plan) (t : Step) (s : BoardState) (a b : ℕ) (d e : BankDecl) (x y : BankState)
    → OneForEachHome plan s → IsThere plan s a d x → IsThere plan s b e y → d.home ≡ e.home
    → DrainsOn plan t s a d x → DrainsOn plan t s b e y → a ≡ b
only_one plan t s a b d e x y h here there home (had u under) (had v over) =
    h.one a b d e x y u v here there under over home
only_one plan t s a b d e x y h here there home (began k is due at_home fresh) (had v over) =
    absurd (drains_on k plan s.banks b e y v fresh.alone there.known there.there (sym home ∙ at_home) over)
only_one plan t s a b d e x y h here there home (had u under) (began k is due at_home fresh) =
    absurd (drains_on k plan s.banks a d x u fresh.alone here.known here.there (home ∙ at_home) under)
only_one plan t s a b d e x y h here there home (began k is due at_home fresh) (began l was other away new) =
    same_Some a b (sym due ∙ ap (λ i. bank_due i plan s.banks) (sym at_home ∙ home ∙ away) ∙ other)

step_one : (plan : Plan) (acts : ℕ → List Act) (t : Step) (s : BoardState) (made : Stepped)
    → step plan acts t s ≡ Some made → OneForEachHome plan s → OneForEachHome plan made.state
step_one plan acts t s made makes h =
    record {
      one = λ a b d e x y u v here there under over home.
          let p = there_before plan acts t s made a x makes here.there in
          let q = there_before plan acts t s made b y makes there.there in
          only_one plan t s a b d e p.0 q.0 h (record { known = here.known; there = p.1 })
          (record { known = there.known; there = q.1 }) home
          (drains_on_turn plan acts t s made a d p.0 x u here.known p.1 under
          (turn_of plan acts t s made a d p.0 x makes here.known p.1 here.there))
          (drains_on_turn plan acts t s made b e q.0 y v there.known q.1 over
          (turn_of plan acts t s made b e q.0 y makes there.known q.1 there.there));
    }

fresh_bank : (o : Option BankDecl) (x : BankState) → option_map (λ (e : BankDecl). bank_start) o ≡ Some x
    → x.drain ≡ None
fresh_bank None x h = absurd (none-some x h)
fresh_bank (Some e) x h = ap (λ (y : BankState). y.drain) (sym (same_Some bank_start x h))

start_one : (plan : Plan) → OneForEachHome plan (start_state plan)
start_one plan =
    record {
      one = λ a b d e x y u v here there under over home.
          absurd (none-some u (sym (fresh_bank (slice_get plan.banks a) x
          (sym (slice_get-map (λ (c : BankDecl). bank_start) plan.banks a) ∙ here.there)) ∙ under));
    }

pub ran_one : (plan : Plan) (acts : ℕ → List Act) (tries : List Step) → OneForEachHome plan (ran plan acts tries).state
ran_one plan acts tries =
    kept_from_start plan acts (OneForEachHome plan) (step_one plan acts) (start_one plan) tries

-- ---- The law ----

drain_sound : (plan : BankPlan) (n : ℕ) (x : BankState) (u : Draining) → BankSound plan n x → x.drain ≡ Some u
    → IsDrainSound plan.origins plan.gather x u
drain_sound plan n x u h under =
    let f = h.fits u under in
    record {
      record_valid = f.record_valid;
      slot = h.slot;
      at_most_own = f.at_most_own;
      own = f.own;
      level = f.level;
      gathered = f.gathered;
      gathers_on = f.gathers_on;
    }

pub each_drain_is_sound : (plan : Plan) (acts : ℕ → List Act) (tries : List Step) → IsPlan plan
    → EachDrainIsSound plan acts (ran plan acts tries).state
each_drain_is_sound plan acts tries is =
    let s = (ran plan acts tries).state in
    record {
      sound = λ bank d x u there under.
          drain_sound (bank_plan bank d plan.recs) (suc s.steps) x u
          ((ran_sound plan acts tries is).each bank d x there.known there.there) under;
      home = λ h bank made d x there makes told.
          due_home h plan s.banks bank d x (drained_due plan acts h s bank made makes told) there.known there.there;
      one = (ran_one plan acts tries).one;
      begins_free = λ h bank made d x there makes told none.
          free_is_empty x.slot
          (due_begins h plan s.banks bank d x (drained_due plan acts h s bank made makes told) there.known there.there
          none).free;
    }
