-- A step of a board as one of its banks sees it: it makes a move, or it rests.
use Rattle.std.proofs.Common.{◌≡◌, ◌≢◌, ℕ, ◌==◌, Bool, true, false, List, length, slice_get, Some, None, refl, inl, inr, sym, ap, ◌∙◌, subst, arith}
use Rattle.std.proofs.lemmas.Bool.{cases_eq, true≢false, ne_eqb}
use Rattle.std.proofs.lemmas.List.{length-set}
use Rattle.std.proofs.lemmas.Option.{same_Some, slice_get_within}
use Rattle.sse_base.specs.Events.{Events}
use Rattle.reri_fields.specs.declared.drain.DrainNote.TheVariants as drain
use Rattle.reri_fields.specs.Drain.{BankState, BankTry, BankNote}
use Rattle.reri_fields.specs.Drain.BankNote.{Heard, Drew, Acknowledged}
use Rattle.reri_bank.proofs.Stands.{get_there, get-set_same, get-set_other}
use Rattle.ras_device.specs.declared.act.Act.{Act}
use Rattle.board_plan.specs.declared.notes.Step.{Step}
use Rattle.board_plan.specs.declared.notes.StepNote.{StepNote}
use Rattle.board_plan.specs.declared.notes.StepNote.TheVariants as note
use Rattle.board_plan.specs.declared.plan.BankDecl.{BankDecl}
use Rattle.board_plan.specs.declared.plan.Plan.{Plan}
use Rattle.board_plan.specs.State.{BoardState, bank_plan}
use Rattle.board_plan.specs.Step.{Stepped, bank_note, published_by, step}
use Rattle.drain_laws.proofs.BankMoves.{Moves, moves}
use Rattle.drain_laws.proofs.BoardMoves.{is_apart, Comes, AtBank, Touches, step_does}
use Rattle.drain_laws.proofs.BoardMoves.Touches.{apart, at}

-- a note of a bank's drain, or of an acknowledgement that came to it
abbrev pub is_of : ℕ → StepNote → Bool
is_of bank (note.Scan b rec) = b == bank
is_of bank (note.Claim b rec) = b == bank
is_of bank (note.Read b rec register) = b == bank
is_of bank (note.Check b rec torn) = b == bank
is_of bank (note.Invalidate b rec cleared) = b == bank
is_of bank (note.Signal b level id) = b == bank
is_of bank (note.Ack b (Some full)) = b == bank
is_of bank n = false

apart_of_all : (bank : ℕ) (n : StepNote) → is_apart n ≡ true → is_of bank n ≡ false
apart_of_all bank (note.Scan b rec) h = absurd (true≢false (sym h))
apart_of_all bank (note.Claim b rec) h = absurd (true≢false (sym h))
apart_of_all bank (note.Read b rec register) h = absurd (true≢false (sym h))
apart_of_all bank (note.Check b rec torn) h = absurd (true≢false (sym h))
apart_of_all bank (note.Invalidate b rec cleared) h = absurd (true≢false (sym h))
apart_of_all bank (note.Signal b level id) h = absurd (true≢false (sym h))
apart_of_all bank (note.Ack b (Some full)) h = absurd (true≢false (sym h))
apart_of_all bank (note.Ack b None) h = refl
apart_of_all bank n h = refl

other_note : (bank b : ℕ) (d : BankDecl) (t : Events) (m : BankNote) → b ≢ bank
    → is_of bank (bank_note b d t m) ≡ false
other_note bank b d t (Heard report logged) other = refl
other_note bank b d t (Drew rec (drain.Scanned found)) other = ne_eqb b bank other
other_note bank b d t (Drew rec drain.Over) other = ne_eqb b bank other
other_note bank b d t (Drew rec drain.Claimed) other = ne_eqb b bank other
other_note bank b d t (Drew rec (drain.Read register)) other = ne_eqb b bank other
other_note bank b d t (Drew rec drain.Torn) other = ne_eqb b bank other
other_note bank b d t (Drew rec (drain.Published copy)) other = ne_eqb b bank other
other_note bank b d t (Drew rec (drain.Invalidated cleared)) other = ne_eqb b bank other
other_note bank b d t (Drew rec (drain.Signal level)) other = ne_eqb b bank other
other_note bank b d t (Acknowledged full) other = ne_eqb b bank other

-- ---- Turns ----

-- the move that a step is for a bank
pub record TakesTurn (plan : Plan) (acts : ℕ → List Act) (t : Step) (s : BoardState) (d : Stepped) (bank : ℕ)
    (decl : BankDecl) (x y : BankState) : Type 0 where
  pub come : BankTry
  pub told : BankNote
  pub events : Events
  pub moves : Moves (bank_plan bank decl plan.recs) x come y told
  pub note_is : d.note ≡ bank_note bank decl events told
  pub published_is : d.published ≡ published_by bank told
  pub comes : Comes plan acts t s bank come

-- what a step is for a bank that is x before it and y after it
pub data Turn (plan : Plan) (acts : ℕ → List Act) (t : Step) (s : BoardState) (d : Stepped) (bank : ℕ)
    (decl : BankDecl) (x y : BankState) : Type 0 where
  rests : y ≡ x → is_of bank d.note ≡ false → Turn plan acts t s d bank decl x y
  takes : TakesTurn plan acts t s d bank decl x y → Turn plan acts t s d bank decl x y

-- the bank's own step
own_turn : (plan : Plan) (acts : ℕ → List Act) (t : Step) (s : BoardState) (d : Stepped)
    (a : AtBank plan (Comes plan acts t s) s.banks d.state.banks d.note d.published) (decl : BankDecl) (x y : BankState)
    → slice_get plan.banks a.bank ≡ Some decl → slice_get s.banks a.bank ≡ Some x
    → slice_get d.state.banks a.bank ≡ Some y → Turn plan acts t s d a.bank decl x y
own_turn plan acts t s d a decl x y known there after =
    let low = slice_get_within s.banks a.bank a.state a.there in
    let decl_is : a.decl ≡ decl = same_Some a.decl decl (sym a.known ∙ known) in
    let x_is : a.state ≡ x = same_Some a.state x (sym a.there ∙ there) in
    let y_is : a.made.state ≡ y = same_Some a.made.state y (sym (get-set_same s.banks a.bank a.made.state low)
    ∙ ap (λ bs. slice_get bs a.bank) (sym a.after_is) ∙ after) in
    subst (λ e. Turn plan acts t s d a.bank e x y) decl_is
    (subst (λ b. Turn plan acts t s d a.bank a.decl b y) x_is
    (subst (λ b. Turn plan acts t s d a.bank a.decl a.state b) y_is
    (takes (record {
      come = a.come;
      told = a.made.note;
      events = a.events;
      moves = moves (bank_plan a.bank a.decl plan.recs) a.state a.come a.made a.makes;
      note_is = a.note_is;
      published_is = a.published_is;
      comes = a.by;
    }))))

touched_turn : (plan : Plan) (acts : ℕ → List Act) (t : Step) (s : BoardState) (d : Stepped) (bank : ℕ)
    (decl : BankDecl) (x y : BankState) → Touches plan (Comes plan acts t s) s.banks d.state.banks d.note d.published
    → slice_get plan.banks bank ≡ Some decl → slice_get s.banks bank ≡ Some x → slice_get d.state.banks bank ≡ Some y
    → Turn plan acts t s d bank decl x y
touched_turn plan acts t s d bank decl x y (apart off same nothing) known there after =
    rests (same_Some y x (sym after ∙ ap (λ bs. slice_get bs bank) same ∙ there)) (apart_of_all bank d.note off)
touched_turn plan acts t s d bank decl x y (at a) known there after =
    elim (cases_eq a.bank bank) as (λ _. Turn plan acts t s d bank decl x y) [
      | inl here ↦
          subst (λ b. Turn plan acts t s d b decl x y) here
          (own_turn plan acts t s d a decl x y (ap (slice_get plan.banks) here ∙ known)
          (ap (slice_get s.banks) here ∙ there) (ap (slice_get d.state.banks) here ∙ after))
      | inr elsewhere ↦
          rests
          (same_Some y x (sym after ∙ ap (λ bs. slice_get bs bank) a.after_is
          ∙ get-set_other s.banks a.bank bank a.made.state (λ e. elsewhere (sym e)) ∙ there))
          (ap (is_of bank) a.note_is ∙ other_note bank a.bank a.decl a.events a.made.note elsewhere)
    ]

pub turn_of : (plan : Plan) (acts : ℕ → List Act) (t : Step) (s : BoardState) (d : Stepped) (bank : ℕ)
    (decl : BankDecl) (x y : BankState) → step plan acts t s ≡ Some d → slice_get plan.banks bank ≡ Some decl
    → slice_get s.banks bank ≡ Some x → slice_get d.state.banks bank ≡ Some y → Turn plan acts t s d bank decl x y
turn_of plan acts t s d bank decl x y is known there after =
    touched_turn plan acts t s d bank decl x y (step_does plan acts t s d is).touches known there after

-- ---- The banks stay as many ----

as_many : (plan : Plan) (comes : ℕ → BankTry → Type 0) (before after : List BankState) (n : StepNote) (d : Stepped)
    → Touches plan comes before after n d.published → length after ≡ length before
as_many plan comes before after n d (apart off same nothing) = ap length same
as_many plan comes before after n d (at a) = ap length a.after_is ∙ length-set before a.bank a.made.state

pub same_count : (plan : Plan) (acts : ℕ → List Act) (t : Step) (s : BoardState) (d : Stepped)
    → step plan acts t s ≡ Some d → length d.state.banks ≡ length s.banks
same_count plan acts t s d is =
    as_many plan (Comes plan acts t s) s.banks d.state.banks d.note d (step_does plan acts t s d is).touches

-- a bank is there after a step exactly where it was there before
pub there_after : (plan : Plan) (acts : ℕ → List Act) (t : Step) (s : BoardState) (d : Stepped) (bank : ℕ)
    (x : BankState) → step plan acts t s ≡ Some d → slice_get s.banks bank ≡ Some x
    → (y : BankState) × (slice_get d.state.banks bank ≡ Some y)
there_after plan acts t s d bank x is there =
    get_there d.state.banks bank
    (omega (arith, slice_get_within s.banks bank x there, same_count plan acts t s d is))

pub there_before : (plan : Plan) (acts : ℕ → List Act) (t : Step) (s : BoardState) (d : Stepped) (bank : ℕ)
    (y : BankState) → step plan acts t s ≡ Some d → slice_get d.state.banks bank ≡ Some y
    → (x : BankState) × (slice_get s.banks bank ≡ Some x)
there_before plan acts t s d bank y is there =
    get_there s.banks bank
    (omega (arith, slice_get_within d.state.banks bank y there, same_count plan acts t s d is))
