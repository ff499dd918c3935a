-- What a call can do: a property of its answer holds if it holds of each kind of answer.
use Rattle.std.proofs.Common.{◌≡◌, ℕ, ◌+◌, ◌%◌, ◌==◌, ◌≤◌, Bool, true, false, cond, List, set, Option, Some, None, Result, Ok, Err, nat_lt, refl, sym, subst}
use Rattle.std.specs.Prelude.{◌&&◌, ◌||◌, not}
use Rattle.std.specs.Option.{option_map}
use Rattle.std.proofs.lemmas.Bool.{cond_both, ltb-true, ltb-false}
use Rattle.sse_base.specs.declared.arrows.State.{State}
use Rattle.sse_base.specs.declared.arrows.Move.{Move}
use Rattle.sse_base.specs.declared.arrows.Move.TheVariants as moves
use Rattle.sse_base.specs.declared.attributes.AttrRange.{AttrRange}
use Rattle.sse_base.specs.declared.attributes.RangeFault.{RangeFault}
use Rattle.sse_base.specs.declared.attributes.RangeFault.TheVariants as faults
use Rattle.sse_base.specs.declared.codes.SbiCode.{SbiCode}
use Rattle.sse_base.specs.declared.codes.SbiCode.TheVariants.{Success, Failed, NotSupported, InvalidParam, Denied, InvalidAddress, AlreadyStarted, AlreadyStopped, InvalidState, BadRange}
use Rattle.sse_base.specs.declared.events.Event.{Event}
use Rattle.sse_base.specs.declared.functions.Function.{Function}
use Rattle.sse_base.specs.declared.functions.Function.TheVariants as functions
use Rattle.sse_base.specs.declared.ids.Instance.{Instance}
use Rattle.sse_base.specs.Ids.{instance_of, is_local}
use Rattle.sse_base.specs.Arrows.{arrow}
use Rattle.sse_base.specs.Codes.{is_success}
use Rattle.sse_base.specs.Functions.{function_of}
use Rattle.sse_base.specs.Events.{Events, event, change, in_state, moved, signal, is_on_board, IsOnBoard}
use Rattle.sse_base.specs.Contexts.{Stack, has_frame}
use Rattle.sse_base.specs.Words.{are_words, words_at}
use Rattle.sse_base.specs.Machine.{Reach}
use Rattle.sse_base.specs.Choice.{is_masked}
use Rattle.sse_base.specs.Calls.{Answer, Called, Masking, refuse, accept, refused, accepted, padded, with_events, with_masks, with_memory, of_events, of_masks, found, on_instance, is_reserved, argument_at, in_memory, find_range, read_range, check_write, write_checked, write_range, written_to, take_next, with_handler, complete_newest, function, known, extension, call}
use Rattle.board_plan.specs.Sound.{is_move_of, fits_mark}
use Rattle.board_plan.specs.Amend.{is_done}

-- the instance that a call names, which the board has
pub record IsNamed (h : ℕ) (args : List ℕ) (t : Events) (at : Instance) : Type 0 where
  pub is : at ≡ instance_of (argument_at args 0) h
  pub on_board : IsOnBoard at t

-- a write that is accepted: its range, its words in memory, and its checks
pub record IsWrite (args : List ℕ) (r : Reach) (base : ℕ) (words : List ℕ) (at : Instance) : Type 0 where
  pub base_is : base ≡ argument_at args 1
  pub words_are : words ≡ words_at r.memory (argument_at args 3) (argument_at args 2)
  pub in_memory : are_words (argument_at args 3) (argument_at args 2) ≡ true
  pub within : argument_at args 1 + argument_at args 2 ≤ 10
  pub checked : check_write base words at (has_frame at r.stack.frames) r.events ≡ Success

-- the moves of events of which no handler runs, before or after
abbrev pub is_at_rest : Move → Bool
is_at_rest moves.Deliver = false
is_at_rest moves.Complete = false
is_at_rest moves.CompleteOnce = false
is_at_rest mv = true

-- a move that a call makes, from the state in which the event is to another
pub record IsMove (f : Option Function) (t : Events) (at : Instance) (mv : Move) (state : State) : Type 0 where
  pub of_call : is_move_of f mv ≡ true
  pub no_completion : is_done f ≡ false
  pub either_mark : (b : Bool) → fits_mark b mv ≡ true
  pub at_rest : is_at_rest mv ≡ true
  pub goes : arrow (event at t).state mv ≡ Some state

-- an event in another state, with another handler or not
pub record IsMoved (old new : Event) (state : State) : Type 0 where
  pub state_is : new.state ≡ state
  pub priority : new.priority ≡ old.priority
  pub oneshot : new.oneshot ≡ old.oneshot
  pub preferred : new.preferred ≡ old.preferred

pub record CallCases (h eid : ℕ) (f : Option Function) (args : List ℕ) (r : Reach) (P : Answer → Type 0) : Type 0 where
  pub refuses : (code : SbiCode) → is_success code ≡ false → P (refuse code r)
  pub reads : (memory : List ℕ) → f ≡ Some functions.ReadAttrs → P (accept (with_memory memory r))
  pub writes : (at : Instance) (base : ℕ) (words : List ℕ) → (eid == extension) ≡ true → f ≡ Some functions.WriteAttrs
      → IsNamed h args r.events at → IsWrite args r base words at
      → P (record { code = Success; written = padded words; reach = written_to base words at r })
  pub makes_move : (at : Instance) (mv : Move) (state : State) (new : Event) → IsNamed h args r.events at
      → IsMove f r.events at mv state → IsMoved (event at r.events) new state
      → P (accept (with_events (change at new r.events) r))
  pub completes : (eid == extension) ≡ true → f ≡ Some functions.Complete → P (accept (complete_newest r))
  pub injects : (at : Instance) → f ≡ Some functions.Inject → IsNamed h args r.events at
      → P (accept (with_events (signal (instance_of (argument_at args 0) (argument_at args 1)) r.events) r))
  pub unmasks : f ≡ Some functions.HartUnmask → P (accept (with_masks (set r.masks h false) r))
  pub masks : f ≡ Some functions.HartMask → P (accept (with_masks (set r.masks h true) r))

-- ---- The instance, and the range ----

on_named : (P : Answer → Type 0) (h : ℕ) (args : List ℕ) (r : Reach) (g : Instance → Answer)
    → ((code : SbiCode) → is_success code ≡ false → P (refuse code r))
    → ((at : Instance) → IsNamed h args r.events at → P (g at))
    → P (on_instance (argument_at args 0) h r g)
on_named P h args r g refusal further =
    let id = argument_at args 0 in
    let at = instance_of id h in
    let there : Result Instance SbiCode = cond (is_on_board at r.events) (Ok at) (Err NotSupported) in
    cond_both (is_reserved id) (Err InvalidParam) there (λ (o : Result Instance SbiCode). P (found o r g))
    (λ e. refusal InvalidParam refl)
    (λ e. cond_both (is_on_board at r.events) (Ok at) (Err NotSupported)
    (λ (o : Result Instance SbiCode). P (found o r g))
    (λ on. further at (record { is = refl; on_board = ltb-true _ _ on }))
    (λ off. refusal NotSupported refl))

-- a range within the ten attributes, whose words stand in memory
record IsRange (base count lo : ℕ) (range : AttrRange) : Type 0 where
  range_is : range ≡ record { base = base; count = count }
  in_memory : are_words lo count ≡ true
  within : base + count ≤ 10

refuse_range : (P : Answer → Type 0) (r : Reach) (g : AttrRange → Answer) (lo hi : ℕ) (fault : RangeFault)
    → ((code : SbiCode) → is_success code ≡ false → P (refuse code r)) → P (found (in_memory lo hi (Err fault)) r g)
refuse_range P r g lo hi faults.Zero refusal = refusal InvalidParam refl
refuse_range P r g lo hi faults.Reserved refusal = refusal BadRange refl

or_false : (a b : Bool) → (a || b) ≡ false → b ≡ false
or_false true b e = cc
or_false false b e = e

not_false : (b : Bool) → not b ≡ false → b ≡ true
not_false true e = refl
not_false false e = cc

on_range : (P : Answer → Type 0) (base count lo hi : ℕ) (r : Reach) (g : AttrRange → Answer)
    → ((code : SbiCode) → is_success code ≡ false → P (refuse code r))
    → ((range : AttrRange) → IsRange base count lo range → P (g range))
    → P (found (find_range base count lo hi) r g)
on_range P base count lo hi r g refusal further =
    let range : AttrRange = record { base = base; count = count } in
    let long : Result AttrRange RangeFault = cond (nat_lt 10 (base + count)) (Err faults.Reserved) (Ok range) in
    cond_both (count == 0) (Err faults.Zero) long
    (λ (o : Result AttrRange RangeFault). P (found (in_memory lo hi o) r g))
    (λ e. refusal InvalidParam refl)
    (λ e. cond_both (nat_lt 10 (base + count)) (Err faults.Reserved) (Ok range)
    (λ (o : Result AttrRange RangeFault). P (found (in_memory lo hi o) r g))
    (λ over. refusal BadRange refl)
    (λ fits.
    cond_both (not (hi == 0) || not (are_words lo count)) (Err InvalidAddress) (Ok range)
    (λ (o : Result AttrRange SbiCode). P (found o r g))
    (λ bad. refusal InvalidAddress refl)
    (λ good. further range (record {
      range_is = refl;
      in_memory = not_false (are_words lo count) (or_false (not (hi == 0)) (not (are_words lo count)) good);
      within = ltb-false 10 (base + count) fits;
    }))))

-- ---- Writes ----

write_if : (P : Answer → Type 0) (code : SbiCode) (base : ℕ) (words : List ℕ) (at : Instance) (r : Reach)
    → ((code : SbiCode) → is_success code ≡ false → P (refuse code r))
    → (code ≡ Success → P (record { code = Success; written = padded words; reach = written_to base words at r }))
    → P (write_checked code base words at r)
write_if P Success base words at r refusal further = further refl
write_if P Failed base words at r refusal further = refusal Failed refl
write_if P NotSupported base words at r refusal further = refusal NotSupported refl
write_if P InvalidParam base words at r refusal further = refusal InvalidParam refl
write_if P Denied base words at r refusal further = refusal Denied refl
write_if P InvalidAddress base words at r refusal further = refusal InvalidAddress refl
write_if P AlreadyStarted base words at r refusal further = refusal AlreadyStarted refl
write_if P AlreadyStopped base words at r refusal further = refusal AlreadyStopped refl
write_if P InvalidState base words at r refusal further = refusal InvalidState refl
write_if P BadRange base words at r refusal further = refusal BadRange refl

-- ---- Moves ----

move_if : (P : Answer → Type 0) (f : Event → Event) (at : Instance) (r : Reach) (o : Option State)
    → P (refuse InvalidState r)
    → ((state : State) → o ≡ Some state
    → P (accept (with_events (change at (f (in_state (event at r.events) state)) r.events) r)))
    → P (of_events (take_next (option_map f (option_map (in_state (event at r.events)) o)) at r.events) r)
move_if P f at r None refusal further = refusal
move_if P f at r (Some state) refusal further = further state refl

bare_if : (P : Answer → Type 0) (at : Instance) (r : Reach) (o : Option State) → P (refuse InvalidState r)
    → ((state : State) → o ≡ Some state
    → P (accept (with_events (change at (in_state (event at r.events) state) r.events) r)))
    → P (of_events (take_next (option_map (in_state (event at r.events)) o) at r.events) r)
bare_if P at r None refusal further = refusal
bare_if P at r (Some state) refusal further = further state refl

-- ---- Each function ----

module _ (P : Answer → Type 0) (h eid : ℕ) (args : List ℕ) (stacks : List Stack) (r : Reach) where
  abbrev Holds : Function → Type 0
  Holds f = CallCases h eid (Some f) args r P → (eid == extension) ≡ true → P (function h f args stacks r)

  reading : Holds functions.ReadAttrs
  reading c e =
      on_named P h args r _ c.refuses
      (λ at named. on_range P (argument_at args 1) (argument_at args 2) (argument_at args 3) (argument_at args 4) r
      (read_range (argument_at args 3) at (set stacks h r.stack) r) c.refuses (λ range fits. c.reads _ refl))

  writing : Holds functions.WriteAttrs
  writing c e =
      on_named P h args r _ c.refuses
      (λ at named. on_range P (argument_at args 1) (argument_at args 2) (argument_at args 3) (argument_at args 4) r
      (write_range (argument_at args 3) at r) c.refuses (λ range fits.
      subst (λ (x : AttrRange). P (write_range (argument_at args 3) at r x)) (sym fits.range_is)
      (let base = argument_at args 1 in
      let words = words_at r.memory (argument_at args 3) (argument_at args 2) in
      write_if P (check_write base words at (has_frame at r.stack.frames) r.events) base words at r c.refuses
      (λ good. c.writes at base words e refl named (record {
        base_is = refl;
        words_are = refl;
        in_memory = fits.in_memory;
        within = fits.within;
        checked = good;
      })))))

  registering : Holds functions.Register
  registering c e =
      on_named P h args r _ c.refuses
      (λ at named.
      let pc = argument_at args 1 in
      let arg = argument_at args 2 in
      let next : Called =
      take_next (option_map (with_handler pc arg) (moved moves.Register (event at r.events))) at r.events in
      cond_both (pc % 2 == 1) (refused InvalidParam r.events) next (λ (x : Called). P (of_events x r))
      (λ odd. c.refuses InvalidParam refl)
      (λ even. move_if P (with_handler pc arg) at r (arrow (event at r.events).state moves.Register)
      (c.refuses InvalidState refl) (λ state goes.
      c.makes_move at moves.Register state (with_handler pc arg (in_state (event at r.events) state)) named
      (record { of_call = refl; no_completion = refl; either_mark = λ b. refl; at_rest = refl; goes = goes })
      (record { state_is = refl; priority = refl; oneshot = refl; preferred = refl }))))

  unregistering : Holds functions.Unregister
  unregistering c e =
      on_named P h args r _ c.refuses
      (λ at named. move_if P (with_handler 0 0) at r (arrow (event at r.events).state moves.Unregister)
      (c.refuses InvalidState refl) (λ state goes.
      c.makes_move at moves.Unregister state (with_handler 0 0 (in_state (event at r.events) state)) named
      (record { of_call = refl; no_completion = refl; either_mark = λ b. refl; at_rest = refl; goes = goes })
      (record { state_is = refl; priority = refl; oneshot = refl; preferred = refl })))

  enabling : Holds functions.Enable
  enabling c e =
      on_named P h args r _ c.refuses
      (λ at named. bare_if P at r (arrow (event at r.events).state moves.Enable)
      (c.refuses InvalidState refl) (λ state goes.
      c.makes_move at moves.Enable state (in_state (event at r.events) state) named
      (record { of_call = refl; no_completion = refl; either_mark = λ b. refl; at_rest = refl; goes = goes })
      (record { state_is = refl; priority = refl; oneshot = refl; preferred = refl })))

  disabling : Holds functions.Disable
  disabling c e =
      on_named P h args r _ c.refuses
      (λ at named. bare_if P at r (arrow (event at r.events).state moves.Disable)
      (c.refuses InvalidState refl) (λ state goes.
      c.makes_move at moves.Disable state (in_state (event at r.events) state) named
      (record { of_call = refl; no_completion = refl; either_mark = λ b. refl; at_rest = refl; goes = goes })
      (record { state_is = refl; priority = refl; oneshot = refl; preferred = refl })))

  injecting : Holds functions.Inject
  injecting c e =
      on_named P h args r _ c.refuses
      (λ at named.
      let hart = argument_at args 1 in
      let bad : Called = refused InvalidParam r.events in
      let good : Called = accepted (signal (instance_of (argument_at args 0) hart) r.events) in
      let beyond : Bool = is_local at && not (nat_lt hart r.events.harts) in
      let later : Called = cond beyond bad good in
      cond_both (not (event at r.events).inject) bad later (λ (x : Called). P (of_events x r))
      (λ shut. c.refuses InvalidParam refl)
      (λ open_it. cond_both beyond bad good (λ (x : Called). P (of_events x r))
      (λ outside. c.refuses InvalidParam refl)
      (λ within. c.injects at refl named)))

  unmasking : Holds functions.HartUnmask
  unmasking c e =
      cond_both (is_masked h r.masks) (Success, set r.masks h false) (AlreadyStarted, r.masks)
      (λ (x : Masking). P (of_masks x r)) (λ masked. c.unmasks refl) (λ bare. c.refuses AlreadyStarted refl)

  masking : Holds functions.HartMask
  masking c e =
      cond_both (is_masked h r.masks) (AlreadyStopped, r.masks) (Success, set r.masks h true)
      (λ (x : Masking). P (of_masks x r)) (λ masked. c.refuses AlreadyStopped refl) (λ bare. c.masks refl)

  by_function : (o : Option Function) → CallCases h eid o args r P → (eid == extension) ≡ true
      → P (known h o args stacks r)
  by_function None c e = c.refuses NotSupported refl
  by_function (Some functions.ReadAttrs) c e = reading c e
  by_function (Some functions.WriteAttrs) c e = writing c e
  by_function (Some functions.Register) c e = registering c e
  by_function (Some functions.Unregister) c e = unregistering c e
  by_function (Some functions.Enable) c e = enabling c e
  by_function (Some functions.Disable) c e = disabling c e
  by_function (Some functions.Complete) c e = c.completes e refl
  by_function (Some functions.Inject) c e = injecting c e
  by_function (Some functions.HartUnmask) c e = unmasking c e
  by_function (Some functions.HartMask) c e = masking c e

pub call_cases : (P : Answer → Type 0) (h eid fid : ℕ) (args : List ℕ) (stacks : List Stack) (r : Reach)
    → CallCases h eid (function_of fid) args r P → P (call h eid fid args stacks r)
call_cases P h eid fid args stacks r c =
    cond_both (not (eid == extension)) (refuse NotSupported r) (known h (function_of fid) args stacks r) P
    (λ other. c.refuses NotSupported refl)
    (λ same. by_function P h eid args stacks r (function_of fid) c (not_false (eid == extension) same))
