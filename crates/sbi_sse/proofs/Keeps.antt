-- What each change of the firmware keeps.
use Rattle.std.proofs.Common.{◌≡◌, ℕ, zero, suc, ◌+◌, ◌<◌, ◌≤◌, Bool, true, false, List, [], ◌∷◌, length, get_or, set, refl, ap, sym, ◌∙◌, arith, inl, inr, subst}
use Rattle.std.specs.Prelude.{filter, if◌then◌else◌, Some, option_map, unwrap_or, ◌%◌, ◌==◌}
use Rattle.std.proofs.lemmas.Bool.{cases_Bool, cases_lt}
use Rattle.std.proofs.lemmas.List.{length-set, get_or-set_same, get_or-set_other, get_or_past}
use Rattle.std.proofs.lemmas.Bool.Decides.{eqb_tells}
use Rattle.sse_base.specs.declared.arrows.State.{State}
use Rattle.sse_base.specs.declared.arrows.State.TheVariants.{Unused, Registered, Enabled, Running}
use Rattle.sse_base.specs.declared.arrows.Move.{Move}
use Rattle.sse_base.specs.declared.arrows.Move.TheVariants.{Register, Unregister, Deliver, Complete, CompleteOnce}
use Rattle.sse_base.specs.declared.codes.SbiCode.TheVariants.{InvalidParam}
use Rattle.sse_base.specs.Arrows.{arrow}
use Rattle.sse_base.specs.declared.ids.Instance.{Instance}
use Rattle.sse_base.specs.declared.events.Event.{Event}
use Rattle.sse_base.specs.Ids.{same_instance, place, may_run_on}
use Rattle.sse_base.specs.Events.{Events, event, change, mark, fresh_event, is_running, is_enabled, IsOnBoard, in_state, moved, gone, completion_of, set_running, set_completed}
use Rattle.sse_base.specs.Contexts.{Context, Triple, Frame, Stack, Under, bit, newest, deliver, complete, below, with_below, on_top, changed_below, changed_own}
use Rattle.sse_base.specs.Calls.{refused, take_next, with_handler, register, unregister, with_attributes, with_interrupted, with_interrupted_words, with_interrupted_triple}
use Rattle.hart_ctx.specs.declared.regs.Regs.{Regs}
use Rattle.hart_ctx.specs.Registers.{with_regs, triple_in}
use Rattle.sbi_sse.specs.Kept.{times, ats, running, IsKept}
use Rattle.sse_base.proofs.Instances.{same_self, same_is}
use Rattle.sbi_sse.proofs.Counting.{same_place, exchange, part_of_running, ats_length, placed_stands, no_longer, passing}

-- One event of the three lists.

pub other_event : (x at : Instance) (e : Event) (t : Events) → IsOnBoard at t → same_instance at x ≡ false →
    event x (change at e t) ≡ event x t
other_event x at e t l s =
    get_or-set_other t.each (place at t.instances) (place x t.instances) e (fresh_event false 0)
    (λ p. let q : same_instance at x ≡ true = same_place x at t.instances p l in cc)

pub own_event : (at : Instance) (e : Event) (t : Events) → length t.each ≡ length t.instances → IsOnBoard at t
    → event at (change at e t) ≡ e
own_event at e t n l = get_or-set_same t.each (place at t.instances) e (fresh_event false 0) (omega arith)

-- what runs has a place
pub runs_on_board : (x : Instance) (t : Events) → length t.each ≡ length t.instances → is_running (event x t).state
    ≡ true → IsOnBoard x t
runs_on_board x t n r =
    elim (cases_lt (place x t.instances) (length t.instances)) [
      | inl l ↦ l
      | inr l ↦
          let p : event x t ≡ fresh_event false 0 =
          get_or_past t.each (place x t.instances) (fresh_event false 0) (omega arith)
          in let q : is_running (event x t).state ≡ false = ap (λ (e : Event). is_running e.state) p
          in cc
    ]

-- a change that leaves whether an event runs
same_runs : (es : List Event) (i j : ℕ) (e d : Event) → is_running e.state ≡ is_running (get_or es i d).state →
    is_running (get_or (set es i e) j d).state ≡ is_running (get_or es j d).state
same_runs [] i j e d p = refl
same_runs (y ∷ es) zero zero e d p = p
same_runs (y ∷ es) zero (suc j) e d p = refl
same_runs (y ∷ es) (suc i) zero e d p = refl
same_runs (y ∷ es) (suc i) (suc j) e d p = same_runs es i j e d p

pub change_keeps : (at : Instance) (e : Event) (t : Events) (ms : List Bool) (ss : List Stack) → IsKept t ms ss →
    is_running e.state ≡ is_running (event at t).state → IsKept (change at e t) ms ss
change_keeps at e t ms ss k p =
    record {
      board = k.board;
      each = length-set t.each (place at t.instances) e ∙ k.each;
      masked = k.masked;
      harts = k.harts;
      framed = λ x. k.framed x
          ∙ ap bit (sym (same_runs t.each (place at t.instances) (place x t.instances) e (fresh_event false 0) p));
      own = k.own;
    }

pub mark_keeps : (at : Instance) (b : Bool) (t : Events) (ms : List Bool) (ss : List Stack) → IsKept t ms ss
    → IsKept (mark at b t) ms ss
mark_keeps at b t ms ss k =
    record { board = k.board; each = k.each; masked = k.masked; harts = k.harts; framed = k.framed; own = k.own }

-- The frames of one hart.

abbrev AreOwn : List Stack → Type 0
AreOwn ss = (h : ℕ) (d : Stack) (x : Instance) → h < length ss → 0 < times x (ats (get_or ss h d).frames)
    → may_run_on h x ≡ true

own_after : (ss : List Stack) (h : ℕ) (s : Stack) → AreOwn ss → h < length ss →
    ((x : Instance) → 0 < times x (ats s.frames) → may_run_on h x ≡ true) → AreOwn (set ss h s)
own_after ss h s own l new k d x m p =
    elim (eqb_tells k h) [
      | inl e ↦
          let g : get_or (set ss h s) h d ≡ s = get_or-set_same ss h s d l
          in let q : 0 < times x (ats (get_or (set ss h s) h d).frames) =
          subst (λ (j : ℕ). 0 < times x (ats (get_or (set ss h s) j d).frames)) e.1 p
          in let r : 0 < times x (ats s.frames) = subst (λ (z : Stack). 0 < times x (ats z.frames)) g q
          in ap (λ (j : ℕ). may_run_on j x) e.1 ∙ new x r
      | inr e ↦
          let g : get_or (set ss h s) k d ≡ get_or ss k d = get_or-set_other ss h k s d e.1
          in own k d x (omega (arith, length-set ss h s)) (subst (λ (z : Stack). 0 < times x (ats z.frames)) g p)
    ]

pub frames_keep : (t : Events) (ms : List Bool) (ss : List Stack) (h : ℕ) (d s : Stack) → IsKept t ms ss
    → h < length ss →
    ats s.frames ≡ ats (get_or ss h d).frames → IsKept t ms (set ss h s)
frames_keep t ms ss h d s k l e =
    record {
      board = k.board;
      each = k.each;
      masked = k.masked;
      harts = length-set ss h s ∙ k.harts;
      framed = λ x. (let p : times x (ats s.frames) ≡ times x (ats (get_or ss h d).frames) = ap (times x) e
          in let q : times x (running (set ss h s)) ≡ times x (running ss) = omega (arith, exchange x ss h d s l)
          in q ∙ k.framed x);
      own = own_after ss h s k.own l (λ x p. k.own h d x l (subst (λ (xs : List Instance). 0 < times x xs) e p));
    }

-- a delivery
enabled_runs : (s : State) → is_enabled s ≡ true → is_running (unwrap_or (arrow s Deliver) s) ≡ true
enabled_runs Unused e = cc
enabled_runs Registered e = cc
enabled_runs Enabled e = refl
enabled_runs Running e = refl

enabled_rests : (s : State) → is_enabled s ≡ true → is_running s ≡ false
enabled_rests Unused e = refl
enabled_rests Registered e = refl
enabled_rests Enabled e = refl
enabled_rests Running e = cc

delivered_runs : (t : Events) (ms : List Bool) (ss : List Stack) (h : ℕ) (d s : Stack) (at x : Instance)
    → IsKept t ms ss → h < length ss →
    IsOnBoard at t → is_enabled (event at t).state ≡ true → ats s.frames ≡ at ∷ ats (get_or ss h d).frames →
    times x (running (set ss h s)) ≡ bit (is_running (event x (set_running at t)).state)
delivered_runs t ms ss h d s at x k l on en e =
    let p : times x (ats s.frames) ≡ bit (same_instance at x) + times x (ats (get_or ss h d).frames) = ap (times x) e
    in let q : times x (running (set ss h s)) ≡ bit (is_running (event x t).state) + bit (same_instance at x) =
    omega (arith, exchange x ss h d s l, k.framed x)
    in elim (cases_Bool (same_instance at x)) [
      | inl y ↦
          let z : at ≡ x = same_is at x y
          in let f : event at (set_running at t) ≡ gone Deliver (event at t) =
          own_event at (gone Deliver (event at t)) t k.each on
          in let g : is_running (event x (set_running at t)).state ≡ true =
          ap (λ (w : Instance). is_running (event w (set_running at t)).state) (sym z)
          ∙ ap (λ (v : Event). is_running v.state) f ∙ enabled_runs (event at t).state en
          in let i : is_running (event x t).state ≡ false =
          ap (λ (w : Instance). is_running (event w t).state) (sym z) ∙ enabled_rests (event at t).state en
          in q ∙ rw (g, i, y) refl
      | inr y ↦
          let f : event x (set_running at t) ≡ event x t = other_event x at (gone Deliver (event at t)) t on y
          in q ∙ rw (f, y) (omega arith)
    ]

pub delivery_keeps : (t : Events) (ms : List Bool) (ss : List Stack) (h : ℕ) (d s : Stack) (at : Instance)
    → IsKept t ms ss → h < length ss →
    IsOnBoard at t → may_run_on h at ≡ true → is_enabled (event at t).state ≡ true → ats s.frames ≡ at
    ∷ ats (get_or ss h d).frames →
    IsKept (set_running at t) ms (set ss h s)
delivery_keeps t ms ss h d s at k l on may en e =
    record {
      board = k.board;
      each = length-set t.each (place at t.instances) (gone Deliver (event at t)) ∙ k.each;
      masked = k.masked;
      harts = length-set ss h s ∙ k.harts;
      framed = λ x. delivered_runs t ms ss h d s at x k l on en e;
      own = own_after ss h s k.own l (λ x p.
          elim (cases_Bool (same_instance at x)) [
            | inl y ↦ ap (may_run_on h) (sym (same_is at x y)) ∙ may
            | inr y ↦
                let q : bit (same_instance at x) ≡ 0 = rw y refl
                in let r : times x (ats s.frames) ≡ bit (same_instance at x) + times x (ats (get_or ss h d).frames) =
                ap (times x) e
                in k.own h d x l (omega arith)
          ]);
    }

-- a completion
pub newest_runs : (t : Events) (ms : List Bool) (ss : List Stack) (h : ℕ) (d : Stack) (at : Instance)
    (xs : List Instance) → IsKept t ms ss → h < length ss →
    ats (get_or ss h d).frames ≡ at ∷ xs → is_running (event at t).state ≡ true
newest_runs t ms ss h d at xs k l e =
    let p : times at (ats (get_or ss h d).frames) ≡ bit (same_instance at at) + times at xs = ap (times at) e
    in let q : bit (same_instance at at) ≡ 1 = rw (same_self at) refl
    in elim (cases_Bool (is_running (event at t).state)) [
      | inl y ↦ y
      | inr y ↦
          let r : bit (is_running (event at t).state) ≡ 0 = rw y refl
          in absurd (omega (arith, k.framed at, part_of_running at ss h d l))
    ]

completed_rests : (b : Bool) (s : State) → is_running s ≡ true →
    is_running (unwrap_or (arrow s (if b then CompleteOnce else Complete)) s) ≡ false
completed_rests b Unused e = cc
completed_rests b Registered e = cc
completed_rests b Enabled e = cc
completed_rests true Running e = refl
completed_rests false Running e = refl

completed_runs : (t : Events) (ms : List Bool) (ss : List Stack) (h : ℕ) (d s : Stack) (at x : Instance)
    → IsKept t ms ss → h < length ss →
    ats (get_or ss h d).frames ≡ at ∷ ats s.frames →
    times x (running (set ss h s)) ≡ bit (is_running (event x (set_completed at t)).state)
completed_runs t ms ss h d s at x k l e =
    let p : times x (ats (get_or ss h d).frames) ≡ bit (same_instance at x) + times x (ats s.frames) = ap (times x) e
    in let q : times x (running (set ss h s)) + bit (same_instance at x) ≡ bit (is_running (event x t).state) =
    omega (arith, exchange x ss h d s l, k.framed x)
    in let run : is_running (event at t).state ≡ true = newest_runs t ms ss h d at (ats s.frames) k l e
    in let on : IsOnBoard at t = runs_on_board at t k.each run
    in let new : Event = gone (completion_of (event at t)) (event at t)
    in elim (cases_Bool (same_instance at x)) [
      | inl y ↦
          let z : at ≡ x = same_is at x y
          in let f : event at (set_completed at t) ≡ new = own_event at new t k.each on
          in let g : is_running (event x (set_completed at t)).state ≡ false =
          ap (λ (w : Instance). is_running (event w (set_completed at t)).state) (sym z)
          ∙ ap (λ (v : Event). is_running v.state) f ∙ completed_rests (event at t).oneshot (event at t).state run
          in let i : is_running (event x t).state ≡ true = ap (λ (w : Instance). is_running (event w t).state) (sym z)
          ∙ run
          in let j : bit (is_running (event x t).state) ≡ 1 = rw i refl
          in let m : bit (same_instance at x) ≡ 1 = rw y refl
          in let n : bit (is_running (event x (set_completed at t)).state) ≡ 0 = rw g refl
          in omega arith
      | inr y ↦
          let f : event x (set_completed at t) ≡ event x t = other_event x at new t on y
          in let g : bit (is_running (event x (set_completed at t)).state) ≡ bit (is_running (event x t).state) =
          ap (λ (v : Event). bit (is_running v.state)) f
          in let m : bit (same_instance at x) ≡ 0 = rw y refl
          in omega arith
    ]

pub completion_keeps : (t : Events) (ms : List Bool) (ss : List Stack) (h : ℕ) (d s : Stack) (at : Instance)
    → IsKept t ms ss → h < length ss →
    ats (get_or ss h d).frames ≡ at ∷ ats s.frames → IsKept (set_completed at t) ms (set ss h s)
completion_keeps t ms ss h d s at k l e =
    record {
      board = k.board;
      each = length-set t.each (place at t.instances) (gone (completion_of (event at t)) (event at t)) ∙ k.each;
      masked = k.masked;
      harts = length-set ss h s ∙ k.harts;
      framed = λ x. completed_runs t ms ss h d s at x k l e;
      own = own_after ss h s k.own l (λ x p.
          let r : times x (ats (get_or ss h d).frames) ≡ bit (same_instance at x) + times x (ats s.frames) =
          ap (times x) e
          in k.own h d x l (omega arith));
    }

-- At most 8 handlers run on a hart, since at most 8 instances may run there.
no_more : (t : Events) (ms : List Bool) (ss : List Stack) (h : ℕ) (d : Stack) (at z : Instance) → IsKept t ms ss
    → h < length ss →
    IsOnBoard at t → may_run_on h at ≡ true → is_enabled (event at t).state ≡ true →
    times z (at ∷ ats (get_or ss h d).frames) ≤ times z (filter (may_run_on h) t.instances)
no_more t ms ss h d at z k l on may en =
    let p : times z (ats (get_or ss h d).frames) ≤ bit (is_running (event z t).state) =
    omega (arith, part_of_running z ss h d l, k.framed z)
    in elim (cases_Bool (same_instance at z)) [
      | inl y ↦
          let e : at ≡ z = same_is at z y
          in let i : is_running (event z t).state ≡ false =
          ap (λ (w : Instance). is_running (event w t).state) (sym e) ∙ enabled_rests (event at t).state en
          in let j : bit (is_running (event z t).state) ≡ 0 = rw i refl
          in let m : bit (same_instance at z) ≡ 1 = rw y refl
          in let o : place z t.instances < length t.instances =
          subst (λ (w : Instance). place w t.instances < length t.instances) e on
          in let q : may_run_on h z ≡ true = ap (may_run_on h) (sym e) ∙ may
          in omega (arith, placed_stands z t.instances o, passing h z t.instances q)
      | inr y ↦
          let m : bit (same_instance at z) ≡ 0 = rw y refl
          in elim (cases_Bool (is_running (event z t).state)) [
            | inl r ↦
                let j : bit (is_running (event z t).state) ≡ 1 = rw r refl
                in elim (cases_lt 0 (times z (ats (get_or ss h d).frames))) [
                  | inl some ↦ omega (
                    arith,
                    placed_stands z t.instances (runs_on_board z t k.each r),
                    passing h z t.instances (k.own h d z l some),
                  )
                  | inr none ↦ omega arith
                ]
            | inr r ↦
                let j : bit (is_running (event z t).state) ≡ 0 = rw r refl
                in omega arith
          ]
    ]

pub room_left : (t : Events) (ms : List Bool) (ss : List Stack) (h : ℕ) (d : Stack) (at : Instance) → IsKept t ms ss
    → h < length ss →
    IsOnBoard at t → may_run_on h at ≡ true → is_enabled (event at t).state ≡ true → length (get_or ss h d).frames < 8
room_left t ms ss h d at k l on may en =
    let fs : List Instance = ats (get_or ss h d).frames
    in let n : length (at ∷ fs) ≤ length (filter (may_run_on h) t.instances) =
    no_longer (at ∷ fs) (filter (may_run_on h) t.instances) (λ z. no_more t ms ss h d at z k l on may en)
    in omega (arith, k.board.few h, ats_length (get_or ss h d).frames)

-- The calls on events alone.

-- What leaves a hart's handlers, whatever it does to what they keep.

below_ats : (t base : Triple) (fs : List Frame) → ats (with_below t fs base).frames ≡ ats fs
below_ats t base [] = refl
below_ats t base (f ∷ fs) = refl

pub regs_ats : (r : Regs) (s : Stack) → ats (with_regs r s).frames ≡ ats s.frames
regs_ats r s = below_ats (triple_in r) s.base s.frames

if_ats : (b : Bool) (u v : Under) (xs : List Instance) → ats u.frames ≡ xs → ats v.frames ≡ xs
    → ats (if b then u else v).frames ≡ xs
if_ats true u v xs p q = p
if_ats false u v xs p q = q

changed_below_ats : (at : Instance) (g : Triple → Triple) (fs : List Frame) (base : Triple)
    → ats (changed_below at g fs base).frames ≡ ats fs
changed_below_ats at g [] base = refl
changed_below_ats at g (f ∷ fs) base =
    if_ats (same_instance f.at at) (on_top f (with_below (g (below fs base)) fs base))
    (on_top f (changed_below at g fs base)) (ats (f ∷ fs))
    (ap (λ (xs : List Instance). f.at ∷ xs) (below_ats (g (below fs base)) base fs))
    (ap (λ (xs : List Instance). f.at ∷ xs) (changed_below_ats at g fs base))

if_frames_ats : (b : Bool) (fs gs : List Frame) (xs : List Instance) → ats fs ≡ xs → ats gs ≡ xs
    → ats (if b then fs else gs) ≡ xs
if_frames_ats true fs gs xs p q = p
if_frames_ats false fs gs xs p q = q

changed_own_ats : (at : Instance) (g : Context → Context) (fs : List Frame) → ats (changed_own at g fs) ≡ ats fs
changed_own_ats at g [] = refl
changed_own_ats at g (f ∷ fs) =
    if_frames_ats (same_instance f.at at) (record {
      at = f.at;
      saved = g f.saved;
    } ∷ fs) (f ∷ changed_own at g fs) (ats (f ∷ fs)) refl
    (ap (λ (xs : List Instance). f.at ∷ xs) (changed_own_ats at g fs))

pub written_ats : (base : ℕ) (words : List ℕ) (at : Instance) (s : Stack)
    → ats (with_interrupted base words at s).frames ≡ ats s.frames
written_ats base words at s =
    changed_own_ats at (with_interrupted_words base words) (changed_below at (with_interrupted_triple base words)
    s.frames s.base).frames
    ∙ changed_below_ats at (with_interrupted_triple base words) s.frames s.base

-- the newest handler comes first, and a completion takes it away
newest_of : (live : Context) (fs : List Frame) (base : Triple) (at : Instance) → newest fs ≡ Some at →
    ats fs ≡ at ∷ ats (complete (record { live = live; frames = fs; base = base })).frames
newest_of live [] base at e = cc
newest_of live (f ∷ fs) base at e = let p : f.at ≡ at = cc in ap (λ (x : Instance). x ∷ ats fs) p

pub newest_first : (s : Stack) (at : Instance) → newest s.frames ≡ Some at → ats s.frames ≡ at ∷ ats (complete s).frames
newest_first s at e = newest_of s.live s.frames s.base at e

-- The same with a hart's stack as the code has it.

pub newest_stands : (t : Events) (ms : List Bool) (ss : List Stack) (h : ℕ) (s : Stack) (at : Instance)
    → IsKept t ms ss → h < length ss →
    s ≡ get_or ss h s → newest s.frames ≡ Some at → is_running (event at t).state ≡ true
newest_stands t ms ss h s at k l e n =
    newest_runs t ms ss h s at (ats (complete s).frames) k l (ap (λ (z : Stack). ats z.frames) (sym e)
    ∙ newest_first s at n)

pub completing_keeps : (t u : Events) (ms : List Bool) (ss : List Stack) (h : ℕ) (s new : Stack) (at : Instance)
    → IsKept t ms ss → h < length ss →
    s ≡ get_or ss h s → newest s.frames ≡ Some at → new ≡ complete s → u ≡ set_completed at t
    → IsKept u ms (set ss h new)
completing_keeps t u ms ss h s new at k l e n p q =
    let r : ats (get_or ss h s).frames ≡ at ∷ ats new.frames =
    ap (λ (z : Stack). ats z.frames) (sym e) ∙ newest_first s at n ∙ ap (λ (z : Stack). at ∷ ats z.frames) (sym p)
    in subst (λ (v : Events). IsKept v ms (set ss h new)) (sym q) (completion_keeps t ms ss h s new at k l r)

pub room_for : (t : Events) (ms : List Bool) (ss : List Stack) (h : ℕ) (s : Stack) (at : Instance) → IsKept t ms ss
    → h < length ss →
    s ≡ get_or ss h s → IsOnBoard at t → may_run_on h at ≡ true → is_enabled (event at t).state ≡ true
    → length s.frames < 8
room_for t ms ss h s at k l e on may en =
    subst (λ (z : Stack). length z.frames < 8) (sym e) (room_left t ms ss h s at k l on may en)

pub delivering_keeps : (t u : Events) (ms : List Bool) (ss : List Stack) (h entry arg : ℕ) (s new : Stack)
    (at : Instance) → IsKept t ms ss → h < length ss →
    s ≡ get_or ss h s → IsOnBoard at t → may_run_on h at ≡ true → is_enabled (event at t).state ≡ true →
    new ≡ deliver at entry arg h s → u ≡ set_running at t → IsKept u ms (set ss h new)
delivering_keeps t u ms ss h entry arg s new at k l e on may en p q =
    let r : ats new.frames ≡ at ∷ ats (get_or ss h s).frames = ap (λ (z : Stack). ats z.frames) p
    ∙ ap (λ (z : Stack). at ∷ ats z.frames) e
    in subst (λ (v : Events). IsKept v ms (set ss h new)) (sym q) (delivery_keeps t ms ss h s new at k l on may en r)

pub writing_keeps : (t u : Events) (ms : List Bool) (ss : List Stack) (h base : ℕ) (words : List ℕ) (s new : Stack)
    (at : Instance) → IsKept t ms ss → h < length ss →
    s ≡ get_or ss h s → new ≡ with_interrupted base words at s
    → u ≡ change at (with_attributes base words (event at t)) t → IsKept u ms (set ss h new)
writing_keeps t u ms ss h base words s new at k l e p q =
    let r : ats new.frames ≡ ats (get_or ss h s).frames =
    ap (λ (z : Stack). ats z.frames) p ∙ written_ats base words at s ∙ ap (λ (z : Stack). ats z.frames) e
    in subst (λ (v : Events). IsKept v ms (set ss h new)) (sym q)
    (frames_keep (change at (with_attributes base words (event at t)) t) ms ss h s new
    (change_keeps at (with_attributes base words (event at t)) t ms ss k refl) l r)

-- a call that leaves whether an event runs
abbrev handler_after : ℕ → ℕ → Move → Instance → Events → State → Events
handler_after pc arg mv at t state =
    (take_next (option_map (with_handler pc arg) (option_map (in_state (event at t)) (arrow state mv))) at t).next

pub register_keeps : (pc arg : ℕ) (at : Instance) (t : Events) (ms : List Bool) (ss : List Stack) → IsKept t ms ss
    → IsKept (register pc arg at t).next ms ss
register_keeps pc arg at t ms ss k =
    elim (pc % 2 == 1) as (λ odd. IsKept (if odd then refused InvalidParam t
    else take_next (option_map (with_handler pc arg) (moved Register (event at t))) at t).next ms ss) [
      | true ↦ k
      | false ↦ elim ((event at t).state) as (λ x. (event at t).state ≡ x
          → IsKept (handler_after pc arg Register at t x) ms ss) [
            | Unused ↦ λ e. change_keeps at (with_handler pc arg (in_state (event at t) Registered)) t ms ss k
                (sym (ap is_running e))
            | Registered ↦ λ e. k
            | Enabled ↦ λ e. k
            | Running ↦ λ e. k
          ] refl
    ]

pub unregister_keeps : (at : Instance) (t : Events) (ms : List Bool) (ss : List Stack) → IsKept t ms ss
    → IsKept (unregister at t).next ms ss
unregister_keeps at t ms ss k =
    elim ((event at t).state) as (λ x. (event at t).state ≡ x → IsKept (handler_after 0 0 Unregister at t x) ms ss) [
      | Unused ↦ λ e. k
      | Registered ↦ λ e. change_keeps at (with_handler 0 0 (in_state (event at t) Unused)) t ms ss k
          (sym (ap is_running e))
      | Enabled ↦ λ e. k
      | Running ↦ λ e. k
    ] refl
