-- The queues through the changes of the firmware.
use Rattle.std.proofs.Common.{◌≡◌, ℕ, zero, suc, ◌+◌, ◌≤◌, Bool, true, false, cond, List, length, set, refl, ap, sym, ◌∙◌, subst, arith, inl, inr}
use Rattle.std.specs.Prelude.{Some, None, option_map, ◌%◌, ◌==◌}
use Rattle.std.proofs.lemmas.Bool.{cases_Bool, cases_eq, or_parts, both_ways, false_from_ne_true}
use Rattle.std.proofs.lemmas.Bool.Decides.{nat_tests}
use Rattle.std.proofs.lemmas.List.{set-get_or}
use Rattle.sse_base.specs.declared.arrows.Move.{Move}
use Rattle.sse_base.specs.declared.arrows.Move.TheVariants.{Register, Unregister, Deliver}
use Rattle.sse_base.specs.declared.arrows.State.{State}
use Rattle.sse_base.specs.declared.arrows.State.TheVariants.{Unused, Registered, Enabled, Running}
use Rattle.sse_base.specs.declared.codes.SbiCode.TheVariants.{Success, Denied, InvalidState, InvalidParam}
use Rattle.sse_base.specs.declared.ids.Instance.{Instance}
use Rattle.sse_base.specs.declared.events.Event.{Event}
use Rattle.sse_base.specs.Arrows.{arrow}
use Rattle.sse_base.specs.Ids.{place, FitsHarts}
use Rattle.sse_base.specs.Events.{Events, event, is_pending, is_enabled, fresh_event, IsOnBoard, change, mark, signal, moved, gone, in_state, completion_of, set_running, set_completed}
use Rattle.sse_base.specs.Contexts.{bit}
use Rattle.sse_base.specs.Calls.{refused, take_next, with_handler, register, unregister, with_attributes, word_for, covers, some_attribute, some_word, is_shut, is_never_written, is_refused_value, check_write}
use Rattle.sse_queue.specs.Order.{without}
use Rattle.sse_target.specs.Lines.{Lines, Holds, HoldsBut}
use Rattle.sse_target.proofs.Tables.{put, IsKeptIn, same_preferred, but_one, still_holds}
use Rattle.sbi_sse.specs.Kept.{Serves}

-- each change as a new event and a new mark
change_put : (at : Instance) (e : Event) (t : Events) → put at e (is_pending at t) t ≡ change at e t
change_put at e t = ap (λ (bs : List Bool). record {
  harts = t.harts;
  instances = t.instances;
  each = set t.each (place at t.instances) e;
  marks = bs;
}) (set-get_or t.marks (place at t.instances) false)

mark_put : (at : Instance) (b : Bool) (t : Events) → put at (event at t) b t ≡ mark at b t
mark_put at b t =
    ap (λ (es : List Event). record {
      harts = t.harts;
      instances = t.instances;
      each = es;
      marks = set t.marks (place at t.instances) b;
    })
    (set-get_or t.each (place at t.instances) (fresh_event false 0))

unmarked : (at : Instance) (t : Events) → mark at (is_pending at t) t ≡ t
unmarked at t =
    ap (λ (bs : List Bool). record {
      harts = t.harts;
      instances = t.instances;
      each = t.each;
      marks = bs;
    }) (set-get_or t.marks (place at t.instances) false)

-- a signal of what is pending already
pub still_pending : (at : Instance) (t : Events) → is_pending at t ≡ true → signal at t ≡ t
still_pending at t e = ap (λ b. mark at b t) (sym e) ∙ unmarked at t

kept_in : (at : Instance) (l : Lines) (t : Events) → IsOnBoard at t → length t.each ≡ length t.instances → Serves l t
    → IsKeptIn at t
kept_in at l t on each s = record { on_board = on; each = each; marks = s.marks }

pub same_but : (at : Instance) (l : Lines) (t : Events) → Holds l t → HoldsBut at l t
same_but at l t held = record { others = λ h k y. held.each h k; rest = λ h k. ap (without at) (held.each h k) }

pub changed_but : (at : Instance) (e : Event) (l : Lines) (t : Events) → IsOnBoard at t
    → length t.each ≡ length t.instances → Serves l t →
    e.preferred ≡ (event at t).preferred → HoldsBut at l (change at e t)
changed_but at e l t on each s p =
    subst (HoldsBut at l) (change_put at e t) (but_one at e (is_pending at t) l t s.fits (kept_in at l t on each s)
    (same_preferred at e l.masks t p) s.holds)

pub marked_but : (at : Instance) (b : Bool) (l : Lines) (t : Events) → IsOnBoard at t
    → length t.each ≡ length t.instances → Serves l t →
    HoldsBut at l (mark at b t)
marked_but at b l t on each s =
    subst (HoldsBut at l) (mark_put at b t) (but_one at (event at t) b l t s.fits (kept_in at l t on each s)
    (same_preferred at (event at t) l.masks t refl) s.holds)

pub delivered_but : (at : Instance) (l : Lines) (t : Events) → IsOnBoard at t → length t.each ≡ length t.instances
    → Serves l t →
    HoldsBut at l (set_running at t)
delivered_but at l t on each s =
    but_one at (gone Deliver (event at t)) false l t s.fits (kept_in at l t on each s)
    (same_preferred at (gone Deliver (event at t)) l.masks t refl) s.holds

pub completed_but : (at : Instance) (l : Lines) (t : Events) → IsOnBoard at t → length t.each ≡ length t.instances
    → Serves l t →
    HoldsBut at l (set_completed at t)
completed_but at l t on each s = changed_but at (gone (completion_of (event at t)) (event at t)) l t on each s refl

-- a move, or none where the state has no such arrow
pub moved_but : (mv : Move) (at : Instance) (l : Lines) (t : Events) → IsOnBoard at t
    → length t.each ≡ length t.instances → Serves l t →
    HoldsBut at l (take_next (moved mv (event at t)) at t).next
moved_but mv at l t on each s =
    elim (arrow (event at t).state mv) as
    (λ o. HoldsBut at l (take_next (option_map (in_state (event at t)) o) at t).next) [
      | None ↦ same_but at l t s.holds
      | Some state ↦ changed_but at (in_state (event at t) state) l t on each s refl
    ]

-- a change of what isn't enabled, before and after
quiet : (at : Instance) (e : Event) (l : Lines) (t : Events) → IsOnBoard at t → length t.each ≡ length t.instances
    → Serves l t →
    is_enabled (event at t).state ≡ false → is_enabled e.state ≡ false → Serves l (change at e t)
quiet at e l t on each s x y =
    record {
      holds = subst (Holds l) (change_put at e t) (still_holds at e (is_pending at t) l t (kept_in at l t on each s) x
          y s.holds);
      fits = s.fits;
      marks = s.marks;
    }

abbrev after_handler : ℕ → ℕ → Move → Instance → Events → State → Events
after_handler pc arg mv at t state =
    (take_next (option_map (with_handler pc arg) (option_map (in_state (event at t)) (arrow state mv))) at t).next

pub register_serves : (pc arg : ℕ) (at : Instance) (l : Lines) (t : Events) → IsOnBoard at t
    → length t.each ≡ length t.instances → Serves l t →
    Serves l (register pc arg at t).next
register_serves pc arg at l t on each s =
    elim (pc % 2 ==
    1) as
    (λ odd. Serves l
    (cond odd (refused InvalidParam t) (take_next (option_map (with_handler pc arg) (moved Register (event at t)))
    at t)).next) [
      | true ↦ s
      | false ↦ elim ((event at t).state) as (λ x. (event at t).state ≡ x
          → Serves l (after_handler pc arg Register at t x)) [
            | Unused ↦ λ e. quiet at (with_handler pc arg (in_state (event at t) Registered)) l t on each s
                (ap is_enabled e) refl
            | Registered ↦ λ e. s
            | Enabled ↦ λ e. s
            | Running ↦ λ e. s
          ] refl
    ]

pub unregister_serves : (at : Instance) (l : Lines) (t : Events) → IsOnBoard at t → length t.each ≡ length t.instances
    → Serves l t →
    Serves l (unregister at t).next
unregister_serves at l t on each s =
    elim ((event at t).state) as (λ x. (event at t).state ≡ x → Serves l (after_handler 0 0 Unregister at t x)) [
      | Unused ↦ λ e. s
      | Registered ↦ λ e. quiet at (with_handler 0 0 (in_state (event at t) Unused)) l t on each s (ap is_enabled e)
          refl
      | Enabled ↦ λ e. s
      | Running ↦ λ e. s
    ] refl

-- a write that is accepted finds the instance not enabled, or leaves its event
none_covers : (test : ℕ → Bool) (base n attr : ℕ) → some_attribute test base n ≡ false → covers base n attr ≡ true
    → test attr ≡ false
none_covers test base zero attr p c = absurd (grind (arith, nat_tests, c))
none_covers test base (suc n) attr p c =
    let q = or_parts (test base) (some_attribute test (base + 1) n) p
    in elim (cases_eq attr base) [
      | inl e ↦ ap test e ∙ q.0
      | inr e ↦ none_covers test (base + 1) n attr q.1 (grind (arith, nat_tests, c, e))
    ]

shut_while_enabled : (state : State) (here : Bool) (attr : ℕ) → is_enabled state ≡ true → 1 ≤ attr → attr ≤ 3
    → is_shut state here attr ≡ true
unfolding is_shut
shut_while_enabled Unused here attr e p q = cc
shut_while_enabled Registered here attr e p q = cc
shut_while_enabled Enabled here attr e p q = grind (arith, nat_tests)
shut_while_enabled Running here attr e p q = cc

not_covered : (state : State) (here : Bool) (base n attr : ℕ) → some_attribute (is_shut state here) base n ≡ false
    → is_enabled state ≡ true →
    1 ≤ attr → attr ≤ 3 → covers base n attr ≡ false
not_covered state here base n attr p e l m =
    false_from_ne_true (covers base n attr)
    (λ c. both_ways (is_shut state here attr) (none_covers (is_shut state here) base n attr p c)
    (shut_while_enabled state here attr e l m))

kept_word : (attr base old : ℕ) (words : List ℕ) → covers base (length words) attr ≡ false
    → word_for attr base words old ≡ old
unfolding word_for
kept_word attr base old words c = rw c refl

bit_again : (b : Bool) → (bit b == 1) ≡ b
bit_again true = refl
bit_again false = refl

nothing_written : (base : ℕ) (words : List ℕ) (e : Event) (here : Bool)
    → some_attribute (is_shut e.state here) base (length words) ≡ false →
    is_enabled e.state ≡ true → with_attributes base words e ≡ e
nothing_written base words e here p y =
    let a = kept_word 1 base e.priority words (not_covered e.state here base (length words) 1 p y (omega arith)
    (omega arith))
    in let b =
    kept_word 2 base (bit e.oneshot) words (not_covered e.state here base (length words) 2 p y (omega arith)
    (omega arith))
    in let c =
    kept_word 3 base e.preferred words (not_covered e.state here base (length words) 3 p y (omega arith)
    (omega arith))
    in rw (a, b, c, bit_again e.oneshot) refl

accepted_means : (a b c : Bool) → (cond a Denied (cond b InvalidState (cond c InvalidParam Success))) ≡ Success
    → b ≡ false
accepted_means true b c e = cc
accepted_means false true c e = cc
accepted_means false false c e = refl

pub write_serves : (base : ℕ) (words : List ℕ) (at : Instance) (here : Bool) (l : Lines) (t : Events) → IsOnBoard at t
    → length t.each ≡ length t.instances →
    Serves l t → check_write base words at here t ≡ Success
    → Serves l (change at (with_attributes base words (event at t)) t)
write_serves base words at here l t on each s ok =
    let open_now =
    accepted_means (some_attribute (is_never_written at) base (length words))
    (some_attribute (is_shut (event at t).state here) base (length words))
    (some_word (is_refused_value t.harts) base words) ok
    in elim (cases_Bool (is_enabled (event at t).state)) [
      | inl y ↦
          let same : t ≡ change at (with_attributes base words (event at t)) t =
          sym (ap (λ e. change at e t) (nothing_written base words (event at t) here open_now y)
          ∙ sym (change_put at (event at t) t) ∙ mark_put at (is_pending at t) t ∙ unmarked at t)
          in subst (Serves l) same s
      | inr y ↦ quiet at (with_attributes base words (event at t)) l t on each s y y
    ]

-- after the queues were brought up to date
pub served : (l m : Lines) (t u : Events) → Serves l t → Holds m u → u.instances ≡ t.instances
    → length u.marks ≡ length t.marks → Serves m u
served l m t u s held e f =
    record { holds = held; fits = subst FitsHarts (sym e) s.fits; marks = f ∙ s.marks ∙ ap length (sym e) }
