-- What a change of one event leaves of each event.
use Rattle.std.proofs.Common.{◌≡◌, ℕ, zero, suc, ◌+◌, Bool, true, false, cond, List, [], ◌∷◌, length, get_or, set, refl, sym, ap, ◌∙◌, inl, inr, arith}
use Rattle.std.specs.Prelude.{◌||◌, ◌==◌}
use Rattle.std.proofs.lemmas.Bool.{cases_Bool, true≢false}
use Rattle.std.proofs.lemmas.Bool.Decides.{nat_tests}
use Rattle.sse_base.specs.declared.arrows.State.{State}
use Rattle.sse_base.specs.declared.arrows.State.TheVariants.{Unused, Registered, Enabled, Running}
use Rattle.sse_base.specs.declared.codes.SbiCode.{SbiCode}
use Rattle.sse_base.specs.declared.codes.SbiCode.TheVariants.{Success, Denied, InvalidState, InvalidParam}
use Rattle.sse_base.specs.declared.events.Event.{Event}
use Rattle.sse_base.specs.declared.ids.Instance.{Instance}
use Rattle.sse_base.specs.Attributes.{PRIORITY}
use Rattle.sse_base.specs.Ids.{same_instance, place}
use Rattle.sse_base.specs.Events.{Events, event, change, fresh_event, is_running, IsOnBoard}
use Rattle.sse_base.specs.Calls.{check_write, covers, is_never_written, is_refused_value, is_shut, some_attribute, some_word, with_attributes, word_for}
use Rattle.sse_base.proofs.Instances.{same_is}
use Rattle.sbi_sse.proofs.Keeps.{other_event, own_event}
use Rattle.event_laws.proofs.Rising.{KeepsUrgency}

-- what is kept of the changed event is kept of each
field_kept : {A : Type 0} (f : Event → A) (es : List Event) (i j : ℕ) (e d : Event) → f e ≡ f (get_or es i d)
    → f (get_or (set es i e) j d) ≡ f (get_or es j d)
field_kept f [] i j e d p = refl
field_kept f (y ∷ es) zero zero e d p = p
field_kept f (y ∷ es) zero (suc j) e d p = refl
field_kept f (y ∷ es) (suc i) zero e d p = refl
field_kept f (y ∷ es) (suc i) (suc j) e d p = field_kept f es i j e d p

pub each_keeps : {A : Type 0} (f : Event → A) (at : Instance) (e : Event) (t : Events) → f e ≡ f (event at t)
    → (x : Instance) → f (event x (change at e t)) ≡ f (event x t)
each_keeps f at e t p x =
    field_kept f t.each (place at t.instances) (place x t.instances) e (fresh_event false 0) p

pub keeps_urgency : (at : Instance) (e : Event) (t : Events) → e.priority ≡ (event at t).priority
    → KeepsUrgency t (change at e t)
keeps_urgency at e t p = record { same = λ x runs. each_keeps (λ (v : Event). v.priority) at e t p x }

-- an event is the changed one, or stays
pub data After (at : Instance) (e : Event) (t : Events) (x : Instance) : Type 0 where
  changes : at ≡ x → event x (change at e t) ≡ e → After at e t x
  stays : event x (change at e t) ≡ event x t → After at e t x

pub after : (at : Instance) (e : Event) (t : Events) (x : Instance) → length t.each ≡ length t.instances
    → IsOnBoard at t → After at e t x
after at e t x each on =
    elim (cases_Bool (same_instance at x)) [
      | inl same ↦
          let is : at ≡ x = same_is at x same in
          changes is (ap (λ (y : Instance). event y (change at e t)) (sym is) ∙ own_event at e t each on)
      | inr other ↦ stays (other_event x at e t on other)
    ]

-- ---- Writes ----

if_success : (b : Bool) (x y : SbiCode) → (x ≡ Success → ⊥) → cond b x y ≡ Success → (b ≡ false) × (y ≡ Success)
if_success true x y other is = absurd (other is)
if_success false x y other is = (refl, is)

-- an accepted write has no attribute that is shut
pub not_shut : (base : ℕ) (words : List ℕ) (at : Instance) (here : Bool) (t : Events)
    → check_write base words at here t ≡ Success
    → some_attribute (is_shut (event at t).state here) base (length words) ≡ false
not_shut base words at here t good =
    let late : SbiCode = cond (some_word (is_refused_value t.harts) base words) InvalidParam Success in
    let shut : Bool = some_attribute (is_shut (event at t).state here) base (length words) in
    let middle : SbiCode = cond shut InvalidState late in
    let past : middle ≡ Success =
    (if_success (some_attribute (is_never_written at) base (length words)) Denied middle (λ q. cc) good).1 in
    (if_success shut InvalidState late (λ q. cc) past).0

or_parts : (a b : Bool) → (a || b) ≡ false → (a ≡ false) × (b ≡ false)
or_parts true b e = absurd (true≢false e)
or_parts false b e = (refl, e)

-- a test that no attribute of a range passes
none_passes : (test : ℕ → Bool) (base n attr : ℕ) → some_attribute test base n ≡ false → covers base n attr ≡ true
    → test attr ≡ false
none_passes test base zero attr none in_it = absurd (grind (arith, nat_tests))
none_passes test base (suc n) attr none in_it =
    let parts = or_parts (test base) (some_attribute test (base + 1) n) none in
    elim (cases_Bool (base == attr)) [
      | inl e ↦ let same : base ≡ attr = grind (arith, nat_tests) in ap test (sym same) ∙ parts.0
      | inr e ↦
          let further : covers (base + 1) n attr ≡ true = grind (arith, nat_tests) in
          none_passes test (base + 1) n attr parts.1 further
    ]

running_shut : (state : State) (here : Bool) → is_running state ≡ true → is_shut state here PRIORITY ≡ true
unfolding is_shut
running_shut Unused here runs = cc
running_shut Registered here runs = cc
running_shut Enabled here runs = cc
running_shut Running here runs = refl

uncovered : (attr base : ℕ) (words : List ℕ) (old : ℕ) → covers base (length words) attr ≡ false
    → word_for attr base words old ≡ old
unfolding word_for
uncovered attr base words old out = rw out refl

-- a write leaves the priority of an event that runs
kept_priority : (base : ℕ) (words : List ℕ) (at : Instance) (here : Bool) (t : Events)
    → check_write base words at here t ≡ Success → is_running (event at t).state ≡ true
    → (with_attributes base words (event at t)).priority ≡ (event at t).priority
kept_priority base words at here t good runs =
    elim (cases_Bool (covers base (length words) PRIORITY)) [
      | inl in_it ↦ absurd (true≢false (sym (running_shut (event at t).state here runs)
          ∙ none_passes (is_shut (event at t).state here) base (length words) PRIORITY
          (not_shut base words at here t good) in_it))
      | inr out ↦ uncovered PRIORITY base words (event at t).priority out
    ]

pub write_keeps_urgency : (base : ℕ) (words : List ℕ) (at : Instance) (here : Bool) (t : Events)
    → length t.each ≡ length t.instances → IsOnBoard at t → check_write base words at here t ≡ Success
    → KeepsUrgency t (change at (with_attributes base words (event at t)) t)
write_keeps_urgency base words at here t each on good =
    record { same = λ x runs. go x runs (after at (with_attributes base words (event at t)) t x each on) }
  where
    go : (x : Instance) → is_running (event x t).state ≡ true
        → After at (with_attributes base words (event at t)) t x
        → (event x (change at (with_attributes base words (event at t)) t)).priority ≡ (event x t).priority
    go x runs (changes is new) =
        let same : event at t ≡ event x t = ap (λ (y : Instance). event y t) is in
        ap (λ (e : Event). e.priority) new
        ∙ kept_priority base words at here t good (ap (λ (e : Event). is_running e.state) same ∙ runs)
        ∙ ap (λ (e : Event). e.priority) same
    go x runs (stays old) = ap (λ (e : Event). e.priority) old
