-- Frames by their depth, and what each change of a hart's frames makes of the one at a depth.
use Rattle.std.proofs.Common.{◌≡◌, ◌≢◌, ℕ, suc, ◌<◌, ◌≤◌, ◌==◌, Bool, true, false, cond, List, [], ◌∷◌, map, length, Option, Some, None, refl, inl, inr, sym, ap, ◌∙◌, arith}
use Rattle.std.specs.Option.{option_map}
use Rattle.std.proofs.Math.Dec.{eqb-suc-zero}
use Rattle.std.proofs.lemmas.Bool.{cases_Bool}
use Rattle.std.proofs.lemmas.Bool.Decides.{eqb_tells}
use Rattle.std.proofs.lemmas.List.{length-map}
use Rattle.std.proofs.lemmas.Option.{none-some, same_Some}
use Rattle.sse_base.specs.declared.ids.Instance.{Instance}
use Rattle.sse_base.specs.Ids.{same_instance}
use Rattle.sse_base.specs.Contexts.{Context, Frame, Triple, bit, below, with_below, triple_of, with_triple, changed_below, changed_own}
use Rattle.sbi_sse.specs.Kept.{times, ats}
use Rattle.board_plan.specs.Amend.{at_depth}

-- ---- Any list ----

-- the depth of the first item, and of those behind it
pub here : {A : Type 0} (d : ℕ) (x : A) (xs : List A) → suc (length xs) ≡ d → at_depth d (x ∷ xs) ≡ Some x
here d x xs e =
    elim (eqb_tells (suc (length xs)) d) [
      | inl y ↦ rw y.0 refl
      | inr n ↦ absurd (n.1 e)
    ]

pub behind : {A : Type 0} (d : ℕ) (x : A) (xs : List A) → suc (length xs) ≢ d → at_depth d (x ∷ xs) ≡ at_depth d xs
behind d x xs e =
    elim (eqb_tells (suc (length xs)) d) [
      | inl y ↦ absurd (e y.1)
      | inr n ↦ rw n.0 refl
    ]

-- nothing stands above the newest
pub beyond : {A : Type 0} (d : ℕ) (xs : List A) → length xs < d → at_depth d xs ≡ None
beyond d [] l = refl
beyond d (x ∷ xs) l = behind d x xs (λ e. omega (arith, e, l)) ∙ beyond d xs (omega (arith, l))

-- nor at depth 0
pub at_none : {A : Type 0} (xs : List A) → at_depth 0 xs ≡ None
at_none [] = refl
at_none (x ∷ xs) = behind 0 x xs (λ e. omega (arith, e)) ∙ at_none xs

-- what stands at a depth is within the list
pub at_within : {A : Type 0} (d : ℕ) (xs : List A) (x : A) → at_depth d xs ≡ Some x → d ≤ length xs
at_within d [] x e = absurd (none-some x e)
at_within d (y ∷ xs) x e =
    elim (eqb_tells (suc (length xs)) d) [
      | inl h ↦ omega (arith, h.1)
      | inr n ↦ omega (arith, at_within d xs x (sym (behind d y xs n.1) ∙ e))
    ]

pub at_mapped : {A B : Type 0} (f : A → B) (d : ℕ) (xs : List A)
    → at_depth d (map f xs) ≡ option_map f (at_depth d xs)
at_mapped f d [] = refl
at_mapped f d (x ∷ xs) =
    elim (eqb_tells (suc (length xs)) d) [
      | inl h ↦
          here d (f x) (map f xs) (ap suc (length-map xs f) ∙ h.1) ∙ sym (ap (option_map f) (here d x xs h.1))
      | inr n ↦
          behind d (f x) (map f xs) (λ e. n.1 (sym (ap suc (length-map xs f)) ∙ e)) ∙ at_mapped f d xs
          ∙ sym (ap (option_map f) (behind d x xs n.1))
    ]

-- ---- Frames of an instance ----

-- whether what stands at a depth is of an instance
abbrev pub is_at : Instance → Option Frame → Bool
is_at at None = false
is_at at (Some f) = same_instance f.at at

-- it is at no depth where it has no frame
pub none_at : (at : Instance) (d : ℕ) (fs : List Frame) → times at (ats fs) ≡ 0 → is_at at (at_depth d fs) ≡ false
none_at at d [] e = refl
none_at at d (f ∷ fs) e =
    elim (cases_Bool (same_instance f.at at)) [
      | inl y ↦
          let one : bit (same_instance f.at at) ≡ 1 = rw y refl in
          absurd (omega (arith, one, e))
      | inr n ↦
          elim (eqb_tells (suc (length fs)) d) [
            | inl h ↦ ap (is_at at) (here d f fs h.1) ∙ n
            | inr m ↦ ap (is_at at) (behind d f fs m.1) ∙ none_at at d fs (omega (arith, e))
          ]
    ]

-- where it has one at most, it has no other behind it
pub none_behind : (at : Instance) (f : Frame) (fs : List Frame) → times at (ats (f ∷ fs)) ≤ 1
    → same_instance f.at at ≡ true → times at (ats fs) ≡ 0
none_behind at f fs o y =
    let one : bit (same_instance f.at at) ≡ 1 = rw y refl in
    omega (arith, one, o)

-- and behind another handler it has no more than before
pub once_behind : (at : Instance) (f : Frame) (fs : List Frame) → times at (ats (f ∷ fs)) ≤ 1 → times at (ats fs) ≤ 1
once_behind at f fs o = omega (arith, o)

-- ---- A change of an instance's own context ----

abbrev pub own_changed : Instance → (Context → Context) → Frame → Frame
own_changed at g f = record { at = f.at; saved = cond (same_instance f.at at) (g f.saved) f.saved }

untouched : (at : Instance) (g : Context → Context) (fs : List Frame) → times at (ats fs) ≡ 0
    → map (own_changed at g) fs ≡ fs
untouched at g [] e = refl
untouched at g (f ∷ fs) e =
    elim (cases_Bool (same_instance f.at at)) [
      | inl y ↦
          let one : bit (same_instance f.at at) ≡ 1 = rw y refl in
          absurd (omega (arith, one, e))
      | inr n ↦ rw n (ap (λ gs. f ∷ gs) (untouched at g fs (omega (arith, e))))
    ]

own_each : (at : Instance) (g : Context → Context) (fs : List Frame) → times at (ats fs) ≤ 1
    → changed_own at g fs ≡ map (own_changed at g) fs
own_each at g [] o = refl
own_each at g (f ∷ fs) o =
    elim (cases_Bool (same_instance f.at at)) [
      | inl y ↦
          rw y (ap (λ gs. record { at = f.at; saved = g f.saved } ∷ gs)
          (sym (untouched at g fs (none_behind at f fs o y))))
      | inr n ↦ rw n (ap (λ gs. f ∷ gs) (own_each at g fs (once_behind at f fs o)))
    ]

pub own_at_depth : (at : Instance) (g : Context → Context) (d : ℕ) (fs : List Frame) (f : Frame)
    → times at (ats fs) ≤ 1 → at_depth d fs ≡ Some f → at_depth d (changed_own at g fs) ≡ Some (own_changed at g f)
own_at_depth at g d fs f o e =
    ap (at_depth d) (own_each at g fs o) ∙ at_mapped (own_changed at g) d fs
    ∙ ap (option_map (own_changed at g)) e

-- ---- A change of the triple below all frames, or below an instance's ----

abbrev pub lowered : (Triple → Triple) → Bool → Frame → Frame
lowered g b f = record { at = f.at; saved = cond b (with_triple (g (triple_of f.saved)) f.saved) f.saved }

pub with_below_length : (t : Triple) (fs : List Frame) (base : Triple) → length (with_below t fs base).frames
    ≡ length fs
with_below_length t [] base = refl
with_below_length t (f ∷ fs) base = refl

pub below_length : (at : Instance) (g : Triple → Triple) (fs : List Frame) (base : Triple)
    → length (changed_below at g fs base).frames ≡ length fs
below_length at g [] base = refl
below_length at g (f ∷ fs) base =
    elim (cases_Bool (same_instance f.at at)) [
      | inl y ↦ rw y (ap suc (with_below_length (g (below fs base)) fs base))
      | inr n ↦ rw n (ap suc (below_length at g fs base))
    ]

-- right below all of them: of the newest
pub top_at_depth : (g : Triple → Triple) (d : ℕ) (fs : List Frame) (base : Triple) (f : Frame)
    → at_depth d fs ≡ Some f
    → at_depth d (with_below (g (below fs base)) fs base).frames ≡ Some (lowered g (length fs == d) f)
top_at_depth g d [] base f e = absurd (none-some f e)
top_at_depth g d (x ∷ fs) base f e =
    let new : Frame = record { at = x.at; saved = with_triple (g (triple_of x.saved)) x.saved } in
    elim (eqb_tells (suc (length fs)) d) [
      | inl h ↦
          let same : x ≡ f = same_Some x f (sym (here d x fs h.1) ∙ e) in
          here d new fs h.1
          ∙ rw h.0 (ap (λ (z : Frame). Some (record { at = z.at; saved = with_triple (g (triple_of z.saved)) z.saved }))
          same)
      | inr n ↦ behind d new fs n.1 ∙ sym (behind d x fs n.1) ∙ e ∙ rw n.0 refl
    ]

pub top_base : (g : Triple → Triple) (fs : List Frame) (base : Triple)
    → (with_below (g (below fs base)) fs base).base ≡ cond (length fs == 0) (g base) base
top_base g [] base = refl
top_base g (f ∷ fs) base = rw (eqb-suc-zero (length fs)) refl

-- below an instance's own: of the one that its handler interrupted
pub below_at_depth : (at : Instance) (g : Triple → Triple) (d : ℕ) (fs : List Frame) (base : Triple) (f : Frame)
    → times at (ats fs) ≤ 1 → at_depth d fs ≡ Some f
    → at_depth d (changed_below at g fs base).frames ≡ Some (lowered g (is_at at (at_depth (suc d) fs)) f)
below_at_depth at g d [] base f o e = absurd (none-some f e)
below_at_depth at g d (x ∷ fs) base f o e =
    let t = g (below fs base) in
    elim (eqb_tells (suc (length fs)) d) [
      | inl h ↦
          let same : x ≡ f = same_Some x f (sym (here d x fs h.1) ∙ e) in
          let none : at_depth (suc d) (x ∷ fs) ≡ None = beyond (suc d) (x ∷ fs) (omega (arith, h.1)) in
          let leaves : lowered g (is_at at (at_depth (suc d) (x ∷ fs))) f ≡ f =
          ap (λ o. lowered g (is_at at o) f) none in
          elim (cases_Bool (same_instance x.at at)) [
            | inl y ↦
                rw y (here d x (with_below t fs base).frames (ap suc (with_below_length t fs base) ∙ h.1)
                ∙ ap Some same ∙ ap Some (sym leaves))
            | inr n ↦
                rw n (here d x (changed_below at g fs base).frames (ap suc (below_length at g fs base) ∙ h.1)
                ∙ ap Some same ∙ ap Some (sym leaves))
          ]
      | inr m ↦
          let lower : at_depth d fs ≡ Some f = sym (behind d x fs m.1) ∙ e in
          elim (cases_Bool (same_instance x.at at)) [
            | inl y ↦
                rw y (behind d x (with_below t fs base).frames
                (λ i. m.1 (sym (ap suc (with_below_length t fs base)) ∙ i))
                ∙ top_at_depth g d fs base f lower
                ∙ ap (λ b. Some (lowered g b f)) (sym (just_above x fs o y)))
            | inr n ↦
                rw n (behind d x (changed_below at g fs base).frames
                (λ i. m.1 (sym (ap suc (below_length at g fs base)) ∙ i))
                ∙ below_at_depth at g d fs base f (once_behind at x fs o) lower
                ∙ ap (λ b. Some (lowered g b f)) (sym (not_above x fs n)))
          ]
    ]
  where
    just_above : (x : Frame) (fs : List Frame) → times at (ats (x ∷ fs)) ≤ 1 → same_instance x.at at ≡ true
        → is_at at (at_depth (suc d) (x ∷ fs)) ≡ (length fs == d)
    just_above x fs o y =
        elim (eqb_tells (length fs) d) [
          | inl h ↦ ap (is_at at) (here (suc d) x fs (ap suc h.1)) ∙ y ∙ sym h.0
          | inr n ↦
              ap (is_at at) (behind (suc d) x fs (λ i. n.1 (omega (arith, i))))
              ∙ none_at at (suc d) fs (none_behind at x fs o y) ∙ sym n.0
        ]

    not_above : (x : Frame) (fs : List Frame) → same_instance x.at at ≡ false
        → is_at at (at_depth (suc d) (x ∷ fs)) ≡ is_at at (at_depth (suc d) fs)
    not_above x fs n =
        elim (eqb_tells (length fs) d) [
          | inl h ↦
              ap (is_at at) (here (suc d) x fs (ap suc h.1)) ∙ n
              ∙ sym (ap (is_at at) (beyond (suc d) fs (omega (arith, h.1))))
          | inr m ↦ ap (is_at at) (behind (suc d) x fs (λ i. m.1 (omega (arith, i))))
        ]

-- and the base, where it is the oldest
pub below_base : (at : Instance) (g : Triple → Triple) (fs : List Frame) (base : Triple) → times at (ats fs) ≤ 1
    → (changed_below at g fs base).base ≡ cond (is_at at (at_depth 1 fs)) (g base) base
below_base at g [] base o = refl
below_base at g (x ∷ fs) base o =
    elim (cases_Bool (same_instance x.at at)) [
      | inl y ↦
          rw y (top_base g fs base ∙ ap (λ b. cond b (g base) base) (sym (oldest x fs o y)))
      | inr n ↦
          rw n (below_base at g fs base (once_behind at x fs o)
          ∙ ap (λ b. cond b (g base) base) (sym (not_oldest x fs n)))
    ]
  where
    oldest : (x : Frame) (fs : List Frame) → times at (ats (x ∷ fs)) ≤ 1 → same_instance x.at at ≡ true
        → is_at at (at_depth 1 (x ∷ fs)) ≡ (length fs == 0)
    oldest x [] o y = y
    oldest x (f ∷ fs) o y =
        ap (is_at at) (behind 1 x (f ∷ fs) (λ i. omega (arith, i)))
        ∙ none_at at 1 (f ∷ fs) (none_behind at x (f ∷ fs) o y) ∙ sym (eqb-suc-zero (length fs))

    not_oldest : (x : Frame) (fs : List Frame) → same_instance x.at at ≡ false
        → is_at at (at_depth 1 (x ∷ fs)) ≡ is_at at (at_depth 1 fs)
    not_oldest x [] n = n
    not_oldest x (f ∷ fs) n = ap (is_at at) (behind 1 x (f ∷ fs) (λ i. omega (arith, i)))
