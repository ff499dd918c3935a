-- The queues of a hart as one instance changes, and as masks change.
use Rattle.std.proofs.Common.{◌≡◌, ℕ, suc, ◌+◌, Bool, true, false, cond, List, [], ◌∷◌, ◌++◌, length, take, drop, drop-cons, eqb, refl, ap, sym, ◌∙◌, subst, arith}
use Rattle.std.specs.Prelude.{◌&&◌, Option, Some, None, slice_get}
use Rattle.std.specs.List.{refill}
use Rattle.std.specs.Option.{option_eq}
use Rattle.std.proofs.lemmas.Bool.{and_parts, both_ways, false_from_ne_true, eqb-true, eq-eqb}
use Rattle.std.proofs.lemmas.Grind.{common_steps}
use Rattle.std.proofs.lemmas.List.{take-append-drop, take_more, append_assoc, append-nil}
use Rattle.std.proofs.Math.Seq.{take-length, drop-length}
use Rattle.std.proofs.lemmas.Option.{slice_get_within, get_or_from_slice_get}
use Rattle.sse_base.specs.declared.events.Slot.{Slot}
use Rattle.sse_base.specs.Ids.{id_of, may_run_on, FitsHarts}
use Rattle.sse_base.specs.Events.{Events, is_enabled, slots}
use Rattle.sse_base.specs.Choice.{waits_for, target, is_hart}
use Rattle.sse_base.proofs.Instances.{target_may_run}
use Rattle.sse_queue.specs.declared.urgency.Waiting.{Waiting}
use Rattle.sse_queue.specs.Order.{put_in, without}
use Rattle.sse_target.specs.Lines.{waiting_of, line_for}
use Rattle.sse_target.specs.Steps.{waits_on, Takes, taken_if, put_if, moved, renewed}
use Rattle.sse_target.proofs.Entries.{Entry, entry, entries, lined, with_id, with_id-append, by_slots, entries-append, pulled, lone, takes}
use Rattle.sse_target.proofs.Fits.{Few, few_slots, waits_may_run, others}

-- the hart for which an instance waits, as a test
pub waits_on_for : (h : ℕ) (masks : List Bool) (s : Slot) → is_hart h (waits_on masks s) ≡ waits_for h masks s
unfolding waits_for
waits_on_for h masks s =
    elim (is_enabled s.event.state
    && s.pending) as (λ b. is_hart h (cond b (target s.at s.event.preferred masks) None)
    ≡ (b && is_hart h (target s.at s.event.preferred masks))) [
      | true ↦ refl
      | false ↦ refl
    ]

pub waits_is_target : (h : ℕ) (masks : List Bool) (s : Slot) → waits_for h masks s ≡ true
    → is_hart h (target s.at s.event.preferred masks) ≡ true
unfolding waits_for
waits_is_target h masks s e =
    (and_parts (is_enabled s.event.state && s.pending) (is_hart h (target s.at s.event.preferred masks)) e).1

-- a slot in the list of all
pub behind : (ss : List Slot) (i : ℕ) (s : Slot) → slice_get ss i ≡ Some s → drop i ss ≡ s ∷ drop (i + 1) ss
behind ss i s p =
    let e : i + 1 ≡ suc i = omega arith
    in rw e (drop-cons ss i s (slice_get_within ss i s p)
    ∙ ap (λ x. x ∷ drop (suc i) ss) (get_or_from_slice_get ss i s s p))

pub through : (ss : List Slot) (i : ℕ) (s : Slot) → slice_get ss i ≡ Some s → take (i + 1) ss ≡ take i ss ++ s ∷ []
through ss i s p = take_more ss i s (slice_get_within ss i s p)
    ∙ ap (λ x. take i ss ++ x ∷ []) (get_or_from_slice_get ss i s s p)

pub whole : (ss : List Slot) (i : ℕ) (s : Slot) → slice_get ss i ≡ Some s → take i ss ++ s ∷ drop (i + 1) ss ≡ ss
whole ss i s p = ap (λ us. take i ss ++ us) (sym (behind ss i s p)) ∙ take-append-drop i ss

-- one instance waits by other masks
moved_by : (x y : Bool) (w : Waiting) (ps qs : List Entry) →
    (x ≡ true → with_id (id_of w.at) (ps ++ qs) ≡ 0) → (y ≡ true → with_id (id_of w.at) (ps ++ qs) ≡ 0) →
    moved x y w (lined (ps ++ record { waits = x; one = w } ∷ qs)) ≡ lined (ps ++ record { waits = y; one = w } ∷ qs)
moved_by true true w ps qs f g = refl
moved_by true false w ps qs f g =
    let front : with_id (id_of w.at) ps ≡ 0 = omega (arith, with_id-append (id_of w.at) ps qs, f refl)
    in lone ps qs (record { waits = true; one = w }) (f refl) ∙ sym (pulled ps qs (record {
      waits = false;
      one = w;
    }) front)
moved_by false true w ps qs f g =
    let front : with_id (id_of w.at) ps ≡ 0 = omega (arith, with_id-append (id_of w.at) ps qs, g refl)
    in ap (put_in w) (pulled ps qs (record { waits = false; one = w }) front) ∙ sym (pulled ps qs (record {
      waits = true;
      one = w;
    }) front)
moved_by false false w ps qs f g = refl

-- the queue of a hart on the way from some masks to others
abbrev pub between : ℕ → ℕ → List Bool → List Bool → List Slot → List Waiting
between h i before after ss = lined (entries h after (take i ss) ++ entries h before (drop i ss))

pub none_followed : (h : ℕ) (before after : List Bool) (t : Events)
    → line_for h before t ≡ between h 0 before after (slots t)
none_followed h before after t = by_slots h before (slots t)

pub all_followed : (h i : ℕ) (before after : List Bool) (t : Events) → i ≡ length (slots t)
    → between h i before after (slots t) ≡ line_for h after t
all_followed h i before after t e =
    let ss = slots t
    in ap (λ us. lined (entries h after us ++ entries h before (drop i ss))) (ap (λ n. take n ss) e ∙ take-length ss)
    ∙ ap (λ us. lined (entries h after ss ++ entries h before us)) (ap (λ n. drop n ss) e ∙ drop-length ss)
    ∙ ap lined (append-nil (entries h after ss))
    ∙ sym (by_slots h after ss)

pub one_followed : (h i : ℕ) (before after : List Bool) (t : Events) (s : Slot) → FitsHarts t.instances
    → slice_get (slots t) i ≡ Some s →
    moved (waits_for h before s) (waits_for h after s) (waiting_of s) (between h i before after (slots t))
    ≡ between h (i + 1) before after (slots t)
one_followed h i before after t s f p =
    let ss = slots t
    in let few : Few (take i ss ++ s ∷ drop (i + 1) ss) = rw (whole ss i s p) (few_slots t.instances t.each t.marks f)
    in let none : may_run_on h s.at ≡ true
    → with_id (id_of s.at) (entries h after (take i ss) ++ entries h before (drop (i + 1) ss)) ≡ 0 =
    λ r. (others h after before (take i ss) (drop (i + 1) ss) s few r).0
    in let here : entries h before (drop i ss) ≡ entry h before s ∷ entries h before (drop (i + 1) ss) =
    ap (entries h before) (behind ss i s p)
    in let done : entries h after (take (i + 1) ss) ≡ entries h after (take i ss) ++ entry h after s ∷ [] =
    ap (entries h after) (through ss i s p) ∙ entries-append h after (take i ss) (s ∷ [])
    in ap (λ es. moved (waits_for h before s) (waits_for h after s) (waiting_of s) (lined (entries h after (take i ss)
    ++ es))) here
    ∙ moved_by (waits_for h before s) (waits_for h after s) (waiting_of s) (entries h after (take i ss))
    (entries h before (drop (i + 1) ss))
    (λ e. none (waits_may_run h before s e)) (λ e. none (waits_may_run h after s e))
    ∙ ap lined (sym (ap (λ es. es ++ entries h before (drop (i + 1) ss)) done
    ∙ append_assoc (entries h after (take i ss)) (entry h after s ∷ []) (entries h before (drop (i + 1) ss))))

pub followed_takes : (h i : ℕ) (before after : List Bool) (t : Events) (s : Slot) → FitsHarts t.instances
    → slice_get (slots t) i ≡ Some s →
    waits_for h before s ≡ false → waits_for h after s ≡ true
    → Takes (waiting_of s) (between h i before after (slots t))
followed_takes h i before after t s f p x y =
    let ss = slots t
    in let few : Few (take i ss ++ s ∷ drop (i + 1) ss) = rw (whole ss i s p) (few_slots t.instances t.each t.marks f)
    in let front = entries h after (take i ss)
    in let back = entries h before (drop (i + 1) ss)
    in let rest = others h after before (take i ss) (drop (i + 1) ss) s few (waits_may_run h after s y)
    in let none : with_id (id_of s.at) front ≡ 0 = omega (arith, with_id-append (id_of s.at) front back, rest.0)
    in let here : between h i before after ss ≡ lined (front ++ back) =
    ap (λ es. lined (front ++ es)) (ap (entries h before) (behind ss i s p))
    ∙ pulled front back (entry h before s) none
    ∙ ap (λ b. put_if b (waiting_of s) (lined (front ++ back))) x
    in subst (Takes (waiting_of s)) (sym here) (takes (waiting_of s) (front ++ back) rest.0 rest.1)

-- all entries of a hart, with one of them apart
pub apart : (h i : ℕ) (masks : List Bool) (t : Events) (s : Slot) → slice_get (slots t) i ≡ Some s →
    line_for h masks t ≡ lined (entries h masks (take i (slots t)) ++ entry h masks s
    ∷ entries h masks (drop (i + 1) (slots t)))
apart h i masks t s p =
    by_slots h masks (slots t)
    ∙ ap lined (ap (entries h masks) (sym (whole (slots t) i s p)) ∙ entries-append h masks (take i (slots t)) (s
    ∷ drop (i + 1) (slots t)))

-- what is left of a hart's queue without one instance
pub left : (h i : ℕ) (masks : List Bool) (t : Events) (s : Slot) (q : List Waiting) → FitsHarts t.instances
    → slice_get (slots t) i ≡ Some s →
    may_run_on h s.at ≡ true → without s.at q ≡ without s.at (line_for h masks t) →
    without s.at q ≡ lined (entries h masks (take i (slots t)) ++ entries h masks (drop (i + 1) (slots t)))
left h i masks t s q f p r e =
    let ss = slots t
    in let few : Few (take i ss ++ s ∷ drop (i + 1) ss) = rw (whole ss i s p) (few_slots t.instances t.each t.marks f)
    in let rest = others h masks masks (take i ss) (drop (i + 1) ss) s few r
    in e ∙ ap (without s.at) (apart h i masks t s p)
    ∙ lone (entries h masks (take i ss)) (entries h masks (drop (i + 1) ss)) (entry h masks s) rest.0

pub renewed_takes : (h i : ℕ) (masks : List Bool) (t : Events) (s : Slot) (q : List Waiting) → FitsHarts t.instances
    → slice_get (slots t) i ≡ Some s →
    without s.at q ≡ without s.at (line_for h masks t) → is_hart h (waits_on masks s) ≡ true
    → Takes (waiting_of s) (without s.at q)
renewed_takes h i masks t s q f p e y =
    let ss = slots t
    in let r = waits_may_run h masks s (sym (waits_on_for h masks s) ∙ y)
    in let few : Few (take i ss ++ s ∷ drop (i + 1) ss) = rw (whole ss i s p) (few_slots t.instances t.each t.marks f)
    in let rest = others h masks masks (take i ss) (drop (i + 1) ss) s few r
    in subst (Takes (waiting_of s)) (sym (left h i masks t s q f p r e))
    (takes (waiting_of s) (entries h masks (take i ss) ++ entries h masks (drop (i + 1) ss)) rest.0 rest.1)

-- where it is delivered, the instance waits again or not
renewed_here : (h i : ℕ) (masks : List Bool) (t : Events) (s : Slot) (q : List Waiting) → FitsHarts t.instances
    → slice_get (slots t) i ≡ Some s →
    is_hart h (target s.at s.event.preferred masks) ≡ true → without s.at q ≡ without s.at (line_for h masks t) →
    put_if (waits_for h masks s) (waiting_of s) (without s.at q) ≡ line_for h masks t
renewed_here h i masks t s q f p y e =
    let ss = slots t
    in let r = target_may_run h s.at s.event.preferred masks y
    in let few : Few (take i ss ++ s ∷ drop (i + 1) ss) = rw (whole ss i s p) (few_slots t.instances t.each t.marks f)
    in let front = entries h masks (take i ss)
    in let back = entries h masks (drop (i + 1) ss)
    in let rest = others h masks masks (take i ss) (drop (i + 1) ss) s few r
    in let none : with_id (id_of s.at) front ≡ 0 = omega (arith, with_id-append (id_of s.at) front back, rest.0)
    in ap (put_if (waits_for h masks s) (waiting_of s)) (left h i masks t s q f p r e)
    ∙ sym (apart h i masks t s p ∙ pulled front back (entry h masks s) none)

pub renewed_is : (h i : ℕ) (masks : List Bool) (t : Events) (s : Slot) (q : List Waiting) → FitsHarts t.instances
    → slice_get (slots t) i ≡ Some s →
    (is_hart h (target s.at s.event.preferred masks) ≡ false → q ≡ line_for h masks t)
    → without s.at q ≡ without s.at (line_for h masks t) →
    renewed h masks s q ≡ line_for h masks t
renewed_is h i masks t s q f p away e =
    elim (is_hart h (target s.at s.event.preferred masks)) as (λ b. is_hart h (target s.at s.event.preferred masks)
    ≡ b →
    put_if (is_hart h (waits_on masks s)) (waiting_of s) (taken_if b s.at q) ≡ line_for h masks t) [
      | true ↦ λ y. ap (λ b. put_if b (waiting_of s) (without s.at q)) (waits_on_for h masks s)
          ∙ renewed_here h i masks t s q f p y e
      | false ↦ λ y.
          let idle : waits_for h masks s ≡ false =
          false_from_ne_true (waits_for h masks s) (λ z. both_ways _ y (waits_is_target h masks s z))
          in ap (λ b. put_if b (waiting_of s) q) (waits_on_for h masks s ∙ idle) ∙ away y
    ] refl

-- taken out and put in elsewhere is moved
pub same_moved : (x y : Bool) (w : Waiting) (q : List Waiting) → x ≡ y → q ≡ moved x y w q
same_moved true true w q e = refl
same_moved true false w q e = cc
same_moved false true w q e = cc
same_moved false false w q e = refl

pub is_moved : (x y : Bool) (w : Waiting) (q : List Waiting) → (x ≡ true → y ≡ true → ⊥)
    → put_if y w (taken_if x w.at q) ≡ moved x y w q
is_moved true true w q e = absurd (e refl refl)
is_moved true false w q e = refl
is_moved false true w q e = refl
is_moved false false w q e = refl

-- an instance is delivered on one hart
one_hart : (h : ℕ) (a b : Option ℕ) → is_hart h a ≡ true → is_hart h b ≡ true → option_eq eqb a b ≡ true
one_hart h None b x y = cc
one_hart h (Some k) None x y = cc
one_hart h (Some k) (Some j) x y = eq-eqb k j (eqb-true k h x ∙ sym (eqb-true j h y))

same_hart : (a b : Option ℕ) → option_eq eqb a b ≡ true → a ≡ b
same_hart None None x = refl
same_hart None (Some j) x = cc
same_hart (Some k) None x = cc
same_hart (Some k) (Some j) x = ap (λ n. Some n) (eqb-true k j x)

-- after masks changed: the instance stays, or leaves one hart and waits on another
pub stays_there : (h : ℕ) (before after : List Bool) (s : Slot) (q : List Waiting) (from to : Option ℕ)
    → from ≡ waits_on before s → to ≡ waits_on after s →
    option_eq eqb from to ≡ true → q ≡ moved (waits_for h before s) (waits_for h after s) (waiting_of s) q
stays_there h before after s q from to e f x =
    same_moved (waits_for h before s) (waits_for h after s) (waiting_of s) q
    (sym (waits_on_for h before s) ∙ ap (is_hart h) (sym e ∙ same_hart from to x ∙ f) ∙ waits_on_for h after s)

pub goes_over : (h : ℕ) (before after : List Bool) (s : Slot) (q : List Waiting) (from to : Option ℕ)
    → from ≡ waits_on before s → to ≡ waits_on after s →
    option_eq eqb from to ≡ false →
    put_if (is_hart h to) (waiting_of s) (taken_if (is_hart h from) s.at q)
    ≡ moved (waits_for h before s) (waits_for h after s) (waiting_of s) q
goes_over h before after s q from to e f x =
    is_moved (is_hart h from) (is_hart h to) (waiting_of s) q (λ a b. both_ways (option_eq eqb from to) x
    (one_hart h from to a b))
    ∙ ap (λ a. moved a (is_hart h to) (waiting_of s) q) (ap (is_hart h) e ∙ waits_on_for h before s)
    ∙ ap (λ b. moved (waits_for h before s) b (waiting_of s) q) (ap (is_hart h) f ∙ waits_on_for h after s)

pub goes_takes : (h : ℕ) (before after : List Bool) (s : Slot) (q : List Waiting) (from to : Option ℕ)
    → from ≡ waits_on before s → to ≡ waits_on after s →
    option_eq eqb from to ≡ false → is_hart h to ≡ true → (waits_for h before s ≡ false → waits_for h after s ≡ true
    → Takes (waiting_of s) q) →
    Takes (waiting_of s) (taken_if (is_hart h from) s.at q)
goes_takes h before after s q from to e f x y t =
    let away : is_hart h from ≡ false =
    false_from_ne_true (is_hart h from) (λ a. both_ways (option_eq eqb from to) x (one_hart h from to a y))
    in rw away (t (sym (waits_on_for h before s) ∙ sym (ap (is_hart h) e) ∙ away) (sym (waits_on_for h after s)
    ∙ sym (ap (is_hart h) f) ∙ y))

-- what is written through a slice of equal length
pub refilled : {X : Type 0} (xs ws : List X) → length ws ≡ length xs → refill (length xs) xs ws ≡ ws
refilled xs ws e = grind (arith, common_steps)
