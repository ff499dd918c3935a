-- On a hart of a board the others leave room for an instance, and none of them is of its event.
use Rattle.std.proofs.Common.{◌≡◌, ℕ, ◌+◌, ◌<◌, ◌≤◌, Bool, true, false, cond, List, [], ◌∷◌, ◌++◌, length, refl, ap, arith}
use Rattle.std.specs.Prelude.{◌==◌, ◌&&◌, filter}
use Rattle.std.proofs.lemmas.Bool.{and_parts, eq-eqb}
use Rattle.sse_base.specs.declared.ids.EventId.{EventId}
use Rattle.sse_base.specs.declared.ids.Instance.{Instance}
use Rattle.sse_base.specs.declared.events.Event.{Event}
use Rattle.sse_base.specs.declared.events.Slot.{Slot}
use Rattle.sse_base.specs.Ids.{id_of, may_run_on, is_meant, FitsHarts}
use Rattle.sse_base.specs.Events.{joined, is_enabled}
use Rattle.sse_base.specs.Contexts.{bit}
use Rattle.sse_base.specs.Choice.{waits_for, target, is_hart}
use Rattle.sse_base.proofs.Instances.{target_may_run}
use Rattle.sse_target.proofs.Entries.{entries, waiting, with_id, waiting-append, with_id-append}

-- how many instances pass
abbrev pub tally : (Instance → Bool) → List Instance → ℕ
tally p [] = 0
tally p (x ∷ xs) = bit (p x) + tally p xs

tally_filter : (p : Instance → Bool) (xs : List Instance) → length (filter p xs) ≡ tally p xs
tally_filter p [] = refl
tally_filter p (x ∷ xs) =
    elim (p x) as (λ b. length (cond b (x ∷ filter p xs) (filter p xs)) ≡ bit b + tally p xs) [
      | true ↦ omega (arith, tally_filter p xs)
      | false ↦ omega (arith, tally_filter p xs)
    ]

tally-append : (p : Instance → Bool) (xs ys : List Instance) → tally p (xs ++ ys) ≡ tally p xs + tally p ys
tally-append p [] ys = omega arith
tally-append p (x ∷ xs) ys = omega (arith, tally-append p xs ys)

abbrev pub ats : List Slot → List Instance
ats [] = []
ats (s ∷ ss) = s.at ∷ ats ss

ats-append : (ss us : List Slot) → ats (ss ++ us) ≡ ats ss ++ ats us
ats-append [] us = refl
ats-append (s ∷ ss) us = ap (λ xs. s.at ∷ xs) (ats-append ss us)

-- what a board leaves on each hart, of its slots
pub record Few (ss : List Slot) : Type 0 where
  pub alone : (h : ℕ) (id : EventId) → tally (is_meant h id) (ats ss) ≤ 1
  pub few : (h : ℕ) → tally (may_run_on h) (ats ss) ≤ 8

joined_less : (p : Instance → Bool) (is : List Instance) (es : List Event) (bs : List Bool)
    → tally p (ats (joined is es bs)) ≤ tally p is
joined_less p [] es bs = omega arith
joined_less p (x ∷ is) [] bs = omega arith
joined_less p (x ∷ is) (y ∷ es) [] = omega arith
joined_less p (x ∷ is) (y ∷ es) (z ∷ bs) = omega (arith, joined_less p is es bs)

pub few_slots : (is : List Instance) (es : List Event) (bs : List Bool) → FitsHarts is → Few (joined is es bs)
few_slots is es bs f =
    record {
      alone = λ h id. let a = f.alone h id in omega (
        arith,
        joined_less (is_meant h id) is es bs,
        tally_filter (is_meant h id) is,
      );
      few = λ h. let a = f.few h in omega (arith, joined_less (may_run_on h) is es bs, tally_filter (may_run_on h) is);
    }

-- what waits for a hart may run there
pub waits_may_run : (h : ℕ) (masks : List Bool) (s : Slot) → waits_for h masks s ≡ true → may_run_on h s.at ≡ true
unfolding waits_for
waits_may_run h masks s e =
    let p = and_parts (is_enabled s.event.state && s.pending) (is_hart h (target s.at s.event.preferred masks)) e
    in target_may_run h s.at s.event.preferred masks p.1

bit_more : (x y : Bool) → (x ≡ true → y ≡ true) → bit x ≤ bit y
bit_more true true e = omega arith
bit_more true false e = let p = e refl in cc
bit_more false y e = omega arith

waiting_less : (h : ℕ) (masks : List Bool) (ss : List Slot)
    → waiting (entries h masks ss) ≤ tally (may_run_on h) (ats ss)
waiting_less h masks [] = omega arith
waiting_less h masks (s ∷ ss) =
    omega (arith, bit_more (waits_for h masks s) (may_run_on h s.at) (waits_may_run h masks s), waiting_less h masks ss)

and_more : (x y z : Bool) → (x ≡ true → y ≡ true) → bit (x && z) ≤ bit (y && z)
and_more true true z e = omega arith
and_more true false z e = let p = e refl in cc
and_more false y z e = omega arith

with_id_less : (h : ℕ) (id : EventId) (masks : List Bool) (ss : List Slot)
    → with_id id (entries h masks ss) ≤ tally (is_meant h id) (ats ss)
with_id_less h id masks [] = omega arith
with_id_less h id masks (s ∷ ss) =
    omega (
      arith,
      and_more (waits_for h masks s) (may_run_on h s.at) ((id_of s.at).0 ==
          id.0) (waits_may_run h masks s),
      with_id_less h id masks ss,
    )

-- the others: none of the event, and fewer than 8, where the instance may run
pub others : (h : ℕ) (m n : List Bool) (is js : List Slot) (s : Slot) → Few (is ++ s ∷ js) → may_run_on h s.at ≡ true →
    (with_id (id_of s.at) (entries h m is ++ entries h n js) ≡ 0) × (waiting (entries h m is ++ entries h n js) < 8)
others h m n is js s f r =
    let id = id_of s.at
    in let alone : tally (is_meant h id) (ats is ++ s.at ∷ ats js) ≤ 1 = rw ats-append at (f.alone h id)
    in let few : tally (may_run_on h) (ats is ++ s.at ∷ ats js) ≤ 8 = rw ats-append at (f.few h)
    in let here : is_meant h id s.at ≡ true = rw (r, eq-eqb (id_of s.at).0 (id_of s.at).0 refl) refl
    in let one : bit (is_meant h id s.at) ≡ 1 = rw here refl
    in let run : bit (may_run_on h s.at) ≡ 1 = rw r refl
    in (
      omega (
        arith,
        tally-append (is_meant h id) (ats is) (s.at ∷ ats js),
        with_id-append id (entries h m is) (entries h n js),
        with_id_less h id m is,
        with_id_less h id n js,
      ),
      omega (
        arith,
        tally-append (may_run_on h) (ats is) (s.at ∷ ats js),
        waiting-append (entries h m is) (entries h n js),
        waiting_less h m is,
        waiting_less h n js,
      ),
    )
