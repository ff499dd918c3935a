-- What may wait for a hart, instance by instance: whether it waits, and as what.
use Rattle.std.proofs.Common.{◌≡◌, ℕ, ◌+◌, ◌<◌, Bool, true, false, cond, List, [], ◌∷◌, ◌++◌, length, refl, ap, ◌∙◌, arith}
use Rattle.std.specs.Prelude.{◌==◌, ◌&&◌, filter}
use Rattle.std.proofs.lemmas.Bool.{eq-eqb}
use Rattle.sse_base.specs.declared.ids.EventId.{EventId}
use Rattle.sse_base.specs.declared.events.Slot.{Slot}
use Rattle.sse_base.specs.Ids.{id_of}
use Rattle.sse_base.specs.Contexts.{bit}
use Rattle.sse_base.specs.Choice.{waits_for}
use Rattle.sse_queue.specs.declared.urgency.Waiting.{Waiting}
use Rattle.sse_queue.specs.Order.{has_id, holds, put_in, without}
use Rattle.sse_target.specs.Lines.{waiting_of, lined_up}
use Rattle.sse_target.specs.Steps.{put_if, Takes}
use Rattle.sse_target.proofs.Swaps.{swap_if, id_put, length_put, not_held, without_none, without_put}

pub record Entry : Type 0 where
  pub waits : Bool
  pub one : Waiting

abbrev pub entry : ℕ → List Bool → Slot → Entry
entry h masks s = record { waits = waits_for h masks s; one = waiting_of s }

abbrev pub entries : ℕ → List Bool → List Slot → List Entry
entries h masks [] = []
entries h masks (s ∷ ss) = entry h masks s ∷ entries h masks ss

-- those that wait, in order
abbrev pub lined : List Entry → List Waiting
lined [] = []
lined (e ∷ es) = put_if e.waits e.one (lined es)

pub by_slots : (h : ℕ) (masks : List Bool) (ss : List Slot) → lined_up (filter (waits_for h masks) ss)
    ≡ lined (entries h masks ss)
by_slots h masks [] = refl
by_slots h masks (s ∷ ss) =
    elim (waits_for h masks s) as (λ b. lined_up (cond b (s
    ∷ filter (waits_for h masks) ss) (filter (waits_for h masks) ss))
    ≡ put_if b (waiting_of s) (lined (entries h masks ss))) [
      | true ↦ ap (put_in (waiting_of s)) (by_slots h masks ss)
      | false ↦ by_slots h masks ss
    ]

pub entries-append : (h : ℕ) (masks : List Bool) (ss us : List Slot) → entries h masks (ss ++ us) ≡ entries h masks ss
    ++ entries h masks us
entries-append h masks [] us = refl
entries-append h masks (s ∷ ss) us = ap (λ es. entry h masks s ∷ es) (entries-append h masks ss us)

-- how many wait, and how many of them of one event
abbrev pub waiting : List Entry → ℕ
waiting [] = 0
waiting (e ∷ es) = bit e.waits + waiting es

abbrev pub with_id : EventId → List Entry → ℕ
with_id id [] = 0
with_id id (e ∷ es) = bit (e.waits && ((id_of e.one.at).0 == id.0)) + with_id id es

pub waiting-append : (es fs : List Entry) → waiting (es ++ fs) ≡ waiting es + waiting fs
waiting-append [] fs = omega arith
waiting-append (e ∷ es) fs = omega (arith, waiting-append es fs)

pub with_id-append : (id : EventId) (es fs : List Entry) → with_id id (es ++ fs) ≡ with_id id es + with_id id fs
with_id-append id [] fs = omega arith
with_id-append id (e ∷ es) fs = omega (arith, with_id-append id es fs)

-- one that waits under its own id counts
no_two : (x y : Bool) (a b n : ℕ) → bit (x && (a == b)) + n ≡ 0 → x ≡ true → a ≡ b → ⊥
no_two true y a b n p e r = let q = eq-eqb a b r in grind (arith, p, q)
no_two false y a b n p e r = cc

-- one entry may be put in last
pub pulled : (ps qs : List Entry) (e : Entry) → with_id (id_of e.one.at) ps ≡ 0
    → lined (ps ++ e ∷ qs) ≡ put_if e.waits e.one (lined (ps ++ qs))
pulled [] qs e f = refl
pulled (p ∷ ps) qs e f =
    ap (put_if p.waits p.one) (pulled ps qs e (omega arith))
    ∙ swap_if p.waits e.waits p.one e.one (lined (ps ++ qs)) (λ x y r. no_two p.waits true (id_of p.one.at).0
    (id_of e.one.at).0 (with_id (id_of e.one.at) ps) f x r)

-- what is in line
pub many : (es : List Entry) → length (lined es) ≡ waiting es
many [] = refl
many (e ∷ es) =
    elim (e.waits) as (λ b. length (put_if b e.one (lined es)) ≡ bit b + waiting es) [
      | true ↦ omega (arith, length_put e.one (lined es), many es)
      | false ↦ omega (arith, many es)
    ]

pub free : (id : EventId) (es : List Entry) → with_id id es ≡ 0 → has_id id (lined es) ≡ false
free id [] f = refl
free id (e ∷ es) f =
    elim (e.waits) as (λ b. bit (b && ((id_of e.one.at).0 == id.0)) + with_id id es ≡ 0
    → has_id id (put_if b e.one (lined es)) ≡ false) [
      | true ↦ λ g.
          let here : ((id_of e.one.at).0 == id.0) ≡ false = grind (arith, g)
          in rw (id_put id e.one (lined es), here) (free id es (omega arith))
      | false ↦ λ g. free id es (omega arith)
    ] f

-- without one entry
pub lone : (ps qs : List Entry) (e : Entry) → with_id (id_of e.one.at) (ps ++ qs) ≡ 0
    → without e.one.at (lined (ps ++ e ∷ qs)) ≡ lined (ps ++ qs)
lone ps qs e f =
    let none : holds e.one.at (lined (ps ++ qs)) ≡ false =
    not_held e.one.at (lined (ps ++ qs)) (free (id_of e.one.at) (ps ++ qs) f)
    in let front : with_id (id_of e.one.at) ps ≡ 0 = omega (arith, with_id-append (id_of e.one.at) ps qs)
    in ap (without e.one.at) (pulled ps qs e front)
    ∙ elim (e.waits) as (λ b. without e.one.at (put_if b e.one (lined (ps ++ qs))) ≡ lined (ps ++ qs)) [
      | true ↦ without_put e.one (lined (ps ++ qs)) none
      | false ↦ without_none e.one.at (lined (ps ++ qs)) none
    ]

pub takes : (w : Waiting) (es : List Entry) → with_id (id_of w.at) es ≡ 0 → waiting es < 8 → Takes w (lined es)
takes w es f k = record { room = omega (arith, many es); id = free (id_of w.at) es f }
