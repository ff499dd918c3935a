-- A board at its start has all that the firmware keeps.
use Rattle.std.proofs.Common.{◌≡◌, ℕ, zero, suc, ◌+◌, ◌<◌, ◌≤◌, Bool, true, false, List, [], ◌∷◌, ◌++◌, length, get_or, map, replicate, refl, ap, sym, ◌∙◌, arith, inl, inr, length-append}
use Rattle.std.specs.Prelude.{filter, ◌==◌, ◌&&◌, not}
use Rattle.std.specs.List.{flat_map}
use Rattle.std.proofs.lemmas.Bool.{cases_Bool, cases_lt}
use Rattle.std.proofs.lemmas.Bool.Decides.{nat_tests, eqb_tells}
use Rattle.std.proofs.lemmas.List.{length-replicate, length-map}
use Rattle.std.proofs.lemmas.List.Elements.{filter-append}
use Rattle.sse_base.specs.declared.ids.EventId.{EventId}
use Rattle.sse_base.specs.declared.ids.Instance.{Instance}
use Rattle.sse_base.specs.declared.ids.Instance.TheVariants.{Local, Global}
use Rattle.sse_base.specs.declared.events.Event.{Event}
use Rattle.sse_base.specs.declared.events.EventDecl.{EventDecl}
use Rattle.sse_base.specs.Ids.{same_instance, place, id_of, is_global, on_harts, instances_of_event, by_rising_id, in_order, may_run_on, is_meant}
use Rattle.sse_base.specs.Events.{fresh_event, fresh_events, is_running, start_events}
use Rattle.sse_base.specs.Contexts.{Stack, bit, fresh_stack}
use Rattle.sse_table.proofs.Orders.{order_length, as_many_events}
use Rattle.sse_base.specs.Start.{has_id, are_distinct}
use Rattle.sse_target.specs.Lines.{fresh_lines}
use Rattle.sse_target.proofs.Tables.{fresh_holds}
use Rattle.sbi_sse.specs.Kept.{times, ats, running, IsBoard, IsKept, Serves}
use Rattle.sbi_sse.proofs.Counting.{times_append, placed_stands, standing_placed}

-- One event on each hart: each hart's instance stands once.

local_times : (a b : EventId) (h k : ℕ) → times (Local b k) (Local a h ∷ []) ≡ bit ((a.0 == b.0) && (h == k)) + 0
unfolding same_instance
local_times a b h k = refl

global_apart : (a b : EventId) (h : ℕ) → times (Global b) (Local a h ∷ []) ≡ 0
unfolding same_instance
global_apart a b h = refl

none_beyond : (a b : EventId) (n k : ℕ) → n ≤ k → times (Local b k) (on_harts a n) ≡ 0
none_beyond a b zero k l = refl
none_beyond a b (suc n) k l =
    let e : bit ((a.0 == b.0) && (n == k)) ≡ 0 =
    elim (cases_Bool (a.0 == b.0)) [ inl p ↦ grind (arith, nat_tests) | inr p ↦ rw p refl ]
    in omega (
      arith,
      times_append (Local b k) (on_harts a n) (Local a n ∷ []),
      local_times a b n k,
      none_beyond a b n k (omega arith),
    )

one_at_most : (a b : EventId) (n k : ℕ) → times (Local b k) (on_harts a n) ≤ bit (a.0 == b.0)
one_at_most a b zero k = omega arith
one_at_most a b (suc n) k =
    elim (eqb_tells n k) [
      | inl e ↦
          let p : bit ((a.0 == b.0) && (n == k)) ≤ bit (a.0 == b.0) =
          elim (cases_Bool (a.0 == b.0)) [ inl q ↦ rw (q, e.0) (omega arith) | inr q ↦ rw q (omega arith) ]
          in omega (
            arith,
            times_append (Local b k) (on_harts a n) (Local a n ∷ []),
            local_times a b n k,
            none_beyond a b n k (omega arith),
          )
      | inr e ↦
          let p : bit ((a.0 == b.0) && (n == k)) ≡ 0 =
          elim (cases_Bool (a.0 == b.0)) [ inl q ↦ rw (q, e.0) refl | inr q ↦ rw q refl ]
          in omega (
            arith,
            times_append (Local b k) (on_harts a n) (Local a n ∷ []),
            local_times a b n k,
            one_at_most a b n k,
          )
    ]

one_below : (a b : EventId) (n k : ℕ) → k < n → (a.0 == b.0) ≡ true → 0 < times (Local b k) (on_harts a n)
one_below a b zero k l q = absurd (omega arith)
one_below a b (suc n) k l q =
    elim (eqb_tells n k) [
      | inl e ↦
          let p : bit ((a.0 == b.0) && (n == k)) ≡ 1 = rw (q, e.0) refl
          in omega (arith, times_append (Local b k) (on_harts a n) (Local a n ∷ []), local_times a b n k)
      | inr e ↦
          omega (
            arith,
            times_append (Local b k) (on_harts a n) (Local a n ∷ []),
            one_below a b n k (omega (arith, e.1)) q,
          )
    ]

no_global : (a b : EventId) (n : ℕ) → times (Global b) (on_harts a n) ≡ 0
no_global a b zero = refl
no_global a b (suc n) = omega (
  arith,
  times_append (Global b) (on_harts a n) (Local a n ∷ []),
  global_apart a b n,
  no_global a b n,
)

-- The instances of one event.

global_once : (a : EventId) (x : Instance) → times x (Global a ∷ []) ≤ bit (a.0 == (id_of x).0)
unfolding same_instance
global_once a (Local b k) = omega arith
global_once a (Global b) = omega arith

hart_once : (a : EventId) (n : ℕ) (x : Instance) → times x (on_harts a n) ≤ bit (a.0 == (id_of x).0)
hart_once a n (Local b k) = one_at_most a b n k
hart_once a n (Global b) = omega (arith, no_global a b n)

event_once : (n : ℕ) (a : EventId) (x : Instance) → times x (instances_of_event n a) ≤ bit (a.0 == (id_of x).0)
event_once n a x =
    elim (cases_Bool (is_global a.0)) [ inl g ↦ rw g (global_once a x) | inr g ↦ rw g (hart_once a n x) ]

local_apart : (a b : EventId) (h : ℕ) → times (Local b h) (Global a ∷ []) ≡ 0
unfolding same_instance
local_apart a b h = refl

event_whole : (n : ℕ) (a b : EventId) (h k : ℕ) → 0 < times (Local b h) (instances_of_event n a) → k < n
    → 0 < times (Local b k) (instances_of_event n a)
event_whole n a b h k p l =
    elim (cases_Bool (is_global a.0)) [
      | inl g ↦
          let e : times (Local b h) (instances_of_event n a) ≡ 0 = rw g (local_apart a b h)
          in absurd (omega arith)
      | inr g ↦ elim (cases_Bool (a.0 == b.0)) [
        | inl q ↦ rw g (one_below a b n k l q)
        | inr q ↦
            let e : bit (a.0 == b.0) ≡ 0 = rw q refl
            in absurd (omega (arith, event_once n a (Local b h)))
      ]
    ]

-- at most one of them may run on a hart
few_alone : (a : EventId) (h k : ℕ) → length (filter (may_run_on h) (Local a k ∷ [])) ≡ bit (k == h)
few_alone a h k = elim (cases_Bool (k == h)) [ inl e ↦ rw e refl | inr e ↦ rw e refl ]

few_more : (a : EventId) (h n : ℕ) →
    length (filter (may_run_on h) (on_harts a (suc n))) ≡ length (filter (may_run_on h) (on_harts a n)) + bit (n == h)
few_more a h n =
    omega (
      arith,
      ap length (filter-append (may_run_on h) (on_harts a n) (Local a n ∷ [])),
      length-append (filter (may_run_on h) (on_harts a n)) (filter (may_run_on h) (Local a n ∷ [])),
      few_alone a h n,
    )

few_beyond : (a : EventId) (h n : ℕ) → n ≤ h → length (filter (may_run_on h) (on_harts a n)) ≡ 0
few_beyond a h zero l = refl
few_beyond a h (suc n) l =
    let e : bit (n == h) ≡ 0 = grind (arith, nat_tests)
    in omega (arith, few_more a h n, few_beyond a h n (omega arith))

few_harts : (a : EventId) (h n : ℕ) → length (filter (may_run_on h) (on_harts a n)) ≤ 1
few_harts a h zero = omega arith
few_harts a h (suc n) =
    elim (eqb_tells n h) [
      | inl e ↦
          let p : bit (n == h) ≡ 1 = rw e.0 refl
          in omega (arith, few_more a h n, few_beyond a h n (omega (arith, e.1)))
      | inr e ↦
          let p : bit (n == h) ≡ 0 = rw e.0 refl
          in omega (arith, few_more a h n, few_harts a h n)
    ]

event_few : (n : ℕ) (a : EventId) (h : ℕ) → length (filter (may_run_on h) (instances_of_event n a)) ≤ 1
event_few n a h = elim (cases_Bool (is_global a.0)) [ inl g ↦ rw g (omega arith) | inr g ↦ rw g (few_harts a h n) ]

-- All events.

abbrev all : ℕ → List EventDecl → List Instance
all n ds = flat_map (λ d. instances_of_event n d.id) ds

abbrev how_many : ℕ → List EventDecl → ℕ
how_many id [] = 0
how_many id (d ∷ ds) = bit (d.id.0 == id) + how_many id ds

all_times : (n : ℕ) (x : Instance) (ds : List EventDecl) → times x (all n ds) ≤ how_many (id_of x).0 ds
all_times n x [] = omega arith
all_times n x (d ∷ ds) = omega (
  arith,
  times_append x (instances_of_event n d.id) (all n ds),
  event_once n d.id x,
  all_times n x ds,
)

all_whole : (n : ℕ) (b : EventId) (h k : ℕ) (ds : List EventDecl) → 0 < times (Local b h) (all n ds) → k < n
    → 0 < times (Local b k) (all n ds)
all_whole n b h k [] p l = absurd (omega arith)
all_whole n b h k (d ∷ ds) p l =
    elim (cases_lt 0 (times (Local b h) (instances_of_event n d.id))) [
      | inl q ↦ omega (
        arith,
        times_append (Local b k) (instances_of_event n d.id) (all n ds),
        event_whole n d.id b h k q l,
      )
      | inr q ↦
          let r : 0 < times (Local b h) (all n ds) =
          omega (arith, times_append (Local b h) (instances_of_event n d.id) (all n ds))
          in omega (arith, times_append (Local b k) (instances_of_event n d.id) (all n ds), all_whole n b h k ds r l)
    ]

all_few : (n h : ℕ) (ds : List EventDecl) → length (filter (may_run_on h) (all n ds)) ≤ length ds
all_few n h [] = omega arith
all_few n h (d ∷ ds) =
    omega (
      arith,
      ap length (filter-append (may_run_on h) (instances_of_event n d.id) (all n ds)),
      length-append (filter (may_run_on h) (instances_of_event n d.id)) (filter (may_run_on h) (all n ds)),
      event_few n d.id h,
      all_few n h ds,
    )

-- each id is declared once, in whatever order
order_one : (id : ℕ) (d : EventDecl) (ds : List EventDecl) → how_many id (by_rising_id d ds)
    ≡ bit (d.id.0 == id) + how_many id ds
order_one id d [] = refl
order_one id d (e ∷ es) = grind (arith, order_one id d es)

order_many : (id : ℕ) (ds : List EventDecl) → how_many id (in_order ds) ≡ how_many id ds
order_many id [] = refl
order_many id (d ∷ ds) = omega (arith, order_one id d (in_order ds), order_many id ds)

none_of : (id : ℕ) (ds : List EventDecl) → has_id id ds ≡ false → how_many id ds ≡ 0
none_of id [] e = refl
none_of id (d ∷ ds) e =
    elim (cases_Bool (d.id.0 == id)) [
      | inl p ↦ let q : has_id id (d ∷ ds) ≡ true = rw p refl in cc
      | inr p ↦
          let q : has_id id ds ≡ false = rw p at e
          in rw p (omega (arith, none_of id ds q))
    ]

both_hold : (a b : Bool) → (not a && b) ≡ true → (a ≡ false) × (b ≡ true)
both_hold true b e = cc
both_hold false b e = (refl, e)

declared_once : (id : ℕ) (ds : List EventDecl) → are_distinct ds ≡ true → how_many id ds ≤ 1
declared_once id [] e = omega arith
declared_once id (d ∷ ds) e =
    let p = both_hold (has_id d.id.0 ds) (are_distinct ds) e
    in elim (eqb_tells d.id.0 id) [
      | inl q ↦
          let r : how_many id ds ≡ 0 = none_of id ds (ap (λ (i : ℕ). has_id i ds) (sym q.1) ∙ p.0)
          in let b : bit (d.id.0 == id) ≡ 1 = rw q.0 refl
          in omega arith
      | inr q ↦
          let b : bit (d.id.0 == id) ≡ 0 = rw q.0 refl
          in omega (arith, declared_once id ds p.1)
    ]

fresh_board : (n : ℕ) (ds : List EventDecl) → length ds ≤ 8 → are_distinct ds ≡ true → IsBoard n (all n (in_order ds))
fresh_board n ds l e =
    record {
      once = λ x. omega (arith, all_times n x (in_order ds), order_many (id_of x).0 ds, declared_once (id_of x).0 ds e);
      few = λ h. omega (arith, all_few n h (in_order ds), order_length ds);
      whole = λ id h k p q.
          standing_placed (Local id k) (all n (in_order ds))
          (all_whole n id h k (in_order ds) (placed_stands (Local id h) (all n (in_order ds)) p) q);
    }

-- Nothing runs.

abbrev AreIdle : List Event → Type 0
AreIdle [] = Unit {0}
AreIdle (e ∷ es) = (is_running e.state ≡ false) × AreIdle es

idle_append : (es fs : List Event) → AreIdle es → AreIdle fs → AreIdle (es ++ fs)
idle_append [] fs p q = q
idle_append (e ∷ es) fs p q = (p.0, idle_append es fs p.1 q)

idle_fresh : (b : Bool) (is : List Instance) → AreIdle (fresh_events b is)
idle_fresh b [] = tt
idle_fresh b (i ∷ is) = (refl, idle_fresh b is)

idle_all : (n : ℕ) (ds : List EventDecl)
    → AreIdle (flat_map (λ d. fresh_events d.inject (instances_of_event n d.id)) ds)
idle_all n [] = tt
idle_all n (d ∷ ds) =
    idle_append (fresh_events d.inject (instances_of_event n d.id)) _
    (idle_fresh d.inject (instances_of_event n d.id)) (idle_all n ds)

idle_at : (es : List Event) (i : ℕ) → AreIdle es → is_running (get_or es i (fresh_event false 0)).state ≡ false
idle_at [] i p = refl
idle_at (e ∷ es) zero p = p.0
idle_at (e ∷ es) (suc i) p = idle_at es i p.1

none_run : (x : Instance) (starts : List ℕ) → times x (running (map fresh_stack starts)) ≡ 0
none_run x [] = refl
none_run x (pc ∷ starts) = none_run x starts

no_frames : (x : Instance) (starts : List ℕ) (h : ℕ) (d : Stack) → h < length starts
    → times x (ats (get_or (map fresh_stack starts) h d).frames) ≡ 0
no_frames x [] h d l = absurd (omega arith)
no_frames x (pc ∷ starts) zero d l = refl
no_frames x (pc ∷ starts) (suc h) d l = no_frames x starts h d (omega arith)

as_many_stacks : (starts : List ℕ) → length (map fresh_stack starts) ≡ length starts
as_many_stacks [] = refl
as_many_stacks (pc ∷ starts) = ap suc (as_many_stacks starts)

pub fresh_kept : (n : ℕ) (ds : List EventDecl) (starts : List ℕ) → length ds ≤ 8 → are_distinct ds ≡ true
    → length starts ≡ n →
    IsKept (start_events n ds) (replicate n true) (map fresh_stack starts)
fresh_kept n ds starts l e m =
    record {
      board = fresh_board n ds l e;
      each = as_many_events n (in_order ds);
      masked = length-replicate n true;
      harts = as_many_stacks starts ∙ m;
      framed = λ x. none_run x starts
          ∙ ap bit (sym (idle_at _ (place x (start_events n ds).instances) (idle_all n (in_order ds))));
      own = λ h d x p q.
          (let r : h < length starts = omega (arith, as_many_stacks starts)
          in absurd (omega (arith, no_frames x starts h d r)));
    }

-- What waits: nothing. And on each hart an event means one instance.

meant_less : (h : ℕ) (id : EventId) (xs : List Instance)
    → length (filter (is_meant h id) xs) ≤ length (filter (may_run_on h) xs)
meant_less h id [] = omega arith
meant_less h id (x ∷ xs) =
    elim (cases_Bool (may_run_on h x)) [
      | inl r ↦ elim (cases_Bool ((id_of x).0 == id.0)) [
        | inl e ↦ rw (r, e) (omega (arith, meant_less h id xs))
        | inr e ↦ rw (r, e) (omega (arith, meant_less h id xs))
      ]
      | inr r ↦ rw r (meant_less h id xs)
    ]

other_alone : (a id : EventId) (h k : ℕ) → (a.0 == id.0) ≡ false → length (filter (is_meant h id) (Local a k ∷ [])) ≡ 0
other_alone a id h k e = elim (cases_Bool (k == h)) [ inl q ↦ rw (q, e) refl | inr q ↦ rw q refl ]

other_harts : (a id : EventId) (h n : ℕ) → (a.0 == id.0) ≡ false → length (filter (is_meant h id) (on_harts a n)) ≡ 0
other_harts a id h zero e = refl
other_harts a id h (suc n) e =
    omega (
      arith,
      ap length (filter-append (is_meant h id) (on_harts a n) (Local a n ∷ [])),
      length-append (filter (is_meant h id) (on_harts a n)) (filter (is_meant h id) (Local a n ∷ [])),
      other_alone a id h n e,
      other_harts a id h n e,
    )

event_meant : (n : ℕ) (a id : EventId) (h : ℕ)
    → length (filter (is_meant h id) (instances_of_event n a)) ≤ bit (a.0 == id.0)
event_meant n a id h =
    elim (cases_Bool (a.0 == id.0)) [
      | inl e ↦ rw e (omega (arith, meant_less h id (instances_of_event n a), event_few n a h))
      | inr e ↦ elim (cases_Bool (is_global a.0)) [
        | inl g ↦ rw (g, e) (omega arith)
        | inr g ↦ rw (g, e) (omega (arith, other_harts a id h n e))
      ]
    ]

all_meant : (n h : ℕ) (id : EventId) (ds : List EventDecl)
    → length (filter (is_meant h id) (all n ds)) ≤ how_many id.0 ds
all_meant n h id [] = omega arith
all_meant n h id (d ∷ ds) =
    omega (
      arith,
      ap length (filter-append (is_meant h id) (instances_of_event n d.id) (all n ds)),
      length-append (filter (is_meant h id) (instances_of_event n d.id)) (filter (is_meant h id) (all n ds)),
      event_meant n d.id id h,
      all_meant n h id ds,
    )

pub fresh_serves : (n : ℕ) (ds : List EventDecl) → length ds ≤ 8 → are_distinct ds ≡ true
    → Serves (fresh_lines n) (start_events n ds)
fresh_serves n ds l e =
    record {
      holds = fresh_holds n (start_events n ds) (all n (in_order ds)) refl;
      fits = record {
        alone = λ h id. omega (arith, all_meant n h id (in_order ds), order_many id.0 ds, declared_once id.0 ds e);
        few = λ h. omega (arith, all_few n h (in_order ds), order_length ds);
      };
      marks = length-map (all n (in_order ds)) (λ (at : Instance). false);
    }
