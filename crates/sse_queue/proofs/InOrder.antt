-- A queue stays in order.
use Rattle.std.proofs.Common.{◌≡◌, true, false, cond, List, [], ◌∷◌, refl}
use Rattle.std.specs.Prelude.{◌==◌}
use Rattle.std.specs.List.{list_all}
use Rattle.std.proofs.lemmas.Bool.{and_parts, and_from, or_parts, eqb-false}
use Rattle.sse_base.specs.declared.ids.Instance.{Instance}
use Rattle.sse_base.specs.Ids.{id_of, same_instance}
use Rattle.sse_queue.specs.declared.urgency.Waiting.{Waiting}
use Rattle.sse_queue.proofs.Before.{before_both, one_before}
pub use Rattle.sse_queue.proofs.Places.{spot_at_most, put_at_spot, holds_standing, taken_out, none_out}
use Rattle.sse_queue.specs.Order.{is_before, is_in_order, has_id, put_in, without}

before_all : (a b : Waiting) (vs : List Waiting) → is_before a b ≡ true → list_all (is_before b) vs ≡ true
    → list_all (is_before a) vs ≡ true
before_all a b [] p q = refl
before_all a b (v ∷ vs) p q =
    let h = and_parts (is_before b v) (list_all (is_before b) vs) q
    in and_from (is_before a v) (list_all (is_before a) vs) (before_both a b v p h.0) (before_all a b vs p h.1)

-- what is before one and before all others is before all of them
put_before : (a w : Waiting) (vs : List Waiting) → is_before a w ≡ true → list_all (is_before a) vs ≡ true
    → list_all (is_before a) (put_in w vs) ≡ true
put_before a w [] p q = rw p refl
put_before a w (v ∷ vs) p q =
    let h = and_parts (is_before a v) (list_all (is_before a) vs) q
    in elim (is_before v w) as (λ b. list_all (is_before a) (cond b (v ∷ put_in w vs) (w ∷ v ∷ vs)) ≡ true) [
      | true ↦ and_from (is_before a v) (list_all (is_before a) (put_in w vs)) h.0 (put_before a w vs p h.1)
      | false ↦ and_from (is_before a w) (list_all (is_before a) (v ∷ vs)) p q
    ]

pub put_in_order : (w : Waiting) (vs : List Waiting) → has_id (id_of w.at) vs ≡ false → is_in_order vs ≡ true
    → is_in_order (put_in w vs) ≡ true
put_in_order w [] f h = refl
put_in_order w (v ∷ vs) f h =
    let o = or_parts ((id_of v.at).0 == (id_of w.at).0) (has_id (id_of w.at) vs) f
    in let k = and_parts (list_all (is_before v) vs) (is_in_order vs) h
    in elim (is_before v w) as (λ b. is_before v w ≡ b → is_in_order (cond b (v ∷ put_in w vs) (w ∷ v ∷ vs)) ≡ true) [
      | true ↦ λ e. and_from (list_all (is_before v) (put_in w vs)) (is_in_order (put_in w vs))
          (put_before v w vs e k.0) (put_in_order w vs o.1 k.1)
      | false ↦ λ e.
          let first = one_before v w e (eqb-false (id_of v.at).0 (id_of w.at).0 o.0)
          in and_from (list_all (is_before w) (v ∷ vs)) (is_in_order (v ∷ vs))
          (and_from (is_before w v) (list_all (is_before w) vs) first (before_all w v vs first k.0))
          h
    ] refl

-- fewer stay before
before_fewer : (a : Waiting) (at : Instance) (vs : List Waiting) → list_all (is_before a) vs ≡ true
    → list_all (is_before a) (without at vs) ≡ true
before_fewer a at [] p = refl
before_fewer a at (v ∷ vs) p =
    let h = and_parts (is_before a v) (list_all (is_before a) vs) p
    in elim (same_instance v.at at) as (λ b. list_all (is_before a) (cond b vs (v ∷ without at vs)) ≡ true) [
      | true ↦ h.1
      | false ↦ and_from (is_before a v) (list_all (is_before a) (without at vs)) h.0 (before_fewer a at vs h.1)
    ]

pub less_in_order : (at : Instance) (vs : List Waiting) → is_in_order vs ≡ true → is_in_order (without at vs) ≡ true
less_in_order at [] h = refl
less_in_order at (v ∷ vs) h =
    let k = and_parts (list_all (is_before v) vs) (is_in_order vs) h
    in elim (same_instance v.at at) as (λ b. is_in_order (cond b vs (v ∷ without at vs)) ≡ true) [
      | true ↦ k.1
      | false ↦ and_from (list_all (is_before v) (without at vs)) (is_in_order (without at vs))
          (before_fewer v at vs k.0) (less_in_order at vs k.1)
    ]

-- an instance that is put in at its place
pub ruleset put = (put_at_spot, spot_at_most, put_in_order)

-- an instance that is taken out of its place
pub ruleset taken = (taken_out, holds_standing, less_in_order)

-- an instance that is taken out where it stands
pub ruleset left = (taken_out, none_out, less_in_order)
