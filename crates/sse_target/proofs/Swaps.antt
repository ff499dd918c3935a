-- Putting in and taking out commute.
use Rattle.std.proofs.Common.{◌≡◌, suc, Bool, true, false, cond, List, [], ◌∷◌, length, refl, ap, sym, ◌∙◌, arith}
use Rattle.std.specs.Prelude.{◌==◌, ◌||◌}
use Rattle.std.proofs.lemmas.Bool.{or_parts}
use Rattle.sse_base.specs.declared.ids.EventId.{EventId}
use Rattle.sse_base.specs.declared.ids.Instance.{Instance}
use Rattle.sse_base.specs.Ids.{id_of, same_instance}
use Rattle.sse_base.proofs.Instances.{same_id, same_self}
use Rattle.sse_queue.specs.declared.urgency.Waiting.{Waiting}
use Rattle.sse_queue.specs.Order.{is_before, holds, has_id, put_in, without}
use Rattle.sse_queue.proofs.Before.{one_before, never_both, before_past}
use Rattle.sse_target.specs.Steps.{put_if}

-- putting in, by which is the more urgent
before_it : (w v : Waiting) (vs : List Waiting) → is_before v w ≡ true → put_in w (v ∷ vs) ≡ v ∷ put_in w vs
before_it w v vs e = rw e refl

behind_it : (w v : Waiting) (vs : List Waiting) → is_before v w ≡ false → put_in w (v ∷ vs) ≡ w ∷ v ∷ vs
behind_it w v vs e = rw e refl

Differ : Waiting → Waiting → Type 0
Differ a b = (id_of a.at).0 ≡ (id_of b.at).0 → ⊥

-- both in front of the rest, in either order
two_in_front : (a b : Waiting) (vs : List Waiting) → ((id_of a.at).0 ≡ (id_of b.at).0 → ⊥) → put_in a vs ≡ a ∷ vs
    → put_in b vs ≡ b ∷ vs →
    put_in a (b ∷ vs) ≡ put_in b (a ∷ vs)
two_in_front a b vs d p q =
    elim (is_before b a) as (λ x. is_before b a ≡ x → put_in a (b ∷ vs) ≡ put_in b (a ∷ vs)) [
      | true ↦ λ e. before_it a b vs e ∙ ap (λ us. b ∷ us) p ∙ sym (behind_it b a vs (never_both b a e))
      | false ↦ λ e. behind_it a b vs e ∙ sym (before_it b a vs (one_before b a e (λ r. d (sym r)))
          ∙ ap (λ us. a ∷ us) q)
    ] refl

-- one in front of the rest, the other further behind
one_in_front : (a b v : Waiting) (vs : List Waiting) → is_before v a ≡ true → is_before v b ≡ false →
    put_in a (b ∷ v ∷ vs) ≡ b ∷ v ∷ put_in a vs
one_in_front a b v vs p q = before_it a b (v ∷ vs) (before_past v a b p q) ∙ ap (λ us. b ∷ us) (before_it a v vs p)

-- events of different ids, in either order
pub swap : (a b : Waiting) (vs : List Waiting) → ((id_of a.at).0 ≡ (id_of b.at).0 → ⊥)
    → put_in a (put_in b vs) ≡ put_in b (put_in a vs)
swap a b [] d = two_in_front a b [] d refl refl
swap a b (v ∷ vs) d =
    elim (is_before v a) as (λ x. is_before v a ≡ x → put_in a (put_in b (v ∷ vs)) ≡ put_in b (put_in a (v ∷ vs))) [
      | true ↦ λ p. elim (is_before v b) as (λ y. is_before v b ≡ y → put_in a (put_in b (v ∷ vs))
          ≡ put_in b (put_in a (v ∷ vs))) [
            | true ↦ λ q.
                ap (put_in a) (before_it b v vs q) ∙ before_it a v (put_in b vs) p ∙ ap (λ us. v ∷ us) (swap a b vs d)
                ∙ sym (ap (put_in b) (before_it a v vs p) ∙ before_it b v (put_in a vs) q)
            | false ↦ λ q.
                ap (put_in a) (behind_it b v vs q) ∙ one_in_front a b v vs p q
                ∙ sym (ap (put_in b) (before_it a v vs p) ∙ behind_it b v (put_in a vs) q)
          ] refl
      | false ↦ λ p. elim (is_before v b) as (λ y. is_before v b ≡ y → put_in a (put_in b (v ∷ vs))
          ≡ put_in b (put_in a (v ∷ vs))) [
            | true ↦ λ q.
                ap (put_in a) (before_it b v vs q) ∙ behind_it a v (put_in b vs) p
                ∙ sym (ap (put_in b) (behind_it a v vs p) ∙ one_in_front b a v vs q p)
            | false ↦ λ q.
                ap (put_in a) (behind_it b v vs q)
                ∙ two_in_front a b (v ∷ vs) d (behind_it a v vs p) (behind_it b v vs q)
                ∙ sym (ap (put_in b) (behind_it a v vs p))
          ] refl
    ] refl

pub swap_if : (x y : Bool) (a b : Waiting) (vs : List Waiting)
    → (x ≡ true → y ≡ true → (id_of a.at).0 ≡ (id_of b.at).0 → ⊥) →
    put_if x a (put_if y b vs) ≡ put_if y b (put_if x a vs)
swap_if true true a b vs d = swap a b vs (d refl refl)
swap_if true false a b vs d = refl
swap_if false true a b vs d = refl
swap_if false false a b vs d = refl

-- who is there after one is put in
pub id_put : (id : EventId) (w : Waiting) (vs : List Waiting)
    → has_id id (put_in w vs) ≡ (((id_of w.at).0 == id.0) || has_id id vs)
id_put id w [] = refl
id_put id w (v ∷ vs) =
    elim (is_before v w) as (λ b. has_id id (cond b (v ∷ put_in w vs) (w ∷ v ∷ vs))
    ≡ (((id_of w.at).0 == id.0) || has_id id (v ∷ vs))) [
      | true ↦ grind (arith, id_put id w vs)
      | false ↦ refl
    ]

pub length_put : (w : Waiting) (vs : List Waiting) → length (put_in w vs) ≡ suc (length vs)
length_put w [] = refl
length_put w (v ∷ vs) = grind (arith, length_put w vs)

-- an instance isn't there where no instance of its event is
pub not_held : (at : Instance) (vs : List Waiting) → has_id (id_of at) vs ≡ false → holds at vs ≡ false
not_held at [] e = refl
not_held at (v ∷ vs) e =
    let p = or_parts ((id_of v.at).0 == (id_of at).0) (has_id (id_of at) vs) e
    in grind (arith, same_id v.at at, p.0, not_held at vs p.1)

-- taking out who isn't there, and who was just put in
pub without_none : (at : Instance) (vs : List Waiting) → holds at vs ≡ false → without at vs ≡ vs
without_none at [] e = refl
without_none at (v ∷ vs) e =
    let p = or_parts (same_instance v.at at) (holds at vs) e
    in rw p.0 (ap (λ us. v ∷ us) (without_none at vs p.1))

pub without_put : (w : Waiting) (vs : List Waiting) → holds w.at vs ≡ false → without w.at (put_in w vs) ≡ vs
without_put w [] e = rw (same_self w.at) refl
without_put w (v ∷ vs) e =
    let p = or_parts (same_instance v.at w.at) (holds w.at vs) e
    in elim (is_before v w) as (λ b. without w.at (cond b (v ∷ put_in w vs) (w ∷ v ∷ vs)) ≡ v ∷ vs) [
      | true ↦ rw p.0 (ap (λ us. v ∷ us) (without_put w vs p.1))
      | false ↦ rw (same_self w.at) refl
    ]
