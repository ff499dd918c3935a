-- Where a hart's span doesn't reach, no bank's home is the hart, so nothing is due there.
use Rattle.std.proofs.Common.{◌≡◌, ℕ, ◌<◌, ◌≤◌, ◌==◌, ◌&&◌, Bool, false, List, slice_get, Option, Some, None, is_some, refl, inl, inr, ap, ◌∙◌, arith}
use Rattle.std.proofs.lemmas.Bool.{cases_eq, ne_eqb}
use Rattle.std.proofs.lemmas.Option.{slice_get_within}
use Rattle.reri_fields.specs.Drain.{BankState, may_begin}
use Rattle.board_plan.specs.declared.plan.BankDecl.{BankDecl}
use Rattle.board_plan.specs.declared.plan.Plan.{Plan}
use Rattle.board_plan.specs.State.{BoardState, bank_plan}
use Rattle.board_plan.specs.Step.{passes, is_draining, is_waiting}
use Rattle.board_parts.specs.declared.parts.Parts.{Parts}
use Rattle.board_parts.specs.Homes.{span_of}
use Rattle.board_parts.specs.Shows.{Shows}

-- the home of this bank, if there is one, is another hart
abbrev IsForeign : Parts → ℕ → ℕ → Type 0
IsForeign p h k = (d : BankDecl) → slice_get p.decls.items k ≡ Some d → (d.home == h) ≡ false

pub before_first : (p : Parts) (h k : ℕ) → k < (span_of p.homes h).first → IsForeign p h k
before_first p h k low d here =
    elim (cases_eq d.home h) as (λ _. (d.home == h) ≡ false) [
      | inl is ↦
          absurd (omega (
            arith,
            low,
            p.homed.from k d (slice_get_within p.decls.items k d here) here,
            ap (λ n. (span_of p.homes n).first) is,
          ))
      | inr isnt ↦ ne_eqb d.home h isnt
    ]

pub behind_last : (p : Parts) (h k : ℕ) → (span_of p.homes h).end ≤ k → IsForeign p h k
behind_last p h k high d here =
    elim (cases_eq d.home h) as (λ _. (d.home == h) ≡ false) [
      | inl is ↦
          absurd (omega (
            arith,
            high,
            p.homed.up_to k d (slice_get_within p.decls.items k d here) here,
            ap (λ n. (span_of p.homes n).end) is,
          ))
      | inr isnt ↦ ne_eqb d.home h isnt
    ]

passes_none : (test : BankDecl → BankState → Bool) (o : Option BankDecl) (q : Option BankState)
    → ((d : BankDecl) (x : BankState) → o ≡ Some d → test d x ≡ false) → passes test o q ≡ false
passes_none test None None h = refl
passes_none test None (Some x) h = refl
passes_none test (Some d) None h = refl
passes_none test (Some d) (Some x) h = h d x refl

none_passes : (plan : Plan) (s : BoardState) (p : Parts) (h k : ℕ) (rest : BankDecl → BankState → Bool)
    → Shows plan s p → IsForeign p h k
    → passes (λ d x. (d.home == h) && rest d x) (slice_get plan.banks k) (slice_get s.banks k) ≡ false
none_passes plan s p h k rest shows foreign =
    passes_none (λ d x. (d.home == h) && rest d x) (slice_get plan.banks k) (slice_get s.banks k)
    (λ d x is. ap (λ own. own && rest d x) (foreign d (ap (λ (ds : List BankDecl). slice_get ds k) shows.decls ∙ is)))

pub drains_not : (plan : Plan) (s : BoardState) (p : Parts) (h k : ℕ) → Shows plan s p → IsForeign p h k
    → passes (is_draining h plan k) (slice_get plan.banks k) (slice_get s.banks k) ≡ false
drains_not plan s p h k shows foreign = none_passes plan s p h k (λ d x. is_some x.drain) shows foreign

pub waits_not : (plan : Plan) (s : BoardState) (p : Parts) (h k : ℕ) → Shows plan s p → IsForeign p h k
    → passes (is_waiting h plan k) (slice_get plan.banks k) (slice_get s.banks k) ≡ false
waits_not plan s p h k shows foreign =
    none_passes plan s p h k (λ d x. may_begin (bank_plan k d plan.recs) x) shows foreign
