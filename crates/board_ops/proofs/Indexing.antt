-- An op that is added behind others counts only where none stands at its address.
use Rattle.std.proofs.Common.{◌≡◌, ℕ, ◌==◌, Bool, true, false, cond, List, [], ◌∷◌, ◌++◌, Option, Some, None, is_some, refl, inl, inr, arith, sym, ap, ◌∙◌}
use Rattle.std.specs.List.{find}
use Rattle.std.specs.Option.{option_map}
use Rattle.std.proofs.lemmas.Bool.{cases_Bool, true≢false}
use Rattle.std.proofs.lemmas.Bool.Decides.{nat_tests}
use Rattle.board_plan.specs.declared.ops.Op.{Op}
use Rattle.board_plan.specs.declared.ops.Placed.{Placed}
use Rattle.board_plan.specs.Ops.{op_at}

-- what is found among others, or else by the op that is added
abbrev pub or_added : Option Op → Placed → ℕ → Option Op
or_added (Some op) p q = Some op
or_added None p q = cond (p.pc == q) (Some p.op) None

in_turn : (b : Bool) (x : Placed) (found later : Option Placed) (p : Placed) (q : ℕ)
    → option_map (λ y. y.op) later ≡ or_added (option_map (λ y. y.op) found) p q
    → option_map (λ y. y.op) (cond b (Some x) later) ≡ or_added (option_map (λ y. y.op) (cond b (Some x) found)) p q
in_turn true x found later p q h = refl
in_turn false x found later p q h = h

alone : (b : Bool) (p : Placed) → option_map (λ (y : Placed). y.op) (cond b (Some p) None) ≡ cond b (Some p.op) None
alone true p = refl
alone false p = refl

pub op_at-added : (ps : List Placed) (p : Placed) (q : ℕ) → op_at q (ps ++ p ∷ []) ≡ or_added (op_at q ps) p q
op_at-added [] p q = alone (p.pc == q) p
op_at-added (x ∷ ps) p q =
    in_turn (x.pc == q) x (find (λ y. y.pc == q) ps) (find (λ y. y.pc == q) (ps ++ p ∷ [])) p q (op_at-added ps p q)

-- where one stands at the address already, nothing changes
kept_here : (o : Option Op) (p : Placed) (q : ℕ) → is_some o ≡ true → or_added o p q ≡ o
kept_here None p q h = absurd (true≢false (sym h))
kept_here (Some op) p q h = refl

kept_there : (o : Option Op) (p : Placed) (q : ℕ) → (p.pc == q) ≡ false → or_added o p q ≡ o
kept_there None p q h = rw h refl
kept_there (Some op) p q h = refl

pub known_already : (ps : List Placed) (p : Placed) (q : ℕ) → is_some (op_at p.pc ps) ≡ true → op_at q (ps ++ p ∷ [])
    ≡ op_at q ps
known_already ps p q h =
    op_at-added ps p q ∙ elim (cases_Bool (p.pc == q)) as (λ _. or_added (op_at q ps) p q ≡ op_at q ps) [
      | inl here ↦
          let e : p.pc ≡ q = grind (arith, nat_tests) in
          kept_here (op_at q ps) p q (ap (λ at. is_some (op_at at ps)) (sym e) ∙ h)
      | inr elsewhere ↦ kept_there (op_at q ps) p q elsewhere
    ]

-- where none stands there, it is what is found at its address
new_here : (o : Option Op) (p : Placed) (q : ℕ) → o ≡ None → or_added o p q ≡ cond (p.pc == q) (Some p.op) o
new_here None p q h = refl
new_here (Some op) p q h = absurd (true≢false (ap is_some h))

new_there : (o : Option Op) (p : Placed) (q : ℕ) → (p.pc == q) ≡ false → or_added o p q ≡ cond (p.pc == q) (Some p.op) o
new_there None p q h = refl
new_there (Some op) p q h = rw h refl

none_of : (o : Option Op) → is_some o ≡ false → o ≡ None
none_of None h = refl
none_of (Some op) h = absurd (true≢false h)

pub first_there : (ps : List Placed) (p : Placed) (q : ℕ) → is_some (op_at p.pc ps) ≡ false
    → op_at q (ps ++ p ∷ []) ≡ cond (p.pc == q) (Some p.op) (op_at q ps)
first_there ps p q h =
    op_at-added ps p q ∙ elim (cases_Bool (p.pc == q)) as
    (λ _. or_added (op_at q ps) p q ≡ cond (p.pc == q) (Some p.op) (op_at q ps)) [
      | inl here ↦
          let e : p.pc ≡ q = grind (arith, nat_tests) in
          new_here (op_at q ps) p q (ap (λ at. op_at at ps) (sym e) ∙ none_of (op_at p.pc ps) h)
      | inr elsewhere ↦ new_there (op_at q ps) p q elsewhere
    ]
