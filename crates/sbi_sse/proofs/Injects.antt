-- An injection in code, which names the instance on the other hart, and in the book, which names it by its id.
use Rattle.std.proofs.Common.{◌≡◌, ℕ, Bool, true, false, refl, ap, sym, ◌∙◌}
use Rattle.std.specs.Prelude.{if◌then◌else◌, ◌&&◌, not, nat_lt, Some, None, Result, Ok, Err}
use Rattle.sse_base.specs.declared.ids.Instance.{Instance}
use Rattle.sse_base.specs.declared.ids.Instance.TheVariants.{Local, Global}
use Rattle.sse_base.specs.declared.codes.SbiCode.{SbiCode}
use Rattle.sse_base.specs.declared.codes.SbiCode.TheVariants.{InvalidParam, NotSupported}
use Rattle.sse_base.specs.Ids.{is_global, instance_of, is_local}
use Rattle.sse_base.specs.Events.{Events, event, signal, is_on_board}
use Rattle.sse_base.specs.Calls.{refused, accepted, find_instance, is_reserved, inject}
use Rattle.sbi_sse.specs.Elsewhere.{elsewhere}

abbrev ok : Instance → Result Instance SbiCode
ok x = Ok x

ok_is : (x y : Instance) → ok x ≡ ok y → x ≡ y
ok_is x y e = cc

found_is : (a b : Bool) (x at : Instance) →
    (if a then Err InvalidParam else (if b then Ok x else Err NotSupported)) ≡ ok at → x ≡ at
found_is true b x at e = cc
found_is false true x at e = ok_is x at e
found_is false false x at e = cc

pub found_named : (id h : ℕ) (t : Events) (at : Instance) → find_instance id h t ≡ Ok at → instance_of id h ≡ at
found_named id h t at e = found_is (is_reserved id) (is_on_board (instance_of id h) t) (instance_of id h) at e

some_is : (x y : Instance) → Some x ≡ Some y → x ≡ y
some_is x y e = cc

if_some : (b : Bool) (x to : Instance) → (if b then Some x else None) ≡ Some to → (b ≡ true) × (x ≡ to)
if_some true x to e = (refl, some_is x to e)
if_some false x to e = cc

if_none : (b : Bool) (x : Instance) → (if b then Some x else None) ≡ None → b ≡ false
if_none true x e = cc
if_none false x e = refl

-- where it goes is the instance of its id there
elsewhere_named : (g : Bool) (id h k n : ℕ) (to : Instance) →
    elsewhere (if g then Global (record { 0 = id }) else Local (record { 0 = id }) h) k n ≡ Some to →
    to ≡ (if g then Global (record { 0 = id }) else Local (record { 0 = id }) k)
elsewhere_named true id h k n to e = sym (some_is _ to e)
elsewhere_named false id h k n to e = sym (if_some (nat_lt k n) _ to e).1

pub injected_to : (id h k n : ℕ) (t : Events) (at to : Instance) → find_instance id h t ≡ Ok at
    → elsewhere at k n ≡ Some to → to ≡ instance_of id k
injected_to id h k n t at to f e =
    elsewhere_named (is_global id) id h k n to (ap (λ (x : Instance). elsewhere x k n) (found_named id h t at f) ∙ e)

-- a local instance goes to a hart of the board, or nowhere
hart_there : (at to : Instance) (k n : ℕ) → elsewhere at k n ≡ Some to → (is_local at && not (nat_lt k n)) ≡ false
hart_there (Local id h) to k n e = rw (if_some (nat_lt k n) (Local id k) to e).0 refl
hart_there (Global id) to k n e = refl

hart_missing : (at : Instance) (k n : ℕ) → elsewhere at k n ≡ None → (is_local at && not (nat_lt k n)) ≡ true
hart_missing (Local id h) k n e = rw (if_none (nat_lt k n) (Local id k) e) refl
hart_missing (Global id) k n e = cc

pub injected_none : (id k n : ℕ) (t : Events) (at : Instance) → (event at t).inject ≡ true → n ≡ t.harts
    → elsewhere at k n ≡ None →
    inject id k at t ≡ refused InvalidParam t
injected_none id k n t at i m e =
    let p : (is_local at && not (nat_lt k t.harts)) ≡ true =
    hart_missing at k t.harts (ap (λ (j : ℕ). elsewhere at k j) (sym m) ∙ e)
    in rw (i, p) refl

pub injected_some : (id h k n : ℕ) (t : Events) (at to : Instance) → find_instance id h t ≡ Ok at
    → (event at t).inject ≡ true → n ≡ t.harts →
    elsewhere at k n ≡ Some to → inject id k at t ≡ accepted (signal to t)
injected_some id h k n t at to f i m e =
    let p : (is_local at && not (nat_lt k t.harts)) ≡ false =
    hart_there at to k t.harts (ap (λ (j : ℕ). elsewhere at k j) (sym m) ∙ e)
    in let q : to ≡ instance_of id k = injected_to id h k n t at to f e
    in rw (i, p) (ap (λ (x : Instance). accepted (signal x t)) (sym q))

-- whether there is an instance to inject into or not
pub ruleset injected = (injected_none, injected_some)
