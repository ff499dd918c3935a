-- What the choice of the bank that a hart drains tells.
use Rattle.std.proofs.Common.{◌≡◌, ℕ, ◌<◌, ◌==◌, ◌&&◌, Bool, true, false, List, length, slice_get, Option, Some, None, refl, sym, ap, ◌∙◌, arith}
use Rattle.std.specs.Prelude.{is_some}
use Rattle.std.specs.List.{range_with_len}
use Rattle.std.proofs.lemmas.Bool.{true≢false, eqb-true, eq-eqb}
use Rattle.std.proofs.lemmas.Option.{slice_get_within}
use Rattle.reri_fields.specs.Banks.{asks}
use Rattle.reri_fields.specs.Drain.{BankState, Draining, is_free, may_begin}
use Rattle.board_plan.specs.declared.plan.BankDecl.{BankDecl}
use Rattle.board_plan.specs.declared.plan.Plan.{Plan}
use Rattle.board_plan.specs.State.{bank_plan}
use Rattle.board_plan.specs.Step.{passes, first_bank, drain_first, is_draining, is_waiting, bank_due}
use Rattle.drain_laws.proofs.Found.{found_passes, none_passes}

-- its drain is under way, or none of the hart's banks has one and its own may begin
pub data IsDueBank (h : ℕ) (plan : Plan) (banks : List BankState) (bank : ℕ) : Type 0 where
  drains : first_bank (is_draining h plan) plan banks ≡ Some bank → IsDueBank h plan banks bank
  waits : first_bank (is_draining h plan) plan banks ≡ None → first_bank (is_waiting h plan) plan banks ≡ Some bank
      → IsDueBank h plan banks bank

due_either : (h : ℕ) (plan : Plan) (banks : List BankState) (bank : ℕ) (o : Option ℕ)
    → first_bank (is_draining h plan) plan banks ≡ o
    → drain_first o (first_bank (is_waiting h plan) plan banks) ≡ Some bank → IsDueBank h plan banks bank
due_either h plan banks bank None none is = waits none is
due_either h plan banks bank (Some b) some is = drains (some ∙ is)

pub due_bank : (h : ℕ) (plan : Plan) (banks : List BankState) (bank : ℕ) → bank_due h plan banks ≡ Some bank
    → IsDueBank h plan banks bank
unfolding bank_due
due_bank h plan banks bank is = due_either h plan banks bank (first_bank (is_draining h plan) plan banks) refl is

-- ---- What passes ----

first_passes : (test : ℕ → BankDecl → BankState → Bool) (plan : Plan) (banks : List BankState) (bank : ℕ)
    → first_bank test plan banks ≡ Some bank
    → passes (test bank) (slice_get plan.banks bank) (slice_get banks bank) ≡ true
unfolding first_bank
first_passes test plan banks bank is =
    found_passes (λ b. passes (test b) (slice_get plan.banks b) (slice_get banks b))
    (range_with_len 0 (length plan.banks)) bank is

pub first_is : (test : ℕ → BankDecl → BankState → Bool) (plan : Plan) (banks : List BankState) (bank : ℕ)
    (d : BankDecl) (x : BankState) → first_bank test plan banks ≡ Some bank → slice_get plan.banks bank ≡ Some d
    → slice_get banks bank ≡ Some x → test bank d x ≡ true
first_is test plan banks bank d x is known there =
    sym (ap (λ o. passes (test bank) o (slice_get banks bank)) known ∙ ap (passes (test bank) (Some d)) there)
    ∙ first_passes test plan banks bank is

none_first : (test : ℕ → BankDecl → BankState → Bool) (plan : Plan) (banks : List BankState) (bank : ℕ)
    → first_bank test plan banks ≡ None → bank < length plan.banks
    → passes (test bank) (slice_get plan.banks bank) (slice_get banks bank) ≡ false
unfolding first_bank
none_first test plan banks bank none low =
    none_passes (λ b. passes (test b) (slice_get plan.banks b) (slice_get banks b)) 0 (length plan.banks) none bank
    (omega arith) (omega arith)

pub none_is : (test : ℕ → BankDecl → BankState → Bool) (plan : Plan) (banks : List BankState) (bank : ℕ)
    (d : BankDecl) (x : BankState) → first_bank test plan banks ≡ None → slice_get plan.banks bank ≡ Some d
    → slice_get banks bank ≡ Some x → test bank d x ≡ false
none_is test plan banks bank d x none known there =
    sym (ap (λ o. passes (test bank) o (slice_get banks bank)) known ∙ ap (passes (test bank) (Some d)) there)
    ∙ none_first test plan banks bank none (slice_get_within plan.banks bank d known)

-- ---- The bank's home, and its slot where a drain begins ----

both : (a b : Bool) → (a && b) ≡ true → (a ≡ true) × (b ≡ true)
both true b h = (refl, h)
both false b h = absurd (true≢false (sym h))

-- the hart that a bank is due for is its home
pub due_home : (h : ℕ) (plan : Plan) (banks : List BankState) (bank : ℕ) (d : BankDecl) (x : BankState)
    → IsDueBank h plan banks bank → slice_get plan.banks bank ≡ Some d → slice_get banks bank ≡ Some x → d.home ≡ h
due_home h plan banks bank d x (drains is) known there =
    eqb-true d.home h
    (both (d.home == h) (is_some x.drain) (first_is (is_draining h plan) plan banks bank d x is known there)).0
due_home h plan banks bank d x (waits none is) known there =
    eqb-true d.home h
    (both (d.home == h) (may_begin (bank_plan bank d plan.recs) x)
    (first_is (is_waiting h plan) plan banks bank d x is known there)).0

-- where its drain begins, its slot is free, and no bank of the same home has a drain under way
pub record Begins (h : ℕ) (plan : Plan) (banks : List BankState) (x : BankState) : Type 0 where
  pub free : is_free x.slot ≡ true
  pub alone : first_bank (is_draining h plan) plan banks ≡ None

pub due_begins : (h : ℕ) (plan : Plan) (banks : List BankState) (bank : ℕ) (d : BankDecl) (x : BankState)
    → IsDueBank h plan banks bank → slice_get plan.banks bank ≡ Some d → slice_get banks bank ≡ Some x
    → x.drain ≡ None → Begins h plan banks x
due_begins h plan banks bank d x (drains is) known there none =
    absurd (true≢false (sym (both (d.home == h) (is_some x.drain)
    (first_is (is_draining h plan) plan banks bank d x is known there)).1 ∙ ap is_some none))
due_begins h plan banks bank d x (waits alone is) known there none =
    let origins = (bank_plan bank d plan.recs).origins in
    let may = (both (d.home == h) (may_begin (bank_plan bank d plan.recs) x)
    (first_is (is_waiting h plan) plan banks bank d x is known there)).1 in
    record { free = (both (asks origins x.history) (is_free x.slot) may).1; alone = alone }

-- a bank with a drain under way is one that its home goes on with
pub drains_on : (h : ℕ) (plan : Plan) (banks : List BankState) (bank : ℕ) (d : BankDecl) (x : BankState) (u : Draining)
    → first_bank (is_draining h plan) plan banks ≡ None → slice_get plan.banks bank ≡ Some d
    → slice_get banks bank ≡ Some x → d.home ≡ h → x.drain ≡ Some u → ⊥
drains_on h plan banks bank d x u none known there home under =
    true≢false (sym (ap (λ b. b && is_some x.drain) (eq-eqb d.home h home) ∙ ap is_some under)
    ∙ none_is (is_draining h plan) plan banks bank d x none known there)
