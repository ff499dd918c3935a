-- The first bank that passes a test.
use Rattle.std.proofs.Common.{◌≡◌, ℕ, zero, suc, ◌+◌, ◌<◌, ◌≤◌, Bool, true, false, cond, List, [], ◌∷◌, ◌++◌, length, slice_get, Option, Some, None, is_some, refl, inl, inr, ap, sym, ◌∙◌, add-one, arith}
use Rattle.std.specs.List.{find, range_with_len}
use Rattle.std.specs.Option.{option_or}
use Rattle.std.proofs.lemmas.Bool.{cases_eq, cond-true, cond-false, true≢false}
use Rattle.std.proofs.lemmas.List.Folds.{find-append}
use Rattle.reri_fields.specs.Drain.{BankState}
use Rattle.board_plan.specs.declared.plan.BankDecl.{BankDecl}
use Rattle.board_plan.specs.declared.plan.Plan.{Plan}
use Rattle.board_plan.specs.Step.{passes, first_bank, drain_first, is_draining, is_waiting, bank_due}
use Rattle.board_parts.specs.Walked.{waits_below}

find_none : (test : ℕ → Bool) (from many : ℕ) → ((k : ℕ) → k < from + many → test k ≡ false)
    → find test (range_with_len from many) ≡ None
find_none test from zero h = refl
find_none test from (suc many) h =
    cond-false _ (Some from) (find test (range_with_len (from + 1) many)) (h from (omega arith))
    ∙ find_none test (from + 1) many (λ k low. h k (omega arith))

find_first : (test : ℕ → Bool) (from many at : ℕ) → from ≤ at → at < from + many → test at ≡ true
    → ((k : ℕ) → k < at → test k ≡ false) → find test (range_with_len from many) ≡ Some at
find_first test from zero at low high here before = absurd (omega arith)
find_first test from (suc many) at low high here before =
    elim (cases_eq from at) as (λ _. find test (range_with_len from (suc many)) ≡ Some at) [
      | inl is ↦
          cond-true _ (Some from) (find test (range_with_len (from + 1) many)) (ap test is ∙ here) ∙ ap (λ n. Some n) is
      | inr further ↦
          cond-false _ (Some from) (find test (range_with_len (from + 1) many)) (before from (omega arith))
          ∙ find_first test (from + 1) many at (omega arith) (omega arith) here before
    ]

-- no bank passes
pub nowhere : (test : ℕ → BankDecl → BankState → Bool) (plan : Plan) (banks : List BankState) (many : ℕ)
    → length plan.banks ≡ many
    → ((k : ℕ) → k < many → passes (test k) (slice_get plan.banks k) (slice_get banks k) ≡ false)
    → first_bank test plan banks ≡ None
unfolding first_bank
nowhere test plan banks many is none =
    find_none (λ b. passes (test b) (slice_get plan.banks b) (slice_get banks b)) 0 (length plan.banks)
    (λ k low. none k (omega (arith, is)))

-- it is the first that does
pub first_is : (test : ℕ → BankDecl → BankState → Bool) (plan : Plan) (banks : List BankState) (many at : ℕ)
    → length plan.banks ≡ many → at < many
    → passes (test at) (slice_get plan.banks at) (slice_get banks at) ≡ true
    → ((k : ℕ) → k < at → passes (test k) (slice_get plan.banks k) (slice_get banks k) ≡ false)
    → first_bank test plan banks ≡ Some at
unfolding first_bank
first_is test plan banks many at is low here before =
    find_first (λ b. passes (test b) (slice_get plan.banks b) (slice_get banks b)) 0 (length plan.banks) at
    (omega arith)
    (omega (arith, is)) here before

-- the one that drains comes before the one that waits
pub due_drains : (h : ℕ) (plan : Plan) (banks : List BankState) (bank : ℕ)
    → first_bank (is_draining h plan) plan banks ≡ Some bank → bank_due h plan banks ≡ Some bank
unfolding bank_due
due_drains h plan banks bank is = ap (λ o. drain_first o (first_bank (is_waiting h plan) plan banks)) is

pub due_waits : (h : ℕ) (plan : Plan) (banks : List BankState) (waiting : Option ℕ)
    → first_bank (is_draining h plan) plan banks ≡ None → first_bank (is_waiting h plan) plan banks ≡ waiting
    → bank_due h plan banks ≡ waiting
unfolding bank_due
due_waits h plan banks waiting none is =
    ap (λ o. drain_first o (first_bank (is_waiting h plan) plan banks)) none ∙ is

-- ---- A walk over the banks ----

-- one number more of a range
range_more : (from many last : ℕ) → from + many ≡ last → range_with_len from (suc many)
    ≡ range_with_len from many ++ last ∷ []
range_more from zero last is = let same : from ≡ last = omega (arith, is) in ap (λ n. n ∷ []) same
range_more from (suc many) last is = ap (λ ns. from ∷ ns) (range_more (from + 1) many last (omega (arith, is)))

-- whether the drain of this bank may begin
abbrev waits_at : ℕ → Plan → List BankState → ℕ → Bool
waits_at h plan banks n = passes (is_waiting h plan n) (slice_get plan.banks n) (slice_get banks n)

waits_more : (h : ℕ) (plan : Plan) (banks : List BankState) (n : ℕ)
    → waits_below h plan banks (n + 1)
    ≡ option_or (waits_below h plan banks n) (cond (waits_at h plan banks n) (Some n) None)
unfolding waits_below
waits_more h plan banks n =
    ap (λ many. find (waits_at h plan banks) (range_with_len 0 many)) (add-one n)
    ∙ ap (find (waits_at h plan banks)) (range_more 0 n n (omega arith))
    ∙ find-append (waits_at h plan banks) (range_with_len 0 n) (n ∷ [])

first_stays : (o p : Option ℕ) → is_some o ≡ true → option_or o p ≡ o
first_stays None p is = absurd (true≢false (sym is))
first_stays (Some bank) p is = refl

first_comes : (o p : Option ℕ) → is_some o ≡ false → option_or o p ≡ p
first_comes None p is = refl
first_comes (Some bank) p is = absurd (true≢false is)

-- before the first bank none is found
pub waits_nowhere : (h : ℕ) (plan : Plan) (banks : List BankState) → waits_below h plan banks 0 ≡ None
unfolding waits_below
waits_nowhere h plan banks = refl

-- what was found stays
pub waits_still : (h : ℕ) (plan : Plan) (banks : List BankState) (n : ℕ) (before : Option ℕ)
    → waits_below h plan banks n ≡ before → is_some before ≡ true → waits_below h plan banks (n + 1) ≡ before
waits_still h plan banks n before is there =
    let this : Option ℕ = cond (waits_at h plan banks n) (Some n) None in
    waits_more h plan banks n ∙ ap (λ o. option_or o this) is ∙ first_stays before this there

-- else it is this bank, where its drain may begin
pub waits_here : (h : ℕ) (plan : Plan) (banks : List BankState) (n : ℕ) (before : Option ℕ)
    → waits_below h plan banks n ≡ before → is_some before ≡ false
    → passes (is_waiting h plan n) (slice_get plan.banks n) (slice_get banks n) ≡ true
    → waits_below h plan banks (n + 1) ≡ Some n
waits_here h plan banks n before is none here =
    let this : Option ℕ = cond (waits_at h plan banks n) (Some n) None in
    waits_more h plan banks n ∙ ap (λ o. option_or o this) is ∙ first_comes before this none
    ∙ cond-true (waits_at h plan banks n) (Some n) None here

pub waits_no_more : (h : ℕ) (plan : Plan) (banks : List BankState) (n : ℕ) (before : Option ℕ)
    → waits_below h plan banks n ≡ before → is_some before ≡ false
    → passes (is_waiting h plan n) (slice_get plan.banks n) (slice_get banks n) ≡ false
    → waits_below h plan banks (n + 1) ≡ None
waits_no_more h plan banks n before is none here =
    let this : Option ℕ = cond (waits_at h plan banks n) (Some n) None in
    waits_more h plan banks n ∙ ap (λ o. option_or o this) is ∙ first_comes before this none
    ∙ cond-false (waits_at h plan banks n) (Some n) None here

-- after the last bank
pub waits_first : (h : ℕ) (plan : Plan) (banks : List BankState) (many : ℕ) (waiting : Option ℕ)
    → length plan.banks ≡ many → waits_below h plan banks many ≡ waiting
    → first_bank (is_waiting h plan) plan banks ≡ waiting
unfolding first_bank waits_below
waits_first h plan banks many waiting all is =
    ap (λ n. find (waits_at h plan banks) (range_with_len 0 n)) all ∙ is

-- where no bank so far waits, none is found
pub waits_none : (h : ℕ) (plan : Plan) (banks : List BankState) (n : ℕ)
    → ((k : ℕ) → k < n → passes (is_waiting h plan k) (slice_get plan.banks k) (slice_get banks k) ≡ false)
    → waits_below h plan banks n ≡ None
unfolding waits_below
waits_none h plan banks n none = find_none (waits_at h plan banks) 0 n (λ k low. none k (omega (arith, low)))

none_more : (o : Option ℕ) → option_or o None ≡ o
none_more None = refl
none_more (Some bank) = refl

-- where no bank of those that follow waits, what was found is so with them
pub waits_on : (h : ℕ) (plan : Plan) (banks : List BankState) (n more : ℕ) (before : Option ℕ)
    → waits_below h plan banks n ≡ before
    → ((k : ℕ) → n ≤ k → passes (is_waiting h plan k) (slice_get plan.banks k) (slice_get banks k) ≡ false)
    → waits_below h plan banks (n + more) ≡ before
waits_on h plan banks n zero before is none = ap (waits_below h plan banks) (omega arith) ∙ is
waits_on h plan banks n (suc more) before is none =
    let this : Option ℕ = cond (waits_at h plan banks (n + more)) (Some (n + more)) None in
    ap (waits_below h plan banks) (omega arith) ∙ waits_more h plan banks (n + more)
    ∙ ap (λ o. option_or o this) (waits_on h plan banks n more before is none)
    ∙ ap (option_or before) (cond-false (waits_at h plan banks (n + more)) (Some (n + more)) None
    (none (n + more) (omega arith)))
    ∙ none_more before
