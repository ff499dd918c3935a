-- What a bank among the parts says of the bank's state, and what a step of it makes of the board.
use Rattle.std.proofs.Common.{◌≡◌, ℕ, ◌<◌, ◌≤◌, ◌==◌, ◌&&◌, Bool, List, length, set, slice_get, Option, Some, None, is_some, refl, inl, inr, sym, ap, ◌∙◌, subst, arith}
use Rattle.std.specs.Option.{option_map}
use Rattle.std.proofs.lemmas.Bool.{cases_eq}
use Rattle.std.proofs.lemmas.List.{length-set}
use Rattle.std.proofs.lemmas.Option.{same_Some, slice_get_within, slice_get_past}
use Rattle.reri_fields.specs.Drain.{BankState, BankStep, BankTry, BankNote, bank_step, is_free, may_begin}
use Rattle.reri_bank.proofs.Stands.{get_there, get-set_same, get-set_other}
use Rattle.sse_base.specs.Events.{Events}
use Rattle.sse_base.specs.Machine.{Machine}
use Rattle.board_plan.specs.declared.plan.BankDecl.{BankDecl}
use Rattle.board_plan.specs.declared.plan.Plan.{Plan}
use Rattle.board_plan.specs.State.{BoardState, bank_plan}
use Rattle.board_plan.specs.Step.{Effect, passes, is_draining, is_waiting, bank_effect, bank_note, events_after, published_by, tried_at, at_bank}
use Rattle.board_ops.specs.Indexes.{Indexes}
use Rattle.board_bank.specs.Standing.{BankParts, StandsFor, Makes}
use Rattle.board_parts.specs.declared.outcome.Outcome.{Outcome}
use Rattle.board_parts.specs.declared.parts.Parts.{Parts}
use Rattle.board_parts.specs.Shows.{AreBanks, Shows}
use Rattle.board_parts.specs.Came.{Takes, outcome_of, with_effect_on}

-- ---- A bank that is there ----

-- its declaration, its state, and that the value stands for them
pub record Is (plan : Plan) (s : BoardState) (p : Parts) (at : ℕ) (b : BankParts) : Type 0 where
  pub decl : BankDecl
  pub state : BankState
  pub declared : slice_get p.decls.items at ≡ Some decl
  pub known : slice_get plan.banks at ≡ Some decl
  pub there : slice_get s.banks at ≡ Some state
  pub stands : StandsFor (bank_plan at decl plan.recs) state b

pub bank_is : (plan : Plan) (s : BoardState) (p : Parts) (at : ℕ) (b : BankParts) → Shows plan s p
    → slice_get p.banks.items at ≡ Some b → Is plan s p at b
bank_is plan s p at b shows here =
    let low = slice_get_within p.banks.items at b here in
    let d = get_there plan.banks at (omega (arith, shows.banks.there)) in
    let x = get_there s.banks at (omega (arith, shows.banks.there, shows.banks.count)) in
    record {
      decl = d.0;
      state = x.0;
      declared = ap (λ (ds : List BankDecl). slice_get ds at) shows.decls ∙ d.1;
      known = d.1;
      there = x.1;
      stands = shows.banks.each at d.0 x.0 b d.1 x.1 here;
    }

passes_is : (test : BankDecl → BankState → Bool) (o : Option BankDecl) (q : Option BankState) (d : BankDecl)
    (x : BankState)
    → o ≡ Some d → q ≡ Some x → passes test o q ≡ test d x
passes_is test o q d x e f = ap (λ (y : Option BankDecl). passes test y q) e ∙ ap (passes test (Some d)) f

pub drains_is : (plan : Plan) (s : BoardState) (p : Parts) (h at : ℕ) (d : BankDecl) (b : BankParts) → Shows plan s p
    → slice_get p.decls.items at ≡ Some d → slice_get p.banks.items at ≡ Some b
    → passes (is_draining h plan at) (slice_get plan.banks at) (slice_get s.banks at)
    ≡ ((d.home == h) && is_some b.drain)
drains_is plan s p h at d b shows decl here =
    let is = bank_is plan s p at b shows here in
    let same : is.decl ≡ d = same_Some is.decl d (sym is.declared ∙ decl) in
    passes_is (is_draining h plan at) (slice_get plan.banks at)
    (slice_get s.banks at) is.decl is.state is.known is.there
    ∙ ap (λ (e : BankDecl). (e.home == h) && is_some is.state.drain) same
    ∙ ap (λ o. (d.home == h) && is_some o) (sym is.stands.drain_is)

pub waits_is : (plan : Plan) (s : BoardState) (p : Parts) (h at : ℕ) (d : BankDecl) (b : BankParts) → Shows plan s p
    → slice_get p.decls.items at ≡ Some d → slice_get p.banks.items at ≡ Some b
    → passes (is_waiting h plan at) (slice_get plan.banks at) (slice_get s.banks at)
    ≡ ((d.home == h) && (b.bank.asks && is_free b.slot))
waits_is plan s p h at d b shows decl here =
    let is = bank_is plan s p at b shows here in
    let same : is.decl ≡ d = same_Some is.decl d (sym is.declared ∙ decl) in
    let bp = bank_plan at is.decl plan.recs in
    passes_is (is_waiting h plan at) (slice_get plan.banks at) (slice_get s.banks at) is.decl is.state is.known is.there
    ∙ ap (λ (e : BankDecl). (e.home == h) && may_begin bp is.state) same
    ∙ ap (λ a. (d.home == h) && (a && is_free is.state.slot)) (sym is.stands.stands.asking)
    ∙ ap (λ slot. (d.home == h) && (b.bank.asks && is_free slot)) (sym is.stands.slot_is)

-- ---- A try at a bank ----

at_is : (bank : ℕ) (t : BankTry) (plan : Plan) (events : Events) (banks : List BankState) (d : BankDecl) (x : BankState)
    (y : BankStep) → slice_get plan.banks bank ≡ Some d → slice_get banks bank ≡ Some x
    → bank_step (bank_plan bank d plan.recs) x t ≡ Some y
    → at_bank bank t plan events banks ≡ Some (bank_effect bank d events banks y)
unfolding at_bank
at_is bank t plan events banks d x y e f g =
    ap (λ (o : Option BankDecl). tried_at bank t plan events banks o (slice_get banks bank)) e
    ∙ ap (tried_at bank t plan events banks (Some d)) f
    ∙ ap (option_map (bank_effect bank d events banks)) g

at_idle : (bank : ℕ) (t : BankTry) (plan : Plan) (events : Events) (banks : List BankState) (d : BankDecl)
    (x : BankState)
    → slice_get plan.banks bank ≡ Some d → slice_get banks bank ≡ Some x
    → bank_step (bank_plan bank d plan.recs) x t ≡ None → at_bank bank t plan events banks ≡ None
unfolding at_bank
at_idle bank t plan events banks d x e f g =
    ap (λ (o : Option BankDecl). tried_at bank t plan events banks o (slice_get banks bank)) e
    ∙ ap (tried_at bank t plan events banks (Some d)) f
    ∙ ap (option_map (bank_effect bank d events banks)) g

at_nowhere : (bank : ℕ) (t : BankTry) (plan : Plan) (events : Events) (banks : List BankState)
    → slice_get plan.banks bank ≡ None → at_bank bank t plan events banks ≡ None
unfolding at_bank
at_nowhere bank t plan events banks e =
    ap (λ (o : Option BankDecl). tried_at bank t plan events banks o (slice_get banks bank)) e

-- the banks after a step of one
pub banks_after : (plan : Plan) (states : List BankState) (banks : List BankParts) (at : ℕ) (d : BankDecl)
    (x : BankState)
    (b : BankParts) → AreBanks plan states banks → at < length banks → slice_get plan.banks at ≡ Some d
    → StandsFor (bank_plan at d plan.recs) x b → AreBanks plan (set states at x) (set banks at b)
banks_after plan states banks at d x b are low known stands =
    record {
      count = length-set states at x ∙ are.count;
      there = length-set banks at b ∙ are.there;
      each = λ i e y c e_is y_is c_is.
          elim (cases_eq i at) as (λ _. StandsFor (bank_plan i e plan.recs) y c) [
            | inl here ↦
                let decl : d ≡ e = same_Some d e (sym known ∙ ap (slice_get plan.banks) (sym here) ∙ e_is) in
                let state : x ≡ y = same_Some x y (sym (get-set_same states at x (omega
                (arith, are.count, are.there))) ∙ ap (slice_get (set states at x)) (sym here) ∙ y_is) in
                let bank : b ≡ c = same_Some b c (sym (get-set_same banks at b low)
                ∙ ap (slice_get (set banks at b)) (sym here) ∙ c_is) in
                subst (λ j. StandsFor (bank_plan j e plan.recs) y c) (sym here)
                (subst (λ (f : BankDecl). StandsFor (bank_plan at f plan.recs) y c) decl
                (subst (λ (z : BankState). StandsFor (bank_plan at d plan.recs) z c) state
                (subst (StandsFor (bank_plan at d plan.recs) x) bank stands)))
            | inr elsewhere ↦
                are.each i e y c e_is (sym (get-set_other states at i x elsewhere) ∙ y_is)
                (sym (get-set_other banks at i b elsewhere) ∙ c_is)
          ];
    }

-- what no step of a bank touches
pub record Rests (p q : Parts) : Type 0 where
  pub index : q.index ≡ p.index
  pub decls : q.decls.items ≡ p.decls.items
  pub budgets : q.budgets.items ≡ p.budgets.items
  pub counts : q.counts.items ≡ p.counts.items
  pub limits : q.limits.items ≡ p.limits.items
  pub reporters : q.reporters.items ≡ p.reporters.items

pub shows_after : (plan : Plan) (s : BoardState) (p q : Parts) (e : Effect) → Shows plan s p → Rests p q
    → q.firmware ≡ record p.firmware { events = e.events } → AreBanks plan e.banks q.banks.items
    → Shows plan (with_effect_on s e) q
shows_after plan s p q e shows rests firmware banks =
    record {
      machine = firmware ∙ ap (λ (m : Machine). record m { events = e.events }) shows.machine;
      index = subst (Indexes plan.ops) (sym rests.index) shows.index;
      decls = rests.decls ∙ shows.decls;
      banks = banks;
      budgets_are = rests.budgets ∙ shows.budgets_are;
      counts = rests.counts ∙ shows.counts;
      limits_are = rests.limits ∙ shows.limits_are;
      reporters = rests.reporters ∙ shows.reporters;
    }

-- a call of a bank that makes a step of it
pub taken : (plan : Plan) (s : BoardState) (p q : Parts) (at : ℕ) (d : BankDecl) (b c : BankParts) (t : BankTry)
    (note : BankNote) (came : Outcome) → Shows plan s p → slice_get p.decls.items at ≡ Some d
    → slice_get p.banks.items at ≡ Some b
    → ((x : BankState) → StandsFor (bank_plan at d plan.recs) x b → slice_get s.banks at ≡ Some x
    → Makes (bank_plan at d plan.recs) x t note c)
    → Rests p q → q.banks.items ≡ set p.banks.items at c
    → q.firmware ≡ record p.firmware { events = events_after d p.firmware.events note }
    → came ≡ outcome_of (bank_note at d p.firmware.events note) (published_by at note)
    → Takes plan s (at_bank at t plan s.machine.events s.banks) q (Some came)
taken plan s p q at d b c t note came shows decl here makes rests banks firmware told =
    let is = bank_is plan s p at b shows here in
    let same : is.decl ≡ d = same_Some is.decl d (sym is.declared ∙ decl) in
    let known : slice_get plan.banks at ≡ Some d = is.known ∙ ap (λ (e : BankDecl). Some e) same in
    let stands = subst (λ (e : BankDecl). StandsFor (bank_plan at e plan.recs) is.state b) same is.stands in
    let made = makes is.state stands is.there in
    let y : BankStep = record { state = made.state; note = note } in
    let e = bank_effect at d s.machine.events s.banks y in
    let made_is : at_bank at t plan s.machine.events s.banks ≡ Some e =
    at_is at t plan s.machine.events s.banks d is.state y known is.there made.step in
    let after = banks_after plan s.banks p.banks.items at d made.state c shows.banks
    (slice_get_within p.banks.items at b here) known made.stands_for in
    subst (λ o. Takes plan s o q (Some came)) (sym made_is)
    (record {
      outcome = ap (λ n. Some n) (told ∙ ap (λ (m : Machine). outcome_of (bank_note at d m.events note)
          (published_by at note)) shows.machine);
      shows = shows_after plan s p q e shows rests
          (firmware ∙ ap (λ (m : Machine). record p.firmware { events = events_after d m.events note }) shows.machine)
          (subst (AreBanks plan e.banks) (sym banks) after);
    })

-- a call of a bank that makes none
pub not_taken : (plan : Plan) (s : BoardState) (p : Parts) (at : ℕ) (d : BankDecl) (b : BankParts) (t : BankTry)
    → Shows plan s p → slice_get p.decls.items at ≡ Some d → slice_get p.banks.items at ≡ Some b
    → ((x : BankState) → StandsFor (bank_plan at d plan.recs) x b → bank_step (bank_plan at d plan.recs) x t ≡ None)
    → at_bank at t plan s.machine.events s.banks ≡ None
not_taken plan s p at d b t shows decl here none =
    let is = bank_is plan s p at b shows here in
    let same : is.decl ≡ d = same_Some is.decl d (sym is.declared ∙ decl) in
    at_idle at t plan s.machine.events s.banks d is.state (is.known ∙ ap (λ (e : BankDecl). Some e) same) is.there
    (none is.state (subst (λ (e : BankDecl). StandsFor (bank_plan at e plan.recs) is.state b) same is.stands))

pub no_bank : (plan : Plan) (s : BoardState) (p : Parts) (at : ℕ) (t : BankTry) → Shows plan s p
    → length p.banks.items ≤ at
    → Takes plan s (at_bank at t plan s.machine.events s.banks) p None
no_bank plan s p at t shows past =
    subst (λ o. Takes plan s o p None)
    (sym (at_nowhere at t plan s.machine.events s.banks (slice_get_past plan.banks at (omega
    (arith, shows.banks.there)))))
    (record { outcome = refl; shows = shows })

pub stays_idle : (plan : Plan) (s : BoardState) (q : Parts) (o : Option Effect) → o ≡ None → Shows plan s q
    → Takes plan s o q None
stays_idle plan s q o is shows = subst (λ e. Takes plan s e q None) (sym is) (record { outcome = refl; shows = shows })
