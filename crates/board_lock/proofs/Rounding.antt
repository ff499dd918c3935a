-- Rounds of tries up to the first in which nobody made a step, after which nobody has one.
use Rattle.std.proofs.Common.{◌≡◌, ℕ, zero, suc, ◌+◌, ◌<◌, ◌≤◌, Bool, true, false, List, [], ◌∷◌, ◌++◌, map, length, Option, Some, None, refl, inl, inr, sym, ap, ◌∙◌, subst, append-nil, length-append, arith}
use Rattle.std.specs.List.{range_with_len}
use Rattle.std.proofs.lemmas.Bool.{cases_eq, cases_lt}
use Rattle.std.proofs.lemmas.List.{length-map}
use Rattle.ras_device.specs.declared.act.Act.{Act}
use Rattle.board_plan.specs.declared.notes.Step.{Step}
use Rattle.board_plan.specs.declared.notes.Step.TheVariants.{Hart, Reporter}
use Rattle.board_plan.specs.declared.plan.Plan.{Plan}
use Rattle.board_plan.specs.State.{BoardState}
use Rattle.board_plan.specs.Step.{Stepped, step}
use Rattle.board_plan.specs.Run.{IsFirstIdle, Noted, noted, notes, round, rounds, run, state_after, steps_of}
use Rattle.board_core.specs.Played.{Played, state_of}
use Rattle.board_core.proofs.Going.{run-append}
use Rattle.board_lock.specs.Hand.{Hand}
use Rattle.board_lock.specs.Replaying.{Agrees, IsActor, Replays, Tries}
use Rattle.board_lock.specs.Trying.{AreBusy, AreOver, Goes, Went, WentBusy, WentOver}
use Rattle.board_lock.proofs.Trying.{nobody_steps, tries_on}

-- ---- Rounds that made steps ----

many_steps : (b c : Played) (ns : List Noted) → c.steps ≡ b.steps ++ steps_of ns
    → length c.steps ≡ length b.steps + length ns
many_steps b c ns is =
    omega (arith, ap length is, length-append b.steps (steps_of ns), length-map ns (λ (n : Noted). n.by))

-- tries that made a step have notes
some_notes : (acts : ℕ → List Act) (b c : Played) (ts : List Step) → Tries acts b ts c
    → length b.steps < length c.steps → 0 < length (notes b.plan acts (state_of b) ts)
some_notes acts b c ts tries grows =
    omega (arith, grows, many_steps b c (notes b.plan acts (state_of b) ts) tries.steps)

no_notes : (acts : ℕ → List Act) (b c : Played) (ts : List Step) → Tries acts b ts c → c ≡ b
    → notes b.plan acts (state_of b) ts ≡ []
no_notes acts b c ts tries same =
    empty (notes b.plan acts (state_of b) ts)
    (omega (
      arith,
      ap (λ (x : Played). length x.steps) same,
      many_steps b c (notes b.plan acts (state_of b) ts) tries.steps,
    ))
  where
    empty : (ns : List Noted) → length ns ≤ 0 → ns ≡ []
    empty [] few = refl
    empty (n ∷ ns) few = absurd (omega (arith, few))

pub busy_start : (b : Played) (ws : List Hand) → Goes b ws [] b ws → WentBusy b ws b ws
busy_start b ws goes =
    record {
      plan = refl;
      busy = λ acts agrees.
          record { count = 0; tries = goes.tries acts agrees; busy = λ k low. absurd (omega (arith, low)) };
      agrees = λ acts agrees. agrees;
    }

-- the round that comes after some rounds, from the state that they left
at_round : (acts : ℕ → List Act) (b c : Played) (n : ℕ) → Tries acts b (rounds b.plan n) c
    → notes b.plan acts (run b.plan acts (state_of b) (rounds b.plan n)) (round b.plan)
    ≡ notes c.plan acts (state_of c) (round c.plan)
at_round acts b c n tries =
    sym (ap (λ (p : Plan). notes p acts (state_of c) (round p)) tries.plan
    ∙ ap (λ (s : BoardState). notes b.plan acts s (round b.plan)) tries.state)

-- the tries of a round more
one_more_round : (acts : ℕ → List Act) (b c d : Played) (n : ℕ) → Tries acts b (rounds b.plan n) c
    → Tries acts c (round c.plan) d → Tries acts b (rounds b.plan (suc n)) d
one_more_round acts b c d n x y =
    tries_on acts b c d (rounds b.plan n) (round b.plan) x
    (subst (λ (p : Plan). Tries acts c (round p) d) x.plan y)

busy_more : (acts : ℕ → List Act) (b c d : Played) → AreBusy acts b c → Tries acts c (round c.plan) d
    → length c.steps < length d.steps → AreBusy acts b d
busy_more acts b c d busy tries grows =
    let reached = λ (k : ℕ). run b.plan acts (state_of b) (rounds b.plan k) in
    record {
      count = suc busy.count;
      tries = one_more_round acts b c d busy.count busy.tries tries;
      busy = λ k low.
          elim (cases_eq k busy.count) as (λ _. 0 < length (notes b.plan acts (reached k) (round b.plan))) [
            | inl same ↦
                subst (λ (j : ℕ). 0 < length (notes b.plan acts (reached j) (round b.plan))) (sym same)
                (subst (λ (ns : List Noted). 0 < length ns) (sym (at_round acts b c busy.count busy.tries))
                (some_notes acts c d (round c.plan) tries grows))
            | inr other ↦ busy.busy k (omega (arith, low, other))
          ];
    }

pub went_busy : (b c d : Played) (ws vs xs : List Hand) (made : Bool) → made ≡ true → WentBusy b ws c vs
    → Went c vs (round c.plan) made d xs → WentBusy b ws d xs
went_busy b c d ws vs xs made is x y =
    record {
      plan = y.goes.plan ∙ x.plan;
      busy = λ acts agrees.
          busy_more acts b c d (x.busy acts agrees) (y.goes.tries acts (x.agrees acts agrees)) (y.grows is);
      agrees = λ acts agrees. y.goes.agrees acts (x.agrees acts agrees);
    }

pub went_over : (b c d : Played) (ws vs xs : List Hand) (made : Bool) → made ≡ false → WentBusy b ws c vs
    → Went c vs (round c.plan) made d xs → WentOver b ws d xs
went_over b c d ws vs xs made is x y =
    record {
      plan = y.goes.plan ∙ x.plan;
      ended = λ acts agrees.
          let busy = x.busy acts agrees in
          let tries = y.goes.tries acts (x.agrees acts agrees) in
          record {
            count = busy.count;
            tries = one_more_round acts b c d busy.count busy.tries tries;
            first_idle = record {
              busy = busy.busy;
              idle = at_round acts b c busy.count busy.tries
                  ∙ no_notes acts c d (round c.plan) tries (y.still is);
            };
          };
      agrees = λ acts agrees. y.goes.agrees acts (x.agrees acts agrees);
    }

-- ---- Nobody has a step after an idle round ----

-- none of a list of tries has a step
record AreIdle (plan : Plan) (acts : ℕ → List Act) (t : Step) (ts : List Step) (s : BoardState) : Type 0 where
  first : step plan acts t s ≡ None
  rest : notes plan acts s ts ≡ []

idle_first : (plan : Plan) (acts : ℕ → List Act) (t : Step) (ts : List Step) (s : BoardState)
    → notes plan acts s (t ∷ ts) ≡ [] → AreIdle plan acts t ts s
idle_first plan acts t ts s none = go (step plan acts t s) refl none
  where
    go : (o : Option Stepped) → step plan acts t s ≡ o → noted t o (notes plan acts (state_after s o) ts) ≡ []
        → AreIdle plan acts t ts s
    go None is rest = record { first = is; rest = rest }
    go (Some d) is rest = absurd (cc)

-- each of those that were tried
idle_each : (plan : Plan) (acts : ℕ → List Act) (f : ℕ → Step) (s : BoardState) (us : List Step) (at n k : ℕ)
    → notes plan acts s (map f (range_with_len at n) ++ us) ≡ [] → at ≤ k → k < at + n
    → step plan acts (f k) s ≡ None
idle_each plan acts f s us at zero k none from below = absurd (omega (arith, from, below))
idle_each plan acts f s us at (suc n) k none from below =
    let idle = idle_first plan acts (f at) (map f (range_with_len (at + 1) n) ++ us) s none in
    elim (cases_eq at k) as (λ _. step plan acts (f k) s ≡ None) [
      | inl same ↦ subst (λ (j : ℕ). step plan acts (f j) s ≡ None) same idle.first
      | inr other ↦
          idle_each plan acts f s us (at + 1) n k idle.rest (omega (arith, from, other)) (omega (arith, below))
    ]

idle_rest : (plan : Plan) (acts : ℕ → List Act) (ts us : List Step) (s : BoardState)
    → notes plan acts s (ts ++ us) ≡ [] → notes plan acts s us ≡ []
idle_rest plan acts [] us s none = none
idle_rest plan acts (t ∷ ts) us s none =
    idle_rest plan acts ts us s (idle_first plan acts t (ts ++ us) s none).rest

idle_state : (plan : Plan) (acts : ℕ → List Act) (ts : List Step) (s : BoardState)
    → notes plan acts s ts ≡ [] → run plan acts s ts ≡ s
idle_state plan acts [] s none = refl
idle_state plan acts (t ∷ ts) s none =
    let idle = idle_first plan acts t ts s none in
    ap (λ (o : Option Stepped). run plan acts (state_after s o) ts) idle.first
    ∙ idle_state plan acts ts s idle.rest

idle_actor : (plan : Plan) (acts : ℕ → List Act) (s : BoardState) → notes plan acts s (round plan) ≡ []
    → (t : Step) → IsActor plan t → step plan acts t s ≡ None
idle_actor plan acts s none (Hart h) on =
    idle_each plan acts Hart s (map Reporter (range_with_len 0 (length plan.reporters))) 0 plan.harts h none
    (omega arith) (omega (arith, on))
idle_actor plan acts s none (Reporter r) on =
    idle_each plan acts Reporter s [] 0 (length plan.reporters) r
    (subst (λ ts. notes plan acts s ts ≡ []) (sym (append-nil (map Reporter (range_with_len 0
    (length plan.reporters)))))
    (idle_rest plan acts (map Hart (range_with_len 0 plan.harts)) (map Reporter
    (range_with_len 0 (length plan.reporters))) s none))
    (omega arith) (omega (arith, on))

nobody_left : (acts : ℕ → List Act) (c : Played) → length (state_of c).machine.stacks ≡ c.plan.harts
    → notes c.plan acts (state_of c) (round c.plan) ≡ [] → (t : Step) → step c.plan acts t (state_of c) ≡ None
nobody_left acts c harts none (Hart h) =
    elim (cases_lt h c.plan.harts) as (λ _. step c.plan acts (Hart h) (state_of c) ≡ None) [
      | inl low ↦ idle_actor c.plan acts (state_of c) none (Hart h) low
      | inr past ↦ nobody_steps acts c (Hart h) harts (λ on. absurd (omega (arith, on, past)))
    ]
nobody_left acts c harts none (Reporter r) =
    elim (cases_lt r (length c.plan.reporters)) as (λ _. step c.plan acts (Reporter r) (state_of c) ≡ None) [
      | inl low ↦ idle_actor c.plan acts (state_of c) none (Reporter r) low
      | inr past ↦ nobody_steps acts c (Reporter r) harts (λ on. absurd (omega (arith, on, past)))
    ]

-- ---- A whole replay ----

-- the state after the idle round is that before it
last_idle : (acts : ℕ → List Act) (b c : Played) (over : AreOver acts b c)
    → notes c.plan acts (state_of c) (round c.plan) ≡ []
last_idle acts b c over =
    let s = state_of b in
    let before = run b.plan acts s (rounds b.plan over.count) in
    let state : state_of c ≡ before =
    over.tries.state ∙ run-append b.plan acts s (rounds b.plan over.count) (round b.plan)
    ∙ idle_state b.plan acts (round b.plan) before over.first_idle.idle in
    ap (λ (p : Plan). notes p acts (state_of c) (round p)) over.tries.plan
    ∙ ap (λ (v : BoardState). notes b.plan acts v (round b.plan)) state ∙ over.first_idle.idle

replay_ends : (acts : ℕ → List Act) (b c d : Played) (steps : List Step) → Tries acts b steps c → AreOver acts c d
    → length (state_of d).machine.stacks ≡ d.plan.harts → Replays acts b steps d
replay_ends acts b c d steps tries over harts =
    let plan = tries.plan in
    record {
      count = over.count;
      tries = tries_on acts b c d steps (rounds b.plan (suc over.count)) tries
          (subst (λ (p : Plan). Tries acts c (rounds p (suc over.count)) d) plan over.tries);
      first_idle = subst (λ (s : BoardState). IsFirstIdle b.plan acts s over.count) tries.state
          (subst (λ (p : Plan). IsFirstIdle p acts (state_of c) over.count) plan over.first_idle);
      over = nobody_left acts d harts (last_idle acts c d over);
    }

pub replays : (acts : ℕ → List Act) (b c d : Played) (ws vs xs : List Hand) (steps : List Step) → Goes b ws steps c vs
    → WentOver c vs d xs → length (state_of d).machine.stacks ≡ d.plan.harts → Agrees acts b ws
    → Replays acts b steps d
replays acts b c d ws vs xs steps goes over harts agrees =
    replay_ends acts b c d steps (goes.tries acts agrees) (over.ended acts (goes.agrees acts agrees)) harts
