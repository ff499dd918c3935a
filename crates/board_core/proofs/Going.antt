-- A run goes on by one step, and longer lists of acts change nothing of steps that were made.
use Rattle.std.proofs.Common.{◌≡◌, ℕ, suc, ◌≤◌, List, [], ◌∷◌, ◌++◌, length, slice_get, drop, Option, Some, None, refl, sym, ap, ◌∙◌, arith}
use Rattle.std.proofs.lemmas.List.{length-map}
use Rattle.std.proofs.lemmas.Option.{none-some}
use Rattle.ras_device.specs.declared.act.Act.{Act}
use Rattle.board_plan.specs.declared.notes.Published.{Published}
use Rattle.board_plan.specs.declared.notes.Step.{Step}
use Rattle.board_plan.specs.declared.notes.Step.TheVariants.{Hart, Reporter}
use Rattle.board_plan.specs.declared.plan.Plan.{Plan}
use Rattle.board_plan.specs.State.{BoardState, start_state}
use Rattle.board_plan.specs.Step.{Stepped, acts_made, next_act, reporter_step, step}
use Rattle.board_plan.specs.Run.{Noted, Ran, state_after, noted, with_copy, published, run, notes, copies, ran, steps_of}

-- ---- Tries that follow one another ----

pub run-append : (plan : Plan) (acts : ℕ → List Act) (s : BoardState) (ts us : List Step)
    → run plan acts s (ts ++ us) ≡ run plan acts (run plan acts s ts) us
run-append plan acts s [] us = refl
run-append plan acts s (t ∷ ts) us = run-append plan acts (state_after s (step plan acts t s)) ts us

noted-append : (t : Step) (o : Option Stepped) (ns ms : List Noted) → noted t o (ns ++ ms) ≡ noted t o ns ++ ms
noted-append t None ns ms = refl
noted-append t (Some d) ns ms = refl

pub notes-append : (plan : Plan) (acts : ℕ → List Act) (s : BoardState) (ts us : List Step)
    → notes plan acts s (ts ++ us) ≡ notes plan acts s ts ++ notes plan acts (run plan acts s ts) us
notes-append plan acts s [] us = refl
notes-append plan acts s (t ∷ ts) us =
    let o = step plan acts t s in
    ap (noted t o) (notes-append plan acts (state_after s o) ts us)
    ∙ noted-append t o (notes plan acts (state_after s o) ts) (notes plan acts (run plan acts (state_after s o) ts) us)

with_copy-append : (o : Option Published) (ps qs : List Published) → with_copy o (ps ++ qs) ≡ with_copy o ps ++ qs
with_copy-append None ps qs = refl
with_copy-append (Some p) ps qs = refl

published-append : (o : Option Stepped) (ps qs : List Published) → published o (ps ++ qs) ≡ published o ps ++ qs
published-append None ps qs = refl
published-append (Some d) ps qs = with_copy-append d.published ps qs

pub copies-append : (plan : Plan) (acts : ℕ → List Act) (s : BoardState) (ts us : List Step)
    → copies plan acts s (ts ++ us) ≡ copies plan acts s ts ++ copies plan acts (run plan acts s ts) us
copies-append plan acts s [] us = refl
copies-append plan acts s (t ∷ ts) us =
    let o = step plan acts t s in
    ap (published o) (copies-append plan acts (state_after s o) ts us)
    ∙ published-append o (copies plan acts (state_after s o) ts)
    (copies plan acts (run plan acts (state_after s o) ts) us)

-- ---- One step more ----

-- a run with one step more
abbrev pub gone_on : Ran → Step → Stepped → Ran
gone_on r t d =
    record {
      state = d.state;
      notes = r.notes ++ record { by = t; note = d.note } ∷ [];
      published = r.published ++ with_copy d.published [];
    }

pub goes_on : (plan : Plan) (acts : ℕ → List Act) (ts : List Step) (t : Step) (d : Stepped)
    → step plan acts t (ran plan acts ts).state ≡ Some d → ran plan acts (ts ++ t ∷ []) ≡ gone_on (ran plan acts ts) t d
unfolding ran
goes_on plan acts ts t d is =
    let s = start_state plan in
    let state : run plan acts s (ts ++ t ∷ []) ≡ d.state =
    run-append plan acts s ts (t ∷ []) ∙ ap (state_after (run plan acts s ts)) is in
    let told : notes plan acts s (ts ++ t ∷ []) ≡ notes plan acts s ts ++ record { by = t; note = d.note } ∷ [] =
    notes-append plan acts s ts (t ∷ []) ∙ ap (λ o. notes plan acts s ts ++ noted t o []) is in
    let shown : copies plan acts s (ts ++ t ∷ []) ≡ copies plan acts s ts ++ with_copy d.published [] =
    copies-append plan acts s ts (t ∷ []) ∙ ap (λ o. copies plan acts s ts ++ published o []) is in
    λ i. record { state = state i; notes = told i; published = shown i }

-- ---- Longer lists of acts ----

-- each list of the one begins the other's
pub record Longer (acts more : ℕ → List Act) : Type 0 where
  pub fronts : (r k : ℕ) (a : Act) → slice_get (acts r) k ≡ Some a → slice_get (more r) k ≡ Some a

with_more : (plan : Plan) (more : ℕ → List Act) (r : ℕ) (s : BoardState) (d : Stepped) (o : Option Act)
    → ((a : Act) → o ≡ Some a → next_act more r s ≡ Some a) → reporter_step r plan o s ≡ Some d
    → reporter_step r plan (next_act more r s) s ≡ Some d
unfolding reporter_step
with_more plan more r s d None same is = absurd (none-some d is)
with_more plan more r s d (Some a) same is = ap (λ o. reporter_step r plan o s) (same a refl) ∙ is

pub longer_step : (plan : Plan) (acts more : ℕ → List Act) (t : Step) (s : BoardState) (d : Stepped) → Longer acts more
    → step plan acts t s ≡ Some d → step plan more t s ≡ Some d
unfolding step
longer_step plan acts more (Hart h) s d longer is = is
longer_step plan acts more (Reporter r) s d longer is =
    with_more plan more r s d (next_act acts r s) (λ a there. longer.fronts r (acts_made r s) a there) is

-- what was made is no more than what was tried
few_notes : (plan : Plan) (acts : ℕ → List Act) (s : BoardState) (ts : List Step)
    → length (notes plan acts s ts) ≤ length ts
few_notes plan acts s [] = omega arith
few_notes plan acts s (t ∷ ts) =
    few_noted t (step plan acts t s) (notes plan acts (state_after s (step plan acts t s)) ts) (length ts)
    (few_notes plan acts (state_after s (step plan acts t s)) ts)
  where
    few_noted : (t : Step) (o : Option Stepped) (ns : List Noted) (n : ℕ) → length ns ≤ n
        → length (noted t o ns) ≤ suc n
    few_noted t None ns n h = omega (arith, h)
    few_noted t (Some d) ns n h = omega (arith, h)

-- the same run
pub record Same (plan : Plan) (acts more : ℕ → List Act) (s : BoardState) (ts : List Step) : Type 0 where
  pub state : run plan more s ts ≡ run plan acts s ts
  pub told : notes plan more s ts ≡ notes plan acts s ts
  pub shown : copies plan more s ts ≡ copies plan acts s ts

longer_from : (plan : Plan) (acts more : ℕ → List Act) (t : Step) (ts : List Step) (s : BoardState) (o : Option Stepped)
    → Longer acts more → step plan acts t s ≡ o
    → ((d : Stepped) → steps_of (notes plan acts d.state ts) ≡ ts → Same plan acts more d.state ts)
    → steps_of (noted t o (notes plan acts (state_after s o) ts)) ≡ t ∷ ts → Same plan acts more s (t ∷ ts)
longer_from plan acts more t ts s None longer is further all =
    absurd (omega (
      arith,
      ap length all,
      length-map (notes plan acts s ts) (λ (n : Noted). n.by),
      few_notes plan acts s ts,
    ))
longer_from plan acts more t ts s (Some d) longer is further all =
    let same = further d (ap (drop 1) all) in
    let made = longer_step plan acts more t s d longer is in
    record {
      state = ap (λ o. run plan more (state_after s o) ts) made ∙ same.state
          ∙ sym (ap (λ o. run plan acts (state_after s o) ts) is);
      told = ap (λ o. noted t o (notes plan more (state_after s o) ts)) made
          ∙ ap (λ (ns : List Noted). record { by = t; note = d.note } ∷ ns) same.told
          ∙ sym (ap (λ o. noted t o (notes plan acts (state_after s o) ts)) is);
      shown = ap (λ o. published o (copies plan more (state_after s o) ts)) made
          ∙ ap (with_copy d.published) same.shown
          ∙ sym (ap (λ o. published o (copies plan acts (state_after s o) ts)) is);
    }

pub run_longer : (plan : Plan) (acts more : ℕ → List Act) (s : BoardState) (ts : List Step) → Longer acts more
    → steps_of (notes plan acts s ts) ≡ ts → Same plan acts more s ts
run_longer plan acts more s [] longer all = record { state = refl; told = refl; shown = refl }
run_longer plan acts more s (t ∷ ts) longer all =
    longer_from plan acts more t ts s (step plan acts t s) longer refl
    (λ d rest. run_longer plan acts more d.state ts longer rest) all

-- where each try made a step, the run is the same with longer lists
pub ran_longer : (plan : Plan) (acts more : ℕ → List Act) (ts : List Step) → Longer acts more
    → steps_of (ran plan acts ts).notes ≡ ts → ran plan more ts ≡ ran plan acts ts
unfolding ran
ran_longer plan acts more ts longer all =
    let same = run_longer plan acts more (start_state plan) ts longer all in
    λ i. record { state = same.state i; notes = same.told i; published = same.shown i }
