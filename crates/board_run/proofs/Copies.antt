-- A run publishes no more copies than it makes steps.
use Rattle.std.proofs.Common.{◌≡◌, ℕ, ◌+◌, ◌≤◌, ◌<◌, ◌^◌, List, [], ◌∷◌, length, Option, Some, None, ap, arith}
use Rattle.std.proofs.lemmas.List.{length-map}
use Rattle.ras_device.specs.declared.act.Act.{Act}
use Rattle.board_plan.specs.declared.notes.Published.{Published}
use Rattle.board_plan.specs.declared.notes.Step.{Step}
use Rattle.board_plan.specs.declared.plan.Plan.{Plan}
use Rattle.board_plan.specs.Plans.{most_steps}
use Rattle.board_plan.specs.State.{BoardState, start_state}
use Rattle.board_plan.specs.Step.{Stepped, step}
use Rattle.board_plan.specs.Run.{Noted, state_after, noted, with_copy, published, notes, copies, ran, steps_of}
use Rattle.board_core.specs.Played.{Played, IsPlayed, acts_of, own_run}

with_few : (o : Option Published) (ps : List Published) (n : ℕ) → length ps ≤ n → length (with_copy o ps) ≤ n + 1
with_few None ps n h = omega (arith, h)
with_few (Some p) ps n h = omega (arith, h)

one_few : (t : Step) (o : Option Stepped) (ps : List Published) (ns : List Noted) → length ps ≤ length ns
    → length (published o ps) ≤ length (noted t o ns)
one_few t None ps ns h = h
one_few t (Some d) ps ns h = omega (arith, with_few d.published ps (length ns) h)

copies_few : (plan : Plan) (acts : ℕ → List Act) (s : BoardState) (ts : List Step)
    → length (copies plan acts s ts) ≤ length (notes plan acts s ts)
copies_few plan acts s [] = omega arith
copies_few plan acts s (t ∷ ts) =
    let o = step plan acts t s in
    one_few t o (copies plan acts (state_after s o) ts) (notes plan acts (state_after s o) ts)
    (copies_few plan acts (state_after s o) ts)

-- a board has made few steps
pub few_notes : (b : Played) → IsPlayed b → length (own_run b).notes ≤ 160000
few_notes b is =
    let told : length (steps_of (own_run b).notes) ≡ length (own_run b).notes =
    length-map (own_run b).notes (λ (n : Noted). n.by) in
    let made : length (steps_of (own_run b).notes) ≡ length b.steps = ap length is.all_made in
    let few : length b.steps ≤ most_steps b.plan = is.few in
    let most : most_steps b.plan ≤ 160000 = is.is_plan.few_steps in
    omega (arith, told, made, few, most)

-- so few copies were published on it
pub few_published : (b : Played) → IsPlayed b → length (own_run b).published < 2 ^ 32
unfolding ran
few_published b is =
    let copies : length (own_run b).published ≤ length (own_run b).notes =
    copies_few b.plan (acts_of b) (start_state b.plan) b.steps in
    omega (arith, copies, few_notes b is)
