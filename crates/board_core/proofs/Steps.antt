-- What a step makes of a board's own run.
use Rattle.std.proofs.Common.{◌≡◌, ℕ, zero, suc, ◌<◌, List, [], ◌∷◌, ◌++◌, length, slice_get, Some, refl, inl, inr, sym, ap, ◌∙◌}
use Rattle.std.proofs.lemmas.Bool.{cases_eq}
use Rattle.std.proofs.lemmas.List.{get_or-set_same, get_or-set_other}
use Rattle.std.proofs.lemmas.Option.{none-some}
use Rattle.ras_device.specs.declared.act.Act.{Act}
use Rattle.board_plan.specs.declared.notes.Step.TheVariants.{Hart, Reporter}
use Rattle.board_plan.specs.Step.{Stepped, acts_made, hart_step, next_act, reporter_step, step}
use Rattle.board_plan.specs.Run.{Ran, ran, steps_of}
use Rattle.board_core.specs.Played.{Played, acts_of, own_run, state_of, with_step, with_act}
use Rattle.board_core.proofs.Going.{Longer, gone_on, goes_on, ran_longer}

-- a hart's step
pub hart_goes_on : (h : ℕ) (b : Played) (d : Stepped) → hart_step h b.plan (state_of b) ≡ Some d
    → own_run (with_step (Hart h) b) ≡ gone_on (own_run b) (Hart h) d
unfolding step
hart_goes_on h b d is = goes_on b.plan (acts_of b) b.steps (Hart h) d is

-- an item that is behind others
at_end : (xs : List Act) (a : Act) → slice_get (xs ++ a ∷ []) (length xs) ≡ Some a
at_end [] a = refl
at_end (x ∷ xs) a = at_end xs a

longer_there : (xs : List Act) (k : ℕ) (a x : Act) → slice_get xs k ≡ Some x → slice_get (xs ++ a ∷ []) k ≡ Some x
longer_there [] k a x h = absurd (none-some x h)
longer_there (y ∷ xs) zero a x h = h
longer_there (y ∷ xs) (suc k) a x h = longer_there xs k a x h

-- one act more makes the lists longer
at_reporter : (r : ℕ) (a : Act) (b : Played) → r < length b.acts
    → acts_of (with_act r a b) r ≡ acts_of b r ++ a ∷ []
at_reporter r a b there = get_or-set_same b.acts r (acts_of b r ++ a ∷ []) [] there

pub act_longer : (r : ℕ) (a : Act) (b : Played) → r < length b.acts → Longer (acts_of b) (acts_of (with_act r a b))
act_longer r a b there =
    record {
      fronts = λ k n x known.
          elim (cases_eq k r) as (λ _. slice_get (acts_of (with_act r a b) k) n ≡ Some x) [
            | inl here ↦
                ap (λ j. slice_get (acts_of (with_act r a b) j) n) here
                ∙ ap (λ (xs : List Act). slice_get xs n) (at_reporter r a b there)
                ∙ longer_there (acts_of b r) n a x (ap (λ j. slice_get (acts_of b j) n) (sym here) ∙ known)
            | inr elsewhere ↦
                ap (λ (xs : List Act). slice_get xs n)
                (get_or-set_other b.acts r k (acts_of b r ++ a ∷ []) [] elsewhere) ∙ known
          ];
    }

-- a reporter's step with the act that comes next
pub reporter_goes_on : (r : ℕ) (a : Act) (b : Played) (d : Stepped) → r < length b.acts
    → steps_of (own_run b).notes ≡ b.steps → acts_made r (state_of b) ≡ length (acts_of b r)
    → reporter_step r b.plan (Some a) (state_of b) ≡ Some d
    → own_run (with_step (Reporter r) (with_act r a b)) ≡ gone_on (own_run b) (Reporter r) d
unfolding step
reporter_goes_on r a b d there all used is =
    let more = acts_of (with_act r a b) in
    let same : ran b.plan more b.steps ≡ own_run b =
    ran_longer b.plan (acts_of b) more b.steps (act_longer r a b there) all in
    let next : next_act more r (ran b.plan more b.steps).state ≡ Some a =
    ap (λ (x : Ran). slice_get (more r) (acts_made r x.state)) same
    ∙ ap (slice_get (more r)) used
    ∙ ap (λ (xs : List Act). slice_get xs (length (acts_of b r))) (at_reporter r a b there)
    ∙ at_end (acts_of b r) a in
    let made : step b.plan more (Reporter r) (ran b.plan more b.steps).state ≡ Some d =
    ap (λ o. reporter_step r b.plan o (ran b.plan more b.steps).state) next
    ∙ ap (λ (x : Ran). reporter_step r b.plan (Some a) x.state) same ∙ is in
    goes_on b.plan more b.steps (Reporter r) d made ∙ ap (λ x. gone_on x (Reporter r) d) same
