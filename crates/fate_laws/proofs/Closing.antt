-- The laws, from what the other files say.
use Rattle.std.proofs.Common.{◌≡◌, ℕ, List, slice_get, Some, ap, ◌∙◌}
use Rattle.sse_base.specs.Contexts.{bit}
use Rattle.reri_fields.specs.Records.{Error}
use Rattle.ras_device.specs.declared.act.Act.{Act}
use Rattle.board_plan.specs.declared.notes.Step.{Step}
use Rattle.board_plan.specs.declared.plan.Plan.{Plan}
use Rattle.board_plan.specs.Run.{ran}
use Rattle.board_plan.specs.Fates.{News, errors_made, has_fate, fates_of, news, number_with}
use Rattle.board_plan.specs.Sound.{EachHasOneFate}
use Rattle.board_plan.specs.Blocks.{EachDrainedWasPublished}
use Rattle.fate_laws.specs.Sums.{AddUp}
use Rattle.fate_laws.proofs.Made.{each_is_of_its_step}
use Rattle.fate_laws.proofs.OneFate.{AreOrderly, HasOne, has_one_fate, seven_make_all}
use Rattle.fate_laws.proofs.Published.{was_drained, times_is, at_most_once}
use Rattle.fate_laws.proofs.Stages.{ran_orderly}
use Rattle.fate_laws.proofs.Publications.{drained_was_published}

one_each : (plan : Plan) (ns : List News) → AreOrderly plan ns → (i : ℕ) (e : Error)
    → slice_get (errors_made ns) i ≡ Some e → HasOne (λ fate. has_fate plan ns fate e)
one_each plan ns orderly i e is = has_one_fate plan ns e orderly (each_is_of_its_step ns i e is)

pub each_error_has_one_fate : (plan : Plan) (acts : ℕ → List Act) (tries : List Step)
    → EachHasOneFate plan (news (ran plan acts tries).notes)
each_error_has_one_fate plan acts tries =
    let ns = news (ran plan acts tries).notes in
    let orderly = ran_orderly plan acts tries in
    record {
      one = λ i e is. (one_each plan ns orderly i e is).one;
      once = λ n. at_most_once plan ns n orderly;
    }

pub numbers_add_up : (plan : Plan) (acts : ℕ → List Act) (tries : List Step)
    → AddUp (fates_of plan (ran plan acts tries).notes)
unfolding number_with
numbers_add_up plan acts tries =
    let ns = news (ran plan acts tries).notes in
    record {
      sum = seven_make_all (has_fate plan ns) (errors_made ns) (one_each plan ns (ran_orderly plan acts tries));
    }

pub each_drained_was_published : (plan : Plan) (acts : ℕ → List Act) → EachDrainedWasPublished plan acts
each_drained_was_published plan acts tries i e is drained =
    let ns = news (ran plan acts tries).notes in
    let made = each_is_of_its_step ns i e is in
    record {
      once = times_is plan ns e.step (ran_orderly plan acts tries)
          ∙ ap (λ o. bit (was_drained plan ns o)) made ∙ ap bit drained;
      check = drained_was_published plan acts tries e made drained;
    }
