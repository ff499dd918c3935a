-- Every run is safe: each part is a law.
use Rattle.std.specs.Prelude.{ℕ, List}
use Rattle.ras_device.specs.declared.act.Act.{Act}
use Rattle.board_plan.specs.declared.notes.Step.{Step}
use Rattle.board_plan.specs.declared.plan.Plan.{Plan}
use Rattle.board_plan.specs.Plans.{IsPlan, AreReports}
use Rattle.board_plan.specs.Run.{ran}
use Rattle.board_plan.specs.Sound.{IsSound, IsSoundAt}
use Rattle.board_plan.specs.Amend.{IsAmended}
use Rattle.board_plan.specs.Blocks.{AreBlocksKept, AreClaimsBounded}
use Rattle.board_plan.specs.Laws.{AreRunsSafe, EachRunIsSafe}
use Rattle.event_laws.proofs.Following.{each_change_is_an_arrow}
use Rattle.event_laws.proofs.Framing.{each_runs_in_its_frame, each_nest_rises}
use Rattle.event_laws.proofs.Prompt.{each_step_is_prompt}
use Rattle.context_laws.proofs.Following.{is_amended}
use Rattle.drain_laws.proofs.Showing.{each_signalled_asks, each_copy_is_of_its_record, each_shown_published_is_under_invalidate}
use Rattle.drain_laws.proofs.Homes.{each_drain_is_sound}
use Rattle.drain_laws.proofs.Slots.{each_slot_is_of_its_notes, each_copy_stands, each_signalled_block_rests}
use Rattle.drain_laws.proofs.Tries.{at_most_twelve_claims, each_torn_check_rises}
use Rattle.fate_laws.proofs.Closing.{each_error_has_one_fate, each_drained_was_published}
use Rattle.board_laws.specs.Safe.{IsRunSafe}

sound_at : (plan : Plan) (acts : ℕ → List Act) (tries : List Step) → IsPlan plan
    → IsSoundAt plan acts (ran plan acts tries).state (ran plan acts tries).notes
sound_at plan acts tries is =
    record {
      arrows = each_change_is_an_arrow plan acts tries is;
      frames = each_runs_in_its_frame plan acts tries is;
      nests = each_nest_rises plan acts tries is;
      prompt = each_step_is_prompt plan acts tries is;
      copies = each_copy_is_of_its_record plan acts (ran plan acts tries).state;
      fates = each_error_has_one_fate plan acts tries;
      asking = each_signalled_asks plan acts tries is;
      drains = each_drain_is_sound plan acts tries is;
      published = each_shown_published_is_under_invalidate plan acts tries is;
    }

is_sound : (plan : Plan) (acts : ℕ → List Act) (tries : List Step) → IsPlan plan → IsSound plan acts tries
is_sound plan acts tries is before after tried = sound_at plan acts before is

are_blocks_kept : (plan : Plan) (acts : ℕ → List Act) → IsPlan plan → AreBlocksKept plan acts
are_blocks_kept plan acts is =
    record {
      slots = each_slot_is_of_its_notes plan acts is;
      copies = each_copy_stands plan acts is;
      signalled = each_signalled_block_rests plan acts is;
      drained = each_drained_was_published plan acts;
    }

are_claims_bounded : (plan : Plan) (acts : ℕ → List Act) → IsPlan plan → AreReports acts → AreClaimsBounded plan acts
are_claims_bounded plan acts is reports =
    record { twelve = at_most_twelve_claims plan acts is reports; torn = each_torn_check_rises plan acts is }

pub each_run_is_safe : EachRunIsSafe
each_run_is_safe plan acts is =
    record {
      sound = λ tries. is_sound plan acts tries is;
      amended = is_amended plan acts is;
      blocks = are_blocks_kept plan acts is;
      claims = are_claims_bounded plan acts is;
    }

pub run_is_safe : (plan : Plan) (acts : ℕ → List Act) (tries : List Step) → IsPlan plan → AreReports acts
    → IsRunSafe plan acts tries
run_is_safe plan acts tries is reports =
    record {
      sound = is_sound plan acts tries is;
      amended = is_amended plan acts is;
      blocks = are_blocks_kept plan acts is;
      claims = are_claims_bounded plan acts is reports;
    }
