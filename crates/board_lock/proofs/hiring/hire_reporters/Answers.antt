-- One reporter more.
use Rattle.std.proofs.Common.{map, ap, ◌∙◌}
use Rattle.std.proofs.lemmas.List.{map_push}
use Rattle.board_lock.specs.Views.{left_or_none}
use Rattle.board_lock.specs.Workers.{hand_of}
use Rattle.board_lock.proofs.Shelves.{hired_more, kept_more, next_hand, read_there}
use Rattle.board_lock.proofs.hiring.hire_reporters.Goals as goal

pub loop-number-preserved : goal.loop-number-preserved
loop-number-preserved g c =
    let hand = hand_of g.D.ErrorDevice.left in
    let acts = left_or_none g.D.ErrorDevice.left in
    let plan = c.args.plan.now in
    let r = c.loop-number.number in
    let d = c.index-reporters-number.result in
    let declared = read_there c.as_slice-reporters.result.now plan.reporters r d c.as_slice-reporters.ensures
    c.loop-number-test.true c.index-reporters-number.is in
    let w = c.in_ok-worker.worker in
    let kept = c.loop-number.invariant.kept in
    record {
      hands = hired_more plan (map acts c.args.shelf.now) (map hand c.args.workers.now) (map hand c.loop-number.workers)
          (map hand c.push.new.self) r (hand w) c.loop-number.invariant.hands
          (next_hand plan r (map acts c.args.shelf.now) (map acts c.loop-number.shelf) d (hand w) declared kept
          c.in_ok-worker.ensures.hand)
          (ap (map hand) c.in_ok-push.ensures.ok ∙ map_push hand c.loop-number.workers w);
      kept = kept_more plan r (map acts c.args.shelf.now) (map acts c.loop-number.shelf)
          (map acts c.hire_reporter.new.shelf) d c.requires.named_once declared kept c.hire_reporter.ensures.shelf;
    }
