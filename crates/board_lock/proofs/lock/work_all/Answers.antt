-- What the threads share may be shared, and each worker keeps what its own thread keeps.
use Rattle.std.proofs.Common.{◌<◌, Bool, rules, length, slice_index_or, subst}
use mir.Syntax.{of_param}
use denote.Exit.{if_kept, unseen}
use denote.Param.Send.{Quiet, Quiet-if}
use Rattle.board_lock.specs.declared.worker.Worker.{Worker}
use Rattle.board_lock.specs.Hand.{Stays}
use Rattle.board_lock.specs.Workers.{hand_of}
use Rattle.board_lock.proofs.lock.work_all.Goals as goal

-- what a value that is only seen through a `&` leaves is nothing
seen : {D : Type 0} (kept : Bool) → Quiet (if_kept kept (unseen {D = D}) (unseen {D = D}))
seen kept = Quiet-if kept unseen unseen (λ x w. tt) (λ x w. tt)

pub for_each_mut-requires-clause-accepts : goal.for_each_mut-requires-clause-accepts
for_each_mut-requires-clause-accepts g c κs within i p low is = (
  record { owned = c.type_bounds.send-D.owned; leaving = λ k. seen (k (of_param 2)) },
  record { owned = c.type_bounds.send-B.owned; leaving = λ k. seen (k (of_param 3)) },
  search rules,
  search rules,
)

pub returns-then-count-gt0-clause-each : goal.returns-then-count-gt0-clause-each
returns-then-count-gt0-clause-each g c k d low =
    let hand = hand_of g.D.ErrorDevice.left in
    let came = (c.for_each_mut.ensures k d low).1 in
    let new = slice_index_or c.for_each_mut.new.s k d in
    subst (λ w. Stays (hand w) (hand new)) came.argument_is
    (subst (λ v. Stays (hand came.argument.now) (hand v)) came.left came.call)
