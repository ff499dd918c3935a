-- One line more, all of them, or up to a write that failed.
use Rattle.std.proofs.Common.{◌+◌, Ok, Err, refl, ◌∙◌, arith}
use Rattle.std.proofs.lemmas.Option.{slice_get-get_or}
use Rattle.std.proofs.lemmas.Result.{err_from_is_err_and}
use Rattle.board_run.proofs.Listing.{none_wrote, line_more, cut_off, wrote-same, pages-next, pages-split, pages-all}
use Rattle.board_run.proofs.pages.put_pages.Goals as goal

pub put_page-requires : goal.put_page-requires
put_page-requires g c = c.loop-page.invariant.empty

pub loop-page-init : goal.loop-page-init
loop-page-init g c = record { empty = c.requires; wrote = none_wrote _ _ _; same_sink = refl }

pub loop-page-preserved : goal.loop-page-preserved
loop-page-preserved g c =
    record {
      empty = c.end.ensures.empty;
      wrote = line_more g.K.Sink.written g.K.Sink.faults g.K.Sink.writes c.args.line.now c.loop-page.line
          c.put_page.new.line c.end.new.self _ _ _ (Ok c.in_ok-end.field-0) c.put_page.ensures.sink
          c.put_page.ensures.text (pages-next c.loop-page.page-index c.args.pages.now _
          (slice_get-get_or c.args.pages.now c.loop-page.page-index _ (omega arith))) c.loop-page.invariant.wrote
          c.in_ok-end.ensures.bytes c.in_ok-end.ensures.cause c.in_ok-end.ensures.one_write;
      same_sink = c.end.ensures.same_reference ∙ c.put_page.ensures.same_sink ∙ c.loop-page.invariant.same_sink;
    }

pub returns-in_err-end-clause-wrote : goal.returns-in_err-end-clause-wrote
returns-in_err-end-clause-wrote g c =
    let p = err_from_is_err_and c.from_residual.result c.from_residual.ensures.1 in
    let upto = line_more g.K.Sink.written g.K.Sink.faults g.K.Sink.writes c.args.line.now c.loop-page.line
    c.put_page.new.line c.end.new.self _ _ _ (Err c.in_err-end.field-0.0) c.put_page.ensures.sink
    c.put_page.ensures.text (pages-next c.loop-page.page-index c.args.pages.now _
    (slice_get-get_or c.args.pages.now c.loop-page.page-index _ (omega arith))) c.loop-page.invariant.wrote
    c.in_err-end.ensures.bytes c.in_err-end.ensures.cause c.in_err-end.ensures.one_write in
    cut_off _ _ _ _ _ _ _ _ _ _ _ _ p.1 (pages-split (c.loop-page.page-index + 1) c.args.pages.now) upto

pub returns-in_err-end-clause-same_sink : goal.returns-in_err-end-clause-same_sink
returns-in_err-end-clause-same_sink g c =
    c.end.ensures.same_reference ∙ c.put_page.ensures.same_sink ∙ c.loop-page.invariant.same_sink

pub returns-clause-wrote : goal.returns-clause-wrote
returns-clause-wrote g c =
    wrote-same _ _ _ _ (pages-all c.loop-page.page-index c.args.pages.now (omega arith)) c.loop-page.invariant.wrote

pub returns-clause-same_sink : goal.returns-clause-same_sink
returns-clause-same_sink g c = c.loop-page.invariant.same_sink
