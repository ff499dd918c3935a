-- After some entries of a block their lines went out.
use Rattle.std.proofs.Common.{◌≡◌, [], map}
use Rattle.std.specs.List.{range_with_len}
use Rattle.reri_fields.specs.Block.{spelling}
use Rattle.ras_text.specs.Lines.{text_of}
use Rattle.board_plan.specs.Text.{block_line, bytes_of_entry}
use Rattle.board_report.specs.Writing.{Adds, SamePages}
use Rattle.board_report.proofs.walks.write_blocks.Given as goal

abbrev pub invariant-loop-k : goal.invariant-loop-k
invariant-loop-k g l = record {
  empty : text_of l.pages.line ≡ [];
  wrote : Adds g.K.Sink.written g.K.Sink.faults g.K.Sink.writes l.fn.pages l.pages (map (λ k. block_line l.bank
      (bytes_of_entry (spelling l.slot) k)) (range_with_len 0 l.k));
  same_pages : SamePages l.pages l.fn.pages;
}
