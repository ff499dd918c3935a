-- After some records of a bank their lines went out.
use Rattle.std.proofs.Common.{◌≡◌, ℕ, ◌<◌, ◌^◌, [], take, slice_get, Some}
use Rattle.reri_fields.specs.declared.report.RecordCopy.{RecordCopy}
use Rattle.ras_text.specs.Lines.{text_of}
use Rattle.board_report.specs.Told.{told_records}
use Rattle.board_report.specs.Writing.{Adds, SamePages}
use Rattle.board_report.proofs.walks.write_records.Given as goal

abbrev pub invariant-loop-rec : goal.invariant-loop-rec
invariant-loop-rec g l = record {
  empty : text_of l.pages.line ≡ [];
  wrote : Adds g.K.Sink.written g.K.Sink.faults g.K.Sink.writes l.fn.pages l.pages (told_records l.number 0
      (take l.rec l.bank.copies));
  words : (i : ℕ) (copy : RecordCopy) → i < l.rec → slice_get l.bank.copies i ≡ Some copy → copy.status < 2 ^ 64;
  same_pages : SamePages l.pages l.fn.pages;
}
