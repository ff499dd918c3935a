-- After some banks their lines went out.
use Rattle.std.proofs.Common.{◌≡◌, ℕ, ◌<◌, [], take, slice_get, Some}
use Rattle.ras_text.specs.Lines.{text_of}
use Rattle.board_bank.specs.Standing.{BankParts}
use Rattle.board_report.specs.Told.{AreWords, told_banks}
use Rattle.board_report.specs.Writing.{Adds, SamePages}
use Rattle.board_report.proofs.walks.write_banks.Given as goal

abbrev pub invariant-loop-number : goal.invariant-loop-number
invariant-loop-number g l = record {
  empty : text_of l.pages.line ≡ [];
  wrote : Adds g.K.Sink.written g.K.Sink.faults g.K.Sink.writes l.fn.pages l.pages (told_banks 0
      (take l.number l.parts.decls.items) (take l.number l.parts.banks.items));
  words : (i : ℕ) (b : BankParts) → i < l.number → slice_get l.parts.banks.items i ≡ Some b → AreWords b.bank.copies;
  same_pages : SamePages l.pages l.fn.pages;
}
