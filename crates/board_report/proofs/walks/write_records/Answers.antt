-- One record more, and all of them.
use Rattle.std.proofs.Common.{refl, ◌∙◌, arith}
use Rattle.board_report.proofs.Growing.{grows-nil}
use Rattle.board_report.proofs.OneMore.{grows-more, grows-same, records-next, records-all}
use Rattle.board_report.proofs.Words.{words-more, words-all}
use Rattle.board_report.proofs.walks.write_records.Goals as goal

pub loop-rec-init : goal.loop-rec-init
loop-rec-init g c =
    record {
      empty = c.requires.empty;
      wrote = grows-nil _;
      words = λ i copy low. absurd (omega (arith, low));
      same_pages = refl;
    }

pub loop-rec-preserved : goal.loop-rec-preserved
loop-rec-preserved g c =
    record {
      empty = c.write_registers.ensures.empty;
      wrote = grows-more _ _ _ _ _ _
          (records-next c.args.number 0 c.loop-rec.rec c.loop-rec.rec c.args.bank.now.copies c.copy_of.result
          (omega arith) c.copy_of.ensures.value) c.loop-rec.invariant.wrote c.write_registers.ensures.wrote;
      words = words-more c.args.bank.now.copies c.loop-rec.rec c.copy_of.result c.copy_of.ensures.value
          c.write_registers.ensures.word c.loop-rec.invariant.words;
      same_pages = c.write_registers.ensures.same_pages ∙ c.loop-rec.invariant.same_pages;
    }

pub returns-clause-wrote : goal.returns-clause-wrote
returns-clause-wrote g c =
    grows-same _ _ _ _ (records-all c.args.number c.loop-rec.rec c.args.bank.now.copies (omega
    (arith, c.requires.count))) c.loop-rec.invariant.wrote

pub returns-clause-words : goal.returns-clause-words
returns-clause-words g c =
    words-all c.args.bank.now.copies c.loop-rec.rec (omega (arith, c.requires.count)) c.loop-rec.invariant.words
