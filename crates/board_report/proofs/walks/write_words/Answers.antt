-- One word more, and all of them.
use Rattle.std.proofs.Common.{get_or, refl, ◌∙◌, arith}
use Rattle.board_report.proofs.Growing.{grows-nil}
use Rattle.board_report.proofs.OneMore.{grows-more, grows-same, words-next, words-all}
use Rattle.board_report.proofs.walks.write_words.Goals as goal

pub loop-i-init : goal.loop-i-init
loop-i-init g c = record { empty = c.requires.empty; wrote = grows-nil _; same_pages = refl }

pub loop-i-preserved : goal.loop-i-preserved
loop-i-preserved g c =
    record {
      empty = c.write_word.ensures.empty;
      wrote = grows-more _ _ _ _ _ _ (words-next 0x80000000 c.loop-i.i
          (get_or c.args.words.now c.loop-i.i 0) c.args.words.now
          (omega arith) refl) c.loop-i.invariant.wrote c.write_word.ensures.wrote;
      same_pages = c.write_word.ensures.same_pages ∙ c.loop-i.invariant.same_pages;
    }

pub returns-clause-wrote : goal.returns-clause-wrote
returns-clause-wrote g c =
    grows-same _ _ _ _ (words-all 0x80000000 c.loop-i.i c.args.words.now (omega arith)) c.loop-i.invariant.wrote
