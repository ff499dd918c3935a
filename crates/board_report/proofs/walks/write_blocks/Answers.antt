-- One entry more, and all of them.
use Rattle.std.proofs.Common.{ℕ, List, length, [], ◌∷◌, refl, ap, ◌∙◌, arith}
use Rattle.reri_fields.specs.Block.{spelling}
use Rattle.board_plan.specs.Text.{block_line, bytes_of_entry}
use Rattle.board_report.proofs.Growing.{grows-nil}
use Rattle.board_report.proofs.OneMore.{grows-more, grows-same, numbered-next}
use Rattle.board_report.proofs.walks.write_blocks.Goals as goal

pub loop-k-init : goal.loop-k-init
loop-k-init g c = record { empty = c.requires; wrote = grows-nil _; same_pages = refl }

pub loop-k-preserved : goal.loop-k-preserved
loop-k-preserved g c =
    let f = λ (k : ℕ). block_line c.args.bank (bytes_of_entry (spelling c.args.slot.now) k) in
    let spelled = (c.bytes.ensures.spelled (omega (arith, ap length c.copies-k-end.ensures.copies))).same in
    record {
      empty = c.write_block.ensures.empty;
      wrote = grows-more _ _ _ _ _ _ (numbered-next f c.loop-k.k) c.loop-k.invariant.wrote
          (grows-same _ _ _ _ (ap (λ (bs : List ℕ). block_line c.args.bank bs ∷ []) (c.bytes_of_entry.ensures.bytes
          ∙ ap (λ (bs : List ℕ). bytes_of_entry bs c.loop-k.k) spelled)) c.write_block.ensures.wrote);
      same_pages = c.write_block.ensures.same_pages ∙ c.loop-k.invariant.same_pages;
    }
