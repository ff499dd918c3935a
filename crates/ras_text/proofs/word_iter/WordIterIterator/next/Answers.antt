-- Goals of `next` that the tactics leave open.
use Rattle.std.proofs.Common.{◌≡◌, ◌+◌, ◌<◌, length, arith, sym, ap, ◌∙◌}
use Rattle.std.proofs.lemmas.Grind.{common_steps}
use Rattle.ras_text.specs.Pieces.{words}
use Rattle.ras_text.proofs.Splits.{next_word, no_word}
use Rattle.ras_text.proofs.word_iter.WordIterIterator.next.Goals as goal

pub returns-then-is_empty-clause-steps : goal.returns-then-is_empty-clause-steps
returns-then-is_empty-clause-steps c =
    let none : c.blank_in.result ≡ 0 = grind (arith, common_steps) in
    let f = c.word_in.ensures in
    let e = no_word _ _ _ _ _ c.split_at.ensures.back c.split_at-2.ensures.back f.within f.before f.at
    c.blank_in.ensures.at none in
    (sym c.self.view_is ∙ e.0, e.1)

pub returns-clause-steps : goal.returns-clause-steps
returns-clause-steps c =
    let some : 0 < c.blank_in.result = grind (arith, common_steps) in
    let f = c.word_in.ensures in
    let g = c.blank_in.ensures in
    sym c.self.view_is
    ∙ next_word _ _ _ _ _ _ c.split_at.ensures.back c.split_at-2.ensures.front c.split_at-2.ensures.back f.within
    f.before g.within g.before g.at some

pub returns-clause-goes : goal.returns-clause-goes
returns-clause-goes c =
    let fewer : length c.args.self.now ≡ 1 + length (words c.split_at-2.result.1.now) =
    ap length (returns-clause-steps c) ∙ omega arith in
    record { on = λ _. (tt, tt, omega arith); keeps = tt; rests = λ _. tt }
