-- Goals of `gather` that the tactics leave open.
use Rattle.std.proofs.Common.{◌≡◌, ◌+◌, ◌<◌, ◌++◌, [], ◌∷◌, length, get_or, drop, slice_range, refl, sym, ap, ◌∙◌, arith, true, false}
use Rattle.std.proofs.lemmas.List.{take_rest}
use Rattle.ras_text.specs.Pieces.{is_blank, lines, without_return}
use Rattle.board_script.specs.Reading.{texts, line_of, as_word}
use Rattle.board_script.proofs.Heads.{first_line, above_is_dark, onward, onward_start, onward_end, onward_newline, onward_word, onward_other, after_end, after_newline_byte, after_other_byte, nothing_behind}
use Rattle.board_script.proofs.reading.gather.Goals as goal

pub loop-i-init : goal.loop-i-init
loop-i-init c =
    let t = c.args.text.now in
    record {
      begun = omega arith;
      said = ap (λ items. texts items ++ onward [] t) c.clear.ensures.items ∙ onward_start t;
      behind = refl;
    }

pub loop-i-preserved-then-byte-gt32 : goal.loop-i-preserved-then-byte-gt32
loop-i-preserved-then-byte-gt32 c =
    let t = c.args.text.now in
    let l = c.loop-i in
    let here : l.i < length t = omega arith in
    let above : 32 < get_or t l.i 0 = omega arith in
    let other : get_or t l.i 0 ≡ 10 → ⊥ = λ e. omega arith in
    record {
      begun = omega arith;
      said = ap (λ ws. texts l.into.items ++ ws)
          (sym (onward_other t l.i here l.start l.invariant.begun other (above_is_dark _ above)))
          ∙ l.invariant.said;
      behind = sym (after_other_byte t l.i here other) ∙ l.invariant.behind;
    }

pub returns-then-byte-eq10-clause-words : goal.returns-then-byte-eq10-clause-words
returns-then-byte-eq10-clause-words c =
    let t = c.args.text.now in
    let l = c.loop-i in
    let here : l.i < length t = omega arith in
    c.in_ok-add_word.ensures.ok
    ∙ ap (λ w. texts l.into.items ++ as_word w) c.without_return.ensures
    ∙ ap (λ ws. texts l.into.items ++ ws)
    (sym (onward_newline t l.i here (slice_range t l.start l.i) c.if-byte-eq10.true))
    ∙ l.invariant.said

pub returns-then-byte-eq10-clause-lines : goal.returns-then-byte-eq10-clause-lines
returns-then-byte-eq10-clause-lines c =
    let t = c.args.text.now in
    let l = c.loop-i in
    let here : l.i < length t = omega arith in
    first_line t c.requires
    ∙ ap (λ rest. line_of t ∷ lines rest)
    (sym l.invariant.behind ∙ after_newline_byte t l.i here c.if-byte-eq10.true ∙ sym (take_rest t (l.i + 1)))

pub loop-i-preserved-then-not-is_blank : goal.loop-i-preserved-then-not-is_blank
loop-i-preserved-then-not-is_blank c =
    let t = c.args.text.now in
    let l = c.loop-i in
    let here : l.i < length t = omega arith in
    let dark : is_blank (get_or t l.i 0) ≡ false = cc in
    record {
      begun = omega arith;
      said = ap (λ ws. texts l.into.items ++ ws)
          (sym (onward_other t l.i here l.start l.invariant.begun c.if-byte-eq10.false dark))
          ∙ l.invariant.said;
      behind = sym (after_other_byte t l.i here c.if-byte-eq10.false) ∙ l.invariant.behind;
    }

pub loop-i-preserved : goal.loop-i-preserved
loop-i-preserved c =
    let t = c.args.text.now in
    let l = c.loop-i in
    let here : l.i < length t = omega arith in
    let blank : is_blank (get_or t l.i 0) ≡ true = cc in
    record {
      begun = omega arith;
      said = ap (λ ws. ws ++ onward (slice_range t (l.i + 1) (l.i + 1)) (drop (l.i + 1) t))
          c.in_ok-add_word-2.ensures.ok
          ∙ onward_word t l.i here (texts l.into.items) l.start c.if-byte-eq10.false blank
          ∙ l.invariant.said;
      behind = sym (after_other_byte t l.i here c.if-byte-eq10.false) ∙ l.invariant.behind;
    }

pub returns-clause-words : goal.returns-clause-words
returns-clause-words c =
    let t = c.args.text.now in
    let l = c.loop-i in
    let whole : length t ≡ l.i = omega arith in
    c.in_ok-add_word-3.ensures.ok
    ∙ ap (λ w. texts l.into.items ++ as_word w) c.without_return-2.ensures
    ∙ ap (λ n. texts l.into.items ++ as_word (without_return (slice_range t l.start n))) whole
    ∙ ap (λ ws. texts l.into.items ++ ws) (sym (onward_end t l.i (slice_range t l.start l.i) (omega arith)))
    ∙ l.invariant.said

pub returns-clause-lines : goal.returns-clause-lines
returns-clause-lines c =
    let t = c.args.text.now in
    let l = c.loop-i in
    first_line t c.requires
    ∙ ap (λ rest. line_of t ∷ lines rest)
    (sym l.invariant.behind ∙ after_end t l.i (omega arith) ∙ sym (nothing_behind t))
