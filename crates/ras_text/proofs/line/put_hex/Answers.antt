-- Goals of `put_hex` that the tactics leave open.
use Rattle.std.proofs.Common.{ℕ, List, [], ◌∷◌, ◌++◌, codes, ap, ◌∙◌}
use Rattle.ras_text.specs.Lines.{text_of}
use Rattle.ras_text.proofs.Glyphs.{one_digit}
use Rattle.ras_text.proofs.line.put_hex.Goals as goal

pub returns-then-n-lt16-clause-text : goal.returns-then-n-lt16-clause-text
returns-then-n-lt16-clause-text g c =
    let old = text_of c.args.line.now in
    c.put_word.ensures.text
    ∙ ap (λ (d : ℕ). old ++ (codes "0x" ++ d ∷ [])) c.glyph.ensures
    ∙ ap (λ (ds : List ℕ). old ++ ds) (one_digit c.args.n c.if-n-lt16.true)
