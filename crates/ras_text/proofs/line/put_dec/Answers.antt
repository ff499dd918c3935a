-- Goals of `put_dec` that the tactics leave open.
use Rattle.std.proofs.Common.{List, ℕ, ◌++◌, sym, ap, ◌∙◌}
use Rattle.std.proofs.lemmas.Fmt.{decimal_digit}
use Rattle.ras_text.specs.Lines.{text_of}
use Rattle.ras_text.proofs.line.put_dec.Goals as goal

pub returns-then-n-lt10-clause-text : goal.returns-then-n-lt10-clause-text
returns-then-n-lt10-clause-text g c =
    c.put_byte.ensures.text
    ∙ ap (λ (ds : List ℕ). text_of c.args.line.now ++ ds) (sym (decimal_digit c.args.n c.if-n-lt10.true))
