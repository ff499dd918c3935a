-- Goals of `put_hex_digits` that the tactics leave open.
use Rattle.std.proofs.Common.{◌≡◌, ℕ, ◌+◌, List, [], ◌∷◌, ◌++◌, codes, false, set, take, ap, ◌∙◌, arith, append_assoc, length-set, sym}
use Rattle.std.proofs.lemmas.List.{length-take, take_more_set}
use Rattle.std.specs.Fmt.{digits}
use Rattle.ras_text.specs.Numbers.{hexadecimal}
use Rattle.ras_text.proofs.Glyphs.{placed}
use Rattle.ras_text.proofs.line.put_hex_digits.Goals as goal

pub returns-clause-text : goal.returns-clause-text
unfolding hexadecimal
returns-clause-text g c =
    let len = c.args.line.now.len in
    let bytes = c.args.line.now.bytes in
    let new = c.write_hex-first.new.buf in
    let ds = digits 16 false c.args.n in
    let one = set bytes len 48 in
    let two = set one (len + 1) 120 in
    let fits = length-take len bytes in
    let long = length-set bytes len 48 in
    let start : c.write_hex-first.result ≡ len + 2 =
    omega (arith, c.digit_count.ensures.count, c.write_hex-first.ensures.start) in
    let next : len + 1 + 1 ≡ len + 2 = omega arith in
    let zero_x : take (len + 2) two ≡ take len bytes ++ codes "0x" =
    ap (λ (i : ℕ). take i two) (sym next)
    ∙ take_more_set one (len + 1) 120 (omega (arith, fits, long, c.requires.room))
    ∙ ap (λ (xs : List ℕ). xs ++ 120 ∷ []) (take_more_set bytes len 48 (omega (arith, fits, c.requires.room)))
    ∙ append_assoc (take len bytes) (48 ∷ []) (120 ∷ []) in
    ap (λ (i : ℕ). take (len + 2 + i) new) c.digit_count.ensures.count
    ∙ placed new two ds _ (len + 2)
    (rw start at c.write_hex-first.ensures.before) (rw start at c.write_hex-first.ensures.digits)
    ∙ ap (λ (xs : List ℕ). xs ++ ds) zero_x
    ∙ append_assoc (take len bytes) (codes "0x") ds
