-- The words that a write took, over the front of ten blank ones.
use Rattle.std.proofs.Common.{◌≡◌, ℕ, List, ◌++◌, drop, length, ap, sym, ◌∙◌}
use Rattle.std.proofs.lemmas.List.{drop-replicate}
use Rattle.sse_base.specs.Calls.{no_words, padded}

pub over_blank : (words blank : List ℕ) (n : ℕ) → length words ≡ n → blank ≡ no_words
    → words ++ drop n blank ≡ padded words
over_blank words blank n l b =
    ap (λ (ws : List ℕ). words ++ drop n ws) b
    ∙ ap (λ (k : ℕ). words ++ drop k no_words) (sym l)
    ∙ ap (λ (ws : List ℕ). words ++ ws) (drop-replicate (length words) 10 0)
