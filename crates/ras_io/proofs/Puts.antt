-- What several writes in turn leave.
use Rattle.std.proofs.Common.{◌≡◌, ℕ, List, ◌++◌, sym, ap, ◌∙◌, append_assoc, subst, Option, Result}
use Rattle.std.specs.Io.KnownBytes.{Appends}
use Rattle.std.proofs.KnownBytes.{Appends-trans}
use Rattle.ras_io.specs.Causes.{Puts, AppendsFront}

-- a whole write, and then a front of another
pub AppendsFront-then : (a b d : Option (List ℕ)) (xs ys : List ℕ) → Appends a b xs → AppendsFront b d ys
    → AppendsFront a d (xs ++ ys)
AppendsFront-then a b d xs ys p q =
    (xs ++ q.0, q.1, append_assoc xs q.0 q.1 ∙ ap (λ l. xs ++ l) q.2, Appends-trans a b d xs q.0 p q.3)

-- a front of some bytes is a front of more
pub AppendsFront-of_more : (a b : Option (List ℕ)) (xs ys : List ℕ) → AppendsFront a b xs → AppendsFront a b (xs ++ ys)
AppendsFront-of_more a b xs ys q = (q.0, q.1 ++ ys, sym (append_assoc q.0 q.1 ys) ∙ ap (λ l. l ++ ys) q.2, q.3)

-- the same answer, said of equal values
pub Puts-same : {T E : Type 0} (a a' b b' : Option (List ℕ)) (r : Result T E) (xs xs' : List ℕ) → a ≡ a' → b ≡ b'
    → xs ≡ xs' → Puts a b r xs → Puts a' b' r xs'
Puts-same {T} {E} a a' b b' r xs xs' p q e h =
    subst (λ l. Puts a' b' r l) e (subst (λ o. Puts a' o r xs) q (subst (λ o. Puts o b r xs) p h))
