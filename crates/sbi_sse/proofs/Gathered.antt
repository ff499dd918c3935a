-- Some of the attributes that were read one after another.
use Rattle.std.proofs.Common.{◌≡◌, ℕ, zero, suc, ◌+◌, ◌-◌, ◌≤◌, List, ◌∷◌, take, drop, refl, ap, ◌∙◌, arith}
use Rattle.sse_base.specs.declared.ids.Instance.{Instance}
use Rattle.sse_base.specs.Events.{Events}
use Rattle.sse_base.specs.Contexts.{Stack}
use Rattle.sse_base.specs.Calls.{read, reads}

from_one_on : (a b m n : ℕ) (at : Instance) (ss : List Stack) (t : Events) → m ≡ b + n
    → drop b (reads a m at ss t) ≡ reads (a + b) n at ss t
from_one_on a zero m n at ss t e =
    let same : m ≡ n = omega arith
    in let here : a + 0 ≡ a = omega arith
    in rw (same, here) refl
from_one_on a (suc b) zero n at ss t e = absurd (omega arith)
from_one_on a (suc b) (suc m) n at ss t e =
    from_one_on (a + 1) b m n at ss t (omega arith)
    ∙ ap (λ k. reads k n at ss t) (let on : a + 1 + b ≡ a + suc b = omega arith in on)

first_ones : (a n m : ℕ) (at : Instance) (ss : List Stack) (t : Events) → n ≤ m
    → take n (reads a m at ss t) ≡ reads a n at ss t
first_ones a zero m at ss t h = refl
first_ones a (suc n) zero at ss t h = absurd (omega arith)
first_ones a (suc n) (suc m) at ss t h =
    ap (λ ws. read a at ss t ∷ ws) (first_ones (a + 1) n m at ss t (omega arith))

-- a range of all ten
pub range_read : (b n : ℕ) (words : List ℕ) (at : Instance) (ss : List Stack) (t : Events)
    → words ≡ reads 0 10 at ss t → b + n ≤ 10 → take (b + n - b) (drop b words) ≡ reads b n at ss t
range_read b n words at ss t e h =
    let many : b + n - b ≡ n = omega arith
    in let start : 0 + b ≡ b = omega arith
    in ap (λ k. take k (drop b words)) many
    ∙ ap (λ (ws : List ℕ). take n (drop b ws)) e
    ∙ ap (take n) (from_one_on 0 b 10 (10 - b) at ss t (omega arith))
    ∙ ap (λ k. take n (reads k (10 - b) at ss t)) start
    ∙ first_ones b n (10 - b) at ss t (omega arith)
