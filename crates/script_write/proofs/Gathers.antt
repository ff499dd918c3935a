-- Banks that go on with gather number 1, one after another.
use Rattle.std.proofs.Common.{◌≡◌, ℕ, zero, suc, ◌+◌, ◌<◌, List, [], ◌∷◌, ◌++◌, length, take, drop, set, map, get_or, refl, ap, ◌∙◌, add-one, arith}
use Rattle.board_plan.specs.declared.plan.BankDecl.{BankDecl}
use Rattle.board_plan.specs.Canonical.{with_gather_1}

abbrev so_far : ℕ → List BankDecl → List BankDecl
so_far i bs = map with_gather_1 (take i bs) ++ drop i bs

next : (bs : List BankDecl) (i : ℕ) (d : BankDecl) → i < length bs →
    set (so_far i bs) i (with_gather_1 (get_or (so_far i bs) i d)) ≡ so_far (suc i) bs
next [] i d h = absurd (omega arith)
next (b ∷ bs) zero d h = refl
next (b ∷ bs) (suc i) d h = ap (λ cs. with_gather_1 b ∷ cs) (next bs i d (omega arith))

-- one more bank, read from a list that is the same
pub gathers_more : (bs now seen : List BankDecl) (i : ℕ) (d : BankDecl) → i < length bs → seen ≡ now →
    now ≡ map with_gather_1 (take i bs) ++ drop i bs →
    set now i (with_gather_1 (get_or seen i d)) ≡ map with_gather_1 (take (i + 1) bs) ++ drop (i + 1) bs
gathers_more bs now seen i d h same is =
    ap (λ (s : List BankDecl). set now i (with_gather_1 (get_or s i d))) same
    ∙ ap (λ (s : List BankDecl). set s i (with_gather_1 (get_or s i d))) is ∙ rw (add-one i) (next bs i d h)
