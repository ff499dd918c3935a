-- How one mark more is grouped.
use Rattle.std.proofs.Common.{◌≡◌, ◌≤◌, ℕ, ◌==◌, true, false, cond, List, [], ◌∷◌, ◌++◌, length, drop, sym, ap, ◌∙◌}
use Rattle.std.proofs.lemmas.List.{append_assoc, drop_all}
use Rattle.ras_policy.specs.declared.marks.Mark.{Mark}
use Rattle.ras_policy.specs.declared.marks.Page.{Page}
use Rattle.ras_policy.specs.Grouped.{with_mark, first_of, grouped}

pub same_page : (out : List Page) (c : Page) (m : Mark) (ms : List Mark) → (m.page == c.page) ≡ true
    → out ++ grouped (with_mark m c) ms ≡ out ++ grouped c (m ∷ ms)
unfolding grouped
same_page out c m ms is =
    ap (λ b. out ++ cond b (grouped (with_mark m c) ms) (c ∷ grouped (first_of m) ms)) (sym is)

pub next_page : (out : List Page) (c : Page) (m : Mark) (ms : List Mark) → (m.page == c.page) ≡ false
    → (out ++ c ∷ []) ++ grouped (first_of m) ms ≡ out ++ grouped c (m ∷ ms)
unfolding grouped
next_page out c m ms isnt =
    append_assoc out (c ∷ []) (grouped (first_of m) ms)
    ∙ ap (λ b. out ++ cond b (grouped (with_mark m c) ms) (c ∷ grouped (first_of m) ms)) (sym isnt)

pub ended : (out : List Page) (c : Page) (ms : List Mark) (i : ℕ) → length ms ≤ i
    → out ++ grouped c (drop i ms) ≡ out ++ c ∷ []
unfolding grouped
ended out c ms i h = ap (λ rest. out ++ grouped c rest) (drop_all i ms h)
