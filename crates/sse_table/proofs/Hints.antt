-- Instances that stand first in a list.
use Rattle.std.proofs.Common.{◌≡◌, ℕ, ◌<◌, ◌≤◌, All, true, List, length, get_or, refl, sym, ap, ◌∙◌, arith}
use Rattle.std.proofs.lemmas.List.Elements.{All-get_or}
use Rattle.std.proofs.lemmas.Option.{get_or_from_slice_get, slice_get_read, slice_get_within}
use Rattle.sse_base.specs.declared.ids.Instance.{Instance}
use Rattle.sse_base.specs.Ids.{place, same_instance}
use Rattle.sse_base.proofs.Instances.{same_is}
use Rattle.sse_table.specs.Places.{StandsFirst}

-- no instance stands so far behind
pub nowhere : (is : List Instance) (k : ℕ) → length is ≤ k → StandsFirst is k
nowhere is k past x there = absurd (omega (arith, past, slice_get_within is k x there))

-- one that stands at its place
pub at_place : (is : List Instance) (k : ℕ) (d : Instance) → place (get_or is k d) is ≡ k → StandsFirst is k
at_place is k d stands x there = ap (λ y. place y is) (sym (get_or_from_slice_get is k x d there)) ∙ stands

-- where a hint finds an instance, that is its place
pub found_first : (is : List Instance) (hints : List ℕ) (h : ℕ) (x at : Instance) → h < length hints
    → All (StandsFirst is) hints → get_or hints h 0 < length is → x ≡ get_or is (get_or hints h 0) x
    → same_instance x at ≡ true → get_or hints h 0 ≡ place at is
found_first is hints h x at low first there read same =
    let k = get_or hints h 0 in
    sym (All-get_or (StandsFirst is) hints h 0 low first x (slice_get_read is (length is) k x refl there read))
    ∙ ap (λ y. place y is) (same_is x at same)
