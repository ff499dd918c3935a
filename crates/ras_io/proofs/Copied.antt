-- Bytes that a read from memory takes.
use Rattle.std.proofs.Common.{◌≡◌, ℕ, ◌+◌, ◌≤◌, ◌<◌, min, List, [], ◌++◌, length, take, drop, sym, ap, ◌∙◌, arith, subst}
use Rattle.std.proofs.lemmas.List.{drop-drop, take-append-drop, length-take}
use Rattle.std.proofs.Math.Seq.{take-append_seam}
use Rattle.std.proofs.Math.ListN.{drop_of_length-le}

-- a front of so many bytes
front_of : (n : ℕ) (xs ys : List ℕ) → length xs ≡ n → take n (xs ++ ys) ≡ xs
front_of n xs ys e = subst (λ k. take k (xs ++ ys) ≡ xs) e (take-append_seam xs ys)

-- what was left is what was copied, and what is left
pub reads_front : (n at : ℕ) (bytes copied rest left : List ℕ) → n ≤ length left → drop at bytes ≡ left
    → copied ≡ take n left
    → left ≡ take n (copied ++ rest) ++ drop (at + n) bytes
reads_front n at bytes copied rest left fits is copy =
    let whole : length copied ≡ n = ap length copy ∙ length-take n left ∙ omega arith in
    sym (take-append-drop n left) ∙ ap (λ l. l ++ drop n left) (sym copy ∙ sym (front_of n copied rest whole))
    ∙ ap (λ l. take n (copied ++ rest) ++ l) (ap (drop n) (sym is) ∙ drop-drop n at bytes)

-- where nothing was taken with room at hand nothing is left
pub reads_end : (n at most room : ℕ) (bytes left : List ℕ) → drop at bytes ≡ left
    → n ≡ min (min most room) (length left) → 0 < most → 0 < room → n ≡ 0 → drop (at + n) bytes ≡ []
reads_end n at most room bytes left is count some space none =
    sym (drop-drop n at bytes) ∙ drop_of_length-le (drop at bytes) (let e : length (drop at bytes) ≡ length left =
    ap length is in omega arith)
