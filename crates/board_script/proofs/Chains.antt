-- Lists of which each element fitted what stood before it.
use Rattle.std.proofs.Common.{◌≡◌, ℕ, zero, suc, List, [], ◌∷◌, ◌++◌, slice_get, slice_set, Some, subst, sym, append_assoc}
use Rattle.std.proofs.lemmas.List.{append-nil}

-- ---- Each element ----

abbrev pub Each : {X : Type 0} → (X → Type 0) → List X → Type 0
Each P [] = Unit {0}
Each P (x ∷ xs) = P x × Each P xs

module _ {X : Type 0} (P : X → Type 0) where
  pub Each-append : (xs ys : List X) → Each P xs → Each P ys → Each P (xs ++ ys)
  Each-append [] ys p q = q
  Each-append (x ∷ xs) ys p q = (p.0, Each-append xs ys p.1 q)

  pub Each-more : (xs : List X) (x : X) → Each P xs → P x → Each P (xs ++ x ∷ [])
  Each-more xs x p q = Each-append xs (x ∷ []) p (q, tt)

  pub Each-at : (xs : List X) (i : ℕ) (x : X) → Each P xs → slice_get xs i ≡ Some x → P x
  Each-at [] i x p e = cc
  Each-at (y ∷ xs) zero x p e = let same : y ≡ x = cc in subst P same p.0
  Each-at (y ∷ xs) (suc i) x p e = Each-at xs i x p.1 e

  pub Each-set : (xs : List X) (i : ℕ) (x : X) → Each P xs → P x → Each P (slice_set xs i x)
  Each-set [] i x p q = tt
  Each-set (y ∷ xs) zero x p q = (q, p.1)
  Each-set (y ∷ xs) (suc i) x p q = (p.0, Each-set xs i x p.1 q)

pub Each-weaker : {X : Type 0} (P Q : X → Type 0) → ((x : X) → P x → Q x) → (xs : List X) → Each P xs → Each Q xs
Each-weaker P Q f [] p = tt
Each-weaker P Q f (x ∷ xs) p = (f x p.0, Each-weaker P Q f xs p.1)

-- ---- Each element behind those before it ----

abbrev pub EachFits : {X : Type 0} → (List X → X → Type 0) → List X → List X → Type 0
EachFits Fits before [] = Unit {0}
EachFits Fits before (x ∷ xs) = Fits before x × EachFits Fits (before ++ x ∷ []) xs

module _ {X : Type 0} (Fits : List X → X → Type 0) where
  pub EachFits-more : (before xs : List X) (x : X) → EachFits Fits before xs → Fits (before ++ xs) x
      → EachFits Fits before (xs ++ x ∷ [])
  EachFits-more before [] x f g = (subst (λ l. Fits l x) (append-nil before) g, tt)
  EachFits-more before (y ∷ xs) x f g =
      (f.0, EachFits-more (before ++ y ∷ []) xs x f.1 (subst (λ l. Fits l x) (sym (append_assoc before (y ∷ []) xs)) g))

pub EachFits-weaker : {X : Type 0} (F G : List X → X → Type 0) → ((before : List X) (x : X) → F before x → G before x)
    → (before xs : List X) → EachFits F before xs → EachFits G before xs
EachFits-weaker F G f before [] p = tt
EachFits-weaker F G f before (x ∷ xs) p = (f before x p.0, EachFits-weaker F G f (before ++ x ∷ []) xs p.1)
