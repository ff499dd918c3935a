-- What workers keep, each of a list.
use Rattle.std.proofs.Common.{◌≡◌, ℕ, zero, suc, ◌+◌, ◌<◌, ◌≤◌, List, [], ◌∷◌, ◌++◌, map, length, get_or, set, refl, sym, ap, ◌∙◌, arith}
use Rattle.std.proofs.lemmas.List.{get_or-map, length-map, map-set, map_push}
use Rattle.std.proofs.lemmas.List.FromFn.{map-range_with_len_more}
use Rattle.std.specs.List.{range_with_len}
use Rattle.board_lock.specs.Hand.{EachStays, Hand, Stays, hart_hand, rewound}

pub stays_then : (u v w : Hand) → Stays u v → Stays v w → Stays u w
stays_then u v w p q =
    record { actor = q.actor ∙ p.actor; limit = q.limit ∙ p.limit; same = q.same ∙ p.same }

pub each_same : (ws : List Hand) → EachStays ws ws
each_same [] = tt
each_same (w ∷ ws) = (record { actor = refl; limit = refl; same = refl }, each_same ws)

pub each_then : (us vs ws : List Hand) → EachStays us vs → EachStays vs ws → EachStays us ws
each_then [] [] [] p q = tt
each_then (u ∷ us) (v ∷ vs) (w ∷ ws) p q = (stays_then u v w p.0 q.0, each_then us vs ws p.1 q.1)
each_then [] [] (w ∷ ws) p q = absurd q
each_then [] (v ∷ vs) ws p q = absurd p
each_then (u ∷ us) [] ws p q = absurd p
each_then (u ∷ us) (v ∷ vs) [] p q = absurd q

-- from each place to the list
pub each_at : {W : Type 0} (f : W → Hand) (xs ys : List W) → length ys ≡ length xs
    → ((k : ℕ) (d : W) → k < length xs → Stays (f (get_or xs k d)) (f (get_or ys k d)))
    → EachStays (map f xs) (map f ys)
each_at f [] [] many each = tt
each_at f (x ∷ xs) (y ∷ ys) many each = (
  each 0 x (omega arith),
  each_at f xs ys (omega (arith, many)) (λ k d low. each (suc k) d (omega (arith, low))),
)
each_at f [] (y ∷ ys) many each = absurd (omega (arith, many))
each_at f (x ∷ xs) [] many each = absurd (omega (arith, many))

-- ---- Rewound, one after another ----

-- the first so many are rewound
abbrev pub rewound_front : ℕ → List Hand → List Hand
rewound_front zero ws = ws
rewound_front (suc n) [] = []
rewound_front (suc n) (w ∷ ws) = rewound w ∷ rewound_front n ws

pub rewound_length : (n : ℕ) (ws : List Hand) → length (rewound_front n ws) ≡ length ws
rewound_length zero ws = refl
rewound_length (suc n) [] = refl
rewound_length (suc n) (w ∷ ws) = ap suc (rewound_length n ws)

rewound_next : (n : ℕ) (ws : List Hand) (d : Hand) → n < length ws
    → set (rewound_front n ws) n (rewound (get_or (rewound_front n ws) n d)) ≡ rewound_front (suc n) ws
rewound_next zero [] d low = absurd (omega (arith, low))
rewound_next zero (w ∷ ws) d low = refl
rewound_next (suc n) [] d low = absurd (omega (arith, low))
rewound_next (suc n) (w ∷ ws) d low = ap (λ (vs : List Hand). rewound w ∷ vs) (rewound_next n ws d (omega (arith, low)))

rewound_all : (n : ℕ) (ws : List Hand) → length ws ≤ n → rewound_front n ws ≡ map rewound ws
rewound_all zero [] many = refl
rewound_all zero (w ∷ ws) many = absurd (omega (arith, many))
rewound_all (suc n) [] many = refl
rewound_all (suc n) (w ∷ ws) many =
    ap (λ (vs : List Hand). rewound w ∷ vs) (rewound_all n ws (omega (arith, many)))

-- one more of them
pub rewound_more : {W : Type 0} (f : W → Hand) (olds xs : List W) (n : ℕ) (d y : W) → n < length olds
    → map f xs ≡ rewound_front n (map f olds) → f y ≡ rewound (f (get_or xs n d))
    → map f (set xs n y) ≡ rewound_front (n + 1) (map f olds)
rewound_more f olds xs n d y low is rewinds =
    let x = get_or xs n d in
    let many : length xs ≡ length olds =
    sym (length-map xs f) ∙ ap length is ∙ rewound_length n (map f olds) ∙ length-map olds f in
    let at : f x ≡ get_or (rewound_front n (map f olds)) n (f x) =
    sym (get_or-map f xs n d (f x) (omega (arith, low, many))) ∙ ap (λ (vs : List Hand). get_or vs n (f x)) is in
    let next : suc n ≡ n + 1 = omega arith in
    map-set f xs n y
    ∙ ap (λ (vs : List Hand). set vs n (f y)) is
    ∙ ap (λ v. set (rewound_front n (map f olds)) n v) (rewinds ∙ ap rewound at)
    ∙ rewound_next n (map f olds) (f x) (omega (arith, low, length-map olds f))
    ∙ ap (λ k. rewound_front k (map f olds)) next

-- all of them
pub rewound_ends : {W : Type 0} (f : W → Hand) (olds xs : List W) (n : ℕ) → length olds ≤ n
    → map f xs ≡ rewound_front n (map f olds) → map f xs ≡ map rewound (map f olds)
rewound_ends f olds xs n many is = is ∙ rewound_all n (map f olds) (omega (arith, many, length-map olds f))

-- ---- The workers of harts ----

pub harts_more : {W : Type 0} (f : W → Hand) (xs ys : List W) (w : W) (k : ℕ)
    → map f xs ≡ map hart_hand (range_with_len 0 k) → f w ≡ hart_hand k → ys ≡ xs ++ w ∷ []
    → map f ys ≡ map hart_hand (range_with_len 0 (k + 1))
harts_more f xs ys w k are is added =
    ap (map f) added ∙ map_push f xs w ∙ ap (λ (hs : List Hand). hs ++ f w ∷ []) are
    ∙ ap (λ (v : Hand). map hart_hand (range_with_len 0 k) ++ v ∷ []) is
    ∙ sym (map-range_with_len_more hart_hand 0 k k (omega arith))
