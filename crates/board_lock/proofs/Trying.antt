-- Tries one after another, each by the worker of its actor, and rounds of them.
use Rattle.std.proofs.Common.{◌≡◌, ℕ, zero, suc, ◌+◌, ◌<◌, ◌≤◌, ◌||◌, not, Bool, true, false, cond, List, [], ◌∷◌, ◌++◌, map, length, take, set, get_or, slice_get, nat_lt, Option, Some, None, is_some, refl, inl, inr, sym, ap, ◌∙◌, subst, append_assoc, append-nil, arith}
use Rattle.std.specs.Prelude.{IfSome, position}
use Rattle.std.specs.List.{find, position_or_len, range_with_len}
use Rattle.std.proofs.lemmas.Bool.{cases_lt}
use Rattle.std.proofs.lemmas.Bool.Decides.{nat_tests}
use Rattle.std.proofs.lemmas.List.{get_or-map, length-map, map-append, map-set, take_more}
use Rattle.std.proofs.lemmas.List.Folds.{find_at}
use Rattle.std.proofs.lemmas.List.FromFn.{map-range_with_len_more}
use Rattle.std.proofs.lemmas.Option.{none-some, same_Some, slice_get_past}
use Rattle.ras_device.specs.declared.act.Act.{Act}
use Rattle.board_plan.specs.declared.notes.Step.{Step}
use Rattle.board_plan.specs.declared.notes.Step.TheVariants.{Hart, Reporter}
use Rattle.board_plan.specs.declared.notes.StepNote.{StepNote}
use Rattle.board_plan.specs.declared.plan.Plan.{Plan}
use Rattle.board_plan.specs.State.{BoardState}
use Rattle.board_plan.specs.Step.{next_act, step}
use Rattle.board_plan.specs.Run.{Noted, notes, round, run, steps_of}
use Rattle.board_core.specs.Played.{IsPlayed, Played, state_of}
use Rattle.board_core.proofs.Going.{notes-append, run-append}
use Rattle.board_lock.specs.Hand.{Hand, board_after, hand_after, turn_note}
use Rattle.board_lock.specs.Replaying.{IsActor, Tries, is_same, worker_of}
use Rattle.board_lock.specs.Trying.{Goes, Went, is_step}
use Rattle.board_lock.proofs.Agreeing.{IsAt, after_plan, agrees_after, same_actor}
use Rattle.board_lock.proofs.Turning.{idle_tries, no_hart, not_on_board, turn_came, turn_tries, unwanted_none}

-- ---- Tries one after another ----

pub tries_on : (acts : ℕ → List Act) (b c d : Played) (ts us : List Step) → Tries acts b ts c → Tries acts c us d
    → Tries acts b (ts ++ us) d
tries_on acts b c d ts us x y =
    let s = run b.plan acts (state_of b) ts in
    let later : notes c.plan acts (state_of c) us ≡ notes b.plan acts s us =
    ap (λ (p : Plan). notes p acts (state_of c) us) x.plan ∙ ap (λ (v : BoardState). notes b.plan acts v us) x.state in
    record {
      plan = y.plan ∙ x.plan;
      state = y.state ∙ ap (λ (p : Plan). run p acts (state_of c) us) x.plan
          ∙ ap (λ (v : BoardState). run b.plan acts v us) x.state
          ∙ sym (run-append b.plan acts (state_of b) ts us);
      steps = y.steps ∙ ap (λ (ns : List Noted). c.steps ++ steps_of ns) later
          ∙ ap (λ (xs : List Step). xs ++ steps_of (notes b.plan acts s us)) x.steps
          ∙ append_assoc b.steps (steps_of (notes b.plan acts (state_of b) ts)) (steps_of (notes b.plan acts s us))
          ∙ ap (λ (xs : List Step). b.steps ++ xs)
          (sym (ap steps_of (notes-append b.plan acts (state_of b) ts us)
          ∙ map-append (λ (n : Noted). n.by) (notes b.plan acts (state_of b) ts) (notes b.plan acts s us)));
    }

pub goes_on : (b c d : Played) (ws vs xs : List Hand) (ts us : List Step) → Goes b ws ts c vs → Goes c vs us d xs
    → Goes b ws (ts ++ us) d xs
goes_on b c d ws vs xs ts us p q =
    record {
      plan = q.plan ∙ p.plan;
      tries = λ acts agrees. tries_on acts b c d ts us (p.tries acts agrees) (q.tries acts (p.agrees acts agrees));
      agrees = λ acts agrees. q.agrees acts (p.agrees acts agrees);
    }

pub goes_nil : (b : Played) (ws : List Hand) → Goes b ws [] b ws
goes_nil b ws =
    record {
      plan = refl;
      tries = λ acts agrees. record { plan = refl; state = refl; steps = sym (append-nil b.steps) };
      agrees = λ acts agrees. agrees;
    }

pub went_nil : (b : Played) (ws : List Hand) → Went b ws [] false b ws
went_nil b ws = record { goes = goes_nil b ws; still = λ e. refl; grows = λ e. absurd (cc) }

went_then : (b c d : Played) (ws vs xs : List Hand) (ts us : List Step) (m n : Bool) → Went b ws ts m c vs
    → Went c vs us n d xs → Went b ws (ts ++ us) (m || n) d xs
went_then b c d ws vs xs ts us true true p q =
    record {
      goes = goes_on b c d ws vs xs ts us p.goes q.goes;
      still = λ e. absurd (cc);
      grows = λ e. omega (arith, p.grows refl, q.grows refl);
    }
went_then b c d ws vs xs ts us true false p q =
    record {
      goes = goes_on b c d ws vs xs ts us p.goes q.goes;
      still = λ e. absurd (cc);
      grows = λ e. omega (arith, p.grows refl, ap (λ (x : Played). length x.steps) (q.still refl));
    }
went_then b c d ws vs xs ts us false true p q =
    record {
      goes = goes_on b c d ws vs xs ts us p.goes q.goes;
      still = λ e. absurd (cc);
      grows = λ e. omega (arith, q.grows refl, ap (λ (x : Played). length x.steps) (p.still refl));
    }
went_then b c d ws vs xs ts us false false p q =
    record {
      goes = goes_on b c d ws vs xs ts us p.goes q.goes;
      still = λ e. q.still refl ∙ p.still refl;
      grows = λ e. absurd (cc);
    }

-- the same under another name of the tries and of whether a step was made
pub went_on : (b c d : Played) (ws vs xs : List Hand) (ts us rs : List Step) (m n j : Bool) → rs ≡ ts ++ us
    → (m || n) ≡ j → Went b ws ts m c vs → Went c vs us n d xs → Went b ws rs j d xs
went_on b c d ws vs xs ts us rs m n j names made p q =
    subst (λ ys. Went b ws ys j d xs) (sym names)
    (subst (λ i. Went b ws (ts ++ us) i d xs) made (went_then b c d ws vs xs ts us m n p q))

-- one more of the actors of a kind
pub went_more : (b c d : Played) (ws vs xs : List Hand) (f : ℕ → Step) (k : ℕ) (m n j : Bool) → (m || n) ≡ j
    → Went b ws (map f (range_with_len 0 k)) m c vs → Went c vs (f k ∷ []) n d xs
    → Went b ws (map f (range_with_len 0 (k + 1))) j d xs
went_more b c d ws vs xs f k m n j made p q =
    went_on b c d ws vs xs (map f (range_with_len 0 k)) (f k ∷ []) (map f (range_with_len 0 (k + 1))) m n j
    (map-range_with_len_more f 0 k k (omega arith)) made p q

-- harts, and then reporters
pub went_round : (b c d : Played) (ws vs xs : List Hand) (m n j : Bool) → (m || n) ≡ j
    → Went b ws (map Hart (range_with_len 0 b.plan.harts)) m c vs
    → Went c vs (map Reporter (range_with_len 0 (length c.plan.reporters))) n d xs → Went b ws (round b.plan) j d xs
went_round b c d ws vs xs m n j made p q =
    went_on b c d ws vs xs (map Hart (range_with_len 0 b.plan.harts))
    (map Reporter (range_with_len 0 (length c.plan.reporters))) (round b.plan) m n j
    (ap (λ (x : Plan). map Hart (range_with_len 0 b.plan.harts) ++ map Reporter (range_with_len 0 (length x.reporters)))
    (sym p.goes.plan)) made p q

-- one more of a list
pub goes_more : (b c e : Played) (ws vs xs : List Hand) (steps : List Step) (k : ℕ) (d : Step) (made : Bool)
    → k < length steps → Goes b ws (take k steps) c vs → Went c vs (get_or steps k d ∷ []) made e xs
    → Goes b ws (take (k + 1) steps) e xs
goes_more b c e ws vs xs steps k d made low p q =
    subst (λ ys. Goes b ws ys e xs) (sym (take_more steps k d low))
    (goes_on b c e ws vs xs (take k steps) (get_or steps k d ∷ []) p q.goes)

-- ---- The worker of an actor ----

position_map : {X Y : Type 0} (test : Y → Bool) (f : X → Y) (xs : List X)
    → position_or_len test (map f xs) ≡ position_or_len (λ x. test (f x)) xs
position_map test f [] = refl
position_map test f (x ∷ xs) = ap (λ n. cond (not (test (f x))) (1 + n) 0) (position_map test f xs)

-- a place that was looked for
record IsFound {X : Type 0} (test : X → Bool) (xs : List X) (k : ℕ) : Type 0 where
  first : k ≡ position_or_len test xs
  low : k < length xs

found_at : {X : Type 0} (test : X → Bool) (xs : List X) (k : ℕ) → Some k ≡ position test xs → IsFound test xs k
found_at test xs k is = go (nat_lt (position_or_len test xs) (length xs)) refl is
  where
    go : (q : Bool) → nat_lt (position_or_len test xs) (length xs) ≡ q
        → Some k ≡ cond q (Some (position_or_len test xs)) None → IsFound test xs k
    go true low is =
        let first : k ≡ position_or_len test xs = cc in record { first = first; low = grind (arith, nat_tests) }
    go false low is = absurd (cc)

-- a place that was looked for is one of the list
pub place_low : {X : Type 0} (test : X → Bool) (xs : List X) (o : Option ℕ) → o ≡ position test xs
    → IfSome o (λ k. k < length xs)
place_low test xs None is = tt
place_low test xs (Some k) is = (found_at test xs k is).low

not_found : {X : Type 0} (test : X → Bool) (xs : List X) → None ≡ position test xs
    → length xs ≤ position_or_len test xs
not_found test xs is = go (nat_lt (position_or_len test xs) (length xs)) refl is
  where
    go : (q : Bool) → nat_lt (position_or_len test xs) (length xs) ≡ q
        → None ≡ cond q (Some (position_or_len test xs)) None → length xs ≤ position_or_len test xs
    go true low is = absurd (none-some (position_or_len test xs) is)
    go false low is = grind (arith, nat_tests)

-- what is found passes
passes : {X : Type 0} (test : X → Bool) (xs : List X) (x : X) → find test xs ≡ Some x → test x ≡ true
passes test [] x is = absurd (none-some x is)
passes test (y ∷ ys) x is = go (test y) refl is (passes test ys x)
  where
    go : (q : Bool) → test y ≡ q → cond q (Some y) (find test ys) ≡ Some x
        → (find test ys ≡ Some x → test x ≡ true) → test x ≡ true
    go true passed is later = subst (λ z. test z ≡ true) (same_Some y x is) passed
    go false failed is later = later is

-- the worker at a place that was found
pub is_at : {W : Type 0} (f : W → Hand) (ws : List W) (t : Step) (k : ℕ) (w : W)
    → Some k ≡ position (λ v. is_same (f v).actor t) ws → slice_get (map f ws) k ≡ Some (f w)
    → IsAt t (map f ws) k (f w)
is_at f ws t k w is there =
    let found = found_at (λ v. is_same (f v).actor t) ws k is in
    let first : k ≡ position_or_len (λ (v : Hand). is_same v.actor t) (map f ws) =
    found.first ∙ sym (position_map (λ (v : Hand). is_same v.actor t) f ws) in
    let at : worker_of t (map f ws) ≡ Some (f w) =
    find_at (λ (v : Hand). is_same v.actor t) (map f ws) ∙ ap (slice_get (map f ws)) (sym first) ∙ there in
    record {
      first = first;
      low = omega (arith, found.low, length-map ws f);
      there = there;
      found = at;
      is = passes (λ (v : Hand). is_same v.actor t) (map f ws) (f w) at;
    }

pub nobody : {W : Type 0} (f : W → Hand) (ws : List W) (t : Step)
    → None ≡ position (λ v. is_same (f v).actor t) ws → worker_of t (map f ws) ≡ None
nobody f ws t is =
    find_at (λ (v : Hand). is_same v.actor t) (map f ws)
    ∙ slice_get_past (map f ws) (position_or_len (λ (v : Hand). is_same v.actor t) (map f ws))
    (omega (
      arith,
      not_found (λ v. is_same (f v).actor t) ws is,
      position_map (λ (v : Hand). is_same v.actor t) f ws,
      length-map ws f,
    ))

-- ---- One try ----

-- who isn't on the board has no step
pub nobody_steps : (acts : ℕ → List Act) (b : Played) (t : Step) → length (state_of b).machine.stacks ≡ b.plan.harts
    → (IsActor b.plan t → ⊥) → step b.plan acts t (state_of b) ≡ None
unfolding step
nobody_steps acts b (Hart h) harts off =
    elim (cases_lt h b.plan.harts) [
      | inl low ↦ absurd (off low)
      | inr past ↦ no_hart b h (omega (arith, harts, past))
    ]
nobody_steps acts b (Reporter r) harts off =
    elim (cases_lt r (length b.plan.reporters)) [
      | inl low ↦ absurd (off low)
      | inr past ↦
          unwanted_none r b.plan (next_act acts r (state_of b)) (state_of b)
          (not_on_board b.plan r (state_of b) past)
    ]

pub went_nobody : (b : Played) (ws : List Hand) (t : Step) → length (state_of b).machine.stacks ≡ b.plan.harts
    → worker_of t ws ≡ None → Went b ws (t ∷ []) false b ws
went_nobody b ws t harts none =
    record {
      goes = record {
        plan = refl;
        tries = λ acts agrees.
            idle_tries acts b t (nobody_steps acts b t harts
            (λ on. absurd (off (sym (ap is_some none) ∙ agrees.hired.has t on))));
        agrees = λ acts agrees. agrees;
      };
      still = λ e. refl;
      grows = λ e. absurd (cc);
    }
  where
    off : false ≡ true → ⊥
    off e = cc

went_at : (b : Played) (ws : List Hand) (t : Step) (k : ℕ) (w : Hand) → IsPlayed b → IsAt t ws k w
    → (board_after t w b).plan ≡ b.plan
    → Went b ws (t ∷ []) (is_step (turn_note t w b)) (board_after t w b) (set ws k (hand_after t w b))
went_at b ws t k w played at plan =
    let came = turn_came b w t in
    record {
      goes = record {
        plan = plan;
        tries = λ acts agrees. turn_tries acts b ws w t played agrees at.found;
        agrees = λ acts agrees. agrees_after acts b ws t k w played at agrees;
      };
      still = came.still;
      grows = came.grows;
    }

slice_get_of : (xs : List Hand) (k : ℕ) (w : Hand) → k < length xs → get_or xs k w ≡ w → slice_get xs k ≡ Some w
slice_get_of [] k w low is = absurd (omega (arith, low))
slice_get_of (x ∷ xs) zero w low is = ap (λ (v : Hand). Some v) is
slice_get_of (x ∷ xs) (suc k) w low is = slice_get_of xs k w (omega (arith, low)) is

-- the turn of the worker at a place
pub went_turn : {W : Type 0} (f : W → Hand) (ws : List W) (b c : Played) (t : Step) (k : ℕ) (d y : W) (n : StepNote)
    (made : Bool) → IsPlayed b → Some k ≡ position (λ v. is_same (f v).actor t) ws
    → c ≡ board_after (f (get_or ws k d)).actor (f (get_or ws k d)) b
    → f y ≡ hand_after (f (get_or ws k d)).actor (f (get_or ws k d)) b
    → n ≡ turn_note (f (get_or ws k d)).actor (f (get_or ws k d)) b → made ≡ is_step n
    → Went b (map f ws) (t ∷ []) made c (map f (set ws k y))
went_turn f ws b c t k d y n made played found board hand note told =
    let x = get_or ws k d in
    let low = place_low (λ v. is_same (f v).actor t) ws (Some k) found in
    let at : IsAt t (map f ws) k (f x) =
    is_at f ws t k x found (slice_get_of (map f ws) k (f x) (omega (arith, low, length-map ws f))
    (get_or-map f ws k d (f x) low)) in
    let same : (f x).actor ≡ t = same_actor (f x).actor t at.is in
    subst (λ (vs : List Hand). Went b (map f ws) (t ∷ []) made c vs)
    (sym (map-set f ws k y ∙ ap (set (map f ws) k) (hand ∙ ap (λ u. hand_after u (f x) b) same)))
    (subst (λ m. Went b (map f ws) (t ∷ []) m c (set (map f ws) k (hand_after t (f x) b)))
    (sym (told ∙ ap is_step (note ∙ ap (λ u. turn_note u (f x) b) same)))
    (subst
    (λ (e : Played). Went b (map f ws) (t ∷ []) (is_step (turn_note t (f x) b)) e
    (set (map f ws) k (hand_after t (f x) b)))
    (sym (board ∙ ap (λ u. board_after u (f x) b) same))
    (went_at b (map f ws) t k (f x) played at (after_plan t (f x) b))))
