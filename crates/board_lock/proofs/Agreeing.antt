-- After a turn the workers have handed on just the acts that the board's reporters have made.
use Rattle.std.proofs.Common.{◌≡◌, ◌≢◌, ℕ, ◌<◌, ◌==◌, ◌&&◌, not, Bool, true, false, cond, List, [], ◌∷◌, ◌++◌, length, set, slice_get, Option, Some, None, is_some, refl, sym, ap, ◌∙◌, subst, arith}
use Rattle.std.specs.List.{position_or_len}
use Rattle.std.proofs.lemmas.Bool.{cond-false}
use Rattle.std.proofs.lemmas.Bool.Decides.{nat_tests}
use Rattle.std.proofs.lemmas.List.{get_or-set_same, get_or-set_other}
use Rattle.std.proofs.lemmas.List.Folds.{find-set, find_past}
use Rattle.std.proofs.lemmas.Option.{get_or_from_slice_get, same_Some, slice_get_within}
use Rattle.ras_device.specs.declared.act.Act.{Act}
use Rattle.board_plan.specs.declared.notes.Step.{Step}
use Rattle.board_plan.specs.declared.notes.Step.TheVariants.{Hart, Reporter}
use Rattle.board_plan.specs.declared.plan.Plan.{Plan}
use Rattle.board_plan.specs.Step.{Stepped, hart_step, reporter_step, wants}
use Rattle.board_core.specs.Played.{IsPlayed, Played, acts_of, after_act, after_hart_step, has_list, is_list, listed, state_of}
use Rattle.board_lock.specs.Hand.{Hand, Stays, act_at_hand, board_after, hand_after, handed_act, moved, reporter_hand_after}
use Rattle.board_lock.specs.Replaying.{Agrees, AreHired, IsHired, is_same, worker_of}
use Rattle.board_lock.proofs.Moving.{moves, stays_same}
use Rattle.board_lock.proofs.Turning.{not_made, unwanted_none, wanted_acts}

-- ---- Actors ----

pub same_actor : (t u : Step) → is_same t u ≡ true → t ≡ u
same_actor (Hart h) (Hart k) e = let same : h ≡ k = grind (arith, nat_tests) in ap Hart same
same_actor (Reporter h) (Reporter k) e = let same : h ≡ k = grind (arith, nat_tests) in ap Reporter same
same_actor (Hart h) (Reporter k) e = absurd (cc)
same_actor (Reporter h) (Hart k) e = absurd (cc)

pub same_refl : (t : Step) → is_same t t ≡ true
same_refl (Hart h) = grind (arith, nat_tests)
same_refl (Reporter h) = grind (arith, nat_tests)

-- ---- The hand after a turn ----

reporter_stays : (w : Hand) (q : Bool) → Stays w (cond q (moved w) w)
reporter_stays w true = (moves w).stays
reporter_stays w false = stays_same w

pub hand_stays : (t : Step) (w : Hand) (b : Played) → Stays w (hand_after t w b)
hand_stays (Hart h) w b = stays_same w
hand_stays (Reporter r) w b = reporter_stays w (wants b.plan r (state_of b) && not (is_list b.plan r))

-- ---- The board after a turn ----

pub after_plan : (t : Step) (w : Hand) (b : Played) → (board_after t w b).plan ≡ b.plan
after_plan (Hart h) w b = go (hart_step h b.plan (state_of b))
  where
    go : (o : Option Stepped) → (after_hart_step h b o).plan ≡ b.plan
    go None = refl
    go (Some d) = refl
after_plan (Reporter r) w b = go (handed_act w b r) (reporter_step r b.plan (handed_act w b r) (state_of b))
  where
    go : (a : Option Act) (o : Option Stepped) → (after_act r b a o).plan ≡ b.plan
    go None o = refl
    go (Some a) None = refl
    go (Some a) (Some d) = refl

-- the acts of other reporters stay
other_acts : (t : Step) (w : Hand) (b : Played) (k : ℕ) → is_same t (Reporter k) ≡ false
    → acts_of (board_after t w b) k ≡ acts_of b k
other_acts (Hart h) w b k other = go (hart_step h b.plan (state_of b))
  where
    go : (o : Option Stepped) → acts_of (after_hart_step h b o) k ≡ acts_of b k
    go None = refl
    go (Some d) = refl
other_acts (Reporter r) w b k other =
    go (handed_act w b r) (reporter_step r b.plan (handed_act w b r) (state_of b))
  where
    apart : k ≢ r
    apart e = let same : (r == k) ≡ true = grind (arith, nat_tests) in absurd (cc)

    go : (a : Option Act) (o : Option Stepped) → acts_of (after_act r b a o) k ≡ acts_of b k
    go None o = refl
    go (Some a) None = refl
    go (Some a) (Some d) = get_or-set_other b.acts r k (acts_of b r ++ a ∷ []) [] apart

-- what a worker without a list has handed on is what its reporter has made
own_acts : (r : ℕ) (w : Hand) (b : Played) → r < length b.acts → is_list b.plan r ≡ false → w.handed ≡ acts_of b r
    → (reporter_hand_after w b r).handed ≡ acts_of (board_after (Reporter r) w b) r
own_acts r w b low device handed = go (wants b.plan r (state_of b)) refl
  where
    act : handed_act w b r ≡ act_at_hand w
    act = cond-false (is_list b.plan r) (listed b r) (act_at_hand w) device

    some : (a : Option Act) → act_at_hand w ≡ a → (o : Option Stepped) → reporter_step r b.plan a (state_of b) ≡ o
        → wants b.plan r (state_of b) ≡ true → (moved w).handed ≡ acts_of (after_act r b a o) r
    some None is o made wanted = ap (λ (v : Hand). v.handed) ((moves w).none is) ∙ handed
    some (Some a) is None made wanted = absurd (wanted_acts r b.plan a (state_of b) wanted made)
    some (Some a) is (Some d) made wanted =
        (moves w).some a is ∙ ap (λ (xs : List Act). xs ++ a ∷ []) handed
        ∙ sym (get_or-set_same b.acts r (acts_of b r ++ a ∷ []) [] low)

    go : (q : Bool) → wants b.plan r (state_of b) ≡ q
        → (reporter_hand_after w b r).handed ≡ acts_of (board_after (Reporter r) w b) r
    go true wanted =
        ap (λ q. (cond (q && not (is_list b.plan r)) (moved w) w).handed) wanted
        ∙ ap (λ q. (cond (not q) (moved w) w).handed) device
        ∙ some (act_at_hand w) refl (reporter_step r b.plan (act_at_hand w) (state_of b)) refl wanted
        ∙ ap (λ a. acts_of (after_act r b a (reporter_step r b.plan a (state_of b))) r) (sym act)
    go false unwanted =
        ap (λ q. (cond (q && not (is_list b.plan r)) (moved w) w).handed) unwanted
        ∙ handed
        ∙ ap (λ (c : Played). acts_of c r)
        (sym (ap (after_act r b (handed_act w b r)) (unwanted_none r b.plan (handed_act w b r) (state_of b) unwanted)
        ∙ not_made r b (handed_act w b r)))

-- ---- The workers after a turn ----

-- the place of the worker that made the turn
pub record IsAt (t : Step) (ws : List Hand) (k : ℕ) (w : Hand) : Type 0 where
  pub first : k ≡ position_or_len (λ (v : Hand). is_same v.actor t) ws
  pub low : k < length ws
  pub there : slice_get ws k ≡ Some w
  pub found : worker_of t ws ≡ Some w
  pub is : is_same w.actor t ≡ true

set_same : (t : Step) (ws : List Hand) (k : ℕ) (w x : Hand) → IsAt t ws k w → x.actor ≡ w.actor
    → worker_of t (set ws k x) ≡ Some x
set_same t ws k w x at actor =
    find-set (λ (v : Hand). is_same v.actor t) ws k x at.first at.low (ap (λ u. is_same u t) actor ∙ at.is)

set_other : (t u : Step) (ws : List Hand) (k : ℕ) (w x : Hand) → IsAt t ws k w → x.actor ≡ w.actor
    → is_same t u ≡ false → worker_of u (set ws k x) ≡ worker_of u ws
set_other t u ws k w x at actor other =
    let fails : is_same w.actor u ≡ false = ap (λ v. is_same v u) (same_actor w.actor t at.is) ∙ other in
    find_past (λ (v : Hand). is_same v.actor u) ws k x w
    (ap (λ (v : Hand). is_same v.actor u) (get_or_from_slice_get ws k w w at.there) ∙ fails)
    (ap (λ v. is_same v u) actor ∙ fails)

-- a fact of the worker of an actor, of that whose turn it was and of any other
by_actor : (P : Hand → Type 0) (t u : Step) (ws : List Hand) (k : ℕ) (w x v : Hand) → IsAt t ws k w
    → x.actor ≡ w.actor → (t ≡ u → worker_of u ws ≡ Some w → P x)
    → (is_same t u ≡ false → worker_of u ws ≡ Some v → P v) → worker_of u (set ws k x) ≡ Some v → P v
by_actor P t u ws k w x v at actor own other found = go (is_same t u) refl
  where
    go : (q : Bool) → is_same t u ≡ q → P v
    go true is =
        let same = same_actor t u is in
        subst P (same_Some x v (sym (set_same t ws k w x at actor)
        ∙ ap (λ s. worker_of s (set ws k x)) same ∙ found))
        (own same (ap (λ s. worker_of s ws) (sym same) ∙ at.found))
    go false is = other is (sym (set_other t u ws k w x at actor is) ∙ found)

has_still : (t u : Step) (ws : List Hand) (k : ℕ) (w x : Hand) → IsAt t ws k w → x.actor ≡ w.actor
    → is_some (worker_of u ws) ≡ true → is_some (worker_of u (set ws k x)) ≡ true
has_still t u ws k w x at actor has = go (is_same t u) refl
  where
    go : (q : Bool) → is_same t u ≡ q → is_some (worker_of u (set ws k x)) ≡ true
    go true is =
        ap (λ s. is_some (worker_of s (set ws k x))) (sym (same_actor t u is))
        ∙ ap is_some (set_same t ws k w x at actor)
    go false is = ap is_some (set_other t u ws k w x at actor is) ∙ has

hired_still : (acts : List Act) (limit : ℕ) (w x : Hand) → Stays w x → IsHired acts limit w → IsHired acts limit x
hired_still acts limit w x stays hired =
    record { acts = stays.same ∙ hired.acts; limit = stays.limit ∙ hired.limit }

are_hired : (acts : ℕ → List Act) (plan : Plan) (ws : List Hand) (t : Step) (k : ℕ) (w x : Hand) → IsAt t ws k w
    → Stays w x → AreHired acts plan ws → AreHired acts plan (set ws k x)
are_hired acts plan ws t k w x at stays hired =
    record {
      has = λ u on. has_still t u ws k w x at stays.actor (hired.has u on);
      lists = hired.lists;
      devices = λ r d v declared device found.
          by_actor (IsHired (acts r) d.limit) t (Reporter r) ws k w x v at stays.actor
          (λ same there. hired_still (acts r) d.limit w x stays (hired.devices r d w declared device there))
          (λ other there. hired.devices r d v declared device there) found;
    }

-- the workers agree with the board after a turn
pub agrees_after : (acts : ℕ → List Act) (b : Played) (ws : List Hand) (t : Step) (k : ℕ) (w : Hand) → IsPlayed b
    → IsAt t ws k w → Agrees acts b ws → Agrees acts (board_after t w b) (set ws k (hand_after t w b))
agrees_after acts b ws t k w played at agrees =
    let stays = hand_stays t w b in
    record {
      hired = subst (λ (p : Plan). AreHired acts p (set ws k (hand_after t w b))) (sym (after_plan t w b))
          (are_hired acts b.plan ws t k w (hand_after t w b) at stays agrees.hired);
      handed = λ r d v declared device found.
          let was : slice_get b.plan.reporters r ≡ Some d =
          ap (λ (p : Plan). slice_get p.reporters r) (sym (after_plan t w b)) ∙ declared in
          by_actor (λ (x : Hand). x.handed ≡ acts_of (board_after t w b) r) t (Reporter r) ws k w
          (hand_after t w b) v at stays.actor
          (λ same there.
          subst (λ s. (hand_after s w b).handed ≡ acts_of (board_after s w b) r) (sym same)
          (own_acts r w b (omega (arith, played.reporters, slice_get_within b.plan.reporters r d was))
          (ap has_list was ∙ device) (agrees.handed r d w was device there)))
          (λ other there. agrees.handed r d v was device there ∙ sym (other_acts t w b r other)) found;
    }
