-- The workers that are hired for a plan, and what stays of them.
use Rattle.std.proofs.Common.{◌≡◌, ◌≢◌, ℕ, zero, suc, ◌+◌, ◌<◌, ◌≤◌, ◌==◌, Bool, true, false, cond, List, [], ◌∷◌, map, length, get_or, slice_get, Option, Some, None, is_some, is_none, refl, sym, ap, ◌∙◌, subst, append_assoc, arith}
use Rattle.std.specs.List.{find, range_with_len}
use Rattle.std.specs.Option.{option_or}
use Rattle.std.proofs.lemmas.Bool.Decides.{nat_tests}
use Rattle.std.proofs.lemmas.List.Folds.{find-append}
use Rattle.std.proofs.lemmas.Option.{none-some, same_Some, slice_get_within}
use Rattle.ras_device.specs.declared.act.Act.{Act}
use Rattle.board_plan.specs.declared.notes.Step.{Step}
use Rattle.board_plan.specs.declared.notes.Step.TheVariants.{Hart, Reporter}
use Rattle.board_plan.specs.declared.plan.Reporter as plan_reporter
use Rattle.board_plan.specs.declared.plan.Plan.{Plan}
use Rattle.board_plan.specs.Run.{acts_from, lists}
use Rattle.board_core.specs.Played.{Played, fresh}
use Rattle.board_lock.specs.Hand.{EachStays, Hand, Stays, hart_hand, rewound}
use Rattle.board_lock.specs.Hiring.{device_acts, hand_for, hired, reporter_hand}
use Rattle.board_lock.specs.Replaying.{Agrees, AreHired, IsActor, IsHired, is_same, worker_of}

-- ---- Whom one finds ----

abbrev by : Step → Hand → Bool
by t w = is_same w.actor t

unequal : (m n : ℕ) → m ≡ n → (m == n) ≡ false → ⊥
unequal m n same is = let e : (m == n) ≡ true = grind (arith, nat_tests) in absurd (cc)

-- one of those that are numbered
find_number : (f : ℕ → Hand) (t : Step) (at n k : ℕ) → ((j : ℕ) → by t (f j) ≡ (j == k)) → at ≤ k → k < at + n
    → find (by t) (map f (range_with_len at n)) ≡ Some (f k)
find_number f t at zero k tests from below = absurd (omega (arith, from, below))
find_number f t at (suc n) k tests from below =
    go (at == k) refl (λ other. find_number f t (at + 1) n k tests (omega (arith, from, other)) (omega (arith, below)))
  where
    go : (q : Bool) → (at == k) ≡ q
        → (at ≢ k → find (by t) (map f (range_with_len (at + 1) n)) ≡ Some (f k))
        → cond (by t (f at)) (Some (f at)) (find (by t) (map f (range_with_len (at + 1) n))) ≡ Some (f k)
    go true is later =
        let same : at ≡ k = grind (arith, nat_tests) in
        ap (λ b. cond b (Some (f at)) (find (by t) (map f (range_with_len (at + 1) n)))) (tests at ∙ is)
        ∙ ap (λ j. Some (f j)) same
    go false is later =
        ap (λ b. cond b (Some (f at)) (find (by t) (map f (range_with_len (at + 1) n)))) (tests at ∙ is)
        ∙ later (λ same. unequal at k same is)

-- none of those that are numbered
find_none : (f : ℕ → Hand) (t : Step) (at n : ℕ) → ((j : ℕ) → by t (f j) ≡ false)
    → find (by t) (map f (range_with_len at n)) ≡ None
find_none f t at zero tests = refl
find_none f t at (suc n) tests =
    ap (λ b. cond b (Some (f at)) (find (by t) (map f (range_with_len (at + 1) n)))) (tests at)
    ∙ find_none f t (at + 1) n tests

reporter_actor : (devices : List (List Act)) (r : ℕ) (o : Option plan_reporter.Reporter)
    → (hand_for devices r o).actor ≡ Reporter r
reporter_actor devices r None = refl
reporter_actor devices r (Some d) = refl

module _ (plan : Plan) (devices : List (List Act)) where
  abbrev harts : List Hand
  harts = map hart_hand (range_with_len 0 plan.harts)

  abbrev reporters : List Hand
  reporters = map (reporter_hand plan devices) (range_with_len 0 (length plan.reporters))

  finds_hart : (h : ℕ) → h < plan.harts → worker_of (Hart h) (hired plan devices) ≡ Some (hart_hand h)
  finds_hart h low =
      find-append (by (Hart h)) harts reporters
      ∙ ap (λ o. option_or o (find (by (Hart h)) reporters))
      (find_number hart_hand (Hart h) 0 plan.harts h (λ j. refl) (omega arith) (omega (arith, low)))

  finds_reporter : (r : ℕ) → r < length plan.reporters
      → worker_of (Reporter r) (hired plan devices) ≡ Some (reporter_hand plan devices r)
  finds_reporter r low =
      find-append (by (Reporter r)) harts reporters
      ∙ ap (λ o. option_or o (find (by (Reporter r)) reporters))
      (find_none hart_hand (Reporter r) 0 plan.harts (λ j. refl))
      ∙ find_number (reporter_hand plan devices) (Reporter r) 0 (length plan.reporters) r
      (λ j. ap (λ a. is_same a (Reporter r)) (reporter_actor devices j (slice_get plan.reporters j)))
      (omega arith) (omega (arith, low))

  has_worker : (t : Step) → IsActor plan t → is_some (worker_of t (hired plan devices)) ≡ true
  has_worker (Hart h) on = ap is_some (finds_hart h on)
  has_worker (Reporter r) on = ap is_some (finds_reporter r on)

  list_acts : (d : plan_reporter.Reporter) → is_none d.device ≡ true → acts_from devices (Some d) ≡ d.acts
  list_acts d is = go d.device is
    where
      go : (o : Option ℕ) → is_none o ≡ true → acts_from devices (Some (record d { device = o })) ≡ d.acts
      go None is = refl
      go (Some k) is = absurd (cc)

  device_has : (d : plan_reporter.Reporter) → is_none d.device ≡ false
      → device_acts devices d.device ≡ acts_from devices (Some d)
  device_has d is = go d.device is
    where
      go : (o : Option ℕ) → is_none o ≡ false
          → device_acts devices o ≡ acts_from devices (Some (record d { device = o }))
      go None is = absurd (cc)
      go (Some k) is = refl

  -- the workers that are hired are right
  pub hired_are : AreHired (lists plan devices) plan (hired plan devices)
  hired_are =
      record {
        has = has_worker;
        lists = λ r d declared is. ap (acts_from devices) declared ∙ list_acts d is;
        devices = λ r d w declared is found.
            let same : w ≡ hand_for devices r (Some d) =
            sym (same_Some _ _ (sym (finds_reporter r (slice_get_within plan.reporters r d declared)) ∙ found))
            ∙ ap (hand_for devices r) declared in
            subst (λ (v : Hand). IsHired (lists plan devices r) d.limit v) (sym same)
            (record {
              acts = device_has d is ∙ ap (acts_from devices) (sym declared);
              limit = refl;
            });
      }

-- ---- What stays of them ----

-- a worker that is found was the same before
record Was (t : Step) (ws : List Hand) (v : Hand) : Type 0 where
  worker : Hand
  found : worker_of t ws ≡ Some worker
  stays : Stays worker v

was_there : (t : Step) (us vs : List Hand) (v : Hand) → EachStays us vs → worker_of t vs ≡ Some v → Was t us v
was_there t [] [] v each found = absurd (none-some v found)
was_there t [] (y ∷ vs) v each found = absurd each
was_there t (x ∷ us) [] v each found = absurd each
was_there t (x ∷ us) (y ∷ vs) v each found =
    go (by t y) refl found (was_there t us vs v each.1)
  where
    test : by t x ≡ by t y
    test = ap (λ a. is_same a t) (sym each.0.actor)

    go : (q : Bool) → by t y ≡ q → cond q (Some y) (find (by t) vs) ≡ Some v
        → (worker_of t vs ≡ Some v → Was t us v) → Was t (x ∷ us) v
    go true is found later =
        record {
          worker = x;
          found = ap (λ b. cond b (Some x) (find (by t) us)) (test ∙ is);
          stays = subst (Stays x) (same_Some y v found) each.0;
        }
    go false is found later =
        let was = later found in
        record {
          worker = was.worker;
          found = ap (λ b. cond b (Some x) (find (by t) us)) (test ∙ is) ∙ was.found;
          stays = was.stays;
        }

still_there : (t : Step) (us vs : List Hand) → EachStays us vs → is_some (worker_of t us) ≡ is_some (worker_of t vs)
still_there t [] [] each = refl
still_there t [] (y ∷ vs) each = absurd each
still_there t (x ∷ us) [] each = absurd each
still_there t (x ∷ us) (y ∷ vs) each =
    ap (λ a. is_some (cond (is_same a t) (Some x) (find (by t) us))) (sym each.0.actor)
    ∙ go (by t y) (still_there t us vs each.1)
  where
    go : (q : Bool) → is_some (worker_of t us) ≡ is_some (worker_of t vs)
        → is_some (cond q (Some x) (find (by t) us)) ≡ is_some (cond q (Some y) (find (by t) vs))
    go true rest = refl
    go false rest = rest

pub hired_still : (acts : ℕ → List Act) (plan : Plan) (us vs : List Hand) → EachStays us vs → AreHired acts plan us
    → AreHired acts plan vs
hired_still acts plan us vs each are =
    record {
      has = λ t on. sym (still_there t us vs each) ∙ are.has t on;
      lists = are.lists;
      devices = λ r d v declared device found.
          let was = was_there (Reporter r) us vs v each found in
          let hired = are.devices r d was.worker declared device was.found in
          record { acts = was.stays.same ∙ hired.acts; limit = was.stays.limit ∙ hired.limit };
    }

-- ---- Rewound ----

rewound_stays : (ws : List Hand) → EachStays ws (map rewound ws)
rewound_stays [] = tt
rewound_stays (w ∷ ws) =
    (record { actor = refl; limit = refl; same = append_assoc w.handed w.kept w.left }, rewound_stays ws)

rewound_handed : (t : Step) (ws : List Hand) (w : Hand) → worker_of t (map rewound ws) ≡ Some w → w.handed ≡ []
rewound_handed t [] w found = absurd (none-some w found)
rewound_handed t (x ∷ ws) w found = go (by t (rewound x)) found (rewound_handed t ws w)
  where
    go : (q : Bool) → cond q (Some (rewound x)) (find (by t) (map rewound ws)) ≡ Some w
        → (worker_of t (map rewound ws) ≡ Some w → w.handed ≡ []) → w.handed ≡ []
    go true found later = sym (ap (λ (v : Hand). v.handed) (same_Some (rewound x) w found))
    go false found later = later found

abbrev nothing : List Act
nothing = []

no_acts : (rs : List plan_reporter.Reporter) (r : ℕ)
    → get_or (map (λ (x : plan_reporter.Reporter). nothing) rs) r [] ≡ []
no_acts [] r = refl
no_acts (x ∷ rs) zero = refl
no_acts (x ∷ rs) (suc r) = no_acts rs r

-- workers that were hired, worked and were rewound are ready for a board before its first step
pub ready : (plan : Plan) (devices : List (List Act)) (ws vs : List Hand) (b : Played)
    → EachStays (hired plan devices) ws → vs ≡ map rewound ws → b ≡ fresh plan → Agrees (lists plan devices) b vs
ready plan devices ws vs b each rewinds is =
    subst (λ (x : Played). Agrees (lists plan devices) x vs) (sym is)
    (subst (λ (xs : List Hand). Agrees (lists plan devices) (fresh plan) xs) (sym rewinds)
    (record {
      hired = hired_still (lists plan devices) plan ws (map rewound ws) (rewound_stays ws)
          (hired_still (lists plan devices) plan (hired plan devices) ws each (hired_are plan devices));
      handed = λ r d w declared device found.
          rewound_handed (Reporter r) ws w found ∙ sym (no_acts plan.reporters r);
    }))
