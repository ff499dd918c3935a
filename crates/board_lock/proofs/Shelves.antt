-- Devices that are taken off a shelf, each for the reporter that names it.
use Rattle.std.proofs.Common.{◌≡◌, ℕ, zero, suc, ◌+◌, ◌<◌, ◌≤◌, List, [], ◌∷◌, ◌++◌, map, length, set, get_or, slice_get, Option, Some, None, refl, sym, ap, ◌∙◌, subst, append_assoc, arith}
use Rattle.std.specs.List.{range_with_len}
use Rattle.std.proofs.lemmas.List.{get_or-set_other, map-set}
use Rattle.std.proofs.lemmas.List.FromFn.{map-range_with_len_more}
use Rattle.ras_device.specs.declared.act.Act.{Act}
use Rattle.board_plan.specs.declared.plan.Reporter as plan_reporter
use Rattle.board_plan.specs.declared.plan.Plan.{Plan}
use Rattle.board_plan.specs.Plans.{AreNamedOnce, named_by}
use Rattle.board_lock.specs.Hand.{Hand}
use Rattle.board_lock.specs.Hiring.{device_acts, hand_for, reporter_hand, without_device}

-- what the reporters from this one on find on the shelf is what they would have found at the start
pub record IsKept (plan : Plan) (from : ℕ) (old new : List (List Act)) : Type 0 where
  pub kept : (j : ℕ) (d : plan_reporter.Reporter) → from ≤ j → slice_get plan.reporters j ≡ Some d
      → device_acts new d.device ≡ device_acts old d.device

pub kept_start : (plan : Plan) (shelf : List (List Act)) → IsKept plan 0 shelf shelf
kept_start plan shelf = record { kept = λ j d from declared. refl }

-- another device stays
other_device : (shelf : List (List Act)) (taken wanted : Option ℕ)
    → ((k : ℕ) → taken ≡ Some k → wanted ≡ Some k → ⊥)
    → device_acts (without_device shelf taken) wanted ≡ device_acts shelf wanted
other_device shelf None wanted apart = refl
other_device shelf (Some k) None apart = refl
other_device shelf (Some k) (Some n) apart =
    get_or-set_other shelf k n [] [] (λ same. apart k refl (ap (λ (i : ℕ). Some i) same))

pub kept_more : (plan : Plan) (r : ℕ) (old new more : List (List Act)) (d : plan_reporter.Reporter)
    → AreNamedOnce plan.reporters → slice_get plan.reporters r ≡ Some d → IsKept plan r old new
    → more ≡ without_device new d.device → IsKept plan (r + 1) old more
kept_more plan r old new more d once declared kept is =
    record {
      kept = λ j e from there.
          ap (λ (s : List (List Act)). device_acts s e.device) is
          ∙ other_device new d.device e.device
          (λ k here named.
          absurd (apart r j (omega (arith, from))
          (once r j k (ap named_by declared ∙ here) (ap named_by there ∙ named))))
          ∙ kept.kept j e (omega (arith, from)) there;
    }
  where
    apart : (m n : ℕ) → m + 1 ≤ n → m ≡ n → ⊥
    apart m n more same = omega (arith, more, same)

-- the worker of the next reporter
pub next_hand : (plan : Plan) (r : ℕ) (old new : List (List Act)) (d : plan_reporter.Reporter) (w : Hand)
    → slice_get plan.reporters r ≡ Some d → IsKept plan r old new → w ≡ hand_for new r (Some d)
    → w ≡ reporter_hand plan old r
next_hand plan r old new d w declared kept is =
    is ∙ ap (λ (acts : List Act). record (hand_for new r (Some d)) { left = acts })
    (kept.kept r d (omega arith) declared)
    ∙ ap (hand_for old r) (sym declared)

-- one worker more
pub hired_more : (plan : Plan) (devices : List (List Act)) (before hands more : List Hand) (r : ℕ) (w : Hand)
    → hands ≡ before ++ map (reporter_hand plan devices) (range_with_len 0 r) → w ≡ reporter_hand plan devices r
    → more ≡ hands ++ w ∷ []
    → more ≡ before ++ map (reporter_hand plan devices) (range_with_len 0 (r + 1))
hired_more plan devices before hands more r w are is added =
    added ∙ ap (λ (hs : List Hand). hs ++ w ∷ []) are
    ∙ append_assoc before (map (reporter_hand plan devices) (range_with_len 0 r)) (w ∷ [])
    ∙ ap (λ (v : Hand). before ++ (map (reporter_hand plan devices) (range_with_len 0 r) ++ v ∷ [])) is
    ∙ ap (λ (hs : List Hand). before ++ hs)
    (sym (map-range_with_len_more (reporter_hand plan devices) 0 r r (omega arith)))

-- a device is taken
pub taken : {X : Type 0} (f : X → List Act) (xs : List X) (device : Option ℕ) (n k : ℕ) (y : X) → device ≡ Some n
    → k ≡ n → f y ≡ [] → map f (set xs k y) ≡ without_device (map f xs) device
taken f xs device n k y is same empty =
    map-set f xs k y ∙ ap (set (map f xs) k) empty ∙ ap (λ (i : ℕ). without_device (map f xs) (Some i)) same
    ∙ ap (without_device (map f xs)) (sym is)

there_at : (xs : List plan_reporter.Reporter) (k : ℕ) (d : plan_reporter.Reporter) → k < length xs
    → slice_get xs k ≡ Some (get_or xs k d)
there_at [] k d low = absurd (omega (arith, low))
there_at (x ∷ xs) zero d low = refl
there_at (x ∷ xs) (suc k) d low = there_at xs k d (omega (arith, low))

-- a reporter that is read stands in the plan
pub read_there : (rs all : List plan_reporter.Reporter) (k : ℕ) (d : plan_reporter.Reporter) → rs ≡ all → k < length rs
    → d ≡ get_or rs k d → slice_get all k ≡ Some d
read_there rs all k d same low is =
    subst (λ (xs : List plan_reporter.Reporter). slice_get xs k ≡ Some d) same
    (there_at rs k d low ∙ ap (λ (r : plan_reporter.Reporter). Some r) (sym is))
