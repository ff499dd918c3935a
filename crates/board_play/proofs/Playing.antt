-- Tries one after another, whole rounds, and the run of a plan.
use Rattle.std.proofs.Common.{◌≡◌, ℕ, zero, suc, ◌+◌, ◌≤◌, ◌<◌, ◌||◌, Bool, true, false, List, [], ◌∷◌, ◌++◌, drop, map, length, slice_get, Option, Some, None, refl, inl, inr, sym, ap, ◌∙◌, subst, append_assoc, append-nil, arith}
use Rattle.std.specs.Prelude.{slice_index_or}
use Rattle.std.specs.List.{range_with_len}
use Rattle.std.specs.Option.{option_map}
use Rattle.std.proofs.lemmas.Bool.{cases_eq, true≢false}
use Rattle.std.proofs.lemmas.Option.{none-some, slice_get-map}
use Rattle.ras_device.specs.declared.act.Act.{Act}
use Rattle.board_plan.specs.declared.notes.Step.{Step}
use Rattle.board_plan.specs.declared.notes.Step.TheVariants.{Hart, Reporter}
use Rattle.board_plan.specs.declared.plan.Reporter as plan_reporter
use Rattle.board_plan.specs.declared.plan.Plan.{Plan}
use Rattle.board_plan.specs.State.{BoardState, fresh_reporter, start_state}
use Rattle.board_plan.specs.Step.{acts_made, made_by}
use Rattle.board_plan.specs.Run.{AreScheduled, Noted, Ran, acts_from, lists, notes, ran, round, rounds, run}
use Rattle.board_core.specs.Played.{Played, fresh, own_run, state_of}
use Rattle.board_core.proofs.Going.{notes-append, run-append}
use Rattle.board_plan.specs.Plans.{AreNamedOnce, named_by}
use Rattle.board_play.specs.Played.{IsRunOf}
use Rattle.board_play.specs.Tried.{AreFollowed, Fits, Goes, HasTried, HasRounds, IsAfter, Plays, Went, some_made}

-- ---- Tries one after another ----

some-more : (xs ys : List Noted) → (some_made xs || some_made ys) ≡ some_made (xs ++ ys)
some-more [] ys = refl
some-more (x ∷ xs) ys = refl

went-then : (plan : Plan) (devices : List (List Act)) (b c d : Played) (ts us vs : List Step) (m n : Bool)
    → vs ≡ ts ++ us → Went plan devices b ts m c → Went plan devices c us n d → Went plan devices b vs (m || n) d
went-then plan devices b c d ts us vs m n e p q =
    subst (λ ws. Went plan devices b ws (m || n) d) (sym e)
    (let acts = lists plan devices in
    let s = state_of b in
    let both = notes-append plan acts s ts us in
    let later : notes plan acts (state_of c) us ≡ notes plan acts (run plan acts s ts) us =
    ap (λ (x : BoardState). notes plan acts x us) p.state in
    record {
      goes_on = λ done has.
          subst (HasTried plan devices d) (append_assoc done ts us) (q.goes_on (done ++ ts) (p.goes_on done has));
      state = q.state ∙ ap (λ (x : BoardState). run plan acts x us) p.state ∙ sym (run-append plan acts s ts us);
      told = ap (λ x. x || n) p.told ∙ ap (λ x. some_made (notes plan acts s ts) || x) q.told
          ∙ ap (λ (ns : List Noted). some_made (notes plan acts s ts) || some_made ns) later
          ∙ some-more (notes plan acts s ts) (notes plan acts (run plan acts s ts) us) ∙ ap some_made (sym both);
    })

-- a step was made by the one or by the other
grown-then : (m n : Bool) (x y z : ℕ) → x ≤ y → y ≤ z → (m ≡ true → x < y) → (n ≡ true → y < z) → (m || n) ≡ true
    → x < z
grown-then true n x y z low high first second is = omega (arith, first refl, high)
grown-then false n x y z low high first second is = omega (arith, second is, low)

pub goes-on : (b c d : Played) (left mid rest : List (List Act)) (ts us vs : List Step) (m n j : Bool) → vs ≡ ts ++ us
    → Goes b left ts m c mid → Goes c mid us n d rest → (m || n) ≡ j → Goes b left vs j d rest
goes-on b c d left mid rest ts us vs m n j e x y k =
    subst (λ i. Goes b left vs i d rest) k
    (record {
      plan = y.plan ∙ x.plan;
      keeps = omega (arith, x.keeps, y.keeps);
      grows = grown-then m n (length b.steps) (length c.steps) (length d.steps) x.keeps y.keeps x.grows y.grows;
      went = λ devices f.
          went-then b.plan devices b c d ts us vs m n e (x.went devices f)
          (subst (λ (q : Plan). Went q devices c us n d) x.plan (y.went devices (x.fits devices f)));
      fits = λ devices f. y.fits devices (x.fits devices f);
    })

-- no tries
pub goes-nil : (b : Played) (left : List (List Act)) → Goes b left [] false b left
goes-nil b left =
    record {
      plan = refl;
      keeps = omega arith;
      grows = λ e. absurd (true≢false (sym e));
      went = λ devices f.
          record {
            goes_on = λ done has. has ∙ ap (ran b.plan (lists b.plan devices)) (sym (append-nil done));
            state = refl;
            told = refl;
          };
      fits = λ devices f. f;
    }

pub plays-nil : (b : Played) (left : List (List Act)) → Plays b left [] b left
plays-nil b left =
    record {
      plan = refl;
      more = λ devices f done has. subst (HasTried b.plan devices b) (sym (append-nil done)) has;
      fits = λ devices f. f;
    }

pub plays-more : (b c d : Played) (left mid rest : List (List Act)) (ts vs : List Step) (t : Step) (m : Bool)
    → vs ≡ ts ++ t ∷ [] → Plays b left ts c mid → Goes c mid (t ∷ []) m d rest → Plays b left vs d rest
plays-more b c d left mid rest ts vs t m e x y =
    subst (λ us. Plays b left us d rest) (sym e)
    (record {
      plan = y.plan ∙ x.plan;
      more = λ devices f done has.
          subst (HasTried b.plan devices d) (append_assoc done ts (t ∷ []))
          ((subst (λ (q : Plan). Went q devices c (t ∷ []) m d) x.plan
          (y.went devices (x.fits devices f))).goes_on (done ++ ts) (x.more devices f done has));
      fits = λ devices f. y.fits devices (x.fits devices f);
    })

-- ---- Rounds ----

-- one number more
range-next : (f : ℕ → Step) (at k : ℕ)
    → map f (range_with_len at (suc k)) ≡ map f (range_with_len at k) ++ f (at + k) ∷ []
range-next f at zero = ap (λ (i : ℕ). f i ∷ []) (omega arith)
range-next f at (suc k) =
    let further : at + 1 + k ≡ at + suc k = omega arith in
    ap (λ ts. f at ∷ ts) (range-next f (at + 1) k ∙ ap (λ (i : ℕ). map f (range_with_len (at + 1) k)
    ++ f i ∷ []) further)

pub range-more : (f : ℕ → Step) (k : ℕ) → map f (range_with_len 0 (k + 1)) ≡ map f (range_with_len 0 k) ++ f k ∷ []
range-more f k =
    let next : k + 1 ≡ suc k = omega arith in
    let place : 0 + k ≡ k = omega arith in
    ap (λ (i : ℕ). map f (range_with_len 0 i)) next ∙ range-next f 0 k
    ∙ ap (λ (i : ℕ). map f (range_with_len 0 k) ++ f i ∷ []) place

-- one more of those that are numbered
pub goes-more : (b c d : Played) (left mid rest : List (List Act)) (f : ℕ → Step) (k : ℕ) (m n j : Bool)
    → Goes b left (map f (range_with_len 0 k)) m c mid → Goes c mid (f k ∷ []) n d rest → (m || n) ≡ j
    → Goes b left (map f (range_with_len 0 (k + 1))) j d rest
goes-more b c d left mid rest f k m n j x y e =
    goes-on b c d left mid rest (map f (range_with_len 0 k)) (f k ∷ []) (map f (range_with_len 0 (k + 1))) m n j
    (range-more f k) x y e

-- harts, then reporters
pub goes-round : (b c d : Played) (left mid rest : List (List Act)) (m n j : Bool)
    → Goes b left (map Hart (range_with_len 0 b.plan.harts)) m c mid
    → Goes c mid (map Reporter (range_with_len 0 (length c.plan.reporters))) n d rest → (m || n) ≡ j
    → Goes b left (round b.plan) j d rest
goes-round b c d left mid rest m n j x y e =
    goes-on b c d left mid rest (map Hart (range_with_len 0 b.plan.harts))
    (map Reporter (range_with_len 0 (length c.plan.reporters))) (round b.plan) m n j
    (ap (λ (q : Plan). map Hart (range_with_len 0 b.plan.harts)
    ++ map Reporter (range_with_len 0 (length q.reporters))) (sym x.plan)) x y e

-- the state of a board that has tried these
state-is : (plan : Plan) (devices : List (List Act)) (b : Played) (ts : List Step) → HasTried plan devices b ts
    → state_of b ≡ run plan (lists plan devices) (start_state plan) ts
unfolding ran
state-is plan devices b ts has = ap (λ (r : Ran). r.state) has

some-left : (ns : List Noted) → true ≡ some_made ns → 0 < length ns
some-left [] e = cc
some-left (n ∷ ns) e = omega arith

none-left : (ns : List Noted) → false ≡ some_made ns → ns ≡ []
none-left [] e = refl
none-left (n ∷ ns) e = cc

-- a round that made a step
after-round : (plan : Plan) (devices : List (List Act)) (b c : Played) → IsAfter plan devices b
    → Went plan devices b (round plan) true c → IsAfter plan devices c
after-round plan devices b c after went =
    let acts = lists plan devices in
    let reached = λ (k : ℕ). run plan acts (start_state plan) (rounds plan k) in
    let here : 0 < length (notes plan acts (reached after.count) (round plan)) =
    subst (λ (s : BoardState). 0 < length (notes plan acts s (round plan)))
    (state-is plan devices b (rounds plan after.count) after.has)
    (some-left (notes plan acts (state_of b) (round plan)) went.told) in
    record {
      count = suc after.count;
      has = went.goes_on (rounds plan after.count) after.has;
      busy = λ k low.
          elim (cases_eq k after.count) as (λ _. 0 < length (notes plan acts (reached k) (round plan))) [
            | inl same ↦ subst (λ (j : ℕ). 0 < length (notes plan acts (reached j) (round plan))) (sym same) here
            | inr other ↦ after.busy k (omega (arith, low, other))
          ];
    }

-- a round that made none
round-idle : (plan : Plan) (devices : List (List Act)) (b c : Played) → IsAfter plan devices b
    → Went plan devices b (round plan) false c → HasRounds plan devices c
round-idle plan devices b c after went =
    let acts = lists plan devices in
    record {
      tries = rounds plan (suc after.count);
      are_rounds = record {
        count = after.count;
        first_idle = record {
          busy = after.busy;
          idle = ap (λ (s : BoardState). notes plan acts s (round plan))
              (sym (state-is plan devices b (rounds plan after.count) after.has))
              ∙ none-left (notes plan acts (state_of b) (round plan)) went.told;
        };
        are_rounds = refl;
      };
      has = went.goes_on (rounds plan after.count) after.has;
    }

-- a round of the first board's plan
round-of : (plan p : Plan) (devices : List (List Act)) (b c : Played) (m n : Bool) → p ≡ plan → m ≡ n
    → Went p devices b (round p) m c → Went plan devices b (round plan) n c
round-of plan p devices b c m n same is went =
    subst (λ (q : Plan). Went q devices b (round q) n c) same (subst (λ i. Went p devices b (round p) i c) is went)

-- no rounds so far
pub follow-start : (b : Played) (left : List (List Act)) → AreFollowed b left b left
follow-start b left =
    record {
      plan = refl;
      after = λ devices f has. record { count = 0; has = has; busy = λ k low. absurd (omega (arith, low)) };
      fits = λ devices f. f;
    }

-- one more, which made a step
pub follow-more : (b c d : Played) (left mid rest : List (List Act)) (m : Bool) → m ≡ true
    → AreFollowed b left c mid → Goes c mid (round c.plan) m d rest → AreFollowed b left d rest
follow-more b c d left mid rest m is x y =
    record {
      plan = y.plan ∙ x.plan;
      after = λ devices f has.
          after-round b.plan devices c d (x.after devices f has)
          (round-of b.plan c.plan devices c d m true x.plan is (y.went devices (x.fits devices f)));
      fits = λ devices f. y.fits devices (x.fits devices f);
    }

-- the idle one
pub follow-end : (b c d : Played) (left mid rest : List (List Act)) (m : Bool) → m ≡ false
    → AreFollowed b left c mid → Goes c mid (round c.plan) m d rest → (devices : List (List Act))
    → Fits devices b left → HasTried b.plan devices b [] → HasRounds b.plan devices d
follow-end b c d left mid rest m is x y devices f has =
    round-idle b.plan devices c d (x.after devices f has)
    (round-of b.plan c.plan devices c d m false x.plan is (y.went devices (x.fits devices f)))

-- ---- A whole run ----

-- a board before its first step has tried nothing
fresh-tried : (plan : Plan) (devices : List (List Act)) (b : Played) → b ≡ fresh plan → HasTried b.plan devices b []
unfolding ran
fresh-tried plan devices b is = subst (λ (x : Played). HasTried x.plan devices x []) (sym is) refl

-- no reporter has made an act then
none-made : (plan : Plan) (r : ℕ) → acts_made r (start_state plan) ≡ 0
none-made plan r =
    ap made_by (slice_get-map fresh_reporter plan.reporters r) ∙ go (slice_get plan.reporters r)
  where
    go : (o : Option plan_reporter.Reporter) → made_by (option_map fresh_reporter o) ≡ 0
    go None = refl
    go (Some d) = refl

-- the acts of a reporter that names a device are those of the device
device-acts : (devices : List (List Act)) (o : Option plan_reporter.Reporter) (k : ℕ) → named_by o ≡ Some k
    → acts_from devices o ≡ slice_index_or devices k []
device-acts devices None k named = absurd (none-some k named)
device-acts devices (Some r) k named =
    (elim r.device as (λ device. device ≡ Some k
    → acts_from devices (Some (record r { device = device })) ≡ slice_index_or devices k []) [
      | None ↦ λ e. absurd (none-some k e)
      | Some j ↦ λ e. ap (λ i. acts_from devices (Some (record r { device = i }))) e
    ]) named

-- and each device has all of its acts
fresh-fits : (plan : Plan) (devices left : List (List Act)) (b : Played) → b ≡ fresh plan
    → AreNamedOnce plan.reporters → left ≡ devices → Fits devices b left
unfolding ran
fresh-fits plan devices left b is once whole =
    subst (λ (x : Played). Fits devices x left) (sym is)
    (record {
      once = once;
      tied = λ r k named wanted.
          ap (λ (xs : List (List Act)). slice_index_or xs k []) whole
          ∙ sym (device-acts devices (slice_get plan.reporters r) k named)
          ∙ ap (λ n. drop n (lists plan devices r)) (sym (none-made plan r));
    })

pub run-scheduled : (plan : Plan) (devices left rest : List (List Act)) (b c d : Played) (ts us : List Step)
    → b ≡ fresh plan → AreNamedOnce plan.reporters → left ≡ devices → plan.schedule ≡ Some ts → us ≡ ts
    → Plays b left us c rest → d ≡ c → IsRunOf plan devices d
run-scheduled plan devices left rest b c d ts us is once whole given same plays last =
    subst (IsRunOf plan devices) (sym last)
    (let plan_is : b.plan ≡ plan = ap (λ (x : Played). x.plan) is in
    record {
      tries = us;
      same_plan = plays.plan ∙ plan_is;
      are_tries = subst (λ o. AreScheduled plan (lists plan devices) o us) (sym given) same;
      same_run = subst (λ (q : Plan). own_run c ≡ ran q (lists q devices) us) plan_is
          (plays.more devices (fresh-fits plan devices left b is once whole) [] (fresh-tried plan devices b is));
    })

pub run-rounds : (plan : Plan) (devices left : List (List Act)) (b c d : Played) → b ≡ fresh plan
    → AreNamedOnce plan.reporters → left ≡ devices → plan.schedule ≡ None
    → ((given : List (List Act)) → Fits given b left → HasTried b.plan given b [] → HasRounds b.plan given c)
    → c.plan ≡ b.plan → d ≡ c → IsRunOf plan devices d
run-rounds plan devices left b c d is once whole given has kept last =
    subst (IsRunOf plan devices) (sym last)
    (let plan_is : b.plan ≡ plan = ap (λ (x : Played). x.plan) is in
    let rounds = subst (λ (q : Plan). HasRounds q devices c) plan_is
    (has devices (fresh-fits plan devices left b is once whole) (fresh-tried plan devices b is)) in
    record {
      tries = rounds.tries;
      same_plan = kept ∙ plan_is;
      are_tries = subst (λ o. AreScheduled plan (lists plan devices) o rounds.tries) (sym given) rounds.are_rounds;
      same_run = rounds.has;
    })
