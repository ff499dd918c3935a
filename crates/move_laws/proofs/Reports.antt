-- No fate depends on the version of a plan, and of a report only its first line does.
use Rattle.std.proofs.Common.{◌≡◌, ℕ, ◌+◌, cond, Bool, List, [], ◌∷◌, ◌++◌, map, length, slice_get, Option, Some, None, codes, decimal, refl, sym, subst, ap, ◌∙◌}
use Rattle.std.specs.List.{count_by}
use Rattle.std.proofs.lemmas.List.Sums.{sum_by-cons}
use Rattle.sse_base.specs.Events.{slots}
use Rattle.reri_fields.specs.Records.{Error, Origin}
use Rattle.ras_device.specs.declared.act.Act.{Act}
use Rattle.board_plan.specs.declared.notes.Fates as fates
use Rattle.board_plan.specs.declared.notes.Step.{Step}
use Rattle.board_plan.specs.declared.plan.BankDecl.{BankDecl}
use Rattle.board_plan.specs.declared.plan.Plan.{Plan}
use Rattle.board_plan.specs.Canonical.{moved}
use Rattle.board_plan.specs.Run.{Noted, Ran, steps_of, ran, lists, AreTries}
use Rattle.board_plan.specs.Fates.{News, Fate, news, errors_made, deeds_of, origin_in, has_fate_of, has_fate, number_with, fates_of}
use Rattle.board_plan.specs.Fates.Fate.{Stray, WasDisabled, WasCounted, Drained, Overwritten, WasKept, Stands}
use Rattle.board_plan.specs.Text.{field, bytes_of, trace_lines, head_line, hart_lines, event_line, bank_lines, fates_line, word_lines, schedule_lines, end_line, full, short, trace}
use Rattle.move_laws.specs.Moves.{GathersByVersion, AreRunsKept, AreTracesKept, AreTriesKept, AreActsKept, AreReportsKept}
use Rattle.move_laws.proofs.Moved.{in_version, moved_is}
use Rattle.move_laws.proofs.Runs.{ran_same, tries_same}

-- ---- Counts ----

count_same : {X : Type 0} (f g : X → Bool) → ((x : X) → f x ≡ g x) → (xs : List X) → count_by f xs ≡ count_by g xs
count_same f g h [] = refl
count_same {X} f g h (x ∷ xs) =
    sum_by-cons (λ (y : X). cond (f y) 1 0) x xs
    ∙ ap (λ (b : Bool). cond b 1 0 + count_by f xs) (h x)
    ∙ ap (λ (n : ℕ). cond (g x) 1 0 + n) (count_same f g h xs)
    ∙ sym (sum_by-cons (λ (y : X). cond (g y) 1 0) x xs)

abbrev counts : ℕ → ℕ → ℕ → ℕ → ℕ → ℕ → ℕ → ℕ → fates.Fates
counts made stray disabled counted drained overwritten kept stands =
    record {
      made = made;
      stray = stray;
      disabled = disabled;
      counted = counted;
      drained = drained;
      overwritten = overwritten;
      kept = kept;
      stands = stands;
    }

counts_same : (m a b c d e f g i j k l n o p : ℕ) → a ≡ i → b ≡ j → c ≡ k → d ≡ l → e ≡ n → f ≡ o → g ≡ p →
    counts m a b c d e f g ≡ counts m i j k l n o p
counts_same m a b c d e f g i j k l n o p ai bj ck dl en fo gp =
    ap (λ (x : ℕ). counts m x b c d e f g) ai
    ∙ ap (λ (x : ℕ). counts m i x c d e f g) bj
    ∙ ap (λ (x : ℕ). counts m i j x d e f g) ck
    ∙ ap (λ (x : ℕ). counts m i j k x e f g) dl
    ∙ ap (λ (x : ℕ). counts m i j k l x f g) en
    ∙ ap (λ (x : ℕ). counts m i j k l n x g) fo
    ∙ ap (λ (x : ℕ). counts m i j k l n o x) gp

-- ---- The first line of a report ----

-- what is behind the version in the first line
abbrev behind_version : Plan → ℕ → List ℕ
behind_version plan steps =
    field (codes "harts") (decimal plan.harts) ++ field (codes "banks") (decimal (length plan.banks))
    ++ field (codes "reporters") (decimal (length plan.reporters)) ++ field (codes "steps") (decimal steps)

-- and behind it in the whole report, where these lines follow
abbrev rest_of : Plan → ℕ → List (List ℕ) → List ℕ
rest_of plan steps more = behind_version plan steps ++ 10 ∷ bytes_of more

out_first : (a b c d e x : List ℕ) → a ++ b ++ c ++ d ++ e ++ x ≡ a ++ (b ++ c ++ d ++ e ++ x)
out_first [] b c d e x = refl
out_first (n ∷ a) b c d e x = ap (λ (l : List ℕ). n ∷ l) (out_first a b c d e x)

report_is : (plan : Plan) (steps : ℕ) (more : List (List ℕ)) → bytes_of (head_line plan steps ∷ more)
    ≡ codes "board " ++ decimal plan.version ++ rest_of plan steps more
unfolding head_line
report_is plan steps more =
    ap (λ (l : List ℕ). codes "board " ++ l)
    (out_first (decimal plan.version) (field (codes "harts") (decimal plan.harts))
    (field (codes "banks") (decimal (length plan.banks))) (field (codes "reporters") (decimal (length plan.reporters)))
    (field (codes "steps") (decimal steps)) (10 ∷ bytes_of more))

-- ---- The other lines, with these fates ----

abbrev full_rest : Plan → Ran → fates.Fates → List (List ℕ)
full_rest plan r f =
    hart_lines 0 r.state.counts r.state.machine.masks r.state.machine.stacks
    ++ map event_line (slots r.state.machine.events)
    ++ bank_lines 0 plan.recs plan.banks r.state.banks
    ++ fates_line f ∷ []
    ++ word_lines 0x80000000 r.state.machine.memory
    ++ schedule_lines (steps_of r.notes)
    ++ end_line ∷ []

abbrev short_rest : fates.Fates → List (List ℕ)
short_rest f = fates_line f ∷ end_line ∷ []

-- ---- Another version ----

module _ (v : ℕ) (p : Plan) where
  abbrev q : Plan
  q = in_version v p

  -- ---- Fates ----

  origin_in_same : (bank rec : ℕ) (d : Option BankDecl) → origin_in bank rec q d ≡ origin_in bank rec p d
  origin_in_same bank rec None = refl
  origin_in_same bank rec (Some d) = refl

  has_fate_same : (ns : List News) (fate : Fate) (e : Error) → has_fate q ns fate e ≡ has_fate p ns fate e
  has_fate_same ns fate e =
      ap (λ (o : Option Origin). has_fate_of fate (deeds_of e.report.bank e.report.rec ns) e.step o)
      (origin_in_same e.report.bank e.report.rec (slice_get p.banks e.report.bank))

  number_same : (ns : List News) (fate : Fate) → number_with q ns fate ≡ number_with p ns fate
  unfolding number_with
  number_same ns fate = count_same (has_fate q ns fate) (has_fate p ns fate) (has_fate_same ns fate) (errors_made ns)

  fates_same : (ns : List Noted) → fates_of q ns ≡ fates_of p ns
  fates_same ns =
      let same = number_same (news ns) in
      counts_same _ _ _ _ _ _ _ _ _ _ _ _ _ _ _ (same Stray) (same WasDisabled) (same WasCounted) (same Drained)
      (same Overwritten) (same WasKept) (same Stands)

  -- ---- Reports ----

  -- with other fates and another run of the other version, which are the same
  same_lines : (lines : Ran → fates.Fates → List (List ℕ)) (acts : ℕ → List Act) (tries : List Step) →
      rest_of q (length (ran q acts tries).notes) (lines (ran q acts tries) (fates_of q (ran q acts tries).notes))
      ≡ rest_of p (length (ran p acts tries).notes) (lines (ran p acts tries) (fates_of p (ran p acts tries).notes))
  same_lines lines acts tries =
      ap (λ (r : Ran). rest_of p (length r.notes) (lines r (fates_of q r.notes))) (ran_same v p acts tries)
      ∙ ap (λ (f : fates.Fates). rest_of p (length (ran p acts tries).notes) (lines (ran p acts tries) f))
      (fates_same (ran p acts tries).notes)

  full_differs : (acts : ℕ → List Act) (tries : List Step) → full q acts tries
      ≡ codes "board " ++ decimal v
      ++ rest_of p (length (ran p acts tries).notes)
      (full_rest p (ran p acts tries) (fates_of p (ran p acts tries).notes))
  unfolding full
  full_differs acts tries =
      let r : Ran = ran q acts tries in
      report_is q (length r.notes) (full_rest q r (fates_of q r.notes))
      ∙ ap (λ (l : List ℕ). codes "board " ++ decimal v ++ l) (same_lines (full_rest p) acts tries)

  short_differs : (acts : ℕ → List Act) (tries : List Step) → short q acts tries
      ≡ codes "board " ++ decimal v
      ++ rest_of p (length (ran p acts tries).notes) (short_rest (fates_of p (ran p acts tries).notes))
  unfolding short
  short_differs acts tries =
      let r : Ran = ran q acts tries in
      report_is q (length r.notes) (short_rest (fates_of q r.notes))
      ∙ ap (λ (l : List ℕ). codes "board " ++ decimal v ++ l) (same_lines (λ r f. short_rest f) acts tries)

-- ---- Moves ----

module _ (plan : Plan) (g : GathersByVersion plan) where
  at_move : moved plan ≡ in_version 2 plan
  at_move = moved_is plan g

  pub runs_kept : AreRunsKept plan
  runs_kept acts tries = ap (λ (x : Plan). ran x acts tries) at_move ∙ ran_same 2 plan acts tries

  pub traces_kept : AreTracesKept plan
  unfolding trace
  traces_kept acts tries = ap (λ (r : Ran). bytes_of (trace_lines 1 r.notes)) (runs_kept acts tries)

  pub acts_kept : AreActsKept plan
  acts_kept devices = ap (λ (x : Plan). lists x devices) at_move

  pub tries_kept : AreTriesKept plan
  tries_kept acts tries = (
    λ t. tries_same plan.version (in_version 2 plan) acts tries
        (subst (λ (x : Plan). AreTries x acts tries) at_move t),
    λ t. subst (λ (x : Plan). AreTries x acts tries) (sym at_move) (tries_same 2 plan acts tries t),
  )

  pub reports_kept : AreReportsKept plan
  reports_kept =
      record {
        full_ones = λ acts tries.
            record {
              rest = _;
              was = full_differs plan.version plan acts tries;
              is = ap (λ (x : Plan). full x acts tries) at_move ∙ full_differs 2 plan acts tries;
            };
        short_ones = λ acts tries.
            record {
              rest = _;
              was = short_differs plan.version plan acts tries;
              is = ap (λ (x : Plan). short x acts tries) at_move ∙ short_differs 2 plan acts tries;
            };
      }
