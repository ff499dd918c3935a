-- A run with one try more, and what holds after every list of tries.
use Rattle.std.proofs.Common.{◌≡◌, ℕ, List, [], ◌∷◌, ◌++◌, Option, Some, None, refl, sym, ap, ◌∙◌, subst, append_assoc, append-nil}
use Rattle.ras_device.specs.declared.act.Act.{Act}
use Rattle.board_plan.specs.declared.notes.Step.{Step}
use Rattle.board_plan.specs.declared.plan.Plan.{Plan}
use Rattle.board_plan.specs.State.{BoardState, start_state}
use Rattle.board_plan.specs.Step.{Stepped, step}
use Rattle.board_plan.specs.Run.{Noted, state_after, noted, run, notes, ran}
use Rattle.board_plan.specs.Fates.{News, news_of, news}
use Rattle.board_fates.proofs.Pushed.{news_push}

-- ---- One try more ----

run_more : (plan : Plan) (acts : ℕ → List Act) (s : BoardState) (ts : List Step) (t : Step)
    → run plan acts s (ts ++ t ∷ [])
    ≡ state_after (run plan acts s ts) (step plan acts t (run plan acts s ts))
run_more plan acts s [] t = refl
run_more plan acts s (x ∷ ts) t = run_more plan acts (state_after s (step plan acts x s)) ts t

noted_more : (t : Step) (o : Option Stepped) (ns ms : List Noted) → noted t o (ns ++ ms) ≡ noted t o ns ++ ms
noted_more t None ns ms = refl
noted_more t (Some d) ns ms = refl

notes_more : (plan : Plan) (acts : ℕ → List Act) (s : BoardState) (ts : List Step) (t : Step)
    → notes plan acts s (ts ++ t ∷ [])
    ≡ notes plan acts s ts ++ noted t (step plan acts t (run plan acts s ts)) []
notes_more plan acts s [] t = refl
notes_more plan acts s (x ∷ ts) t =
    let o = step plan acts x s in
    ap (noted x o) (notes_more plan acts (state_after s o) ts t)
    ∙ noted_more x o (notes plan acts (state_after s o) ts)
    (noted t (step plan acts t (run plan acts (state_after s o) ts)) [])

-- the news after a try
abbrev pub news_after : List News → Option Stepped → List News
news_after ns None = ns
news_after ns (Some d) = news_of d.note ∷ ns

news_more : (ns : List Noted) (t : Step) (o : Option Stepped) → news (ns ++ noted t o []) ≡ news_after (news ns) o
news_more ns t None = ap news (append-nil ns)
news_more ns t (Some d) = news_push ns (record { by = t; note = d.note })

-- what a try leads to
pub record GoesOn (plan : Plan) (acts : ℕ → List Act) (ts : List Step) (t : Step) (o : Option Stepped) : Type 0 where
  pub state : (ran plan acts (ts ++ t ∷ [])).state ≡ state_after (ran plan acts ts).state o
  pub told : news (ran plan acts (ts ++ t ∷ [])).notes ≡ news_after (news (ran plan acts ts).notes) o

pub goes_on : (plan : Plan) (acts : ℕ → List Act) (ts : List Step) (t : Step)
    → GoesOn plan acts ts t (step plan acts t (ran plan acts ts).state)
unfolding ran
goes_on plan acts ts t =
    let s = start_state plan in
    record {
      state = run_more plan acts s ts t;
      told = ap news (notes_more plan acts s ts t)
          ∙ news_more (notes plan acts s ts) t (step plan acts t (run plan acts s ts));
    }

-- ---- Lists that grow at their ends ----

onward : {A : Type 0} (P : List A → Type 0) → ((xs : List A) (x : A) → P xs → P (xs ++ x ∷ []))
    → (front xs : List A) → P front → P (front ++ xs)
onward P more front [] h = subst P (sym (append-nil front)) h
onward P more front (x ∷ xs) h =
    subst P (append_assoc front (x ∷ []) xs) (onward P more (front ++ x ∷ []) xs (more front x h))

-- what holds of no try, and with each try more, holds of all lists
pub all_tries : (P : List Step → Type 0) → P [] → ((ts : List Step) (t : Step) → P ts → P (ts ++ t ∷ []))
    → (ts : List Step) → P ts
all_tries P none more ts = onward P more [] ts none

-- What holds of the start, and is kept by each step that comes next in a run, holds of the news and the state of each
-- run.
pub ran_keeps : (plan : Plan) (acts : ℕ → List Act) (Holds : List News → BoardState → Type 0)
    → Holds [] (start_state plan)
    → ((ts : List Step) (t : Step) (d : Stepped) → step plan acts t (ran plan acts ts).state ≡ Some d
    → Holds (news (ran plan acts ts).notes) (ran plan acts ts).state
    → Holds (news_of d.note ∷ news (ran plan acts ts).notes) d.state)
    → (ts : List Step) → Holds (news (ran plan acts ts).notes) (ran plan acts ts).state
unfolding ran
ran_keeps plan acts Holds start keeps ts =
    all_tries (λ us. Holds (news (ran plan acts us).notes) (ran plan acts us).state) start
    (λ us t h. tried us t (step plan acts t (ran plan acts us).state) refl (goes_on plan acts us t) h) ts
  where
    tried : (us : List Step) (t : Step) (o : Option Stepped) → step plan acts t (ran plan acts us).state ≡ o
        → GoesOn plan acts us t o → Holds (news (ran plan acts us).notes) (ran plan acts us).state
        → Holds (news (ran plan acts (us ++ t ∷ [])).notes) (ran plan acts (us ++ t ∷ [])).state
    tried us t None is goes h =
        subst (λ ns. Holds ns (ran plan acts (us ++ t ∷ [])).state) (sym goes.told)
        (subst (Holds (news (ran plan acts us).notes)) (sym goes.state) h)
    tried us t (Some d) is goes h =
        subst (λ ns. Holds ns (ran plan acts (us ++ t ∷ [])).state) (sym goes.told)
        (subst (Holds (news_of d.note ∷ news (ran plan acts us).notes)) (sym goes.state) (keeps us t d is h))
