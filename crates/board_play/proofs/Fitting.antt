-- What is left of the devices goes on to fit what was played, whoever makes a try.
use Rattle.std.proofs.Common.{◌≡◌, ◌≢◌, ℕ, zero, suc, Bool, true, false, cond, List, [], ◌∷◌, drop, slice_get, Option, Some, None, refl, inl, inr, sym, ap, ◌∙◌, subst}
use Rattle.std.specs.Prelude.{slice_set, slice_index_or}
use Rattle.std.proofs.lemmas.Bool.{cases_eq, true≢false}
use Rattle.std.proofs.lemmas.List.{get_or-set_other}
use Rattle.std.proofs.lemmas.Option.{none-some, same_Some}
use Rattle.ras_device.specs.declared.act.Act.{Act}
use Rattle.board_plan.specs.declared.notes.Step.{Step}
use Rattle.board_plan.specs.declared.notes.Step.TheVariants.{Hart, Reporter}
use Rattle.board_plan.specs.declared.plan.Plan.{Plan}
use Rattle.board_plan.specs.State.{BoardState, ReporterState}
use Rattle.board_plan.specs.Step.{Stepped, acts_made, after_reporter, is_wanted, made_by, next_act, on_act, reporter_step, step, wants}
use Rattle.board_plan.specs.Run.{lists, state_after}
use Rattle.board_core.specs.Played.{Played, state_of}
use Rattle.board_plan.specs.Plans.{AreNamedOnce, named_by}
use Rattle.board_play.specs.Tried.{Fits, Tied, after_asked}
use Rattle.board_play.proofs.Wanting.{hart_rests, reporter_moves}

-- ---- Lists ----

-- the first that is left is the one behind those that are gone
pub first_left : (m : ℕ) (xs : List Act) → slice_get (drop m xs) 0 ≡ slice_get xs m
first_left zero xs = refl
first_left (suc m) [] = refl
first_left (suc m) (x ∷ xs) = first_left m xs

-- and behind it is what is left of one more
one_less : (m : ℕ) (xs : List Act) → drop 1 (drop m xs) ≡ drop (suc m) xs
one_less zero [] = refl
one_less zero (x ∷ xs) = refl
one_less (suc m) [] = refl
one_less (suc m) (x ∷ xs) = one_less m xs

nothing_left : (xs : List Act) → slice_get xs 0 ≡ None → drop 1 xs ≡ xs
nothing_left [] e = refl
nothing_left (x ∷ xs) e = absurd (none-some x (sym e))

-- what was set at a place stands there; where there is no such place nothing stands
set_stands : (f : List Act → List Act) → f [] ≡ [] → (left : List (List Act)) (k : ℕ)
    → slice_index_or (slice_set left k (f (slice_index_or left k []))) k [] ≡ f (slice_index_or left k [])
set_stands f none [] k = sym none
set_stands f none (xs ∷ left) zero = refl
set_stands f none (xs ∷ left) (suc k) = set_stands f none left k

none_asked : (wanted : Bool) → after_asked wanted [] ≡ []
none_asked true = refl
none_asked false = refl

-- ---- A reporter that is as it was ----

same_tied : (plan : Plan) (acts : ℕ → List Act) (s u : BoardState) (left : List (List Act)) (r k : ℕ)
    → Tied plan acts s left → named_by (slice_get plan.reporters r) ≡ Some k
    → slice_get u.reporters r ≡ slice_get s.reporters r → wants plan r u ≡ true
    → slice_index_or left k [] ≡ drop (acts_made r u) (acts r)
unfolding wants
same_tied plan acts s u left r k tied named same wanted =
    tied r k named (ap (is_wanted (slice_get plan.reporters r)) (sym same) ∙ wanted)
    ∙ ap (λ (o : Option ReporterState). drop (made_by o) (acts r)) (sym same)

-- ---- A hart's try ----

hart_tied : (plan : Plan) (acts : ℕ → List Act) (h : ℕ) (s : BoardState) (left : List (List Act)) (o : Option Stepped)
    → step plan acts (Hart h) s ≡ o → Tied plan acts s left → Tied plan acts (state_after s o) left
hart_tied plan acts h s left None is tied r k named wanted = tied r k named wanted
hart_tied plan acts h s left (Some d) is tied r k named wanted =
    same_tied plan acts s d.state left r k tied named (hart_rests plan acts h r s d is wanted) wanted

-- the same of a board
pub fits_after : (devices : List (List Act)) (b c : Played) (t : Step) (left rest : List (List Act))
    → c.plan ≡ b.plan
    → state_of c ≡ state_after (state_of b) (step b.plan (lists b.plan devices) t (state_of b))
    → AreNamedOnce b.plan.reporters
    → Tied b.plan (lists b.plan devices) (state_after (state_of b)
    (step b.plan (lists b.plan devices) t (state_of b))) rest → Fits devices c rest
fits_after devices b c t left rest plan state once tied =
    record {
      once = subst (λ (p : Plan). AreNamedOnce p.reporters) (sym plan) once;
      tied = subst (λ (p : Plan). Tied p (lists p devices) (state_of c) rest) (sym plan)
          (subst (λ (s : BoardState). Tied b.plan (lists b.plan devices) s rest) (sym state) tied);
    }

pub hart_fits : (devices : List (List Act)) (b c : Played) (h : ℕ) (left : List (List Act)) → c.plan ≡ b.plan
    → state_of c ≡ state_after (state_of b) (step b.plan (lists b.plan devices) (Hart h) (state_of b))
    → Fits devices b left → Fits devices c left
hart_fits devices b c h left plan state fits =
    fits_after devices b c (Hart h) left left plan state fits.once
    (hart_tied b.plan (lists b.plan devices) h (state_of b) left
    (step b.plan (lists b.plan devices) (Hart h) (state_of b)) refl fits.tied)

-- ---- A reporter's try ----

-- of the others
other_tied : (plan : Plan) (acts : ℕ → List Act) (r : ℕ) (s : BoardState) (left : List (List Act)) (o : Option Stepped)
    → step plan acts (Reporter r) s ≡ o → Tied plan acts s left → (q k : ℕ) → q ≢ r
    → named_by (slice_get plan.reporters q) ≡ Some k → wants plan q (state_after s o) ≡ true
    → slice_index_or left k [] ≡ drop (acts_made q (state_after s o)) (acts q)
other_tied plan acts r s left None is tied q k other named wanted = tied q k named wanted
other_tied plan acts r s left (Some d) is tied q k other named wanted =
    same_tied plan acts s d.state left q k tied named ((reporter_moves plan acts r s d is).others q other) wanted

-- a reporter whose acts are listed: all others are as they were, and it names no device
pub listed_tied : (plan : Plan) (acts : ℕ → List Act) (r : ℕ) (s : BoardState) (left : List (List Act))
    → named_by (slice_get plan.reporters r) ≡ None → Tied plan acts s left
    → Tied plan acts (state_after s (step plan acts (Reporter r) s)) left
listed_tied plan acts r s left none tied q k named wanted =
    elim (cases_eq q r) as (λ _. slice_index_or left k []
    ≡ drop (acts_made q (state_after s (step plan acts (Reporter r) s))) (acts q)) [
      | inl same ↦
          absurd (none-some k
          (sym none ∙ ap (λ i. named_by (slice_get plan.reporters i)) (sym same) ∙ named))
      | inr other ↦ other_tied plan acts r s left (step plan acts (Reporter r) s) refl tied q k other named wanted
    ]

-- one that is wanted and makes no step has no act
no_act : (plan : Plan) (r : ℕ) (s : BoardState) (a : Option Act) → wants plan r s ≡ true
    → reporter_step r plan a s ≡ None → a ≡ None
unfolding reporter_step
no_act plan r s None was is = refl
no_act plan r s (Some a) was is =
    let made : Stepped = after_reporter r s (on_act plan s a) in
    absurd (none-some made (sym is ∙ ap (λ q. cond q (Some made) None) was))

-- its device, by whether it was wanted and made a step
own_left : (plan : Plan) (acts : ℕ → List Act) (r k : ℕ) (s : BoardState) (left : List (List Act)) (w : Bool)
    (o : Option Stepped) → wants plan r s ≡ w → step plan acts (Reporter r) s ≡ o
    → named_by (slice_get plan.reporters r) ≡ Some k → Tied plan acts s left
    → wants plan r (state_after s o) ≡ true
    → after_asked w (slice_index_or left k []) ≡ drop (acts_made r (state_after s o)) (acts r)
unfolding step
own_left plan acts r k s left false None was is named tied wanted = absurd (true≢false (sym wanted ∙ was))
own_left plan acts r k s left false (Some d) was is named tied wanted =
    absurd (true≢false (sym (reporter_moves plan acts r s d is).wanted ∙ was))
own_left plan acts r k s left true None was is named tied wanted =
    let all = tied r k named was in
    ap (drop 1) all ∙ nothing_left (drop (acts_made r s) (acts r))
    (first_left (acts_made r s) (acts r) ∙ no_act plan r s (next_act acts r s) was is)
own_left plan acts r k s left true (Some d) was is named tied wanted =
    let more = reporter_moves plan acts r s d is in
    let many : acts_made r d.state ≡ suc (acts_made r s) =
    ap made_by more.now ∙ ap (λ o. suc (made_by o)) (sym more.there) in
    ap (drop 1) (tied r k named was) ∙ one_less (acts_made r s) (acts r)
    ∙ ap (λ m. drop m (acts r)) (sym many)

-- a reporter that names a device, which is asked
pub asked_tied : (plan : Plan) (acts : ℕ → List Act) (r k : ℕ) (s : BoardState) (left : List (List Act))
    → AreNamedOnce plan.reporters → named_by (slice_get plan.reporters r) ≡ Some k → Tied plan acts s left
    → Tied plan acts (state_after s (step plan acts (Reporter r) s))
    (slice_set left k (after_asked (wants plan r s) (slice_index_or left k [])))
asked_tied plan acts r k s left once names tied q j named wanted =
    let o = step plan acts (Reporter r) s in
    let now = after_asked (wants plan r s) (slice_index_or left k []) in
    elim (cases_eq q r) as (λ _. slice_index_or (slice_set left k now) j []
    ≡ drop (acts_made q (state_after s o)) (acts q)) [
      | inl same ↦
          let place : j ≡ k = same_Some j k
          (sym named ∙ ap (λ i. named_by (slice_get plan.reporters i)) same ∙ names) in
          ap (λ i. slice_index_or (slice_set left k now) i []) place
          ∙ set_stands (after_asked (wants plan r s)) (none_asked (wants plan r s)) left k
          ∙ own_left plan acts r k s left (wants plan r s) o refl refl names tied
          (ap (λ i. wants plan i (state_after s o)) (sym same) ∙ wanted)
          ∙ ap (λ i. drop (acts_made i (state_after s o)) (acts i)) (sym same)
      | inr other ↦
          get_or-set_other left k j now [] (λ e.
          other (once q r k (named ∙ ap Some e) names))
          ∙ other_tied plan acts r s left o refl tied q j other named wanted
    ]
