-- In every run the histories that the notes tell are those of the banks, and the note of a step that comes next is one
-- that can.
use Rattle.std.proofs.Common.{◌≡◌, ◌⊎◌, ℕ, zero, suc, ◌<◌, ◌≤◌, ◌==◌, true, false, cond, List, [], ◌∷◌, ◌++◌, map, length, set, slice_get, Option, Some, None, refl, inl, inr, sym, ap, ◌∙◌, subst, append_assoc, arith}
use Rattle.std.specs.Option.{option_map}
use Rattle.std.proofs.lemmas.Bool.{cases_Bool, cases_eq, eqb-true, and_parts, true≢false}
use Rattle.std.proofs.lemmas.List.{length-map, length-set, reverse-append}
use Rattle.std.proofs.lemmas.Option.{none-some, same_Some, slice_get-map, slice_get_within, slice_get_past}
use Rattle.reri_fields.specs.declared.report.Report.{Report}
use Rattle.reri_fields.specs.Records.{Origin}
use Rattle.reri_fields.specs.Records.Event.{Reported}
use Rattle.reri_fields.specs.Outcome.{outcome}
use Rattle.reri_fields.specs.Banks.{events_of}
use Rattle.reri_fields.specs.Drain.{BankState, bank_start}
use Rattle.ras_device.specs.declared.act.Act.{Act}
use Rattle.board_plan.specs.declared.notes.Step.{Step}
use Rattle.board_plan.specs.declared.notes.StepNote.{StepNote}
use Rattle.board_plan.specs.declared.notes.StepNote.TheVariants as note
use Rattle.board_plan.specs.declared.plan.BankDecl.{BankDecl}
use Rattle.board_plan.specs.declared.plan.Plan.{Plan}
use Rattle.board_plan.specs.State.{BoardState, bank_plan, start_state}
use Rattle.board_plan.specs.Step.{Stepped, bank_note, hart_step, reporter_step, step}
use Rattle.board_plan.specs.Run.{Noted, state_after, noted, run, notes, ran}
use Rattle.board_plan.specs.Fates.{Deed, News, told, with_deed, deed_at, deeds_of, error_at, is_at, origin_in, news_of, news}
use Rattle.board_plan.specs.Fates.Deed.{Was}
use Rattle.board_plan.specs.Fates.News.{Errs, Other}
use Rattle.board_fates.specs.Tallied.{IsTrue, IsNext, answer_to}
use Rattle.board_fates.proofs.Steps.{AtBank, Touches, Goes, is_quiet, step_goes, hart_goes, reporter_goes}
use Rattle.board_fates.proofs.Steps.Touches.{quiet, strays, at}
use Rattle.board_fates.proofs.Histories.{becomes, told_here, told_elsewhere, note_true}

-- ---- Elements of a list that was written to ----

set_same : {X : Type 0} (xs : List X) (i : ℕ) (x : X) → i < length xs → slice_get (set xs i x) i ≡ Some x
set_same [] i x low = absurd (omega arith)
set_same (y ∷ xs) zero x low = refl
set_same (y ∷ xs) (suc i) x low = set_same xs i x (omega arith)

set_other : {X : Type 0} (xs : List X) (i j : ℕ) (x : X) → (j ≡ i → ⊥) → slice_get (set xs i x) j ≡ slice_get xs j
set_other [] i j x apart = refl
set_other (y ∷ xs) zero zero x apart = absurd (apart refl)
set_other (y ∷ xs) zero (suc j) x apart = refl
set_other (y ∷ xs) (suc i) zero x apart = refl
set_other (y ∷ xs) (suc i) (suc j) x apart = set_other xs i j x (λ same. apart (ap suc same))

past_end : {X : Type 0} (xs : List X) (i : ℕ) → slice_get xs i ≡ None → length xs ≤ i
past_end [] i h = omega arith
past_end (x ∷ xs) zero h = absurd (none-some x (sym h))
past_end (x ∷ xs) (suc i) h = omega (arith, past_end xs i h)

-- ---- What news tell of a state ----

-- they are as many as the steps that were made, and tell the history of each record of each bank
pub record Tells (plan : Plan) (ns : List News) (s : BoardState) : Type 0 where
  pub steps_are : s.steps ≡ length ns
  pub count : length s.banks ≡ length plan.banks
  pub told_is : (i rec : ℕ) (b : BankState) → slice_get s.banks i ≡ Some b
      → told (deeds_of i rec ns) ≡ events_of rec b.history

-- a note that says nothing of records
quiet_news : (n : StepNote) → is_quiet n ≡ true → news_of n ≡ Other
quiet_news (note.Error report logged) h = absurd (true≢false (sym h))
quiet_news (note.Claim bank rec) h = absurd (true≢false (sym h))
quiet_news (note.Check bank rec torn) h = absurd (true≢false (sym h))
quiet_news (note.Invalidate bank rec cleared) h = absurd (true≢false (sym h))
quiet_news n h = refl

quiet_true : (plan : Plan) (ns : List News) (n : StepNote) → is_quiet n ≡ true → IsTrue plan ns n
quiet_true plan ns (note.Error report logged) h = absurd (true≢false (sym h))
quiet_true plan ns (note.Claim bank rec) h = absurd (true≢false (sym h))
quiet_true plan ns (note.Check bank rec torn) h = absurd (true≢false (sym h))
quiet_true plan ns (note.Invalidate bank rec cleared) h = absurd (true≢false (sym h))
quiet_true plan ns n h = tt

other_told : (i rec : ℕ) (ns : List News) → told (deeds_of i rec (Other ∷ ns)) ≡ told (deeds_of i rec ns)
unfolding deed_at
other_told i rec ns = refl

-- what the state after a step owes
record TellsNext (plan : Plan) (ns : List News) (banks : List BankState) (n : StepNote) : Type 0 where
  count : length banks ≡ length plan.banks
  told_is : (i rec : ℕ) (b : BankState) → slice_get banks i ≡ Some b
      → told (deeds_of i rec (news_of n ∷ ns)) ≡ events_of rec b.history
  is_true : IsTrue plan ns n

quiet_next : (plan : Plan) (ns : List News) (s : BoardState) (banks : List BankState) (n : StepNote) → Tells plan ns s
    → is_quiet n ≡ true → banks ≡ s.banks → TellsNext plan ns banks n
quiet_next plan ns s banks n h off same =
    record {
      count = ap length same ∙ h.count;
      told_is = λ i rec b there.
          ap (λ m. told (deeds_of i rec (m ∷ ns))) (quiet_news n off) ∙ other_told i rec ns
          ∙ h.told_is i rec b (sym (ap (λ bs. slice_get bs i) same) ∙ there);
      is_true = quiet_true plan ns n off;
    }

-- ---- An error that is stray ----

stray_told : (i rec k : ℕ) (report : Report) (deeds : List Deed) → is_at i rec report.bank report.rec ≡ false
    → told (with_deed (deed_at i rec k (Errs report)) deeds) ≡ told deeds
unfolding deed_at
stray_told i rec k report deeds apart =
    ap (λ c. told (with_deed (cond c (Some (Was (Reported (error_at k report)))) None) deeds)) apart

no_answer : (plan : Plan) (ns : List News) (report : Report) → slice_get plan.banks report.bank ≡ None
    → None ≡ answer_to plan ns (error_at (suc (length ns)) report)
no_answer plan ns report nowhere =
    sym (ap (λ o. option_map (λ (origin : Origin). outcome origin (told (deeds_of report.bank report.rec ns))
    (error_at (suc (length ns)) report)) (origin_in report.bank report.rec plan o)) nowhere)

stray_next : (plan : Plan) (ns : List News) (s : BoardState) (banks : List BankState) (report : Report)
    → Tells plan ns s → banks ≡ s.banks
    → (slice_get plan.banks report.bank ≡ None) ⊎ (slice_get s.banks report.bank ≡ None)
    → TellsNext plan ns banks (note.Error report None)
stray_next plan ns s banks report h same missing =
    let past : length plan.banks ≤ report.bank = elim missing as (λ _. length plan.banks ≤ report.bank) [
      | inl plans ↦ past_end plan.banks report.bank plans
      | inr states ↦ omega (arith, past_end s.banks report.bank states, h.count)
    ] in
    record {
      count = ap length same ∙ h.count;
      told_is = λ i rec b there.
          let known = sym (ap (λ bs. slice_get bs i) same) ∙ there in
          let low = slice_get_within s.banks i b known in
          stray_told i rec (suc (length ns)) report (deeds_of i rec ns)
          (apart_from i rec report (omega (arith, low, h.count, past))) ∙ h.told_is i rec b known;
      is_true = no_answer plan ns report (slice_get_past plan.banks report.bank past);
    }
  where
    apart_from : (i rec : ℕ) (report : Report) → i < report.bank → is_at i rec report.bank report.rec ≡ false
    apart_from i rec report low =
        elim (cases_Bool (is_at i rec report.bank report.rec)) as (λ _. is_at i rec report.bank report.rec ≡ false) [
          | inl here ↦
              let b : report.bank ≡ i =
              eqb-true report.bank i (and_parts (report.bank == i) (report.rec == rec) here).0 in
              absurd (omega (arith, b, low))
          | inr apart ↦ apart
        ]

-- ---- A step of a bank ----

bank_next : (plan : Plan) (ns : List News) (s : BoardState) (banks : List BankState) (n : StepNote) → Tells plan ns s
    → AtBank plan s.steps s.banks banks n → TellsNext plan ns banks n
bank_next plan ns s banks n h a =
    let bp = bank_plan a.bank a.decl plan.recs in
    let low = slice_get_within s.banks a.bank a.state a.there in
    let so = becomes s.steps a.bank bp a.state a.come a.made a.makes a.fits in
    let m = bank_note a.bank a.decl a.events a.made.note in
    record {
      count = ap length a.after_is ∙ length-set s.banks a.bank a.made.state ∙ h.count;
      told_is = λ i rec b there.
          let known = sym (ap (λ bs. slice_get bs i) a.after_is) ∙ there in
          ap (λ x. told (deeds_of i rec (news_of x ∷ ns))) a.note_is
          ∙ elim (cases_eq a.bank i) as (λ _. told (deeds_of i rec (news_of m ∷ ns)) ≡ events_of rec b.history) [
            | inl here ↦
                let at_i = set_same s.banks a.bank a.made.state low in
                let is : a.made.state ≡ b = same_Some a.made.state b (sym at_i
                ∙ ap (slice_get (set s.banks a.bank a.made.state)) here ∙ known) in
                subst (λ j. told (deeds_of j rec (news_of m ∷ ns)) ≡ events_of rec b.history) here
                (subst (λ (y : BankState). told (deeds_of a.bank rec (news_of m ∷ ns)) ≡ events_of rec y.history) is
                (told_here s.steps a.bank a.decl a.events bp.origins a.state.history a.made.state.history a.made.note ns
                rec so h.steps_are (h.told_is a.bank rec a.state a.there)))
            | inr apart ↦
                told_elsewhere s.steps a.bank a.decl a.events bp.origins a.state.history a.made.state.history
                a.made.note ns i rec so apart
                ∙ h.told_is i rec b
                (sym (set_other s.banks a.bank i a.made.state (λ same. apart (sym same))) ∙ known)
          ];
      is_true = subst (IsTrue plan ns) (sym a.note_is)
          (note_true plan s.steps a.bank a.decl a.events a.state.history a.made.state.history a.made.note ns a.known so
          h.steps_are (λ rec. h.told_is a.bank rec a.state a.there));
    }

-- ---- Any step ----

touched_next : (plan : Plan) (ns : List News) (s : BoardState) (banks : List BankState) (n : StepNote)
    → Tells plan ns s → Touches plan s.steps s.banks banks n → TellsNext plan ns banks n
touched_next plan ns s banks n h (quiet off same) = quiet_next plan ns s banks n h off same
touched_next plan ns s banks n h (strays report is same missing) =
    subst (TellsNext plan ns banks) (sym is) (stray_next plan ns s banks report h same missing)
touched_next plan ns s banks n h (at a) = bank_next plan ns s banks n h a

goes_next : (plan : Plan) (ns : List News) (s : BoardState) (d : Stepped) → Tells plan ns s → Goes plan s d
    → TellsNext plan ns d.state.banks d.note
goes_next plan ns s d h goes = touched_next plan ns s d.state.banks d.note h goes.touches

step_tells : (plan : Plan) (ns : List News) (acts : ℕ → List Act) (t : Step) (s : BoardState) (d : Stepped)
    → Tells plan ns s → step plan acts t s ≡ Some d → Tells plan (news_of d.note ∷ ns) d.state
step_tells plan ns acts t s d h is =
    let goes = step_goes plan acts t s d is in
    let next = goes_next plan ns s d h goes in
    record {
      steps_are = goes.steps ∙ ap suc h.steps_are;
      count = next.count;
      told_is = next.told_is;
    }

-- ---- Runs ----

-- the news of notes that came after others
abbrev onto : List Noted → List News → List News
onto [] ns = ns
onto (n ∷ more) ns = onto more (news_of n.note ∷ ns)

onto_is : (more : List Noted) (ns : List News) → onto more ns ≡ news more ++ ns
onto_is [] ns = refl
onto_is (n ∷ more) ns =
    let first = news_of n.note in
    onto_is more (first ∷ ns)
    ∙ sym (append_assoc (news more) (first ∷ []) ns)
    ∙ sym (ap (λ xs. xs ++ ns) (reverse-append (first ∷ []) (map (λ (m : Noted). news_of m.note) more)))

run_tells : (plan : Plan) (acts : ℕ → List Act) (s : BoardState) (ts : List Step) (ns : List News) → Tells plan ns s
    → Tells plan (onto (notes plan acts s ts) ns) (run plan acts s ts)
run_tells plan acts s [] ns h = h
run_tells plan acts s (t ∷ ts) ns h =
    after plan acts s t ts ns (step plan acts t s) refl h (λ d ms k. run_tells plan acts d.state ts ms k)
    (run_tells plan acts s ts ns h)
  where
    after : (plan : Plan) (acts : ℕ → List Act) (s : BoardState) (t : Step) (ts : List Step) (ns : List News)
        (o : Option Stepped) → step plan acts t s ≡ o → Tells plan ns s
        → ((d : Stepped) (ms : List News) → Tells plan ms d.state
        → Tells plan (onto (notes plan acts d.state ts) ms) (run plan acts d.state ts))
        → Tells plan (onto (notes plan acts s ts) ns) (run plan acts s ts)
        → Tells plan (onto (noted t o (notes plan acts (state_after s o) ts)) ns) (run plan acts (state_after s o) ts)
    after plan acts s t ts ns None is h further stays = stays
    after plan acts s t ts ns (Some d) is h further stays =
        further d (news_of d.note ∷ ns) (step_tells plan ns acts t s d h is)

start_tells : (plan : Plan) → Tells plan [] (start_state plan)
unfolding events_of
start_tells plan =
    record {
      steps_are = refl;
      count = length-map plan.banks (λ (d : BankDecl). bank_start);
      told_is = λ i rec b there.
          ap (λ (x : BankState). events_of rec x.history)
          (fresh (slice_get plan.banks i) b (sym (slice_get-map (λ (d : BankDecl). bank_start) plan.banks i) ∙ there));
    }
  where
    fresh : (o : Option BankDecl) (b : BankState) → option_map (λ (d : BankDecl). bank_start) o ≡ Some b
        → bank_start ≡ b
    fresh None b h = absurd (none-some b h)
    fresh (Some d) b h = same_Some bank_start b h

append_none : (ns : List News) → ns ++ [] ≡ ns
append_none [] = refl
append_none (n ∷ ns) = ap (λ ms. n ∷ ms) (append_none ns)

-- in every run the notes tell the state
pub ran_tells : (plan : Plan) (acts : ℕ → List Act) (ts : List Step)
    → Tells plan (news (ran plan acts ts).notes) (ran plan acts ts).state
unfolding ran
ran_tells plan acts ts =
    subst (λ ms. Tells plan ms (ran plan acts ts).state)
    (onto_is (notes plan acts (start_state plan) ts) []
    ∙ append_none (news (notes plan acts (start_state plan) ts)))
    (run_tells plan acts (start_state plan) ts [] (start_tells plan))

-- ---- The note of a step that comes next ----

next_note : (plan : Plan) (acts : ℕ → List Act) (ts : List Step) (d : Stepped)
    → length (ran plan acts ts).notes ≤ 160000 → Goes plan (ran plan acts ts).state d
    → IsNext plan (ran plan acts ts).notes d.note
next_note plan acts ts d few goes =
    record {
      few = few;
      is_true = (goes_next plan (news (ran plan acts ts).notes) (ran plan acts ts).state d (ran_tells plan acts ts)
          goes).is_true;
    }

-- that of a try
pub is_next : (plan : Plan) (acts : ℕ → List Act) (ts : List Step) (t : Step) (d : Stepped)
    → length (ran plan acts ts).notes ≤ 160000 → step plan acts t (ran plan acts ts).state ≡ Some d
    → IsNext plan (ran plan acts ts).notes d.note
is_next plan acts ts t d few is = next_note plan acts ts d few (step_goes plan acts t (ran plan acts ts).state d is)

-- that of a hart
pub hart_is_next : (plan : Plan) (acts : ℕ → List Act) (ts : List Step) (h : ℕ) (d : Stepped)
    → length (ran plan acts ts).notes ≤ 160000 → hart_step h plan (ran plan acts ts).state ≡ Some d
    → IsNext plan (ran plan acts ts).notes d.note
hart_is_next plan acts ts h d few is = next_note plan acts ts d few (hart_goes plan h (ran plan acts ts).state d is)

-- that of a reporter, whatever act it is handed
pub reporter_is_next : (plan : Plan) (acts : ℕ → List Act) (ts : List Step) (r : ℕ) (o : Option Act) (d : Stepped)
    → length (ran plan acts ts).notes ≤ 160000 → reporter_step r plan o (ran plan acts ts).state ≡ Some d
    → IsNext plan (ran plan acts ts).notes d.note
reporter_is_next plan acts ts r o d few is =
    next_note plan acts ts d few (reporter_goes plan r (ran plan acts ts).state o d is)
