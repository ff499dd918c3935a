-- What a watcher is told of a board's steps, one after another.
use Rattle.std.proofs.Common.{◌≡◌, ℕ, ◌<◌, Bool, true, false, List, [], ◌∷◌, ◌++◌, length, Option, Some, None, refl, sym, ap, ◌∙◌, subst, append_assoc, append-nil, arith}
use Rattle.std.proofs.lemmas.Bool.{true≢false}
use Rattle.std.proofs.lemmas.Option.{none-some}
use Rattle.ras_device.specs.declared.act.Act.{Act}
use Rattle.board_plan.specs.declared.notes.Step.{Step}
use Rattle.board_plan.specs.declared.notes.Step.TheVariants.{Hart, Reporter}
use Rattle.board_plan.specs.declared.notes.StepNote.{StepNote}
use Rattle.board_plan.specs.declared.notes.StepNote.TheVariants as note
use Rattle.board_plan.specs.declared.plan.Plan.{Plan}
use Rattle.board_plan.specs.Notes.{has_text}
use Rattle.board_plan.specs.Step.{Stepped, hart_step, reporter_step}
use Rattle.board_plan.specs.Run.{Noted, Ran, ran}
use Rattle.board_core.specs.Played.{Played, IsPlayed, after_act, after_hart, after_hart_step, after_reporter, fresh, note_if, note_of, own_run, state_of, with_act, with_step}
use Rattle.board_core.specs.Watched.{ToldAll}
use Rattle.board_core.proofs.Early.{hart_not_idle, acted_not_idle}
use Rattle.board_core.proofs.Going.{gone_on}
use Rattle.board_core.proofs.Steps.{hart_goes_on, reporter_goes_on}
use Rattle.board_play.specs.Tried.{Tells, TellsIf, is_step}

-- ---- Steps one after another ----

told-append : {W : Type 0} (told : W → Noted → W → Type 0) (xs ys : List Noted) (w u v : W) → ToldAll told xs w u
    → ToldAll told ys u v → ToldAll told (xs ++ ys) w v
told-append told [] ys w u v p q = subst (λ x. ToldAll told ys x v) (sym p) q
told-append told (n ∷ xs) ys w u v p q = (p.0, p.1, told-append told xs ys p.0 u v p.2 q)

-- no step
pub tells-nil : {W : Type 0} (told : W → Noted → W → Type 0) (b : Played) (w : W) → Tells told b b w w
tells-nil told b w = record { made = []; notes = sym (append-nil (own_run b).notes); told_all = refl }

-- some steps, and then others
pub tells-then : {W : Type 0} (told : W → Noted → W → Type 0) (b c d : Played) (w u v : W) → Tells told b c w u
    → Tells told c d u v → Tells told b d w v
tells-then told b c d w u v x y =
    record {
      made = x.made ++ y.made;
      notes = y.notes ∙ ap (λ (ns : List Noted). ns ++ y.made) x.notes ∙ append_assoc (own_run b).notes x.made y.made;
      told_all = told-append told x.made y.made w u v x.told_all y.told_all;
    }

-- ---- One try ----

-- a note with a text is that of a step
text-step : (n : StepNote) → has_text n ≡ true → true ≡ is_step n
text-step note.Idle text = absurd (true≢false (sym text))
text-step n text = refl

-- a step was made where its note says so
pub made-step : (made : Bool) (n : StepNote) → (made ≡ true → has_text n ≡ true) → made ≡ is_step (note_if made n)
made-step false n text = refl
made-step true n text = text-step n (text refl)

-- no step was made: nothing is told
idle-tells : {W : Type 0} (told : W → Noted → W → Type 0) (b : Played) (t : Step) (made : Bool) (n : StepNote) (w v : W)
    → note_if made n ≡ note.Idle → (made ≡ true → has_text n ≡ true)
    → TellsIf told made (record { by = t; note = n }) w v → Tells told b b w v
idle-tells told b t false n w v idle text tells = subst (λ x. Tells told b b w x) (sym tells) (tells-nil told b w)
idle-tells told b t true n w v idle text tells = absurd (true≢false (sym (text refl) ∙ ap has_text idle))

-- a step was made: it is told
busy-tells : {W : Type 0} (told : W → Noted → W → Type 0) (b c : Played) (t : Step) (d : Stepped) (made : Bool)
    (n : StepNote) (w v : W) → own_run c ≡ gone_on (own_run b) t d → (d.note ≡ note.Idle → ⊥)
    → note_if made n ≡ d.note → TellsIf told made (record { by = t; note = n }) w v → Tells told b c w v
busy-tells told b c t d false n w v goes busy told_note tells = absurd (busy (sym told_note))
busy-tells told b c t d true n w v goes busy told_note tells =
    record {
      made = record { by = t; note = n } ∷ [];
      notes = ap (λ (r : Ran). r.notes) goes
          ∙ ap (λ (x : StepNote). (own_run b).notes ++ record { by = t; note = x } ∷ []) (sym told_note);
      told_all = (v, tells, refl);
    }

pub hart-tells : {W : Type 0} (told : W → Noted → W → Type 0) (b : Played) (h : ℕ) (c : Played) (made : Bool)
    (n : StepNote) (w v : W) → c ≡ after_hart h b → note_if made n ≡ note_of (hart_step h b.plan (state_of b))
    → (made ≡ true → has_text n ≡ true) → TellsIf told made (record { by = Hart h; note = n }) w v
    → Tells told b c w v
hart-tells told b h c made n w v next told_note text tells =
    subst (λ (x : Played). Tells told b x w v) (sym next)
    (go (hart_step h b.plan (state_of b)) refl told_note)
  where
    go : (o : Option Stepped) → hart_step h b.plan (state_of b) ≡ o → note_if made n ≡ note_of o
        → Tells told b (after_hart_step h b o) w v
    go None is told_note = idle-tells told b (Hart h) made n w v told_note text tells
    go (Some d) is told_note =
        busy-tells told b (with_step (Hart h) b) (Hart h) d made n w v (hart_goes_on h b d is)
        (hart_not_idle h b.plan (state_of b) d is) told_note tells

pub reporter-tells : {W : Type 0} (told : W → Noted → W → Type 0) (b : Played) (r : ℕ) (a : Option Act) (c : Played)
    (made : Bool) (n : StepNote) (w v : W) → IsPlayed b → r < length b.plan.reporters → c ≡ after_reporter r a b
    → note_if made n ≡ note_of (reporter_step r b.plan a (state_of b)) → (made ≡ true → has_text n ≡ true)
    → TellsIf told made (record { by = Reporter r; note = n }) w v → Tells told b c w v
unfolding reporter_step
reporter-tells told b r a c made n w v played there next told_note text tells =
    subst (λ (x : Played). Tells told b x w v) (sym next)
    (go a (reporter_step r b.plan a (state_of b)) refl told_note)
  where
    go : (a : Option Act) (o : Option Stepped) → reporter_step r b.plan a (state_of b) ≡ o
        → note_if made n ≡ note_of o → Tells told b (after_act r b a o) w v
    go None None is told_note = idle-tells told b (Reporter r) made n w v told_note text tells
    go None (Some d) is told_note = absurd (none-some d is)
    go (Some a) None is told_note = idle-tells told b (Reporter r) made n w v told_note text tells
    go (Some a) (Some d) is told_note =
        busy-tells told b (with_step (Reporter r) (with_act r a b)) (Reporter r) d made n w v
        (reporter_goes_on r a b d (omega (arith, there, played.reporters)) played.all_made (played.used r) is)
        (acted_not_idle r b.plan (state_of b) (Some a) d is) told_note tells

-- ---- A whole run ----

-- the watcher of a board that was played from its first step on was told of its whole run
pub told-run : {W : Type 0} (told : W → Noted → W → Type 0) (plan : Plan) (b c d : Played) (w v u : W) → b ≡ fresh plan
    → Tells told b c w v → d ≡ c → u ≡ v → ToldAll told (own_run d).notes w u
unfolding ran
told-run told plan b c d w v u is tells last same =
    let none : (own_run b).notes ≡ [] = ap (λ (x : Played). (own_run x).notes) is in
    subst (λ x. ToldAll told (own_run d).notes w x) (sym same)
    (subst (λ (ns : List Noted). ToldAll told ns w v)
    (sym (ap (λ (x : Played). (own_run x).notes) last ∙ tells.notes ∙ ap (λ (ns : List Noted). ns ++ tells.made) none))
    tells.told_all)
