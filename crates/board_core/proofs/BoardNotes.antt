-- A board keeps the notes of its run by one step more.
use Rattle.std.proofs.Common.{◌≡◌, ℕ, ◌<◌, true, false, [], ◌∷◌, ◌++◌, map, length, Option, Some, None, refl, sym, ap, ◌∙◌, subst, arith, length-append}
use Rattle.std.proofs.lemmas.List.{length-map, map_push}
use Rattle.ras_device.specs.declared.act.Act.{Act}
use Rattle.board_plan.specs.declared.notes.Step.{Step}
use Rattle.board_plan.specs.declared.notes.Step.TheVariants.{Hart, Reporter}
use Rattle.board_plan.specs.declared.notes.StepNote.{StepNote}
use Rattle.board_plan.specs.declared.notes.StepNote.TheVariants as note
use Rattle.board_plan.specs.declared.plan.Plan.{Plan}
use Rattle.board_plan.specs.Notes.{has_text}
use Rattle.board_plan.specs.Plans.{IsPlan, most_steps}
use Rattle.board_plan.specs.Step.{Stepped, hart_step, reporter_step}
use Rattle.board_plan.specs.Run.{Noted, Ran}
use Rattle.board_core.specs.declared.board.Board.TheInside.{Inside}
use Rattle.board_core.specs.Noting.{IsBoard}
use Rattle.board_core.specs.Played.{AreListsReports, IsPlayed, Played, after_act, after_hart, after_hart_step, after_reporter, fresh, note_of, own_run, state_of, with_act, with_step}
use Rattle.board_core.proofs.Early.{acted_not_idle, hart_not_idle}
use Rattle.board_core.proofs.Going.{gone_on}
use Rattle.board_core.proofs.Keeping.{keeps_fresh}
use Rattle.board_core.proofs.Onward.{fresh_notes, no_act_idle}
use Rattle.board_core.proofs.Steps.{hart_goes_on, reporter_goes_on}

-- ---- A new board ----

pub fresh_board : (y : Inside) (plan : Plan) → IsPlan plan → AreListsReports plan → y.brief ≡ fresh plan
    → y.notes.items.items ≡ [] → y.notes.room ≡ most_steps y.brief.plan → IsBoard y
fresh_board y plan is_plan reports is notes room =
    record {
      played = subst IsPlayed (sym is) (keeps_fresh plan is_plan reports).played;
      notes_are = notes
          ∙ sym (ap (λ (b : Played). map (λ (n : Noted). n.note) (own_run b).notes) is
          ∙ ap (map (λ (n : Noted). n.note)) (fresh_notes plan));
      room = room;
    }

-- ---- No step ----

still_board : (x y : Inside) → IsBoard x → y.brief ≡ x.brief → y.notes ≡ x.notes → IsBoard y
still_board x y board brief notes =
    let same : x ≡ y = λ i. record { brief = sym brief i; notes = sym notes i } in subst IsBoard same board

hart_same : (h : ℕ) (b : Played) → note.Idle ≡ note_of (hart_step h b.plan (state_of b)) → after_hart h b ≡ b
hart_same h b idle = go (hart_step h b.plan (state_of b)) refl idle
  where
    go : (o : Option Stepped) → hart_step h b.plan (state_of b) ≡ o → note.Idle ≡ note_of o → after_hart_step h b o ≡ b
    go None is idle = refl
    go (Some d) is idle = absurd (hart_not_idle h b.plan (state_of b) d is (sym idle))

pub hart_idle : (x y : Inside) (h : ℕ) → IsBoard x → y.brief ≡ after_hart h x.brief → y.notes ≡ x.notes
    → note.Idle ≡ note_of (hart_step h x.brief.plan (state_of x.brief)) → IsBoard y
hart_idle x y h board next notes idle = still_board x y board (next ∙ hart_same h x.brief idle) notes

act_same : (r : ℕ) (a : Option Act) (b : Played) → note.Idle ≡ note_of (reporter_step r b.plan a (state_of b))
    → after_reporter r a b ≡ b
act_same r None b idle = refl
act_same r (Some a) b idle = go (reporter_step r b.plan (Some a) (state_of b)) refl idle
  where
    go : (o : Option Stepped) → reporter_step r b.plan (Some a) (state_of b) ≡ o → note.Idle ≡ note_of o
        → after_act r b (Some a) o ≡ b
    go None is idle = refl
    go (Some d) is idle = absurd (acted_not_idle r b.plan (state_of b) (Some a) d is (sym idle))

pub act_idle : (x y : Inside) (r : ℕ) (a : Option Act) → IsBoard x → y.brief ≡ after_reporter r a x.brief
    → y.notes ≡ x.notes → note.Idle ≡ note_of (reporter_step r x.brief.plan a (state_of x.brief)) → IsBoard y
act_idle x y r a board next notes idle = still_board x y board (next ∙ act_same r a x.brief idle) notes

-- ---- A step ----

-- a step was made, and this is its note
record Made (o : Option Stepped) (n : StepNote) : Type 0 where
  pub made : Stepped
  pub is : o ≡ Some made
  pub told : n ≡ made.note

-- what has a text was made
was_made : (o : Option Stepped) (n : StepNote) → n ≡ note_of o → has_text n ≡ true → Made o n
was_made None n told text = let no : false ≡ true = sym (ap (λ m. has_text m) told) ∙ text in absurd (cc)
was_made (Some d) n told text = record { made = d; is = refl; told = told }

-- one board is another after a step with this note
pub record WentOn (b c : Played) (n : StepNote) : Type 0 where
  pub by : Step
  pub made : Stepped
  pub plan : c.plan ≡ b.plan
  pub run : own_run c ≡ gone_on (own_run b) by made
  pub told : n ≡ made.note

pub hart_went : (h : ℕ) (b c : Played) (n : StepNote) → c ≡ after_hart h b
    → n ≡ note_of (hart_step h b.plan (state_of b)) → has_text n ≡ true → WentOn b c n
hart_went h b c n next told text =
    let d = was_made (hart_step h b.plan (state_of b)) n told text in
    let is : c ≡ with_step (Hart h) b = next ∙ ap (after_hart_step h b) d.is in
    record {
      by = Hart h;
      made = d.made;
      plan = ap (λ (x : Played). x.plan) is;
      run = ap (λ (x : Played). own_run x) is ∙ hart_goes_on h b d.made d.is;
      told = d.told;
    }

pub act_went : (r : ℕ) (a : Option Act) (b c : Played) (n : StepNote) → r < length b.plan.reporters → IsPlayed b
    → c ≡ after_reporter r a b → n ≡ note_of (reporter_step r b.plan a (state_of b)) → has_text n ≡ true
    → WentOn b c n
act_went r None b c n low played next told text =
    let no : false ≡ true =
    sym (ap (λ m. has_text m) (told ∙ sym (no_act_idle r b.plan (state_of b) None refl))) ∙ text in
    absurd (cc)
act_went r (Some a) b c n low played next told text =
    let there : r < length b.acts = omega (arith, low, played.reporters) in
    let d = was_made (reporter_step r b.plan (Some a) (state_of b)) n told text in
    let is : c ≡ with_step (Reporter r) (with_act r a b) = next ∙ ap (after_act r b (Some a)) d.is in
    record {
      by = Reporter r;
      made = d.made;
      plan = ap (λ (x : Played). x.plan) is;
      run = ap (λ (x : Played). own_run x) is
          ∙ reporter_goes_on r a b d.made there played.all_made (played.used r) d.is;
      told = d.told;
    }

-- there is room for one note more
pub has_place : (x : Inside) (c : Played) (n : StepNote) → IsBoard x → WentOn x.brief c n → IsPlayed c
    → length x.notes.items.items < x.notes.room
has_place x c n board went played =
    let ns = (own_run x.brief).notes in
    omega (
      arith,
      ap length board.notes_are,
      length-map ns (λ (m : Noted). m.note),
      ap (λ (r : Ran). length r.notes) went.run,
      length-append ns (record { by = went.by; note = went.made.note } ∷ []),
      length-map (own_run c).notes (λ (m : Noted). m.by),
      ap length played.all_made,
      played.few,
      ap most_steps went.plan,
      board.room,
    )

pub on_board : (x y : Inside) (n : StepNote) → IsBoard x → WentOn x.brief y.brief n → IsPlayed y.brief
    → y.notes.items.items ≡ x.notes.items.items ++ n ∷ [] → y.notes.room ≡ x.notes.room → IsBoard y
on_board x y n board went played items room =
    let it : Noted = record { by = went.by; note = went.made.note } in
    record {
      played = played;
      notes_are = items
          ∙ ap (λ (m : StepNote). x.notes.items.items ++ m ∷ []) went.told
          ∙ ap (λ ms. ms ++ went.made.note ∷ []) board.notes_are
          ∙ sym (ap (λ (r : Ran). map (λ (m : Noted). m.note) r.notes) went.run
          ∙ map_push (λ (m : Noted). m.note) (own_run x.brief).notes it);
      room = room ∙ board.room ∙ sym (ap most_steps went.plan);
    }
