-- When a turn is idle, and that it changes nothing then.
use Rattle.std.proofs.Common.{◌≡◌, ℕ, ◌⊎◌, ◌&&◌, not, Bool, true, false, cond, Option, Some, None, refl, inl, inr, sym, ap, ◌∙◌}
use Rattle.std.specs.Prelude.{◌↔◌}
use Rattle.std.proofs.lemmas.Bool.{cond-false}
use Rattle.ras_device.specs.declared.act.Act.{Act}
use Rattle.board_plan.specs.declared.notes.Step.{Step}
use Rattle.board_plan.specs.declared.notes.Step.TheVariants.{Hart, Reporter}
use Rattle.board_plan.specs.declared.notes.StepNote.TheVariants as note
use Rattle.board_plan.specs.Step.{Stepped, hart_step, reporter_step, wants}
use Rattle.board_core.specs.Played.{Played, is_list, listed, note_of, state_of}
use Rattle.board_core.proofs.Early.{acted_not_idle, hart_not_idle}
use Rattle.board_lock.specs.Hand.{Hand, IsIdle, act_at_hand, board_after, hand_after, handed_act, moved, turn_note}
use Rattle.board_lock.specs.Trying.{is_step}
use Rattle.board_lock.proofs.Moving.{moves}
use Rattle.board_lock.proofs.Turning.{none_handed, turn_came, unwanted_none, wanted_acts}

hart_idle : (b : Played) (h : ℕ) (o : Option Stepped) → hart_step h b.plan (state_of b) ≡ o → note_of o ≡ note.Idle
    → o ≡ None
hart_idle b h None is idle = refl
hart_idle b h (Some d) is idle = absurd (hart_not_idle h b.plan (state_of b) d is idle)

-- a wanted reporter whose try is idle has no act
no_act : (b : Played) (r : ℕ) (a : Option Act) (o : Option Stepped) → reporter_step r b.plan a (state_of b) ≡ o
    → note_of o ≡ note.Idle → wants b.plan r (state_of b) ≡ true → a ≡ None
no_act b r None o is idle wanted = refl
no_act b r (Some a) None is idle wanted = absurd (wanted_acts r b.plan a (state_of b) wanted is)
no_act b r (Some a) (Some d) is idle wanted =
    absurd (acted_not_idle r b.plan (state_of b) (Some a) d is idle)

reporter_idle : (b : Played) (w : Hand) (r : ℕ) → turn_note (Reporter r) w b ≡ note.Idle → IsIdle (Reporter r) w b
reporter_idle b w r idle = go (wants b.plan r (state_of b)) refl
  where
    go : (q : Bool) → wants b.plan r (state_of b) ≡ q
        → (wants b.plan r (state_of b) ≡ false) ⊎ (handed_act w b r ≡ None)
    go true wanted =
        inr (no_act b r (handed_act w b r) (reporter_step r b.plan (handed_act w b r) (state_of b)) refl idle wanted)
    go false unwanted = inl unwanted

idle_reporter : (b : Played) (w : Hand) (r : ℕ) → IsIdle (Reporter r) w b → turn_note (Reporter r) w b ≡ note.Idle
idle_reporter b w r (inl unwanted) = ap note_of (unwanted_none r b.plan (handed_act w b r) (state_of b) unwanted)
idle_reporter b w r (inr none) =
    ap (λ a. note_of (reporter_step r b.plan a (state_of b))) none ∙ ap note_of (none_handed r b.plan (state_of b))

-- a turn is idle exactly where it says so
pub idle_is : (b : Played) (w : Hand) (t : Step) → (turn_note t w b ≡ note.Idle) ↔ IsIdle t w b
idle_is b w (Hart h) = (hart_idle b h (hart_step h b.plan (state_of b)) refl, λ none. ap note_of none)
idle_is b w (Reporter r) = (reporter_idle b w r, idle_reporter b w r)

-- then the board stays
pub idle_board : (b : Played) (w : Hand) (t : Step) → turn_note t w b ≡ note.Idle → board_after t w b ≡ b
idle_board b w t idle = (turn_came b w t).still (ap is_step idle)

-- and so does what is at hand
pub idle_hand : (b : Played) (w : Hand) (t : Step) → turn_note t w b ≡ note.Idle → hand_after t w b ≡ w
idle_hand b w (Hart h) idle = refl
idle_hand b w (Reporter r) idle = go (reporter_idle b w r idle)
  where
    kept : (q : Bool) → is_list b.plan r ≡ q → handed_act w b r ≡ None → cond (not q) (moved w) w ≡ w
    kept true list none = refl
    kept false device none =
        (moves w).none (sym (cond-false (is_list b.plan r) (listed b r) (act_at_hand w) device) ∙ none)

    go : (wants b.plan r (state_of b) ≡ false) ⊎ (handed_act w b r ≡ None) → hand_after (Reporter r) w b ≡ w
    go (inl unwanted) = ap (λ q. cond (q && not (is_list b.plan r)) (moved w) w) unwanted
    go (inr none) =
        either (wants b.plan r (state_of b)) (kept (is_list b.plan r) refl none)
      where
        either : (p : Bool) → cond (not (is_list b.plan r)) (moved w) w ≡ w
            → cond (p && not (is_list b.plan r)) (moved w) w ≡ w
        either true rest = rest
        either false rest = refl
