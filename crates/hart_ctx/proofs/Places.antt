-- Handlers by their instance, in the values that are kept and in the view.
use Rattle.std.proofs.Common.{◌≡◌, ℕ, suc, ◌<◌, ◌≤◌, ◌/◌, ◌%◌, nat_lt, true, false, List, [], ◌∷◌, length, get_or, set, refl, ap, sym, ◌∙◌, arith, inl, inr}
use Rattle.std.proofs.lemmas.Bool.{cases_Bool}
use Rattle.std.specs.Prelude.{Some, None}
use Rattle.sse_base.specs.declared.ids.Instance.{Instance}
use Rattle.sse_base.specs.Ids.{same_instance}
use Rattle.sse_base.specs.Contexts.{Frame, Triple, Under, has_frame, interrupted, kept_by, changed_below, changed_own, on_top, over, flags_of}
use Rattle.sse_base.specs.Calls.{with_interrupted, with_interrupted_triple, with_interrupted_words, word_for}
use Rattle.hart_ctx.specs.declared.regs.Regs.{Regs}
use Rattle.hart_ctx.specs.declared.kept.Kept.{Kept}
use Rattle.hart_ctx.specs.Registers.{triple_in, live_of}
use Rattle.hart_ctx.specs.Levels.{triple_kept, frames_from, base_from, frame_of, stack_of, kept_place, saved_with}
use Rattle.hart_ctx.specs.Running.{word_of}
use Rattle.hart_ctx.proofs.Frames.{flags_again, below_frames, with_below_frames, under_from}

pub kept_at_most : (at : Instance) (ks : List Kept) → kept_place at ks ≤ length ks
kept_at_most at [] = omega arith
kept_at_most at (k ∷ ks) = grind (arith, kept_at_most at ks)

pub has_kept : (at : Instance) (t : Triple) (ks : List Kept) → has_frame at (frames_from t ks)
    ≡ nat_lt (kept_place at ks) (length ks)
has_kept at t [] = refl
has_kept at t (k ∷ ks) = grind (arith, has_kept at (triple_kept k.saved) ks)

-- what an INTERRUPTED attribute reads, where a handler of the instance runs, and where none does
reads_first : (attr : ℕ) (t : Triple) (k : Kept) → kept_by attr (frame_of t k).saved (triple_kept k.saved)
    ≡ word_of attr k.saved
reads_first attr t k =
    let e : flags_of (triple_kept k.saved) ≡ k.saved.flags = flags_again k.saved.flags k.flags_fit
    in rw e refl

pub reads_kept : (attr : ℕ) (at : Instance) (t : Triple) (ks : List Kept) (k : Kept) → kept_place at ks < length ks →
    k ≡ get_or ks (kept_place at ks) k → interrupted attr at (frames_from t ks) (base_from t ks)
    ≡ Some (word_of attr k.saved)
reads_kept attr at t [] k l h = absurd (omega arith)
reads_kept attr at t (j ∷ ks) k l h =
    grind (
      arith,
      reads_kept attr at (triple_kept j.saved) ks k,
      reads_first attr t j,
      below_frames (triple_kept j.saved) ks,
    )

pub reads_none : (attr : ℕ) (at : Instance) (t : Triple) (ks : List Kept) → length ks ≤ kept_place at ks →
    interrupted attr at (frames_from t ks) (base_from t ks) ≡ None
reads_none attr at t [] l = refl
reads_none attr at t (j ∷ ks) l = grind (arith, reads_none attr at (triple_kept j.saved) ks)

-- both changes of a write, on the handlers alone
abbrev both : ℕ → List ℕ → Instance → List Frame → Triple → Under
both base words at fs b =
    record {
      frames = changed_own at (with_interrupted_words base words)
          (changed_below at (with_interrupted_triple base words) fs b).frames;
      base = (changed_below at (with_interrupted_triple base words) fs b).base;
    }

low_flag : (n : ℕ) → n % 4 % 2 ≡ n % 2
low_flag n = omega arith

high_flag : (n : ℕ) → n % 4 / 2 % 2 ≡ n / 2 % 2
high_flag n = omega arith

writes_first : (base : ℕ) (words : List ℕ) (k : Kept) →
    with_interrupted_triple base words (triple_kept k.saved) ≡ triple_kept (saved_with base words k.saved)
writes_first base words k =
    let e : flags_of (triple_kept k.saved) ≡ k.saved.flags = flags_again k.saved.flags k.flags_fit
    in rw (e, low_flag (word_for 7 base words k.saved.flags), high_flag (word_for 7 base words k.saved.flags)) refl

-- the newest handler is the one
writes_here : (base : ℕ) (words : List ℕ) (at : Instance) (t : Triple) (k new : Kept) (ks : List Kept) →
    same_instance k.at at ≡ true → new.at ≡ k.at → new.saved ≡ saved_with base words k.saved →
    both base words at (frames_from t (k ∷ ks)) (base_from t (k ∷ ks)) ≡ under_from t (new ∷ ks)
writes_here base words at t k new ks s a w =
    rw (
      s,
      below_frames (triple_kept k.saved) ks,
      writes_first base words k,
      with_below_frames (triple_kept k.saved) (triple_kept (saved_with base words k.saved)) ks,
      s,
      a,
      w,
    )
    refl

-- it is another one
writes_there : (base : ℕ) (words : List ℕ) (at : Instance) (f : Frame) (fs : List Frame) (b : Triple) →
    same_instance f.at at ≡ false → both base words at (f ∷ fs) b ≡ on_top f (both base words at fs b)
writes_there base words at f fs b s = rw (s, s) refl

pub writes_kept : (base : ℕ) (words : List ℕ) (at : Instance) (t : Triple) (ks : List Kept) (k new : Kept) →
    kept_place at ks < length ks → k ≡ get_or ks (kept_place at ks) k → new.at ≡ k.at
    → new.saved ≡ saved_with base words k.saved →
    both base words at (frames_from t ks) (base_from t ks) ≡ under_from t (set ks (kept_place at ks) new)
writes_kept base words at t [] k new l h a w = absurd (omega arith)
writes_kept base words at t (j ∷ ks) k new l h a w =
    elim (cases_Bool (same_instance j.at at)) [
      | inl s ↦
          let e : kept_place at (j ∷ ks) ≡ 0 = rw s refl
          in let g : k ≡ j = rw s at h
          in writes_here base words at t j new ks s (a ∙ ap (λ x. x.at) g) (w
          ∙ ap (λ (x : Kept). saved_with base words x.saved) g)
          ∙ ap (λ i. under_from t (set (j ∷ ks) i new)) (sym e)
      | inr f ↦
          let e : kept_place at (j ∷ ks) ≡ suc (kept_place at ks) = rw f refl
          in let m : kept_place at ks < length ks = omega (arith, e)
          in let g : k ≡ get_or ks (kept_place at ks) k = rw f at h
          in writes_there base words at (frame_of t j) (frames_from (triple_kept j.saved) ks)
          (base_from (triple_kept j.saved) ks) f
          ∙ ap (on_top (frame_of t j)) (writes_kept base words at (triple_kept j.saved) ks k new m g a w)
          ∙ ap (λ i. under_from t (set (j ∷ ks) i new)) (sym e)
    ]

pub writes_none : (base : ℕ) (words : List ℕ) (at : Instance) (t : Triple) (ks : List Kept)
    → length ks ≤ kept_place at ks →
    both base words at (frames_from t ks) (base_from t ks) ≡ under_from t ks
writes_none base words at t [] l = refl
writes_none base words at t (j ∷ ks) l =
    elim (cases_Bool (same_instance j.at at)) [
      | inl s ↦
          let e : kept_place at (j ∷ ks) ≡ 0 = rw s refl
          in absurd (omega (arith, e))
      | inr f ↦
          let e : kept_place at (j ∷ ks) ≡ suc (kept_place at ks) = rw f refl
          in let m : length ks ≤ kept_place at ks = omega (arith, e)
          in writes_there base words at (frame_of t j) (frames_from (triple_kept j.saved) ks)
          (base_from (triple_kept j.saved) ks) f
          ∙ ap (on_top (frame_of t j)) (writes_none base words at (triple_kept j.saved) ks m)
    ]

-- a write to one of the kept values, and a write that finds none
pub write_at_place : (base : ℕ) (words : List ℕ) (at : Instance) (r : Regs) (ks : List Kept) (k new : Kept) →
    kept_place at ks < length ks → k ≡ get_or ks (kept_place at ks) k → new.at ≡ k.at
    → new.saved ≡ saved_with base words k.saved →
    stack_of r (set ks (kept_place at ks) new) ≡ with_interrupted base words at (stack_of r ks)
write_at_place base words at r ks k new l h a w =
    ap (over (live_of r)) (sym (writes_kept base words at (triple_in r) ks k new l h a w))

pub write_nowhere : (base : ℕ) (words : List ℕ) (at : Instance) (r : Regs) (ks : List Kept)
    → length ks ≤ kept_place at ks →
    stack_of r ks ≡ with_interrupted base words at (stack_of r ks)
write_nowhere base words at r ks l = ap (over (live_of r)) (sym (writes_none base words at (triple_in r) ks l))

-- words that are written to the handler of an event, where it is kept
pub ruleset writes = (write_at_place, write_nowhere, kept_at_most)
