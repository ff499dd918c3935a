-- What the view of a hart keeps of the values that its handlers keep.
use Rattle.std.proofs.Common.{◌≡◌, ℕ, zero, suc, ◌+◌, ◌-◌, ◌<◌, ◌≤◌, ◌*◌, ◌/◌, ◌%◌, ◌==◌, Bool, true, false, List, [], ◌∷◌, ◌++◌, length, get_or, refl, ap, sym, ◌∙◌, arith, length-append}
use Rattle.std.specs.Prelude.{Some, slice_get}
use Rattle.std.proofs.Math.ListN.{get_or-append}
use Rattle.std.proofs.Math.Seq.{get_or-append_seam}
use Rattle.std.proofs.lemmas.Option.{slice_get-get_or}
use Rattle.sse_base.specs.declared.ids.Instance.{Instance}
use Rattle.sse_base.specs.Contexts.{Triple, Under, bit, privilege_bit, privilege_at, flags_of, below, with_below}
use Rattle.hart_ctx.specs.declared.regs.Regs.{Regs}
use Rattle.hart_ctx.specs.declared.regs.Saved.{Saved}
use Rattle.hart_ctx.specs.declared.kept.Kept.{Kept}
use Rattle.hart_ctx.specs.Registers.{is_supervisor, regs_of, with_regs, triple_in}
use Rattle.hart_ctx.specs.Levels.{triple_kept, frames_from, base_from, frame_of, stack_of}
use Rattle.hart_ctx.specs.Running.{running_in, told_by}

-- as many handlers as kept values
pub frames_length : (t : Triple) (ks : List Kept) → length (frames_from t ks) ≡ length ks
frames_length t [] = refl
frames_length t (k ∷ ks) = ap suc (frames_length (triple_kept k.saved) ks)

-- two flags, taken apart and put together
pub flags_again : (n : ℕ) → n ≤ 3 → privilege_bit (privilege_at (n % 2 == 1)) + 2 * bit (n / 2 % 2 == 1) ≡ n
flags_again zero h = refl
flags_again (suc zero) h = refl
flags_again (suc (suc zero)) h = refl
flags_again (suc (suc (suc zero))) h = refl
flags_again (suc (suc (suc (suc n)))) h = absurd (omega arith)

-- the triple right below all handlers is the one that was handed down
pub below_frames : (t : Triple) (ks : List Kept) → below (frames_from t ks) (base_from t ks) ≡ t
below_frames t [] = refl
below_frames t (k ∷ ks) = refl

abbrev pub under_from : Triple → List Kept → Under
under_from t ks = record { frames = frames_from t ks; base = base_from t ks }

pub with_below_frames : (t u : Triple) (ks : List Kept) → with_below u (frames_from t ks) (base_from t ks)
    ≡ under_from u ks
with_below_frames t u [] = refl
with_below_frames t u (k ∷ ks) = refl

-- what a kept value tells of its handler
pub told_again : (t : Triple) (k : Kept) → told_by (frame_of t k) (triple_kept k.saved) ≡ (k.at, k.saved)
told_again t k = let e : flags_of (triple_kept k.saved) ≡ k.saved.flags = flags_again k.saved.flags k.flags_fit
    in rw e refl

pub told_first : (t : Triple) (k : Kept) (ks : List Kept) →
    told_by (frame_of t k) (below (frames_from (triple_kept k.saved) ks) (base_from (triple_kept k.saved) ks))
    ≡ (k.at, k.saved)
told_first t k ks = rw (below_frames (triple_kept k.saved) ks) (told_again t k)

-- The handlers from the oldest on.

abbrev pair_of : Kept → Instance × Saved
pair_of k = (k.at, k.saved)

abbrev pairs : List Kept → List (Instance × Saved)
pairs [] = []
pairs (k ∷ ks) = pairs ks ++ pair_of k ∷ []

running_pairs : (t : Triple) (ks : List Kept) → running_in (frames_from t ks) (base_from t ks) ≡ pairs ks
running_pairs t [] = refl
running_pairs t (k ∷ ks) = rw (running_pairs (triple_kept k.saved) ks, told_first t k ks) refl

pairs_length : (ks : List Kept) → length (pairs ks) ≡ length ks
pairs_length [] = refl
pairs_length (k ∷ ks) = omega (arith, length-append (pairs ks) (pair_of k ∷ []), pairs_length ks)

-- a pair stands as far from the front as its kept value does from the end
pair_at : (ks : List Kept) (m j : ℕ) (x : Kept) → m + suc j ≡ length ks → x ≡ get_or ks m x
    → get_or (pairs ks) j (pair_of x) ≡ pair_of x
pair_at [] m j x p h = absurd (omega arith)
pair_at (k ∷ ks) zero j x p h =
    let e : j ≡ length (pairs ks) = omega (arith, pairs_length ks)
    in rw (e, get_or-append_seam (pairs ks) (pair_of k) [] (pair_of x)) (ap pair_of (sym h))
pair_at (k ∷ ks) (suc m) j x p h =
    get_or-append (pairs ks) (pair_of k ∷ []) (pair_of x) j (omega (arith, pairs_length ks))
    ∙ pair_at ks m j x (omega arith) h

pub running_at : (t : Triple) (ks : List Kept) (k : ℕ) (x : Kept) → k < length ks
    → x ≡ get_or ks (length ks - 1 - k) x →
    slice_get (running_in (frames_from t ks) (base_from t ks)) k ≡ Some (x.at, x.saved)
running_at t ks k x l h =
    rw (running_pairs t ks)
    (slice_get-get_or (pairs ks) k (pair_of x) (omega (arith, pairs_length ks))
    ∙ ap Some (pair_at ks (length ks - 1 - k) k x (omega arith) h))

-- The registers, and a change of them.

supervisor_again : (b : Bool) → is_supervisor (privilege_at b) ≡ b
supervisor_again true = refl
supervisor_again false = refl

pub regs_again : (r : Regs) (ks : List Kept) → regs_of (stack_of r ks) ≡ r
regs_again r ks = rw (below_frames (triple_in r) ks) (rw (supervisor_again r.spp) refl)

pub regs_set : (q r : Regs) (ks : List Kept) → with_regs r (stack_of q ks) ≡ stack_of r ks
regs_set q r ks = rw (with_below_frames (triple_in q) (triple_in r) ks) refl
