-- An event runs exactly where it has a frame, and handlers nest in rising urgency.
use Rattle.std.proofs.Common.{◌≡◌, ℕ, ◌+◌, ◌<◌, Bool, true, false, cond, List, [], ◌∷◌, get_or, slice_get, Some, refl, sym, ap, ◌∙◌, subst, arith}
use Rattle.std.specs.Prelude.{count_by}
use Rattle.std.proofs.lemmas.List.Sums.{sum_by-cons}
use Rattle.std.proofs.lemmas.Option.{slice_get_within, get_or_from_slice_get}
use Rattle.sse_base.specs.declared.ids.Instance.{Instance}
use Rattle.sse_base.specs.Ids.{id_of, instance_of, same_instance}
use Rattle.sse_base.specs.Contexts.{Frame, Stack, bit}
use Rattle.sse_base.specs.Machine.{Machine}
use Rattle.ras_device.specs.declared.act.Act.{Act}
use Rattle.board_plan.specs.declared.notes.Step.{Step}
use Rattle.board_plan.specs.declared.plan.Plan.{Plan}
use Rattle.board_plan.specs.Plans.{IsPlan}
use Rattle.board_plan.specs.Run.{ran}
use Rattle.board_plan.specs.Sound.{AreOf, EachNestRises, EachRunsInItsFrame, frames_on, frames_over_all}
use Rattle.sse_base.proofs.Instances.{same_self}
use Rattle.sbi_sse.specs.Kept.{times, ats, running}
use Rattle.sbi_sse.proofs.Counting.{times_append}
use Rattle.sbi_sse.proofs.Keeps.{runs_on_board}
use Rattle.event_laws.proofs.Beginning.{run_keeps_machine}
use Rattle.event_laws.proofs.Standing.{Keeps, framed_runs}

one_or_none : (b : Bool) → bit b ≡ cond b 1 0
one_or_none true = refl
one_or_none false = refl

-- how often an instance stands, counted by frames
counts_frames : (at : Instance) (fs : List Frame) → times at (ats fs) ≡ count_by (λ f. same_instance f.at at) fs
counts_frames at [] = refl
counts_frames at (f ∷ fs) =
    ap (λ (n : ℕ). n + times at (ats fs)) (one_or_none (same_instance f.at at))
    ∙ ap (λ (n : ℕ). cond (same_instance f.at at) 1 0 + n) (counts_frames at fs)
    ∙ sym (sum_by-cons (λ (g : Frame). cond (same_instance g.at at) 1 0) f fs)

counts_all : (at : Instance) (ss : List Stack) → times at (running ss) ≡ frames_over_all at ss
counts_all at [] = refl
counts_all at (s ∷ ss) =
    times_append at (ats s.frames) (running ss)
    ∙ ap (λ (n : ℕ). n + times at (running ss)) (counts_frames at s.frames)
    ∙ ap (λ (n : ℕ). frames_on at s + n) (counts_all at ss)
    ∙ sym (sum_by-cons (frames_on at) s ss)

-- each frame is of the instance that its id means on the hart
are_of : (h : ℕ) (fs : List Frame)
    → ((x : Instance) → 0 < times x (ats fs) → instance_of (id_of x).0 h ≡ x) → AreOf h fs
are_of h [] all = tt
are_of h (f ∷ fs) all = (
  all f.at (let one : bit (same_instance f.at f.at) ≡ 1 = rw (same_self f.at) refl in omega arith),
  are_of h fs (λ x some. all x (omega (arith, some))),
)

-- an instance that has a frame on a hart is that of its id there
pub framed_proper : (m : Machine) (h : ℕ) (s : Stack) (x : Instance) → Keeps m → slice_get m.stacks h ≡ Some s
    → 0 < times x (ats s.frames) → instance_of (id_of x).0 h ≡ x
framed_proper m h s x k there some =
    let runs = framed_runs m.events m.masks m.stacks h s x k.kept there some in
    let same : s ≡ get_or m.stacks h s = sym (get_or_from_slice_get m.stacks h s s there) in
    k.proper.meant h x (runs_on_board x m.events k.kept.each runs)
    (k.kept.own h s x (slice_get_within m.stacks h s there)
    (subst (λ (y : Stack). 0 < times x (ats y.frames)) same some))

pub frames_at : (m : Machine) → Keeps m → EachRunsInItsFrame m
frames_at m k =
    record {
      framed = λ at. sym (counts_all at m.stacks) ∙ k.kept.framed at;
      own = λ h s there. are_of h s.frames (λ x some. framed_proper m h s x k there some);
    }

pub each_runs_in_its_frame : (plan : Plan) (acts : ℕ → List Act) (tries : List Step) → IsPlan plan
    → EachRunsInItsFrame (ran plan acts tries).state.machine
each_runs_in_its_frame plan acts tries p =
    frames_at (ran plan acts tries).state.machine (run_keeps_machine plan acts tries p)

pub each_nest_rises : (plan : Plan) (acts : ℕ → List Act) (tries : List Step) → IsPlan plan
    → EachNestRises (ran plan acts tries).state.machine
each_nest_rises plan acts tries p = (run_keeps_machine plan acts tries p).nests
