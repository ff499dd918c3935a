-- A tracer that was told of some steps has written the lines of their trace.
use Rattle.std.proofs.Common.{◌≡◌, ℕ, ◌+◌, ◌-◌, ◌^◌, ◌≤◌, ◌<◌, min, List, [], ◌∷◌, ◌++◌, length, Ok, Option, Result, refl, sym, ap, ◌∙◌, subst, arith}
use Rattle.ras_io.specs.Causes.{one_more}
use Rattle.ras_io.specs.declared.faults.SinkFault.{SinkFault}
use Rattle.board_plan.specs.Run.{Noted}
use Rattle.board_plan.specs.Text.{trace_line, trace_lines}
use Rattle.board_core.specs.Watched.{ToldAll}
use Rattle.board_report.specs.declared.tracer.Tracer.{Tracer}
use Rattle.board_report.specs.Tracing.{SameTrace, Traces, number_of, outcome_of, traced}
use Rattle.board_report.specs.Writing.{Grows, State, Wrote}
use Rattle.board_report.proofs.Growing.{grows-nil, grows-then}
use Rattle.board_report.proofs.OneMore.{wrote-of}

below_last : (n : ℕ) → n < 2 ^ 64 - 1 → one_more n ≡ n + 1
below_last n low = omega (arith, low)

module _ {K : Type 0} (written : K → Option (List ℕ)) (faults writes : K → ℕ) where
  -- the lines of these steps
  traced-all : (ns : List Noted) (w v : Tracer K) → number_of w + length ns < 2 ^ 64
      → ToldAll (Traces written faults writes) ns w v
      → Grows (traced written faults writes w) (traced written faults writes v) (trace_lines (number_of w) ns)
  traced-all [] w v few told =
      subst (λ (x : Tracer K). Grows (traced written faults writes w) (traced written faults writes x) []) told
      (grows-nil (traced written faults writes w))
  traced-all (n ∷ ns) w v few told =
      let u : Tracer K = told.0 in
      let next : number_of u ≡ number_of w + 1 =
      told.1.next ∙ below_last (number_of w) (omega (arith, few)) in
      let rest = traced-all ns u v (omega (arith, few, next)) told.2 in
      grows-then (traced written faults writes w) (traced written faults writes u) (traced written faults writes v)
      (trace_line (number_of w) n ∷ []) (trace_lines (number_of w + 1) ns) told.1.wrote
      (subst (λ (k : ℕ). Grows (traced written faults writes u) (traced written faults writes v) (trace_lines k ns))
      next rest)

  -- the sink stays the same
  pub same-trace : (ns : List Noted) (w v : Tracer K) → ToldAll (Traces written faults writes) ns w v → SameTrace v w
  same-trace [] w v told = sym (ap (λ (x : Tracer K). x.line.sink.ghost_name) told)
  same-trace (n ∷ ns) w v told = same-trace ns told.0 v told.2 ∙ told.1.same_trace

  -- a whole trace, from the first step on
  pub trace-wrote : (ns : List Noted) (w v : Tracer K) → number_of w ≡ 1 → outcome_of w ≡ Ok tt
      → length ns < 2 ^ 64 - 1 → ToldAll (Traces written faults writes) ns w v
      → Wrote (traced written faults writes w) (traced written faults writes v) (trace_lines 1 ns)
  trace-wrote ns w v first going few told =
      wrote-of (traced written faults writes w) (traced written faults writes v) (trace_lines 1 ns) going
      (subst (λ (k : ℕ). Grows (traced written faults writes w) (traced written faults writes v) (trace_lines k ns))
      first (traced-all ns w v (omega (arith, first, few)) told))
