-- What the INTERRUPTED attributes read, and that they are 0 where no handler runs.
use Rattle.std.proofs.Common.{◌≡◌, ℕ, Bool, true, false, cond, List, [], ◌∷◌, get_or, refl, ap, sym, ◌∙◌, arith, inl, inr, zero, suc, ◌≢◌, ◌<◌, ◌≤◌, length}
use Rattle.std.specs.Prelude.{◌==◌, None, unwrap_or, map}
use Rattle.std.proofs.lemmas.Bool.{cases_Bool, cases_lt, eqb-true}
use Rattle.sse_base.specs.declared.ids.EventId.{EventId}
use Rattle.sse_base.specs.declared.ids.Instance.{Instance}
use Rattle.sse_base.specs.declared.ids.Instance.TheVariants.{Local}
use Rattle.sse_base.specs.Ids.{same_instance}
use Rattle.sse_base.specs.Attributes.{STATUS, PRIORITY, CONFIG, PREFERRED_HART, ENTRY_PC, ENTRY_ARG}
use Rattle.sse_base.specs.declared.arrows.State.{State}
use Rattle.sse_base.specs.declared.arrows.State.TheVariants.{Unused, Registered, Enabled, Running}
use Rattle.sse_base.specs.Events.{Events, event, is_running}
use Rattle.sse_base.specs.Contexts.{Frame, Triple, Stack, bit, interrupted}
use Rattle.sse_base.specs.Calls.{attribute, interrupted_on, reads}
use Rattle.hart_ctx.specs.declared.regs.Saved.{Saved}
use Rattle.hart_ctx.specs.Running.{word_of}
use Rattle.sbi_sse.specs.Kept.{times, ats, running, IsKept}
use Rattle.sbi_sse.proofs.Counting.{times_append}

-- each of four zeros
either_zero : (a b c : Bool) → let none : ℕ = 0 in cond a none (cond b none (cond c none none)) ≡ none
either_zero true b c = refl
either_zero false true c = refl
either_zero false false true = refl
either_zero false false false = refl

pub reads_zero : (attr : ℕ) → word_of attr (record { sepc = 0; flags = 0; a6 = 0; a7 = 0 }) ≡ 0
reads_zero attr = either_zero (attr == 6) (attr == 7) (attr == 8)

not_running : (s : State) → (s ≡ Running → ⊥) → is_running s ≡ false
not_running Unused e = refl
not_running Registered e = refl
not_running Enabled e = refl
not_running Running e = absurd (e refl)

-- no handler of an instance runs here
no_frame : (attr : ℕ) (x : Instance) (fs : List Frame) (b : Triple) → times x (ats fs) ≡ 0
    → interrupted attr x fs b ≡ None
no_frame attr x [] b e = refl
no_frame attr x (f ∷ fs) b e =
    elim (cases_Bool (same_instance f.at x)) [
      | inl y ↦
          let one : bit (same_instance f.at x) ≡ 1 = rw y refl
          in absurd (omega arith)
      | inr y ↦ rw y (no_frame attr x fs b (omega arith))
    ]

-- nor on any hart
pub not_interrupted : (attr : ℕ) (x : Instance) (ss : List Stack) → times x (running ss) ≡ 0
    → interrupted_on attr x ss ≡ 0
not_interrupted attr x [] e = refl
not_interrupted attr x (s ∷ ss) e =
    let both = times_append x (ats s.frames) (running ss)
    in ap (λ o. unwrap_or o (interrupted_on attr x ss)) (no_frame attr x s.frames s.base (omega arith))
    ∙ not_interrupted attr x ss (omega arith)

nowhere : (attr : ℕ) (x : Instance) (ss : List Stack)
    → ((h : ℕ) (d : Stack) → h < length ss → times x (ats (get_or ss h d).frames) ≡ 0) → interrupted_on attr x ss ≡ 0
nowhere attr x [] a = refl
nowhere attr x (s ∷ ss) a =
    ap (λ o. unwrap_or o (interrupted_on attr x ss)) (no_frame attr x s.frames s.base (a 0 s (omega arith)))
    ∙ nowhere attr x ss (λ h d l. a (suc h) d (omega arith))

-- one that runs on no other hart
abbrev NotElsewhere : Instance → ℕ → List Stack → Type 0
NotElsewhere x k ss = (h : ℕ) (d : Stack) → h < length ss → h ≢ k → times x (ats (get_or ss h d).frames) ≡ 0

only_there : (attr : ℕ) (x : Instance) (k : ℕ) (s : Stack) (ss : List Stack) → NotElsewhere x k ss → k < length ss
    → s ≡ get_or ss k s → interrupted_on attr x ss ≡ unwrap_or (interrupted attr x s.frames s.base) 0
only_there attr x k s [] a l e = absurd (omega arith)
only_there attr x zero s (r ∷ ss) a l e =
    ap (unwrap_or (interrupted attr x r.frames r.base))
    (nowhere attr x ss (λ h d m. a (suc h) d (omega arith) (λ q. absurd (omega arith))))
    ∙ ap (λ (z : Stack). unwrap_or (interrupted attr x z.frames z.base) 0) (sym e)
only_there attr x (suc k) s (r ∷ ss) a l e =
    ap (λ o. unwrap_or o (interrupted_on attr x ss))
    (no_frame attr x r.frames r.base (a 0 r (omega arith) (λ q. absurd (omega arith))))
    ∙ only_there attr x k s ss (λ h d m n. a (suc h) d (omega arith) (λ q. n (omega arith))) (omega arith) e

-- a local one
local_there : (id : EventId) (k : ℕ) (t : Events) (ms : List Bool) (ss : List Stack) → IsKept t ms ss
    → NotElsewhere (Local id k) k ss
local_there id k t ms ss kept h d l away =
    elim (cases_lt 0 (times (Local id k) (ats (get_or ss h d).frames))) [
      | inl some ↦ absurd (away (sym (eqb-true k h (kept.own h d (Local id k) l some))))
      | inr none ↦ omega arith
    ]

pub read_there : (attr : ℕ) (id : EventId) (k : ℕ) (t : Events) (ms : List Bool) (ss : List Stack) (s : Stack)
    → IsKept t ms ss → k < length ss → s ≡ get_or ss k s →
    interrupted_on attr (Local id k) ss ≡ unwrap_or (interrupted attr (Local id k) s.frames s.base) 0
read_there attr id k t ms ss s kept l e =
    only_there attr (Local id k) k s ss (local_there id k t ms ss kept) l e

pub read_nowhere : (attr : ℕ) (id : EventId) (k : ℕ) (t : Events) (ms : List Bool) (ss : List Stack) → IsKept t ms ss
    → length ss ≤ k → interrupted_on attr (Local id k) ss ≡ 0
read_nowhere attr id k t ms ss kept past =
    nowhere attr (Local id k) ss (λ h d l. local_there id k t ms ss kept h d l (λ q. absurd (omega arith)))

-- an event that doesn't run
pub rests : (attr : ℕ) (x : Instance) (t : Events) (ms : List Bool) (ss : List Stack) (s : State) → IsKept t ms ss
    → s ≡ (event x t).state → (s ≡ Running → ⊥) → interrupted_on attr x ss ≡ 0
rests attr x t ms ss s k e n =
    not_interrupted attr x ss (k.framed x ∙ ap bit (ap is_running (sym e) ∙ not_running s n))

-- all ten attributes
pub all_read : (first : List ℕ) (s : Saved) (x : Instance) (ss : List Stack) (t : Events) →
    first ≡ map (λ attr. attribute attr x t) (STATUS ∷ PRIORITY ∷ CONFIG ∷ PREFERRED_HART ∷ ENTRY_PC ∷ ENTRY_ARG ∷ []) →
    ((attr : ℕ) → word_of attr s ≡ interrupted_on attr x ss) →
    get_or first 0 0 ∷ get_or first 1 0 ∷ get_or first 2 0 ∷ get_or first 3 0 ∷ get_or first 4 0 ∷ get_or first 5 0
    ∷ s.sepc ∷ s.flags ∷ s.a6 ∷ s.a7 ∷ [] ≡ reads 0 10 x ss t
all_read first s x ss t e k =
    let six : s.sepc ≡ interrupted_on 6 x ss = k 6
    in let seven : s.flags ≡ interrupted_on 7 x ss = k 7
    in let eight : s.a6 ≡ interrupted_on 8 x ss = k 8
    in let nine : s.a7 ≡ interrupted_on 9 x ss = k 9
    in rw (e, six, seven, eight, nine) refl
