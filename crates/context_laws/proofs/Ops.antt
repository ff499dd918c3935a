-- What the ops of a hart make of its handlers, but for calls.
use Rattle.std.proofs.Common.{◌≡◌, ℕ, ◌==◌, Bool, true, false, cond, List, [], ◌∷◌, length, refl, sym, ap, ◌∙◌}
use Rattle.std.proofs.lemmas.Bool.{true≢false}
use Rattle.sse_base.specs.declared.contexts.Privilege.TheVariants.{User}
use Rattle.sse_base.specs.Contexts.{Context, Frame, Stack, Triple, top_triple, change_top, bit, privilege_bit, privilege_at}
use Rattle.board_plan.specs.declared.notes.StepNote.{StepNote}
use Rattle.board_plan.specs.declared.notes.StepNote.TheVariants as note
use Rattle.board_plan.specs.declared.ops.Reg.{Reg}
use Rattle.board_plan.specs.declared.ops.Reg.TheVariants.{A6, A7, Sepc, Spp, Spie, Sie}
use Rattle.board_plan.specs.Ops.{is_odd, register, set_register, returned}
use Rattle.board_plan.specs.Amend.{with_register, after_sret}
use Rattle.event_laws.proofs.Outcomes.{is_drains, is_plain}
use Rattle.context_laws.proofs.Amending.{Amends, IsQuiet, IsOnTop, amends_quiet, amends_top}

-- ---- Notes that leave what was interrupted ----

pub plain_quiet : (n : StepNote) → is_plain n ≡ true → IsQuiet n
plain_quiet (note.Set reg value) e = absurd (true≢false (sym e))
plain_quiet (note.Load reg value) e = absurd (true≢false (sym e))
plain_quiet note.Sret e = absurd (true≢false (sym e))
plain_quiet (note.Call eid fid args code written) e = absurd (true≢false (sym e))
plain_quiet (note.Deliver id) e = absurd (true≢false (sym e))
plain_quiet n e = record { ids = λ is. refl; amends = λ d is k. refl; no_completion = refl }

pub drains_quiet : (n : StepNote) → is_drains n ≡ true → IsQuiet n
drains_quiet (note.Set reg value) e = absurd (true≢false (sym e))
drains_quiet (note.Load reg value) e = absurd (true≢false (sym e))
drains_quiet note.Sret e = absurd (true≢false (sym e))
drains_quiet (note.Call eid fid args code written) e = absurd (true≢false (sym e))
drains_quiet (note.Deliver id) e = absurd (true≢false (sym e))
drains_quiet n e = record { ids = λ is. refl; amends = λ d is k. refl; no_completion = refl }

-- ---- Registers ----

-- a register that has one value reads as another
abbrev Reads : Reg → ℕ → ℕ → Type 0
Reads Sepc value word = value ≡ word
Reads Spp value word = is_odd value ≡ is_odd word
Reads Spie value word = is_odd value ≡ is_odd word
Reads reg value word = Unit {0}

reads_self : (reg : Reg) (value : ℕ) → Reads reg value value
reads_self A6 value = tt
reads_self A7 value = tt
reads_self Sepc value = refl
reads_self Spp value = refl
reads_self Spie value = refl
reads_self Sie value = tt

top_again : (g : Triple → Triple) (s : Stack) → top_triple (change_top g s) ≡ g (top_triple s)
top_again g s = go s.frames
  where
    go : (fs : List Frame)
        → top_triple (change_top g (record s { frames = fs })) ≡ g (top_triple (record s { frames = fs }))
    go [] = refl
    go (f ∷ fs) = refl

odd_privilege : (b : Bool) → is_odd (privilege_bit (privilege_at b)) ≡ b
odd_privilege true = refl
odd_privilege false = refl

odd_bit : (b : Bool) → is_odd (bit b) ≡ b
odd_bit true = refl
odd_bit false = refl

-- what a load notes is what the register reads then
reads_loaded : (reg : Reg) (word : ℕ) (s : Stack) → Reads reg (register reg (set_register reg word s)) word
reads_loaded A6 word s = tt
reads_loaded A7 word s = tt
reads_loaded Sepc word s = ap (λ (t : Triple). t.sepc) (top_again (λ t. record t { sepc = word }) s)
reads_loaded Spp word s =
    ap (λ (t : Triple). is_odd (privilege_bit t.spp)) (top_again (λ t. record t { spp = privilege_at (is_odd word) }) s)
    ∙ odd_privilege (is_odd word)
reads_loaded Spie word s =
    ap (λ (t : Triple). is_odd (bit t.spie)) (top_again (λ t. record t { spie = is_odd word }) s)
    ∙ odd_bit (is_odd word)
reads_loaded Sie word s = tt

same_either_way : (b : Bool) (k : Context) → cond b k k ≡ k
same_either_way true k = refl
same_either_way false k = refl

-- where it is no return register
live_quiet : (n : StepNote) (reg : Reg) (value : ℕ) → IsOnTop n (with_register reg value)
    → ((k : Context) → with_register reg value k ≡ k) → IsQuiet n
live_quiet n reg value q same =
    record {
      ids = q.ids;
      amends = λ d is k.
          q.amends d is k ∙ ap (λ x. cond (length is == d) x k) (same k) ∙ same_either_way (length is == d) k;
      no_completion = q.no_completion;
    }

-- a register takes a word, and the note has what it reads then
amends_register : (n : StepNote) (reg : Reg) (value word : ℕ) (s : Stack) → IsOnTop n (with_register reg value)
    → Reads reg value word → Amends n s.frames s.base (set_register reg word s)
amends_register n A6 value word s q reads =
    amends_quiet n s.frames s.base (set_register A6 word s) (live_quiet n A6 value q (λ k. refl)) refl refl
amends_register n A7 value word s q reads =
    amends_quiet n s.frames s.base (set_register A7 word s) (live_quiet n A7 value q (λ k. refl)) refl refl
amends_register n Sepc value word s q reads =
    amends_top n (with_register Sepc value) (λ t. record t { sepc = word }) s.frames s.base (set_register Sepc word s)
    q (λ k. ap (λ v. record k { pc = v }) reads) refl refl
amends_register n Spp value word s q reads =
    amends_top n (with_register Spp value) (λ t. record t { spp = privilege_at (is_odd word) }) s.frames s.base
    (set_register Spp word s) q (λ k. ap (λ v. record k { privilege = privilege_at v }) reads) refl refl
amends_register n Spie value word s q reads =
    amends_top n (with_register Spie value) (λ t. record t { spie = is_odd word }) s.frames s.base
    (set_register Spie word s) q (λ k. ap (λ v. record k { sie = v }) reads) refl refl
amends_register n Sie value word s q reads =
    amends_quiet n s.frames s.base (set_register Sie word s) (live_quiet n Sie value q (λ k. refl)) refl refl

pub amends_set : (reg : Reg) (value : ℕ) (s : Stack)
    → Amends (note.Set reg value) s.frames s.base (set_register reg value s)
amends_set reg value s =
    amends_register (note.Set reg value) reg value value s
    (record { ids = λ is. refl; amends = λ d is k. refl; no_completion = refl }) (reads_self reg value)

pub amends_load : (reg : Reg) (word : ℕ) (s : Stack)
    → Amends (note.Load reg (register reg (set_register reg word s))) s.frames s.base (set_register reg word s)
amends_load reg word s =
    let value = register reg (set_register reg word s) in
    amends_register (note.Load reg value) reg value word s
    (record { ids = λ is. refl; amends = λ d is k. refl; no_completion = refl }) (reads_loaded reg word s)

pub amends_sret : (s : Stack) → Amends note.Sret s.frames s.base (returned s)
amends_sret s =
    amends_top note.Sret after_sret (λ t. record t { spp = User; spie = true }) s.frames s.base (returned s)
    (record { ids = λ is. refl; amends = λ d is k. refl; no_completion = refl }) (λ k. refl) refl refl
