-- How the registers and the values that deliveries kept are a hart's contexts. A value that belongs to one level is
-- kept one level above it: a handler's saved pc, privilege and sie by the handler that interrupted it, or in the
-- registers.
use Rattle.std.specs.Prelude.{ℕ, suc, ◌/◌, ◌%◌, ◌==◌, if◌then◌else◌, List, [], ◌∷◌}
use Rattle.sse_base.specs.declared.ids.Instance.{Instance}
use Rattle.sse_base.specs.Ids.{same_instance}
use Rattle.sse_base.specs.Calls.{word_for}
use Rattle.sse_base.specs.Contexts.{Frame, Triple, Stack, privilege_at}
use Rattle.hart_ctx.specs.declared.regs.Regs.{Regs}
use Rattle.hart_ctx.specs.declared.regs.Saved.{Saved}
use Rattle.hart_ctx.specs.declared.kept.Kept.{Kept}
use Rattle.hart_ctx.specs.Registers.{live_of, triple_in}

-- the triple that kept values are
abbrev pub triple_kept : Saved → Triple
triple_kept s = record { sepc = s.sepc; spp = privilege_at (s.flags % 2 == 1); spie = s.flags / 2 % 2 == 1 }

abbrev pub frame_of : Triple → Kept → Frame
frame_of t k = record {
  at = k.at;
  saved = record {
    pc = t.sepc;
    privilege = t.spp;
    sie = t.spie;
    a6 = k.saved.a6;
    a7 = k.saved.a7;
  };
}

-- the handlers from the newest to the oldest, each level handing its triple down
abbrev pub frames_from : Triple → List Kept → List Frame
frames_from t [] = []
frames_from t (k ∷ ks) = frame_of t k ∷ frames_from (triple_kept k.saved) ks

abbrev pub base_from : Triple → List Kept → Triple
base_from t [] = t
base_from t (k ∷ ks) = base_from (triple_kept k.saved) ks

abbrev pub stack_of : Regs → List Kept → Stack
stack_of r ks = record { live = live_of r; frames = frames_from (triple_in r) ks; base = base_from (triple_in r) ks }

-- where a handler of an instance is kept, or how many are where it isn't
abbrev pub kept_place : Instance → List Kept → ℕ
kept_place at [] = 0
kept_place at (k ∷ ks) = if same_instance k.at at then 0 else suc (kept_place at ks)

-- kept values with words written to them
abbrev pub saved_with : ℕ → List ℕ → Saved → Saved
saved_with base words s =
    record {
      sepc = word_for 6 base words s.sepc;
      flags = word_for 7 base words s.flags % 4;
      a6 = word_for 8 base words s.a6;
      a7 = word_for 9 base words s.a7;
    }
