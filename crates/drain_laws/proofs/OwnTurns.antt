-- A step whose note names a bank that was drained is that bank's own.
use Rattle.std.proofs.Common.{◌≡◌, ℕ, List, slice_get, Some, sym, ap, ◌∙◌, subst}
use Rattle.std.proofs.lemmas.Option.{none-some, slice_get_within}
use Rattle.reri_fields.specs.Drain.{BankState}
use Rattle.reri_bank.proofs.Stands.{get-set_same}
use Rattle.ras_device.specs.declared.act.Act.{Act}
use Rattle.board_plan.specs.declared.notes.Step.{Step}
use Rattle.board_plan.specs.declared.plan.BankDecl.{BankDecl}
use Rattle.board_plan.specs.declared.plan.Plan.{Plan}
use Rattle.board_plan.specs.State.{BoardState, bank_plan}
use Rattle.board_plan.specs.Step.{Stepped, step}
use Rattle.board_plan.specs.Sound.{drained_bank}
use Rattle.drain_laws.proofs.BankMoves.{moves}
use Rattle.drain_laws.proofs.BoardMoves.{AtBank, Touches, Comes, step_does}
use Rattle.drain_laws.proofs.BoardMoves.Touches.{apart, at}
use Rattle.drain_laws.proofs.Homes.{apart_undrained, named}
use Rattle.drain_laws.proofs.Turns.{TakesTurn}

pub record OwnTurn (plan : Plan) (acts : ℕ → List Act) (t : Step) (s : BoardState) (d : Stepped) (bank : ℕ) :
    Type 0 where
  pub decl : BankDecl
  pub before : BankState
  pub after : BankState
  pub known : slice_get plan.banks bank ≡ Some decl
  pub there : slice_get s.banks bank ≡ Some before
  pub then : slice_get d.state.banks bank ≡ Some after
  pub turn : TakesTurn plan acts t s d bank decl before after

its_own : (plan : Plan) (acts : ℕ → List Act) (t : Step) (s : BoardState) (d : Stepped)
    (a : AtBank plan (Comes plan acts t s) s.banks d.state.banks d.note d.published) → OwnTurn plan acts t s d a.bank
its_own plan acts t s d a =
    record {
      decl = a.decl;
      before = a.state;
      after = a.made.state;
      known = a.known;
      there = a.there;
      then = ap (λ bs. slice_get bs a.bank) a.after_is
          ∙ get-set_same s.banks a.bank a.made.state (slice_get_within s.banks a.bank a.state a.there);
      turn = record {
        come = a.come;
        told = a.made.note;
        events = a.events;
        moves = moves (bank_plan a.bank a.decl plan.recs) a.state a.come a.made a.makes;
        note_is = a.note_is;
        published_is = a.published_is;
        comes = a.by;
      };
    }

touched_own : (plan : Plan) (acts : ℕ → List Act) (t : Step) (s : BoardState) (d : Stepped) (bank : ℕ)
    → Touches plan (Comes plan acts t s) s.banks d.state.banks d.note d.published → drained_bank d.note ≡ Some bank
    → OwnTurn plan acts t s d bank
touched_own plan acts t s d bank (apart off same nothing) is =
    absurd (none-some bank (sym (apart_undrained d.note off) ∙ is))
touched_own plan acts t s d bank (at a) is =
    subst (OwnTurn plan acts t s d)
    (named a.bank bank a.decl a.events a.made.note (ap drained_bank (sym a.note_is) ∙ is)) (its_own plan acts t s d a)

pub own_turn : (plan : Plan) (acts : ℕ → List Act) (t : Step) (s : BoardState) (d : Stepped) (bank : ℕ)
    → step plan acts t s ≡ Some d → drained_bank d.note ≡ Some bank → OwnTurn plan acts t s d bank
own_turn plan acts t s d bank makes is =
    touched_own plan acts t s d bank (step_does plan acts t s d makes).touches is
