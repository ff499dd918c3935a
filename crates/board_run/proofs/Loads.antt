-- The script of a load has one answer, which tells of no source.
use Rattle.std.proofs.Common.{◌≡◌, ℕ, ◌≤◌, false, Result, Ok, Err, IsOk, length, if◌then◌else◌, refl, inl, inr, ap, ◌∙◌}
use Rattle.std.proofs.lemmas.Bool.{le-ltb}
use Rattle.board_plan.specs.declared.plan.Plan.{Plan}
use Rattle.board_plan.specs.Script.{Refusal, script}
use Rattle.board_load.specs.Load.{load_text}
use Rattle.load_laws.proofs.Whole.{load_accepted}
use Rattle.load_laws.proofs.Short.{load_short}
use Rattle.board_run.specs.declared.status.Status.{Status}
use Rattle.board_run.specs.declared.status.Status.TheVariants as answers
use Rattle.board_run.specs.Commands.{limit}
use Rattle.board_run.specs.Play.{answer_read, answer_to, Answers, is_of_source}

read : (r : Result Plan Refusal) → IsOk r → answer_read r ≡ answers.Ok
read (Ok plan) h = refl
read (Err e) h = cc

load_answer : (n : ℕ) → n ≤ 1000 → answer_to (load_text n) ≡ answers.Ok
load_answer n low =
    ap (λ b. if b then answers.TooLong else answer_read (script (load_text n)))
    (le-ltb limit (length (load_text n)) (load_short n))
    ∙ read (script (load_text n)) (load_accepted n low)

pub never_of_source : (n : ℕ) → n ≤ 1000 → (status : Status) → Answers (load_text n) status
    → is_of_source status ≡ false
never_of_source n low status (inl none) = ap is_of_source none
never_of_source n low status (inr (inl own)) = ap is_of_source (own ∙ load_answer n low)
never_of_source n low status (inr (inr cut)) = ap is_of_source cut.0
