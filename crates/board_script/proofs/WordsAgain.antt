-- Each word of a canonical line is read as what it was written for.
use Rattle.std.proofs.Common.{◌≡◌, ℕ, ◌^◌, ◌<◌, ◌≤◌, Bool, true, false, List, [], ◌∷◌, length, Ok, refl, arith, decimal, codes}
use Rattle.std.proofs.lemmas.Bool.{lt-ltb, le-leb, and_from}
use Rattle.std.proofs.lemmas.Fmt.{decimal_is_IsNumeral}
use Rattle.std.specs.Char.{digit_value}
use Rattle.std.specs.List.{list_all}
use Rattle.std.specs.Str.Parse.{AllDigits}
use Rattle.ras_text.specs.Numbers.{is_digit_of}
use Rattle.ras_text.specs.Pieces.{is_word}
use Rattle.ras_text.proofs.Again.{number_decimal}
use Rattle.sse_base.specs.Ids.{is_platform}
use Rattle.reri_fields.specs.declared.severity.Severity.{Severity}
use Rattle.reri_fields.specs.declared.severity.Severity.TheVariants.{Ce, Ued, Uec}
use Rattle.board_plan.specs.declared.ops.Reg.{Reg}
use Rattle.board_plan.specs.declared.ops.Reg.TheVariants.{A6, A7, Sepc, Spp, Spie, Sie}
use Rattle.board_plan.specs.declared.notes.Step.{Step}
use Rattle.board_plan.specs.declared.notes.Step.TheVariants as step
use Rattle.board_plan.specs.Words.{is, first_of_two, severity, register, any_number, number_upto, number_from_1_to, number_below, known_below, op_address, value_of, may_be_on_board, event_id, platform_id, is_digits, entry_number, hart_entry, reporter_entry, entry}
use Rattle.board_plan.specs.Notes.{choice_word, reg_word, severity_word}
use Rattle.board_plan.specs.Canonical.{step_word}
use Rattle.board_script.proofs.Fits.{IsU64, ValueFits, IsOpAddress, StepFits}
use Rattle.board_script.proofs.Texts.{IsPlain, plain_bytes}

-- ---- Numbers ----

pub any_again : (n : ℕ) → n < 2 ^ 64 → any_number (decimal n) ≡ Ok n
unfolding any_number
any_again n small = rw (number_decimal n small) refl

pub upto_again : (most n : ℕ) → n ≤ most → n < 2 ^ 64 → number_upto most (decimal n) ≡ Ok n
unfolding number_upto
upto_again most n low small = rw (any_again n small, le-leb n most low) refl

pub from_1_again : (most n : ℕ) → 1 ≤ n → n ≤ most → n < 2 ^ 64 → number_from_1_to most (decimal n) ≡ Ok n
unfolding number_from_1_to
from_1_again most n some low small = rw (upto_again most n low small, lt-ltb 0 n some) refl

pub below_again : (limit n : ℕ) → n < limit → n < 2 ^ 64 → number_below limit (decimal n) ≡ Ok n
unfolding number_below
below_again limit n low small = rw (any_again n small, lt-ltb n limit low) refl

pub known_again : (count n : ℕ) → n < count → n < 2 ^ 64 → known_below count (decimal n) ≡ Ok n
unfolding known_below
known_again count n low small = rw (any_again n small, lt-ltb n count low) refl

pub address_again : (n : ℕ) → IsOpAddress n → op_address (decimal n) ≡ Ok n
unfolding op_address
address_again n is =
    let low = is.0 in rw (upto_again 0xffff0000 n low (omega arith), is.1) refl

pub event_id_again : (n : ℕ) → n ≤ 0xffffffff → may_be_on_board n ≡ true → event_id (decimal n) ≡ Ok n
unfolding event_id
event_id_again n low may = rw (upto_again 0xffffffff n low (omega arith), may) refl

pub platform_id_again : (n : ℕ) → n ≤ 0xffffffff → is_platform n ≡ true → platform_id (decimal n) ≡ Ok n
unfolding platform_id
platform_id_again n low is = rw (upto_again 0xffffffff n low (omega arith), is) refl

-- ---- Keywords ----

pub inject_again : (b : Bool) → first_of_two (codes "inject") (codes "noinject")
    (choice_word (codes "inject") (codes "noinject") b) ≡ Ok b
unfolding first_of_two is
inject_again true = refl
inject_again false = refl

pub inject_plain : (b : Bool) → IsPlain (choice_word (codes "inject") (codes "noinject") b)
inject_plain true = refl
inject_plain false = refl

pub scope_again : (b : Bool) → first_of_two (codes "global") (codes "local")
    (choice_word (codes "global") (codes "local") b) ≡ Ok b
unfolding first_of_two is
scope_again true = refl
scope_again false = refl

pub scope_plain : (b : Bool) → IsPlain (choice_word (codes "global") (codes "local") b)
scope_plain true = refl
scope_plain false = refl

pub severity_again : (s : Severity) → severity (severity_word s) ≡ Ok s
unfolding severity is
severity_again Ce = refl
severity_again Ued = refl
severity_again Uec = refl

pub severity_plain : (s : Severity) → IsPlain (severity_word s)
severity_plain Ce = refl
severity_plain Ued = refl
severity_plain Uec = refl

pub register_again : (r : Reg) → register (reg_word r) ≡ Ok r
unfolding register is
register_again A6 = refl
register_again A7 = refl
register_again Sepc = refl
register_again Spp = refl
register_again Spie = refl
register_again Sie = refl

pub register_plain : (r : Reg) → IsPlain (reg_word r)
register_plain A6 = refl
register_plain A7 = refl
register_plain Sepc = refl
register_plain Spp = refl
register_plain Spie = refl
register_plain Sie = refl

pub value_small : (r : Reg) (n : ℕ) → ValueFits r n → IsU64 n
value_small A6 n f = f
value_small A7 n f = f
value_small Sepc n f = f
value_small Spp n f = omega arith
value_small Spie n f = omega arith
value_small Sie n f = omega arith

pub value_again : (r : Reg) (n : ℕ) → ValueFits r n → value_of r (decimal n) ≡ Ok n
unfolding value_of
value_again A6 n f = any_again n f
value_again A7 n f = any_again n f
value_again Sepc n f = any_again n f
value_again Spp n f = upto_again 1 n f (omega arith)
value_again Spie n f = upto_again 1 n f (omega arith)
value_again Sie n f = upto_again 1 n f (omega arith)

-- ---- Entries of a schedule ----

all_decimal : (ds : List ℕ) → AllDigits 10 ds → list_all (is_digit_of 10) ds ≡ true
all_decimal [] h = refl
all_decimal (d ∷ ds) h = and_from _ _ (lt-ltb (digit_value d) 10 h.0) (all_decimal ds h.1)

word_some : (ds : List ℕ) → 0 < length ds → is_word ds ≡ true
word_some [] some = absurd (omega arith)
word_some (d ∷ ds) some = refl

digits_again : (n : ℕ) → n < 2 ^ 64 → is_digits (decimal n) ≡ true
unfolding is_digits
digits_again n small =
    let is = decimal_is_IsNumeral n small in
    and_from _ _ (word_some (decimal n) is.0.0) (all_decimal (decimal n) is.0.1)

entry_number_again : (n : ℕ) → n ≤ 255 → entry_number (decimal n) ≡ Ok n
unfolding entry_number
entry_number_again n low =
    rw (digits_again n (omega arith), number_decimal n (omega arith), le-leb n 255 low) refl

pub entry_again : (harts reporters : ℕ) (s : Step) → StepFits harts reporters s
    → entry harts reporters (step_word s) ≡ Ok s
unfolding entry hart_entry reporter_entry
entry_again harts reporters (step.Hart n) f = rw (entry_number_again n f.1, lt-ltb n harts f.0) refl
entry_again harts reporters (step.Reporter n) f = rw (entry_number_again n f.1, lt-ltb n reporters f.0) refl

pub entry_plain : (harts reporters : ℕ) (s : Step) → StepFits harts reporters s → IsPlain (step_word s)
entry_plain harts reporters (step.Hart n) f = let low = f.1 in plain_bytes n (omega arith)
entry_plain harts reporters (step.Reporter n) f = let low = f.1 in plain_bytes n (omega arith)
