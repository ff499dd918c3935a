-- One bank more, and all of them.
use Rattle.std.proofs.Common.{◌≡◌, ℕ, ◌<◌, ◌≤◌, List, length, Option, Some, refl, sym, ap, ◌∙◌, subst, arith}
use Rattle.std.specs.Option.{option_map}
use Rattle.std.proofs.lemmas.Option.{same_Some}
use Rattle.reri_fields.specs.declared.report.RecordCopy.{RecordCopy}
use Rattle.reri_fields.specs.declared.drain.Phase.{Phase}
use Rattle.reri_fields.specs.Banks.{BankView}
use Rattle.reri_bank.proofs.Stands.{get_there}
use Rattle.board_bank.specs.Standing.{BankParts}
use Rattle.board_report.specs.Told.{AreWords, phase_of, told_bank_lines}
use Rattle.board_report.proofs.Growing.{grows-nil}
use Rattle.board_report.proofs.OneMore.{grows-more, grows-same, banks-next, banks-all}
use Rattle.board_report.proofs.Words.{banks-more, banks-seen}
use Rattle.board_report.proofs.walks.write_banks.Goals as goal

-- what is read of a bank that is there
read_of : {A : Type 0} (o : Option BankParts) (f : BankParts → A) (b : BankParts) {x : A} → o ≡ Some b
    → option_map f o ≡ Some x → f b ≡ x
read_of o f b {x} is read = same_Some (f b) x (sym (ap (option_map f) is) ∙ read)

pub loop-number-init : goal.loop-number-init
loop-number-init g c =
    record {
      empty = c.requires.empty;
      wrote = grows-nil _;
      words = λ i b low. absurd (omega (arith, low));
      same_pages = refl;
    }

pub loop-number-preserved : goal.loop-number-preserved
loop-number-preserved g c =
    let p = c.args.parts.now in
    let n = c.loop-number.number in
    let low : n < length p.banks.items = omega (arith, c.loop-number-test.true, c.bank_count-number-end.ensures) in
    let b = get_there p.banks.items n low in
    let bank : b.0.bank ≡ c.records-bank.result.now = read_of _ (λ x. x.bank) b.0 b.1 c.records-bank.ensures in
    let slot : b.0.slot ≡ c.slot-slot.result.now = read_of _ (λ x. x.slot) b.0 b.1 c.slot-slot.ensures in
    let phase : phase_of b.0.drain ≡ c.phase-phase.result =
    read_of _ (λ x. phase_of x.drain) b.0 b.1 c.phase-phase.ensures in
    let d = c.bank_decl-decl.result.now in
    let told =
    ap (λ (v : BankView). told_bank_lines n d v c.slot-slot.result.now c.phase-phase.result) (sym bank)
    ∙ ap (λ (v : List RecordCopy). told_bank_lines n d b.0.bank v c.phase-phase.result) (sym slot)
    ∙ ap (λ (v : Option (Phase × ℕ)). told_bank_lines n d b.0.bank b.0.slot v) (sym phase) in
    record {
      empty = c.write_one_bank.ensures.empty;
      wrote = grows-more _ _ _ _ _ _ (banks-next 0 n n p.decls.items p.banks.items d b.0 (omega arith)
          c.bank_decl-decl.ensures b.1) c.loop-number.invariant.wrote (grows-same _ _ _ _ told
          c.write_one_bank.ensures.wrote);
      words = banks-more p.banks.items n b.0 b.1 (subst (λ (v : BankView). AreWords v.copies) (sym bank)
          c.write_one_bank.ensures.words) c.loop-number.invariant.words;
      same_pages = c.write_one_bank.ensures.same_pages ∙ c.loop-number.invariant.same_pages;
    }

pub returns-clause-wrote : goal.returns-clause-wrote
returns-clause-wrote g c =
    let p = c.args.parts.now in
    let all : length p.banks.items ≤ c.loop-number.number = omega
    (arith, c.loop-number-test.false, c.bank_count-number-end.ensures) in
    grows-same _ _ _ _ (banks-all c.loop-number.number p.decls.items p.banks.items (omega (arith, all, p.declared)) all)
    c.loop-number.invariant.wrote

pub returns-clause-words : goal.returns-clause-words
returns-clause-words g c =
    banks-seen c.args.parts.now.banks.items c.loop-number.number (omega
    (arith, c.loop-number-test.false, c.bank_count-number-end.ensures)) c.loop-number.invariant.words
