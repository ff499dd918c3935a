-- The words are those of the bank with one record logged into.
use Rattle.std.proofs.Common.{◌≡◌, ℕ, ◌+◌, List, set, slice_get, Some, cond, refl, sym, ◌∙◌, ap, arith}
use Rattle.std.specs.Prelude.{slice_index}
use Rattle.reri_fields.specs.Fields.{with_bits, status_fields}
use Rattle.reri_fields.specs.Words.{with_record, copy_at}
use Rattle.reri_bank.specs.Layout.{words_of, copies_in}
use Rattle.reri_log.proofs.Kept.{updates_keep}
use Rattle.reri_fields.proofs.Written.{written_is}
use Rattle.reri_bank.proofs.Placed.{read_is, put_is, relaid, recopied, as_long}
use Rattle.reri_bank.proofs.layout.log_into.Goals as goal
use Rattle.reri_bank.proofs.layout.log_into.Goals.{After-with_flag_at}

status_is : (words : List ℕ) (at : ℕ) → (copy_at words at).status ≡ slice_index words (at + 1)
unfolding copy_at
status_is words at = refl

valid_is : (c : After-with_flag_at)
    → c.valid-valid.result ≡ (status_fields c.log_words-answer.ensures.registers.after.status).valid
valid_is c =
    let at = c.place.result in
    let one = c.log_words-answer.ensures.registers in
    let new = c.log_words-answer.new.words in
    let back : copy_at new at ≡ one.after = ap (λ words. copy_at words at) one.is
    ∙ written_is c.args.words.now at one.after (omega (arith, c.place.ensures, c.requires.room)) in
    let status : slice_index new (c.place-2.result + 1)
    ≡ one.after.status = ap (λ n. slice_index new (n + 1)) (c.place-2.ensures ∙ sym c.place.ensures)
    ∙ sym (status_is new at) ∙ ap (λ copy. copy.status) back in
    c.valid-valid.ensures ∙ ap (λ n. (status_fields n).valid) status

written : (c : After-with_flag_at) → set c.log_words-answer.new.words 0 c.with_flag_at.result
    ≡ words_of (set (copies_in c.args.words.now) c.args.rec c.log_words-answer.ensures.registers.after)
written c =
    let k = c.args.rec in
    let one = c.log_words-answer.ensures.registers in
    let words = with_record c.args.words.now c.place.result one.after in
    let told = c.with_flag_at.ensures ∙ ap (λ xs. with_bits (slice_index xs 0) k 1 (cond c.valid-valid.result 1 0))
    one.is ∙ ap (λ b. with_bits (slice_index words 0) k 1 (cond b 1 0)) (valid_is c) in
    ap (λ xs. set xs 0 c.with_flag_at.result) one.is
    ∙ put_is (copies_in c.args.words.now) c.args.words.now k c.place.result one.after c.with_flag_at.result
    c.requires.laid.same c.requires.there c.place.ensures told

-- the record before
was : (c : After-with_flag_at) → slice_get (copies_in c.args.words.now) c.args.rec
    ≡ Some (copy_at c.args.words.now c.place.result)
was c = read_is (copies_in c.args.words.now) c.args.words.now c.args.rec c.place.result c.requires.laid.same
    c.requires.there c.place.ensures

pub returns-clause-laid : goal.returns-clause-laid
returns-clause-laid c =
    let one = c.log_words-answer.ensures.registers in
    let kept = updates_keep _ c.args.report.now one.after c.log_words-answer.result one.changes
    (c.requires.laid.records c.args.rec _ (was c)) in
    relaid c.args.words.now _ c.args.rec one.after c.requires.laid c.requires.there kept (written c)

pub returns-clause-length : goal.returns-clause-length
returns-clause-length c = as_long c.args.words.now _ c.args.rec c.log_words-answer.ensures.registers.after
    c.requires.laid (written c)

pub returns-clause-changed : goal.returns-clause-changed
returns-clause-changed c =
    let one = c.log_words-answer.ensures.registers in
    record {
      before = copy_at c.args.words.now c.place.result;
      after = one.after;
      was = was c;
      is = recopied c.args.words.now _ c.args.rec one.after (written c);
      changes = one.changes;
    }
