-- The words that were written are those of the bank with the record in its place.
use Rattle.std.proofs.Common.{◌≡◌, set, cond, ◌∙◌, ap}
use Rattle.std.specs.Prelude.{slice_index}
use Rattle.reri_fields.specs.Fields.{with_bits}
use Rattle.reri_fields.specs.Words.{with_record}
use Rattle.reri_bank.specs.Layout.{words_of, copies_in}
use Rattle.reri_bank.proofs.Placed.{put_is, relaid, recopied, as_long}
use Rattle.reri_bank.proofs.layout.write.Goals as goal
use Rattle.reri_bank.proofs.layout.write.Goals.{After-with_flag_at}

written : (c : After-with_flag_at) → set c.put_record.new.words 0 c.with_flag_at.result
    ≡ words_of (set (copies_in c.args.words.now) c.args.rec c.args.copy.now)
written c =
    let k = c.args.rec in
    let words = with_record c.args.words.now c.place.result c.args.copy.now in
    let told = c.with_flag_at.ensures
    ∙ ap (λ xs. with_bits (slice_index xs 0) k 1 (cond c.valid.result 1 0)) c.put_record.ensures
    ∙ ap (λ valid. with_bits (slice_index words 0) k 1 (cond valid 1 0)) c.valid.ensures in
    ap (λ xs. set xs 0 c.with_flag_at.result) c.put_record.ensures
    ∙ put_is (copies_in c.args.words.now) c.args.words.now k c.place.result c.args.copy.now c.with_flag_at.result
    c.requires.laid.same c.requires.there c.place.ensures told

pub returns-clause-laid : goal.returns-clause-laid
returns-clause-laid c = relaid c.args.words.now _ c.args.rec c.args.copy.now c.requires.laid c.requires.there
    c.requires.kept (written c)

pub returns-clause-length : goal.returns-clause-length
returns-clause-length c = as_long c.args.words.now _ c.args.rec c.args.copy.now c.requires.laid (written c)

pub returns-clause-changed : goal.returns-clause-changed
returns-clause-changed c = recopied c.args.words.now _ c.args.rec c.args.copy.now (written c)
