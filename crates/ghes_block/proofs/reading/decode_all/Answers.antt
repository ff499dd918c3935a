-- The bytes spell copies exactly where they are as long as a block, the copies are those at the places of the
-- registers, a block can hold them, and their block is these bytes.
use Rattle.std.proofs.Common.{◌≡◌, ◌≤◌, List, take, drop, length, sym, ◌∙◌, ap, subst, arith, true}
use Rattle.std.specs.Prelude.{Some}
use Rattle.std.specs.Cmp.Lexicographic.{same_text, other_text}
use Rattle.reri_fields.specs.declared.report.RecordCopy.{RecordCopy}
use Rattle.reri_fields.specs.Block.{AreCopies, Spells, spelling}
use Rattle.ghes_block.proofs.Registers.{entries_are, entries_spelled, length_registers, read_spells, spelled_read}
use Rattle.ghes_block.proofs.reading.decode_all.Goals as goal

some_list : (a b : List RecordCopy) → Some a ≡ Some b → a ≡ b
some_list a b e = cc

pub returns-in-None : goal.returns-in-None
returns-in-None c = λ copies. (
  λ none. cc,
  λ spells. absurd (cc (entries_spelled c.args.bytes.now copies spells, c.in-None.ensures)),
)

pub read_entries-copies-requires-clause-few : goal.read_entries-copies-requires-clause-few
read_entries-copies-requires-clause-few c =
    (entries_are (length c.args.bytes.now) c.in-Some.count (sym c.in-Some.ensures)).few

pub read_entries-copies-requires-clause-length : goal.read_entries-copies-requires-clause-length
read_entries-copies-requires-clause-length c =
    (entries_are (length c.args.bytes.now) c.in-Some.count (sym c.in-Some.ensures)).total_is

pub returns-then-not-are_copies : goal.returns-then-not-are_copies
returns-then-not-are_copies c = λ copies. (
  λ none. cc,
  λ spells.
      let e : c.as_slice.result.now ≡ copies = c.as_slice.ensures.value
      ∙ (c.read_entries-copies.ensures
      ∙ spelled_read c.args.bytes.now copies c.in-Some.count (sym c.in-Some.ensures) spells) in
      let fits : c.are_copies.result ≡ true = c.are_copies.ensures.1 (subst AreCopies (sym e) spells.each) in
      cc,
)

pub encode_all-length-requires-clause-some : goal.encode_all-length-requires-clause-some
encode_all-length-requires-clause-some c =
    let many = entries_are (length c.args.bytes.now) c.in-Some.count (sym c.in-Some.ensures) in
    let read : length c.read_entries-copies.result.items ≡ c.in-Some.count =
    ap length c.read_entries-copies.ensures ∙ length_registers c.in-Some.count (drop 20 c.args.bytes.now) in
    omega (arith, many.some, read, ap (λ (cs : List RecordCopy). length cs) c.as_slice-2.ensures.value)

pub returns-then-eq : goal.returns-then-eq
returns-then-eq c =
    let many = entries_are (length c.args.bytes.now) c.in-Some.count (sym c.in-Some.ensures) in
    let read : length c.read_entries-copies.result.items ≡ c.in-Some.count =
    ap length c.read_entries-copies.ensures ∙ length_registers c.in-Some.count (drop 20 c.args.bytes.now) in
    let copies : List RecordCopy = c.read_entries-copies.result.items in
    let text : c.args.bytes.now ≡ spelling copies =
    sym (same_text _ c.args.bytes.now (sym c.if-eq.true ∙ c.eq.ensures)) ∙ c.encode_all-length.ensures.block
    ∙ ap spelling c.as_slice-2.ensures.value in
    let each : AreCopies copies =
    subst AreCopies c.as_slice.ensures.value (c.are_copies.ensures.0 c.if-not-are_copies.false) in
    let some : 1 ≤ length copies = omega (arith, many.some, read) in
    let few : length copies ≤ 4 = omega (arith, many.few, read) in
    λ others. (
      λ e. subst (Spells c.args.bytes.now) (some_list copies others e) (read_spells c.args.bytes.now copies some few
          each text),
      λ spells. ap Some ((c.read_entries-copies.ensures
          ∙ spelled_read c.args.bytes.now others c.in-Some.count (sym c.in-Some.ensures) spells)),
    )

pub returns-else-eq : goal.returns-else-eq
returns-else-eq c = λ copies. (
  λ none. cc,
  λ spells.
      let text : take c.encode_all-length.result c.encode_all-length.new.out ≡ c.args.bytes.now =
      c.encode_all-length.ensures.block
      ∙ ap spelling (c.as_slice-2.ensures.value
      ∙ (c.read_entries-copies.ensures
      ∙ spelled_read c.args.bytes.now copies c.in-Some.count (sym c.in-Some.ensures) spells)) ∙ sym spells.same in
      absurd (other_text _ c.args.bytes.now (sym c.if-eq.false ∙ c.eq.ensures) text),
)
