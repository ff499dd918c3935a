-- The words of a bank: where its records stand among them, and what becomes of them once a record is written.
use Rattle.std.proofs.Common.{◌≡◌, ◌≢◌, ℕ, zero, suc, ◌+◌, ◌*◌, ◌/◌, ◌%◌, ◌^◌, ◌<◌, ◌≤◌, true, false, cond, List, [], ◌∷◌, ◌++◌, length, set, slice_get, Some, None, refl, inl, inr, sym, ap, ◌∙◌, subst, arith}
use Rattle.std.specs.Prelude.{slice_index}
use Rattle.std.specs.List.{flat_map}
use Rattle.std.proofs.lemmas.Bool.{cases_eq, eq-eqb, ne_eqb}
use Rattle.std.proofs.lemmas.Option.{same_Some}
use Rattle.std.proofs.lemmas.List.{length-set}
use Rattle.std.proofs.lemmas.Nat.{shr-shr, mod-pow-add, pow-add}
use Rattle.reri_fields.specs.declared.report.RecordCopy.{RecordCopy}
use Rattle.reri_fields.specs.Fields.{with_bits, status_fields}
use Rattle.reri_fields.specs.Records.{IsRecord}
use Rattle.reri_fields.specs.Words.{registers, copy_at, with_record}
use Rattle.reri_bank.specs.Registers.{summary}
use Rattle.reri_bank.proofs.Stands.{get-set_same, get-set_other}
use Rattle.reri_bank.specs.Layout.{words_of, word_at, records_in, copies_in, AreRecords, IsLaidOut}

-- ---- Words and records ----

pub records_back : (copies : List RecordCopy) → records_in (flat_map registers copies) ≡ copies
unfolding records_in
records_back [] = refl
records_back (copy ∷ copies) = ap (λ rest. copy ∷ rest) (records_back copies)

pub copies_back : (copies : List RecordCopy) → copies_in (words_of copies) ≡ copies
unfolding words_of
copies_back copies = records_back copies

length_flat : (copies : List RecordCopy) → length (flat_map registers copies) ≡ 6 * length copies
length_flat [] = refl
length_flat (copy ∷ copies) = omega (arith, length_flat copies)

pub length_words : (copies : List RecordCopy) → length (words_of copies) ≡ 1 + 6 * length copies
unfolding words_of
length_words copies = omega (arith, length_flat copies)

-- the words of a bank with these records are laid out
pub lay_out : (copies : List RecordCopy) (words : List ℕ) → 0 < length copies → length copies ≤ 63 → AreRecords copies
    → words ≡ words_of copies → IsLaidOut words
lay_out copies words some few are is =
    let back : copies_in words ≡ copies = ap copies_in is ∙ copies_back copies in
    record {
      some = subst (λ xs. 0 < length xs) (sym back) some;
      few = subst (λ xs. length xs ≤ 63) (sym back) few;
      same = is ∙ ap words_of (sym back);
      records = subst AreRecords (sym back) are;
    }

-- ---- Places ----

-- the place of a record's first word
abbrev pub place : ℕ → ℕ
place zero = 1
place (suc k) = suc (suc (suc (suc (suc (suc (place k))))))

pub place_is : (k : ℕ) → 1 + 6 * k ≡ place k
place_is zero = refl
place_is (suc k) = omega (arith, place_is k)

next : (at n : ℕ) → suc at + n ≡ suc (at + n)
next at n = omega arith

read_next : (word : ℕ) (words : List ℕ) (at : ℕ) → copy_at (word ∷ words) (suc at) ≡ copy_at words at
unfolding copy_at
read_next word words at = rw (next at 1, next at 2, next at 3, next at 4, next at 5) refl

write_next : (word : ℕ) (words : List ℕ) (at : ℕ) (copy : RecordCopy) → with_record (word ∷ words) (suc at) copy
    ≡ word ∷ with_record words at copy
unfolding with_record
write_next word words at copy = rw (next at 1, next at 2, next at 3, next at 4, next at 5) refl

read_first : (word : ℕ) (copy : RecordCopy) (words : List ℕ) → copy_at (word ∷ registers copy ++ words) 1 ≡ copy
unfolding copy_at
read_first word copy words = refl

write_first : (word : ℕ) (old copy : RecordCopy) (words : List ℕ) → with_record (word ∷ registers old ++ words) 1 copy
    ≡ word ∷ registers copy ++ words
unfolding with_record
write_first word old copy words = refl

-- past the first record, a place is one among the words from its last register on
read_past : (word : ℕ) (first : RecordCopy) (words : List ℕ) (k : ℕ)
    → copy_at (word ∷ registers first ++ words) (place (suc k)) ≡ copy_at (first.time ∷ words) (place k)
read_past word first words k =
    read_next word _ _ ∙ read_next first.control _ _ ∙ read_next first.status _ _ ∙ read_next first.address _ _
    ∙ read_next first.info _ _ ∙ read_next first.supplement _ _

write_past : (word : ℕ) (first copy : RecordCopy) (words : List ℕ) (k : ℕ)
    → with_record (word ∷ registers first ++ words) (place (suc k)) copy ≡ word ∷ first.control ∷ first.status
    ∷ first.address ∷ first.info ∷ first.supplement ∷ with_record (first.time ∷ words) (place k) copy
write_past word first copy words k =
    write_next word _ _ copy
    ∙ ap (λ w. word ∷ w) (write_next first.control _ _ copy
    ∙ ap (λ w. first.control ∷ w) (write_next first.status _ _ copy
    ∙ ap (λ w. first.status ∷ w) (write_next first.address _ _ copy
    ∙ ap (λ w. first.address ∷ w) (write_next first.info _ _ copy
    ∙ ap (λ w. first.info ∷ w) (write_next first.supplement _ _ copy)))))

read_at : (word : ℕ) (copies : List RecordCopy) (k : ℕ) → k < length copies
    → slice_get copies k ≡ Some (copy_at (word ∷ flat_map registers copies) (place k))
read_at word [] k h = absurd (omega arith)
read_at word (first ∷ copies) zero h = ap (λ c. Some c) (sym (read_first word first (flat_map registers copies)))
read_at word (first ∷ copies) (suc k) h =
    read_at first.time copies k (omega arith)
    ∙ ap (λ c. Some c) (sym (read_past word first (flat_map registers copies) k))

write_at : (word : ℕ) (copies : List RecordCopy) (k : ℕ) (copy : RecordCopy) → k < length copies
    → with_record (word ∷ flat_map registers copies) (place k) copy ≡ word ∷ flat_map registers (set copies k copy)
write_at word [] k copy h = absurd (omega arith)
write_at word (first ∷ copies) zero copy h = write_first word first copy (flat_map registers copies)
write_at word (first ∷ copies) (suc k) copy h =
    write_past word first copy (flat_map registers copies) k
    ∙ ap (λ w. word ∷ first.control ∷ first.status ∷ first.address ∷ first.info ∷ first.supplement ∷ w)
    (write_at first.time copies k copy (omega arith))

pub read_is : (copies : List RecordCopy) (words : List ℕ) (k at : ℕ) → words ≡ words_of copies → k < length copies
    → at ≡ 1 + 6 * k → slice_get copies k ≡ Some (copy_at words at)
unfolding words_of
read_is copies words k at is h here =
    read_at (summary copies) copies k h ∙ ap (λ w. Some (copy_at w (place k))) (sym is)
    ∙ ap (λ n. Some (copy_at words n)) (sym (here ∙ place_is k))

-- ---- The summary ----

-- the summary's bit of one record
abbrev pub bit : RecordCopy → ℕ
bit copy = cond (status_fields copy.status).valid 1 0

bit_small : (copy : RecordCopy) → bit copy ≤ 1
bit_small copy =
    elim (status_fields copy.status).valid as (λ b. cond b 1 0 ≤ 1) [ true ↦ omega arith | false ↦ omega arith ]

summary_more : (copy : RecordCopy) (copies : List RecordCopy) → summary (copy ∷ copies) ≡ bit copy + 2 * summary copies
unfolding summary
summary_more copy copies = refl

set_first : (b s v : ℕ) → b ≤ 1 → with_bits (b + 2 * s) 0 1 v ≡ v + 2 * s
unfolding with_bits
set_first b s v h = omega arith

half : (b s : ℕ) → b ≤ 1 → (b + 2 * s) / 2 ≡ s
half b s h = omega arith

odd : (b s : ℕ) → b ≤ 1 → (b + 2 * s) % 2 ≡ b
odd b s h = omega arith

-- one bit further up
twice : (b q x v p r : ℕ) → q * (2 * x) + v * (2 * p) + (r * 2 + b) ≡ b + 2 * (q * x + v * p + r)
twice b q x v p r = omega arith

set_further : (b s k v : ℕ) → b ≤ 1 → with_bits (b + 2 * s) (k + 1) 1 v ≡ b + 2 * with_bits s k 1 v
unfolding with_bits
set_further b s k v h =
    let n : ℕ = b + 2 * s in
    let above : n / 2 ^ (k + 1 + 1) ≡ s / 2 ^ (k + 1) = ap (λ m. n / 2 ^ m) (omega arith) ∙ sym (shr-shr n 1 (k + 1))
    ∙ ap (λ m. m / 2 ^ (k + 1)) (half b s h) in
    let below : n % 2 ^ (k + 1) ≡ s % 2 ^ k * 2 + b = mod-pow-add n k 1 ∙ ap (λ m. m % 2 ^ k * 2 + n % 2) (half b s h)
    ∙ ap (λ m. s % 2 ^ k * 2 + m) (odd b s h) in
    let wide : 2 ^ (k + 1 + 1) ≡ 2 * 2 ^ (k + 1) = omega (arith, pow-add 2 (k + 1) 1) in
    let narrow : 2 ^ (k + 1) ≡ 2 * 2 ^ k = omega (arith, pow-add 2 k 1) in
    ap (λ m. m * 2 ^ (k + 1 + 1) + v * 2 ^ (k + 1) + n % 2 ^ (k + 1)) above
    ∙ ap (λ m. s / 2 ^ (k + 1) * m + v * 2 ^ (k + 1) + n % 2 ^ (k + 1)) wide
    ∙ ap (λ m. s / 2 ^ (k + 1) * (2 * 2 ^ (k + 1)) + v * m + n % 2 ^ (k + 1)) narrow
    ∙ ap (λ m. s / 2 ^ (k + 1) * (2 * 2 ^ (k + 1)) + v * (2 * 2 ^ k) + m) below
    ∙ twice b (s / 2 ^ (k + 1)) (2 ^ (k + 1)) v (2 ^ k) (s % 2 ^ k)

-- the summary once a record has changed
pub summary_set : (copies : List RecordCopy) (k : ℕ) (copy : RecordCopy) → k < length copies
    → with_bits (summary copies) k 1 (cond (status_fields copy.status).valid 1 0) ≡ summary (set copies k copy)
summary_set [] k copy h = absurd (omega arith)
summary_set (first ∷ copies) zero copy h =
    ap (λ n. with_bits n 0 1 (bit copy)) (summary_more first copies)
    ∙ set_first (bit first) (summary copies) (bit copy) (bit_small first) ∙ sym (summary_more copy copies)
summary_set (first ∷ copies) (suc k) copy h =
    let next : suc k ≡ k + 1 = omega arith in
    ap (λ n. with_bits n (suc k) 1 (bit copy)) (summary_more first copies)
    ∙ ap (λ n. with_bits (bit first + 2 * summary copies) n 1 (bit copy)) next
    ∙ set_further (bit first) (summary copies) k (bit copy) (bit_small first)
    ∙ ap (λ n. bit first + 2 * n) (summary_set copies k copy (omega arith))
    ∙ sym (summary_more first (set copies k copy))

-- ---- One record is written ----

pub write_is : (copies : List RecordCopy) (words : List ℕ) (k at : ℕ) (copy : RecordCopy) → words ≡ words_of copies
    → k < length copies → at ≡ 1 + 6 * k → with_record words at copy ≡ summary copies
    ∷ flat_map registers (set copies k copy)
unfolding words_of
write_is copies words k at copy is h here =
    ap (λ w. with_record w at copy) is ∙ ap (λ n. with_record (summary copies ∷ flat_map registers copies) n copy)
    (here ∙ place_is k) ∙ write_at (summary copies) copies k copy h

-- a record and its bit in the summary are written
pub put_is : (copies : List RecordCopy) (words : List ℕ) (k at : ℕ) (copy : RecordCopy) (bit : ℕ)
    → words ≡ words_of copies → k < length copies → at ≡ 1 + 6 * k
    → bit ≡ with_bits (slice_index (with_record words at copy) 0) k 1 (cond (status_fields copy.status).valid 1 0)
    → set (with_record words at copy) 0 bit ≡ words_of (set copies k copy)
unfolding words_of
put_is copies words k at copy bit is h here told =
    let written = write_is copies words k at copy is h here in
    let first : bit ≡ summary (set copies k copy) = told
    ∙ ap (λ w. with_bits (slice_index w 0) k 1 (cond (status_fields copy.status).valid 1 0)) written
    ∙ summary_set copies k copy h in
    ap (λ w. set w 0 bit) written ∙ ap (λ n. n ∷ flat_map registers (set copies k copy)) first

-- ---- What a layout gives ----

pub laid_length : (words : List ℕ) → IsLaidOut words → length words ≡ 1 + 6 * length (copies_in words)
laid_length words laid = ap length laid.same ∙ length_words (copies_in words)

pub laid_room : (words : List ℕ) (k : ℕ) → IsLaidOut words → k < length (copies_in words) → 7 + 6 * k ≤ length words
laid_room words k laid h = omega (arith, laid_length words laid)

-- a record that is written leaves each what registers always are
records_set : (copies : List RecordCopy) (k : ℕ) (copy : RecordCopy) → k < length copies → AreRecords copies
    → IsRecord copy → AreRecords (set copies k copy)
records_set copies k copy h are is =
    λ at other there.
    elim (cases_eq at k) as (λ _. IsRecord other) [
      | inl here ↦
          subst IsRecord
          (sym (same_Some other copy (sym there ∙ ap (λ i. slice_get (set copies k copy) i) here
          ∙ get-set_same copies k copy h))) is
      | inr elsewhere ↦ are at other (sym (get-set_other copies k at copy elsewhere) ∙ there)
    ]

pub relaid : (words later : List ℕ) (k : ℕ) (copy : RecordCopy) → IsLaidOut words → k < length (copies_in words)
    → IsRecord copy → later ≡ words_of (set (copies_in words) k copy) → IsLaidOut later
relaid words later k copy laid h is now =
    let copies = copies_in words in
    let many = length-set copies k copy in
    lay_out (set copies k copy) later (omega (arith, many, laid.some)) (omega (arith, many, laid.few))
    (records_set copies k copy h laid.records is) now

pub recopied : (words later : List ℕ) (k : ℕ) (copy : RecordCopy) → later ≡ words_of (set (copies_in words) k copy)
    → copies_in later ≡ set (copies_in words) k copy
recopied words later k copy now = ap copies_in now ∙ copies_back (set (copies_in words) k copy)

pub as_long : (words later : List ℕ) (k : ℕ) (copy : RecordCopy) → IsLaidOut words
    → later ≡ words_of (set (copies_in words) k copy) → length later ≡ length words
as_long words later k copy laid now =
    ap length now ∙ length_words (set (copies_in words) k copy)
    ∙ ap (λ n. 1 + 6 * n) (length-set (copies_in words) k copy) ∙ sym (laid_length words laid)

-- word 0 is the summary
pub first_is : (words : List ℕ) → IsLaidOut words → slice_index words 0 ≡ summary (copies_in words)
unfolding words_of
first_is words laid = ap (λ xs. slice_index xs 0) laid.same

-- the word at an offset that is a multiple of 8
pub word_there : (words : List ℕ) (offset : ℕ) → IsLaidOut words → offset % 8 ≡ 0 → word_at (copies_in words) offset
    ≡ slice_get words (offset / 8)
unfolding word_at
word_there words offset laid h = rw (eq-eqb (offset % 8) 0 h) (ap (λ xs. slice_get xs (offset / 8)) (sym laid.same))

pub word_nowhere : (copies : List RecordCopy) (offset : ℕ) → offset % 8 ≢ 0 → word_at copies offset ≡ None
unfolding word_at
word_nowhere copies offset h = rw (ne_eqb (offset % 8) 0 h) refl
