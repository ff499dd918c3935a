-- What stands at the places of the registers in the block of some copies.
use Rattle.std.proofs.Common.{◌≡◌, ℕ, zero, suc, ◌^◌, ◌<◌, ◌≤◌, ◌+◌, ◌*◌, ◌-◌, List, [], ◌∷◌, ◌++◌, length, length-drop, take, drop, drop-drop, append_assoc, append-nil, refl, ◌∙◌, ap, sym, arith, Bool, true, false, ◌⊎◌, inl, inr}
use Rattle.std.specs.Prelude.{Some, None, Option, ◌==◌, if◌then◌else◌}
use Rattle.std.specs.List.{flat_map}
use Rattle.std.proofs.lemmas.Bool.Decides.{nat_tests}
use Rattle.std.proofs.lemmas.List.{take_all}
use Rattle.byteorder.specs.Endian.{little_number}
use Rattle.byteorder.specs.Numbers.{little_number-reads_back}
use Rattle.reri_fields.specs.declared.report.RecordCopy.{RecordCopy}
use Rattle.reri_fields.specs.Block.{AreCopies, AreWords, Spells, digits, entry, header, section, section_type, spelling, zeros}
use Rattle.ghes_block.specs.Sections.{entries_in, registers_in, registers_of}
use Rattle.ghes_block.proofs.Digits.{digits_are}
use Rattle.ghes_block.proofs.Entries.{length_spelling}

read_back : (number : ℕ) (rest : List ℕ) → number < 2 ^ 64 → little_number 8 (digits 8 number ++ rest) ≡ number
read_back number rest fits = rw (digits_are 8 number) (little_number-reads_back 8 number rest fits)

control_at : (copy : RecordCopy) (rest : List ℕ) → AreWords copy → little_number 8 (drop 72 (entry copy ++ rest))
    ≡ copy.control
unfolding entry section section_type zeros digits
control_at copy rest words =
    read_back copy.control
    (digits 8 copy.status ++ digits 8 copy.address ++ digits 8 copy.info ++ digits 8 copy.supplement
    ++ digits 8 copy.time ++ rest)
    words.control

status_at : (copy : RecordCopy) (rest : List ℕ) → AreWords copy → little_number 8 (drop 80 (entry copy ++ rest))
    ≡ copy.status
unfolding entry section section_type zeros digits
status_at copy rest words =
    read_back copy.status
    (digits 8 copy.address ++ digits 8 copy.info ++ digits 8 copy.supplement ++ digits 8 copy.time ++ rest) words.status

address_at : (copy : RecordCopy) (rest : List ℕ) → AreWords copy → little_number 8 (drop 88 (entry copy ++ rest))
    ≡ copy.address
unfolding entry section section_type zeros digits
address_at copy rest words =
    read_back copy.address (digits 8 copy.info ++ digits 8 copy.supplement ++ digits 8 copy.time ++ rest) words.address

info_at : (copy : RecordCopy) (rest : List ℕ) → AreWords copy → little_number 8 (drop 96 (entry copy ++ rest))
    ≡ copy.info
unfolding entry section section_type zeros digits
info_at copy rest words = read_back copy.info (digits 8 copy.supplement ++ digits 8 copy.time ++ rest) words.info

supplement_at : (copy : RecordCopy) (rest : List ℕ) → AreWords copy →
    little_number 8 (drop 104 (entry copy ++ rest)) ≡ copy.supplement
unfolding entry section section_type zeros digits
supplement_at copy rest words = read_back copy.supplement (digits 8 copy.time ++ rest) words.supplement

time_at : (copy : RecordCopy) (rest : List ℕ) → AreWords copy → little_number 8 (drop 112 (entry copy ++ rest))
    ≡ copy.time
unfolding entry section section_type zeros digits
time_at copy rest words = read_back copy.time rest words.time

same_registers : (a b : RecordCopy) → a.control ≡ b.control → a.status ≡ b.status → a.address ≡ b.address →
    a.info ≡ b.info → a.supplement ≡ b.supplement → a.time ≡ b.time → a ≡ b
same_registers a b e1 e2 e3 e4 e5 e6 =
    λ i. record { control = e1 i; status = e2 i; address = e3 i; info = e4 i; supplement = e5 i; time = e6 i }

one_read : (copy : RecordCopy) (rest : List ℕ) → AreWords copy → registers_in (entry copy ++ rest) ≡ copy
one_read copy rest words =
    same_registers (registers_in (entry copy ++ rest)) copy (control_at copy rest words) (status_at copy rest words)
    (address_at copy rest words) (info_at copy rest words) (supplement_at copy rest words) (time_at copy rest words)

behind_entry : (copy : RecordCopy) (rest : List ℕ) → drop 120 (entry copy ++ rest) ≡ rest
unfolding entry section section_type zeros digits
behind_entry copy rest = refl

behind_header : (copies : List RecordCopy) (rest : List ℕ) → drop 20 (header copies ++ rest) ≡ rest
unfolding header digits
behind_header copies rest = refl

all_read : (copies : List RecordCopy) → AreCopies copies → registers_of (length copies) (flat_map entry copies) ≡ copies
unfolding registers_of
all_read [] are = refl
all_read (copy ∷ copies) are =
    let rest : List ℕ = flat_map entry copies
    in ap (λ c. c ∷ registers_of (length copies) (drop 120 (entry copy ++ rest))) (one_read copy rest are.1)
    ∙ ap (λ t. copy ∷ registers_of (length copies) t) (behind_entry copy rest)
    ∙ ap (λ cs. copy ∷ cs) (all_read copies are.2)

-- the lengths of blocks

pub length_spelled : (text : List ℕ) (copies : List RecordCopy) → Spells text copies
    → length text ≡ 20 + 120 * length copies
length_spelled text copies spells = ap length spells.same ∙ length_spelling copies

-- a number of entries that a block may have
pub record SoMany (count total : ℕ) : Type 0 where
  pub some : 1 ≤ count
  pub few : count ≤ 4
  pub total_is : total ≡ 20 + 120 * count

some_is : (a b : ℕ) → Some a ≡ Some b → a ≡ b
some_is a b e = cc

so_many : (count : ℕ) → 1 ≤ count → count ≤ 4 → entries_in (20 + 120 * count) ≡ Some count
unfolding entries_in
so_many zero s f = absurd (omega arith)
so_many (suc zero) s f = refl
so_many (suc (suc zero)) s f = refl
so_many (suc (suc (suc zero))) s f = refl
so_many (suc (suc (suc (suc zero)))) s f = refl
so_many (suc (suc (suc (suc (suc n))))) s f = absurd (omega arith)

if_same : (b : Bool) (n count : ℕ) (o : Option ℕ) → (if b then Some n else o) ≡ Some count
    → ((b ≡ true) × (n ≡ count)) ⊎ (o ≡ Some count)
if_same true n count o e = inl (refl, some_is n count e)
if_same false n count o e = inr e

-- so many entries are one to four, and the length is theirs
pub entries_are : (total count : ℕ) → entries_in total ≡ Some count → SoMany count total
unfolding entries_in
entries_are total count e =
    elim (if_same (total == 140) 1 count _ e) [
      | inl p ↦ record { some = omega arith; few = omega arith; total_is = grind (arith, nat_tests, p.0, p.1) }
      | inr e2 ↦ elim (if_same (total == 260) 2 count _ e2) [
        | inl p ↦ record { some = omega arith; few = omega arith; total_is = grind (arith, nat_tests, p.0, p.1) }
        | inr e3 ↦ elim (if_same (total == 380) 3 count _ e3) [
          | inl p ↦ record { some = omega arith; few = omega arith; total_is = grind (arith, nat_tests, p.0, p.1) }
          | inr e4 ↦ elim (if_same (total == 500) 4 count None e4) [
            | inl p ↦ record { some = omega arith; few = omega arith; total_is = grind (arith, nat_tests, p.0, p.1) }
            | inr e5 ↦ absurd (cc e5)
          ]
        ]
      ]
    ]

-- as many entries as the copies that a text spells
pub entries_spelled : (text : List ℕ) (copies : List RecordCopy) → Spells text copies → entries_in (length text)
    ≡ Some (length copies)
entries_spelled text copies spells =
    ap entries_in (length_spelled text copies spells) ∙ so_many (length copies) spells.some spells.few

-- what is read in a text is the copies that it spells
pub spelled_read : (text : List ℕ) (copies : List RecordCopy) (count : ℕ) → entries_in (length text) ≡ Some count →
    Spells text copies → registers_of count (drop 20 text) ≡ copies
unfolding spelling
spelled_read text copies count known spells =
    let n : length copies ≡ count = some_is (length copies) count (sym (entries_spelled text copies spells) ∙ known)
    in let t : drop 20 text ≡ flat_map entry copies = ap (drop 20) spells.same
    ∙ behind_header copies (flat_map entry copies)
    in ap (λ m. registers_of m (drop 20 text)) (sym n) ∙ ap (registers_of (length copies)) t
    ∙ all_read copies spells.each

-- one entry more is read
pub next_read : (count i : ℕ) (bytes : List ℕ) (all so_far more : List RecordCopy) (next : RecordCopy) → i < count →
    all ≡ so_far ++ registers_of (count - i) (drop (20 + 120 * i) bytes)
    → next ≡ registers_in (take (length bytes - (20 + 120 * i)) (drop (20 + 120 * i) bytes)) →
    more ≡ so_far ++ next ∷ [] → all ≡ more ++ registers_of (count - (i + 1)) (drop (20 + 120 * (i + 1)) bytes)
unfolding registers_of
next_read count i bytes all so_far more next below e next_is more_is =
    let n : count - i ≡ suc (count - (i + 1)) = omega arith
    in let here : List ℕ = drop (20 + 120 * i) bytes
    in let p : 20 + 120 * i + 120 ≡ 20 + 120 * (i + 1) = omega arith
    in let d : drop 120 here ≡ drop (20 + 120 * (i + 1)) bytes = drop-drop 120 (20 + 120 * i) bytes
    ∙ ap (λ m. drop m bytes) p
    in let whole : take (length bytes - (20 + 120 * i)) here ≡ here =
    take_all (length bytes - (20 + 120 * i)) here (omega (arith, length-drop (20 + 120 * i) bytes))
    in let left : List RecordCopy = registers_of (count - (i + 1)) (drop (20 + 120 * (i + 1)) bytes)
    in e ∙ ap (λ m. so_far ++ registers_of m here) n
    ∙ ap (λ t. so_far ++ registers_in here ∷ registers_of (count - (i + 1)) t) d
    ∙ ap (λ r. so_far ++ r ∷ left) (sym (next_is ∙ ap registers_in whole))
    ∙ sym (append_assoc so_far (next ∷ []) left)
    ∙ ap (λ cs. cs ++ left) (sym more_is)

-- all entries are read
pub last_read : (count i : ℕ) (bytes : List ℕ) (all so_far : List RecordCopy) → count ≤ i →
    all ≡ so_far ++ registers_of (count - i) (drop (20 + 120 * i) bytes) → so_far ≡ all
unfolding registers_of
last_read count i bytes all so_far past e =
    let n : count - i ≡ 0 = omega arith
    in sym (e ∙ ap (λ m. so_far ++ registers_of m (drop (20 + 120 * i) bytes)) n ∙ append-nil so_far)

-- what is read is what the text spells, where its block is the text
pub read_spells : (text : List ℕ) (copies : List RecordCopy) → 1 ≤ length copies → length copies ≤ 4
    → AreCopies copies →
    text ≡ spelling copies → Spells text copies
read_spells text copies some few each same = record { some = some; few = few; each = each; same = same }

pub length_registers : (count : ℕ) (entries : List ℕ) → length (registers_of count entries) ≡ count
unfolding registers_of
length_registers zero entries = refl
length_registers (suc count) entries = ap suc (length_registers count (drop 120 entries))
