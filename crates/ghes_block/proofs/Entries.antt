-- Entries one behind the other in an array, and what is read at their places.
use Rattle.std.proofs.Common.{◌≡◌, ℕ, ◌+◌, ◌*◌, ◌≤◌, ◌<◌, List, [], ◌∷◌, ◌++◌, get_or, take, drop, drop-drop, length, length-append, refl, ap, ◌∙◌, sym, subst, lit≤, arith}
use Rattle.reri_fields.specs.declared.report.RecordCopy.{RecordCopy}
use Rattle.std.specs.List.{flat_map}
use Rattle.std.proofs.lemmas.List.{flat_map_more, take_more}
use Rattle.reri_fields.specs.Block.{AreCopies, AreWords, IsCopy, Spells, digits, entry, header, section, section_type, slot_text, spelling, zeros}
use Rattle.ghes_block.specs.Held.{Holds}

-- two lists that are equal from one place on are equal from every later place on
pub rest_further : (m n : ℕ) (xs ys : List ℕ) → drop m xs ≡ drop m ys → drop (m + n) xs ≡ drop (m + n) ys
rest_further m n xs ys e = sym (drop-drop n m xs) ∙ ap (drop n) e ∙ drop-drop n m ys

pub holds_nothing : (copies : List RecordCopy) (bytes : List ℕ) → copies ≡ [] → Holds copies bytes 0
unfolding slot_text
holds_nothing copies bytes e =
    subst (λ cs. Holds cs bytes 0) (sym e) (record { each = tt; few = lit≤ tt; fits = lit≤ tt; text = refl })

-- a block of some copies spells them
pub held_spells : (copies : List RecordCopy) (bytes : List ℕ) (used : ℕ) → Holds copies bytes used → 1 ≤ length copies →
    Spells (take used bytes) copies
unfolding slot_text
held_spells [] bytes used holds some = absurd (omega arith)
held_spells (copy ∷ copies) bytes used holds some =
    record { some = some; few = holds.few; each = holds.each; same = holds.text }

one_more : (copies : List RecordCopy) (copy : RecordCopy) → AreCopies copies → IsCopy copy → AreWords copy →
    AreCopies (copies ++ copy ∷ [])
one_more [] copy are is words = (is, words, tt)
one_more (c ∷ copies) copy are is words = (are.0, are.1, one_more copies copy are.2 is words)

-- how long a block is
length_entry : (copy : RecordCopy) → length (entry copy) ≡ 120
unfolding entry section section_type zeros digits
length_entry copy = refl

length_header : (copies : List RecordCopy) → length (header copies) ≡ 20
unfolding header digits
length_header copies = refl

length_entries : (copies : List RecordCopy) → length (flat_map entry copies) ≡ 120 * length copies
length_entries [] = refl
length_entries (copy ∷ copies) =
    omega (arith, length-append (entry copy) (flat_map entry copies), length_entry copy, length_entries copies)

pub length_spelling : (copies : List RecordCopy) → length (spelling copies) ≡ 20 + 120 * length copies
unfolding spelling
length_spelling copies =
    omega (arith, length-append (header copies) (flat_map entry copies), length_header copies, length_entries copies)

slot_text_some : (copies : List RecordCopy) → 1 ≤ length copies → slot_text copies ≡ spelling copies
unfolding slot_text
slot_text_some [] some = absurd (omega arith)
slot_text_some (copy ∷ copies) some = refl

pub holds_more : (copies : List RecordCopy) (copy : RecordCopy) (more taken : List RecordCopy) (bytes out : List ℕ)
    (used new : ℕ) →
    Holds copies bytes used → IsCopy copy → AreWords copy → more ≡ copies ++ copy ∷ [] → taken ≡ more
    → length more ≤ 4 →
    new ≡ length (spelling taken) → take new out ≡ spelling taken → Holds more out new
holds_more copies copy more taken bytes out used new holds is words more_is taken_is few new_is text =
    let n : length more ≡ length copies + 1 = ap length more_is ∙ length-append copies (copy ∷ [])
    in let m : length taken ≡ length more = ap length taken_is
    in record {
      each = subst AreCopies (sym more_is) (one_more copies copy holds.each is words);
      few = few;
      fits = omega (arith, length_spelling taken);
      text = text ∙ ap spelling taken_is ∙ sym (slot_text_some more (omega arith));
    }

-- one entry more is put
pub next_put : (copies : List RecordCopy) (i place : ℕ) (copy : RecordCopy) (bytes old new : List ℕ)
    → i < length copies →
    copy ≡ get_or copies i copy → bytes ≡ entry copy → take place old ≡ header copies
    ++ flat_map entry (take i copies) →
    take (place + length bytes) new ≡ take place old ++ bytes →
    take (place + 120) new ≡ header copies ++ flat_map entry (take (i + 1) copies)
next_put copies i place copy bytes old new below copy_is bytes_are so_far put =
    let n : length bytes ≡ 120 = ap length bytes_are ∙ length_entry copy
    in let t : take (i + 1) copies ≡ take i copies ++ copy ∷ [] =
    take_more copies i copy below ∙ ap (λ c. take i copies ++ c ∷ []) (sym copy_is)
    in ap (λ m. take (place + m) new) (sym n) ∙ put ∙ ap (λ front. front ++ bytes) so_far
    ∙ ap (λ last. (header copies ++ flat_map entry (take i copies)) ++ last) bytes_are
    ∙ flat_map_more entry (header copies) (take i copies) copy
    ∙ ap (λ cs. header copies ++ flat_map entry cs) (sym t)

-- and nothing behind it is touched
pub rest_put : (place : ℕ) (copy : RecordCopy) (bytes first old new : List ℕ) → bytes ≡ entry copy →
    drop place old ≡ drop place first → drop (place + length bytes) new ≡ drop (place + length bytes) old →
    drop (place + 120) new ≡ drop (place + 120) first
rest_put place copy bytes first old new bytes_are so_far put =
    let n : length bytes ≡ 120 = ap length bytes_are ∙ length_entry copy
    in ap (λ m. drop (place + m) new) (sym n) ∙ put ∙ ap (λ m. drop (place + m) old) n
    ∙ rest_further place 120 old first so_far
