-- Each phase leaves what the book gives.
use Rattle.std.proofs.Common.{◌≡◌, ℕ, zero, suc, ◌+◌, ◌^◌, ◌<◌, ◌≤◌, max, nat_lt, ◌==◌, Bool, true, false, cond, List, [], ◌∷◌, ◌++◌, length, slice_get, find, Option, Some, None, refl, inl, inr, sym, ap, ◌∙◌, subst, arith}
use Rattle.std.specs.List.{range_with_len}
use Rattle.std.proofs.lemmas.Bool.{cases_eq, cases_lt, true≢false, cond-true, cond-false, and_parts}
use Rattle.std.proofs.lemmas.List.{length_push}
use Rattle.std.proofs.lemmas.Option.{slice_get_within}
use Rattle.reri_fields.specs.declared.report.RecordCopy.{RecordCopy}
use Rattle.reri_fields.specs.declared.drain.Phase.{Phase}
use Rattle.reri_fields.specs.declared.drain.Phase.TheVariants.{Scan, Claim, Address, Check, Invalidate, Signal}
use Rattle.reri_fields.specs.declared.drain.DrainNote.{DrainNote}
use Rattle.reri_fields.specs.declared.drain.DrainNote.TheVariants as note
use Rattle.reri_fields.specs.Fields.{status_fields}
use Rattle.reri_fields.specs.Records.{Origin, in_progress, copy_after}
use Rattle.reri_fields.specs.Banks.{BankEvent, BankView, BankStands, events_of, is_signalled, is_signalled_at, is_signalled_after, IsLeast, least_signalled, copy_level}
use Rattle.reri_fields.specs.Banks.BankEvent.{Claims, Invalidates, ScanOver}
use Rattle.reri_fields.specs.Drain.{BankPlan, BankState, Draining, phase_step, scanned, checked, checked_if, read, after_empty_scan, after_invalidate, is_cleared}
use Rattle.reri_fields.proofs.Copies.{copy_is}
use Rattle.reri_bank.specs.Registers.{OneChanges, IsClaimed}
use Rattle.reri_bank.proofs.Stands.{get_there}
use Rattle.reri_bank.proofs.Signalled.{signalled_there, signalled_nowhere, after_nowhere}
use Rattle.ras_drain.specs.declared.phases.At.{At}
use Rattle.ras_drain.specs.Fits.{has_record, AreRead, HoldsRecord, FitsWhere, HasRoom}
use Rattle.ras_drain.specs.Steps.{Took}
use Rattle.ras_drain.specs.Inside.{draining, where_is, is_gathering, IsWithin, Moves, Leaves}
use Rattle.ras_drain.proofs.Held.{claim_holds, read_holds}

-- ---- The least signalled record ----

find_none : (test : ℕ → Bool) (from many : ℕ) → ((at : ℕ) → test at ≡ false) → find test (range_with_len from many)
    ≡ None
find_none test from zero h = refl
find_none test from (suc many) h =
    cond-false _ (Some from) (find test (range_with_len (from + 1) many)) (h from) ∙ find_none test (from + 1) many h

find_least : (test : ℕ → Bool) (from many least : ℕ) → test least ≡ true → ((at : ℕ) → at < least → test at ≡ false)
    → from ≤ least → least < from + many → find test (range_with_len from many) ≡ Some least
find_least test from zero least yes_there before low high = absurd (omega arith)
find_least test from (suc many) least yes_there before low high =
    elim (cases_eq from least) as (λ _. find test (range_with_len from (suc many)) ≡ Some least) [
      | inl here ↦
          cond-true _ (Some from) (find test (range_with_len (from + 1) many)) (ap test here ∙ yes_there)
          ∙ ap (λ n. Some n) here
      | inr further ↦
          cond-false _ (Some from) (find test (range_with_len (from + 1) many)) (before from (omega arith))
          ∙ find_least test (from + 1) many least yes_there before (omega arith) (omega arith)
    ]

pub least_is : (origins : List Origin) (history : List BankEvent) (found : Option ℕ)
    → IsLeast (is_signalled_after origins history) found → least_signalled origins history ≡ found
unfolding least_signalled
least_is origins history None h = find_none (is_signalled_after origins history) 0 (length origins) h
least_is origins history (Some least) h =
    elim (cases_lt least (length origins)) as (λ _. find (is_signalled_after origins history)
    (range_with_len 0 (length origins)) ≡ Some least) [
      | inl within ↦ find_least (is_signalled_after origins history) 0 (length origins) least h.0 h.1 (omega arith)
          (omega arith)
      | inr past ↦ absurd (true≢false (sym h.0 ∙ after_nowhere origins history least past))
    ]

signal_valid : (copy : RecordCopy) → is_signalled copy ≡ true → (status_fields copy.status).valid ≡ true
unfolding is_signalled
signal_valid copy h = (and_parts _ _ h).0

-- ---- Scan ----

found_holds : (d : Draining) (rec : ℕ) (got : RecordCopy) (bank : BankView) → is_signalled_at bank.copies rec ≡ true
    → HoldsRecord (record d { phase = Claim; rec = rec }) got bank
found_holds d rec got bank h =
    elim (cases_lt rec (length bank.copies)) as (λ _. HoldsRecord (record d { phase = Claim; rec = rec }) got bank) [
      | inl within ↦
          let at = get_there bank.copies rec within in
          record {
            copy = at.0;
            there = at.1;
            valid = signal_valid at.0 (sym (signalled_there bank.copies rec at.0 at.1) ∙ h);
            read = λ _. tt;
          }
      | inr past ↦ absurd (true≢false (sym h ∙ signalled_nowhere bank.copies rec past))
    ]

pub scan_found : (at : At) (gather : ℕ) (bank : BankView) (got : RecordCopy) (rec : ℕ)
    → IsLeast (is_signalled_at bank.copies) (Some rec)
    → ((origins : List Origin) (history : List BankEvent) → BankStands origins history bank
    → IsLeast (is_signalled_after origins history) (Some rec))
    → gather ≤ 4 → at.published < gather
    → Moves at Scan gather bank bank got (Some (record at { phase = Claim; rec = rec })) (note.Scanned rec)
scan_found at gather bank got rec here least few below =
    record {
      does = λ plan s slot same is.
          subst (λ found. Took plan (scanned s (draining at) found)
          (Some (record (draining at) { phase = Claim; rec = rec })) bank slot (note.Scanned rec))
          (sym (least_is plan.origins s.history (Some rec) (least plan.origins s.history is.stands)))
          (record { state = record { stands = is.stands; slot_is = is.slot_is }; drain_is = refl; note_is = refl });
      fits = λ _. found_holds (draining at) rec got bank here.0;
      room = λ slot h. h;
      within = (few, λ _. below);
    }

empty_fits : (d : Draining) (got : RecordCopy) (bank : BankView) → FitsWhere (after_empty_scan d) got bank
unfolding has_record
empty_fits d got bank =
    elim (d.count == 0) as (λ b. FitsWhere (cond b None (Some (record d { phase = Signal; rec = 0 }))) got bank) [
      | true ↦ tt
      | false ↦ λ h. absurd (true≢false (sym h))
    ]

empty_room : (d : Draining) (slot : List RecordCopy) → length slot ≤ d.count → HasRoom (after_empty_scan d) slot
empty_room d slot h =
    elim (d.count == 0) as (λ b. HasRoom (cond b None (Some (record d { phase = Signal; rec = 0 }))) slot) [
      | true ↦
          tt
      | false ↦ h
    ]

pub scan_over : (at : At) (gather : ℕ) (before bank : BankView) (got : RecordCopy) (next : Option At)
    → ((origins : List Origin) (history : List BankEvent) → BankStands origins history before
    → IsLeast (is_signalled_after origins history) None)
    → ((origins : List Origin) (history : List BankEvent) → BankStands origins history before
    → BankStands origins (ScanOver ∷ history) bank)
    → where_is next ≡ after_empty_scan (draining at) → IsWithin gather next
    → Moves at Scan gather before bank got next note.Over
scan_over at gather before bank got next none later is_next within =
    record {
      does = λ plan s slot same is.
          subst (λ found. Took plan (scanned s (draining at) found) (where_is next) bank slot note.Over)
          (sym (least_is plan.origins s.history None (none plan.origins s.history is.stands)))
          (record {
            state = record { stands = later plan.origins s.history is.stands; slot_is = is.slot_is };
            drain_is = is_next;
            note_is = refl;
          });
      fits = subst (λ d. FitsWhere d got bank) (sym is_next) (empty_fits (draining at) got bank);
      room = λ slot h. subst (λ d. HasRoom d slot) (sym is_next) (empty_room (draining at) slot h);
      within = within;
    }

-- ---- Claim and the registers ----

pub claim_moves : (at : At) (gather : ℕ) (before bank : BankView) (got copy : RecordCopy)
    → HoldsRecord (draining at) got before
    → OneChanges IsClaimed at.rec before.copies bank.copies
    → ((origins : List Origin) (history : List BankEvent) → BankStands origins history before
    → BankStands origins (Claims at.rec ∷ history) bank)
    → slice_get bank.copies at.rec ≡ Some copy → gather ≤ 4 → at.published < gather
    → Moves at Claim gather before bank (record got { control = copy.control }) (Some (record at { phase = Address }))
    note.Claimed
claim_moves at gather before bank got copy holds one later there few below =
    record {
      does = λ plan s slot same is. record {
        state = record { stands = later plan.origins s.history is.stands; slot_is = is.slot_is };
        drain_is =
            refl;
        note_is = refl;
      };
      fits = λ _. claim_holds (draining at) got before bank copy holds one there;
      room = λ slot h. h;
      within = (few, λ _. below);
    }

pub read_moves : (at : At) (phase next : Phase) (register gather : ℕ) (bank : BankView) (got : RecordCopy)
    → ((plan : BankPlan) (s : BankState) → phase_step plan s (draining at) phase ≡ read register next s (draining at))
    → HoldsRecord (record (draining at) { phase = next }) got bank → gather ≤ 4 → at.published < gather
    → Moves at phase gather bank bank got (Some (record at { phase = next })) (note.Read register)
read_moves at phase next register gather bank got step holds few below =
    record {
      does = λ plan s slot same is.
          subst (λ d. Took plan d (Some (record (draining at) { phase = next })) bank slot (note.Read register))
          (sym (step plan s))
          (record { state = record { stands = is.stands; slot_is = is.slot_is }; drain_is = refl; note_is = refl });
      fits = λ _. holds;
      room = λ slot h. h;
      within = (few, λ _. below);
    }

-- ---- Check ----

-- the record's origin, and what the registers say of its claim
claim_is : (origins : List Origin) (history : List BankEvent) (bank : BankView) (rec : ℕ) (copy : RecordCopy)
    (origin : Origin) → BankStands origins history bank → slice_get bank.copies rec ≡ Some copy
    → slice_get origins rec ≡ Some origin → in_progress origin (events_of rec history)
    ≡ (status_fields copy.status).in_progress
claim_is origins history bank rec copy origin s there known = sym (s.each rec origin copy known there).in_progress

known_at : (origins : List Origin) (history : List BankEvent) (bank : BankView) (rec : ℕ) (copy : RecordCopy)
    → BankStands origins history bank → slice_get bank.copies rec ≡ Some copy
    → (origin : Origin) × (slice_get origins rec ≡ Some origin)
known_at origins history bank rec copy s there =
    let within = slice_get_within bank.copies rec copy there in
    get_there origins rec (omega (arith, s.count))

pub check_torn : (at : At) (gather : ℕ) (bank : BankView) (slot : List RecordCopy) (got copy : RecordCopy)
    → HoldsRecord (record (draining at) { phase = Check }) got bank
    → slice_get bank.copies at.rec ≡ Some copy → (status_fields copy.status).in_progress ≡ false
    → length slot ≤ at.published → gather ≤ 4 → at.published < gather
    → Leaves at Check gather bank bank slot slot got (Some (record at { phase = Claim })) note.Torn
check_torn at gather bank slot got copy holds there off room few below =
    record {
      does = λ plan s same is.
          let known = known_at plan.origins s.history bank at.rec copy is.stands there in
          subst (λ o. Took plan (checked s (draining at) o) (Some (record (draining at) { phase = Claim })) bank slot
          note.Torn) (sym known.1)
          (subst (λ b. Took plan (checked_if s (draining at) known.0 b)
          (Some (record (draining at) { phase = Claim })) bank slot note.Torn)
          (sym (claim_is plan.origins s.history bank at.rec copy known.0 is.stands there known.1 ∙ off))
          (record { state = record { stands = is.stands; slot_is = is.slot_is }; drain_is = refl; note_is = refl }));
      fits = λ _. record { copy = holds.copy; there = holds.there; valid = holds.valid; read = λ _. tt };
      room = room;
      within = (few, λ _. below);
    }

-- where a drain is that has published this copy
abbrev pub after_publishing : At → RecordCopy → At
after_publishing at copy =
    record at { phase = Invalidate; published = at.published + 1; level = max at.level (copy_level copy) }

published_next : (at : At) (copy : RecordCopy) → draining (after_publishing at copy)
    ≡ record (draining at) { phase = Invalidate; count = suc at.published; level = max at.level (copy_level copy) }
published_next at copy =
    ap (λ n. record { phase = Invalidate; rec = at.rec; count = n; level = max at.level (copy_level copy) })
    (omega arith)

not_gathering : {n m : ℕ} → is_gathering Invalidate ≡ true → n < m
unfolding is_gathering
not_gathering h = absurd (true≢false (sym h))

pub check_published : (at : At) (gather : ℕ) (bank : BankView) (old slot : List RecordCopy) (got copy : RecordCopy)
    → HoldsRecord (record (draining at) { phase = Check }) got bank
    → slice_get bank.copies at.rec ≡ Some copy → (status_fields copy.status).in_progress ≡ true → copy.status < 2 ^ 64
    → slot ≡ old ++ copy ∷ [] → length old ≤ at.published → gather ≤ 4
    → Leaves at Check gather bank bank old slot got (Some (after_publishing at copy)) (note.Published copy)
check_published at gather bank old slot got copy holds there on fits grown room few =
    record {
      does = λ plan s same is.
          let known = known_at plan.origins s.history bank at.rec copy is.stands there in
          let stands = is.stands.each at.rec known.0 copy known.1 there in
          let given : copy
          ≡ copy_after known.0 (events_of at.rec s.history) = copy_is known.0 (events_of at.rec s.history) copy
          stands fits in
          subst (λ o. Took plan (checked s (draining at) o) (Some (draining (after_publishing at copy))) bank slot
          (note.Published copy)) (sym known.1)
          (subst (λ b. Took plan (checked_if s (draining at) known.0 b) (Some (draining (after_publishing at copy)))
          bank slot (note.Published copy))
          (sym (claim_is plan.origins s.history bank at.rec copy known.0 is.stands there known.1 ∙ on))
          (record {
            state = record {
              stands = is.stands;
              slot_is = grown ∙ ap (λ xs. xs ++ copy ∷ []) is.slot_is
                  ∙ ap (λ c. s.slot ++ c ∷ []) given;
            };
            drain_is =
                ap (λ d. Some d)
                (published_next at copy
                ∙ ap (λ c. record (draining at)
                { phase = Invalidate; count = suc at.published; level = max at.level (copy_level c) }) given);
            note_is = ap (λ c. note.Published c) given;
          }));
      fits = λ _. record { copy = holds.copy; there = holds.there; valid = holds.valid; read = λ _. tt };
      room = rw grown (rw (length_push old copy) (omega arith));
      within = (few, not_gathering);
    }

-- the same of a copy that is put together, and of a level that is worked out
pub check_publishes : (at : At) (gather : ℕ) (bank : BankView) (old slot : List RecordCopy)
    (got copy built : RecordCopy) (level : ℕ) → HoldsRecord (record (draining at) { phase = Check }) got bank
    → slice_get bank.copies at.rec ≡ Some copy → (status_fields copy.status).in_progress ≡ true → copy.status < 2 ^ 64
    → built ≡ copy → level ≡ max at.level (copy_level built)
    → slot ≡ old ++ built ∷ [] → length old ≤ at.published → gather ≤ 4
    → Leaves at Check gather bank bank old slot got
    (Some (record at { phase = Invalidate; published = at.published + 1; level = level })) (note.Published built)
check_publishes at gather bank old slot got copy built level holds there on fits same told grown room few =
    let done = check_published at gather bank old slot got copy holds there on fits
    (grown ∙ ap (λ c. old ++ c ∷ []) same) room few in
    subst (λ n. Leaves at Check gather bank bank old slot got
    (Some (record at { phase = Invalidate; published = at.published + 1; level = n })) (note.Published built))
    (sym told)
    (subst (λ c. Leaves at Check gather bank bank old slot got (Some (after_publishing at c)) (note.Published c))
    (sym same) done)

-- ---- Invalidate and Signal ----

-- what the bank says of whether the record was cleared is what its history says
cleared_is : (origins : List Origin) (history : List BankEvent) (bank : BankView) (rec : ℕ) (copy : RecordCopy)
    → BankStands origins history bank → slice_get bank.copies rec ≡ Some copy
    → is_cleared (slice_get origins rec) rec history ≡ (status_fields copy.status).in_progress
cleared_is origins history bank rec copy s there =
    let known = known_at origins history bank rec copy s there in
    ap (λ o. is_cleared o rec history) known.1 ∙ claim_is origins history bank rec copy known.0 s there known.1

nothing_held : (gather : ℕ) (d : Draining) (got : RecordCopy) (bank : BankView)
    → FitsWhere (Some (after_invalidate gather d)) got bank
unfolding has_record
nothing_held gather d got bank =
    elim (nat_lt d.count gather) as (λ b. has_record
    (cond b (record d { phase = Scan; rec = 0 }) (record d { phase = Signal })).phase ≡ true
    → HoldsRecord (cond b (record d { phase = Scan; rec = 0 }) (record d { phase = Signal })) got bank) [
      | true ↦ λ h. absurd (true≢false (sym h))
      | false ↦ λ h. absurd (true≢false (sym h))
    ]

same_count : (gather : ℕ) (d : Draining) → (after_invalidate gather d).count ≡ d.count
same_count gather d =
    elim (nat_lt d.count gather) as (λ b.
    (cond b (record d { phase = Scan; rec = 0 }) (record d { phase = Signal })).count
    ≡ d.count) [ true ↦ refl | false ↦ refl ]

pub invalidate_moves : (at : At) (gather : ℕ) (before bank : BankView) (got copy : RecordCopy) (next : Option At)
    (cleared : Bool)
    → slice_get before.copies at.rec ≡ Some copy
    → ((origins : List Origin) (history : List BankEvent) → BankStands origins history before
    → BankStands origins (Invalidates at.rec ∷ history) bank)
    → cleared ≡ (status_fields copy.status).in_progress
    → where_is next ≡ Some (after_invalidate gather (draining at)) → IsWithin gather next
    → Moves at Invalidate gather before bank got next (note.Invalidated cleared)
invalidate_moves at gather before bank got copy next cleared there later told is_next within =
    record {
      does = λ plan s slot same is.
          record {
            state = record { stands = later plan.origins s.history is.stands; slot_is = is.slot_is };
            drain_is = is_next ∙ ap (λ n. Some (after_invalidate n (draining at))) same;
            note_is = ap (λ b. note.Invalidated b)
                (told ∙ sym (cleared_is plan.origins s.history before at.rec copy is.stands there));
          };
      fits = subst (λ d. FitsWhere d got bank) (sym is_next) (nothing_held gather (draining at) got bank);
      room = λ slot h. subst (λ d. HasRoom d slot) (sym is_next) (rw (same_count gather (draining at)) h);
      within = within;
    }

pub signal_moves : (at : At) (gather : ℕ) (bank : BankView) (got : RecordCopy)
    → Moves at Signal gather bank bank got None (note.Signal at.level)
signal_moves at gather bank got =
    record {
      does = λ plan s slot same is. record
          { state = record { stands = is.stands; slot_is = is.slot_is }; drain_is = refl; note_is = refl };
      fits = tt;
      room = λ slot h. tt;
      within = tt;
    }

-- ---- Any phase ----

pub leaves_at : (at : At) (phase : Phase) (gather : ℕ) (before bank : BankView) (slot : List RecordCopy)
    (got : RecordCopy) (next : Option At) (told : DrainNote) → at.phase ≡ phase → length slot ≤ at.published
    → Moves at phase gather before bank got next told → Leaves at at.phase gather before bank slot slot got next told
leaves_at at phase gather before bank slot got next told here room m =
    subst (λ p. Leaves at p gather before bank slot slot got next told) (sym here)
    (record {
      does = λ plan s same is. m.does plan s slot same is;
      fits = m.fits;
      room = m.room slot room;
      within =
          m.within;
    })

pub reads_leave : (at : At) (phase next : Phase) (register gather : ℕ) (bank : BankView) (slot : List RecordCopy)
    (got later copy : RecordCopy) (result : Option At × DrainNote) → at.phase ≡ phase
    → ((plan : BankPlan) (s : BankState) → phase_step plan s (draining at) phase ≡ read register next s (draining at))
    → result ≡ (Some (record at { phase = next }), note.Read register)
    → HoldsRecord (draining at) got bank → slice_get bank.copies at.rec ≡ Some copy
    → (AreRead phase got copy → AreRead next later copy)
    → gather ≤ 4 → at.published < gather → length slot ≤ at.published
    → Leaves at at.phase gather bank bank slot slot later result.0 result.1
reads_leave at phase next register gather bank slot got later copy result here step is holds there reads few below
    room =
    let kept = read_holds (draining at) next got later bank copy holds there
    (λ are. reads (subst (λ p. AreRead p got copy) here are)) in
    subst (λ r. Leaves at at.phase gather bank bank slot slot later r.0 r.1) (sym is)
    (leaves_at at phase gather bank bank slot later (Some (record at { phase = next })) (note.Read register) here room
    (read_moves at phase next register gather bank later step kept few below))
