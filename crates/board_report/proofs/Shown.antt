-- What is told of the parts of a board is what the board book says of the state that they are of.
use Rattle.std.proofs.Common.{◌≡◌, ℕ, suc, ◌+◌, Bool, List, [], ◌∷◌, ◌++◌, map, length, slice_get, Option, Some, None, refl, sym, ap, ◌∙◌, subst, arith}
use Rattle.std.proofs.lemmas.List.{length-map}
use Rattle.std.proofs.lemmas.List.FromFn.{length-map-range_with_len}
use Rattle.sse_base.specs.Events.{slots}
use Rattle.sse_base.specs.Machine.{Machine}
use Rattle.reri_fields.specs.declared.report.RecordCopy.{RecordCopy}
use Rattle.reri_fields.specs.Records.{Origin, Stands, copy_after}
use Rattle.reri_fields.specs.Banks.{BankEvent, events_of, asks}
use Rattle.reri_fields.specs.Drain.{BankState, Draining}
use Rattle.reri_fields.proofs.Copies.{copy_is}
use Rattle.std.proofs.lemmas.Option.{slice_get_within}
use Rattle.reri_bank.proofs.Stands.{get_there}
use Rattle.board_plan.specs.declared.notes.Counts.{Counts}
use Rattle.board_plan.specs.declared.notes.Fates.{Fates}
use Rattle.board_plan.specs.declared.notes.Step.{Step}
use Rattle.board_plan.specs.declared.notes.StepNote.{StepNote}
use Rattle.board_plan.specs.declared.plan.BankDecl.{BankDecl}
use Rattle.board_plan.specs.declared.plan.RecDecl.{RecDecl}
use Rattle.board_plan.specs.declared.plan.Plan.{Plan}
use Rattle.board_plan.specs.State.{bank_plan, origin_of}
use Rattle.board_plan.specs.Run.{Noted, Ran, steps_of}
use Rattle.board_plan.specs.Fates.{fates_of}
use Rattle.board_plan.specs.Text.{bank_line, drain_text, record_line, record_lines, block_lines, lines_of_bank, bank_lines, head_line, hart_lines, event_line, fates_line, word_lines, schedule_lines, end_line, full_lines, trace_line, trace_lines}
use Rattle.board_bank.specs.Standing.{BankParts, StandsFor}
use Rattle.board_parts.specs.declared.parts.Parts.{Parts}
use Rattle.board_parts.specs.Shows.{AreBanks, Shows}
use Rattle.board_report.specs.Told.{told_phase, told_bank, told_records, told_bank_lines, told_banks, phase_of, AreWords, EachAreWords, HaveRecords, ArePartsOf, told_full, told_steps}

-- ---- A bank ----

drain-told : (d : Option Draining) → told_phase (phase_of d) ≡ drain_text d
drain-told None = refl
drain-told (Some d) = refl

bank-told : (n : ℕ) (d : BankDecl) (origins : List Origin) (x : BankState) (asking : Bool) (slot : List RecordCopy)
    (drain : Option Draining) → asking ≡ asks origins x.history → slot ≡ x.slot → drain ≡ x.drain
    → told_bank n d asking slot (phase_of drain) ≡ bank_line n d origins x
unfolding told_bank bank_line
bank-told n d origins x asking slot drain a s e =
    ap (λ (b : Bool). told_bank n d b slot (phase_of drain)) a
    ∙ ap (λ (cs : List RecordCopy). told_bank n d (asks origins x.history) cs (phase_of drain)) s
    ∙ ap (λ (o : Option Draining). told_bank n d (asks origins x.history) x.slot (phase_of o)) e
    ∙ rw (drain-told x.drain) refl

records-told : (bank n : ℕ) (os : List Origin) (cs : List RecordCopy) (history : List BankEvent)
    → length cs ≡ length os
    → ((i : ℕ) (o : Origin) (c : RecordCopy) → slice_get os i ≡ Some o → slice_get cs i ≡ Some c
    → Stands o (events_of (n + i) history) c)
    → AreWords cs → told_records bank n cs ≡ record_lines bank n os history
records-told bank n [] [] history e each words = refl
records-told bank n [] (c ∷ cs) history e each words = absurd (omega (arith, e))
records-told bank n (o ∷ os) [] history e each words = absurd (omega (arith, e))
records-told bank n (o ∷ os) (c ∷ cs) history e each words =
    let here : n + 0 ≡ n = omega arith in
    let stands = subst (λ (k : ℕ). Stands o (events_of k history) c) here (each 0 o c refl refl) in
    let first = ap (record_line bank n) (copy_is o (events_of n history) c stands (words 0 c refl)) in
    let further = records-told bank (n + 1) os cs history (omega (arith, e))
    (λ i p q x y. subst (λ (k : ℕ). Stands p (events_of k history) q) (omega arith) (each (suc i) p q x y))
    (λ i q x. words (suc i) q x) in
    ap (λ l. l ∷ told_records bank (n + 1) cs) first
    ∙ ap (λ ls. record_line bank n (copy_after o (events_of n history)) ∷ ls) further

one-bank : (n : ℕ) (d : BankDecl) (recs : List RecDecl) (x : BankState) (b : BankParts)
    → StandsFor (bank_plan n d recs) x b → AreWords b.bank.copies
    → told_bank_lines n d b.bank b.slot (phase_of b.drain) ≡ lines_of_bank n d (bank_plan n d recs).origins x
one-bank n d recs x b stands words =
    let origins = (bank_plan n d recs).origins in
    let first = bank-told n d origins x b.bank.asks b.slot b.drain stands.stands.asking stands.slot_is
    stands.drain_is in
    let each = λ (i : ℕ) (o : Origin) (c : RecordCopy) (p : slice_get origins i ≡ Some o)
    (q : slice_get b.bank.copies i ≡ Some c).
    subst (λ (k : ℕ). Stands o (events_of k x.history) c) (omega arith) (stands.stands.each i o c p q) in
    let registers = records-told n 0 origins b.bank.copies x.history stands.stands.count each words in
    ap (λ l. (l ∷ told_records n 0 b.bank.copies) ++ block_lines n b.slot) first
    ∙ ap (λ ls. (bank_line n d origins x ∷ ls) ++ block_lines n b.slot) registers
    ∙ ap (λ (cs : List RecordCopy). (bank_line n d origins x ∷ record_lines n 0 origins x.history) ++ block_lines n cs)
    stands.slot_is

banks-from : (recs : List RecDecl) (n : ℕ) (ds : List BankDecl) (ss : List BankState) (bs : List BankParts)
    → length ss ≡ length ds → length bs ≡ length ds
    → ((i : ℕ) (d : BankDecl) (x : BankState) (b : BankParts) → slice_get ds i ≡ Some d → slice_get ss i ≡ Some x
    → slice_get bs i ≡ Some b → StandsFor (bank_plan (n + i) d recs) x b)
    → EachAreWords bs → told_banks n ds bs ≡ bank_lines n recs ds ss
banks-from recs n [] ss bs e f each words = refl
banks-from recs n (d ∷ ds) [] bs e f each words = absurd (omega (arith, e))
banks-from recs n (d ∷ ds) (x ∷ ss) [] e f each words = absurd (omega (arith, f))
banks-from recs n (d ∷ ds) (x ∷ ss) (b ∷ bs) e f each words =
    let here : n + 0 ≡ n = omega arith in
    let stands = subst (λ (k : ℕ). StandsFor (bank_plan k d recs) x b) here (each 0 d x b refl refl refl) in
    let first = one-bank n d recs x b stands (words 0 b refl) in
    let further = banks-from recs (n + 1) ds ss bs (omega (arith, e)) (omega (arith, f))
    (λ i c y a p q r. subst (λ (k : ℕ). StandsFor (bank_plan k c recs) y a) (omega arith) (each (suc i) c y a p q r))
    (λ i a p. words (suc i) a p) in
    ap (λ ls. ls ++ told_banks (n + 1) ds bs) first
    ∙ ap (λ ls. lines_of_bank n d (bank_plan n d recs).origins x ++ ls) further

-- all banks of a board
banks-told : (plan : Plan) (ss : List BankState) (bs : List BankParts) → AreBanks plan ss bs → EachAreWords bs
    → told_banks 0 plan.banks bs ≡ bank_lines 0 plan.recs plan.banks ss
banks-told plan ss bs are words =
    banks-from plan.recs 0 plan.banks ss bs are.count are.there
    (λ i d x b p q r. subst (λ (k : ℕ). StandsFor (bank_plan k d plan.recs) x b) (omega arith)
    (are.each i d x b p q r)) words

-- how many records each has
pub have-records : (plan : Plan) (p : Parts) → ArePartsOf plan p → HaveRecords p.decls.items p.banks.items
have-records plan p of =
    λ i d b declared there.
    let shows = of.1 in
    let known = ap (λ (ds : List BankDecl). slice_get ds i) (sym shows.decls) ∙ declared in
    let x = get_there of.0.banks i (omega (arith, shows.banks.count, slice_get_within plan.banks i d known)) in
    let stands = shows.banks.each i d x.0 b known x.1 there in
    sym (stands.stands.count ∙ length-map-range_with_len (λ rec. origin_of i rec plan.recs) 0 d.recs)

-- ---- The whole report ----

pub full-told : (plan : Plan) (r : Ran) (p : Parts) (steps : List Step) (fates : Fates) → Shows plan r.state p
    → steps ≡ steps_of r.notes → fates ≡ fates_of plan r.notes → EachAreWords p.banks.items
    → told_full plan p steps fates ≡ full_lines plan r
full-told plan r p steps fates shows made became words =
    let many : length steps ≡ length r.notes = ap length made ∙ length-map r.notes (λ (n : Noted). n.by) in
    let banks =
    ap (λ (ds : List BankDecl). told_banks 0 ds p.banks.items) shows.decls
    ∙ banks-told plan r.state.banks p.banks.items shows.banks words in
    composed (ap (head_line plan) many)
    (ap (λ (cs : List Counts). hart_lines 0 cs p.firmware.masks p.firmware.stacks) shows.counts
    ∙ ap (λ (m : Machine). hart_lines 0 r.state.counts m.masks m.stacks) shows.machine)
    (ap (λ (m : Machine). map event_line (slots m.events)) shows.machine) banks (ap fates_line became)
    (ap (λ (m : Machine). word_lines 0x80000000 m.memory) shows.machine) (ap schedule_lines made)
  where
    composed : {h i : List ℕ} {ns bs cs ds es fs gs hs ks ls : List (List ℕ)} {f g : List ℕ} → h ≡ i → ns ≡ bs
        → cs ≡ ds → es ≡ fs → f ≡ g → gs ≡ hs → ks ≡ ls
        → (h ∷ []) ++ ns ++ cs ++ es ++ f ∷ [] ++ gs ++ ks ++ end_line ∷ []
        ≡ (i ∷ []) ++ bs ++ ds ++ fs ++ g ∷ [] ++ hs ++ ls ++ end_line ∷ []
    composed p q r s t u v =
        λ j. (p j ∷ []) ++ q j ++ r j ++ s j ++ t j ∷ [] ++ u j ++ v j ++ end_line ∷ []

-- ---- The trace ----

steps-told : (n : ℕ) (ns : List Noted) → told_steps n (steps_of ns) (map (λ n. n.note) ns) ≡ trace_lines n ns
steps-told n [] = refl
steps-told n (x ∷ ns) = ap (λ ls. trace_line n x ∷ ls) (steps-told (n + 1) ns)

-- the trace by the notes of a run
pub trace-told : (ns : List Noted) (steps : List Step) (notes : List StepNote) → steps ≡ steps_of ns
    → notes ≡ map (λ n. n.note) ns → told_steps 1 steps notes ≡ trace_lines 1 ns
trace-told ns steps notes made noted =
    ap (λ (ts : List Step). told_steps 1 ts notes) made
    ∙ ap (λ (xs : List StepNote). told_steps 1 (steps_of ns) xs) noted ∙ steps-told 1 ns
