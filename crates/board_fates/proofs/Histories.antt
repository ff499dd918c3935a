-- What a bank's step makes of the bank's history, and what its note tells of that.
use Rattle.std.proofs.Common.{◌≡◌, ℕ, suc, ◌==◌, ◌&&◌, Bool, true, false, cond, List, ◌∷◌, length, slice_get, Option, Some, None, refl, sym, ap, ◌∙◌, subst}
use Rattle.std.specs.Prelude.{IsSome}
use Rattle.std.specs.Option.{option_map, option_map_or}
use Rattle.std.proofs.lemmas.Bool.{eq-eqb, ne_eqb, true≢false}
use Rattle.std.proofs.lemmas.Option.{none-some, same_Some}
use Rattle.sse_base.specs.Events.{Events}
use Rattle.reri_fields.specs.declared.report.RecordCopy.{RecordCopy}
use Rattle.reri_fields.specs.declared.drain.Phase.{Phase}
use Rattle.reri_fields.specs.declared.drain.Phase.TheVariants.{Scan, Claim, Address, Info, Supplement, Time, Check, Invalidate, Signal}
use Rattle.reri_fields.specs.declared.drain.DrainNote.TheVariants as drain
use Rattle.reri_fields.specs.Records.{Error, Event, Origin, in_progress}
use Rattle.reri_fields.specs.Records.Event.{Reported, Claimed, Invalidated}
use Rattle.reri_fields.specs.Outcome.{outcome}
use Rattle.reri_fields.specs.Banks.{BankEvent, events_of, least_signalled}
use Rattle.reri_fields.specs.Banks.BankEvent.{Logs, Claims, Invalidates, ScanOver}
use Rattle.reri_fields.specs.Drain.{BankPlan, BankState, BankStep, BankTry, BankNote, Draining, heard, is_cleared, claimed_at, scanned, checked, checked_if, phase_step, due_drain, drained_by, bank_step}
use Rattle.reri_fields.specs.Drain.BankTry.{Reports, Drains, Acknowledges}
use Rattle.reri_fields.specs.Drain.BankNote.{Heard, Drew, Acknowledged}
use Rattle.board_plan.specs.declared.plan.BankDecl.{BankDecl}
use Rattle.board_plan.specs.declared.plan.Plan.{Plan}
use Rattle.board_plan.specs.State.{bank_plan}
use Rattle.board_plan.specs.Step.{bank_note}
use Rattle.board_plan.specs.Fates.{Deed, News, told, with_deed, deed_at, deeds_of, error_at, is_at, origin_at, origin_in, news_of}
use Rattle.board_plan.specs.Fates.Deed.{Was, Checked}
use Rattle.board_fates.specs.Tallied.{IsTrue}
use Rattle.board_fates.proofs.Steps.{Fits}

-- ---- What a bank's step adds to its history ----

-- the history of a bank after a step, with the step's note
pub data Becomes (steps at : ℕ) (origins : List Origin) (history : List BankEvent) :
    List BankEvent → BankNote → Type 0 where
  logs : (error : Error) → error.step ≡ suc steps → error.report.bank ≡ at
      → Becomes steps at origins history (Logs error ∷ history) (Heard error.report (heard origins history error))
  claims : (rec : ℕ) → Becomes steps at origins history (Claims rec ∷ history) (Drew rec drain.Claimed)
  invalidates : (rec : ℕ) → Becomes steps at origins history (Invalidates rec ∷ history)
      (Drew rec (drain.Invalidated (is_cleared (slice_get origins rec) rec history)))
  over : (rec : ℕ) → Becomes steps at origins history (ScanOver ∷ history) (Drew rec drain.Over)
  publishes : (rec : ℕ) (copy : RecordCopy) → IsSome (slice_get origins rec)
      → Becomes steps at origins history history (Drew rec (drain.Published copy))
  tears : (rec : ℕ) → Becomes steps at origins history history (Drew rec drain.Torn)
  scans : (rec found : ℕ) → Becomes steps at origins history history (Drew rec (drain.Scanned found))
  reads : (rec register : ℕ) → Becomes steps at origins history history (Drew rec (drain.Read register))
  signals : (rec level : ℕ) → Becomes steps at origins history history (Drew rec (drain.Signal level))
  acknowledges : (full : Bool) → Becomes steps at origins history history (Acknowledged full)

scan_becomes : (steps at : ℕ) (origins : List Origin) (s : BankState) (d : Draining) (found : Option ℕ)
    → Becomes steps at origins s.history (scanned s d found).state.history (Drew d.rec (scanned s d found).note)
scan_becomes steps at origins s d None = over d.rec
scan_becomes steps at origins s d (Some rec) = scans d.rec rec

check_if_becomes : (steps at : ℕ) (origins : List Origin) (s : BankState) (d : Draining) (origin : Origin) (on : Bool)
    → slice_get origins d.rec ≡ Some origin
    → Becomes steps at origins s.history (checked_if s d origin on).state.history
    (Drew d.rec (checked_if s d origin on).note)
check_if_becomes steps at origins s d origin true there = publishes d.rec _ (subst IsSome (sym there) refl)
check_if_becomes steps at origins s d origin false there = tears d.rec

check_becomes : (steps at : ℕ) (origins : List Origin) (s : BankState) (d : Draining) (o : Option Origin)
    → slice_get origins d.rec ≡ o
    → Becomes steps at origins s.history (checked s d o).state.history (Drew d.rec (checked s d o).note)
check_becomes steps at origins s d None is = tears d.rec
check_becomes steps at origins s d (Some origin) is =
    check_if_becomes steps at origins s d origin (claimed_at origin d.rec s.history) is

phase_becomes : (steps at : ℕ) (plan : BankPlan) (s : BankState) (d : Draining) (phase : Phase)
    → Becomes steps at plan.origins s.history (phase_step plan s d phase).state.history
    (Drew d.rec (phase_step plan s d phase).note)
phase_becomes steps at plan s d Scan =
    scan_becomes steps at plan.origins s d (least_signalled plan.origins s.history)
phase_becomes steps at plan s d Claim = claims d.rec
phase_becomes steps at plan s d Address = reads d.rec 2
phase_becomes steps at plan s d Info = reads d.rec 3
phase_becomes steps at plan s d Supplement = reads d.rec 4
phase_becomes steps at plan s d Time = reads d.rec 5
phase_becomes steps at plan s d Check =
    check_becomes steps at plan.origins s d (slice_get plan.origins d.rec) refl
phase_becomes steps at plan s d Invalidate = invalidates d.rec
phase_becomes steps at plan s d Signal = signals d.rec d.level

drain_becomes : (steps at : ℕ) (plan : BankPlan) (s : BankState) (o : Option Draining) (m : BankStep)
    → drained_by plan s o ≡ Some m → Becomes steps at plan.origins s.history m.state.history m.note
drain_becomes steps at plan s None m is = absurd (none-some m is)
drain_becomes steps at plan s (Some d) m is =
    subst (λ (x : BankStep). Becomes steps at plan.origins s.history x.state.history x.note) (same_Some _ m is)
    (phase_becomes steps at plan s d d.phase)

pub becomes : (steps at : ℕ) (plan : BankPlan) (s : BankState) (t : BankTry) (m : BankStep)
    → bank_step plan s t ≡ Some m → Fits steps at t → Becomes steps at plan.origins s.history m.state.history m.note
unfolding bank_step
becomes steps at plan s (Reports error) m is fits =
    subst (λ (x : BankStep). Becomes steps at plan.origins s.history x.state.history x.note) (same_Some _ m is)
    (logs error fits.0 fits.1)
becomes steps at plan s Drains m is fits = drain_becomes steps at plan s (due_drain plan s s.drain) m is
becomes steps at plan s Acknowledges m is fits =
    subst (λ (x : BankStep). Becomes steps at plan.origins s.history x.state.history x.note) (same_Some _ m is)
    (acknowledges _)

-- ---- What the note tells of the bank's own records ----

was_told : (c : Bool) (event : Event) (deeds : List Deed) (events : List Event) → told deeds ≡ events
    → told (with_deed (cond c (Some (Was event)) None) deeds) ≡ cond c (event ∷ events) events
was_told true event deeds events h = ap (λ es. event ∷ es) h
was_told false event deeds events h = h

check_told : (c published : Bool) (deeds : List Deed)
    → told (with_deed (cond c (Some (Checked published)) None) deeds) ≡ told deeds
check_told true published deeds = refl
check_told false published deeds = refl

-- a record of the bank itself
is_here : (b rec r c : ℕ) → c ≡ b → is_at b rec c r ≡ (r == rec)
is_here b rec r c h = ap (λ x. x && (r == rec)) (eq-eqb c b h)

pub told_here : (steps at : ℕ) (d : BankDecl) (events : Events) (origins : List Origin) (history : List BankEvent)
    (next : List BankEvent) (n : BankNote) (ns : List News) (rec : ℕ) → Becomes steps at origins history next n
    → steps ≡ length ns → told (deeds_of at rec ns) ≡ events_of rec history
    → told (deeds_of at rec (news_of (bank_note at d events n) ∷ ns)) ≡ events_of rec next
unfolding events_of deed_at
told_here steps at d events origins history next n ns rec (logs error step_is bank_is) same h =
    let deeds = deeds_of at rec ns in
    let e : error_at (suc (length ns)) error.report ≡ error =
    λ i. record { step = (sym (step_is ∙ ap suc same)) i; report = error.report } in
    ap (λ c. told (with_deed (cond c (Some (Was (Reported (error_at (suc (length ns)) error.report)))) None) deeds))
    (is_here at rec error.report.rec error.report.bank bank_is)
    ∙ ap (λ (x : Error). told (with_deed (cond (error.report.rec == rec) (Some (Was (Reported x))) None) deeds)) e
    ∙ was_told (error.report.rec == rec) (Reported error) deeds (events_of rec history) h
told_here steps at d events origins history next n ns rec (claims r) same h =
    let deeds = deeds_of at rec ns in
    ap (λ c. told (with_deed (cond c (Some (Was Claimed)) None) deeds)) (is_here at rec r at refl)
    ∙ was_told (r == rec) Claimed deeds (events_of rec history) h
told_here steps at d events origins history next n ns rec (invalidates r) same h =
    let deeds = deeds_of at rec ns in
    ap (λ c. told (with_deed (cond c (Some (Was Invalidated)) None) deeds)) (is_here at rec r at refl)
    ∙ was_told (r == rec) Invalidated deeds (events_of rec history) h
told_here steps at d events origins history next n ns rec (over r) same h = h
told_here steps at d events origins history next n ns rec (publishes r copy there) same h =
    check_told (is_at at rec at r) true (deeds_of at rec ns) ∙ h
told_here steps at d events origins history next n ns rec (tears r) same h =
    check_told (is_at at rec at r) false (deeds_of at rec ns) ∙ h
told_here steps at d events origins history next n ns rec (scans r found) same h = h
told_here steps at d events origins history next n ns rec (reads r register) same h = h
told_here steps at d events origins history next n ns rec (signals r level) same h = h
told_here steps at d events origins history next n ns rec (acknowledges full) same h = h

-- ---- What it tells of other banks' records ----

is_apart : (b rec r c : ℕ) → (c ≡ b → ⊥) → is_at b rec c r ≡ false
is_apart b rec r c h = ap (λ x. x && (r == rec)) (ne_eqb c b h)

untold : (c : Bool) (deed : Deed) (deeds : List Deed) → c ≡ false
    → told (with_deed (cond c (Some deed) None) deeds) ≡ told deeds
untold true deed deeds h = absurd (true≢false h)
untold false deed deeds h = refl

pub told_elsewhere : (steps at : ℕ) (d : BankDecl) (events : Events) (origins : List Origin) (history : List BankEvent)
    (next : List BankEvent) (n : BankNote) (ns : List News) (i rec : ℕ) → Becomes steps at origins history next n
    → (at ≡ i → ⊥)
    → told (deeds_of i rec (news_of (bank_note at d events n) ∷ ns)) ≡ told (deeds_of i rec ns)
unfolding deed_at
told_elsewhere steps at d events origins history next n ns i rec (logs error step_is bank_is) apart =
    untold (is_at i rec error.report.bank error.report.rec)
    (Was (Reported (error_at (suc (length ns)) error.report))) (deeds_of i rec ns)
    (is_apart i rec error.report.rec error.report.bank (λ same. apart (sym bank_is ∙ same)))
told_elsewhere steps at d events origins history next n ns i rec (claims r) apart =
    untold (is_at i rec at r) (Was Claimed) (deeds_of i rec ns) (is_apart i rec r at apart)
told_elsewhere steps at d events origins history next n ns i rec (invalidates r) apart =
    untold (is_at i rec at r) (Was Invalidated) (deeds_of i rec ns) (is_apart i rec r at apart)
told_elsewhere steps at d events origins history next n ns i rec (over r) apart = refl
told_elsewhere steps at d events origins history next n ns i rec (publishes r copy there) apart =
    check_told (is_at i rec at r) true (deeds_of i rec ns)
told_elsewhere steps at d events origins history next n ns i rec (tears r) apart =
    check_told (is_at i rec at r) false (deeds_of i rec ns)
told_elsewhere steps at d events origins history next n ns i rec (scans r found) apart = refl
told_elsewhere steps at d events origins history next n ns i rec (reads r register) apart = refl
told_elsewhere steps at d events origins history next n ns i rec (signals r level) apart = refl
told_elsewhere steps at d events origins history next n ns i rec (acknowledges full) apart = refl

-- ---- That the note is true ----

-- the records of a bank that the plan has
origin_is : (plan : Plan) (at rec : ℕ) (d : BankDecl) → slice_get plan.banks at ≡ Some d
    → origin_at plan at rec ≡ slice_get (bank_plan at d plan.recs).origins rec
origin_is plan at rec d known = ap (origin_in at rec plan) known

claim_is : (o : Option Origin) (rec : ℕ) (history : List BankEvent) (events : List Event)
    → events ≡ events_of rec history
    → is_cleared o rec history ≡ option_map_or (λ origin. in_progress origin events) o false
claim_is None rec history events h = refl
claim_is (Some origin) rec history events h = ap (in_progress origin) (sym h)

pub note_true : (plan : Plan) (steps at : ℕ) (d : BankDecl) (events : Events) (history next : List BankEvent)
    (n : BankNote) (ns : List News) → slice_get plan.banks at ≡ Some d
    → Becomes steps at (bank_plan at d plan.recs).origins history next n
    → steps ≡ length ns → ((rec : ℕ) → told (deeds_of at rec ns) ≡ events_of rec history)
    → IsTrue plan ns (bank_note at d events n)
note_true plan steps at d events history next n ns known (logs error step_is bank_is) same h =
    let rec = error.report.rec in
    let origins = (bank_plan at d plan.recs).origins in
    let e : error ≡ error_at (suc (length ns)) error.report =
    λ i. record { step = (step_is ∙ ap suc same) i; report = error.report } in
    ap (λ es. option_map (λ (origin : Origin). outcome origin es error) (slice_get origins rec)) (sym (h rec))
    ∙ ap (λ (x : Error). option_map (λ (origin : Origin). outcome origin (told (deeds_of at rec ns)) x)
    (slice_get origins rec)) e
    ∙ ap (λ o. option_map (λ (origin : Origin). outcome origin (told (deeds_of at rec ns))
    (error_at (suc (length ns)) error.report)) o) (sym (origin_is plan at rec d known))
    ∙ ap (λ b. option_map (λ (origin : Origin). outcome origin (told (deeds_of b rec ns))
    (error_at (suc (length ns)) error.report)) (origin_at plan b rec)) (sym bank_is)
note_true plan steps at d events history next n ns known (claims r) same h = tt
note_true plan steps at d events history next n ns known (invalidates r) same h =
    let origins = (bank_plan at d plan.recs).origins in
    claim_is (slice_get origins r) r history (told (deeds_of at r ns)) (h r)
    ∙ ap (λ o. option_map_or (λ (origin : Origin). in_progress origin (told (deeds_of at r ns))) o false)
    (sym (origin_is plan at r d known))
note_true plan steps at d events history next n ns known (over r) same h = tt
note_true plan steps at d events history next n ns known (publishes r copy there) same h =
    λ _. subst IsSome (sym (origin_is plan at r d known)) there
note_true plan steps at d events history next n ns known (tears r) same h = λ torn. absurd (true≢false torn)
note_true plan steps at d events history next n ns known (scans r found) same h = tt
note_true plan steps at d events history next n ns known (reads r register) same h = tt
note_true plan steps at d events history next n ns known (signals r level) same h = tt
note_true plan steps at d events history next n ns known (acknowledges full) same h = tt
