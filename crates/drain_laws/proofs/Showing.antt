-- Laws of what records show: a signalled record's bank asks, what is shown and published is about to be invalidated,
-- and each copy is of its record.
use Rattle.std.proofs.Common.{◌≡◌, ℕ, zero, suc, Bool, true, false, List, [], ◌∷◌, slice_get, Option, Some, None, refl, sym, ap, ◌∙◌, subst}
use Rattle.std.proofs.lemmas.Bool.{true≢false}
use Rattle.std.proofs.lemmas.Option.{none-some, same_Some}
use Rattle.sse_base.specs.Events.{Events}
use Rattle.reri_fields.specs.declared.drain.Phase.{Phase}
use Rattle.reri_fields.specs.declared.drain.Phase.TheVariants.{Invalidate}
use Rattle.reri_fields.specs.Records.{Error, Origin, shown}
use Rattle.reri_fields.specs.Banks.{BankEvent}
use Rattle.reri_fields.specs.Drain.{BankState, BankTry, BankNote, Draining, Publication, errors_at, claimed_at}
use Rattle.ras_device.specs.declared.act.Act.{Act}
use Rattle.board_plan.specs.declared.notes.Published.{Published}
use Rattle.board_plan.specs.declared.notes.Step.{Step}
use Rattle.board_plan.specs.declared.notes.StepNote.{StepNote}
use Rattle.board_plan.specs.declared.notes.StepNote.TheVariants as note
use Rattle.board_plan.specs.declared.plan.BankDecl.{BankDecl}
use Rattle.board_plan.specs.declared.plan.Plan.{Plan}
use Rattle.board_plan.specs.State.{BoardState, bank_plan}
use Rattle.board_plan.specs.Step.{bank_note, published_by}
use Rattle.board_plan.specs.Run.{ran}
use Rattle.board_plan.specs.Fates.{origin_in}
use Rattle.board_plan.specs.Plans.{IsPlan}
use Rattle.board_plan.specs.Sound.{EachSignalledAsks, EachShownPublishedIsUnderInvalidate, EachCopyIsOfItsRecord, IsUnderInvalidate, IsOfItsRecord, origins_of}
use Rattle.drain_laws.proofs.Past.{Stays, past_unshown}
use Rattle.drain_laws.proofs.Past.Stays.{still, past}
use Rattle.drain_laws.proofs.BankMoves.{Moves, moves}
use Rattle.drain_laws.proofs.BankMoves.Moves.{publishes}
use Rattle.drain_laws.proofs.BoardMoves.{Touches, Comes, step_does}
use Rattle.drain_laws.proofs.BoardMoves.Touches.{apart, at}
use Rattle.drain_laws.proofs.BankSound.{is_invalidate, Settled, Standing, Each, PublishedIf, PublishedIn}
use Rattle.drain_laws.proofs.BoardSound.{ran_sound}

-- ---- A signalled record's bank asks ----

pub each_signalled_asks : (plan : Plan) (acts : ℕ → List Act) (tries : List Step) → IsPlan plan
    → EachSignalledAsks plan (ran plan acts tries).state
each_signalled_asks plan acts tries is =
    λ bank rec d x there now. ((ran_sound plan acts tries is).each bank d x there.known there.there).asked.each rec now

-- ---- What is shown and published is about to be invalidated ----

each_at : (P : Publication → Type 0) (ps : List Publication) (place : ℕ) (p : Publication) → Each P ps
    → slice_get ps place ≡ Some p → P p
each_at P [] place p h is = absurd (none-some p is)
each_at P (x ∷ xs) zero p h is = subst P (same_Some x p is) h.0
each_at P (x ∷ xs) (suc place) p h is = each_at P xs place p h.1 is

settled_unshown : (origins : List Origin) (n : ℕ) (history : List BankEvent) (p : Publication) (e : Error)
    (origin : Origin) → Settled origins n history p → p.shown ≡ Some e → slice_get origins p.rec ≡ Some origin
    → shown (errors_at origin p.rec history) ≡ Some e → ⊥
settled_unshown origins n history p e origin h was there now =
    past_unshown e (errors_at origin p.rec history) (h.past origin e there was).1 now

stays_held : (q : Error) (origin : Origin) (rec : ℕ) (history : List BankEvent)
    → Stays q (errors_at origin rec history) (claimed_at origin rec history)
    → shown (errors_at origin rec history) ≡ Some q → claimed_at origin rec history ≡ true
stays_held q origin rec history (still on is) now = on
stays_held q origin rec history (past so) now = absurd (past_unshown q (errors_at origin rec history) so now)

to_invalidate : (phase : Phase) → is_invalidate phase ≡ true → phase ≡ Invalidate
to_invalidate Invalidate h = refl
to_invalidate phase h = absurd (true≢false (sym h))

-- of what was published just now
newest_shown : (origins : List Origin) (n : ℕ) (x : BankState) (u : Draining) (place : ℕ) (p : Publication) (e : Error)
    (origin : Origin) (ps : List Publication) → x.drain ≡ Some u → is_invalidate u.phase ≡ true
    → (latest : Publication) (older : List Publication) → ps ≡ latest ∷ older
    → Standing origins n x.history latest u.rec → Each (Settled origins n x.history) older
    → slice_get ps place ≡ Some p → p.shown ≡ Some e → slice_get origins p.rec ≡ Some origin
    → shown (errors_at origin p.rec x.history) ≡ Some e → IsUnderInvalidate x place p origin
newest_shown origins n x u (suc place) p e origin ps under phase latest older are newest rest here was there now =
    absurd (settled_unshown origins n x.history p e origin
    (each_at (Settled origins n x.history) older place p rest
    (sym (ap (λ qs. slice_get qs (suc place)) are) ∙ here)) was there now)
newest_shown origins n x u zero p e origin ps under phase latest older are newest rest here was there now =
    let is : latest ≡ p = same_Some latest p (sym (ap (λ qs. slice_get qs zero) are) ∙ here) in
    let standing : Standing origins n x.history p u.rec =
    subst (λ q. Standing origins n x.history q u.rec) is newest in
    record {
      newest = refl;
      drain = u;
      under_way = under;
      phase = to_invalidate u.phase phase;
      rec = sym standing.rec_is;
      unwritten = stays_held e origin p.rec x.history (standing.stays origin e there was).1 now;
    }

if_shown : (origins : List Origin) (n : ℕ) (x : BankState) (u : Draining) (place : ℕ) (p : Publication) (e : Error)
    (origin : Origin) (b : Bool) → x.drain ≡ Some u → is_invalidate u.phase ≡ b
    → PublishedIf origins n x.history x.published u.rec b
    → slice_get x.published place ≡ Some p → p.shown ≡ Some e → slice_get origins p.rec ≡ Some origin
    → shown (errors_at origin p.rec x.history) ≡ Some e → IsUnderInvalidate x place p origin
if_shown origins n x u place p e origin false under phase h here was there now =
    absurd (settled_unshown origins n x.history p e origin
    (each_at (Settled origins n x.history) x.published place p h here) was there now)
if_shown origins n x u place p e origin true under phase h here was there now =
    newest_shown origins n x u place p e origin x.published under phase h.latest h.older h.are h.newest h.rest here was
    there now

in_shown : (origins : List Origin) (n : ℕ) (x : BankState) (o : Option Draining) (place : ℕ) (p : Publication)
    (e : Error) (origin : Origin) → x.drain ≡ o → PublishedIn origins n x.history x.published o
    → slice_get x.published place ≡ Some p → p.shown ≡ Some e → slice_get origins p.rec ≡ Some origin
    → shown (errors_at origin p.rec x.history) ≡ Some e → IsUnderInvalidate x place p origin
in_shown origins n x None place p e origin under h here was there now =
    absurd (settled_unshown origins n x.history p e origin
    (each_at (Settled origins n x.history) x.published place p h here) was there now)
in_shown origins n x (Some u) place p e origin under h here was there now =
    if_shown origins n x u place p e origin (is_invalidate u.phase) under refl h here was there now

pub each_shown_published_is_under_invalidate : (plan : Plan) (acts : ℕ → List Act) (tries : List Step) → IsPlan plan
    → EachShownPublishedIsUnderInvalidate plan (ran plan acts tries).state
each_shown_published_is_under_invalidate plan acts tries is =
    λ bank place d x p e origin there here was known now.
    let sound = (ran_sound plan acts tries is).each bank d x there.known there.there in
    in_shown (origins_of plan bank d) (suc (ran plan acts tries).state.steps) x x.drain place p e origin refl
    sound.published here was known now

-- ---- Each copy is of its record ----

copy_moves : (plan : Plan) (s : BoardState) (bank : ℕ) (decl : BankDecl) (x y : BankState) (come : BankTry)
    (m : BankNote) (p : Published) → Moves (bank_plan bank decl plan.recs) x come y m
    → slice_get plan.banks bank ≡ Some decl → slice_get s.banks bank ≡ Some x → published_by bank m ≡ Some p
    → (events : Events) → IsOfItsRecord plan s (bank_note bank decl events m) p
copy_moves plan s bank decl x y come m p (publishes d origin due checking there on) known here is events =
    subst (IsOfItsRecord plan s (note.Check bank d.rec false)) (same_Some _ p is)
    (record {
      rec = d.rec;
      origin = origin;
      bank = x;
      checks = refl;
      begins = ap (origin_in bank d.rec plan) known ∙ there;
      there = here;
      claimed = on;
      copy = refl;
    })
copy_moves plan s bank decl x y come m p other known here is events = absurd (none-some p is)

touched_copy : (plan : Plan) (comes : ℕ → BankTry → Type 0) (s : BoardState) (after : List BankState) (n : StepNote)
    (o : Option Published) (p : Published) → Touches plan comes s.banks after n o → o ≡ Some p
    → IsOfItsRecord plan s n p
touched_copy plan comes s after n o p (apart off same nothing) is = absurd (none-some p (sym nothing ∙ is))
touched_copy plan comes s after n o p (at a) is =
    subst (λ m. IsOfItsRecord plan s m p) (sym a.note_is)
    (copy_moves plan s a.bank a.decl a.state a.made.state a.come a.made.note p
    (moves (bank_plan a.bank a.decl plan.recs) a.state a.come a.made a.makes) a.known a.there
    (sym a.published_is ∙ is) a.events)

pub each_copy_is_of_its_record : (plan : Plan) (acts : ℕ → List Act) (s : BoardState)
    → EachCopyIsOfItsRecord plan acts s
each_copy_is_of_its_record plan acts s =
    λ t d p is published.
    touched_copy plan (Comes plan acts t s) s d.state.banks d.note d.published p (step_does plan acts t s d is).touches
    published
