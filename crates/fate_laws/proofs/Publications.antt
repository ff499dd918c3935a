-- The Check that published a drained error is a step of the run, with the copy of what the record showed then.
use Rattle.std.proofs.Common.{◌≡◌, ◌⊎◌, ℕ, suc, ◌==◌, true, false, cond, List, [], ◌∷◌, ◌++◌, length, slice_get, Option, Some, None, refl, inl, inr, sym, ap, ◌∙◌, subst, append_assoc}
use Rattle.std.proofs.lemmas.Bool.{cases_Bool, eqb-true, true≢false}
use Rattle.std.proofs.lemmas.Option.{none-some, same_Some}
use Rattle.sse_base.specs.Events.{Events}
use Rattle.reri_fields.specs.declared.report.RecordCopy.{RecordCopy}
use Rattle.reri_fields.specs.Records.{Error, Origin, copy_after, shown, since}
use Rattle.reri_fields.specs.Banks.{events_of}
use Rattle.reri_fields.specs.Drain.{BankState, BankTry, BankNote}
use Rattle.ras_device.specs.declared.act.Act.{Act}
use Rattle.board_plan.specs.declared.notes.Published.{Published}
use Rattle.board_plan.specs.declared.notes.Step.{Step}
use Rattle.board_plan.specs.declared.notes.StepNote.{StepNote}
use Rattle.board_plan.specs.declared.notes.StepNote.TheVariants as note
use Rattle.board_plan.specs.declared.plan.BankDecl.{BankDecl}
use Rattle.board_plan.specs.declared.plan.Plan.{Plan}
use Rattle.board_plan.specs.State.{BoardState, bank_plan}
use Rattle.board_plan.specs.Step.{Stepped, bank_note, published_by, step}
use Rattle.board_plan.specs.Run.{ran}
use Rattle.board_plan.specs.Fates.{News, told, deeds_of, error_at, has_fate, is_at, news, news_of, origin_at, origin_in}
use Rattle.board_plan.specs.Fates.Fate.{Drained}
use Rattle.board_plan.specs.Fates.News.{Errs, Claims, Checks, Invalidates, Other}
use Rattle.board_plan.specs.Sound.{shows_at}
use Rattle.board_plan.specs.Blocks.{IsPublicationOf}
use Rattle.board_fates.proofs.Runs.{ran_tells}
use Rattle.drain_laws.proofs.BankMoves.{Moves, moves}
use Rattle.drain_laws.proofs.BoardMoves.{Touches, is_apart, step_does}
use Rattle.fate_laws.proofs.Made.{error_of, shown_was_made}
use Rattle.fate_laws.proofs.Published.{is_no_publication, fate_still, check_still, newest_undrained, same_record, shown_error}
use Rattle.fate_laws.proofs.Tries.{GoesOn, all_tries, goes_on}

-- ---- Steps that publish ----

-- a Check of a record of a bank published what the record's history says
pub record Publishes (plan : Plan) (s : BoardState) (n : StepNote) (p : Option Published) : Type 0 where
  pub bank : ℕ
  pub rec : ℕ
  pub origin : Origin
  pub state : BankState
  pub there : slice_get s.banks bank ≡ Some state
  pub begins : origin_at plan bank rec ≡ Some origin
  pub checks : n ≡ note.Check bank rec false
  pub published : p ≡ Some (record { bank = bank; copy = copy_after origin (events_of rec state.history) })

abbrev PublishesOrNot : Plan → BoardState → StepNote → Option Published → Type 0
PublishesOrNot plan s n p = (is_no_publication (news_of n) ≡ true) ⊎ Publishes plan s n p

move_publishes : (plan : Plan) (board : BoardState) (bank : ℕ) (d : BankDecl) (events : Events) (s : BankState)
    (t : BankTry) (after : BankState) (n : BankNote) → slice_get plan.banks bank ≡ Some d
    → slice_get board.banks bank ≡ Some s → Moves (bank_plan bank d plan.recs) s t after n
    → PublishesOrNot plan board (bank_note bank d events n) (published_by bank n)
move_publishes plan board bank d events s t after n known there (Moves.publishes u origin due phase is on) =
    inr (record {
      bank = bank;
      rec = u.rec;
      origin = origin;
      state = s;
      there = there;
      begins = ap (origin_in bank u.rec plan) known ∙ is;
      checks = refl;
      published = refl;
    })
move_publishes plan board bank d events s t after n known there m = inl refl

touch_publishes : (plan : Plan) (s : BoardState) (comes : ℕ → BankTry → Type 0) (banks : List BankState) (n : StepNote)
    (p : Option Published) → Touches plan comes s.banks banks n p → PublishesOrNot plan s n p
touch_publishes plan s comes banks n p (Touches.apart off same none) = inl (apart_publishes n off)
  where
    apart_publishes : (n : StepNote) → is_apart n ≡ true → is_no_publication (news_of n) ≡ true
    apart_publishes (note.Check b c torn) off = absurd (true≢false (sym off))
    apart_publishes n off = refl
touch_publishes plan s comes banks n p (Touches.at a) =
    subst (λ m. PublishesOrNot plan s m p) (sym a.note_is)
    (subst (PublishesOrNot plan s (bank_note a.bank a.decl a.events a.made.note)) (sym a.published_is)
    (move_publishes plan s a.bank a.decl a.events a.state a.come a.made.state a.made.note a.known a.there
    (moves (bank_plan a.bank a.decl plan.recs) a.state a.come a.made a.makes)))

pub step_publishes : (plan : Plan) (acts : ℕ → List Act) (t : Step) (s : BoardState) (d : Stepped)
    → step plan acts t s ≡ Some d → PublishesOrNot plan s d.note d.published
step_publishes plan acts t s d is =
    touch_publishes plan s _ d.state.banks d.note d.published (step_does plan acts t s d is).touches

-- ---- The error that such a step published ----

-- an error of the newest step, which published nothing
record IsNew (n : ℕ) (news : News) (ns : List News) : Type 0 where
  step : n ≡ suc (length ns)
  none : is_no_publication news ≡ true

-- an error that was made is new, or was made before
made_before : (n : ℕ) (news : News) (ns : List News) (e : Error) → error_of n (news ∷ ns) ≡ Some e
    → (error_of n ns ≡ Some e) ⊎ IsNew n news ns
made_before n (Errs report) ns e is =
    let new = error_at (suc (length ns)) report in
    elim (cases_Bool (suc (length ns) == n)) as (λ _. (error_of n ns ≡ Some e) ⊎ IsNew n (Errs report) ns) [
      | inl now ↦ inr (record { step = sym (eqb-true (suc (length ns)) n now); none = refl })
      | inr earlier ↦ inl (sym (ap (λ b. cond b (Some new) (error_of n ns)) earlier) ∙ is)
    ]
made_before n (Claims b r) ns e is = inl is
made_before n (Checks b r published) ns e is = inl is
made_before n (Invalidates b r) ns e is = inl is
made_before n Other ns e is = inl is

-- the record of such a Check showed an error that it made drained, this very error, and it is the error's own record
record ShowsIt (bank rec : ℕ) (origin : Origin) (ns : List News) (e : Error) : Type 0 where
  showed : shown (since origin (told (deeds_of bank rec ns))) ≡ Some e
  for_it : is_at bank rec e.report.bank e.report.rec ≡ true

shows_it : (plan : Plan) (bank rec : ℕ) (origin : Origin) (ns : List News) (e : Error)
    → origin_at plan bank rec ≡ Some origin → error_of e.step ns ≡ Some e
    → shows_at (deeds_of bank rec ns) e.step (origin_at plan bank rec) ≡ true → ShowsIt bank rec origin ns e
shows_it plan bank rec origin ns e begins made is =
    let deeds = deeds_of bank rec ns in
    let x = shown_error origin deeds e.step (sym (ap (shows_at deeds e.step) begins) ∙ is) in
    let was = shown_was_made bank rec origin ns x.error x.is in
    let same : x.error ≡ e =
    same_Some x.error e (sym was.of_its_step ∙ ap (λ k. error_of k ns) x.step ∙ made) in
    subst (ShowsIt bank rec origin ns) same (record { showed = x.is; for_it = was.for_it })

-- the step that published it
record IsPublishedBy (plan : Plan) (s : BoardState) (d : Stepped) (e : Error) : Type 0 where
  copy : RecordCopy
  bank : BankState
  origin : Origin
  checks : d.note ≡ note.Check e.report.bank e.report.rec false
  publishes : d.published ≡ Some (record { bank = e.report.bank; copy = copy })
  begins : origin_at plan e.report.bank e.report.rec ≡ Some origin
  there : slice_get s.banks e.report.bank ≡ Some bank
  showed : shown (since origin (events_of e.report.rec bank.history)) ≡ Some e
  values : copy ≡ copy_after origin (events_of e.report.rec bank.history)

published_by_it : (plan : Plan) (s : BoardState) (d : Stepped) (ns : List News) (e : Error)
    → (p : Publishes plan s d.note d.published)
    → told (deeds_of p.bank p.rec ns) ≡ events_of p.rec p.state.history
    → ShowsIt p.bank p.rec p.origin ns e → IsPublishedBy plan s d e
published_by_it plan s d ns e p told_is h =
    let same = same_record p.bank p.rec e.report.bank e.report.rec h.for_it in
    let b = sym same.bank_is in
    let r = sym same.rec_is in
    let history = p.state.history in
    record {
      copy = copy_after p.origin (events_of p.rec history);
      bank = p.state;
      origin = p.origin;
      checks = p.checks ∙ ap (λ c. note.Check c p.rec false) b ∙ ap (λ c. note.Check e.report.bank c false) r;
      publishes = p.published ∙ ap (published_as (copy_after p.origin (events_of p.rec history))) b;
      begins = sym (ap (λ c. origin_at plan c p.rec) b ∙ ap (origin_at plan e.report.bank) r) ∙ p.begins;
      there = sym (ap (slice_get s.banks) b) ∙ p.there;
      showed = sym (ap (λ es. shown (since p.origin es)) (told_is ∙ ap (λ c. events_of c history) r)) ∙ h.showed;
      values = ap (λ c. copy_after p.origin (events_of c history)) r;
    }
  where
    published_as : RecordCopy → ℕ → Option Published
    published_as copy bank = Some (record { bank = bank; copy = copy })

-- ---- Each drained error ----

-- with one try more
longer : (plan : Plan) (acts : ℕ → List Act) (ts : List Step) (t : Step) (e : Error)
    → IsPublicationOf plan acts ts e → IsPublicationOf plan acts (ts ++ t ∷ []) e
longer plan acts ts t e p =
    record {
      before = p.before;
      after = p.after ++ t ∷ [];
      by = p.by;
      made = p.made;
      copy = p.copy;
      bank = p.bank;
      origin = p.origin;
      steps = p.steps;
      checks = p.checks;
      publishes = p.publishes;
      begins = p.begins;
      there = p.there;
      showed = p.showed;
      values = p.values;
      tried = ap (λ us. us ++ t ∷ []) p.tried ∙ append_assoc p.before (p.by ∷ p.after) (t ∷ []);
    }

ends_with : (plan : Plan) (acts : ℕ → List Act) (ts : List Step) (t : Step) (d : Stepped) (e : Error)
    → step plan acts t (ran plan acts ts).state ≡ Some d → IsPublishedBy plan (ran plan acts ts).state d e
    → IsPublicationOf plan acts (ts ++ t ∷ []) e
ends_with plan acts ts t d e is p =
    record {
      before = ts;
      after = [];
      by = t;
      made = d;
      copy = p.copy;
      bank = p.bank;
      origin = p.origin;
      tried = refl;
      steps = is;
      checks = p.checks;
      publishes = p.publishes;
      begins = p.begins;
      there = p.there;
      showed = p.showed;
      values = p.values;
    }

-- each error that the news of the run made and that is drained was published in the run
abbrev Holds : Plan → (ℕ → List Act) → List Step → List News → Type 0
Holds plan acts ts ns =
    (e : Error) → error_of e.step ns ≡ Some e → has_fate plan ns Drained e ≡ true → IsPublicationOf plan acts ts e

-- the step that comes next published it, where it was not drained before
next_published : (plan : Plan) (acts : ℕ → List Act) (ts : List Step) (t : Step) (d : Stepped) (e : Error)
    → step plan acts t (ran plan acts ts).state ≡ Some d
    → error_of e.step (news (ran plan acts ts).notes) ≡ Some e
    → has_fate plan (news (ran plan acts ts).notes) Drained e ≡ false
    → has_fate plan (news_of d.note ∷ news (ran plan acts ts).notes) Drained e ≡ true
    → IsPublicationOf plan acts (ts ++ t ∷ []) e
next_published plan acts ts t d e is made undrained drained =
    let s = (ran plan acts ts).state in
    let ns = news (ran plan acts ts).notes in
    elim (step_publishes plan acts t s d is) as (λ _. IsPublicationOf plan acts (ts ++ t ∷ []) e) [
      | inl none ↦
          absurd (true≢false (sym drained ∙ fate_still plan (news_of d.note) ns e none ∙ undrained))
      | inr p ↦
          let now = sym (ap (λ n. has_fate plan (news_of n ∷ ns) Drained e) p.checks) ∙ drained in
          let tells = (ran_tells plan acts ts).told_is p.bank p.rec p.state p.there in
          elim (cases_Bool (shows_at (deeds_of p.bank p.rec ns) e.step (origin_at plan p.bank p.rec))) as (λ _.
          IsPublicationOf plan acts (ts ++ t ∷ []) e) [
            | inl shows ↦
                ends_with plan acts ts t d e is
                (published_by_it plan s d ns e p tells (shows_it plan p.bank p.rec p.origin ns e p.begins made shows))
            | inr off ↦
                absurd (true≢false (sym now ∙ check_still plan p.bank p.rec ns e off ∙ undrained))
          ]
    ]

step_holds : (plan : Plan) (acts : ℕ → List Act) (ts : List Step) (t : Step) (d : Stepped)
    → step plan acts t (ran plan acts ts).state ≡ Some d → Holds plan acts ts (news (ran plan acts ts).notes)
    → Holds plan acts (ts ++ t ∷ []) (news_of d.note ∷ news (ran plan acts ts).notes)
step_holds plan acts ts t d is h e made drained =
    let ns = news (ran plan acts ts).notes in
    elim (made_before e.step (news_of d.note) ns e made) as (λ _. IsPublicationOf plan acts (ts ++ t ∷ []) e) [
      | inr new ↦
          absurd (true≢false (sym drained ∙ fate_still plan (news_of d.note) ns e new.none
          ∙ newest_undrained plan ns e new.step))
      | inl older ↦
          elim (cases_Bool (has_fate plan ns Drained e)) as (λ _. IsPublicationOf plan acts (ts ++ t ∷ []) e) [
            | inl before ↦ longer plan acts ts t e (h e older before)
            | inr undrained ↦ next_published plan acts ts t d e is older undrained drained
          ]
    ]

tried_holds : (plan : Plan) (acts : ℕ → List Act) (ts : List Step) (t : Step) (o : Option Stepped)
    → step plan acts t (ran plan acts ts).state ≡ o → GoesOn plan acts ts t o
    → Holds plan acts ts (news (ran plan acts ts).notes)
    → Holds plan acts (ts ++ t ∷ []) (news (ran plan acts (ts ++ t ∷ [])).notes)
tried_holds plan acts ts t None is goes h =
    subst (Holds plan acts (ts ++ t ∷ [])) (sym goes.told)
    (λ e made drained. longer plan acts ts t e (h e made drained))
tried_holds plan acts ts t (Some d) is goes h =
    subst (Holds plan acts (ts ++ t ∷ [])) (sym goes.told) (step_holds plan acts ts t d is h)

no_tries : (plan : Plan) (acts : ℕ → List Act) → Holds plan acts [] (news (ran plan acts []).notes)
unfolding ran
no_tries plan acts e made drained = absurd (none-some e made)

pub drained_was_published : (plan : Plan) (acts : ℕ → List Act) (ts : List Step)
    → Holds plan acts ts (news (ran plan acts ts).notes)
drained_was_published plan acts ts =
    all_tries (λ us. Holds plan acts us (news (ran plan acts us).notes)) (no_tries plan acts)
    (λ us t h. tried_holds plan acts us t (step plan acts t (ran plan acts us).state) refl (goes_on plan acts us t) h)
    ts
