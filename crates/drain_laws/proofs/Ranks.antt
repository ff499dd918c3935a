-- Where each report has a priority below 4, no error that a record holds has a rank above 11.
use Rattle.std.proofs.Common.{◌≡◌, ℕ, ◌<◌, ◌≤◌, ◌==◌, true, false, cond, List, [], ◌∷◌, ◌++◌, slice_get, Option, Some, None, sym, ◌∙◌, subst, arith}
use Rattle.std.specs.Option.{option_map}
use Rattle.std.proofs.Math.Nat.{le-max_left, max-le}
use Rattle.std.proofs.lemmas.Option.{none-some, same_Some, slice_get-map}
use Rattle.reri_fields.specs.Records.{Error, Event, Origin, severity_of, rank_of, greatest_of, is_logged, since, in_progress}
use Rattle.reri_fields.specs.Records.Event.{Reported, Claimed, Invalidated}
use Rattle.reri_fields.specs.Banks.{BankEvent, events_of}
use Rattle.reri_fields.specs.Banks.BankEvent.{Logs, Claims, Invalidates, ScanOver}
use Rattle.reri_fields.specs.Drain.{BankPlan, BankState, BankTry, BankNote, bank_start, errors_at}
use Rattle.reri_log.proofs.Errors.{greatest_le}
use Rattle.ras_device.specs.declared.act.Act.{Act}
use Rattle.board_plan.specs.declared.notes.Step.{Step}
use Rattle.board_plan.specs.declared.plan.BankDecl.{BankDecl}
use Rattle.board_plan.specs.declared.plan.Plan.{Plan}
use Rattle.board_plan.specs.State.{BoardState, bank_plan}
use Rattle.board_plan.specs.Step.{Stepped, step}
use Rattle.board_plan.specs.Run.{ran}
use Rattle.board_plan.specs.Plans.{IsPlan, AreReports}
use Rattle.drain_laws.proofs.BankMoves.{Moves}
use Rattle.drain_laws.proofs.BankMoves.Moves.{reports, acks, finds_none, finds, claims, reads, tears, publishes, clears, signals}
use Rattle.drain_laws.proofs.BoardSound.{BoardSound, step_sound, start_board}
use Rattle.drain_laws.proofs.BankRuns.{IsFit, moved, declared}
use Rattle.drain_laws.proofs.Turns.{Turn, turn_of, there_before}
use Rattle.drain_laws.proofs.Turns.Turn.{rests, takes}
use Rattle.drain_laws.proofs.Runs.{kept_from_start}

-- ---- The errors of a record ----

-- each error of the history has the priority of a report
abbrev pub AreRanked : List BankEvent → Type 0
AreRanked [] = Unit {0}
AreRanked (Logs e ∷ history) = (e.report.priority < 4) × AreRanked history
AreRanked (Claims rec ∷ history) = AreRanked history
AreRanked (Invalidates rec ∷ history) = AreRanked history
AreRanked (ScanOver ∷ history) = AreRanked history

abbrev AreLow : List Error → Type 0
AreLow [] = Unit {0}
AreLow (e ∷ es) = (e.report.priority < 4) × AreLow es

abbrev AllLow : List Event → Type 0
AllLow [] = Unit {0}
AllLow (Reported e ∷ events) = (e.report.priority < 4) × AllLow events
AllLow (Claimed ∷ events) = AllLow events
AllLow (Invalidated ∷ events) = AllLow events

low_push : (errors : List Error) (e : Error) → AreLow errors → e.report.priority < 4 → AreLow (errors ++ e ∷ [])
low_push [] e low now = (now, tt)
low_push (x ∷ xs) e low now = (low.0, low_push xs e low.1 now)

events_low : (at : ℕ) (history : List BankEvent) → AreRanked history → AllLow (events_of at history)
unfolding events_of
events_low at [] h = tt
events_low at (Logs e ∷ history) h =
    let rest = events_low at history h.1 in
    elim (e.report.rec == at) as (λ b. AllLow (cond b (Reported e ∷ events_of at history) (events_of at history)))
    [ true ↦ (h.0, rest) | false ↦ rest ]
events_low at (Claims rec ∷ history) h =
    let rest = events_low at history h in
    elim (rec == at) as (λ b. AllLow (cond b (Claimed ∷ events_of at history) (events_of at history)))
    [ true ↦ rest | false ↦ rest ]
events_low at (Invalidates rec ∷ history) h =
    let rest = events_low at history h in
    elim (rec == at) as (λ b. AllLow (cond b (Invalidated ∷ events_of at history) (events_of at history)))
    [ true ↦ rest | false ↦ rest ]
events_low at (ScanOver ∷ history) h = events_low at history h

since_low : (o : Origin) (events : List Event) → AllLow events → AreLow (since o events)
unfolding since
since_low o [] h = tt
since_low o (Reported e ∷ events) h =
    let rest = since_low o events h.1 in
    elim (is_logged o events e.report) as (λ b. AreLow (cond b (since o events ++ e ∷ []) (since o events)))
    [ true ↦ low_push (since o events) e rest h.0 | false ↦ rest ]
since_low o (Claimed ∷ events) h = since_low o events h
since_low o (Invalidated ∷ events) h =
    elim (in_progress o events) as (λ b. AreLow (cond b [] (since o events)))
    [ true ↦ tt | false ↦ since_low o events h ]

severity_low : (e : Error) → severity_of e ≤ 2
unfolding greatest_of
severity_low e = omega (arith, greatest_le (e ∷ []), le-max_left (severity_of e) 0)

rank_low : (e : Error) → e.report.priority < 4 → rank_of e ≤ 11
unfolding rank_of
rank_low e low = omega (arith, low, severity_low e)

greatest_low : (errors : List Error) → AreLow errors → greatest_of rank_of errors ≤ 11
unfolding greatest_of
greatest_low [] h = omega arith
greatest_low (e ∷ es) h = max-le (rank_low e h.0) (greatest_low es h.1)

pub top_low : (o : Origin) (at : ℕ) (history : List BankEvent) → AreRanked history
    → greatest_of rank_of (errors_at o at history) ≤ 11
top_low o at history h = greatest_low (errors_at o at history) (since_low o (events_of at history)
    (events_low at history h))

-- ---- In every run ----

pub ranked_moves : (plan : BankPlan) (acts : ℕ → List Act) (x y : BankState) (come : BankTry) (m : BankNote)
    → AreReports acts → IsFit acts x come → AreRanked x.history → Moves plan x come y m → AreRanked y.history
ranked_moves plan acts x y come m are fit h (reports e) = (fit.1 are, h)
ranked_moves plan acts x y come m are fit h acks = h
ranked_moves plan acts x y come m are fit h (finds_none u due phase found) = h
ranked_moves plan acts x y come m are fit h (finds u rec due phase found) = h
ranked_moves plan acts x y come m are fit h (claims u due phase) = h
ranked_moves plan acts x y come m are fit h (reads u register next due phase to) = h
ranked_moves plan acts x y come m are fit h (tears u o due phase known off) = h
ranked_moves plan acts x y come m are fit h (publishes u origin due phase known on) = h
ranked_moves plan acts x y come m are fit h (clears u due phase) = h
ranked_moves plan acts x y come m are fit h (signals u due phase) = h

pub record BoardRanked (plan : Plan) (s : BoardState) : Type 0 where
  pub sound : BoardSound plan s
  pub each : (bank : ℕ) (x : BankState) → slice_get s.banks bank ≡ Some x → AreRanked x.history

turned_ranked : (plan : Plan) (acts : ℕ → List Act) (t : Step) (s : BoardState) (d : Stepped) (bank : ℕ)
    (decl : BankDecl) (x y : BankState) → AreReports acts → BoardSound plan s → slice_get plan.banks bank ≡ Some decl
    → slice_get s.banks bank ≡ Some x → AreRanked x.history → Turn plan acts t s d bank decl x y → AreRanked y.history
turned_ranked plan acts t s d bank decl x y are sound known there h (rests same off) =
    subst (λ (b : BankState). AreRanked b.history) (sym same) h
turned_ranked plan acts t s d bank decl x y are sound known there h (takes a) =
    let m = moved plan acts t s d bank decl x y (sound.each bank decl x known there).early a in
    ranked_moves (bank_plan bank decl plan.recs) acts x y m.come m.told are m.fit h m.moves

pub step_ranked : (plan : Plan) (acts : ℕ → List Act) → IsPlan plan → AreReports acts → (t : Step) (s : BoardState)
    (d : Stepped) → step plan acts t s ≡ Some d → BoardRanked plan s → BoardRanked plan d.state
step_ranked plan acts is are t s d makes h =
    record {
      sound = step_sound plan acts is t s d makes h.sound;
      each = λ bank y after.
          let was = there_before plan acts t s d bank y makes after in
          let decl = declared plan s bank was.0 h.sound was.1 in
          turned_ranked plan acts t s d bank decl.0 was.0 y are h.sound decl.1 was.1 (h.each bank was.0 was.1)
          (turn_of plan acts t s d bank decl.0 was.0 y makes decl.1 was.1 after);
    }

fresh_ranked : (o : Option BankDecl) (x : BankState) → option_map (λ (e : BankDecl). bank_start) o ≡ Some x
    → AreRanked x.history
fresh_ranked None x h = absurd (none-some x h)
fresh_ranked (Some e) x h = subst (λ (y : BankState). AreRanked y.history) (same_Some bank_start x h) tt

pub ran_ranked : (plan : Plan) (acts : ℕ → List Act) (tries : List Step) → IsPlan plan → AreReports acts
    → BoardRanked plan (ran plan acts tries).state
ran_ranked plan acts tries is are =
    kept_from_start plan acts (BoardRanked plan) (step_ranked plan acts is are)
    (record {
      sound = start_board plan;
      each = λ bank x there.
          fresh_ranked (slice_get plan.banks bank) x
          (sym (slice_get-map (λ (e : BankDecl). bank_start) plan.banks bank) ∙ there);
    }) tries
