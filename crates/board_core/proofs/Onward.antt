-- From what the steps of the parts say to what a board without notes keeps.
use Rattle.std.proofs.Common.{◌≡◌, ℕ, suc, ◌<◌, ◌≤◌, Bool, true, false, List, [], ◌∷◌, ◌++◌, length, get_or, set, slice_get, Option, Some, None, Bor, is_some, refl, sym, ap, ◌∙◌, subst, arith}
use Rattle.std.specs.List.{HoldsAt}
use Rattle.std.specs.Option.{MatchOption, option_copied, option_map}
use Rattle.std.proofs.lemmas.List.{length-map, length-set}
use Rattle.std.proofs.lemmas.Option.{get_or_from_slice_get, none-some, same_Some, slice_get_read}
use Rattle.ras_device.specs.declared.act.Act.{Act}
use Rattle.ras_device.specs.declared.act.Act.TheVariants as act
use Rattle.reri_fields.specs.declared.report.Report.{Report}
use Rattle.reri_fields.specs.Drain.{BankState}
use Rattle.reri_bank.proofs.Stands.{get_there}
use Rattle.sse_base.specs.Machine.{Machine}
use Rattle.board_bank.specs.Standing.{BankParts, StandsFor}
use Rattle.board_plan.specs.declared.notes.Step.{Step}
use Rattle.board_plan.specs.declared.notes.Step.TheVariants.{Hart, Reporter}
use Rattle.board_plan.specs.declared.notes.StepNote.{StepNote}
use Rattle.board_plan.specs.declared.notes.StepNote.TheVariants as note
use Rattle.board_plan.specs.declared.plan.BankDecl.{BankDecl}
use Rattle.board_plan.specs.declared.plan.Plan.{Plan}
use Rattle.board_plan.specs.declared.plan.Reporter as plan_reporter
use Rattle.board_plan.specs.Notes.{has_text}
use Rattle.board_plan.specs.Plans.{IsPlan, most_steps}
use Rattle.board_plan.specs.State.{BoardState, bank_plan, start_state}
use Rattle.board_plan.specs.Step.{Stepped, hart_step, made_by, reporter_step}
use Rattle.board_plan.specs.Run.{Noted, Ran, acts_from, ran, state_after, with_copy}
use Rattle.board_fates.specs.declared.tally.Tally.{Tally}
use Rattle.board_fates.specs.Tallied.{IsNext, Tallies}
use Rattle.board_fates.proofs.Runs.{hart_is_next, reporter_is_next}
use Rattle.board_parts.specs.declared.outcome.Outcome.{Outcome}
use Rattle.board_parts.specs.declared.parts.Parts.{Parts}
use Rattle.board_parts.specs.Came.{Steps, came, outcome_of}
use Rattle.board_parts.specs.Shows.{AreEarly, Shows}
use Rattle.board_core.specs.declared.log.Log.{Log}
use Rattle.board_core.specs.declared.made.Made.{Made}
use Rattle.board_core.specs.declared.brief.Brief.TheInside.{Inside}
use Rattle.board_core.specs.Inside.{IsBrief, played}
use Rattle.board_core.specs.OwnActs.{Suits, HasAdded, HasPlace as HasActPlace, IsNew, Paired, acts_by, acts_in}
use Rattle.board_core.specs.Played.{IsReport, Played, AreListsReports, acts_of, after_act, after_hart, after_hart_step, after_reporter, fresh, has_list, is_list, listed, note_of, own_run, state_of, with_act, with_step}
use Rattle.board_core.specs.Reached.{IsReached, Keeps}
use Rattle.board_core.specs.Rooms.{HasRoom, HasSameRoom}
use Rattle.board_core.proofs.Early.{hart_makes, reporter_makes}
use Rattle.board_core.proofs.Going.{gone_on}
use Rattle.board_core.proofs.Keeping.{keeps_fresh, keeps_hart, keeps_reporter, listed_is}
use Rattle.board_core.proofs.OwnActs.{IsListsNext, acts_at, acts_set, added_suits, added_is, fresh_acts, has_place, limit_within, paired_at, paired_many, paired_on, paired_set}
use Rattle.board_core.proofs.Spent.{few_steps, reached_hart, reached_reporter}
use Rattle.board_core.proofs.Steps.{hart_goes_on, reporter_goes_on}
use Rattle.board_core.proofs.Texts.{hart_has_text, reporter_has_text}

-- ---- The outcome of a step ----

abbrev outcomes : Option Stepped → Option Outcome
outcomes o = option_map (λ d. outcome_of d.note d.published) o

pub record Came (o : Option Stepped) (c : Outcome) : Type 0 where
  pub made : Stepped
  pub is : o ≡ Some made
  pub told : c ≡ outcome_of made.note made.published

it_came : (o : Option Stepped) (c : Outcome) → Some c ≡ outcomes o → Came o c
it_came None c is = absurd (none-some c (sym is))
it_came (Some d) c is = record { made = d; is = refl; told = same_Some c (outcome_of d.note d.published) is }

not_made : (o : Option Stepped) → None ≡ outcomes o → o ≡ None
not_made None is = refl
not_made (Some d) is = absurd (none-some (outcome_of d.note d.published) is)

pub none_noted : (plan : Plan) (s : BoardState) (o : Option Stepped) (p : Parts) → Steps plan s o p None
    → note.Idle ≡ note_of o
none_noted plan s o p steps = ap note_of (sym (not_made o steps.outcome))

step_noted : (o : Option Stepped) (c : Outcome) → Came o c → c.note ≡ note_of o
step_noted o c d = ap (λ (x : Outcome). x.note) d.told ∙ sym (ap note_of d.is)

-- ---- A new board ----

fresh_state : (plan : Plan) → state_of (fresh plan) ≡ start_state plan
unfolding ran
fresh_state plan = refl

pub fresh_notes : (plan : Plan) → (own_run (fresh plan)).notes ≡ []
unfolding ran
fresh_notes plan = refl

pub fresh_is : (y : Inside) (plan : Plan) → y.plan ≡ plan → Paired IsNew plan.reporters y.acts.items
    → y.log.steps.items.items ≡ [] → played y ≡ fresh plan
fresh_is y plan same acts steps =
    let none : acts_in y.plan.reporters y.acts.items ≡ (fresh plan).acts =
    ap (λ (p : Plan). acts_in p.reporters y.acts.items) same ∙ fresh_acts plan.reporters y.acts.items acts in
    λ i. record { plan = same i; acts = none i; steps = steps i }

pub fresh_brief : (y : Inside) (plan : Plan) → IsPlan plan → AreListsReports plan → y.plan ≡ plan
    → Shows plan (start_state plan) y.parts → Paired IsNew plan.reporters y.acts.items
    → y.log.steps.items.items ≡ [] → y.log.published.items.items ≡ []
    → HasRoom (most_steps plan) y.log → Tallies plan [] y.tally → IsBrief y
fresh_brief y plan is_plan reports same shows acts steps published room tallies =
    let is : played y ≡ fresh plan = fresh_is y plan same acts steps in
    let counted : Tallies plan (own_run (fresh plan)).notes y.tally =
    subst (λ ns. Tallies plan ns y.tally) (sym (fresh_notes plan)) tallies in
    let from : Shows plan (state_of (fresh plan)) y.parts =
    subst (λ (s : BoardState). Shows plan s y.parts) (sym (fresh_state plan)) shows in
    record {
      keeps = subst (λ (b : Played). Keeps b y.log.published.items.items) (sym is)
          (subst (Keeps (fresh plan)) (sym published) (keeps_fresh plan is_plan reports));
      shows = subst (λ (p : Plan). Shows p (state_of (played y)) y.parts) (sym same)
          (subst (λ (b : Played). Shows plan (state_of b) y.parts) (sym is) from);
      tallies = subst (λ (p : Plan). Tallies p (own_run (played y)).notes y.tally) (sym same)
          (subst (λ (b : Played). Tallies plan (own_run b).notes y.tally) (sym is) counted);
      harts = ap (λ (m : Machine). m.events.harts) shows.machine ∙ ap (λ (p : Plan). p.harts) (sym same);
      room = subst (λ n. HasRoom n y.log) (ap most_steps (sym same)) room;
      reporters = paired_many IsNew plan.reporters y.acts.items acts
          ∙ ap (λ (p : Plan). length p.reporters) (sym same);
      suit = subst (λ (p : Plan). Paired Suits p.reporters y.acts.items) (sym same)
          (paired_on IsNew Suits plan.reporters y.acts.items (λ d m new. new.suits) acts);
    }

-- ---- No step ----

pub idle_brief : (x y : Inside) (o : Option Stepped) → IsBrief x → y.plan ≡ x.plan → y.acts ≡ x.acts → y.log ≡ x.log
    → y.tally ≡ x.tally → y.parts.firmware.events.harts ≡ x.parts.firmware.events.harts
    → Steps x.plan (state_of (played x)) o y.parts None → IsBrief y
idle_brief x y o board plan acts log tally harts steps =
    let none = not_made o steps.outcome in
    let shows : Shows x.plan (state_of (played x)) y.parts =
    subst (λ (q : Option Stepped). Shows x.plan (state_after (state_of (played x)) q) y.parts) none steps.shows in
    let same : record x { parts = y.parts } ≡ y =
    λ i. record { plan = sym plan i; parts = y.parts; acts = sym acts i; log = sym log i; tally = sym tally i } in
    subst IsBrief same (record {
      keeps = board.keeps;
      shows = shows;
      tallies = board.tallies;
      harts = harts ∙ board.harts;
      room = board.room;
      reporters = board.reporters;
      suit = board.suit;
    })

-- ---- A step ----

-- there is room for one step more
pub record HasPlace (log : Log) : Type 0 where
  pub steps : length log.steps.items.items < log.steps.room
  pub published : length log.published.items.items < log.published.room

one_more_fits : (x : Inside) (d : Stepped) → IsBrief x → d.state.steps ≡ suc (state_of (played x)).steps
    → IsReached x.plan d.state → HasPlace x.log
one_more_fits x d board number reached =
    let keeps = board.keeps in
    let few = few_steps x.plan d.state reached in
    record {
      steps = omega (arith, few, number, keeps.many, board.room.steps);
      published = omega (arith, few, number, keeps.many, board.room.published, keeps.few_published);
    }

on_brief : (x y : Inside) (b : Played) → IsBrief x → y.plan ≡ x.plan
    → y.parts.firmware.events.harts ≡ x.parts.firmware.events.harts → played y ≡ b
    → Keeps b y.log.published.items.items → Shows x.plan (state_of b) y.parts
    → Tallies x.plan (own_run b).notes y.tally → HasSameRoom x.log y.log
    → length y.acts.items ≡ length x.acts.items → Paired Suits x.plan.reporters y.acts.items → IsBrief y
on_brief x y b board plan harts is keeps shows tallies room many suit =
    record {
      keeps = subst (λ (c : Played). Keeps c y.log.published.items.items) (sym is) keeps;
      shows = subst (λ (p : Plan). Shows p (state_of (played y)) y.parts) (sym plan)
          (subst (λ (c : Played). Shows x.plan (state_of c) y.parts) (sym is) shows);
      tallies = subst (λ (p : Plan). Tallies p (own_run (played y)).notes y.tally) (sym plan)
          (subst (λ (c : Played). Tallies x.plan (own_run c).notes y.tally) (sym is) tallies);
      harts = harts ∙ board.harts ∙ ap (λ (p : Plan). p.harts) (sym plan);
      room = record {
        steps = room.steps ∙ board.room.steps ∙ ap most_steps (sym plan);
        published = room.published ∙ board.room.published ∙ ap most_steps (sym plan);
      };
      reporters = many ∙ board.reporters ∙ ap (λ (p : Plan). length p.reporters) (sym plan);
      suit = subst (λ (p : Plan). Paired Suits p.reporters y.acts.items) (sym plan) suit;
    }

-- what was added to the lists
pub record IsLogged (x y : Log) (t : Step) (c : Outcome) : Type 0 where
  pub steps : y.steps.items.items ≡ x.steps.items.items ++ t ∷ []
  pub published : y.published.items.items ≡ x.published.items.items ++ with_copy c.published []
  pub room : HasSameRoom x y

keeps_as : (x y : Log) (b : Played) (t : Step) (c : Outcome) (d : Stepped) → c ≡ outcome_of d.note d.published
    → IsLogged x y t c
    → Keeps b (x.published.items.items ++ with_copy d.published []) → Keeps b y.published.items.items
keeps_as x y b t c d told logged keeps =
    subst (Keeps b) (sym (logged.published
    ∙ ap (λ (o : Outcome). x.published.items.items ++ with_copy o.published []) told)) keeps

shows_made : (plan : Plan) (s : BoardState) (o : Option Stepped) (p : Parts) (c : Outcome) (d : Stepped)
    → o ≡ Some d → Steps plan s o p (Some c) → Shows plan d.state p
shows_made plan s o p c d is steps =
    subst (λ (q : Option Stepped). Shows plan (state_after s q) p) is steps.shows

-- a tally has counted a note, where the note comes next
abbrev pub HasCounted : Tally → Tally → StepNote → Type 0
HasCounted old new n =
    (plan : Plan) (ns : List Noted) (by : Step) → Tallies plan ns old → IsNext plan ns n
    → Tallies plan (ns ++ record { by = by; note = n } ∷ []) new

few_notes : (x : Inside) → IsBrief x → length (own_run (played x)).notes ≤ 160000
few_notes x board =
    let played_is = board.keeps.played in
    omega (
      arith,
      length-map (own_run (played x)).notes (λ (n : Noted). n.by),
      ap length played_is.all_made,
      played_is.few,
      played_is.is_plan.few_steps,
    )

counts_on : (x : Inside) (t : Step) (c : Outcome) (d : Stepped) (new : Tally) → IsBrief x
    → c ≡ outcome_of d.note d.published → HasCounted x.tally new c.note
    → IsNext x.plan (own_run (played x)).notes d.note → Tallies x.plan (gone_on (own_run (played x)) t d).notes new
counts_on x t c d new board told counts next =
    subst (HasCounted x.tally new) (ap (λ (o : Outcome). o.note) told) counts x.plan (own_run (played x)).notes t
    board.tallies next

-- ---- A hart's step ----

abbrev HartCame : Inside → ℕ → Parts → Outcome → Type 0
HartCame x h p c =
    Steps x.plan (state_of (played x)) (hart_step h x.plan (state_of (played x))) p (Some c)

-- what came of a step that was made, and of none
abbrev HartCalled : Inside → ℕ → Parts → Bool → Outcome → Type 0
HartCalled x h p q c =
    (plan : Plan) (s : BoardState) → Shows plan s x.parts → Steps plan s (hart_step h plan s) p (came q c)

abbrev HartStays : Inside → ℕ → Parts → Type 0
HartStays x h p = Steps x.plan (state_of (played x)) (hart_step h x.plan (state_of (played x))) p None

pub hart_came : (x : Inside) (h : ℕ) (p : Parts) (q : Bool) (c : Outcome) → IsBrief x → HartCalled x h p q c
    → q ≡ true → HartCame x h p c
hart_came x h p q c board called is =
    let s = state_of (played x) in
    subst (λ b. Steps x.plan s (hart_step h x.plan s) p (came b c)) is (called x.plan s board.shows)

pub hart_stays : (x : Inside) (h : ℕ) (p : Parts) (q : Bool) (c : Outcome) → IsBrief x → HartCalled x h p q c
    → q ≡ false → HartStays x h p
hart_stays x h p q c board called is =
    let s = state_of (played x) in
    subst (λ b. Steps x.plan s (hart_step h x.plan s) p (came b c)) is (called x.plan s board.shows)

pub hart_fits : (x : Inside) (h : ℕ) (p : Parts) (c : Outcome) → h < x.plan.harts → IsBrief x → HartCame x h p c
    → HasPlace x.log
hart_fits x h p c low board steps =
    let s = state_of (played x) in
    let d = it_came (hart_step h x.plan s) c steps.outcome in
    one_more_fits x d.made board (hart_makes h x.plan s d.made d.is).number
    (reached_hart h x.plan s d.made low board.keeps.reached d.is)

pub hart_brief : (x y : Inside) (h : ℕ) (c : Outcome) → h < x.plan.harts → IsBrief x → y.plan ≡ x.plan
    → y.acts ≡ x.acts → y.parts.firmware.events.harts ≡ x.parts.firmware.events.harts → HartCame x h y.parts c
    → IsLogged x.log y.log (Hart h) c → HasCounted x.tally y.tally c.note → IsBrief y
hart_brief x y h c low board plan acts harts steps logged counts =
    let s = state_of (played x) in
    let d = it_came (hart_step h x.plan s) c steps.outcome in
    let b = with_step (Hart h) (played x) in
    let is : played y ≡ b =
    λ i. record { plan = plan i; acts = acts_in (plan i).reporters (acts i).items; steps = logged.steps i } in
    let items : y.acts.items ≡ x.acts.items = λ i. (acts i).items in
    let goes = hart_goes_on h (played x) d.made d.is in
    on_brief x y b board plan harts is
    (keeps_as x.log y.log b (Hart h) c d.made d.told logged
    (keeps_hart h (played x) d.made x.log.published.items.items low board.keeps d.is))
    (subst (λ (r : Ran). Shows x.plan r.state y.parts) (sym goes)
    (shows_made x.plan s (hart_step h x.plan s) y.parts c d.made d.is steps))
    (subst (λ (r : Ran). Tallies x.plan r.notes y.tally) (sym goes)
    (counts_on x (Hart h) c d.made y.tally board d.told counts
    (hart_is_next x.plan (acts_of (played x)) (played x).steps h d.made (few_notes x board) d.is)))
    logged.room (ap length items) (subst (Paired Suits x.plan.reporters) (sym items) board.suit)

pub hart_next : (x y : Inside) (h : ℕ) (c : Outcome) → y.plan ≡ x.plan → y.acts ≡ x.acts → HartCame x h y.parts c
    → IsLogged x.log y.log (Hart h) c → played y ≡ after_hart h (played x)
hart_next x y h c plan acts steps logged =
    let d = it_came (hart_step h x.plan (state_of (played x))) c steps.outcome in
    (λ i. record { plan = plan i; acts = acts_in (plan i).reporters (acts i).items; steps = logged.steps i })
    ∙ sym (ap (after_hart_step h (played x)) d.is)

pub hart_note : (x : Inside) (h : ℕ) (p : Parts) (c : Outcome) → HartCame x h p c
    → c.note ≡ note_of (hart_step h x.plan (state_of (played x)))
hart_note x h p c steps =
    let o = hart_step h x.plan (state_of (played x)) in step_noted o c (it_came o c steps.outcome)

pub hart_text : (x : Inside) (h : ℕ) (p : Parts) (c : Outcome) → HartCame x h p c → has_text c.note ≡ true
hart_text x h p c steps =
    let s = state_of (played x) in
    let d = it_came (hart_step h x.plan s) c steps.outcome in
    ap (λ (o : Outcome). has_text o.note) d.told ∙ hart_has_text h x.plan s d.made d.is

-- where there is none all stays
pub hart_still : (x : Inside) (h : ℕ) (p : Parts) → HartStays x h p → played x ≡ after_hart h (played x)
hart_still x h p steps =
    let o = hart_step h x.plan (state_of (played x)) in
    sym (ap (after_hart_step h (played x)) (not_made o steps.outcome))

-- ---- A reporter's step ----

abbrev ActCame : Inside → ℕ → Act → Parts → Outcome → Type 0
ActCame x r a p c =
    Steps x.plan (state_of (played x)) (reporter_step r x.plan (Some a) (state_of (played x))) p (Some c)

-- what came of a step that was made, and of none
abbrev ActCalled : Inside → ℕ → Act → Parts → Bool → Outcome → Type 0
ActCalled x r a p q c =
    (plan : Plan) (s : BoardState) → Shows plan s x.parts → AreEarly s
    → Steps plan s (reporter_step r plan (Some a) s) p (came q c)

abbrev ActStays : Inside → ℕ → Act → Parts → Type 0
ActStays x r a p =
    Steps x.plan (state_of (played x)) (reporter_step r x.plan (Some a) (state_of (played x))) p None

pub act_came : (x : Inside) (r : ℕ) (a : Act) (p : Parts) (q : Bool) (c : Outcome) → IsBrief x
    → ActCalled x r a p q c → q ≡ true → ActCame x r a p c
act_came x r a p q c board called is =
    let s = state_of (played x) in
    subst (λ b. Steps x.plan s (reporter_step r x.plan (Some a) s) p (came b c)) is
    (called x.plan s board.shows board.keeps.reached.early)

pub act_stays : (x : Inside) (r : ℕ) (a : Act) (p : Parts) (q : Bool) (c : Outcome) → IsBrief x
    → ActCalled x r a p q c → q ≡ false → ActStays x r a p
act_stays x r a p q c board called is =
    let s = state_of (played x) in
    subst (λ b. Steps x.plan s (reporter_step r x.plan (Some a) s) p (came b c)) is
    (called x.plan s board.shows board.keeps.reached.early)

pub act_fits : (x : Inside) (r : ℕ) (a : Act) (p : Parts) (c : Outcome) → IsBrief x → ActCame x r a p c
    → HasPlace x.log
act_fits x r a p c board steps =
    let s = state_of (played x) in
    let d = it_came (reporter_step r x.plan (Some a) s) c steps.outcome in
    one_more_fits x d.made board (reporter_makes r x.plan s (Some a) d.made d.is).number
    (reached_reporter r x.plan s (Some a) d.made board.keeps.reached d.is)

-- the acts of a reporter, where they are counted or kept
pub acts_are : (x : Inside) (r : ℕ) (d : plan_reporter.Reporter) (m : Made) → r < length x.acts.items
    → slice_get x.plan.reporters r ≡ Some d → m ≡ get_or x.acts.items r m → acts_of (played x) r ≡ acts_by d m
acts_are x r d m low declared read =
    get_or_from_slice_get (acts_in x.plan.reporters x.acts.items) r (acts_by d m) []
    (acts_at x.plan.reporters x.acts.items r d m declared
    (slice_get_read x.acts.items (length x.acts.items) r m refl low read))

pub acts_suit : (x : Inside) (r : ℕ) (d : plan_reporter.Reporter) (m : Made) → IsBrief x → r < length x.acts.items
    → slice_get x.plan.reporters r ≡ Some d → m ≡ get_or x.acts.items r m → Suits d m
acts_suit x r d m board low declared read =
    paired_at Suits x.plan.reporters x.acts.items r d m board.suit declared
    (slice_get_read x.acts.items (length x.acts.items) r m refl low read)

pub act_has_place : (x : Inside) (r : ℕ) (a : Act) (p : Parts) (c : Outcome) (m : Made)
    → r < length x.plan.reporters → IsBrief x → ActCame x r a p c → m ≡ get_or x.acts.items r m → HasActPlace m
act_has_place x r a p c m low board steps read =
    let s = state_of (played x) in
    let d = it_came (reporter_step r x.plan (Some a) s) c steps.outcome in
    let makes = reporter_makes r x.plan s (Some a) d.made d.is in
    let there : r < length x.acts.items = omega (arith, low, board.reporters) in
    let used : length (acts_by makes.decl m) ≡ makes.was.made =
    ap length (sym (acts_are x r makes.decl m there makes.declared read)) ∙ sym (board.keeps.played.used r)
    ∙ ap made_by makes.there in
    has_place makes.decl m (acts_suit x r makes.decl m board there makes.declared read)
    (omega (arith, used, makes.allowed))
    (omega (arith, limit_within x.plan.reporters r makes.decl makes.declared, board.keeps.played.is_plan.few_steps))

-- one act more is counted or kept
pub record IsActed (x y : Inside) (r : ℕ) (a : Act) : Type 0 where
  pub old : Made
  pub new : Made
  pub read : old ≡ get_or x.acts.items r old
  pub added : HasAdded a old new
  pub acts : y.acts.items ≡ set x.acts.items r new

-- an act that is handed for a list is its next
abbrev IsHanded : Inside → ℕ → Act → Type 0
IsHanded x r a = is_list x.plan r ≡ true → Some a ≡ listed (played x) r

act_is_next : (x : Inside) (r : ℕ) (a : Act) (d : plan_reporter.Reporter) (m : Made) → IsBrief x
    → r < length x.acts.items → slice_get x.plan.reporters r ≡ Some d → m ≡ get_or x.acts.items r m
    → IsHanded x r a → IsListsNext d m a
act_is_next x r a d m board low declared read handed is =
    let list : is_list x.plan r ≡ true = ap (λ (o : Option plan_reporter.Reporter). has_list o) declared ∙ is in
    ap (λ xs. slice_get d.acts (length xs)) (sym (acts_are x r d m low declared read))
    ∙ ap (slice_get d.acts) (sym (board.keeps.played.used r)) ∙ sym (listed_is (played x) r d declared is)
    ∙ sym (handed list)

acted_is : (x y : Inside) (r : ℕ) (a : Act) (d : plan_reporter.Reporter) → IsBrief x → r < length x.acts.items
    → slice_get x.plan.reporters r ≡ Some d → IsHanded x r a → IsActed x y r a
    → acts_in x.plan.reporters y.acts.items ≡ (with_act r a (played x)).acts
acted_is x y r a d board low declared handed acted =
    ap (acts_in x.plan.reporters) acted.acts
    ∙ acts_set x.plan.reporters x.acts.items r d acted.new low declared
    ∙ ap (set (acts_in x.plan.reporters x.acts.items) r)
    (added_is d a acted.old acted.new (acts_suit x r d acted.old board low declared acted.read)
    (act_is_next x r a d acted.old board low declared acted.read handed) acted.added
    ∙ ap (λ xs. xs ++ a ∷ []) (sym (acts_are x r d acted.old low declared acted.read)))

acted_suits : (x y : Inside) (r : ℕ) (a : Act) (d : plan_reporter.Reporter) → IsBrief x → r < length x.acts.items
    → slice_get x.plan.reporters r ≡ Some d → IsHanded x r a → IsActed x y r a
    → Paired Suits x.plan.reporters y.acts.items
acted_suits x y r a d board low declared handed acted =
    subst (Paired Suits x.plan.reporters) (sym acted.acts)
    (paired_set Suits x.plan.reporters x.acts.items r d acted.new board.suit declared
    (added_suits d a acted.old acted.new (acts_suit x r d acted.old board low declared acted.read)
    (act_is_next x r a d acted.old board low declared acted.read handed) acted.added))

pub act_is : (x y : Inside) (r : ℕ) (a : Act) (c : Outcome) → r < length x.plan.reporters → IsBrief x
    → y.plan ≡ x.plan → (is_list x.plan r ≡ true → Some a ≡ listed (played x) r) → IsActed x y r a
    → IsLogged x.log y.log (Reporter r) c → played y ≡ with_step (Reporter r) (with_act r a (played x))
act_is x y r a c low board plan handed acted logged =
    let d = get_there x.plan.reporters r low in
    let acts : acts_in y.plan.reporters y.acts.items ≡ (with_act r a (played x)).acts =
    ap (λ (p : Plan). acts_in p.reporters y.acts.items) plan
    ∙ acted_is x y r a d.0 board (omega (arith, low, board.reporters)) d.1 handed acted in
    λ i. record { plan = plan i; acts = acts i; steps = logged.steps i }

pub act_brief : (x y : Inside) (r : ℕ) (a : Act) (c : Outcome) → r < length x.plan.reporters → IsBrief x
    → y.plan ≡ x.plan → y.parts.firmware.events.harts ≡ x.parts.firmware.events.harts → ActCame x r a y.parts c
    → (is_list x.plan r ≡ true → Some a ≡ listed (played x) r) → IsReport (Some a) → IsActed x y r a
    → IsLogged x.log y.log (Reporter r) c → HasCounted x.tally y.tally c.note → IsBrief y
act_brief x y r a c low board plan harts steps handed report acted logged counts =
    let s = state_of (played x) in
    let d = it_came (reporter_step r x.plan (Some a) s) c steps.outcome in
    let b = with_step (Reporter r) (with_act r a (played x)) in
    let keeps = board.keeps in
    let there : r < length (played x).acts = omega (arith, low, keeps.played.reporters) in
    let goes = reporter_goes_on r a (played x) d.made there keeps.played.all_made (keeps.played.used r) d.is in
    let declared = get_there x.plan.reporters r low in
    on_brief x y b board plan harts (act_is x y r a c low board plan handed acted logged)
    (keeps_as x.log y.log b (Reporter r) c d.made d.told logged
    (keeps_reporter r a (played x) d.made x.log.published.items.items low keeps handed report d.is))
    (subst (λ (q : Ran). Shows x.plan q.state y.parts) (sym goes)
    (shows_made x.plan s (reporter_step r x.plan (Some a) s) y.parts c d.made d.is steps))
    (subst (λ (q : Ran). Tallies x.plan q.notes y.tally) (sym goes)
    (counts_on x (Reporter r) c d.made y.tally board d.told counts
    (reporter_is_next x.plan (acts_of (played x)) (played x).steps r (Some a) d.made (few_notes x board) d.is)))
    logged.room (ap length acted.acts ∙ length-set x.acts.items r acted.new)
    (acted_suits x y r a declared.0 board (omega (arith, low, board.reporters)) declared.1 handed acted)

pub act_next : (x y : Inside) (r : ℕ) (a : Act) (c : Outcome) → ActCame x r a y.parts c
    → played y ≡ with_step (Reporter r) (with_act r a (played x)) → played y ≡ after_reporter r (Some a) (played x)
act_next x y r a c steps is =
    let d = it_came (reporter_step r x.plan (Some a) (state_of (played x))) c steps.outcome in
    is ∙ sym (ap (after_act r (played x) (Some a)) d.is)

pub act_note : (x : Inside) (r : ℕ) (a : Act) (p : Parts) (c : Outcome) → ActCame x r a p c
    → c.note ≡ note_of (reporter_step r x.plan (Some a) (state_of (played x)))
act_note x r a p c steps =
    let o = reporter_step r x.plan (Some a) (state_of (played x)) in step_noted o c (it_came o c steps.outcome)

pub act_text : (x : Inside) (r : ℕ) (a : Act) (p : Parts) (c : Outcome) → ActCame x r a p c → has_text c.note ≡ true
act_text x r a p c steps =
    let s = state_of (played x) in
    let d = it_came (reporter_step r x.plan (Some a) s) c steps.outcome in
    ap (λ (o : Outcome). has_text o.note) d.told ∙ reporter_has_text r x.plan (Some a) s d.made d.is

-- where there is none all stays
pub act_still : (x : Inside) (r : ℕ) (a : Act) (p : Parts) → ActStays x r a p
    → played x ≡ after_reporter r (Some a) (played x)
act_still x r a p steps =
    let o = reporter_step r x.plan (Some a) (state_of (played x)) in
    sym (ap (after_act r (played x) (Some a)) (not_made o steps.outcome))

pub no_act_idle : (r : ℕ) (plan : Plan) (s : BoardState) (a : Option Act) → a ≡ None
    → note.Idle ≡ note_of (reporter_step r plan a s)
unfolding reporter_step
no_act_idle r plan s a is = sym (ap (λ b. note_of (reporter_step r plan b s)) is)

pub no_act_still : (r : ℕ) (b : Played) (a : Option Act) → a ≡ None → b ≡ after_reporter r a b
no_act_still r b a is = sym (ap (λ o. after_reporter r o b) is)

-- ---- Looks ----

pub bank_stands : (x : Inside) (now : Played) (bank : ℕ) (b : BankParts) → played x ≡ now → IsBrief x
    → slice_get x.parts.banks.items bank ≡ Some b → (d : BankDecl) (s : BankState)
    → slice_get now.plan.banks bank ≡ Some d → slice_get (state_of now).banks bank ≡ Some s
    → StandsFor (bank_plan bank d now.plan.recs) s b
bank_stands x now bank b is board here =
    subst (λ (p : Played). (d : BankDecl) (s : BankState) → slice_get p.plan.banks bank ≡ Some d
    → slice_get (state_of p).banks bank ≡ Some s → StandsFor (bank_plan bank d p.plan.recs) s b) is
    (λ d s known there. board.shows.banks.each bank d s b known there here)

-- an item that was looked up and copied
pub copied_there : {X : Type 0} (xs : List X) (i : ℕ) (o : Option (Bor X)) (x : X) → option_copied o ≡ Some x
    → MatchOption o (length xs ≤ i) (λ y. (i < length xs) × HoldsAt (λ z. y.now ≡ z) xs i) → slice_get xs i ≡ Some x
copied_there xs i None x is looked = absurd (none-some x is)
copied_there xs i (Some y) x is looked =
    slice_get_read xs (length xs) i x refl looked.0 (sym (same_Some y.now x is) ∙ looked.1 x)

-- the listed acts of a plan are reports
pub listed_report : (plan : Plan) (r i : ℕ) (d : plan_reporter.Reporter) (report : Report) → AreListsReports plan
    → slice_get plan.reporters r ≡ Some d → is_some d.device ≡ false
    → slice_get d.acts i ≡ Some (act.Error report) → report.priority < 4
listed_report plan r i d report reports there own is =
    reports r i report (ap (λ (xs : List Act). slice_get xs i)
    (ap (λ (o : Option plan_reporter.Reporter). acts_from [] o) there ∙ listed_own d.device d.acts own) ∙ is)
  where
    listed_own : (o : Option ℕ) (acts : List Act) → is_some o ≡ false
        → acts_from [] (Some (record { device = o; limit = 0; acts = acts })) ≡ acts
    listed_own None acts own = refl
    listed_own (Some k) acts own = absurd (cc)
