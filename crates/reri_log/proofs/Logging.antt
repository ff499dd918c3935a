-- The update of the registers keeps every history, and its answer is the history's.
use Rattle.std.proofs.Common.{◌≡◌, ℕ, ◌+◌, ◌%◌, ◌<◌, ◌≤◌, Bool, true, false, cond, not, ◌&&◌, ◌==◌, nat_lt, List, ◌∷◌, refl, inl, inr, sym, ap, ◌∙◌, subst, arith}
use Rattle.std.proofs.lemmas.Bool.{cases_lt, cases_Bool, cond-false, lt-ltb, le-ltb, eq-eqb}
use Rattle.std.proofs.lemmas.Bool.Decides.{nat_tests}
use Rattle.reri_fields.specs.declared.report.Report.{Report}
use Rattle.reri_fields.specs.declared.report.RecordCopy.{RecordCopy}
use Rattle.reri_fields.specs.declared.report.Logged.{Logged}
use Rattle.reri_fields.specs.declared.report.Logged.TheVariants.{Disabled, Counted, Wrote, Kept}
use Rattle.reri_fields.specs.Fields.{StatusFields, control_fields, status_fields, level_of}
use Rattle.reri_fields.specs.Records.{Error, Event, Origin, AllBefore, Shows, Stands, is_shown_after, is_counted, counted, is_logged, since, in_progress}
use Rattle.reri_fields.specs.Records.Event.{Reported}
use Rattle.reri_fields.specs.Outcome.{wrote, outcome}
use Rattle.reri_log.specs.Update.{Updates, CountsUp, EntersInto, wins, entered, stays_counted, count_after, answer_of, fields_after, is_written}
use Rattle.reri_log.proofs.Entered.{Enters, enters_counted, entered-count, entered-overflow, wins_past_count, shows_entered, after_is}
use Rattle.reri_log.proofs.Histories.{since_logged, since_unlogged, in_progress_logged, in_progress_unlogged, counted_one, counted_none, since_before}

-- ---- The definitions at each case ----

off_not_counted : (control : ℕ) (report : Report) → (control_fields control).enable ≡ false
    → is_counted control report ≡ false
unfolding is_counted
off_not_counted control report h = rw h refl

stays_at : (control : ℕ) (fields : StatusFields) (report : Report) (b : Bool) → is_counted control report ≡ true
    → nat_lt fields.count 65535 ≡ b → stays_counted control fields report ≡ b
unfolding stays_counted
stays_at control fields report b h k = rw (h, k) refl

stays_not : (control : ℕ) (fields : StatusFields) (report : Report) → is_counted control report ≡ false
    → stays_counted control fields report ≡ false
unfolding stays_counted
stays_not control fields report h = rw h refl

answer_off : (control : ℕ) (fields : StatusFields) (report : Report) → (control_fields control).enable ≡ false
    → answer_of control fields report ≡ Disabled
unfolding answer_of
answer_off control fields report h = rw h refl

fields_off : (control : ℕ) (fields : StatusFields) (report : Report) → (control_fields control).enable ≡ false
    → fields_after control fields report ≡ fields
unfolding fields_after
fields_off control fields report h = rw h refl

answer_counted : (control : ℕ) (fields : StatusFields) (report : Report) → (control_fields control).enable ≡ true
    → stays_counted control fields report ≡ true → answer_of control fields report ≡ Counted
unfolding answer_of
answer_counted control fields report h k = rw (h, k) refl

fields_counted : (control : ℕ) (fields : StatusFields) (report : Report) → (control_fields control).enable ≡ true
    → stays_counted control fields report ≡ true → fields_after control fields report
    ≡ count_after control fields report
unfolding fields_after
fields_counted control fields report h k = rw (h, k) refl

answer_entered : (control : ℕ) (fields : StatusFields) (report : Report) → (control_fields control).enable ≡ true
    → stays_counted control fields report ≡ false → answer_of control fields report
    ≡ cond (wins fields report) (Wrote (level_of (control_fields control) report.severity)) Kept
unfolding answer_of
answer_entered control fields report h k = rw (h, k) refl

fields_entered : (control : ℕ) (fields : StatusFields) (report : Report) → (control_fields control).enable ≡ true
    → stays_counted control fields report ≡ false → fields_after control fields report
    ≡ entered (count_after control fields report) report
unfolding fields_after
fields_entered control fields report h k = rw (h, k) refl

count_up_at : (control : ℕ) (fields : StatusFields) (report : Report) → is_counted control report ≡ true
    → nat_lt fields.count 65535 ≡ true → count_after control fields report ≡ record fields { count = fields.count + 1 }
unfolding count_after
count_up_at control fields report h k = rw (h, k) refl

count_wraps_at : (control : ℕ) (fields : StatusFields) (report : Report) → is_counted control report ≡ true
    → nat_lt fields.count 65535 ≡ false → count_after control fields report
    ≡ record fields { count = 0; overflow = true }
unfolding count_after
count_wraps_at control fields report h k = rw (h, k) refl

count_same_at : (control : ℕ) (fields : StatusFields) (report : Report) → is_counted control report ≡ false
    → count_after control fields report ≡ fields
unfolding count_after
count_same_at control fields report h = rw h refl

logged_counted : (origin : Origin) (history : List Event) (report : Report) → is_counted origin.control report ≡ true
    → is_logged origin history report ≡ ((counted origin history + 1) % 65536 == 0)
unfolding is_logged
logged_counted origin history report h = rw h refl

logged_plain : (origin : Origin) (history : List Event) (report : Report) → is_counted origin.control report ≡ false
    → is_logged origin history report ≡ (control_fields origin.control).enable
unfolding is_logged
logged_plain origin history report h = rw h refl

outcome_off : (origin : Origin) (history : List Event) (e : Error) → (control_fields origin.control).enable ≡ false
    → outcome origin history e ≡ Disabled
unfolding outcome
outcome_off origin history e h = rw h refl

outcome_counted : (origin : Origin) (history : List Event) (e : Error) → (control_fields origin.control).enable ≡ true
    → is_logged origin history e.report ≡ false → outcome origin history e ≡ Counted
unfolding outcome
outcome_counted origin history e h k = rw (h, k) refl

outcome_logged : (origin : Origin) (history : List Event) (e : Error) → (control_fields origin.control).enable ≡ true
    → is_logged origin history e.report ≡ true → outcome origin history e
    ≡ cond (is_shown_after (since origin history) e)
    (Wrote (level_of (control_fields origin.control) e.report.severity)) Kept
unfolding outcome wrote
outcome_logged origin history e h k = rw (h, k) refl

written_if : (b : Bool) (level : ℕ) → is_written (cond b (Wrote level) Kept) ≡ b
unfolding is_written
written_if true level = refl
written_if false level = refl

-- ---- The code's steps make the update ----

pub updates_disabled : (old : RecordCopy) (report : Report) → (control_fields old.control).enable ≡ false
    → Updates old report old Disabled
unfolding is_written
updates_disabled old report h =
    record {
      answered = sym (answer_off old.control (status_fields old.status) report h);
      control = refl;
      status = sym (fields_off old.control (status_fields old.status) report h);
      others = refl;
      address = refl;
      info = refl;
      supplement = refl;
      time = refl;
    }

pub updates_counted : (old : RecordCopy) (report : Report) (new : RecordCopy) (alone : Bool)
    → (control_fields old.control).enable ≡ true → CountsUp old report new alone → alone ≡ true
    → Updates old report new Counted
unfolding is_written
updates_counted old report new alone h u k =
    let stays = sym u.answered ∙ k in
    record {
      answered = sym (answer_counted old.control (status_fields old.status) report h stays);
      control = ap (λ r. r.control) u.rest;
      status = u.status ∙ sym (fields_counted old.control (status_fields old.status) report h stays);
      others = u.others;
      address = ap (λ r. r.address) u.rest;
      info = ap (λ r. r.info) u.rest;
      supplement = ap (λ r. r.supplement) u.rest;
      time = ap (λ r. r.time) u.rest;
    }

pub wins_after_count : (control : ℕ) (fields : StatusFields) (report : Report)
    → wins (count_after control fields report) report ≡ wins fields report
unfolding count_after
wins_after_count control fields report =
    elim (is_counted control report) as (λ b. wins
    (cond b (cond (nat_lt fields.count 65535) (record fields { count = fields.count + 1 })
    (record fields { count = 0; overflow = true })) fields) report ≡ wins fields report) [
      | true ↦
          elim (nat_lt fields.count 65535) as (λ b. wins
          (cond b (record fields { count = fields.count + 1 }) (record fields { count = 0; overflow = true }))
          report ≡ wins fields report) [
            | true ↦ wins_past_count fields (fields.count + 1) fields.overflow report
            | false ↦ wins_past_count fields 0 true report
          ]
      | false ↦ refl
    ]

pub updates_entered : (old : RecordCopy) (report : Report) (mid new : RecordCopy) (alone : Bool) (answer : Logged)
    → (control_fields old.control).enable ≡ true → CountsUp old report mid alone → alone ≡ false
    → EntersInto mid report new answer → Updates old report new answer
updates_entered old report mid new alone answer h u k t =
    let fields = status_fields old.status in
    let stays = sym u.answered ∙ k in
    let same : mid.control ≡ old.control = ap (λ r. r.control) u.rest in
    let won : wins (status_fields mid.status) report ≡ wins fields report = ap (λ f. wins f report) u.status
    ∙ wins_after_count old.control fields report in
    record {
      answered = t.answered ∙ ap (λ b. cond b (Wrote (level_of (control_fields mid.control) report.severity)) Kept)
          won ∙ ap (λ w. cond (wins fields report) (Wrote (level_of (control_fields w) report.severity)) Kept) same
          ∙ sym (answer_entered old.control fields report h stays);
      control = t.control ∙ same;
      status = t.status ∙ ap (λ f. entered f report) u.status ∙ sym (fields_entered old.control fields report h stays);
      others = t.others ∙ u.others;
      address = t.address ∙ ap (λ r. cond (is_written answer) report.address r.address) u.rest;
      info = t.info ∙ ap (λ r. cond (is_written answer) report.info r.info) u.rest;
      supplement = t.supplement ∙ ap (λ r. cond (is_written answer) report.supplement r.supplement) u.rest;
      time = t.time ∙ ap (λ r. cond (is_written answer) report.time r.time) u.rest;
    }

-- ---- The update keeps the history ----

-- the record stands for the history with the error, and the answer is the history's
pub record After (origin : Origin) (history : List Event) (e : Error) (new : RecordCopy) (answer : Logged) :
    Type 0 where
  pub stands : Stands origin (Reported e ∷ history) new
  pub outcome_is : answer ≡ outcome origin history e

-- a change of read-in-progress and the count alone shows the same errors
pub shows_moved : (errors later : List Error) (old new : RecordCopy) (p : Bool) (n : ℕ) (v : Bool) → later ≡ errors
    → Shows errors old → status_fields new.status
    ≡ record (status_fields old.status) { in_progress = p; count = n; overflow = v } → new.address ≡ old.address
    → new.info ≡ old.info → new.supplement ≡ old.supplement → new.time ≡ old.time → Shows later new
shows_moved errors later old new p n v same s h address info supplement time =
    subst (λ x. Shows x new) (sym same) (record {
      valid = ap (λ f. f.valid) h ∙ s.valid;
      ce = ap (λ f. f.ce) h ∙ s.ce;
      ued = ap (λ f. f.ued) h ∙ s.ued;
      uec = ap (λ f. f.uec) h ∙ s.uec;
      multiple = ap (λ f. f.multiple) h ∙ s.multiple;
      priority = ap (λ f. f.priority) h ∙ s.priority;
      code = ap (λ f. f.code) h ∙ s.code;
      address = address ∙ s.address;
      info = info ∙ s.info;
      supplement = supplement ∙ s.supplement;
      time = time ∙ s.time;
    })

not_written : (answer other : Logged) → is_written other ≡ false → answer ≡ other → is_written answer ≡ false
not_written answer other h k = ap is_written k ∙ h

not_multiple : (c : ℕ) → c % 65536 < 65535 → ((c + 1) % 65536 == 0) ≡ false
not_multiple c h = let k : (c + 1) % 65536 ≡ c % 65536 + 1 = omega arith in grind (arith, nat_tests)

one_up : (c : ℕ) → c % 65536 < 65535 → c % 65536 + 1 ≡ (c + 1) % 65536
one_up c h = omega arith

still_low : (c : ℕ) → c % 65536 < 65535 → nat_lt 65535 c ≡ nat_lt 65535 (c + 1)
still_low c h =
    elim (cases_lt 65535 c) as (λ _. nat_lt 65535 c ≡ nat_lt 65535 (c + 1)) [
      | inl high ↦ lt-ltb 65535 c high ∙ sym (lt-ltb 65535 (c + 1) (omega arith))
      | inr low ↦ le-ltb 65535 c low ∙ sym (le-ltb 65535 (c + 1) (omega arith))
    ]

multiple_here : (c : ℕ) → 65535 ≤ c % 65536 → ((c + 1) % 65536 == 0) ≡ true
multiple_here c h = eq-eqb _ _ (omega arith)

wrapped_count : (c : ℕ) → 65535 ≤ c % 65536 → 0 ≡ (c + 1) % 65536
wrapped_count c h = omega arith

wrapped_high : (c : ℕ) → 65535 ≤ c % 65536 → true ≡ nat_lt 65535 (c + 1)
wrapped_high c h = sym (lt-ltb 65535 (c + 1) (omega arith))

cleared_if : (w b : Bool) → cond w false b ≡ (b && not w)
cleared_if true true = refl
cleared_if true false = refl
cleared_if false true = refl
cleared_if false false = refl

module _ (origin : Origin) (history : List Event) (e : Error) (old new : RecordCopy) (answer : Logged)
    (u : Updates old e.report new answer) (s : Stands origin history old) where
  counted_here : is_counted old.control e.report ≡ is_counted origin.control e.report
  counted_here = ap (λ w. is_counted w e.report) s.control

  enable_here : (control_fields old.control).enable ≡ (control_fields origin.control).enable
  enable_here = ap (λ w. (control_fields w).enable) s.control

  after_disabled : (control_fields origin.control).enable ≡ false → After origin history e new answer
  unfolding is_written
  after_disabled off =
      let report = e.report in
      let here = enable_here ∙ off in
      let not_counted = off_not_counted origin.control report off in
      let unlogged = logged_plain origin history report not_counted ∙ off in
      let answered = u.answered ∙ answer_off old.control (status_fields old.status) report here in
      let same = u.status ∙ fields_off old.control (status_fields old.status) report here in
      let none = not_written answer Disabled refl answered in
      let n = counted_none origin history e not_counted in
      record {
        stands = record {
          control = u.control ∙ s.control;
          shows = shows_moved (since origin history) (since origin (Reported e ∷ history)) old new
              (status_fields old.status).in_progress (status_fields old.status).count
              (status_fields old.status).overflow (since_unlogged origin history e unlogged) s.shows same
              (u.address ∙ cond-false _ _ _ none) (u.info ∙ cond-false _ _ _ none)
              (u.supplement ∙ cond-false _ _ _ none) (u.time ∙ cond-false _ _ _ none);
          in_progress = ap (λ f. f.in_progress) same ∙ s.in_progress
              ∙ sym (in_progress_unlogged origin history e unlogged);
          count = ap (λ f. f.count) same ∙ s.count ∙ ap (λ k. k % 65536) (sym n);
          overflow = ap (λ f. f.overflow) same ∙ s.overflow ∙ ap (λ k. nat_lt 65535 k) (sym n);
          others = u.others ∙ s.others;
        };
        outcome_is = answered ∙ sym (outcome_off origin history e off);
      }

  after_counted : (control_fields origin.control).enable ≡ true → is_counted origin.control e.report ≡ true
      → (status_fields old.status).count < 65535 → After origin history e new answer
  unfolding is_written
  after_counted on yes_counted less =
      let report = e.report in
      let fields = status_fields old.status in
      let here = enable_here ∙ on in
      let low : nat_lt fields.count 65535 ≡ true = lt-ltb _ _ less in
      let stays = stays_at old.control fields report true (counted_here ∙ yes_counted) low in
      let c = counted origin history in
      let count_is = s.count in
      let below : c % 65536 < 65535 = rw (← count_is) less in
      let unlogged : is_logged origin history report ≡ false = logged_counted origin history report yes_counted
      ∙ not_multiple c below in
      let answered = u.answered ∙ answer_counted old.control fields report here stays in
      let same = u.status ∙ fields_counted old.control fields report here stays
      ∙ count_up_at old.control fields report (counted_here ∙ yes_counted) low in
      let none = not_written answer Counted refl answered in
      let n = counted_one origin history e yes_counted in
      record {
        stands = record {
          control = u.control ∙ s.control;
          shows = shows_moved (since origin history) (since origin (Reported e ∷ history)) old new fields.in_progress
              (fields.count + 1) fields.overflow (since_unlogged origin history e unlogged) s.shows same
              (u.address ∙ cond-false _ _ _ none) (u.info ∙ cond-false _ _ _ none)
              (u.supplement ∙ cond-false _ _ _ none) (u.time ∙ cond-false _ _ _ none);
          in_progress = ap (λ f. f.in_progress) same ∙ s.in_progress
              ∙ sym (in_progress_unlogged origin history e unlogged);
          count = ap (λ f. f.count) same ∙ ap (λ k. k + 1) s.count ∙ one_up c below ∙ ap (λ k. k % 65536) (sym n);
          overflow = ap (λ f. f.overflow) same ∙ s.overflow ∙ still_low c below ∙ ap (λ k. nat_lt 65535 k) (sym n);
          others = u.others ∙ s.others;
        };
        outcome_is = answered ∙ sym (outcome_counted origin history e on unlogged);
      }

  after_entered : (n : ℕ) (v : Bool) → AllBefore e.step history → (control_fields origin.control).enable ≡ true
      → is_logged origin history e.report ≡ true → stays_counted old.control (status_fields old.status) e.report
      ≡ false → status_fields new.status
      ≡ entered (record (status_fields old.status) { count = n; overflow = v }) e.report
      → n ≡ counted origin (Reported e ∷ history) % 65536 → v ≡ nat_lt 65535 (counted origin (Reported e ∷ history))
      → After origin history e new answer
  after_entered n v before on logged stays status n_is v_is =
      let report = e.report in
      let fields = status_fields old.status in
      let errors = since origin history in
      let below = since_before e.step origin history before in
      let w = wins fields report in
      let after : is_shown_after errors e ≡ w = after_is errors e old s.shows below in
      let answered = u.answered ∙ answer_entered old.control fields report (enable_here ∙ on) stays
      ∙ ap (λ x. cond w (Wrote (level_of (control_fields x) report.severity)) Kept) s.control in
      let writes : is_written answer ≡ w = ap is_written answered
      ∙ written_if w (level_of (control_fields origin.control) report.severity) in
      let enter = subst (λ f. Enters w fields report f) (sym status) (enters_counted fields n v report) in
      record {
        stands = record {
          control = u.control ∙ s.control;
          shows = subst (λ x. Shows x new) (sym (since_logged origin history e logged))
              (shows_entered errors e old new w below s.shows refl enter
              (u.address ∙ ap (λ b. cond b report.address old.address) writes)
              (u.info ∙ ap (λ b. cond b report.info old.info) writes)
              (u.supplement ∙ ap (λ b. cond b report.supplement old.supplement) writes)
              (u.time ∙ ap (λ b. cond b report.time old.time) writes));
          in_progress = enter.in_progress ∙ ap (λ b. cond w false b) s.in_progress
              ∙ cleared_if w (in_progress origin history) ∙ ap (λ b. in_progress origin history && not b) (sym after)
              ∙ sym (in_progress_logged origin history e logged);
          count = ap (λ f. f.count) status ∙ entered-count (record fields { count = n; overflow = v }) report ∙ n_is;
          overflow = ap (λ f. f.overflow) status ∙ entered-overflow (record fields { count = n; overflow = v }) report
              ∙ v_is;
          others = u.others ∙ s.others;
        };
        outcome_is = answered
            ∙ ap (λ b. cond b (Wrote (level_of (control_fields origin.control) report.severity)) Kept) (sym after)
            ∙ sym (outcome_logged origin history e on logged);
      }

  after_wrapped : AllBefore e.step history → (control_fields origin.control).enable ≡ true
      → is_counted origin.control e.report ≡ true → 65535 ≤ (status_fields old.status).count
      → After origin history e new answer
  after_wrapped before on yes_counted high =
      let report = e.report in
      let fields = status_fields old.status in
      let c = counted origin history in
      let top : 65535 ≤ c % 65536 = rw (← s.count) high in
      let full : nat_lt fields.count 65535 ≡ false = le-ltb _ _ high in
      let stays = stays_at old.control fields report false (counted_here ∙ yes_counted) full in
      let n = counted_one origin history e yes_counted in
      let status = u.status ∙ fields_entered old.control fields report (enable_here ∙ on) stays
      ∙ ap (λ f. entered f report) (count_wraps_at old.control fields report (counted_here ∙ yes_counted) full) in
      after_entered 0 true before on (logged_counted origin history report yes_counted ∙ multiple_here c top) stays
      status (wrapped_count c top ∙ ap (λ k. k % 65536) (sym n))
      (wrapped_high c top ∙ ap (λ k. nat_lt 65535 k) (sym n))

  after_uncounted : AllBefore e.step history → (control_fields origin.control).enable ≡ true
      → is_counted origin.control e.report ≡ false → After origin history e new answer
  after_uncounted before on not_counted =
      let report = e.report in
      let fields = status_fields old.status in
      let stays = stays_not old.control fields report (counted_here ∙ not_counted) in
      let n = counted_none origin history e not_counted in
      let status = u.status ∙ fields_entered old.control fields report (enable_here ∙ on) stays
      ∙ ap (λ f. entered f report) (count_same_at old.control fields report (counted_here ∙ not_counted)) in
      after_entered fields.count fields.overflow before on (logged_plain origin history report not_counted ∙ on) stays
      status (s.count ∙ ap (λ k. k % 65536) (sym n)) (s.overflow ∙ ap (λ k. nat_lt 65535 k) (sym n))

  pub after : AllBefore e.step history → After origin history e new answer
  after before =
      elim (cases_Bool (control_fields origin.control).enable) as (λ _. After origin history e new answer) [
        | inr off ↦ after_disabled off
        | inl on ↦
            elim (cases_Bool (is_counted origin.control e.report)) as (λ _. After origin history e new answer) [
              | inr not_counted ↦ after_uncounted before on not_counted
              | inl yes_counted ↦
                  elim (cases_lt (status_fields old.status).count 65535) as (λ _. After origin history e new answer) [
                    | inl less ↦ after_counted on yes_counted less
                    | inr high ↦ after_wrapped before on yes_counted high
                  ]
            ]
      ]

-- the two clauses of logging, from the update
pub logged_stands : (old : RecordCopy) (report : Report) (new : RecordCopy) (answer : Logged)
    → Updates old report new answer → (origin : Origin) (history : List Event) (step : ℕ) → AllBefore step history
    → Stands origin history old → Stands origin (Reported (record { step = step; report = report }) ∷ history) new
logged_stands old report new answer u origin history step before s =
    (after origin history (record { step = step; report = report }) old new answer u s before).stands

pub logged_answer : (old : RecordCopy) (report : Report) (new : RecordCopy) (answer : Logged)
    → Updates old report new answer → (origin : Origin) (history : List Event) (step : ℕ) → AllBefore step history
    → Stands origin history old → answer ≡ outcome origin history (record { step = step; report = report })
logged_answer old report new answer u origin history step before s =
    (after origin history (record { step = step; report = report }) old new answer u s before).outcome_is
