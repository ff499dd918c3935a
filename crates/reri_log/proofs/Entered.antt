-- A record that shows a list of errors shows the list with one more error once that error is entered into its
-- registers.
use Rattle.std.proofs.Common.{◌≡◌, ℕ, zero, suc, ◌/◌, ◌+◌, ◌*◌, ◌^◌, ◌<◌, ◌≤◌, Bool, true, false, cond, ◌==◌, nat_lt, ◌||◌, List, [], ◌∷◌, ◌++◌, Some, None, ◌⊎◌, refl, sym, ap, ◌∙◌, subst, inl, inr, arith}
use Rattle.std.specs.List.{find}
use Rattle.std.proofs.lemmas.Bool.{cases_lt, cases_order, cases_Bool, true≢false, eq-eqb, ne_eqb, cond-true, cond-false, lt-ltb, le-ltb}
use Rattle.std.proofs.lemmas.Bool.Decides.{nat_tests}
use Rattle.std.proofs.lemmas.Nat.{mod_below}
use Rattle.reri_fields.specs.declared.severity.Severity.{Severity}
use Rattle.reri_fields.specs.declared.severity.Severity.TheVariants.{Ce, Ued, Uec}
use Rattle.reri_fields.specs.declared.report.Report.{Report}
use Rattle.reri_fields.specs.declared.report.RecordCopy.{RecordCopy}
use Rattle.reri_fields.specs.Fields.{StatusFields, status_fields, bits, severity_number, greatest}
use Rattle.reri_fields.specs.Records.{Error, Shows, severity_of, rank_of, greatest_of, is_any, shown, is_multiple, has_severity, came_at, is_shown_after, number_in}
use Rattle.reri_log.specs.Update.{top, rank, wins, multiple_after, with_severity, marked, filled, entered}
use Rattle.reri_log.proofs.Errors.{shown_alone, shown_greater, shown_not_greater, shown_some, multiple_alone, multiple_greater, multiple_equal, multiple_less, has_severity-push, has_greatest, has_none_above, greatest_le, found_le, found_before, find_attained, StepsBelow}

-- ---- The greatest severity and rank, told from the fields ----

pub top_none : (errors : List Error) (copy : RecordCopy) → Shows errors copy → is_any errors ≡ false
    → top (status_fields copy.status) ≡ None
unfolding top
top_none errors copy s h = cond-false _ (greatest (status_fields copy.status)) None (s.valid ∙ h)

abbrev pub TopIs : List Error → StatusFields → Type 0
TopIs errors fields = (severity : Severity) × (top fields ≡ Some severity)
    × (severity_number severity ≡ greatest_of severity_of errors)

top_at : (g : ℕ) (fields : StatusFields) (errors : List Error) → g ≤ 2 → g ≡ greatest_of severity_of errors
    → is_any errors ≡ true → fields.valid ≡ true → fields.ce ≡ has_severity 0 errors
    → fields.ued ≡ has_severity 1 errors → fields.uec ≡ has_severity 2 errors → TopIs errors fields
unfolding top greatest severity_number
top_at zero fields errors le e any valid ce ued uec =
    let no_uec : fields.uec ≡ false = uec ∙ has_none_above 2 errors (omega arith) in
    let no_ued : fields.ued ≡ false = ued ∙ has_none_above 1 errors (omega arith) in
    let is_ce : fields.ce ≡ true = ce ∙ rw e (has_greatest errors any) in
    (Ce, rw (valid, no_uec, no_ued, is_ce) refl, e)
top_at (suc zero) fields errors le e any valid ce ued uec =
    let no_uec : fields.uec ≡ false = uec ∙ has_none_above 2 errors (omega arith) in
    let is_ued : fields.ued ≡ true = ued ∙ rw e (has_greatest errors any) in
    (Ued, rw (valid, no_uec, is_ued) refl, e)
top_at (suc (suc zero)) fields errors le e any valid ce ued uec =
    let is_uec : fields.uec ≡ true = uec ∙ rw e (has_greatest errors any) in
    (Uec, rw (valid, is_uec) refl, e)
top_at (suc (suc (suc g))) fields errors le e any valid ce ued uec = absurd (omega arith)

pub top_some : (errors : List Error) (copy : RecordCopy) → Shows errors copy → is_any errors ≡ true
    → TopIs errors (status_fields copy.status)
top_some errors copy s any =
    top_at (greatest_of severity_of errors) (status_fields copy.status) errors (greatest_le errors) refl any
    (s.valid ∙ any) s.ce s.ued s.uec

pub priority_below : (word : ℕ) → (status_fields word).priority < 4
unfolding status_fields bits
priority_below word = mod_below (word / 2 ^ 4) (2 ^ 2) (omega arith)

-- the rank of the shown error, told from the fields, is the greatest
shown_found : (errors : List Error) (x : Error) → shown errors ≡ Some x
    → find (λ error. rank_of error == greatest_of rank_of errors) errors ≡ Some x
unfolding shown
shown_found errors x h = h

pub rank_is : (errors : List Error) (copy : RecordCopy) (severity : Severity) → Shows errors copy
    → is_any errors ≡ true → severity_number severity ≡ greatest_of severity_of errors
    → rank severity (status_fields copy.status).priority ≡ greatest_of rank_of errors
unfolding rank rank_of number_in
rank_is errors copy severity s any e =
    let at = shown_some errors any in
    let p : (status_fields copy.status).priority ≡ at.0.report.priority = s.priority
    ∙ ap (number_in (λ report. report.priority)) at.1 in
    let top = find_attained severity_of errors any in
    let under : severity_of at.0 ≤ greatest_of severity_of errors = found_le severity_of _ errors at.0
    (shown_found errors at.0 at.1) in
    let over : rank_of top.0 ≤ greatest_of rank_of errors = found_le rank_of _ errors top.0 top.1 in
    let small = priority_below copy.status in
    let same : 4 * severity_of at.0 + at.0.report.priority ≡ greatest_of rank_of errors = at.2 in
    omega (arith, e, p, top.2, under, over, small, same)

-- ---- Who is shown once an error is entered ----

-- the error is shown afterwards
pub record Won (errors : List Error) (e : Error) (fields : StatusFields) : Type 0 where
  pub wins_is : wins fields e.report ≡ true
  pub shown_is : shown (errors ++ e ∷ []) ≡ Some e
  pub after : is_shown_after errors e ≡ true

-- an earlier one goes on being shown
pub record Lost (errors : List Error) (e : Error) (fields : StatusFields) : Type 0 where
  pub wins_is : wins fields e.report ≡ false
  pub any : is_any errors ≡ true
  pub shown_is : shown (errors ++ e ∷ []) ≡ shown errors
  pub after : is_shown_after errors e ≡ false

won : (errors : List Error) (e : Error) (fields : StatusFields) → wins fields e.report ≡ true
    → shown (errors ++ e ∷ []) ≡ Some e → Won errors e fields
unfolding is_shown_after came_at
won errors e fields w s = record {
  wins_is = w;
  shown_is = s;
  after = ap (came_at e.step) s
      ∙ eq-eqb e.step e.step refl;
}

pub wins_none : (fields : StatusFields) (report : Report) → top fields ≡ None → wins fields report ≡ true
unfolding wins
wins_none fields report h = rw h refl

wins_some : (fields : StatusFields) (report : Report) (severity : Severity) → top fields ≡ Some severity
    → wins fields report ≡ nat_lt (rank severity fields.priority) (rank report.severity report.priority)
unfolding wins
wins_some fields report severity h = rw h refl

rank_here : (e : Error) → rank e.report.severity e.report.priority ≡ rank_of e
unfolding rank rank_of severity_of
rank_here e = refl

pub shown_in_empty : (errors : List Error) (e : Error) → is_any errors ≡ false → shown (errors ++ e ∷ []) ≡ Some e
unfolding is_any
shown_in_empty [] e h = shown_alone e
shown_in_empty (x ∷ xs) e h = absurd (true≢false h)

pub lost_after : (errors : List Error) (e : Error) → StepsBelow e.step errors → is_any errors ≡ true
    → shown (errors ++ e ∷ []) ≡ shown errors → is_shown_after errors e ≡ false
unfolding is_shown_after came_at
lost_after errors e below any s =
    let at = shown_some errors any in
    let before : at.0.step < e.step = found_before e.step _ errors at.0 below (shown_found errors at.0 at.1) in
    let differ : (at.0.step == e.step) ≡ false = grind (arith, nat_tests) in
    ap (came_at e.step) (s ∙ at.1) ∙ differ

pub who_wins : (errors : List Error) (e : Error) (copy : RecordCopy) → Shows errors copy → StepsBelow e.step errors
    → Won errors e (status_fields copy.status) ⊎ Lost errors e (status_fields copy.status)
who_wins errors e copy s below =
    let fields = status_fields copy.status in
    elim (cases_Bool (is_any errors)) as (λ _. Won errors e fields ⊎ Lost errors e fields) [
      | inl any ↦
          let t = top_some errors copy s any in
          let r = rank_is errors copy t.0 s any t.2 in
          let w : wins fields e.report ≡ nat_lt (greatest_of rank_of errors) (rank_of e) = wins_some fields e.report
          t.0 t.1 ∙ ap (λ n. nat_lt n (rank e.report.severity e.report.priority)) r
          ∙ ap (nat_lt (greatest_of rank_of errors)) (rank_here e) in
          elim (cases_lt (greatest_of rank_of errors) (rank_of e)) as (λ _. Won errors e fields ⊎ Lost errors e
          fields) [
            | inl less ↦ inl (won errors e fields (w ∙ lt-ltb _ _ less) (shown_greater errors e less))
            | inr more ↦
                let same = shown_not_greater errors e any more in
                inr (record {
                  wins_is = w ∙ le-ltb _ _ more;
                  any = any;
                  shown_is = same;
                  after = lost_after errors e below any
                      same;
                })
          ]
      | inr none ↦
          inl (won errors e fields (wins_none fields e.report (top_none errors copy s none))
          (shown_in_empty errors e none))
    ]

-- ---- Multiple occurrence ----

multiple_in_empty : (errors : List Error) (e : Error) → is_any errors ≡ false → is_multiple (errors ++ e ∷ []) ≡ false
unfolding is_any
multiple_in_empty [] e h = multiple_alone e
multiple_in_empty (x ∷ xs) e h = absurd (true≢false h)

multiple_none : (fields : StatusFields) (severity : Severity) → top fields ≡ None → multiple_after fields severity
    ≡ false
unfolding multiple_after
multiple_none fields severity h = rw h refl

multiple_some : (fields : StatusFields) (severity before : Severity) → top fields ≡ Some before
    → multiple_after fields severity
    ≡ cond (nat_lt (severity_number before) (severity_number severity)) false
    (cond (severity_number before == severity_number severity) true fields.multiple)
unfolding multiple_after
multiple_some fields severity before h = rw h refl

severity_here : (e : Error) → severity_number e.report.severity ≡ severity_of e
unfolding severity_of
severity_here e = refl

pub multiple_is : (errors : List Error) (e : Error) (copy : RecordCopy) → Shows errors copy
    → is_multiple (errors ++ e ∷ []) ≡ multiple_after (status_fields copy.status) e.report.severity
multiple_is errors e copy s =
    let fields = status_fields copy.status in
    let g = greatest_of severity_of errors in
    elim (cases_Bool (is_any errors)) as (λ _. is_multiple (errors ++ e ∷ [])
    ≡ multiple_after fields e.report.severity) [
      | inl any ↦
          let t = top_some errors copy s any in
          let m : multiple_after fields e.report.severity
          ≡ cond (nat_lt g (severity_of e)) false (cond (g == severity_of e) true fields.multiple) =
          multiple_some fields e.report.severity t.0 t.1
          ∙ ap (λ n. cond (nat_lt n (severity_number e.report.severity)) false
          (cond (n == severity_number e.report.severity) true fields.multiple)) t.2
          ∙ ap (λ n. cond (nat_lt g n) false (cond (g == n) true fields.multiple)) (severity_here e) in
          elim (cases_order g (severity_of e)) as (λ _. is_multiple (errors ++ e ∷ [])
          ≡ multiple_after fields e.report.severity) [
            | inl equal ↦ multiple_equal errors e any equal
                ∙ sym (m ∙ cond-false _ _ _ (le-ltb g (severity_of e) (omega arith))
                ∙ cond-true _ true fields.multiple (eq-eqb _ _ equal))
            | inr (inl less) ↦ multiple_greater errors e less ∙ sym (m ∙ cond-true _ false _ (lt-ltb _ _ less))
            | inr (inr more) ↦
                multiple_less errors e more ∙ sym s.multiple
                ∙ sym (m ∙ cond-false _ _ _ (le-ltb g (severity_of e) (omega arith))
                ∙ cond-false _ true fields.multiple (ne_eqb _ _ (λ q. omega arith)))
          ]
      | inr none ↦ multiple_in_empty errors e none
          ∙ sym (multiple_none fields e.report.severity (top_none errors copy s none))
    ]

-- ---- The fields afterwards ----

-- setting the bit of a severity leaves every other field
record SetsBit (severity : Severity) (old new : StatusFields) : Type 0 where
  ce : new.ce ≡ (old.ce || severity_number severity == 0)
  ued : new.ued ≡ (old.ued || severity_number severity == 1)
  uec : new.uec ≡ (old.uec || severity_number severity == 2)
  valid : new.valid ≡ old.valid
  priority : new.priority ≡ old.priority
  code : new.code ≡ old.code
  in_progress : new.in_progress ≡ old.in_progress
  count : new.count ≡ old.count
  overflow : new.overflow ≡ old.overflow

or_false : (b : Bool) → b ≡ (b || false)
or_false b = elim b as (λ v. v ≡ (v || false)) [ true ↦ refl | false ↦ refl ]

or_true : (b : Bool) → true ≡ (b || true)
or_true b = elim b as (λ v. true ≡ (v || true)) [ true ↦ refl | false ↦ refl ]

sets_bit : (severity : Severity) (old : StatusFields) → SetsBit severity old (with_severity severity old)
unfolding with_severity severity_number
sets_bit Ce old =
    record {
      ce = or_true old.ce;
      ued = or_false old.ued;
      uec = or_false old.uec;
      valid = refl;
      priority =
          refl;
      code = refl;
      in_progress = refl;
      count = refl;
      overflow = refl;
    }
sets_bit Ued old =
    record {
      ce = or_false old.ce;
      ued = or_true old.ued;
      uec = or_false old.uec;
      valid = refl;
      priority =
          refl;
      code = refl;
      in_progress = refl;
      count = refl;
      overflow = refl;
    }
sets_bit Uec old =
    record {
      ce = or_false old.ce;
      ued = or_false old.ued;
      uec = or_true old.uec;
      valid = refl;
      priority =
          refl;
      code = refl;
      in_progress = refl;
      count = refl;
      overflow = refl;
    }

-- what entering an error does to the fields, where `writes` says whether it takes the place of the shown one
pub record Enters (writes : Bool) (old : StatusFields) (report : Report) (new : StatusFields) : Type 0 where
  pub ce : new.ce ≡ (old.ce || severity_number report.severity == 0)
  pub ued : new.ued ≡ (old.ued || severity_number report.severity == 1)
  pub uec : new.uec ≡ (old.uec || severity_number report.severity == 2)
  pub multiple : new.multiple ≡ multiple_after old report.severity
  pub valid : new.valid ≡ cond writes true old.valid
  pub priority : new.priority ≡ cond writes report.priority old.priority
  pub code : new.code ≡ cond writes report.code old.code
  pub in_progress : new.in_progress ≡ cond writes false old.in_progress

enters_if : (writes : Bool) (old : StatusFields) (report : Report)
    → Enters writes old report (cond writes (filled (marked old report.severity) report) (marked old report.severity))
unfolding marked filled
enters_if true old report =
    let m = sets_bit report.severity old in
    record {
      ce = m.ce;
      ued = m.ued;
      uec = m.uec;
      multiple = refl;
      valid = refl;
      priority = refl;
      code =
          refl;
      in_progress = refl;
    }
enters_if false old report =
    let m = sets_bit report.severity old in
    record {
      ce = m.ce;
      ued = m.ued;
      uec = m.uec;
      multiple = refl;
      valid = m.valid;
      priority = m.priority;
      code =
          m.code;
      in_progress = m.in_progress;
    }

pub enters : (old : StatusFields) (report : Report) → Enters (wins old report) old report (entered old report)
unfolding entered
enters old report = enters_if (wins old report) old report

count_if : (writes : Bool) (old : StatusFields) (report : Report)
    → (cond writes (filled (marked old report.severity) report) (marked old report.severity)).count ≡ old.count
unfolding marked filled
count_if true old report = (sets_bit report.severity old).count
count_if false old report = (sets_bit report.severity old).count

overflow_if : (writes : Bool) (old : StatusFields) (report : Report)
    → (cond writes (filled (marked old report.severity) report) (marked old report.severity)).overflow ≡ old.overflow
unfolding marked filled
overflow_if true old report = (sets_bit report.severity old).overflow
overflow_if false old report = (sets_bit report.severity old).overflow

pub entered-count : (old : StatusFields) (report : Report) → (entered old report).count ≡ old.count
unfolding entered
entered-count old report = count_if (wins old report) old report

pub entered-overflow : (old : StatusFields) (report : Report) → (entered old report).overflow ≡ old.overflow
unfolding entered
entered-overflow old report = overflow_if (wins old report) old report

-- entering an error does not look at the count
enters_past_count : (old : StatusFields) (n : ℕ) (v : Bool) (writes : Bool) (report : Report) (new : StatusFields)
    → Enters writes (record old { count = n; overflow = v }) report new → Enters writes old report new
unfolding multiple_after top greatest
enters_past_count old n v writes report new e =
    record {
      ce = e.ce;
      ued = e.ued;
      uec = e.uec;
      multiple = e.multiple;
      valid = e.valid;
      priority =
          e.priority;
      code = e.code;
      in_progress = e.in_progress;
    }

pub wins_past_count : (old : StatusFields) (n : ℕ) (v : Bool) (report : Report)
    → wins (record old { count = n; overflow = v }) report ≡ wins old report
unfolding wins top greatest
wins_past_count old n v report = refl

pub enters_counted : (old : StatusFields) (n : ℕ) (v : Bool) (report : Report)
    → Enters (wins old report) old report (entered (record old { count = n; overflow = v }) report)
enters_counted old n v report =
    enters_past_count old n v (wins old report) report _
    (subst (λ w. Enters w (record old { count = n; overflow = v }) report
    (entered (record old { count = n; overflow = v }) report)) (wins_past_count old n v report)
    (enters (record old { count = n; overflow = v }) report))

-- ---- The registers afterwards ----

has_after : (s : ℕ) (errors : List Error) (e : Error) (old new : Bool) → old ≡ has_severity s errors
    → new ≡ (old || severity_number e.report.severity == s) → new ≡ has_severity s (errors ++ e ∷ [])
unfolding severity_of
has_after s errors e old new h k = k ∙ ap (λ b. b || severity_number e.report.severity == s) h
    ∙ sym (has_severity-push s errors e)

is_any-push : (errors : List Error) (e : Error) → is_any (errors ++ e ∷ []) ≡ true
unfolding is_any
is_any-push [] e = refl
is_any-push (x ∷ xs) e = refl

-- a number of the shown error, where the error writes and where it does not
number_won : (number : Report → ℕ) (errors : List Error) (e : Error) → shown (errors ++ e ∷ []) ≡ Some e
    → number e.report ≡ number_in number (shown (errors ++ e ∷ []))
unfolding number_in
number_won number errors e h = sym (ap (number_in number) h)

pub shows_entered : (errors : List Error) (e : Error) (old new : RecordCopy) (writes : Bool)
    → StepsBelow e.step errors → Shows errors old → writes ≡ wins (status_fields old.status) e.report
    → Enters writes (status_fields old.status) e.report (status_fields new.status)
    → new.address ≡ cond writes e.report.address old.address → new.info ≡ cond writes e.report.info old.info
    → new.supplement ≡ cond writes e.report.supplement old.supplement → new.time ≡ cond writes e.report.time old.time
    → Shows (errors ++ e ∷ []) new
shows_entered errors e old new true below s w n address info supplement time =
    elim (who_wins errors e old s below) as (λ _. Shows (errors ++ e ∷ []) new) [
      | inl r ↦
          record {
            valid = n.valid ∙ sym (is_any-push errors e);
            ce = has_after 0 errors e _ _ s.ce n.ce;
            ued = has_after 1 errors e _ _ s.ued n.ued;
            uec = has_after 2 errors e _ _ s.uec n.uec;
            multiple = n.multiple ∙ sym (multiple_is errors e old s);
            priority = n.priority ∙ number_won (λ x. x.priority) errors e r.shown_is;
            code = n.code ∙ number_won (λ x. x.code) errors e r.shown_is;
            address = address ∙ number_won (λ x. x.address) errors e r.shown_is;
            info = info ∙ number_won (λ x. x.info) errors e r.shown_is;
            supplement = supplement ∙ number_won (λ x. x.supplement) errors e r.shown_is;
            time = time ∙ number_won (λ x. x.time) errors e r.shown_is;
          }
      | inr r ↦ absurd (true≢false (w ∙ r.wins_is))
    ]
shows_entered errors e old new false below s w n address info supplement time =
    elim (who_wins errors e old s below) as (λ _. Shows (errors ++ e ∷ []) new) [
      | inl r ↦ absurd (true≢false (sym r.wins_is ∙ sym w))
      | inr r ↦
          record {
            valid = n.valid ∙ s.valid ∙ r.any ∙ sym (is_any-push errors e);
            ce = has_after 0 errors e _ _ s.ce n.ce;
            ued = has_after 1 errors e _ _ s.ued n.ued;
            uec = has_after 2 errors e _ _ s.uec n.uec;
            multiple = n.multiple ∙ sym (multiple_is errors e old s);
            priority = n.priority ∙ s.priority ∙ sym (ap (number_in (λ x. x.priority)) r.shown_is);
            code = n.code ∙ s.code ∙ sym (ap (number_in (λ x. x.code)) r.shown_is);
            address = address ∙ s.address ∙ sym (ap (number_in (λ x. x.address)) r.shown_is);
            info = info ∙ s.info ∙ sym (ap (number_in (λ x. x.info)) r.shown_is);
            supplement = supplement ∙ s.supplement ∙ sym (ap (number_in (λ x. x.supplement)) r.shown_is);
            time = time ∙ s.time ∙ sym (ap (number_in (λ x. x.time)) r.shown_is);
          }
    ]

-- whether the error is shown afterwards is what the fields told
pub after_is : (errors : List Error) (e : Error) (copy : RecordCopy) → Shows errors copy → StepsBelow e.step errors
    → is_shown_after errors e ≡ wins (status_fields copy.status) e.report
after_is errors e copy s below =
    elim (who_wins errors e copy s below) as (λ _. is_shown_after errors e
    ≡ wins (status_fields copy.status) e.report) [
      | inl r ↦ r.after ∙ sym r.wins_is
      | inr r ↦ r.after ∙ sym r.wins_is
    ]
