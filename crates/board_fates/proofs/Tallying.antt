-- A tally of some notes is, with one note more counted, a tally of these and that one.
use Rattle.std.proofs.Common.{◌≡◌, ◌≢◌, ℕ, suc, ◌+◌, ◌-◌, ◌*◌, ◌<◌, ◌≤◌, ◌==◌, not, Bool, true, false, cond, List, ◌∷◌, length, slice_get, Option, Some, None, refl, inl, inr, sym, ap, ◌∙◌, subst, arith}
use Rattle.std.specs.Option.{option_map, option_map_or}
use Rattle.std.specs.Prelude.{IsSome}
use Rattle.std.proofs.lemmas.Bool.{cases_Bool, true≢false, eqb-true, and_parts, and_from, eq-eqb}
use Rattle.std.proofs.lemmas.List.{length-set, get_or-set_same, get_or-set_other}
use Rattle.std.proofs.lemmas.List.FromFn.{length-map-range_with_len}
use Rattle.std.proofs.lemmas.Option.{none-some, same_Some, slice_get_within}
use Rattle.reri_fields.specs.declared.report.Report.{Report}
use Rattle.reri_fields.specs.declared.report.Logged.{Logged}
use Rattle.reri_fields.specs.declared.report.Logged.TheVariants.{Disabled, Counted, Wrote, Kept}
use Rattle.reri_fields.specs.Records.{Origin, in_progress}
use Rattle.reri_fields.specs.Outcome.{outcome, wrote}
use Rattle.board_plan.specs.declared.notes.Fates as fates
use Rattle.board_plan.specs.declared.notes.StepNote.{StepNote}
use Rattle.board_plan.specs.declared.notes.StepNote.TheVariants as note
use Rattle.board_plan.specs.declared.plan.BankDecl.{BankDecl}
use Rattle.board_plan.specs.declared.plan.Plan.{Plan}
use Rattle.board_plan.specs.Plans.{IsPlan}
use Rattle.board_plan.specs.State.{origin_of}
use Rattle.board_plan.specs.Fates.{Fate, News, told, says_wrote, deed_at, deeds_of, error_at, errors_made, is_at, origin_at, origin_in, number_with, news_of}
use Rattle.board_plan.specs.Fates.Fate.{Stray, WasDisabled, WasCounted, WasKept, Drained, Overwritten, Stands}
use Rattle.board_plan.specs.Fates.News.{Errs, Claims, Checks, Invalidates, Other}
use Rattle.board_fates.specs.declared.tally.Tally.{Tally}
use Rattle.board_fates.specs.Counted.{mark_at, with_mark, more, one_made, with_answer, with_counts, writes, marked_if, with_error, with_note, fallen, drained, with_published, with_cleared}
use Rattle.board_fates.specs.Tallied.{shows_unpublished, is_unpublished_at, answer_to, is_claimed_at, numbers, IsTallyOf, IsTrue}
use Rattle.board_fates.proofs.Shown.{says_it_wrote}
use Rattle.board_fates.proofs.Places.{bit, few_made}
use Rattle.board_fates.proofs.Moves.{to_none, to_stands, to_overwritten, to_drained}
use Rattle.board_fates.proofs.Numbers.{older_with, few_with}
use Rattle.board_fates.proofs.News.{Changes, Rests, says_of, number_next, claim_rests, torn_rests, check_changes, stood_rests, clear_changes, stray_rests, error_rests, error_changes}

-- ---- Counts, number by number ----

record AreNumbers (plan : Plan) (ns : List News) (x : fates.Fates) : Type 0 where
  made : x.made ≡ length (errors_made ns)
  stray : x.stray ≡ number_with plan ns Stray
  disabled : x.disabled ≡ number_with plan ns WasDisabled
  counted : x.counted ≡ number_with plan ns WasCounted
  drained : x.drained ≡ number_with plan ns Drained
  overwritten : x.overwritten ≡ number_with plan ns Overwritten
  kept : x.kept ≡ number_with plan ns WasKept
  stands : x.stands ≡ number_with plan ns Stands

are_numbers : (plan : Plan) (ns : List News) (x : fates.Fates) → x ≡ numbers plan ns → AreNumbers plan ns x
unfolding numbers
are_numbers plan ns x h =
    record {
      made = ap (λ (y : fates.Fates). y.made) h;
      stray = ap (λ (y : fates.Fates). y.stray) h;
      disabled = ap (λ (y : fates.Fates). y.disabled) h;
      counted = ap (λ (y : fates.Fates). y.counted) h;
      drained = ap (λ (y : fates.Fates). y.drained) h;
      overwritten = ap (λ (y : fates.Fates). y.overwritten) h;
      kept = ap (λ (y : fates.Fates). y.kept) h;
      stands = ap (λ (y : fates.Fates). y.stands) h;
    }

numbers_are : (plan : Plan) (ns : List News) (x : fates.Fates) → AreNumbers plan ns x → x ≡ numbers plan ns
unfolding numbers
numbers_are plan ns x h = λ i. record {
  made = h.made i;
  stray = h.stray i;
  disabled = h.disabled i;
  counted = h.counted i;
  drained = h.drained i;
  overwritten = h.overwritten i;
  kept = h.kept i;
  stands = h.stands i;
}

rises : (x n m : ℕ) → x ≡ n → m ≡ 1 + n → n ≤ 160000 → more x ≡ m
rises x n m is next few = omega arith

keeps : (x n m : ℕ) → x ≡ n → m ≡ 0 + n → x ≡ m
keeps x n m is next = omega arith

few_fate : (plan : Plan) (ns : List News) (f : Fate) → length ns ≤ 160000 → number_with plan ns f ≤ 160000
few_fate plan ns f few = omega (arith, few_with plan ns f, few_made ns)

-- ---- Marks ----

-- the numbers of a record that the plan has
record InRange (bank rec : ℕ) : Type 0 where
  bank_low : bank < 4
  rec_low : rec < 64

in_bank : (bank rec : ℕ) (plan : Plan) (origin : Origin) (o : Option BankDecl) → IsPlan plan
    → slice_get plan.banks bank ≡ o → origin_in bank rec plan o ≡ Some origin → InRange bank rec
in_bank bank rec plan origin None is at there = absurd (none-some origin there)
in_bank bank rec plan origin (Some d) is at there =
    let origins = λ (k : ℕ). origin_of bank k plan.recs in
    record {
      bank_low = omega (arith, slice_get_within plan.banks bank d at, is.few_banks);
      rec_low = omega (
        arith,
        slice_get_within _ rec origin there,
        length-map-range_with_len origins 0 d.recs,
        (is.banks bank d at).few,
      );
    }

in_range : (plan : Plan) (bank rec : ℕ) (origin : Origin) → IsPlan plan → origin_at plan bank rec ≡ Some origin
    → InRange bank rec
in_range plan bank rec origin is there = in_bank bank rec plan origin (slice_get plan.banks bank) is refl there

-- the marks after one of them was set
marks_set : (plan : Plan) (n : News) (ns : List News) (bank rec : ℕ) (from into : Fate → Bool) (mark : Bool) (t : Tally)
    → IsTallyOf plan ns t → InRange bank rec → Changes plan from into n ns bank rec mark
    → (b r : ℕ) → b < 4 → r < 64
    → mark_at b r (with_mark bank rec mark t) ≡ is_unpublished_at plan (n ∷ ns) b r
marks_set plan n ns bank rec from into mark t h low change b r b_low r_low =
    elim (cases_Bool (is_at b r bank rec)) as (λ _.
    mark_at b r (with_mark bank rec mark t) ≡ is_unpublished_at plan (n ∷ ns) b r) [
      | inl here ↦
          let parts = and_parts (bank == b) (rec == r) here in
          let b_is : bank ≡ b = eqb-true bank b parts.0 in
          let r_is : rec ≡ r = eqb-true rec r parts.1 in
          subst (λ q. mark_at b q (with_mark bank rec mark t) ≡ is_unpublished_at plan (n ∷ ns) b q) r_is
          (subst (λ c. mark_at c rec (with_mark bank rec mark t) ≡ is_unpublished_at plan (n ∷ ns) c rec) b_is
          (get_or-set_same t.marks (64 * bank + rec) mark false (omega (arith, h.room, low.bank_low, low.rec_low))
          ∙ sym change.here))
      | inr apart ↦
          get_or-set_other t.marks (64 * bank + rec) (64 * b + r) mark false
          (others bank rec b r low r_low apart)
          ∙ h.marks b r b_low r_low ∙ sym (change.elsewhere b r apart)
    ]
  where
    others : (bank rec b r : ℕ) → InRange bank rec → r < 64 → is_at b r bank rec ≡ false
        → (64 * b + r) ≢ (64 * bank + rec)
    others bank rec b r low r_low apart same =
        let b_is : bank ≡ b = omega (arith, low.rec_low, r_low, same) in
        let r_is : rec ≡ r = omega (arith, low.rec_low, r_low, same) in
        true≢false (sym (and_from (bank == b) (rec == r) (eq-eqb bank b b_is) (eq-eqb rec r r_is)) ∙ apart)

-- where one record's is not to change, none is
marks_rest : (plan : Plan) (n : News) (ns : List News) (bank rec : ℕ) (from into : Fate → Bool) (t : Tally)
    → IsTallyOf plan ns t → Changes plan from into n ns bank rec (is_unpublished_at plan ns bank rec)
    → (b r : ℕ) → b < 4 → r < 64 → mark_at b r t ≡ is_unpublished_at plan (n ∷ ns) b r
marks_rest plan n ns bank rec from into t h change b r b_low r_low =
    elim (cases_Bool (is_at b r bank rec)) as (λ _. mark_at b r t ≡ is_unpublished_at plan (n ∷ ns) b r) [
      | inl here ↦
          let parts = and_parts (bank == b) (rec == r) here in
          let b_is : bank ≡ b = eqb-true bank b parts.0 in
          let r_is : rec ≡ r = eqb-true rec r parts.1 in
          h.marks b r b_low r_low
          ∙ subst (λ q. is_unpublished_at plan ns b q ≡ is_unpublished_at plan (n ∷ ns) b q) r_is
          (subst (λ c. is_unpublished_at plan ns c rec ≡ is_unpublished_at plan (n ∷ ns) c rec) b_is (sym change.here))
      | inr apart ↦ h.marks b r b_low r_low ∙ sym (change.elsewhere b r apart)
    ]

-- ---- News that are no error ----

-- the errors that were made are those of before
record MakesNone (plan : Plan) (n : News) (ns : List News) : Type 0 where
  made : length (errors_made (n ∷ ns)) ≡ length (errors_made ns)
  numbers : (f : Fate) → number_with plan (n ∷ ns) f ≡ older_with plan n ns f

claims_none : (plan : Plan) (ns : List News) (bank rec : ℕ) → MakesNone plan (Claims bank rec) ns
unfolding number_with
claims_none plan ns bank rec = record { made = refl; numbers = λ f. refl }

checks_none : (plan : Plan) (ns : List News) (bank rec : ℕ) (published : Bool)
    → MakesNone plan (Checks bank rec published) ns
unfolding number_with
checks_none plan ns bank rec published = record { made = refl; numbers = λ f. refl }

invalidates_none : (plan : Plan) (ns : List News) (bank rec : ℕ) → MakesNone plan (Invalidates bank rec) ns
unfolding number_with
invalidates_none plan ns bank rec = record { made = refl; numbers = λ f. refl }

-- a number that does not move
same : (x y o n p q : ℕ) → x ≡ n → y ≡ o → o + p ≡ n + q → p ≡ q → x ≡ y
same x y o n p q is then moves none = omega arith

tally_rests : (plan : Plan) (n : News) (ns : List News) (bank rec : ℕ) (t : Tally) → MakesNone plan n ns
    → Rests plan n ns bank rec → IsTallyOf plan ns t → IsTallyOf plan (n ∷ ns) t
tally_rests plan n ns bank rec t makes change h =
    let x = are_numbers plan ns t.counts h.counts in
    let each : (c : ℕ) (f : Fate) → c ≡ number_with plan ns f → c ≡ number_with plan (n ∷ ns) f = λ c f is.
    same c (number_with plan (n ∷ ns) f) (older_with plan n ns f) (number_with plan ns f) 0 0 is (makes.numbers f)
    (change.numbers f) refl in
    record {
      is_plan = h.is_plan;
      counts = numbers_are plan (n ∷ ns) t.counts
          (record {
            made = x.made ∙ sym makes.made;
            stray = each t.counts.stray Stray x.stray;
            disabled = each t.counts.disabled WasDisabled x.disabled;
            counted = each t.counts.counted WasCounted x.counted;
            drained = each t.counts.drained Drained x.drained;
            overwritten = each t.counts.overwritten Overwritten x.overwritten;
            kept = each t.counts.kept WasKept x.kept;
            stands = each t.counts.stands Stands x.stands;
          });
      marks = marks_rest plan n ns bank rec to_none to_none t h change;
      room = h.room;
    }

-- where the record isn't marked, no number moves
tally_unmarked : (plan : Plan) (n : News) (ns : List News) (bank rec : ℕ) (into : Fate → Bool) (t : Tally)
    → MakesNone plan n ns → Changes plan to_stands into n ns bank rec false → is_unpublished_at plan ns bank rec ≡ false
    → IsTallyOf plan ns t → IsTallyOf plan (n ∷ ns) t
tally_unmarked plan n ns bank rec into t makes change off h =
    let x = are_numbers plan ns t.counts h.counts in
    let one = bit (is_unpublished_at plan ns bank rec) in
    let each : (c : ℕ) (f : Fate) → c ≡ number_with plan ns f → c ≡ number_with plan (n ∷ ns) f = λ c f is.
    same c (number_with plan (n ∷ ns) f) (older_with plan n ns f) (number_with plan ns f) (cond (to_stands f) one 0)
    (cond (into f) one 0) is (makes.numbers f) (change.numbers f) (none one (to_stands f) (into f) (ap bit off)) in
    record {
      is_plan = h.is_plan;
      counts = numbers_are plan (n ∷ ns) t.counts
          (record {
            made = x.made ∙ sym makes.made;
            stray = each t.counts.stray Stray x.stray;
            disabled = each t.counts.disabled WasDisabled x.disabled;
            counted = each t.counts.counted WasCounted x.counted;
            drained = each t.counts.drained Drained x.drained;
            overwritten = each t.counts.overwritten Overwritten x.overwritten;
            kept = each t.counts.kept WasKept x.kept;
            stands = each t.counts.stands Stands x.stands;
          });
      marks = marks_rest plan n ns bank rec to_stands into t h (record {
        numbers = change.numbers;
        here = change.here ∙ sym off;
        elsewhere = change.elsewhere;
      });
      room = h.room;
    }
  where
    none : (one : ℕ) (b c : Bool) → one ≡ 0 → cond b one 0 ≡ cond c one 0
    none one true true is = refl
    none one true false is = is
    none one false true is = sym is
    none one false false is = refl

-- a number that falls by one
falls : (x y o n p : ℕ) → x ≡ n → y ≡ o → o + p ≡ n + 0 → p ≡ 1 → (x - 1) ≡ y
falls x y o n p is then moves one = omega arith

-- one that rises by one
climbs : (x y o n p : ℕ) → x ≡ n → y ≡ o → o + 0 ≡ n + p → p ≡ 1 → n ≤ 160000 → more x ≡ y
climbs x y o n p is then moves one few = omega arith

tally_published : (plan : Plan) (ns : List News) (bank rec : ℕ) (t : Tally) (origin : Origin)
    → origin_at plan bank rec ≡ Some origin → length ns ≤ 160000 → is_unpublished_at plan ns bank rec ≡ true
    → IsTallyOf plan ns t → IsTallyOf plan (Checks bank rec true ∷ ns) (drained (fallen bank rec t))
tally_published plan ns bank rec t origin there few on h =
    let n = Checks bank rec true in
    let change = check_changes plan ns bank rec origin there in
    let makes = checks_none plan ns bank rec true in
    let x = are_numbers plan ns t.counts h.counts in
    let one = bit (is_unpublished_at plan ns bank rec) in
    let is_one : one ≡ 1 = ap bit on in
    let each : (c : ℕ) (f : Fate) → c ≡ number_with plan ns f → older_with plan n ns f + 0 ≡ number_with plan ns f + 0
    → c ≡ number_with plan (n ∷ ns) f = λ c f is moves.
    same c (number_with plan (n ∷ ns) f) (older_with plan n ns f) (number_with plan ns f) 0 0 is (makes.numbers f)
    moves refl in
    record {
      is_plan = h.is_plan;
      counts = numbers_are plan (n ∷ ns) (drained (fallen bank rec t)).counts
          (record {
            made = x.made ∙ sym makes.made;
            stray = each t.counts.stray Stray x.stray (change.numbers Stray);
            disabled = each t.counts.disabled WasDisabled x.disabled (change.numbers WasDisabled);
            counted = each t.counts.counted WasCounted x.counted (change.numbers WasCounted);
            drained = climbs t.counts.drained (number_with plan (n ∷ ns) Drained) (older_with plan n ns Drained)
                (number_with plan ns Drained) one x.drained (makes.numbers Drained) (change.numbers Drained) is_one
                (few_fate plan ns Drained few);
            overwritten = each t.counts.overwritten Overwritten x.overwritten (change.numbers Overwritten);
            kept = each t.counts.kept WasKept x.kept (change.numbers WasKept);
            stands = falls t.counts.stands (number_with plan (n ∷ ns) Stands) (older_with plan n ns Stands)
                (number_with plan ns Stands) one x.stands (makes.numbers Stands) (change.numbers Stands) is_one;
          });
      marks = marks_set plan n ns bank rec to_stands to_drained false t h
          (in_range plan bank rec origin h.is_plan there) change;
      room = length-set t.marks (64 * bank + rec) false ∙ h.room;
    }

tally_cleared : (plan : Plan) (ns : List News) (bank rec : ℕ) (t : Tally) (origin : Origin)
    → origin_at plan bank rec ≡ Some origin → in_progress origin (told (deeds_of bank rec ns)) ≡ true
    → is_unpublished_at plan ns bank rec ≡ true
    → IsTallyOf plan ns t → IsTallyOf plan (Invalidates bank rec ∷ ns) (fallen bank rec t)
tally_cleared plan ns bank rec t origin there clears on h =
    let n = Invalidates bank rec in
    let change = clear_changes plan ns bank rec origin there clears in
    let makes = invalidates_none plan ns bank rec in
    let x = are_numbers plan ns t.counts h.counts in
    let one = bit (is_unpublished_at plan ns bank rec) in
    let is_one : one ≡ 1 = ap bit on in
    let each : (c : ℕ) (f : Fate) → c ≡ number_with plan ns f → older_with plan n ns f + 0 ≡ number_with plan ns f + 0
    → c ≡ number_with plan (n ∷ ns) f = λ c f is moves.
    same c (number_with plan (n ∷ ns) f) (older_with plan n ns f) (number_with plan ns f) 0 0 is (makes.numbers f)
    moves refl in
    record {
      is_plan = h.is_plan;
      counts = numbers_are plan (n ∷ ns) (fallen bank rec t).counts
          (record {
            made = x.made ∙ sym makes.made;
            stray = each t.counts.stray Stray x.stray (change.numbers Stray);
            disabled = each t.counts.disabled WasDisabled x.disabled (change.numbers WasDisabled);
            counted = each t.counts.counted WasCounted x.counted (change.numbers WasCounted);
            drained = each t.counts.drained Drained x.drained (change.numbers Drained);
            overwritten = each t.counts.overwritten Overwritten x.overwritten (change.numbers Overwritten);
            kept = each t.counts.kept WasKept x.kept (change.numbers WasKept);
            stands = falls t.counts.stands (number_with plan (n ∷ ns) Stands) (older_with plan n ns Stands)
                (number_with plan ns Stands) one x.stands (makes.numbers Stands) (change.numbers Stands) is_one;
          });
      marks = marks_set plan n ns bank rec to_stands to_none false t h
          (in_range plan bank rec origin h.is_plan there) change;
      room = length-set t.marks (64 * bank + rec) false ∙ h.room;
    }

-- ---- Errors ----

-- what an error adds to each number, where it moves none of the older ones
next_numbers : (plan : Plan) (ns : List News) (report : Report) (logged : Option Logged) (mark : Bool)
    → logged ≡ answer_to plan ns (error_at (suc (length ns)) report)
    → Changes plan to_none to_none (Errs report) ns report.bank report.rec mark
    → (f : Fate) → number_with plan (Errs report ∷ ns) f ≡ bit (says_of f logged) + number_with plan ns f
next_numbers plan ns report logged mark is change f =
    added (number_with plan (Errs report ∷ ns) f) (older_with plan (Errs report) ns f) (number_with plan ns f)
    (bit (says_of f logged))
    (number_next plan ns report f ∙ ap (λ o. bit (says_of f o) + older_with plan (Errs report) ns f) (sym is))
    (change.numbers f)
  where
    added : (m o n b : ℕ) → m ≡ b + o → o + 0 ≡ n + 0 → m ≡ b + n
    added m o n b is moves = omega arith

made_next : (ns : List News) (report : Report) (x : ℕ) → x ≡ length (errors_made ns) → length ns ≤ 160000
    → more x ≡ length (errors_made (Errs report ∷ ns))
made_next ns report x is few = omega (arith, few_made ns)

-- the counts after an error that isn't written
counts_next : (plan : Plan) (ns : List News) (report : Report) (x : fates.Fates) (logged : Option Logged) (mark : Bool)
    → AreNumbers plan ns x → length ns ≤ 160000 → writes logged ≡ false
    → ((f : Fate) → number_with plan (Errs report ∷ ns) f ≡ bit (says_of f logged) + number_with plan ns f)
    → AreNumbers plan (Errs report ∷ ns) (with_answer logged mark (one_made x))
counts_next plan ns report x None mark h few off next =
    record {
      made = made_next ns report x.made h.made few;
      stray = rises x.stray (number_with plan ns Stray) (number_with plan (Errs report ∷ ns) Stray) h.stray (next Stray)
          (few_fate plan ns Stray few);
      disabled = keeps x.disabled (number_with plan ns WasDisabled) _ h.disabled (next WasDisabled);
      counted = keeps x.counted (number_with plan ns WasCounted) _ h.counted (next WasCounted);
      drained = keeps x.drained (number_with plan ns Drained) _ h.drained (next Drained);
      overwritten = keeps x.overwritten (number_with plan ns Overwritten) _ h.overwritten (next Overwritten);
      kept = keeps x.kept (number_with plan ns WasKept) _ h.kept (next WasKept);
      stands = keeps x.stands (number_with plan ns Stands) _ h.stands (next Stands);
    }
counts_next plan ns report x (Some Disabled) mark h few off next =
    record {
      made = made_next ns report x.made h.made few;
      stray = keeps x.stray (number_with plan ns Stray) _ h.stray (next Stray);
      disabled = rises x.disabled (number_with plan ns WasDisabled) (number_with plan (Errs report ∷ ns) WasDisabled)
          h.disabled (next WasDisabled) (few_fate plan ns WasDisabled few);
      counted = keeps x.counted (number_with plan ns WasCounted) _ h.counted (next WasCounted);
      drained = keeps x.drained (number_with plan ns Drained) _ h.drained (next Drained);
      overwritten = keeps x.overwritten (number_with plan ns Overwritten) _ h.overwritten (next Overwritten);
      kept = keeps x.kept (number_with plan ns WasKept) _ h.kept (next WasKept);
      stands = keeps x.stands (number_with plan ns Stands) _ h.stands (next Stands);
    }
counts_next plan ns report x (Some Counted) mark h few off next =
    record {
      made = made_next ns report x.made h.made few;
      stray = keeps x.stray (number_with plan ns Stray) _ h.stray (next Stray);
      disabled = keeps x.disabled (number_with plan ns WasDisabled) _ h.disabled (next WasDisabled);
      counted = rises x.counted (number_with plan ns WasCounted) (number_with plan (Errs report ∷ ns) WasCounted)
          h.counted (next WasCounted) (few_fate plan ns WasCounted few);
      drained = keeps x.drained (number_with plan ns Drained) _ h.drained (next Drained);
      overwritten = keeps x.overwritten (number_with plan ns Overwritten) _ h.overwritten (next Overwritten);
      kept = keeps x.kept (number_with plan ns WasKept) _ h.kept (next WasKept);
      stands = keeps x.stands (number_with plan ns Stands) _ h.stands (next Stands);
    }
counts_next plan ns report x (Some (Wrote level)) mark h few off next = absurd (true≢false off)
counts_next plan ns report x (Some Kept) mark h few off next =
    record {
      made = made_next ns report x.made h.made few;
      stray = keeps x.stray (number_with plan ns Stray) _ h.stray (next Stray);
      disabled = keeps x.disabled (number_with plan ns WasDisabled) _ h.disabled (next WasDisabled);
      counted = keeps x.counted (number_with plan ns WasCounted) _ h.counted (next WasCounted);
      drained = keeps x.drained (number_with plan ns Drained) _ h.drained (next Drained);
      overwritten = keeps x.overwritten (number_with plan ns Overwritten) _ h.overwritten (next Overwritten);
      kept = rises x.kept (number_with plan ns WasKept) (number_with plan (Errs report ∷ ns) WasKept) h.kept
          (next WasKept) (few_fate plan ns WasKept few);
      stands = keeps x.stands (number_with plan ns Stands) _ h.stands (next Stands);
    }

-- the numbers after an error that writes its record, where one is 1 if the record was marked
record Written (plan : Plan) (ns : List News) (report : Report) (one : ℕ) : Type 0 where
  others : (f : Fate) → to_stands f ≡ false → to_overwritten f ≡ false
      → number_with plan (Errs report ∷ ns) f ≡ 0 + number_with plan ns f
  overwritten : number_with plan (Errs report ∷ ns) Overwritten ≡ number_with plan ns Overwritten + one
  stands : number_with plan (Errs report ∷ ns) Stands + one ≡ 1 + number_with plan ns Stands

written_is : (plan : Plan) (ns : List News) (report : Report) (level : ℕ)
    → Some (Wrote level) ≡ answer_to plan ns (error_at (suc (length ns)) report)
    → Changes plan to_stands to_overwritten (Errs report) ns report.bank report.rec true
    → Written plan ns report (bit (is_unpublished_at plan ns report.bank report.rec))
written_is plan ns report level is change =
    let one = bit (is_unpublished_at plan ns report.bank report.rec) in
    let at : (f : Fate) → number_with plan (Errs report ∷ ns) f
    ≡ bit (says_of f (Some (Wrote level))) + older_with plan (Errs report) ns f = λ f.
    number_next plan ns report f ∙ ap (λ o. bit (says_of f o) + older_with plan (Errs report) ns f) (sym is) in
    record {
      others = λ f no_stands no_over.
          other f one (number_with plan (Errs report ∷ ns) f) (older_with plan (Errs report) ns f)
          (number_with plan ns f) no_stands no_over (at f) (change.numbers f);
      overwritten = omega (arith, at Overwritten, change.numbers Overwritten);
      stands = omega (arith, at Stands, change.numbers Stands);
    }
  where
    other : (f : Fate) (one m o n : ℕ) → to_stands f ≡ false → to_overwritten f ≡ false
        → m ≡ bit (says_of f (Some (Wrote level))) + o
        → o + cond (to_stands f) one 0 ≡ n + cond (to_overwritten f) one 0 → m ≡ 0 + n
    other Stray one m o n no_stands no_over is moves = omega arith
    other WasDisabled one m o n no_stands no_over is moves = omega arith
    other WasCounted one m o n no_stands no_over is moves = omega arith
    other WasKept one m o n no_stands no_over is moves = omega arith
    other Drained one m o n no_stands no_over is moves = omega arith
    other Overwritten one m o n no_stands no_over is moves = absurd (true≢false no_over)
    other Stands one m o n no_stands no_over is moves = absurd (true≢false no_stands)

counts_written : (plan : Plan) (ns : List News) (report : Report) (x : fates.Fates) (level : ℕ) (mark : Bool)
    → AreNumbers plan ns x → length ns ≤ 160000 → Written plan ns report (bit mark)
    → AreNumbers plan (Errs report ∷ ns) (with_answer (Some (Wrote level)) mark (one_made x))
counts_written plan ns report x level true h few w =
    record {
      made = made_next ns report x.made h.made few;
      stray = keeps x.stray (number_with plan ns Stray) _ h.stray (w.others Stray refl refl);
      disabled = keeps x.disabled (number_with plan ns WasDisabled) _ h.disabled (w.others WasDisabled refl refl);
      counted = keeps x.counted (number_with plan ns WasCounted) _ h.counted (w.others WasCounted refl refl);
      drained = keeps x.drained (number_with plan ns Drained) _ h.drained (w.others Drained refl refl);
      overwritten = rises x.overwritten (number_with plan ns Overwritten)
          (number_with plan (Errs report ∷ ns) Overwritten)
          h.overwritten (omega (arith, w.overwritten)) (few_fate plan ns Overwritten few);
      kept = keeps x.kept (number_with plan ns WasKept) _ h.kept (w.others WasKept refl refl);
      stands = keeps x.stands (number_with plan ns Stands) (number_with plan (Errs report ∷ ns) Stands) h.stands
          (omega (arith, w.stands));
    }
counts_written plan ns report x level false h few w =
    record {
      made = made_next ns report x.made h.made few;
      stray = keeps x.stray (number_with plan ns Stray) _ h.stray (w.others Stray refl refl);
      disabled = keeps x.disabled (number_with plan ns WasDisabled) _ h.disabled (w.others WasDisabled refl refl);
      counted = keeps x.counted (number_with plan ns WasCounted) _ h.counted (w.others WasCounted refl refl);
      drained = keeps x.drained (number_with plan ns Drained) _ h.drained (w.others Drained refl refl);
      overwritten = keeps x.overwritten (number_with plan ns Overwritten)
          (number_with plan (Errs report ∷ ns) Overwritten)
          h.overwritten (omega (arith, w.overwritten));
      kept = keeps x.kept (number_with plan ns WasKept) _ h.kept (w.others WasKept refl refl);
      stands = rises x.stands (number_with plan ns Stands) (number_with plan (Errs report ∷ ns) Stands) h.stands
          (omega (arith, w.stands)) (few_fate plan ns Stands few);
    }

-- an error that leaves all marks
tally_unwritten : (plan : Plan) (ns : List News) (report : Report) (logged : Option Logged) (t : Tally)
    → length ns ≤ 160000 → writes logged ≡ false
    → logged ≡ answer_to plan ns (error_at (suc (length ns)) report)
    → Rests plan (Errs report) ns report.bank report.rec → IsTallyOf plan ns t
    → IsTallyOf plan (Errs report ∷ ns) (with_error report.bank report.rec logged t)
tally_unwritten plan ns report logged t few off is change h =
    let x = are_numbers plan ns t.counts h.counts in
    let mark = mark_at report.bank report.rec t in
    let f = with_answer logged mark (one_made t.counts) in
    let next = with_counts f t in
    let after : IsTallyOf plan (Errs report ∷ ns) next = record {
      is_plan = h.is_plan;
      counts = numbers_are plan (Errs report ∷ ns) f
          (counts_next plan ns report t.counts logged mark x few off
          (next_numbers plan ns report logged (is_unpublished_at plan ns report.bank report.rec) is change));
      marks = marks_rest plan (Errs report) ns report.bank report.rec to_none to_none t h change;
      room = h.room;
    } in
    subst (λ b. IsTallyOf plan (Errs report ∷ ns) (marked_if b report.bank report.rec next)) (sym off) after

-- an error that writes its record
tally_written : (plan : Plan) (ns : List News) (report : Report) (level : ℕ) (t : Tally) (origin : Origin)
    → length ns ≤ 160000 → origin_at plan report.bank report.rec ≡ Some origin
    → Some (Wrote level) ≡ answer_to plan ns (error_at (suc (length ns)) report)
    → Changes plan to_stands to_overwritten (Errs report) ns report.bank report.rec true → IsTallyOf plan ns t
    → IsTallyOf plan (Errs report ∷ ns) (with_error report.bank report.rec (Some (Wrote level)) t)
tally_written plan ns report level t origin few there is change h =
    let x = are_numbers plan ns t.counts h.counts in
    let mark = mark_at report.bank report.rec t in
    let f = with_answer (Some (Wrote level)) mark (one_made t.counts) in
    let low = in_range plan report.bank report.rec origin h.is_plan there in
    let known : mark ≡ is_unpublished_at plan ns report.bank report.rec =
    h.marks report.bank report.rec low.bank_low low.rec_low in
    record {
      is_plan = h.is_plan;
      counts = numbers_are plan (Errs report ∷ ns) f
          (counts_written plan ns report t.counts level mark x few
          (subst (λ b. Written plan ns report (bit b)) (sym known) (written_is plan ns report level is change)));
      marks = marks_set plan (Errs report) ns report.bank report.rec to_stands to_overwritten true t h low change;
      room = length-set t.marks (64 * report.bank + report.rec) true ∙ h.room;
    }

tally_logged : (plan : Plan) (ns : List News) (report : Report) (logged : Logged) (t : Tally) (origin : Origin)
    → length ns ≤ 160000 → origin_at plan report.bank report.rec ≡ Some origin
    → Some logged ≡ answer_to plan ns (error_at (suc (length ns)) report)
    → wrote origin (told (deeds_of report.bank report.rec ns)) (error_at (suc (length ns)) report) ≡ says_wrote logged
    → IsTallyOf plan ns t
    → IsTallyOf plan (Errs report ∷ ns) (with_error report.bank report.rec (Some logged) t)
tally_logged plan ns report Disabled t origin few there is wrote_is h =
    tally_unwritten plan ns report (Some Disabled) t few refl is (error_rests plan ns report origin there wrote_is) h
tally_logged plan ns report Counted t origin few there is wrote_is h =
    tally_unwritten plan ns report (Some Counted) t few refl is (error_rests plan ns report origin there wrote_is) h
tally_logged plan ns report (Wrote level) t origin few there is wrote_is h =
    tally_written plan ns report level t origin few there is (error_changes plan ns report origin there wrote_is) h
tally_logged plan ns report Kept t origin few there is wrote_is h =
    tally_unwritten plan ns report (Some Kept) t few refl is (error_rests plan ns report origin there wrote_is) h

unmarked : (plan : Plan) (ns : List News) (report : Report) → origin_at plan report.bank report.rec ≡ None
    → is_unpublished_at plan ns report.bank report.rec ≡ false
unfolding is_unpublished_at
unmarked plan ns report at =
    ap (λ o. option_map_or (λ (p : Origin). shows_unpublished p (deeds_of report.bank report.rec ns)) o false) at

tally_answered : (plan : Plan) (ns : List News) (report : Report) (logged : Option Logged) (t : Tally)
    (o : Option Origin)
    → length ns ≤ 160000 → origin_at plan report.bank report.rec ≡ o
    → logged ≡ answer_to plan ns (error_at (suc (length ns)) report)
    → logged ≡ option_map (λ origin. outcome origin (told (deeds_of report.bank report.rec ns))
    (error_at (suc (length ns)) report)) o
    → IsTallyOf plan ns t → IsTallyOf plan (Errs report ∷ ns) (with_error report.bank report.rec logged t)
tally_answered plan ns report None t None few at is here h =
    tally_unwritten plan ns report None t few refl is
    (subst (Changes plan to_none to_none (Errs report) ns report.bank report.rec) (sym (unmarked plan ns report at))
    (stray_rests plan ns report at)) h
tally_answered plan ns report (Some logged) t None few at is here h = absurd (none-some logged (sym here))
tally_answered plan ns report None t (Some origin) few at is here h = absurd (none-some _ here)
tally_answered plan ns report (Some logged) t (Some origin) few at is here h =
    let e = error_at (suc (length ns)) report in
    let history = told (deeds_of report.bank report.rec ns) in
    let same : logged ≡ outcome origin history e = same_Some logged (outcome origin history e) here in
    tally_logged plan ns report logged t origin few at is
    (sym (says_it_wrote origin history e) ∙ ap says_wrote (sym same)) h

-- ---- Any note ----

published_at : (plan : Plan) (ns : List News) (bank rec : ℕ) (t : Tally) (o : Option Origin) → length ns ≤ 160000
    → origin_at plan bank rec ≡ o → IsSome o → IsTallyOf plan ns t
    → IsTallyOf plan (Checks bank rec true ∷ ns) (with_published bank rec t)
published_at plan ns bank rec t None few at there h = absurd (true≢false (sym there))
published_at plan ns bank rec t (Some origin) few at there h =
    let low = in_range plan bank rec origin h.is_plan at in
    let known = h.marks bank rec low.bank_low low.rec_low in
    elim (cases_Bool (mark_at bank rec t)) as (λ _.
    IsTallyOf plan (Checks bank rec true ∷ ns) (cond (mark_at bank rec t) (drained (fallen bank rec t)) t)) [
      | inl on ↦
          subst (λ b. IsTallyOf plan (Checks bank rec true ∷ ns) (cond b (drained (fallen bank rec t)) t)) (sym on)
          (tally_published plan ns bank rec t origin at few (sym known ∙ on) h)
      | inr off ↦
          subst (λ b. IsTallyOf plan (Checks bank rec true ∷ ns) (cond b (drained (fallen bank rec t)) t)) (sym off)
          (tally_unmarked plan (Checks bank rec true) ns bank rec to_drained t (checks_none plan ns bank rec true)
          (check_changes plan ns bank rec origin at) (sym known ∙ off) h)
    ]

tally_checked : (plan : Plan) (ns : List News) (bank rec : ℕ) (torn : Bool) (t : Tally) → length ns ≤ 160000
    → (torn ≡ false → IsSome (origin_at plan bank rec)) → IsTallyOf plan ns t
    → IsTallyOf plan (Checks bank rec (not torn) ∷ ns) (cond torn t (with_published bank rec t))
tally_checked plan ns bank rec true t few there h =
    tally_rests plan (Checks bank rec false) ns bank rec t (checks_none plan ns bank rec false)
    (torn_rests plan ns bank rec) h
tally_checked plan ns bank rec false t few there h =
    published_at plan ns bank rec t (origin_at plan bank rec) few refl (there refl) h

cleared_at : (plan : Plan) (ns : List News) (bank rec : ℕ) (t : Tally) (o : Option Origin)
    → origin_at plan bank rec ≡ o
    → option_map_or (λ (p : Origin). in_progress p (told (deeds_of bank rec ns))) o false ≡ true
    → IsTallyOf plan ns t → IsTallyOf plan (Invalidates bank rec ∷ ns) (with_cleared bank rec t)
cleared_at plan ns bank rec t None at clears h = absurd (true≢false (sym clears))
cleared_at plan ns bank rec t (Some origin) at clears h =
    let low = in_range plan bank rec origin h.is_plan at in
    let known = h.marks bank rec low.bank_low low.rec_low in
    elim (cases_Bool (mark_at bank rec t)) as (λ _.
    IsTallyOf plan (Invalidates bank rec ∷ ns) (cond (mark_at bank rec t) (fallen bank rec t) t)) [
      | inl on ↦
          subst (λ b. IsTallyOf plan (Invalidates bank rec ∷ ns) (cond b (fallen bank rec t) t)) (sym on)
          (tally_cleared plan ns bank rec t origin at clears (sym known ∙ on) h)
      | inr off ↦
          subst (λ b. IsTallyOf plan (Invalidates bank rec ∷ ns) (cond b (fallen bank rec t) t)) (sym off)
          (tally_unmarked plan (Invalidates bank rec) ns bank rec to_none t (invalidates_none plan ns bank rec)
          (clear_changes plan ns bank rec origin at clears) (sym known ∙ off) h)
    ]

tally_invalidated : (plan : Plan) (ns : List News) (bank rec : ℕ) (cleared : Bool) (t : Tally)
    → cleared ≡ is_claimed_at plan ns bank rec → IsTallyOf plan ns t
    → IsTallyOf plan (Invalidates bank rec ∷ ns) (cond cleared (with_cleared bank rec t) t)
tally_invalidated plan ns bank rec true t is h =
    cleared_at plan ns bank rec t (origin_at plan bank rec) refl (sym is) h
tally_invalidated plan ns bank rec false t is h =
    tally_rests plan (Invalidates bank rec) ns bank rec t (invalidates_none plan ns bank rec)
    (stood_rests plan ns bank rec (sym is)) h

tally_other : (plan : Plan) (ns : List News) (t : Tally) → IsTallyOf plan ns t → IsTallyOf plan (Other ∷ ns) t
unfolding numbers number_with is_unpublished_at deed_at
tally_other plan ns t h =
    record { is_plan = h.is_plan; counts = h.counts; marks = h.marks; room = h.room }

pub tally_next : (plan : Plan) (ns : List News) (n : StepNote) (t : Tally) → length ns ≤ 160000 → IsTrue plan ns n
    → IsTallyOf plan ns t → IsTallyOf plan (news_of n ∷ ns) (with_note n t)
tally_next plan ns (note.Error report logged) t few is h =
    tally_answered plan ns report logged t (origin_at plan report.bank report.rec) few refl is is h
tally_next plan ns (note.Claim bank rec) t few is h =
    tally_rests plan (Claims bank rec) ns bank rec t (claims_none plan ns bank rec) (claim_rests plan ns bank rec) h
tally_next plan ns (note.Check bank rec torn) t few is h = tally_checked plan ns bank rec torn t few is h
tally_next plan ns (note.Invalidate bank rec cleared) t few is h = tally_invalidated plan ns bank rec cleared t is h
tally_next plan ns n t few is h = tally_other plan ns t h
