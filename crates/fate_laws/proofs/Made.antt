-- The error that was made in a step: one at most, and what a record shows is such an error, one for that record.
use Rattle.std.proofs.Common.{◌≡◌, ℕ, zero, suc, ◌<◌, ◌≤◌, ◌==◌, true, false, cond, List, [], ◌∷◌, length, slice_get, Option, Some, None, refl, inl, inr, sym, ap, ◌∙◌, subst, arith}
use Rattle.std.proofs.lemmas.Bool.{cases_Bool, eq-eqb, eqb-true, ne_eqb}
use Rattle.std.proofs.lemmas.Option.{none-some, same_Some}
use Rattle.reri_fields.specs.declared.report.Report.{Report}
use Rattle.reri_fields.specs.Records.{Error, Origin, shown, since, in_progress}
use Rattle.reri_fields.specs.Records.Event.{Reported, Claimed, Invalidated}
use Rattle.board_plan.specs.Fates.{Deed, News, told, deed_at, deeds_of, with_deed, error_at, errors_made, is_at}
use Rattle.board_plan.specs.Fates.Deed.{Was, Checked}
use Rattle.board_plan.specs.Fates.News.{Errs, Claims, Checks, Invalidates, Other}
use Rattle.board_fates.proofs.Places.{deeds_ordered}
use Rattle.board_fates.proofs.Shown.{comes, none_shown, same_shown}
use Rattle.board_fates.proofs.Shown.Comes.{writes, leaves}

-- ---- The error of a step ----

abbrev pub error_of : ℕ → List News → Option Error
error_of n [] = None
error_of n (Errs report ∷ older) =
    cond (suc (length older) == n) (Some (error_at (suc (length older)) report)) (error_of n older)
error_of n (news ∷ older) = error_of n older

pub newer_apart : (k n : ℕ) → n ≤ k → (suc k == n) ≡ false
newer_apart k n le = ne_eqb (suc k) n (λ same. omega (arith, same, le))

-- an error that came at this step, and not after the news
pub record CameAt (n : ℕ) (ns : List News) (e : Error) : Type 0 where
  pub step : e.step ≡ n
  pub low : n ≤ length ns

later : (n : ℕ) (news : News) (ns : List News) (e : Error) → CameAt n ns e → CameAt n (news ∷ ns) e
later n news ns e h =
    let low : n ≤ length ns = h.low in
    record { step = h.step; low = omega (arith, low) }

pub came_then : (n : ℕ) (ns : List News) (e : Error) → error_of n ns ≡ Some e → CameAt n ns e
came_then n [] e is = absurd (none-some e is)
came_then n (Errs report ∷ ns) e is =
    let new = error_at (suc (length ns)) report in
    elim (cases_Bool (suc (length ns) == n)) as (λ _. CameAt n (Errs report ∷ ns) e) [
      | inl here ↦
          let at : suc (length ns) ≡ n = eqb-true (suc (length ns)) n here in
          let same : new ≡ e = same_Some new e (sym (ap (λ b. cond b (Some new) (error_of n ns)) here) ∙ is) in
          record { step = sym (ap (λ (x : Error). x.step) same) ∙ at; low = omega (arith, at) }
      | inr other ↦
          later n (Errs report) ns e
          (came_then n ns e (sym (ap (λ b. cond b (Some new) (error_of n ns)) other) ∙ is))
    ]
came_then n (Claims b r ∷ ns) e is = later n (Claims b r) ns e (came_then n ns e is)
came_then n (Checks b r published ∷ ns) e is = later n (Checks b r published) ns e (came_then n ns e is)
came_then n (Invalidates b r ∷ ns) e is = later n (Invalidates b r) ns e (came_then n ns e is)
came_then n (Other ∷ ns) e is = later n Other ns e (came_then n ns e is)

-- none came after the news
pub none_later : (n : ℕ) (ns : List News) → length ns < n → error_of n ns ≡ None
none_later n ns high = go (error_of n ns) refl
  where
    go : (o : Option Error) → error_of n ns ≡ o → o ≡ None
    go None is = refl
    go (Some e) is =
        let low : n ≤ length ns = (came_then n ns e is).low in
        absurd (omega (arith, low, high))

-- an older one is still that of its step
pub older_error : (n : ℕ) (news : News) (ns : List News) (e : Error) → error_of n ns ≡ Some e
    → error_of n (news ∷ ns) ≡ Some e
older_error n (Errs report) ns e is =
    ap (λ b. cond b (Some (error_at (suc (length ns)) report)) (error_of n ns))
    (newer_apart (length ns) n (came_then n ns e is).low) ∙ is
older_error n (Claims b r) ns e is = is
older_error n (Checks b r published) ns e is = is
older_error n (Invalidates b r) ns e is = is
older_error n Other ns e is = is

newest_error : (report : Report) (ns : List News)
    → error_of (suc (length ns)) (Errs report ∷ ns) ≡ Some (error_at (suc (length ns)) report)
newest_error report ns =
    ap (λ b. cond b (Some (error_at (suc (length ns)) report)) (error_of (suc (length ns)) ns))
    (eq-eqb (suc (length ns)) (suc (length ns)) refl)

-- each error that was made is that of its step
pub each_is_of_its_step : (ns : List News) (i : ℕ) (e : Error) → slice_get (errors_made ns) i ≡ Some e
    → error_of e.step ns ≡ Some e
each_is_of_its_step [] i e is = absurd (none-some e is)
each_is_of_its_step (Errs report ∷ ns) zero e is =
    subst (λ (x : Error). error_of x.step (Errs report ∷ ns) ≡ Some x) (same_Some _ e is) (newest_error report ns)
each_is_of_its_step (Errs report ∷ ns) (suc i) e is =
    older_error e.step (Errs report) ns e (each_is_of_its_step ns i e is)
each_is_of_its_step (Claims b r ∷ ns) i e is = each_is_of_its_step ns i e is
each_is_of_its_step (Checks b r published ∷ ns) i e is = each_is_of_its_step ns i e is
each_is_of_its_step (Invalidates b r ∷ ns) i e is = each_is_of_its_step ns i e is
each_is_of_its_step (Other ∷ ns) i e is = each_is_of_its_step ns i e is

-- ---- What a record shows ----

-- the error was made, and reported to this record
pub record WasMadeFor (bank rec : ℕ) (ns : List News) (x : Error) : Type 0 where
  pub of_its_step : error_of x.step ns ≡ Some x
  pub for_it : is_at bank rec x.report.bank x.report.rec ≡ true

older_made : (bank rec : ℕ) (news : News) (ns : List News) (x : Error) → WasMadeFor bank rec ns x
    → WasMadeFor bank rec (news ∷ ns) x
older_made bank rec news ns x h =
    record { of_its_step = older_error x.step news ns x h.of_its_step; for_it = h.for_it }

-- whatever it shows is such an error
abbrev ShowsMade : ℕ → ℕ → Origin → List Deed → List News → Type 0
ShowsMade bank rec origin deeds ns =
    (x : Error) → shown (since origin (told deeds)) ≡ Some x → WasMadeFor bank rec ns x

error_shows_made : (bank rec : ℕ) (origin : Origin) (report : Report) (ns : List News)
    → is_at bank rec report.bank report.rec ≡ true → ShowsMade bank rec origin (deeds_of bank rec ns) ns
    → ShowsMade bank rec origin (Was (Reported (error_at (suc (length ns)) report)) ∷ deeds_of bank rec ns)
    (Errs report ∷ ns)
error_shows_made bank rec origin report ns here h x is =
    let e = error_at (suc (length ns)) report in
    let deeds = deeds_of bank rec ns in
    elim (comes origin (told deeds) e (deeds_ordered bank rec ns).before) as (λ _.
    WasMadeFor bank rec (Errs report ∷ ns) x) [
      | writes _ at ↦
          subst (WasMadeFor bank rec (Errs report ∷ ns)) (same_Some e x (sym at ∙ is))
          (record { of_its_step = newest_error report ns; for_it = here })
      | leaves _ at ↦ older_made bank rec (Errs report) ns x (h x (sym at ∙ is))
    ]

invalidated_shows_made : (bank rec : ℕ) (origin : Origin) (deeds : List Deed) (ns : List News)
    → ShowsMade bank rec origin deeds ns → ShowsMade bank rec origin (Was Invalidated ∷ deeds) ns
invalidated_shows_made bank rec origin deeds ns h x is =
    elim (cases_Bool (in_progress origin (told deeds))) as (λ _. WasMadeFor bank rec ns x) [
      | inl on ↦ absurd (none-some x (sym (none_shown origin (told deeds) on) ∙ is))
      | inr off ↦ h x (sym (same_shown origin (told deeds) off) ∙ is)
    ]

claimed_shows_made : (bank rec : ℕ) (origin : Origin) (deeds : List Deed) (ns : List News)
    → ShowsMade bank rec origin deeds ns → ShowsMade bank rec origin (Was Claimed ∷ deeds) ns
unfolding since
claimed_shows_made bank rec origin deeds ns h = h

older_shows_made : (bank rec : ℕ) (origin : Origin) (deeds : List Deed) (news : News) (ns : List News)
    → ShowsMade bank rec origin deeds ns → ShowsMade bank rec origin deeds (news ∷ ns)
older_shows_made bank rec origin deeds news ns h x is = older_made bank rec news ns x (h x is)

next_shows_made : (bank rec : ℕ) (origin : Origin) (news : News) (ns : List News)
    → ShowsMade bank rec origin (deeds_of bank rec ns) ns
    → ShowsMade bank rec origin (deeds_of bank rec (news ∷ ns)) (news ∷ ns)
unfolding deed_at
next_shows_made bank rec origin (Errs report) ns h =
    let e = error_at (suc (length ns)) report in
    let deeds = deeds_of bank rec ns in
    elim (cases_Bool (is_at bank rec report.bank report.rec)) as (λ _.
    ShowsMade bank rec origin (deeds_of bank rec (Errs report ∷ ns)) (Errs report ∷ ns)) [
      | inl here ↦
          subst (λ ds. ShowsMade bank rec origin ds (Errs report ∷ ns))
          (sym (ap (λ b. with_deed (cond b (Some (Was (Reported e))) None) deeds) here))
          (error_shows_made bank rec origin report ns here h)
      | inr elsewhere ↦
          subst (λ ds. ShowsMade bank rec origin ds (Errs report ∷ ns))
          (sym (ap (λ b. with_deed (cond b (Some (Was (Reported e))) None) deeds) elsewhere))
          (older_shows_made bank rec origin deeds (Errs report) ns h)
    ]
next_shows_made bank rec origin (Claims b r) ns h =
    let deeds = deeds_of bank rec ns in
    let news = Claims b r in
    elim (is_at bank rec b r) as (λ c.
    ShowsMade bank rec origin (with_deed (cond c (Some (Was Claimed)) None) deeds) (news ∷ ns)) [
      | true ↦
          older_shows_made bank rec origin (Was Claimed ∷ deeds) news ns (claimed_shows_made bank rec origin deeds ns h)
      | false ↦ older_shows_made bank rec origin deeds news ns h
    ]
next_shows_made bank rec origin (Checks b r published) ns h =
    let deeds = deeds_of bank rec ns in
    let news = Checks b r published in
    elim (is_at bank rec b r) as (λ c.
    ShowsMade bank rec origin (with_deed (cond c (Some (Checked published)) None) deeds) (news ∷ ns)) [
      | true ↦ older_shows_made bank rec origin deeds news ns h
      | false ↦ older_shows_made bank rec origin deeds news ns h
    ]
next_shows_made bank rec origin (Invalidates b r) ns h =
    let deeds = deeds_of bank rec ns in
    let news = Invalidates b r in
    elim (is_at bank rec b r) as (λ c.
    ShowsMade bank rec origin (with_deed (cond c (Some (Was Invalidated)) None) deeds) (news ∷ ns)) [
      | true ↦
          older_shows_made bank rec origin (Was Invalidated ∷ deeds) news ns
          (invalidated_shows_made bank rec origin deeds ns h)
      | false ↦ older_shows_made bank rec origin deeds news ns h
    ]
next_shows_made bank rec origin Other ns h = older_shows_made bank rec origin (deeds_of bank rec ns) Other ns h

-- what a record shows was made, and reported to it
pub shown_was_made : (bank rec : ℕ) (origin : Origin) (ns : List News)
    → ShowsMade bank rec origin (deeds_of bank rec ns) ns
unfolding since shown
shown_was_made bank rec origin [] x is = absurd (none-some x is)
shown_was_made bank rec origin (news ∷ ns) x is =
    next_shows_made bank rec origin news ns (shown_was_made bank rec origin ns) x is
