-- How many errors have each fate, and which records are to be marked, after each kind of news.
use Rattle.std.proofs.Common.{◌≡◌, ℕ, suc, ◌+◌, ◌≤◌, ◌==◌, Bool, true, false, cond, List, ◌∷◌, length, Option, Some, None, refl, sym, ap, ◌∙◌, subst, arith}
use Rattle.std.specs.Option.{option_map, option_map_or}
use Rattle.std.proofs.lemmas.Bool.{true≢false}
use Rattle.std.proofs.lemmas.Bool.Decides.{nat_tests}
use Rattle.std.proofs.lemmas.Option.{none-some, same_Some}
use Rattle.reri_fields.specs.declared.report.Report.{Report}
use Rattle.reri_fields.specs.declared.report.Logged.{Logged}
use Rattle.reri_fields.specs.Records.{Origin, in_progress}
use Rattle.reri_fields.specs.Records.Event.{Reported, Claimed, Invalidated}
use Rattle.reri_fields.specs.Outcome.{outcome, wrote}
use Rattle.board_plan.specs.declared.plan.Plan.{Plan}
use Rattle.board_plan.specs.Fates.{Deed, Fate, News, told, has_fate_of, is_stray, has_fate, deed_at, deeds_of, with_deed, error_at, errors_made, is_at, origin_at, number_with}
use Rattle.board_plan.specs.Fates.Deed.{Was, Checked}
use Rattle.board_plan.specs.Fates.News.{Errs, Claims, Checks, Invalidates}
use Rattle.board_fates.specs.Tallied.{shows_unpublished, is_unpublished_at, answer_to, is_claimed_at}
use Rattle.board_fates.proofs.Shown.{Comes, comes}
use Rattle.board_fates.proofs.Shown.Comes.{leaves}
use Rattle.board_fates.proofs.Places.{deeds_ordered, bit, count_next}
use Rattle.board_fates.proofs.Moves.{Moves, to_none, to_stands, to_overwritten, to_drained, says, stays_moves, error_stays, error_moves, new_fates, check_moves, torn_stays, claim_stays, stood_stays, clear_moves, mark_written, mark_left, mark_claimed, mark_torn, mark_published, mark_cleared, mark_stood}
use Rattle.board_fates.proofs.Numbers.{IsDeedOf, MovesNumbers, older_with, at_itself, numbers_move, mark_elsewhere, mark_here}

-- ---- What the news change ----

-- the numbers move so, and this record then is to be marked so, no other's mark is touched
pub record Changes (plan : Plan) (from into : Fate → Bool) (n : News) (ns : List News) (bank rec : ℕ)
    (mark : Bool) : Type 0 where
  pub numbers : MovesNumbers plan from into n ns bank rec
  pub here : is_unpublished_at plan (n ∷ ns) bank rec ≡ mark
  pub elsewhere : (b r : ℕ) → is_at b r bank rec ≡ false
      → is_unpublished_at plan (n ∷ ns) b r ≡ is_unpublished_at plan ns b r

-- where nothing moves
abbrev pub Rests : Plan → News → List News → ℕ → ℕ → Type 0
Rests plan n ns bank rec = Changes plan to_none to_none n ns bank rec (is_unpublished_at plan ns bank rec)

mark_at_origin : (plan : Plan) (ns : List News) (deeds : List Deed) (bank rec : ℕ) (o : Option Origin) (mark : Bool)
    → origin_at plan bank rec ≡ o
    → option_map_or (λ origin. shows_unpublished origin deeds) o false ≡ mark
    → option_map_or (λ origin. shows_unpublished origin deeds) (origin_at plan bank rec) false ≡ mark
mark_at_origin plan ns deeds bank rec o mark is h =
    ap (λ q. option_map_or (λ origin. shows_unpublished origin deeds) q false) is ∙ h

-- a record that is there
pub at_record : (plan : Plan) (from into : Fate → Bool) (deed : Deed) (n : News) (ns : List News) (bank rec : ℕ)
    (origin : Origin) (mark : Bool) → IsDeedOf bank rec deed (suc (length ns)) n → origin_at plan bank rec ≡ Some origin
    → ((k : ℕ) → k ≤ length ns → Moves from into origin deed (deeds_of bank rec ns) k)
    → shows_unpublished origin (deed ∷ deeds_of bank rec ns) ≡ mark
    → Changes plan from into n ns bank rec mark
at_record plan from into deed n ns bank rec origin mark is there moves marks =
    record {
      numbers = numbers_move plan from into deed n ns bank rec is
          (λ o k le known. subst (λ (p : Origin). Moves from into p deed (deeds_of bank rec ns) k)
          (same_Some origin o (sym there ∙ known)) (moves k le));
      here = mark_here plan deed n ns bank rec is
          ∙ ap (λ q. option_map_or (λ (p : Origin). shows_unpublished p (deed ∷ deeds_of bank rec ns)) q false) there
          ∙ marks;
      elsewhere = λ b r apart. mark_elsewhere plan deed n ns bank rec b r is apart;
    }

known_mark : (plan : Plan) (ns : List News) (bank rec : ℕ) (o : Option Origin) → origin_at plan bank rec ≡ o
    → is_unpublished_at plan ns bank rec
    ≡ option_map_or (λ (p : Origin). shows_unpublished p (deeds_of bank rec ns)) o false
unfolding is_unpublished_at
known_mark plan ns bank rec o is =
    ap (λ q. option_map_or (λ (p : Origin). shows_unpublished p (deeds_of bank rec ns)) q false) is

-- one that isn't
pub at_no_record : (plan : Plan) (from into : Fate → Bool) (deed : Deed) (n : News) (ns : List News) (bank rec : ℕ)
    → IsDeedOf bank rec deed (suc (length ns)) n → origin_at plan bank rec ≡ None
    → Changes plan from into n ns bank rec false
at_no_record plan from into deed n ns bank rec is nowhere =
    record {
      numbers = numbers_move plan from into deed n ns bank rec is
          (λ o k le known. absurd (none-some o (sym nowhere ∙ known)));
      here = mark_here plan deed n ns bank rec is
          ∙ ap (λ q. option_map_or (λ (p : Origin). shows_unpublished p (deed ∷ deeds_of bank rec ns)) q false) nowhere;
      elsewhere = λ b r apart. mark_elsewhere plan deed n ns bank rec b r is apart;
    }

-- a deed that moves nothing in a record that is there rests anywhere
rests : (plan : Plan) (deed : Deed) (n : News) (ns : List News) (bank rec : ℕ) (o : Option Origin)
    → IsDeedOf bank rec deed (suc (length ns)) n → origin_at plan bank rec ≡ o
    → ((origin : Origin) → o ≡ Some origin
    → (k : ℕ) → k ≤ length ns → Moves to_none to_none origin deed (deeds_of bank rec ns) k)
    → ((origin : Origin) → o ≡ Some origin
    → shows_unpublished origin (deed ∷ deeds_of bank rec ns) ≡ shows_unpublished origin (deeds_of bank rec ns))
    → Rests plan n ns bank rec
rests plan deed n ns bank rec None is at moves marks =
    subst (Changes plan to_none to_none n ns bank rec) (sym (known_mark plan ns bank rec None at))
    (at_no_record plan to_none to_none deed n ns bank rec is at)
rests plan deed n ns bank rec (Some origin) is at moves marks =
    at_record plan to_none to_none deed n ns bank rec origin (is_unpublished_at plan ns bank rec) is at
    (moves origin refl) (marks origin refl ∙ sym (known_mark plan ns bank rec (Some origin) at))

-- ---- Claims, Checks, invalidations ----

claim_is : (bank rec step : ℕ) → IsDeedOf bank rec (Was Claimed) step (Claims bank rec)
unfolding deed_at
claim_is bank rec step b r = refl

pub claim_rests : (plan : Plan) (ns : List News) (bank rec : ℕ) → Rests plan (Claims bank rec) ns bank rec
claim_rests plan ns bank rec =
    let deeds = deeds_of bank rec ns in
    rests plan (Was Claimed) (Claims bank rec) ns bank rec (origin_at plan bank rec)
    (claim_is bank rec (suc (length ns))) refl
    (λ origin _ k _. stays_moves origin (Was Claimed) deeds k (claim_stays origin deeds k))
    (λ origin _. mark_claimed origin deeds)

check_is : (bank rec step : ℕ) (published : Bool)
    → IsDeedOf bank rec (Checked published) step (Checks bank rec published)
unfolding deed_at
check_is bank rec step published b r = refl

pub torn_rests : (plan : Plan) (ns : List News) (bank rec : ℕ) → Rests plan (Checks bank rec false) ns bank rec
torn_rests plan ns bank rec =
    let deeds = deeds_of bank rec ns in
    rests plan (Checked false) (Checks bank rec false) ns bank rec (origin_at plan bank rec)
    (check_is bank rec (suc (length ns)) false) refl
    (λ origin _ k _. stays_moves origin (Checked false) deeds k (torn_stays origin deeds k))
    (λ origin _. mark_torn origin deeds)

pub check_changes : (plan : Plan) (ns : List News) (bank rec : ℕ) (origin : Origin)
    → origin_at plan bank rec ≡ Some origin
    → Changes plan to_stands to_drained (Checks bank rec true) ns bank rec false
check_changes plan ns bank rec origin there =
    let deeds = deeds_of bank rec ns in
    at_record plan to_stands to_drained (Checked true) (Checks bank rec true) ns bank rec origin false
    (check_is bank rec (suc (length ns)) true) there (λ k _. check_moves origin deeds k) (mark_published origin deeds)

invalidate_is : (bank rec step : ℕ) → IsDeedOf bank rec (Was Invalidated) step (Invalidates bank rec)
unfolding deed_at
invalidate_is bank rec step b r = refl

pub stood_rests : (plan : Plan) (ns : List News) (bank rec : ℕ) → is_claimed_at plan ns bank rec ≡ false
    → Rests plan (Invalidates bank rec) ns bank rec
stood_rests plan ns bank rec off =
    let deeds = deeds_of bank rec ns in
    rests plan (Was Invalidated) (Invalidates bank rec) ns bank rec (origin_at plan bank rec)
    (invalidate_is bank rec (suc (length ns))) refl
    (λ origin there k _. stays_moves origin (Was Invalidated) deeds k (stood_stays origin deeds k (here origin there)))
    (λ origin there. mark_stood origin deeds (here origin there))
  where
    here : (origin : Origin) → origin_at plan bank rec ≡ Some origin
        → in_progress origin (told (deeds_of bank rec ns)) ≡ false
    here origin there =
        sym (ap (λ q. option_map_or (λ (p : Origin). in_progress p (told (deeds_of bank rec ns))) q false) there) ∙ off

pub clear_changes : (plan : Plan) (ns : List News) (bank rec : ℕ) (origin : Origin)
    → origin_at plan bank rec ≡ Some origin → in_progress origin (told (deeds_of bank rec ns)) ≡ true
    → Changes plan to_stands to_none (Invalidates bank rec) ns bank rec false
clear_changes plan ns bank rec origin there on =
    let deeds = deeds_of bank rec ns in
    at_record plan to_stands to_none (Was Invalidated) (Invalidates bank rec) ns bank rec origin false
    (invalidate_is bank rec (suc (length ns))) there (λ k _. clear_moves origin deeds k on)
    (mark_cleared origin deeds on)

-- ---- Errors ----

error_is : (report : Report) (step : ℕ)
    → IsDeedOf report.bank report.rec (Was (Reported (error_at step report))) step (Errs report)
unfolding deed_at
error_is report step b r = refl

differ : (k n : ℕ) → k ≤ n → (suc n == k) ≡ false
differ k n le = grind (arith, nat_tests)

-- one for a record that the plan hasn't
pub stray_rests : (plan : Plan) (ns : List News) (report : Report) → origin_at plan report.bank report.rec ≡ None
    → Changes plan to_none to_none (Errs report) ns report.bank report.rec false
stray_rests plan ns report nowhere =
    at_no_record plan to_none to_none (Was (Reported (error_at (suc (length ns)) report))) (Errs report) ns report.bank
    report.rec (error_is report (suc (length ns))) nowhere

-- one that leaves what its record shows
pub error_rests : (plan : Plan) (ns : List News) (report : Report) (origin : Origin)
    → origin_at plan report.bank report.rec ≡ Some origin
    → wrote origin (told (deeds_of report.bank report.rec ns)) (error_at (suc (length ns)) report) ≡ false
    → Rests plan (Errs report) ns report.bank report.rec
error_rests plan ns report origin there off =
    let deeds = deeds_of report.bank report.rec ns in
    let e = error_at (suc (length ns)) report in
    let h = deeds_ordered report.bank report.rec ns in
    elim (comes origin (told deeds) e h.before) as (λ _. Rests plan (Errs report) ns report.bank report.rec) [
      | Comes.writes it at ↦ absurd (true≢false (sym it ∙ off))
      | leaves _ at ↦
          at_record plan to_none to_none (Was (Reported e)) (Errs report) ns report.bank report.rec origin
          (is_unpublished_at plan ns report.bank report.rec) (error_is report (suc (length ns))) there
          (λ k le. stays_moves origin (Was (Reported e)) deeds k
          (error_stays origin deeds e k (differ k (length ns) le) off at))
          (mark_left origin deeds e at ∙ sym (known_mark plan ns report.bank report.rec (Some origin) there))
    ]

-- one that writes its record
pub error_changes : (plan : Plan) (ns : List News) (report : Report) (origin : Origin)
    → origin_at plan report.bank report.rec ≡ Some origin
    → wrote origin (told (deeds_of report.bank report.rec ns)) (error_at (suc (length ns)) report) ≡ true
    → Changes plan to_stands to_overwritten (Errs report) ns report.bank report.rec true
error_changes plan ns report origin there on =
    let deeds = deeds_of report.bank report.rec ns in
    let e = error_at (suc (length ns)) report in
    let h = deeds_ordered report.bank report.rec ns in
    elim (comes origin (told deeds) e h.before) as (λ _.
    Changes plan to_stands to_overwritten (Errs report) ns report.bank report.rec true) [
      | leaves off at ↦ absurd (true≢false (sym on ∙ off))
      | Comes.writes it at ↦
          at_record plan to_stands to_overwritten (Was (Reported e)) (Errs report) ns report.bank report.rec origin true
          (error_is report (suc (length ns))) there
          (λ k le. error_moves origin deeds e k h.order (differ k (length ns) le) it at)
          (mark_written origin deeds e h.before at)
    ]

-- the fates that the new error has at once, by its answer
abbrev pub says_of : Fate → Option Logged → Bool
says_of f None = is_stray f
says_of f (Some logged) = says f logged

new_is : (plan : Plan) (ns : List News) (report : Report) (f : Fate) (o : Option Origin)
    → (let e = error_at (suc (length ns)) report in
    let deeds = deeds_of report.bank report.rec ns in
    has_fate_of f (Was (Reported e) ∷ deeds) e.step o
    ≡ says_of f (option_map (λ origin. outcome origin (told deeds) e) o))
new_is plan ns report f None = refl
new_is plan ns report f (Some origin) =
    new_fates origin (deeds_of report.bank report.rec ns) (error_at (suc (length ns)) report) f
    (deeds_ordered report.bank report.rec ns).before

pub new_fate : (plan : Plan) (ns : List News) (report : Report) (f : Fate)
    → (let e = error_at (suc (length ns)) report in
    has_fate plan (Errs report ∷ ns) f e ≡ says_of f (answer_to plan ns e))
new_fate plan ns report f =
    let e = error_at (suc (length ns)) report in
    let deeds = deeds_of report.bank report.rec ns in
    let o = origin_at plan report.bank report.rec in
    ap (λ d. has_fate_of f (with_deed d deeds) e.step o)
    (error_is report (suc (length ns)) report.bank report.rec
    ∙ ap (λ b. cond b (Some (Was (Reported e))) None) (at_itself report.bank report.rec))
    ∙ new_is plan ns report f o

pub number_next : (plan : Plan) (ns : List News) (report : Report) (f : Fate)
    → number_with plan (Errs report ∷ ns) f
    ≡ bit (says_of f (answer_to plan ns (error_at (suc (length ns)) report))) + older_with plan (Errs report) ns f
unfolding number_with
number_next plan ns report f =
    count_next (has_fate plan (Errs report ∷ ns) f) (error_at (suc (length ns)) report) (errors_made ns)
    ∙ ap (λ b. bit b + older_with plan (Errs report) ns f) (new_fate plan ns report f)
