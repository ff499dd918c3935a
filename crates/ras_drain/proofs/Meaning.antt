-- What a torn Check and a record that isn't cleared say of the errors that came since.
use Rattle.std.proofs.Common.{◌≡◌, ◌<◌, Bool, true, false, not, ◌&&◌, List, ◌∷◌, ◌++◌, refl, inl, inr, sym, ap, ◌∙◌, subst}
use Rattle.std.proofs.lemmas.Bool.{cases_Bool, true≢false}
use Rattle.reri_fields.specs.declared.drain.DrainNote.{DrainNote}
use Rattle.reri_fields.specs.declared.drain.DrainNote.TheVariants.{Scanned, Over, Claimed, Read, Torn, Published, Invalidated, Signal}
use Rattle.reri_fields.specs.Records.{Event, Origin, is_any, shown_rank, since, in_progress}
use Rattle.reri_fields.specs.Records.Event.{Claimed as WasClaimed}
use Rattle.reri_fields.specs.Outcome.{any_wrote}
use Rattle.reri_fields.specs.Banks.{BankView, events_of}
use Rattle.reri_fields.specs.Drain.{BankPlan, BankState, Draining, phase_step, checked, checked_if, is_cleared}
use Rattle.reri_log.proofs.Claims.{claim_lasts, rank_rises}
use Rattle.ras_drain.specs.Steps.{CameSince, TornMeans, TornAfterClaim, StoodAfterCheck}

is_torn : DrainNote → Bool
is_torn (Scanned rec) = false
is_torn Over = false
is_torn Claimed = false
is_torn (Read register) = false
is_torn Torn = true
is_torn (Published copy) = false
is_torn (Invalidated cleared) = false
is_torn (Signal level) = false

cleared_in : DrainNote → Bool
cleared_in (Scanned rec) = false
cleared_in Over = false
cleared_in Claimed = false
cleared_in (Read register) = false
cleared_in Torn = false
cleared_in (Published copy) = false
cleared_in (Invalidated cleared) = cleared
cleared_in (Signal level) = false

claim_counts : (origin : Origin) (before : List Event) → in_progress origin (WasClaimed ∷ before)
    ≡ is_any (since origin before)
unfolding in_progress since
claim_counts origin before = refl

claim_adds_none : (origin : Origin) (before : List Event) → since origin (WasClaimed ∷ before) ≡ since origin before
unfolding since
claim_adds_none origin before = refl

-- the claim still counts exactly where no error wrote the record since
lasts : (origin : Origin) (later before now : List Event) → CameSince later before now → in_progress origin before
    ≡ true → in_progress origin now ≡ not (any_wrote origin later before)
lasts origin later before now came on =
    ap (in_progress origin) came.are ∙ claim_lasts origin later before came.only
    ∙ ap (λ b. b && not (any_wrote origin later before)) on

is_torn_yes : is_torn Torn ≡ true
unfolding is_torn
is_torn_yes = refl

torn_if : (s : BankState) (d : Draining) (origin : Origin) (b : Bool) → is_torn (checked_if s d origin b).note ≡ not b
unfolding is_torn
torn_if s d origin true = refl
torn_if s d origin false = refl

torn_is : (s : BankState) (d : Draining) (origin : Origin) (b : Bool) → b ≡ false → (checked_if s d origin b).note
    ≡ Torn
torn_is s d origin b h = ap (λ c. (checked_if s d origin c).note) h

pub torn_means : (plan : BankPlan) (s : BankState) (d : Draining) (bank : BankView) (note : DrainNote)
    → note ≡ (phase_step plan s d d.phase).note → TornAfterClaim plan.origins bank s.history d note
torn_means plan s d bank note told =
    λ origin later before here known stands came any.
    let wrote = any_wrote origin later (WasClaimed ∷ before) in
    let claim = in_progress origin (events_of d.rec s.history) in
    let is : note ≡ (checked_if s d origin claim).note = told ∙ ap (λ p. (phase_step plan s d p).note) here
    ∙ ap (λ o. (checked s d o).note) known in
    let lasting : claim ≡ not wrote = lasts origin later (WasClaimed ∷ before) (events_of d.rec s.history) came
    (claim_counts origin before ∙ any) in
    let any_then : is_any (since origin (WasClaimed ∷ before)) ≡ true = ap is_any (claim_adds_none origin before)
    ∙ any in
    elim (cases_Bool wrote) as (λ _. TornMeans origin later before note) [
      | inl some ↦
          let torn : note ≡ Torn = is ∙ torn_is s d origin claim (lasting ∙ ap not some) in
          let risen = rank_rises origin later (WasClaimed ∷ before) came.only came.in_order any_then some in
          record {
            wrote = (λ _. some, λ _. torn);
            rises = λ _. subst
                (λ errors. shown_rank errors < shown_rank (since origin (later ++ WasClaimed ∷ before)))
                (claim_adds_none origin before) risen;
          }
      | inr none ↦
          let whole : is_torn note ≡ false = ap is_torn is ∙ torn_if s d origin claim
          ∙ ap not (lasting ∙ ap not none) in
          record {
            wrote = (
              λ torn. absurd (true≢false (sym is_torn_yes ∙ sym (ap is_torn torn) ∙ whole)),
              λ some. absurd
                  (true≢false (sym some ∙ none)),
            );
            rises = λ torn. absurd (true≢false (sym is_torn_yes ∙ sym (ap is_torn torn) ∙ whole));
          }
    ]

cleared_in_is : (b : Bool) → cleared_in (Invalidated b) ≡ b
unfolding cleared_in
cleared_in_is b = refl

not_off : (b : Bool) → not b ≡ false → b ≡ true
not_off true h = refl
not_off false h = absurd (true≢false h)

pub stood_means : (plan : BankPlan) (s : BankState) (d : Draining) (bank : BankView) (note : DrainNote)
    → note ≡ (phase_step plan s d d.phase).note → StoodAfterCheck plan.origins bank s.history d note
stood_means plan s d bank note told =
    λ origin later before here known stands came on.
    let wrote = any_wrote origin later before in
    let claim = in_progress origin (events_of d.rec s.history) in
    let is : note ≡ Invalidated claim = told ∙ ap (λ p. (phase_step plan s d p).note) here
    ∙ ap (λ o. Invalidated (is_cleared o d.rec s.history)) known in
    let lasting : claim ≡ not wrote = lasts origin later before (events_of d.rec s.history) came on in (
      λ stood. not_off wrote (sym lasting ∙ sym (cleared_in_is claim) ∙ sym (ap cleared_in is) ∙ ap cleared_in stood
          ∙ cleared_in_is false),
      λ some. is ∙ ap (λ b. Invalidated b) (lasting ∙ ap not some),
    )
