-- Claims and invalidations keep the history of a record.
use Rattle.std.proofs.Common.{◌≡◌, ◌%◌, true, false, cond, ◌||◌, nat_lt, List, [], ◌∷◌, refl, inl, inr, sym, ap, ◌∙◌, subst}
use Rattle.std.proofs.lemmas.Bool.{cases_Bool, MatchBool-at_true, MatchBool-at_false}
use Rattle.reri_fields.specs.declared.report.RecordCopy.{RecordCopy}
use Rattle.reri_fields.specs.Fields.{StatusFields, status_fields, control_spare}
use Rattle.reri_fields.specs.Records.{IsRecord, Event, Origin, Shows, Stands, is_any, shown, is_multiple, has_severity, counted, since, in_progress, number_in}
use Rattle.reri_fields.specs.Records.Event.{Claimed, Invalidated}
use Rattle.reri_log.proofs.Logging.{shows_moved}
use Rattle.reri_log.proofs.Histories.{not_claimed}
use Rattle.reri_bank.specs.Registers.{claimed, IsClaimed, IsCleared, IsInvalidated}

claimed_is : (fields : StatusFields)
    → claimed fields ≡ record fields { in_progress = fields.valid || fields.in_progress }
unfolding claimed
claimed_is fields =
    elim fields.valid as (λ b. cond b (record fields { in_progress = true }) fields
    ≡ record fields { in_progress = b || fields.in_progress }) [ true ↦ refl | false ↦ refl ]

-- ---- Histories with a claim or an invalidation more ----

since_claimed : (origin : Origin) (history : List Event) → since origin (Claimed ∷ history) ≡ since origin history
unfolding since
since_claimed origin history = refl

in_progress_claimed : (origin : Origin) (history : List Event) → in_progress origin (Claimed ∷ history)
    ≡ is_any (since origin history)
unfolding in_progress since
in_progress_claimed origin history = refl

counted_claimed : (origin : Origin) (history : List Event) → counted origin (Claimed ∷ history) ≡ counted origin history
unfolding counted
counted_claimed origin history = refl

counted_invalidated : (origin : Origin) (history : List Event) → counted origin (Invalidated ∷ history)
    ≡ counted origin history
unfolding counted
counted_invalidated origin history = refl

in_progress_invalidated : (origin : Origin) (history : List Event) → in_progress origin (Invalidated ∷ history) ≡ false
unfolding in_progress since
in_progress_invalidated origin history = refl

since_cleared : (origin : Origin) (history : List Event) → in_progress origin history ≡ true
    → since origin (Invalidated ∷ history) ≡ []
unfolding since
since_cleared origin history h = rw h refl

since_stood : (origin : Origin) (history : List Event) → in_progress origin history ≡ false
    → since origin (Invalidated ∷ history) ≡ since origin history
unfolding since
since_stood origin history h = rw h refl

-- the claim of a record that holds an error sets read-in-progress, and any other leaves it off
claim_sets : (origin : Origin) (history : List Event) → (is_any (since origin history) || in_progress origin history)
    ≡ is_any (since origin history)
claim_sets origin history =
    elim (cases_Bool (is_any (since origin history))) as (λ _. (is_any (since origin history)
    || in_progress origin history) ≡ is_any (since origin history)) [
      | inl any ↦ rw any refl
      | inr none ↦ rw (none, not_claimed origin history none) refl
    ]

-- ---- The registers ----

pub claim_stands : (origin : Origin) (history : List Event) (old new : RecordCopy) → IsClaimed old new
    → Stands origin history old → Stands origin (Claimed ∷ history) new
claim_stands origin history old new k s =
    let fields = status_fields old.status in
    let same = k.status ∙ claimed_is fields in
    record {
      control = ap (λ r. r.control) k.rest ∙ s.control;
      shows = shows_moved (since origin history) (since origin (Claimed ∷ history)) old new
          (fields.valid || fields.in_progress) fields.count fields.overflow (since_claimed origin history) s.shows
          same (ap (λ r. r.address) k.rest) (ap (λ r. r.info) k.rest) (ap (λ r. r.supplement) k.rest)
          (ap (λ r. r.time) k.rest);
      in_progress = ap (λ f. f.in_progress) same ∙ ap (λ b. b || fields.in_progress) s.shows.valid
          ∙ ap (λ b. is_any (since origin history) || b) s.in_progress ∙ claim_sets origin history
          ∙ sym (in_progress_claimed origin history);
      count = ap (λ f. f.count) same ∙ s.count ∙ ap (λ n. n % 65536) (sym (counted_claimed origin history));
      overflow = ap (λ f. f.overflow) same ∙ s.overflow
          ∙ ap (λ n. nat_lt 65535 n) (sym (counted_claimed origin history));
      others = k.others ∙ s.others;
    }

shows_nothing : (old new : RecordCopy) → IsCleared old new → Shows [] new
unfolding is_any has_severity is_multiple shown number_in
shows_nothing old new k =
    record {
      valid = ap (λ f. f.valid) k.status;
      ce = ap (λ f. f.ce) k.status;
      ued = ap (λ f. f.ued) k.status;
      uec = ap (λ f. f.uec) k.status;
      multiple = ap (λ f. f.multiple) k.status;
      priority = ap (λ f. f.priority) k.status;
      code = ap (λ f. f.code) k.status;
      address = k.address;
      info = k.info;
      supplement = k.supplement;
      time = k.time;
    }

cleared_stands : (origin : Origin) (history : List Event) (old new : RecordCopy) → IsCleared old new
    → in_progress origin history ≡ true → Stands origin history old → Stands origin (Invalidated ∷ history) new
cleared_stands origin history old new k on s =
    record {
      control = k.control ∙ s.control;
      shows = subst (λ x. Shows x new) (sym (since_cleared origin history on)) (shows_nothing old new k);
      in_progress = ap (λ f. f.in_progress) k.status ∙ sym (in_progress_invalidated origin history);
      count = ap (λ f. f.count) k.status ∙ s.count ∙ ap (λ n. n % 65536) (sym (counted_invalidated origin history));
      overflow = ap (λ f. f.overflow) k.status ∙ s.overflow
          ∙ ap (λ n. nat_lt 65535 n) (sym (counted_invalidated origin history));
      others = k.others;
    }

stood_stands : (origin : Origin) (history : List Event) (old : RecordCopy) → in_progress origin history ≡ false
    → Stands origin history old → Stands origin (Invalidated ∷ history) old
stood_stands origin history old off s =
    record {
      control = s.control;
      shows = subst (λ x. Shows x old) (sym (since_stood origin history off)) s.shows;
      in_progress = s.in_progress ∙ off ∙ sym (in_progress_invalidated origin history);
      count = s.count ∙ ap (λ n. n % 65536) (sym (counted_invalidated origin history));
      overflow = s.overflow ∙ ap (λ n. nat_lt 65535 n) (sym (counted_invalidated origin history));
      others = s.others;
    }

pub invalidate_stands : (origin : Origin) (history : List Event) (old new : RecordCopy) → IsInvalidated old new
    → Stands origin history old → Stands origin (Invalidated ∷ history) new
invalidate_stands origin history old new k s =
    elim (cases_Bool (in_progress origin history)) as (λ _. Stands origin (Invalidated ∷ history) new) [
      | inl on ↦ cleared_stands origin history old new
          (MatchBool-at_true (IsCleared old new) (new ≡ old) (s.in_progress ∙ on) k) on s
      | inr off ↦
          let same = MatchBool-at_false (IsCleared old new) (new ≡ old) (s.in_progress ∙ off) k in
          subst (λ r. Stands origin (Invalidated ∷ history) r) (sym same) (stood_stands origin history old off s)
    ]

-- ---- What registers always are ----

claimed_matched : (fields : StatusFields) → fields.valid ≡ (fields.ce || fields.ued || fields.uec)
    → (claimed fields).valid ≡ ((claimed fields).ce || (claimed fields).ued || (claimed fields).uec)
unfolding claimed
claimed_matched fields h =
    elim fields.valid as (λ b. (cond b (record fields { in_progress = true }) fields).valid
    ≡ ((cond b (record fields { in_progress = true }) fields).ce
    || (cond b (record fields { in_progress = true }) fields).ued
    || (cond b (record fields { in_progress = true }) fields).uec)) [ true ↦ h | false ↦ h ]

pub claim_kept : (old new : RecordCopy) → IsClaimed old new → IsRecord old → IsRecord new
claim_kept old new k is =
    record {
      valid = subst (λ f. f.valid ≡ (f.ce || f.ued || f.uec)) (sym k.status)
          (claimed_matched (status_fields old.status) is.valid);
      status_spare = k.others ∙ is.status_spare;
      control_spare = ap (λ r. control_spare r.control) k.rest ∙ is.control_spare;
    }

cleared_kept : (old new : RecordCopy) → IsCleared old new → IsRecord old → IsRecord new
cleared_kept old new k is =
    record {
      valid = ap (λ f. f.valid) k.status ∙ sym (ap (λ f. f.ce || f.ued || f.uec) k.status);
      status_spare = k.others;
      control_spare = ap control_spare k.control ∙ is.control_spare;
    }

pub invalidate_kept : (old new : RecordCopy) → IsInvalidated old new → IsRecord old → IsRecord new
invalidate_kept old new k is =
    elim (cases_Bool (status_fields old.status).in_progress) as (λ _. IsRecord new) [
      | inl on ↦ cleared_kept old new (MatchBool-at_true (IsCleared old new) (new ≡ old) on k) is
      | inr off ↦ subst IsRecord (sym (MatchBool-at_false (IsCleared old new) (new ≡ old) off k)) is
    ]
