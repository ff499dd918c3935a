-- Each step of a bank keeps it sound.
use Rattle.std.proofs.Common.{◌≡◌, ℕ, suc, ◌<◌, ◌≤◌, ◌==◌, nat_lt, max, Bool, true, false, cond, List, [], ◌∷◌, ◌++◌, length, find, slice_get, Some, None, refl, inl, inr, sym, ap, ◌∙◌, subst, arith}
use Rattle.std.proofs.lemmas.Bool.{cases_Bool, cases_eq, true≢false, ltb-true}
use Rattle.std.proofs.lemmas.Option.{none-some, same_Some}
use Rattle.reri_fields.specs.declared.report.RecordCopy.{RecordCopy}
use Rattle.reri_fields.specs.declared.drain.Phase.{Phase}
use Rattle.reri_fields.specs.declared.drain.Phase.TheVariants.{Scan, Claim, Address, Info, Supplement, Time, Check, Invalidate, Signal}
use Rattle.reri_fields.specs.Records.{Error, Origin, is_any, shown, since}
use Rattle.reri_fields.specs.Banks.{AllLogsBefore, BankEvent, events_of, least_signalled, is_signalled_after, copy_level}
use Rattle.reri_fields.specs.Banks.BankEvent.{Logs, Claims, Invalidates, ScanOver}
use Rattle.reri_fields.specs.Drain.{BankPlan, BankState, BankTry, BankNote, Draining, Publication, bank_start, reported, acknowledged, scanned, claimed, goes_to, published, publication, invalidated, after_invalidate, signalled, errors_at, claimed_at}
use Rattle.reri_fields.specs.Drain.BankTry.{Reports, Drains, Acknowledges}
use Rattle.reri_log.proofs.Errors.{StepsBelow, found_before}
use Rattle.reri_log.proofs.Histories.{is_any-push, since_before}
use Rattle.reri_bank.proofs.Stands.{before_events}
use Rattle.board_plan.specs.Sound.{has_record, comes_to_publish, newest_copies, IsValidAt}
use Rattle.drain_laws.proofs.Held.{Enters, logs_at, errors_claimed, errors_elsewhere, errors_cleared, errors_stood, errors_scanned}
use Rattle.drain_laws.proofs.Held.Enters.{passes_by, writes, keeps_out}
use Rattle.drain_laws.proofs.Asked.{signalled_any, signalled as is_signalled, asked_log, asked_claim, asked_invalidate, asked_over}
use Rattle.drain_laws.proofs.Found.{least_signals, none_signals}
use Rattle.drain_laws.proofs.Past.{Past, Stays, past_enters, stays_enters}
use Rattle.drain_laws.proofs.Past.Past.{gone}
use Rattle.drain_laws.proofs.Past.Stays.{still, past}
use Rattle.drain_laws.proofs.Copies.{level_push, free_is_empty, length_push, newest_push}
use Rattle.drain_laws.proofs.BankMoves.{Moves, IsDue, is_reading, is_read_to}
use Rattle.drain_laws.proofs.BankMoves.IsDue.{goes_on, begins}
use Rattle.drain_laws.proofs.BankMoves.Moves.{reports, acks, finds_none, finds, claims, reads, tears, publishes, clears, signals}
use Rattle.drain_laws.proofs.BankSound.{is_invalidate, Settled, Standing, Each, JustPublished, PublishedIf, PublishedIn, Fits, BankSound, KeepsPast, KeepsAny, all_settled, published_later, valid_later, fits_later, sound_later}

-- ---- An error ----

enters_any : (e : Error) (errors later : List Error) (claim after : Bool) → Enters e errors claim later after
    → is_any errors ≡ true → is_any later ≡ true
enters_any e errors later claim after (passes_by same _) any = ap is_any same ∙ any
enters_any e errors later claim after (writes longer _ _ _) any = ap is_any longer ∙ is_any-push errors e
enters_any e errors later claim after (keeps_out longer _ _ _ _) any = ap is_any longer ∙ is_any-push errors e

pub logs_any : (e : Error) (history : List BankEvent) → AllLogsBefore e.step history
    → KeepsAny history (Logs e ∷ history)
logs_any e history early =
    λ o at any. enters_any e (errors_at o at history) (errors_at o at (Logs e ∷ history)) (claimed_at o at history)
    (claimed_at o at (Logs e ∷ history)) (logs_at o at e history early) any

report_sound : (plan : BankPlan) (n : ℕ) (s : BankState) (e : Error) → e.step ≡ n → BankSound plan n s
    → BankSound plan (suc n) (reported e s)
report_sound plan n s e now h =
    let early = subst (λ k. AllLogsBefore k s.history) (sym now) h.early in
    let later = sound_later plan n (suc n) s (omega arith) h in
    record {
      early = (omega (arith, now), later.early);
      asked = asked_log plan.origins s.history e early h.asked;
      slot = h.slot;
      published = published_later plan.origins n (suc n) s.history (Logs e ∷ s.history) s.published s.drain
          (omega arith)
          (λ o at q low. past_enters q e (errors_at o at s.history) (errors_at o at (Logs e ∷ s.history))
          (claimed_at o at s.history) (claimed_at o at (Logs e ∷ s.history)) (omega (arith, low, now))
          (logs_at o at e s.history early))
          (λ o at q low. stays_enters q e (errors_at o at s.history) (errors_at o at (Logs e ∷ s.history))
          (claimed_at o at s.history) (claimed_at o at (Logs e ∷ s.history)) (omega (arith, low, now))
          (logs_at o at e s.history early)) h.published;
      fits = λ d is.
          fits_later plan s.history (Logs e ∷ s.history) s.slot s.published d (logs_any e s.history early)
          (h.fits d is);
    }

-- ---- An acknowledgement ----

ack_sound : (plan : BankPlan) (n : ℕ) (s : BankState) → BankSound plan n s → BankSound plan n (acknowledged s)
ack_sound plan n s h =
    record {
      early = h.early;
      asked = h.asked;
      slot = refl;
      published = h.published;
      fits = λ d is.
          let f = h.fits d is in
          record {
            record_valid = f.record_valid;
            at_most_own = omega arith;
            own = f.own;
            level = f.level;
            gathered = f.gathered;
            gathers_on = f.gathers_on;
          };
    }

-- ---- The drain that a step goes on with ----

due_fits : (plan : BankPlan) (n : ℕ) (s : BankState) (d : Draining) → 1 ≤ plan.gather → BankSound plan n s
    → IsDue plan s d → Fits plan s.history s.slot s.published d
due_fits plan n s d some h (goes_on _ is) = h.fits d is
due_fits plan n s d some h (begins none asking free) =
    record {
      record_valid = λ has. absurd (true≢false (sym has));
      at_most_own = omega (arith, ap length (free_is_empty s.slot free));
      own = omega arith;
      level = refl;
      gathered = omega arith;
      gathers_on = λ on. omega (arith, some);
    }

due_published : (plan : BankPlan) (n : ℕ) (s : BankState) (d : Draining) → BankSound plan n s → IsDue plan s d
    → PublishedIf plan.origins n s.history s.published d.rec (is_invalidate d.phase)
due_published plan n s d h (goes_on _ is) =
    subst (PublishedIn plan.origins n s.history s.published) is h.published
due_published plan n s d h (begins none asking free) =
    subst (PublishedIn plan.origins n s.history s.published) none h.published

-- in any phase but that of the invalidation all that was published is settled
due_settled : (plan : BankPlan) (n : ℕ) (s : BankState) (d : Draining) (phase : Phase) → BankSound plan n s
    → IsDue plan s d → d.phase ≡ phase → is_invalidate phase ≡ false
    → Each (Settled plan.origins n s.history) s.published
due_settled plan n s d phase h due at other =
    subst (PublishedIf plan.origins n s.history s.published d.rec) (ap is_invalidate at ∙ other)
    (due_published plan n s d h due)

only : (plan : BankPlan) (history : List BankEvent) (slot : List RecordCopy) (ps : List Publication) (d e : Draining)
    → Fits plan history slot ps d → Some d ≡ Some e → Fits plan history slot ps e
only plan history slot ps d e f is = subst (Fits plan history slot ps) (same_Some d e is) f

-- ---- Scan ----

scan_past : (n : ℕ) (history : List BankEvent) → KeepsPast n history (ScanOver ∷ history)
scan_past n history = λ o at q low so. subst (Past q) (sym (errors_scanned o at history)) so

over_published : (origins : List Origin) (n : ℕ) (history : List BankEvent) (ps : List Publication) (d : Draining)
    (none : Bool) → Each (Settled origins n history) ps
    → PublishedIn origins n history ps (cond none None (Some (record d { phase = Signal; rec = 0 })))
over_published origins n history ps d true h = h
over_published origins n history ps d false h = h

over_fits : (plan : BankPlan) (history later : List BankEvent) (slot : List RecordCopy) (ps : List Publication)
    (d : Draining) (none : Bool) (e : Draining) → Fits plan history slot ps d
    → cond none None (Some (record d { phase = Signal; rec = 0 })) ≡ Some e → Fits plan later slot ps e
over_fits plan history later slot ps d true e f is = absurd (none-some e is)
over_fits plan history later slot ps d false e f is =
    only plan later slot ps (record d { phase = Signal; rec = 0 }) e
    (record {
      record_valid = λ has. absurd (true≢false (sym has));
      at_most_own = f.at_most_own;
      own = f.own;
      level = f.level;
      gathered = f.gathered;
      gathers_on = λ on. absurd (true≢false (sym on));
    }) is

over_sound : (plan : BankPlan) (n : ℕ) (s : BankState) (d : Draining) → 1 ≤ plan.gather → BankSound plan n s
    → IsDue plan s d → d.phase ≡ Scan → least_signalled plan.origins s.history ≡ None
    → BankSound plan n (scanned s d None).state
over_sound plan n s d some h due at found =
    let settled = all_settled plan.origins n n s.history (ScanOver ∷ s.history) s.published (omega arith)
    (scan_past n s.history) (due_settled plan n s d Scan h due at refl) in
    record {
      early = h.early;
      asked = asked_over plan.origins s.history (none_signals plan.origins s.history found);
      slot = h.slot;
      published = over_published plan.origins n (ScanOver ∷ s.history) s.published d (d.count == 0) settled;
      fits = λ e is.
          over_fits plan s.history (ScanOver ∷ s.history) s.slot s.published d (d.count == 0) e
          (due_fits plan n s d some h due) is;
    }

found_valid : (origins : List Origin) (history : List BankEvent) (rec : ℕ)
    → least_signalled origins history ≡ Some rec → IsValidAt origins history rec
found_valid origins history rec found =
    let so = is_signalled origins history rec (least_signals origins history rec found) in
    record { origin = so.origin; there = so.there; valid = signalled_any origins history rec so }

found_sound : (plan : BankPlan) (n : ℕ) (s : BankState) (d : Draining) (rec : ℕ) → 1 ≤ plan.gather
    → BankSound plan n s → IsDue plan s d → d.phase ≡ Scan → least_signalled plan.origins s.history ≡ Some rec
    → BankSound plan n (scanned s d (Some rec)).state
found_sound plan n s d rec some h due at found =
    let f = due_fits plan n s d some h due in
    record {
      early = h.early;
      asked = h.asked;
      slot = h.slot;
      published = due_settled plan n s d Scan h due at refl;
      fits = λ e is.
          only plan s.history s.slot s.published (record d { phase = Claim; rec = rec }) e
          (record {
            record_valid = λ has. found_valid plan.origins s.history rec found;
            at_most_own = f.at_most_own;
            own = f.own;
            level = f.level;
            gathered = f.gathered;
            gathers_on = λ on. f.gathers_on (ap comes_to_publish at);
          }) is;
    }

-- ---- Claim, and a read ----

claim_past : (n rec : ℕ) (history : List BankEvent) → KeepsPast n history (Claims rec ∷ history)
claim_past n rec history = λ o at q low so. subst (Past q) (sym (errors_claimed o at rec history)) so

pub claim_any : (rec : ℕ) (history : List BankEvent) → KeepsAny history (Claims rec ∷ history)
claim_any rec history = λ o at any. ap is_any (errors_claimed o at rec history) ∙ any

-- the drain goes on with its record, which is valid, and comes to publish
goes_on_fits : (plan : BankPlan) (history later : List BankEvent) (slot : List RecordCopy) (ps : List Publication)
    (d : Draining) (phase : Phase) → has_record d.phase ≡ true → comes_to_publish d.phase ≡ true
    → KeepsAny history later → Fits plan history slot ps d → Fits plan later slot ps (record d { phase = phase })
goes_on_fits plan history later slot ps d phase has on keeps f =
    record {
      record_valid = λ now. valid_later plan.origins history later d.rec keeps (f.record_valid has);
      at_most_own = f.at_most_own;
      own = f.own;
      level = f.level;
      gathered = f.gathered;
      gathers_on = λ now. f.gathers_on on;
    }

claim_sound : (plan : BankPlan) (n : ℕ) (s : BankState) (d : Draining) → 1 ≤ plan.gather → BankSound plan n s
    → IsDue plan s d → d.phase ≡ Claim → BankSound plan n (claimed s d).state
claim_sound plan n s d some h due at =
    let later = Claims d.rec ∷ s.history in
    record {
      early = h.early;
      asked = asked_claim plan.origins s.history d.rec h.asked;
      slot = h.slot;
      published = all_settled plan.origins n n s.history later s.published (omega arith)
          (claim_past n d.rec s.history) (due_settled plan n s d Claim h due at refl);
      fits = λ e is.
          only plan later s.slot s.published (record d { phase = Address }) e
          (goes_on_fits plan s.history later s.slot s.published d Address (ap has_record at)
          (ap comes_to_publish at) (claim_any d.rec s.history) (due_fits plan n s d some h due)) is;
    }

reading_has : (phase : Phase) → is_reading phase ≡ true → has_record phase ≡ true
reading_has Address h = refl
reading_has Info h = refl
reading_has Supplement h = refl
reading_has Time h = refl
reading_has Scan h = absurd (true≢false (sym h))
reading_has Claim h = refl
reading_has Check h = refl
reading_has Invalidate h = refl
reading_has Signal h = absurd (true≢false (sym h))

reading_comes : (phase : Phase) → is_reading phase ≡ true → comes_to_publish phase ≡ true
reading_comes Invalidate h = absurd (true≢false (sym h))
reading_comes Signal h = absurd (true≢false (sym h))
reading_comes Scan h = refl
reading_comes Claim h = refl
reading_comes Address h = refl
reading_comes Info h = refl
reading_comes Supplement h = refl
reading_comes Time h = refl
reading_comes Check h = refl

reading_not : (phase : Phase) → is_reading phase ≡ true → is_invalidate phase ≡ false
reading_not Invalidate h = absurd (true≢false (sym h))
reading_not phase h = refl

read_to_not : (phase : Phase) → is_read_to phase ≡ true → is_invalidate phase ≡ false
read_to_not Invalidate h = absurd (true≢false (sym h))
read_to_not phase h = refl

-- a drain of the same history goes on at a phase that is not that of the invalidation
phase_sound : (plan : BankPlan) (n : ℕ) (s : BankState) (d : Draining) (phase : Phase) → 1 ≤ plan.gather
    → BankSound plan n s → IsDue plan s d → has_record d.phase ≡ true → comes_to_publish d.phase ≡ true
    → is_invalidate d.phase ≡ false → is_invalidate phase ≡ false → BankSound plan n (goes_to phase s d)
phase_sound plan n s d phase some h due has on was is_not =
    record {
      early = h.early;
      asked = h.asked;
      slot = h.slot;
      published = subst (PublishedIf plan.origins n s.history s.published d.rec) (sym is_not)
          (due_settled plan n s d d.phase h due refl was);
      fits = λ e is.
          only plan s.history s.slot s.published (record d { phase = phase }) e
          (goes_on_fits plan s.history s.history s.slot s.published d phase has on (λ o at any. any)
          (due_fits plan n s d some h due)) is;
    }

-- ---- Check ----

-- what is shown came before the next step
found_early : (step : ℕ) (p : Error → Bool) (xs : List Error) (x : Error) → StepsBelow step xs → find p xs ≡ Some x
    → x.step < step
found_early step p xs x low is = found_before step p xs x low is

shown_early : (n : ℕ) (o : Origin) (rec : ℕ) (history : List BankEvent) (q : Error) → AllLogsBefore n history
    → shown (errors_at o rec history) ≡ Some q → q.step < n
unfolding shown
shown_early n o rec history q early is =
    found_early n _ (errors_at o rec history) q
    (since_before n o (events_of rec history) (before_events n rec history early)) is

published_now : (origins : List Origin) (n : ℕ) (s : BankState) (rec : ℕ) (origin : Origin)
    → AllLogsBefore n s.history → slice_get origins rec ≡ Some origin → claimed_at origin rec s.history ≡ true
    → Standing origins n s.history (publication s rec origin) rec
published_now origins n s rec origin early there on =
    record {
      rec_is = refl;
      stays = λ o q here is.
          let same : o ≡ origin = same_Some o origin (sym here ∙ there) in (
            shown_early n origin rec s.history q early is,
            still (ap (λ (x : Origin). claimed_at x rec s.history) same ∙ on)
                (ap (λ (x : Origin). shown (errors_at x rec s.history)) same ∙ is),
          );
    }

publish_sound : (plan : BankPlan) (n : ℕ) (s : BankState) (d : Draining) (origin : Origin) → 1 ≤ plan.gather
    → BankSound plan n s → IsDue plan s d → d.phase ≡ Check → slice_get plan.origins d.rec ≡ Some origin
    → claimed_at origin d.rec s.history ≡ true
    → BankSound plan n (published s d (publication s d.rec origin)).state
publish_sound plan n s d origin some h due at there on =
    let p = publication s d.rec origin in
    let f = due_fits plan n s d some h due in
    let low : d.count < plan.gather = f.gathers_on (ap comes_to_publish at) in
    record {
      early = h.early;
      asked = h.asked;
      slot = newest_push s.slot s.published p h.slot;
      published = record {
        latest = p;
        older = s.published;
        are = refl;
        newest = published_now plan.origins n s d.rec origin h.early there on;
        rest = due_settled plan n s d Check h due at refl;
      };
      fits = λ e is.
          only plan s.history (s.slot ++ p.copy ∷ []) (p ∷ s.published)
          (record d { phase = Invalidate; count = suc d.count; level = max d.level (copy_level p.copy) }) e
          (record {
            record_valid = λ has. f.record_valid (ap has_record at);
            at_most_own = omega (arith, length_push s.slot p.copy, f.at_most_own);
            own = omega (arith, f.own);
            level = ap (λ l. max l (copy_level p.copy)) f.level
                ∙ sym (level_push (newest_copies d.count s.published) p.copy);
            gathered = omega (arith, low);
            gathers_on = λ now. absurd (true≢false (sym now));
          }) is;
    }

-- ---- Invalidate ----

-- a record that an invalidation cleared holds nothing, and any other holds what it held
cleared_past : (o : Origin) (at rec : ℕ) (history : List BankEvent) (q : Error) → Past q (errors_at o at history)
    → Past q (errors_at o at (Invalidates rec ∷ history))
cleared_past o at rec history q so =
    elim (cases_eq at rec) as (λ _. Past q (errors_at o at (Invalidates rec ∷ history))) [
      | inr elsewhere ↦ subst (Past q) (sym (errors_elsewhere o at rec history elsewhere)) so
      | inl here ↦
          elim (cases_Bool (claimed_at o at history)) as (λ _. Past q (errors_at o at (Invalidates rec ∷ history))) [
            | inl on ↦
                subst (λ k. Past q (errors_at o at (Invalidates k ∷ history))) here
                (subst (Past q) (sym (errors_cleared o at history on)) (gone tt))
            | inr off ↦
                subst (λ k. Past q (errors_at o at (Invalidates k ∷ history))) here
                (subst (Past q) (sym (errors_stood o at history off)) so)
          ]
    ]

clear_keeps : (n rec : ℕ) (history : List BankEvent) → KeepsPast n history (Invalidates rec ∷ history)
clear_keeps n rec history = λ o at q low so. cleared_past o at rec history q so

-- the newest one is past once its record was invalidated
stayed : (o : Origin) (rec : ℕ) (history : List BankEvent) (q : Error)
    → Stays q (errors_at o rec history) (claimed_at o rec history)
    → Past q (errors_at o rec (Invalidates rec ∷ history))
stayed o rec history q (past so) = cleared_past o rec rec history q so
stayed o rec history q (still on is) = subst (Past q) (sym (errors_cleared o rec history on)) (gone tt)

settled_now : (origins : List Origin) (n rec : ℕ) (history : List BankEvent) (p : Publication)
    → Standing origins n history p rec → Settled origins n (Invalidates rec ∷ history) p
settled_now origins n rec history p h =
    record {
      past = λ o q there is.
          let so = h.stays o q there is in (
            so.0,
            subst (λ k. Past q (errors_at o p.rec (Invalidates k ∷ history))) h.rec_is
                (stayed o p.rec history q so.1),
          );
    }

all_cleared : (origins : List Origin) (n rec : ℕ) (history : List BankEvent) (ps : List Publication)
    → JustPublished origins n history ps rec → Each (Settled origins n (Invalidates rec ∷ history)) ps
all_cleared origins n rec history ps h =
    subst (Each (Settled origins n (Invalidates rec ∷ history))) (sym h.are) (
      settled_now origins n rec history h.latest h.newest,
      all_settled origins n n history (Invalidates rec ∷ history) h.older (omega arith)
          (clear_keeps n rec history) h.rest,
    )

clear_published : (origins : List Origin) (n : ℕ) (history : List BankEvent) (ps : List Publication) (d : Draining)
    (more : Bool) → Each (Settled origins n history) ps
    → PublishedIn origins n history ps
    (Some (cond more (record d { phase = Scan; rec = 0 }) (record d { phase = Signal })))
clear_published origins n history ps d true h = h
clear_published origins n history ps d false h = h

clear_fits : (plan : BankPlan) (history later : List BankEvent) (slot : List RecordCopy) (ps : List Publication)
    (d : Draining) (more : Bool) → nat_lt d.count plan.gather ≡ more → Fits plan history slot ps d
    → Fits plan later slot ps (cond more (record d { phase = Scan; rec = 0 }) (record d { phase = Signal }))
clear_fits plan history later slot ps d true is f =
    record {
      record_valid = λ has. absurd (true≢false (sym has));
      at_most_own = f.at_most_own;
      own = f.own;
      level = f.level;
      gathered = f.gathered;
      gathers_on = λ on. ltb-true d.count plan.gather is;
    }
clear_fits plan history later slot ps d false is f =
    record {
      record_valid = λ has. absurd (true≢false (sym has));
      at_most_own = f.at_most_own;
      own = f.own;
      level = f.level;
      gathered = f.gathered;
      gathers_on = λ on. absurd (true≢false (sym on));
    }

clear_sound : (plan : BankPlan) (n : ℕ) (s : BankState) (d : Draining) → 1 ≤ plan.gather → BankSound plan n s
    → IsDue plan s d → d.phase ≡ Invalidate → BankSound plan n (invalidated plan s d).state
clear_sound plan n s d some h due at =
    let later = Invalidates d.rec ∷ s.history in
    let just : JustPublished plan.origins n s.history s.published d.rec =
    subst (PublishedIf plan.origins n s.history s.published d.rec) (ap is_invalidate at)
    (due_published plan n s d h due) in
    record {
      early = h.early;
      asked = asked_invalidate plan.origins s.history d.rec h.asked;
      slot = h.slot;
      published = clear_published plan.origins n later s.published d (nat_lt d.count plan.gather)
          (all_cleared plan.origins n d.rec s.history s.published just);
      fits = λ e is.
          only plan later s.slot s.published (after_invalidate plan.gather d) e
          (clear_fits plan s.history later s.slot s.published d (nat_lt d.count plan.gather) refl
          (due_fits plan n s d some h due)) is;
    }

-- ---- Signal ----

signal_sound : (plan : BankPlan) (n : ℕ) (s : BankState) (d : Draining) → BankSound plan n s → IsDue plan s d
    → d.phase ≡ Signal → BankSound plan n (signalled s d).state
signal_sound plan n s d h due at =
    record {
      early = h.early;
      asked = h.asked;
      slot = h.slot;
      published = due_settled plan n s d Signal h due at refl;
      fits = λ e is. absurd (none-some e is);
    }

-- ---- Any step ----

-- an error comes with the number of its step
abbrev pub IsNow : ℕ → BankTry → Type 0
IsNow n (Reports e) = e.step ≡ n
IsNow n Drains = Unit {0}
IsNow n Acknowledges = Unit {0}

pub moves_sound : (plan : BankPlan) (n : ℕ) (s : BankState) (t : BankTry) (later : BankState) (m : BankNote)
    → 1 ≤ plan.gather → IsNow n t → BankSound plan n s → Moves plan s t later m → BankSound plan (suc n) later
moves_sound plan n s t later m some now h (reports e) = report_sound plan n s e now h
moves_sound plan n s t later m some now h acks = sound_later plan n (suc n) _ (omega arith) (ack_sound plan n s h)
moves_sound plan n s t later m some now h (finds_none d due at found) =
    sound_later plan n (suc n) _ (omega arith) (over_sound plan n s d some h due at found)
moves_sound plan n s t later m some now h (finds d rec due at found) =
    sound_later plan n (suc n) _ (omega arith) (found_sound plan n s d rec some h due at found)
moves_sound plan n s t later m some now h (claims d due at) =
    sound_later plan n (suc n) _ (omega arith) (claim_sound plan n s d some h due at)
moves_sound plan n s t later m some now h (reads d register next due at to) =
    sound_later plan n (suc n) _ (omega arith)
    (phase_sound plan n s d next some h due (reading_has d.phase at) (reading_comes d.phase at)
    (reading_not d.phase at) (read_to_not next to))
moves_sound plan n s t later m some now h (tears d o due at known off) =
    sound_later plan n (suc n) _ (omega arith)
    (phase_sound plan n s d Claim some h due (ap has_record at) (ap comes_to_publish at) (ap is_invalidate at) refl)
moves_sound plan n s t later m some now h (publishes d origin due at known on) =
    sound_later plan n (suc n) _ (omega arith) (publish_sound plan n s d origin some h due at known on)
moves_sound plan n s t later m some now h (clears d due at) =
    sound_later plan n (suc n) _ (omega arith) (clear_sound plan n s d some h due at)
moves_sound plan n s t later m some now h (signals d due at) =
    sound_later plan n (suc n) _ (omega arith) (signal_sound plan n s d h due at)

none_there : (o : Origin) (rec : ℕ) → is_any (errors_at o rec []) ≡ false
unfolding is_any since events_of
none_there o rec = refl

no_errors : (origins : List Origin) (rec : ℕ) → is_signalled_after origins [] rec ≡ true → ⊥
no_errors origins rec now =
    let so = is_signalled origins [] rec now in
    true≢false (sym (signalled_any origins [] rec so) ∙ none_there so.origin rec)

-- a bank to which nothing has happened yet
pub start_sound : (plan : BankPlan) (n : ℕ) → BankSound plan n bank_start
start_sound plan n =
    record {
      early = tt;
      asked = record { each = λ rec now. absurd (no_errors plan.origins rec now) };
      slot = refl;
      published = tt;
      fits = λ d is. absurd (none-some d is);
    }
