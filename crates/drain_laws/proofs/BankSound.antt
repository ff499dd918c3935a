-- What is so of a bank at each state of each run, with the number of the step that comes next.
use Rattle.std.proofs.Common.{◌≡◌, ℕ, ◌<◌, ◌≤◌, Bool, true, false, List, [], ◌∷◌, length, slice_get, Option, Some, None, arith}
use Rattle.reri_fields.specs.declared.report.RecordCopy.{RecordCopy}
use Rattle.reri_fields.specs.declared.drain.Phase.{Phase}
use Rattle.reri_fields.specs.declared.drain.Phase.TheVariants.{Invalidate}
use Rattle.reri_fields.specs.Records.{Error, Origin, is_any}
use Rattle.reri_fields.specs.Banks.{AllLogsBefore, BankEvent}
use Rattle.reri_fields.specs.Banks.BankEvent.{Logs, Claims, Invalidates, ScanOver}
use Rattle.reri_fields.specs.Drain.{BankPlan, BankState, Draining, Publication, errors_at, claimed_at}
use Rattle.board_plan.specs.Sound.{has_record, comes_to_publish, newest_copies, greatest_level, IsValidAt}
use Rattle.drain_laws.proofs.Asked.{IsAsked}
use Rattle.drain_laws.proofs.Past.{Past, Stays}

-- ---- What was published ----

abbrev pub is_invalidate : Phase → Bool
is_invalidate Invalidate = true
is_invalidate phase = false

-- its error came before this step, and its record can't show it again
pub record Settled (origins : List Origin) (n : ℕ) (history : List BankEvent) (p : Publication) : Type 0 where
  pub past : (o : Origin) (q : Error) → slice_get origins p.rec ≡ Some o → p.shown ≡ Some q
      → (q.step < n) × Past q (errors_at o p.rec history)

-- it is of this record, which may show the error still, but then under a claim that counts
pub record Standing (origins : List Origin) (n : ℕ) (history : List BankEvent) (p : Publication) (rec : ℕ) :
    Type 0 where
  pub rec_is : p.rec ≡ rec
  pub stays : (o : Origin) (q : Error) → slice_get origins p.rec ≡ Some o → p.shown ≡ Some q
      → (q.step < n) × Stays q (errors_at o p.rec history) (claimed_at o p.rec history)

abbrev pub Each : (Publication → Type 0) → List Publication → Type 0
Each Holds [] = Unit {0}
Each Holds (p ∷ ps) = Holds p × Each Holds ps

pub each_map : {P Q : Publication → Type 0} → ((p : Publication) → P p → Q p) → (ps : List Publication) → Each P ps
    → Each Q ps
each_map f [] h = tt
each_map f (p ∷ ps) h = (f p h.0, each_map f ps h.1)

-- up to its invalidation the newest one stands, and all older ones are settled
pub record JustPublished (origins : List Origin) (n : ℕ) (history : List BankEvent) (ps : List Publication) (rec : ℕ) :
    Type 0 where
  pub latest : Publication
  pub older : List Publication
  pub are : ps ≡ latest ∷ older
  pub newest : Standing origins n history latest rec
  pub rest : Each (Settled origins n history) older

abbrev pub PublishedIf : List Origin → ℕ → List BankEvent → List Publication → ℕ → Bool → Type 0
PublishedIf origins n history ps rec true = JustPublished origins n history ps rec
PublishedIf origins n history ps rec false = Each (Settled origins n history) ps

abbrev pub PublishedIn : List Origin → ℕ → List BankEvent → List Publication → Option Draining → Type 0
PublishedIn origins n history ps None = Each (Settled origins n history) ps
PublishedIn origins n history ps (Some d) = PublishedIf origins n history ps d.rec (is_invalidate d.phase)

-- ---- A drain that is under way ----

pub record Fits (plan : BankPlan) (history : List BankEvent) (slot : List RecordCopy) (ps : List Publication)
    (d : Draining) : Type 0 where
  pub record_valid : has_record d.phase ≡ true → IsValidAt plan.origins history d.rec
  pub at_most_own : length slot ≤ d.count
  pub own : d.count ≤ length ps
  pub level : d.level ≡ greatest_level (newest_copies d.count ps)
  pub gathered : d.count ≤ plan.gather
  pub gathers_on : comes_to_publish d.phase ≡ true → d.count < plan.gather

-- ---- A bank ----

pub record BankSound (plan : BankPlan) (n : ℕ) (s : BankState) : Type 0 where
  pub early : AllLogsBefore n s.history
  pub asked : IsAsked plan.origins s.history
  pub slot : s.slot ≡ newest_copies (length s.slot) s.published
  pub published : PublishedIn plan.origins n s.history s.published s.drain
  pub fits : (d : Draining) → s.drain ≡ Some d → Fits plan s.history s.slot s.published d

-- ---- What goes over from one history to a later one ----

-- what is past stays past
abbrev pub KeepsPast : ℕ → List BankEvent → List BankEvent → Type 0
KeepsPast n history later =
    (o : Origin) (at : ℕ) (q : Error) → q.step < n → Past q (errors_at o at history) → Past q (errors_at o at later)

pub settled_later : (origins : List Origin) (n m : ℕ) (history later : List BankEvent) → n ≤ m
    → KeepsPast n history later → (p : Publication) → Settled origins n history p → Settled origins m later p
settled_later origins n m history later more keeps p h =
    record {
      past = λ o q there is.
          let so = h.past o q there is in
          (omega (arith, more, so.0), keeps o p.rec q so.0 so.1);
    }

pub all_settled : (origins : List Origin) (n m : ℕ) (history later : List BankEvent) (ps : List Publication) → n ≤ m
    → KeepsPast n history later → Each (Settled origins n history) ps → Each (Settled origins m later) ps
all_settled origins n m history later ps more keeps h =
    each_map (settled_later origins n m history later more keeps) ps h

-- what stands stays
abbrev pub KeepsStanding : ℕ → List BankEvent → List BankEvent → Type 0
KeepsStanding n history later =
    (o : Origin) (at : ℕ) (q : Error) → q.step < n → Stays q (errors_at o at history) (claimed_at o at history)
    → Stays q (errors_at o at later) (claimed_at o at later)

standing_later : (origins : List Origin) (n m : ℕ) (history later : List BankEvent) → n ≤ m
    → KeepsStanding n history later → (p : Publication) (rec : ℕ) → Standing origins n history p rec
    → Standing origins m later p rec
standing_later origins n m history later more keeps p rec h =
    record {
      rec_is = h.rec_is;
      stays = λ o q there is.
          let so = h.stays o q there is in
          (omega (arith, more, so.0), keeps o p.rec q so.0 so.1);
    }

published_if_later : (origins : List Origin) (n m : ℕ) (history later : List BankEvent) (ps : List Publication)
    (rec : ℕ) (b : Bool) → n ≤ m → KeepsPast n history later → KeepsStanding n history later
    → PublishedIf origins n history ps rec b → PublishedIf origins m later ps rec b
published_if_later origins n m history later ps rec false more past standing h =
    all_settled origins n m history later ps more past h
published_if_later origins n m history later ps rec true more past standing h =
    record {
      latest = h.latest;
      older = h.older;
      are = h.are;
      newest = standing_later origins n m history later more standing h.latest rec h.newest;
      rest = all_settled origins n m history later h.older more past h.rest;
    }

pub published_later : (origins : List Origin) (n m : ℕ) (history later : List BankEvent) (ps : List Publication)
    (o : Option Draining) → n ≤ m → KeepsPast n history later → KeepsStanding n history later
    → PublishedIn origins n history ps o → PublishedIn origins m later ps o
published_later origins n m history later ps None more past standing h =
    all_settled origins n m history later ps more past h
published_later origins n m history later ps (Some d) more past standing h =
    published_if_later origins n m history later ps d.rec (is_invalidate d.phase) more past standing h

-- what holds an error goes on to
abbrev pub KeepsAny : List BankEvent → List BankEvent → Type 0
KeepsAny history later =
    (o : Origin) (at : ℕ) → is_any (errors_at o at history) ≡ true → is_any (errors_at o at later) ≡ true

pub valid_later : (origins : List Origin) (history later : List BankEvent) (rec : ℕ) → KeepsAny history later
    → IsValidAt origins history rec → IsValidAt origins later rec
valid_later origins history later rec keeps h =
    record { origin = h.origin; there = h.there; valid = keeps h.origin rec h.valid }

pub fits_later : (plan : BankPlan) (history later : List BankEvent) (slot : List RecordCopy) (ps : List Publication)
    (d : Draining) → KeepsAny history later → Fits plan history slot ps d → Fits plan later slot ps d
fits_later plan history later slot ps d keeps h =
    record {
      record_valid = λ has. valid_later plan.origins history later d.rec keeps (h.record_valid has);
      at_most_own = h.at_most_own;
      own = h.own;
      level = h.level;
      gathered = h.gathered;
      gathers_on = h.gathers_on;
    }

-- ---- Nothing but time passes ----

pub all_later : (n m : ℕ) (history : List BankEvent) → n ≤ m → AllLogsBefore n history → AllLogsBefore m history
all_later n m [] low before = tt
all_later n m (Logs error ∷ history) low before = (omega (arith, before.0), all_later n m history low before.1)
all_later n m (Claims rec ∷ history) low before = all_later n m history low before
all_later n m (Invalidates rec ∷ history) low before = all_later n m history low before
all_later n m (ScanOver ∷ history) low before = all_later n m history low before

pub sound_later : (plan : BankPlan) (n m : ℕ) (s : BankState) → n ≤ m → BankSound plan n s → BankSound plan m s
sound_later plan n m s more h =
    record {
      early = all_later n m s.history more h.early;
      asked = h.asked;
      slot = h.slot;
      published = published_later plan.origins n m s.history s.history s.published s.drain more
          (λ o at q low so. so) (λ o at q low so. so) h.published;
      fits = h.fits;
    }
