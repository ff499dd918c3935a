-- What each access to a bank does: where it finds what it names, what it adds to the bank's history, what it changes
-- and what it answers. SetRead and Invalidate follow RERI 1.0 (`srdp` and `sinv` of `control_i`). The list of accesses
-- is this project's own.
use Rattle.std.specs.Prelude.{◌≡◌, ℕ, ◌<◌, if◌then◌else◌, List, ◌∷◌, slice_get, Some}
use Rattle.std.specs.Option.{option_map, option_and_then}
use Rattle.reri_fields.specs.declared.report.RecordCopy.{RecordCopy}
use Rattle.reri_fields.specs.Fields.{status_fields}
use Rattle.reri_fields.specs.Banks.{BankEvent}
use Rattle.reri_fields.specs.Banks.BankEvent.{Claims, Invalidates}
use Rattle.reri_bank.specs.declared.access.Access.{Access}
use Rattle.reri_bank.specs.declared.access.Access.TheVariants.{Read, Summary, SetRead, Invalidate}
use Rattle.reri_fields.specs.Words.{registers}
use Rattle.reri_bank.specs.Registers.{summary, OneChanges, IsClaimed, IsInvalidated}

-- a bank of so many records has what the access names
abbrev pub IsThere : ℕ → Access → Type 0
IsThere count (Read rec register) = (rec < count) × (register < 6)
IsThere count Summary = Unit {0}
IsThere count (SetRead rec) = rec < count
IsThere count (Invalidate rec) = rec < count

-- the bank's history with the access; a read is no event
abbrev pub accessed : Access → List BankEvent → List BankEvent
accessed (Read rec register) history = history
accessed Summary history = history
accessed (SetRead rec) history = Claims rec ∷ history
accessed (Invalidate rec) history = Invalidates rec ∷ history

-- what the access does to the records
abbrev pub Makes : Access → List RecordCopy → List RecordCopy → Type 0
Makes (Read rec register) old new = new ≡ old
Makes Summary old new = new ≡ old
Makes (SetRead rec) old new = OneChanges IsClaimed rec old new
Makes (Invalidate rec) old new = OneChanges IsInvalidated rec old new

-- the number that the access answers
abbrev pub Gives : Access → List RecordCopy → List RecordCopy → ℕ → Type 0
Gives (Read rec register) old new value = option_and_then (λ copy. slice_get (registers copy) register)
    (slice_get old rec) ≡ Some value
Gives Summary old new value = value ≡ summary old
Gives (SetRead rec) old new value = option_map (λ copy. copy.status) (slice_get new rec) ≡ Some value
Gives (Invalidate rec) old new value = option_map (λ copy. if (status_fields copy.status).in_progress then 1 else 0)
    (slice_get old rec) ≡ Some value
