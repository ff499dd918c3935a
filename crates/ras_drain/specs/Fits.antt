-- When a drain fits its bank: what it has read of a record is still what stands there, unless an error wrote the
-- record. Read-in-progress is that of RERI 1.0 (`rdip` of `status_i`); all else is this project's own.
use Rattle.std.specs.Prelude.{◌≡◌, ◌≤◌, ℕ, Bool, true, false, List, length, slice_get, Option, Some, None}
use Rattle.reri_fields.specs.declared.report.RecordCopy.{RecordCopy}
use Rattle.reri_fields.specs.declared.drain.Phase.{Phase}
use Rattle.reri_fields.specs.declared.drain.Phase.TheVariants.{Scan, Claim, Address, Info, Supplement, Time, Check, Invalidate, Signal}
use Rattle.reri_fields.specs.Fields.{status_fields}
use Rattle.reri_fields.specs.Banks.{BankView}
use Rattle.reri_fields.specs.Drain.{Draining}

-- what contracts see of a drain: where it is while it is under way, how many copies it gathers, and the registers that
-- it has read since its last claim
pub record DrainView : Type 0 where
  pub drain : Option Draining
  pub gather : ℕ
  pub gathered : RecordCopy

-- the phases in which a drain has a record: from the Scan that took it up to its Invalidate
unfoldable pub has_record : Phase → Bool
has_record Scan = false
has_record Claim = true
has_record Address = true
has_record Info = true
has_record Supplement = true
has_record Time = true
has_record Check = true
has_record Invalidate = true
has_record Signal = false

-- the registers that were read before this phase, one at each phase since the claim, are those of the record
abbrev pub AreRead : Phase → RecordCopy → RecordCopy → Type 0
AreRead Scan got copy = Unit {0}
AreRead Claim got copy = Unit {0}
AreRead Address got copy = got.control ≡ copy.control
AreRead Info got copy = (got.control ≡ copy.control) × (got.address ≡ copy.address)
AreRead Supplement got copy = (got.control ≡ copy.control) × (got.address ≡ copy.address) × (got.info ≡ copy.info)
AreRead Time got copy =
    (got.control ≡ copy.control) × (got.address ≡ copy.address) × (got.info ≡ copy.info)
    × (got.supplement ≡ copy.supplement)
AreRead Check got copy =
    (got.control ≡ copy.control) × (got.address ≡ copy.address) × (got.info ≡ copy.info)
    × (got.supplement ≡ copy.supplement)
    × (got.time ≡ copy.time)
AreRead Invalidate got copy = Unit {0}
AreRead Signal got copy = Unit {0}

-- the drain's record is there and valid, and where its claim still counts, what was read of it are its registers
pub record HoldsRecord (d : Draining) (got : RecordCopy) (bank : BankView) : Type 0 where
  pub copy : RecordCopy
  pub there : slice_get bank.copies d.rec ≡ Some copy
  pub valid : (status_fields copy.status).valid ≡ true
  pub read : (status_fields copy.status).in_progress ≡ true → AreRead d.phase got copy

-- a drain that is under way holds its record, in the phases in which it has one
abbrev pub FitsWhere : Option Draining → RecordCopy → BankView → Type 0
FitsWhere None got bank = Unit {0}
FitsWhere (Some d) got bank = has_record d.phase ≡ true → HoldsRecord d got bank

abbrev pub Fits : DrainView → BankView → Type 0
Fits drain bank = FitsWhere drain.drain drain.gathered bank

-- a slot holds no more copies than the drain that is under way has published
abbrev pub HasRoom : Option Draining → List RecordCopy → Type 0
HasRoom None slot = Unit {0}
HasRoom (Some d) slot = length slot ≤ d.count
