-- A drain that begins fits any bank, and a slot that is free has room for any drain.
use Rattle.std.proofs.Common.{[], Option, Some, None, sym, arith}
use Rattle.std.proofs.lemmas.Bool.{true≢false}
use Rattle.reri_fields.specs.declared.report.RecordCopy.{RecordCopy}
use Rattle.reri_fields.specs.Banks.{BankView}
use Rattle.reri_fields.specs.Drain.{Draining, fresh_drain}
use Rattle.ras_drain.specs.Fits.{has_record, FitsWhere, HasRoom}

pub fresh_fits : (got : RecordCopy) (bank : BankView) → FitsWhere (Some fresh_drain) got bank
unfolding has_record
fresh_fits got bank = λ h. absurd (true≢false (sym h))

pub free_room : (d : Option Draining) → HasRoom d []
free_room None = tt
free_room (Some d) = omega arith
