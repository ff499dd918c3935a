-- The numbers of the error codes. SBI 3.0, "Binary Encoding", table of standard errors.
use Rattle.std.specs.Prelude.{ℤ, pos, negsuc, Bool, true, false}
use Rattle.sse_base.specs.declared.codes.SbiCode.{SbiCode}
use Rattle.sse_base.specs.declared.codes.SbiCode.TheVariants.{Success, Failed, NotSupported, InvalidParam, Denied, InvalidAddress, AlreadyStarted, AlreadyStopped, InvalidState, BadRange}

-- negsuc n is the number -(n + 1)
abbrev pub number_of : SbiCode → ℤ
number_of Success = pos 0
number_of Failed = negsuc 0
number_of NotSupported = negsuc 1
number_of InvalidParam = negsuc 2
number_of Denied = negsuc 3
number_of InvalidAddress = negsuc 4
number_of AlreadyStarted = negsuc 6
number_of AlreadyStopped = negsuc 7
number_of InvalidState = negsuc 9
number_of BadRange = negsuc 10

abbrev pub is_success : SbiCode → Bool
is_success Success = true
is_success code = false
