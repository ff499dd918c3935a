-- The numbers of the ten functions. SBI 3.0, "Supervisor Software Events", table of functions.
use Rattle.std.specs.Prelude.{ℕ, ◌==◌, if◌then◌else◌, Option, Some, None}
use Rattle.sse_base.specs.declared.functions.Function.{Function}
use Rattle.sse_base.specs.declared.functions.Function.TheVariants.{ReadAttrs, WriteAttrs, Register, Unregister, Enable, Disable, Complete, Inject, HartUnmask, HartMask}

abbrev pub function_of : ℕ → Option Function
function_of number =
    if number == 0 then Some ReadAttrs
    else (if number == 1 then Some WriteAttrs
    else (if number == 2 then Some Register
    else (if number == 3 then Some Unregister
    else (if number == 4 then Some Enable
    else (if number == 5 then Some Disable
    else (if number == 6 then Some Complete
    else (if number == 7 then Some Inject
    else (if number == 8 then Some HartUnmask
    else (if number == 9 then Some HartMask
    else None)))))))))
