-- The lists of the devices. This project's own; the event 0x00010000 is SBI 3.0's local PMU overflow event.
use Rattle.std.specs.Prelude.{ℕ, zero, suc, List, [], ◌∷◌, ◌++◌, replicate}
use Rattle.reri_fields.specs.declared.severity.Severity.TheVariants.{Ce}
use Rattle.ras_device.specs.declared.act.Act.{Act}
use Rattle.ras_device.specs.declared.act.Act.TheVariants.{Error, Raise}

-- ---- A performance monitor ----

-- a pulse is an error for a bank that no board has
abbrev pub pulse : Act
pulse =
    Error (record {
      bank = 255;
      rec = 255;
      severity = Ce;
      priority = 0;
      code = 0;
      address = 0;
      info = 0;
      supplement = 0;
      time = 0;
    })

abbrev pub overflow : ℕ → Act
overflow hart = Raise 0x00010000 hart

-- n times: so many pulses, and then the counter's overflow is raised on the hart
abbrev pub pulses : ℕ → ℕ → ℕ → List Act
pulses hart period zero = []
pulses hart period (suc n) = replicate period pulse ++ overflow hart ∷ pulses hart period n

-- ---- A countdown ----

-- the error at its end tells how long it was
abbrev pub expired : ℕ → Act
expired n =
    Error (record {
      bank = 0;
      rec = 0;
      severity = Ce;
      priority = 0;
      code = 3;
      address = 0;
      info = n;
      supplement = 0;
      time = n;
    })

-- an event is raised n times, and then there is an error
abbrev pub countdown : ℕ → ℕ → ℕ → List Act
countdown id hart n = replicate n (Raise id hart) ++ expired n ∷ []

-- ---- Two devices ----

-- the items of both lists by turns, the head of the first list before that of the second; when either runs dry, what is
-- left of the other follows
abbrev pub in_turn : List Act → List Act → List Act
in_turn [] ys = ys
in_turn (x ∷ xs) [] = x ∷ xs
in_turn (x ∷ xs) (y ∷ ys) = x ∷ y ∷ in_turn xs ys
