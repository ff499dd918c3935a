-- What each device still has to give (describes code). This project's own, over the lists of the devices.
use Rattle.std.specs.Prelude.{ℕ, zero, suc, Bool, true, false, List, [], ◌∷◌, ◌++◌, replicate, Option, Some, None}
use Rattle.ras_device.specs.declared.act.Act.TheVariants.{Raise}
use Rattle.ras_device.specs.Acts.{Remaining, nothing}
use Rattle.ras_pulse.specs.Lists.{expired, in_turn, overflow, pulse, pulses}
use Rattle.ras_pulse.specs.Reported.{both_reports, countdown_reports, more_reports, none_reports, pulses_reports, repeated_reports, turns_reports}
use Rattle.std.proofs.Common.{refl}
use Rattle.std.proofs.lemmas.Bool.{ltb-true}

-- so many pulses before the next overflow, and so many overflows
abbrev pub pulses_left : ℕ → ℕ → ℕ → ℕ → Remaining
pulses_left hart period before zero = nothing
pulses_left hart period before (suc n) =
    record {
      acts = replicate before pulse ++ overflow hart ∷ pulses hart period n;
      reports = repeated_reports pulse before (overflow hart ∷ pulses hart period n) (ltb-true 0 4 refl)
          (more_reports (overflow hart) (pulses hart period n) (ltb-true 0 4 refl) (pulses_reports hart period n));
    }

-- nothing once it is over; else so many raises, and the error of a countdown of n
abbrev pub countdown_left : Bool → ℕ → ℕ → ℕ → ℕ → Remaining
countdown_left true id hart raises n = nothing
countdown_left false id hart raises n =
    record {
      acts = replicate raises (Raise id hart) ++ expired n ∷ [];
      reports = countdown_reports id hart raises n;
    }

-- what a device has left that is dropped once it has nothing
abbrev pub left_or_nothing : {D : Type 0} → (D → Remaining) → Option D → Remaining
left_or_nothing left None = nothing
left_or_nothing left (Some d) = left d

-- the one behind the other
abbrev pub chained : Remaining → Remaining → Remaining
chained x y = record { acts = x.acts ++ y.acts; reports = both_reports x.acts y.acts x.reports y.reports }

-- both in turn, the first or the second of them next
abbrev pub taking_turns : Remaining → Remaining → Remaining
taking_turns x y = record { acts = in_turn x.acts y.acts; reports = turns_reports x.acts y.acts x.reports y.reports }

abbrev pub alternating : Bool → Remaining → Remaining → Remaining
alternating false x y = taking_turns x y
alternating true x y = taking_turns y x
