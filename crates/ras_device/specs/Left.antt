-- What each device still has to give (describes code). This project's own, over the lists of the devices.
use Rattle.std.specs.Prelude.{ℕ, List, drop, map}
use Rattle.std.specs.List.{range_with_len}
use Rattle.ras_device.specs.declared.act.Act.{Act}
use Rattle.ras_device.specs.Acts.{HasReports, Remaining}
use Rattle.ras_device.specs.Lists.{scrubbed, stormed}
use Rattle.ras_device.specs.Reported.{drop_reports, scrubbed_reports, stormed_reports}

-- a list without so many acts at its front
abbrev pub behind : ℕ → (acts : List Act) → HasReports acts → Remaining
behind given acts reports = record { acts = drop given acts; reports = drop_reports given acts reports }

-- a scrubber's acts from a number on, so many
abbrev pub scrubs_from : ℕ → ℕ → ℕ → ℕ → Remaining
scrubs_from bank rec next n =
    record {
      acts = map (scrubbed bank rec) (range_with_len next n);
      reports = scrubbed_reports bank rec (range_with_len next n);
    }

-- a storm's acts from a number on, so many
abbrev pub storms_from : ℕ → ℕ → ℕ → ℕ → Remaining
storms_from bank recs next n =
    record {
      acts = map (stormed bank recs) (range_with_len next n);
      reports = stormed_reports bank recs (range_with_len next n);
    }
