-- The lists of the devices, each by what its act number i is, counted from 0. This project's own.
use Rattle.std.specs.Prelude.{ℕ, ◌+◌, ◌*◌, ◌/◌, ◌%◌, ◌==◌, if◌then◌else◌, List, map}
use Rattle.std.specs.List.{range_with_len}
use Rattle.reri_fields.specs.declared.severity.Severity.{Severity}
use Rattle.reri_fields.specs.declared.severity.Severity.TheVariants.{Ce, Ued, Uec}
use Rattle.ras_device.specs.declared.act.Act.{Act}
use Rattle.ras_device.specs.declared.act.Act.TheVariants.{Error}

-- ---- A scrubber ----

-- it comes upon a corrected error at each page
abbrev pub scrubbed : ℕ → ℕ → ℕ → Act
scrubbed bank rec i =
    Error (record {
      bank = bank;
      rec = rec;
      severity = Ce;
      priority = 0;
      code = 1;
      address = 4096 * i;
      info = i;
      supplement = 0;
      time = i;
    })

-- n errors of one record
abbrev pub scrubs : ℕ → ℕ → ℕ → List Act
scrubs bank rec n = map (scrubbed bank rec) (range_with_len 0 n)

-- ---- A storm ----

-- the severities take turns
abbrev pub turn_of : ℕ → Severity
turn_of k = if k == 0 then Ce else (if k == 1 then Ued else Uec)

-- the records take turns too, and after each three errors the priority is another
abbrev pub stormed : ℕ → ℕ → ℕ → Act
stormed bank recs i =
    Error (record {
      bank = bank;
      rec = i % recs;
      severity = turn_of (i % 3);
      priority = (i / 3) % 4;
      code = 2;
      address = 0x100000 + 64 * i;
      info = i;
      supplement = 0;
      time = i;
    })

-- n errors over so many records
abbrev pub storms : ℕ → ℕ → ℕ → List Act
storms bank recs n = map (stormed bank recs) (range_with_len 0 n)
