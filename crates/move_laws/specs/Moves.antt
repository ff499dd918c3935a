-- What a move to version 2 keeps of a plan whose banks gather as its version has it. This project's own.
use Rattle.std.specs.Prelude.{◌≡◌, ◌↔◌, ◌⊎◌, ℕ, List, ◌++◌, slice_get, Some, codes, decimal}
use Rattle.ras_device.specs.declared.act.Act.{Act}
use Rattle.board_plan.specs.declared.notes.Step.{Step}
use Rattle.board_plan.specs.declared.plan.BankDecl.{BankDecl}
use Rattle.board_plan.specs.declared.plan.Plan.{Plan}
use Rattle.board_plan.specs.Canonical.{moved}
use Rattle.board_plan.specs.Run.{AreTries, lists, ran}
use Rattle.board_plan.specs.Text.{full, short, trace}

-- ---- Which plans ----

-- each bank gathers one copy
abbrev pub EachGathersOne : Plan → Type 0
EachGathersOne plan = (i : ℕ) (d : BankDecl) → slice_get plan.banks i ≡ Some d → d.gather ≡ 1

-- the plan is of version 2, or of version 1, in which each bank gathers one copy
abbrev pub GathersByVersion : Plan → Type 0
GathersByVersion plan = (plan.version ≡ 2) ⊎ ((plan.version ≡ 1) × EachGathersOne plan)

-- ---- What is kept ----

-- the same tries lead to the same state, notes and published copies, whatever acts the reporters have
abbrev pub AreRunsKept : Plan → Type 0
AreRunsKept plan = (acts : ℕ → List Act) (tries : List Step) → ran (moved plan) acts tries ≡ ran plan acts tries

-- so do they to the same trace
abbrev pub AreTracesKept : Plan → Type 0
AreTracesKept plan = (acts : ℕ → List Act) (tries : List Step) → trace (moved plan) acts tries ≡ trace plan acts tries

-- it makes the same tries
abbrev pub AreTriesKept : Plan → Type 0
AreTriesKept plan =
    (acts : ℕ → List Act) (tries : List Step) → AreTries (moved plan) acts tries ↔ AreTries plan acts tries

-- its reporters have the same acts, whatever the devices give
abbrev pub AreActsKept : Plan → Type 0
AreActsKept plan = (devices : List (List Act)) → lists (moved plan) devices ≡ lists plan devices

-- Two reports are the same but for the version, which stands behind the first word: this one before the move, and 2
-- after it.
pub record DifferInVersion (version : ℕ) (before after : List ℕ) : Type 0 where
  pub rest : List ℕ
  pub was : before ≡ codes "board " ++ decimal version ++ rest
  pub is : after ≡ codes "board " ++ decimal 2 ++ rest

-- so it is with the reports of the same tries, the full ones and the short ones
pub record AreReportsKept (plan : Plan) : Type 0 where
  pub full_ones : (acts : ℕ → List Act) (tries : List Step) →
      DifferInVersion plan.version (full plan acts tries) (full (moved plan) acts tries)
  pub short_ones : (acts : ℕ → List Act) (tries : List Step) →
      DifferInVersion plan.version (short plan acts tries) (short (moved plan) acts tries)
