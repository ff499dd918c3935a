-- What a worker has at hand, as lists of acts, and what one try makes of it. This project's own.
use Rattle.std.specs.Prelude.{◌≡◌, ℕ, ◌++◌, ◌&&◌, not, nat_lt, Bool, true, false, if◌then◌else◌, List, [], ◌∷◌, length, Option, Some, None, ◌⊎◌}
use Rattle.ras_device.specs.declared.act.Act.{Act}
use Rattle.board_plan.specs.declared.notes.Step.{Step}
use Rattle.board_plan.specs.declared.notes.Step.TheVariants.{Hart, Reporter}
use Rattle.board_plan.specs.declared.notes.StepNote.{StepNote}
use Rattle.board_plan.specs.Step.{hart_step, reporter_step, wants}
use Rattle.board_core.specs.Played.{Played, after_hart, after_reporter, is_list, listed, note_of, state_of}

-- the actor whose steps a worker makes, the acts that were handed on, those that were given and not handed on yet,
-- those that the device still has to give, and how many acts are given at most
pub record Hand : Type 0 where
  pub actor : Step
  pub handed : List Act
  pub kept : List Act
  pub left : List Act
  pub limit : ℕ

-- the acts that the device gave, and all acts
abbrev pub given : Hand → List Act
given w = w.handed ++ w.kept

abbrev pub whole : Hand → List Act
whole w = w.handed ++ (w.kept ++ w.left)

-- ---- A worker before its first try ----

-- a hart's worker has no acts, a reporter's those of its device
abbrev pub hart_hand : ℕ → Hand
hart_hand h = record { actor = Hart h; handed = []; kept = []; left = []; limit = 0 }

abbrev pub fresh_hand : ℕ → List Act → ℕ → Hand
fresh_hand r acts limit = record { actor = Reporter r; handed = []; kept = []; left = acts; limit = limit }

-- no act counts as handed on any more
abbrev pub rewound : Hand → Hand
rewound w = record w { handed = []; kept = given w }

-- ---- The next act ----

abbrev pub first_of : List Act → Option Act
first_of [] = None
first_of (a ∷ more) = Some a

-- acts that wait come first, in their order; after them the first of the device's, unless as many were given
-- as may be
abbrev pub next_of : Hand → List Act → Option Act
next_of w [] = if nat_lt (length w.handed) w.limit then first_of w.left else None
next_of w (a ∷ more) = Some a

abbrev pub act_at_hand : Hand → Option Act
act_at_hand w = next_of w w.kept

-- the hand when that act was handed on; where there is none it stays
abbrev pub asked : Hand → List Act → Hand
asked w [] = w
asked w (a ∷ rest) = record w { handed = w.handed ++ a ∷ []; left = rest }

abbrev pub moved_by : Hand → List Act → Hand
moved_by w [] = if nat_lt (length w.handed) w.limit then asked w w.left else w
moved_by w (a ∷ more) = record w { handed = w.handed ++ a ∷ []; kept = more }

abbrev pub moved : Hand → Hand
moved w = moved_by w w.kept

-- ---- One try ----

-- the act that a reporter's worker hands to a board: what the board's list says, else the next one at hand
abbrev pub handed_act : Hand → Played → ℕ → Option Act
handed_act w b r = if is_list b.plan r then listed b r else act_at_hand w

-- what is at hand afterwards: an act was handed on where the reporter is wanted and has no list
abbrev pub reporter_hand_after : Hand → Played → ℕ → Hand
reporter_hand_after w b r = if wants b.plan r (state_of b) && not (is_list b.plan r) then moved w else w

abbrev pub hand_after : Step → Hand → Played → Hand
hand_after (Hart h) w b = w
hand_after (Reporter r) w b = reporter_hand_after w b r

-- the board afterwards
abbrev pub board_after : Step → Hand → Played → Played
board_after (Hart h) w b = after_hart h b
board_after (Reporter r) w b = after_reporter r (handed_act w b r) b

-- the note of the try
abbrev pub turn_note : Step → Hand → Played → StepNote
turn_note (Hart h) w b = note_of (hart_step h b.plan (state_of b))
turn_note (Reporter r) w b = note_of (reporter_step r b.plan (handed_act w b r) (state_of b))

-- whether the try is idle: the hart has no step on that board, or the reporter isn't wanted there or has no next act
abbrev pub IsIdle : Step → Hand → Played → Type 0
IsIdle (Hart h) w b = hart_step h b.plan (state_of b) ≡ None
IsIdle (Reporter r) w b = (wants b.plan r (state_of b) ≡ false) ⊎ (handed_act w b r ≡ None)

-- ---- What no try changes ----

-- the actor, the limit and all acts are the same
pub record Stays (old new : Hand) : Type 0 where
  pub actor : new.actor ≡ old.actor
  pub limit : new.limit ≡ old.limit
  pub same : whole new ≡ whole old

-- the same of each of a list
abbrev pub EachStays : List Hand → List Hand → Type 0
EachStays [] [] = Unit {0}
EachStays (w ∷ ws) (v ∷ vs) = Stays w v × EachStays ws vs
EachStays ws vs = ⊥
