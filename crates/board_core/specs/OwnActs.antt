-- The acts that reporters have made, as a board keeps them (describes code). This project's own.
use Rattle.std.specs.Prelude.{◌≡◌, ◌≤◌, ◌<◌, suc, true, false, List, [], ◌∷◌, ◌++◌, length, take, is_none}
use Rattle.ras_device.specs.declared.act.Act.{Act}
use Rattle.board_plan.specs.declared.plan.Reporter.{Reporter}
use Rattle.board_core.specs.declared.made.Made.{Made}
use Rattle.board_core.specs.declared.made.Made.TheVariants.{Listed, Handed}

-- the acts that a reporter has made: so many of its list, or those that it was handed
abbrev pub acts_by : Reporter → Made → List Act
acts_by d (Listed n) = take n d.acts
acts_by d (Handed k) = k.items.items

-- no more than there are in the list; or, of a device, with room for as many as it may make
abbrev pub Suits : Reporter → Made → Type 0
Suits d (Listed n) = (is_none d.device ≡ true) × (n ≤ length d.acts)
Suits d (Handed k) = (is_none d.device ≡ false) × (k.room ≡ d.limit)

-- it suits, and there are none
pub record IsNew (d : Reporter) (m : Made) : Type 0 where
  pub suits : Suits d m
  pub none : acts_by d m ≡ []

-- there is room for one act more
abbrev pub HasPlace : Made → Type 0
HasPlace (Listed n) = n < 160000
HasPlace (Handed k) = length k.items.items < k.room

-- one act more is counted or kept
abbrev pub HasAdded : Act → Made → Made → Type 0
HasAdded a (Listed n) (Listed m) = m ≡ suc n
HasAdded a (Handed k) (Handed j) = (j.items.items ≡ k.items.items ++ a ∷ []) × (j.room ≡ k.room)
HasAdded a old new = ⊥

-- the acts of each reporter
abbrev pub acts_in : List Reporter → List Made → List (List Act)
acts_in [] ms = []
acts_in (d ∷ ds) [] = [] ∷ acts_in ds []
acts_in (d ∷ ds) (m ∷ ms) = acts_by d m ∷ acts_in ds ms

-- as many of the one as of the other, and each with the one at its place
abbrev pub Paired : (Reporter → Made → Type 0) → List Reporter → List Made → Type 0
Paired P [] [] = Unit {0}
Paired P (d ∷ ds) (m ∷ ms) = P d m × Paired P ds ms
Paired P ds ms = ⊥
