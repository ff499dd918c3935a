-- Ids of events, their classes, and which instances a board has.
-- SBI 3.0, "Supervisor Software Events": the table of event ids and the meaning of bits 14 and 15.
-- That an id outside the table is the platform's or reserved by bit 14 alone is this project's rule, and so is the
-- order of instances.
use Rattle.std.specs.Prelude.{ℕ, zero, suc, ◌/◌, ◌%◌, ◌^◌, ◌==◌, ◌&&◌, ◌≤◌, nat_lt, Bool, true, false, if◌then◌else◌, List, [], ◌∷◌, ◌++◌, length, filter}
use Rattle.std.specs.List.{list_any}
use Rattle.sse_base.specs.declared.ids.EventId.{EventId}
use Rattle.sse_base.specs.declared.ids.EventClass.{EventClass}
use Rattle.sse_base.specs.declared.ids.EventClass.TheVariants.{Defined, Platform, Reserved}
use Rattle.sse_base.specs.declared.ids.Instance.{Instance}
use Rattle.sse_base.specs.declared.ids.Instance.TheVariants.{Local, Global}
use Rattle.sse_base.specs.declared.events.EventDecl.{EventDecl}

-- the ids of SBI's table: local and global high priority RAS, double trap, PMU overflow, low priority RAS, software
-- injected
abbrev pub is_in_table : ℕ → Bool
is_in_table id = list_any (λ d. id == d) (0x0 ∷ 0x1 ∷ 0x8000 ∷ 0x10000 ∷ 0x100000 ∷ 0x108000 ∷ 0xffff0000
    ∷ 0xffff8000 ∷ [])

-- bit 15: one instance for the whole board
unfoldable pub is_global : ℕ → Bool
is_global id = id / 2 ^ 15 % 2 == 1

-- bit 14: left to the platform
unfoldable pub is_platform : ℕ → Bool
is_platform id = id / 2 ^ 14 % 2 == 1

unfoldable pub class_of : ℕ → EventClass
class_of id = if is_in_table id then Defined else (if is_platform id then Platform else Reserved)

-- the event of an instance
abbrev pub id_of : Instance → EventId
id_of (Local id hart) = id
id_of (Global id) = id

-- the instance of an event that a hart means: its own, or the global one
abbrev pub instance_of : ℕ → ℕ → Instance
instance_of id hart = if is_global id then Global (record { 0 = id }) else Local (record { 0 = id }) hart

abbrev pub is_local : Instance → Bool
is_local (Local id hart) = true
is_local (Global id) = false

unfoldable pub same_instance : Instance → Instance → Bool
same_instance (Local a h) (Local b k) = (a.0 == b.0) && (h == k)
same_instance (Local a h) (Global b) = false
same_instance (Global a) (Local b h) = false
same_instance (Global a) (Global b) = a.0 == b.0

-- where an instance stands in a list, or the list's length where it doesn't
abbrev pub place : Instance → List Instance → ℕ
place at [] = 0
place at (x ∷ xs) = if same_instance x at then 0 else suc (place at xs)

-- a local instance may run on its own hart alone
abbrev pub may_run_on : ℕ → Instance → Bool
may_run_on h (Local id k) = k == h
may_run_on h (Global id) = true

-- an instance that may run on a hart, and is of this event
abbrev pub is_meant : ℕ → EventId → Instance → Bool
is_meant h id x = may_run_on h x && ((id_of x).0 == id.0)

-- on each hart an event means at most one instance, and at most 8 instances may run
pub record FitsHarts (instances : List Instance) : Type 0 where
  pub alone : (h : ℕ) (id : EventId) → length (filter (is_meant h id) instances) ≤ 1
  pub few : (h : ℕ) → length (filter (may_run_on h) instances) ≤ 8

-- the events of a board by rising id
abbrev pub by_rising_id : EventDecl → List EventDecl → List EventDecl
by_rising_id d [] = d ∷ []
by_rising_id d (e ∷ es) = if nat_lt e.id.0 d.id.0 then e ∷ by_rising_id d es else d ∷ e ∷ es

abbrev pub in_order : List EventDecl → List EventDecl
in_order [] = []
in_order (d ∷ ds) = by_rising_id d (in_order ds)

-- a local event on harts 0 to n - 1
abbrev pub on_harts : EventId → ℕ → List Instance
on_harts id zero = []
on_harts id (suc n) = on_harts id n ++ Local id n ∷ []

abbrev pub instances_of_event : ℕ → EventId → List Instance
instances_of_event harts id = if is_global id.0 then Global id ∷ [] else on_harts id harts
