-- A slot of the three lists that stand side by side.
use Rattle.std.proofs.Common.{◌≡◌, ℕ, zero, suc, ◌<◌, List, [], ◌∷◌, length, get_or, refl, ap, arith, Bool}
use Rattle.std.specs.Prelude.{Some, slice_get}
use Rattle.sse_base.specs.declared.ids.Instance.{Instance}
use Rattle.sse_base.specs.declared.events.Event.{Event}
use Rattle.sse_base.specs.declared.events.Slot.{Slot}
use Rattle.sse_base.specs.Events.{joined}

abbrev slot_with : Instance → Event → Bool → Slot
slot_with at e b = record { at = at; event = e; pending = b }

pub slot_at : (is : List Instance) (es : List Event) (bs : List Bool) (i : ℕ) (at : Instance) (e : Event) (b : Bool) →
    i < length is → i < length es → i < length bs → at ≡ get_or is i at → e ≡ get_or es i e → slice_get bs i ≡ Some b →
    slice_get (joined is es bs) i ≡ Some (slot_with at e b)
slot_at [] es bs i at e b k l m p q r = absurd (omega arith)
slot_at (x ∷ is) [] bs i at e b k l m p q r = absurd (omega arith)
slot_at (x ∷ is) (y ∷ es) [] i at e b k l m p q r = absurd (omega arith)
slot_at (x ∷ is) (y ∷ es) (z ∷ bs) zero at e b k l m p q r = cc
slot_at (x ∷ is) (y ∷ es) (z ∷ bs) (suc i) at e b k l m p q r =
    slot_at is es bs i at e b (omega arith) (omega arith) (omega arith) p q r

pub slots_length : (is : List Instance) (es : List Event) (bs : List Bool) → length es ≡ length is
    → length bs ≡ length is →
    length (joined is es bs) ≡ length is
slots_length [] es bs p q = refl
slots_length (x ∷ is) [] bs p q = absurd (omega arith)
slots_length (x ∷ is) (y ∷ es) [] p q = absurd (omega arith)
slots_length (x ∷ is) (y ∷ es) (z ∷ bs) p q = ap suc (slots_length is es bs (omega arith) (omega arith))
