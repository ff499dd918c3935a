-- The newest copies that a bank published, and their greatest level.
use Rattle.std.proofs.Common.{◌≡◌, ℕ, suc, max, List, [], ◌∷◌, ◌++◌, length, true, refl, sym, ap, ◌∙◌, arith}
use Rattle.reri_fields.specs.declared.report.RecordCopy.{RecordCopy}
use Rattle.reri_fields.specs.Banks.{copy_level}
use Rattle.reri_fields.specs.Drain.{Publication, is_free}
use Rattle.board_plan.specs.Sound.{newest_copies, greatest_level}

max_along : (a b c : ℕ) → max a (max b c) ≡ max (max a b) c
max_along a b c = grind arith

max_none : (a : ℕ) → max a 0 ≡ max 0 a
max_none a = grind arith

pub level_push : (copies : List RecordCopy) (copy : RecordCopy)
    → greatest_level (copies ++ copy ∷ []) ≡ max (greatest_level copies) (copy_level copy)
level_push [] copy = max_none (copy_level copy)
level_push (x ∷ xs) copy =
    ap (max (copy_level x)) (level_push xs copy) ∙ max_along (copy_level x) (greatest_level xs) (copy_level copy)

pub free_is_empty : (copies : List RecordCopy) → is_free copies ≡ true → copies ≡ []
unfolding is_free
free_is_empty [] h = refl
free_is_empty (x ∷ xs) h = absurd (cc)

pub length_push : (copies : List RecordCopy) (copy : RecordCopy) → length (copies ++ copy ∷ []) ≡ suc (length copies)
length_push [] copy = refl
length_push (x ∷ xs) copy = ap suc (length_push xs copy)

-- a slot that holds the newest copies goes on to hold them once one more is published
pub newest_push : (slot : List RecordCopy) (ps : List Publication) (p : Publication)
    → slot ≡ newest_copies (length slot) ps
    → slot ++ p.copy ∷ [] ≡ newest_copies (length (slot ++ p.copy ∷ [])) (p ∷ ps)
newest_push slot ps p h =
    ap (λ xs. xs ++ p.copy ∷ []) h ∙ ap (λ n. newest_copies n (p ∷ ps)) (sym (length_push slot p.copy))
