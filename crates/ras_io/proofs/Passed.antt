-- Bytes that go straight on to a writer.
use Rattle.std.proofs.Common.{◌≡◌, ℕ, List, [], ◌++◌, None, Some, Option, sym, ap, ◌∙◌, append-nil}
use Rattle.std.specs.Io.KnownBytes.{Appends, append_known}

-- a writer that takes bytes while none wait before it or after
pub passed : (a b : Option (List ℕ)) (old new bytes : List ℕ) → old ≡ [] → new ≡ [] → Appends a b bytes
    → Appends (append_known a old) (append_known b new) bytes
passed None b old new bytes p q t = tt
passed (Some x) None old new bytes p q t = absurd t
passed (Some x) (Some y) old new bytes p q t =
    ap (λ l. y ++ l) q ∙ append-nil y ∙ t ∙ ap (λ l. l ++ bytes) (sym (ap (λ l. x ++ l) p ∙ append-nil x))
