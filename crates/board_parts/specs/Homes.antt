-- Among which banks those of a hart stand: this describes the code.
use Rattle.std.specs.Prelude.{◌≡◌, ◌<◌, ◌≤◌, ℕ, List, Some, slice_get, slice_index_or}
use Rattle.board_plan.specs.declared.plan.BankDecl.{BankDecl}
use Rattle.board_parts.specs.declared.homes.Span.{Span}

-- the span of a hart
abbrev pub span_of : List Span → ℕ → Span
span_of spans h = slice_index_or spans h (record { first = 0; end = 0 })

-- each of the first banks, so many, stands in the span of its home, and no span reaches further
pub record Spans (many : ℕ) (decls : List BankDecl) (spans : List Span) : Type 0 where
  pub from : (k : ℕ) (d : BankDecl) → k < many → slice_get decls k ≡ Some d → (span_of spans d.home).first ≤ k
  pub up_to : (k : ℕ) (d : BankDecl) → k < many → slice_get decls k ≡ Some d → k < (span_of spans d.home).end
  pub ordered : (h : ℕ) → (span_of spans h).first ≤ (span_of spans h).end
  pub within : (h : ℕ) → (span_of spans h).end ≤ many
