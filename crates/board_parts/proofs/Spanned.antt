-- Spans over one bank more.
use Rattle.std.proofs.Common.{◌≡◌, ◌≢◌, ℕ, zero, suc, ◌+◌, ◌<◌, ◌≤◌, ◌==◌, cond, List, replicate, set, length, slice_get, Some, refl, inl, inr, ap, sym, ◌∙◌, arith, subst}
use Rattle.std.proofs.lemmas.Bool.{cases_eq, cond-false, cond-true, eq-eqb, ne_eqb}
use Rattle.std.proofs.lemmas.List.{get_or-set_same, get_or-set_other}
use Rattle.std.proofs.lemmas.Option.{same_Some}
use Rattle.board_plan.specs.declared.plan.BankDecl.{BankDecl}
use Rattle.board_parts.specs.declared.homes.Span.{Span}
use Rattle.board_parts.specs.Homes.{Spans, span_of}

abbrev no_span : Span
no_span = record { first = 0; end = 0 }

-- a span in place of a hart's
span_set : (spans : List Span) (home : ℕ) (v : Span) (P : Span → Type 0) (h : ℕ) → home < length spans
    → (h ≡ home → P v) → (h ≢ home → P (span_of spans h)) → P (span_of (set spans home v) h)
span_set spans home v P h room here there =
    elim (cases_eq h home) as (λ _. P (span_of (set spans home v) h)) [
      | inl is ↦
          subst P
          (sym (ap (span_of (set spans home v)) is ∙ get_or-set_same spans home v no_span room))
          (here is)
      | inr isnt ↦ subst P (sym (get_or-set_other spans home h v no_span isnt)) (there isnt)
    ]

-- A bank more, with the span of its home drawn up to it.
pub spans_more : (decls : List BankDecl) (spans : List Span) (at : ℕ) (d : BankDecl) (v : Span)
    → d.home < length spans → slice_get decls at ≡ Some d → Spans at decls spans → v.end ≡ at + 1 → v.first ≤ at
    → ((k : ℕ) → (span_of spans d.home).first ≤ k → k < (span_of spans d.home).end → v.first ≤ k)
    → Spans (at + 1) decls (set spans d.home v)
spans_more decls spans at d v room this old end first kept =
    record {
      from = λ k e low is.
          span_set spans d.home v (λ s. s.first ≤ k) e.home room
          (λ same.
          elim (cases_eq k at) as (λ _. v.first ≤ k) [
            | inl last ↦ omega (arith, first, last)
            | inr further ↦
                let before : k < at = omega (arith, low, further) in
                kept k
                (subst (λ n. (span_of spans n).first ≤ k) same (old.from k e before is))
                (subst (λ n. k < (span_of spans n).end) same (old.up_to k e before is))
          ])
          (λ other.
          elim (cases_eq k at) as (λ _. (span_of spans e.home).first ≤ k) [
            | inl last ↦
                absurd (other (ap (λ (x : BankDecl). x.home) (same_Some e d (sym is ∙ ap (slice_get decls) last ∙ this))))
            | inr further ↦ old.from k e (omega (arith, low, further)) is
          ]);
      up_to = λ k e low is.
          span_set spans d.home v (λ s. k < s.end) e.home room (λ same. omega (arith, low, end))
          (λ other.
          elim (cases_eq k at) as (λ _. k < (span_of spans e.home).end) [
            | inl last ↦
                absurd (other (ap (λ (x : BankDecl). x.home) (same_Some e d (sym is ∙ ap (slice_get decls) last ∙ this))))
            | inr further ↦ old.up_to k e (omega (arith, low, further)) is
          ]);
      ordered = λ h.
          span_set spans d.home v (λ s. s.first ≤ s.end) h room (λ same. omega (arith, first, end))
          (λ other. old.ordered h);
      within = λ h.
          span_set spans d.home v (λ s. s.end ≤ at + 1) h room (λ same. omega (arith, end))
          (λ other. omega (arith, old.within h));
    }

-- where no span holds a bank yet
nowhere_yet : (many h : ℕ) → span_of (replicate many no_span) h ≡ no_span
nowhere_yet zero h = refl
nowhere_yet (suc many) zero = refl
nowhere_yet (suc many) (suc h) = nowhere_yet many h

pub no_spans : (decls : List BankDecl) (many : ℕ) → Spans 0 decls (replicate many no_span)
no_spans decls many =
    record {
      from = λ k d low is. absurd (omega (arith, low));
      up_to = λ k d low is. absurd (omega (arith, low));
      ordered = λ h. omega (arith, ap (λ (s : Span). s.first) (nowhere_yet many h));
      within = λ h. omega (arith, ap (λ (s : Span). s.end) (nowhere_yet many h));
    }

-- a span that is drawn up to a bank behind it begins no later, and holds all that it held
pub first_low : (old : Span) (first at : ℕ) → first ≡ cond (old.first == old.end) at old.first → old.first ≤ old.end
    → old.end ≤ at → first ≤ at
first_low old first at is ordered behind =
    elim (cases_eq old.first old.end) as (λ _. first ≤ at) [
      | inl empty ↦ omega (arith, is ∙ cond-true _ at old.first (eq-eqb old.first old.end empty))
      | inr some ↦ omega (arith, is ∙ cond-false _ at old.first (ne_eqb old.first old.end some), ordered, behind)
    ]

pub first_kept : (old : Span) (first at : ℕ) → first ≡ cond (old.first == old.end) at old.first → (k : ℕ)
    → old.first ≤ k → k < old.end → first ≤ k
first_kept old first at is k from low =
    elim (cases_eq old.first old.end) as (λ _. first ≤ k) [
      | inl empty ↦ absurd (omega (arith, empty, from, low))
      | inr some ↦ omega (arith, is ∙ cond-false _ at old.first (ne_eqb old.first old.end some), from)
    ]
