-- What a search for the first number that passes a test tells, by what it found.
use Rattle.std.proofs.Common.{◌≡◌, ℕ, zero, suc, ◌+◌, ◌<◌, ◌≤◌, Bool, true, false, List, [], ◌∷◌, length, Some, None, inl, inr, sym, ◌∙◌, subst, arith}
use Rattle.std.specs.List.{find, range_with_len}
use Rattle.std.proofs.lemmas.Bool.{cases_Bool, cases_eq, cases_lt, cond-true, cond-false}
use Rattle.std.proofs.lemmas.Option.{none-some, same_Some}
use Rattle.reri_fields.specs.Records.{Origin}
use Rattle.reri_fields.specs.Banks.{BankEvent, is_signalled_after, least_signalled}
use Rattle.reri_bank.proofs.Signalled.{after_nowhere}

-- what is found passes
pub found_passes : (test : ℕ → Bool) (xs : List ℕ) (x : ℕ) → find test xs ≡ Some x → test x ≡ true
found_passes test [] x h = absurd (none-some x h)
found_passes test (y ∷ ys) x h =
    elim (cases_Bool (test y)) as (λ _. test x ≡ true) [
      | inl here ↦
          subst (λ z. test z ≡ true) (same_Some y x (sym (cond-true _ (Some y) (find test ys) here) ∙ h)) here
      | inr not_here ↦ found_passes test ys x (sym (cond-false _ (Some y) (find test ys) not_here) ∙ h)
    ]

-- where nothing is found, nothing passes
pub none_passes : (test : ℕ → Bool) (from many : ℕ) → find test (range_with_len from many) ≡ None
    → (at : ℕ) → from ≤ at → at < from + many → test at ≡ false
none_passes test from zero h at low high = absurd (omega arith)
none_passes test from (suc many) h at low high =
    elim (cases_Bool (test from)) as (λ _. test at ≡ false) [
      | inl here ↦
          absurd (none-some from
          (sym h ∙ cond-true _ (Some from) (find test (range_with_len (from + 1) many)) here))
      | inr not_here ↦
          elim (cases_eq from at) as (λ _. test at ≡ false) [
            | inl is ↦ subst (λ k. test k ≡ false) is not_here
            | inr further ↦
                none_passes test (from + 1) many
                (sym (cond-false _ (Some from) (find test (range_with_len (from + 1) many)) not_here) ∙ h) at
                (omega arith) (omega arith)
          ]
    ]

-- ---- The least signalled record ----

pub least_signals : (origins : List Origin) (history : List BankEvent) (rec : ℕ)
    → least_signalled origins history ≡ Some rec → is_signalled_after origins history rec ≡ true
unfolding least_signalled
least_signals origins history rec h =
    found_passes (is_signalled_after origins history) (range_with_len 0 (length origins)) rec h

pub none_signals : (origins : List Origin) (history : List BankEvent) → least_signalled origins history ≡ None
    → (rec : ℕ) → is_signalled_after origins history rec ≡ false
unfolding least_signalled
none_signals origins history h rec =
    elim (cases_lt rec (length origins)) as (λ _. is_signalled_after origins history rec ≡ false) [
      | inl within ↦
          none_passes (is_signalled_after origins history) 0 (length origins) h rec (omega arith) (omega arith)
      | inr past ↦ after_nowhere origins history rec past
    ]
