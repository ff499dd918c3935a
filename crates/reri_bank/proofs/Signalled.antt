-- A record is signalled, told from its registers, exactly where its history says so.
use Rattle.std.proofs.Common.{◌≡◌, ℕ, ◌<◌, ◌≤◌, Bool, false, nat_lt, List, length, slice_get, get_or, Option, Some, None, refl, inl, inr, sym, ◌∙◌, arith}
use Rattle.std.proofs.lemmas.Bool.{cases_lt}
use Rattle.std.proofs.lemmas.Option.{slice_get_past, slice_get-get_or}
use Rattle.reri_fields.specs.declared.report.RecordCopy.{RecordCopy}
use Rattle.reri_fields.specs.Records.{Origin}
use Rattle.reri_fields.specs.Banks.{BankEvent, BankView, BankStands, events_of, level_after, is_signalled_after, is_signalled, is_signalled_at, IsLeast}
use Rattle.reri_log.proofs.Levels.{signal_is}
use Rattle.reri_bank.proofs.Stands.{get_there}

pub signalled_there : (copies : List RecordCopy) (at : ℕ) (copy : RecordCopy) → slice_get copies at ≡ Some copy
    → is_signalled_at copies at ≡ is_signalled copy
unfolding is_signalled_at
signalled_there copies at copy h = rw h refl

-- the same of the record that a loop has come to
pub signalled_read : (copies : List RecordCopy) (at : ℕ) (other : RecordCopy) → at < length copies
    → is_signalled_at copies at ≡ is_signalled (get_or copies at other)
signalled_read copies at other h = signalled_there copies at (get_or copies at other)
    (slice_get-get_or copies at other h)

pub signalled_nowhere : (copies : List RecordCopy) (at : ℕ) → length copies ≤ at → is_signalled_at copies at ≡ false
unfolding is_signalled_at
signalled_nowhere copies at h = rw (slice_get_past copies at h) refl

pub after_there : (origins : List Origin) (history : List BankEvent) (at : ℕ) (origin : Origin)
    → slice_get origins at ≡ Some origin → is_signalled_after origins history at
    ≡ nat_lt 0 (level_after origin (events_of at history))
unfolding is_signalled_after
after_there origins history at origin h = rw h refl

pub after_nowhere : (origins : List Origin) (history : List BankEvent) (at : ℕ) → length origins ≤ at
    → is_signalled_after origins history at ≡ false
unfolding is_signalled_after
after_nowhere origins history at h = rw (slice_get_past origins at h) refl

-- the registers and the history name the same records
pub signalled_is : (origins : List Origin) (history : List BankEvent) (bank : BankView)
    → BankStands origins history bank → (at : ℕ) → is_signalled_at bank.copies at
    ≡ is_signalled_after origins history at
signalled_is origins history bank s at =
    elim (cases_lt at (length bank.copies)) as (λ _. is_signalled_at bank.copies at
    ≡ is_signalled_after origins history at) [
      | inl within ↦
          let copy = get_there bank.copies at within in
          let origin = get_there origins at (omega (arith, s.count)) in
          signalled_there bank.copies at copy.0 copy.1
          ∙ signal_is origin.0 (events_of at history) copy.0 (s.each at origin.0 copy.0 origin.1 copy.1)
          ∙ sym (after_there origins history at origin.0 origin.1)
      | inr past ↦ signalled_nowhere bank.copies at past
          ∙ sym (after_nowhere origins history at (omega (arith, s.count)))
    ]

pub least_same : (f g : ℕ → Bool) (found : Option ℕ) → ((at : ℕ) → f at ≡ g at) → IsLeast f found → IsLeast g found
least_same f g None same h = λ at. sym (same at) ∙ h at
least_same f g (Some least) same h = (sym (same least) ∙ h.0, λ at below. sym (same at) ∙ h.1 at below)
