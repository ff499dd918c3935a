-- The registers of a record are determined by its history.
use Rattle.std.proofs.Common.{◌≡◌, ℕ, zero, suc, cond, List, ◌+◌, ◌*◌, ◌/◌, ◌%◌, ◌^◌, ◌<◌, refl, sym, ap, ◌∙◌, arith}
use Rattle.std.proofs.lemmas.Nat.{shr-shr}
use Rattle.std.proofs.Math.Nat.{div-add-mod, div-eq_of_lt}
use Rattle.std.specs.Prelude.{◌==◌}
use Rattle.reri_fields.specs.declared.report.RecordCopy.{RecordCopy}
use Rattle.reri_fields.specs.Fields.{bits, flag, bit_at, status_fields, status_spare, status_word}
use Rattle.reri_fields.specs.Records.{Event, Origin, Stands, status_after, copy_after}

-- what stands from one place up is the bits at that place and what stands above them
parts : (word low width : ℕ) → word / 2 ^ low ≡ word / 2 ^ (low + width) * 2 ^ width + bits word low width
unfolding bits
parts word low width =
    sym (div-add-mod (word / 2 ^ low) (2 ^ width))
    ∙ ap (λ n. 2 ^ width * n + word / 2 ^ low % 2 ^ width) (shr-shr word low width) ∙ omega arith

one_bit : (n : ℕ) → n < 2 → n ≡ cond (n == 1) 1 0
one_bit zero h = refl
one_bit (suc zero) h = refl
one_bit (suc (suc n)) h = absurd (omega arith)

bit_is : (word at : ℕ) → bits word at 1 * 2 ^ at ≡ bit_at at (flag word at)
unfolding flag bit_at bits
bit_is word at = ap (λ n. n * 2 ^ at) (one_bit (word / 2 ^ at % 2) (omega arith))

-- a status word is the sum of its fields, where no bit outside of them is set
pub word_is : (word : ℕ) → word < 2 ^ 64 → status_spare word ≡ (0, 0, 0) → word ≡ status_word (status_fields word)
unfolding status_word status_fields status_spare
word_is word fits spare =
    let first : bits word 9 7 ≡ 0 = ap (λ s. s.0) spare in
    let second : bits word 24 8 ≡ 0 = ap (λ s. s.1) spare in
    let third : bits word 48 16 ≡ 0 = ap (λ s. s.2) spare in
    let whole : word / 1 ≡ word = omega arith in
    let none : word / 2 ^ 64 ≡ 0 = div-eq_of_lt fits in
    omega (
      arith,
      first,
      second,
      third,
      whole,
      none,
      parts word 0 1,
      parts word 1 1,
      parts word 2 1,
      parts word 3 1,
      parts word 4 2,
      parts word 6 1,
      parts word 7 1,
      parts word 8 1,
      parts word 9 7,
      parts word 16 8,
      parts word 24
          8,
      parts word 32 16,
      parts word 48 16,
      bit_is word 0,
      bit_is word 1,
      bit_is word 2,
      bit_is word 3,
      bit_is word
          6,
      bit_is word 7,
      bit_is word 8,
    )

pub fields_are : (origin : Origin) (history : List Event) (copy : RecordCopy) → Stands origin history copy
    → status_fields copy.status ≡ status_after origin history
unfolding status_after
fields_are origin history copy s =
    λ i. record {
      valid = s.shows.valid i;
      ce = s.shows.ce i;
      ued = s.shows.ued i;
      uec = s.shows.uec i;
      priority = s.shows.priority i;
      multiple = s.shows.multiple i;
      in_progress = s.in_progress i;
      overflow = s.overflow i;
      code = s.shows.code i;
      count = s.count i;
    }

-- registers that stand for a history are those that the history gives
pub copy_is : (origin : Origin) (history : List Event) (copy : RecordCopy) → Stands origin history copy
    → copy.status < 2 ^ 64 → copy ≡ copy_after origin history
unfolding copy_after
copy_is origin history copy s fits =
    let word = word_is copy.status fits s.others ∙ ap status_word (fields_are origin history copy s) in
    λ i. record {
      control = s.control i;
      status = word i;
      address = s.shows.address i;
      info = s.shows.info i;
      supplement = s.shows.supplement i;
      time = s.shows.time i;
    }
