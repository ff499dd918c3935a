-- Whether some copy is of a kind, and how many are; and Block Status as the sum of its two kinds.
use Rattle.std.proofs.Common.{◌≡◌, ℕ, ◌+◌, ◌*◌, Bool, true, false, List, [], ◌∷◌, length, refl, ap, ◌∙◌, arith}
use Rattle.std.proofs.lemmas.List.Sums.{length-filter}
use Rattle.std.specs.Prelude.{if◌then◌else◌, ◌||◌, nat_lt, count_by, filter}
use Rattle.std.specs.List.{list_any}
use Rattle.std.proofs.lemmas.Bool.Decides.{nat_tests}
use Rattle.reri_fields.specs.declared.report.RecordCopy.{RecordCopy}
use Rattle.reri_fields.specs.Block.{block_status, are_several, is_corrected, is_uncorrected}
use Rattle.ghes_block.specs.Sections.{is_of, is_repeated}

one_more_counted : (b rest : Bool) (copy : RecordCopy) (copies : List RecordCopy) → rest ≡ nat_lt 0 (length copies) →
    (b || rest) ≡ nat_lt 0 (length (if b then copy ∷ copies else copies))
one_more_counted true rest copy copies e = grind (arith, nat_tests)
one_more_counted false rest copy copies e = e

any_filtered : (test : RecordCopy → Bool) (copies : List RecordCopy)
    → list_any test copies ≡ nat_lt 0 (length (filter test copies))
any_filtered test [] = refl
any_filtered test (copy ∷ copies) =
    one_more_counted (test copy) (list_any test copies) copy (filter test copies) (any_filtered test copies)

pub any_counted : (test : RecordCopy → Bool) (copies : List RecordCopy)
    → list_any test copies ≡ nat_lt 0 (count_by test copies)
any_counted test copies = any_filtered test copies ∙ ap (nat_lt 0) (length-filter test copies)

sum_of_bits : (a b c d : Bool) (n : ℕ) →
    (if a then 1 else 0) + (if c then 4 else 0) + 2 * ((if b then 1 else 0) + (if d then 4 else 0)) + n
    ≡ (if a then 1 else 0) + (if b then 2 else 0) + (if c then 4 else 0) + (if d then 8 else 0) + n
sum_of_bits true true true true n = omega arith
sum_of_bits true true true false n = omega arith
sum_of_bits true true false true n = omega arith
sum_of_bits true true false false n = omega arith
sum_of_bits true false true true n = omega arith
sum_of_bits true false true false n = omega arith
sum_of_bits true false false true n = omega arith
sum_of_bits true false false false n = omega arith
sum_of_bits false true true true n = omega arith
sum_of_bits false true true false n = omega arith
sum_of_bits false true false true n = omega arith
sum_of_bits false true false false n = omega arith
sum_of_bits false false true true n = omega arith
sum_of_bits false false true false n = omega arith
sum_of_bits false false false true n = omega arith
sum_of_bits false false false false n = omega arith

-- several of a kind: more than one, or one of which several errors came
pub several_is : (corrected : Bool) (copies : List RecordCopy) →
    are_several (is_of corrected) copies ≡ (nat_lt 1 (count_by (is_of corrected) copies)
    || list_any (is_repeated corrected) copies)
unfolding is_repeated are_several
several_is corrected copies = refl

pub status_is : (copies : List RecordCopy) →
    (if list_any (is_of false) copies then 1 else 0) + (if are_several (is_of false) copies then 4 else 0)
    + 2 * ((if list_any (is_of true) copies then 1 else 0) + (if are_several (is_of true) copies then 4
    else 0)) + 16 * length copies
    ≡ block_status copies
unfolding is_of block_status
status_is copies =
    sum_of_bits (list_any is_uncorrected copies) (list_any is_corrected copies) (are_several is_uncorrected copies)
    (are_several is_corrected copies) (16 * length copies)
