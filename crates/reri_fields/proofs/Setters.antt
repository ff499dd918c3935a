-- The fields of a word, and its bits outside the fields, after one place of it was set.
use Rattle.std.proofs.Common.{◌≡◌, ℕ, ◌^◌, ◌<◌, Bool, true, false, refl, ◌∙◌, ap, lit<}
use Rattle.std.specs.Prelude.{◌==◌, ◌&&◌, if◌then◌else◌}
use Rattle.std.proofs.Common.{inl, inr}
use Rattle.std.proofs.lemmas.Bool.{and_parts, cases_Bool, eqb-true}
use Rattle.std.proofs.Math.Path.{fun_ext}
use Rattle.reri_fields.specs.Fields.{bits, with_bits, flag, ControlFields, control_fields, control_spare, StatusFields, status_fields, status_spare}
use Rattle.reri_fields.proofs.Places.{patched, read_at, reads, at_it, is_apart, apart}

-- the fields of a word that is known by the numbers and the flags in it
abbrev pub control_read : (ℕ → ℕ → ℕ) → (ℕ → Bool) → ControlFields
control_read read test = record {
  enable = test 0;
  counting = test 1;
  ce_signal = read 2 2;
  ued_signal = read 4 2;
  uec_signal = read 6 2;
}

abbrev pub status_read : (ℕ → ℕ → ℕ) → (ℕ → Bool) → StatusFields
status_read read test = record {
  valid = test 0;
  ce = test 1;
  ued = test 2;
  uec = test 3;
  priority = read 4 2;
  multiple = test 6;
  in_progress = test 7;
  overflow = test 8;
  code = read 16 8;
  count = read 32 16;
}

-- the flag at a place after the flag at a place was set
abbrev pub flag_patched : ℕ → ℕ → Bool → ℕ → Bool
flag_patched word place value at = if at == place then value else
    (patched word place 1 (if value then 1 else 0) at 1 == 1)

number_fits : (value : Bool) → (if value then 1 else 0) < 2 ^ 1
number_fits true = lit< tt
number_fits false = lit< tt

flag_back : (word place : ℕ) (value : Bool) → flag (with_bits word place 1 (if value then 1 else 0)) place ≡ value
unfolding flag
flag_back word place true = ap (λ n. n == 1) (at_it word place 1 1 (lit< tt))
flag_back word place false = ap (λ n. n == 1) (at_it word place 1 0 (lit< tt))

flag_read_at : (word place : ℕ) (value : Bool) (at : ℕ) → flag (with_bits word place 1 (if value then 1 else 0)) at
    ≡ flag_patched word place value at
unfolding flag
flag_read_at word place value at =
    elim (cases_Bool (at == place)) [
      | inl same ↦ rw same (rw (eqb-true at place same) (flag_back word place value))
      | inr other ↦ rw other (ap (λ n. n == 1) (read_at word place 1 (if value then 1 else 0) at 1 (number_fits value)))
    ]

flag_reads : (word place : ℕ) (value : Bool) → flag (with_bits word place 1 (if value then 1 else 0))
    ≡ flag_patched word place value
flag_reads word place value = fun_ext (λ at. flag_read_at word place value at)

pub control_after : (word low width value : ℕ) → value < 2 ^ width → control_fields (with_bits word low width value)
    ≡ control_read (patched word low width value) (λ at. patched word low width value at 1 == 1)
unfolding control_fields flag
control_after word low width value fits = ap (λ read. control_read read (λ at. read at 1 == 1))
    (reads word low width value fits)

pub status_after : (word low width value : ℕ) → value < 2 ^ width → status_fields (with_bits word low width value)
    ≡ status_read (patched word low width value) (λ at. patched word low width value at 1 == 1)
unfolding status_fields flag
status_after word low width value fits = ap (λ read. status_read read (λ at. read at 1 == 1))
    (reads word low width value fits)

pub control_flag_after : (word place : ℕ) (value : Bool)
    → control_fields (with_bits word place 1 (if value then 1 else 0))
    ≡ control_read (patched word place 1 (if value then 1 else 0)) (flag_patched word place value)
unfolding control_fields
control_flag_after word place value =
    ap (λ read. control_read read (flag (with_bits word place 1 (if value then 1 else 0))))
    (reads word place 1 (if value then 1 else 0) (number_fits value))
    ∙ ap (λ test. control_read (patched word place 1 (if value then 1 else 0)) test) (flag_reads word place value)

pub status_flag_after : (word place : ℕ) (value : Bool)
    → status_fields (with_bits word place 1 (if value then 1 else 0))
    ≡ status_read (patched word place 1 (if value then 1 else 0)) (flag_patched word place value)
unfolding status_fields
status_flag_after word place value =
    ap (λ read. status_read read (flag (with_bits word place 1 (if value then 1 else 0))))
    (reads word place 1 (if value then 1 else 0) (number_fits value))
    ∙ ap (λ test. status_read (patched word place 1 (if value then 1 else 0)) test) (flag_reads word place value)

-- the fields of a word as they are read
pub control_is : (word : ℕ) → control_fields word ≡ control_read (bits word) (λ at. bits word at 1 == 1)
unfolding control_fields flag
control_is word = refl

pub status_is : (word : ℕ) → status_fields word ≡ status_read (bits word) (λ at. bits word at 1 == 1)
unfolding status_fields flag
status_is word = refl

pub control_spare_after : (word low width value : ℕ) → value < 2 ^ width → is_apart 8 56 low width ≡ true
    → control_spare (with_bits word low width value) ≡ control_spare word
unfolding control_spare
control_spare_after word low width value fits h = apart word low width value 8 56 fits h

pub status_spare_after : (word low width value : ℕ) → value < 2 ^ width
    → (is_apart 9 7 low width && is_apart 24 8 low width && is_apart 48 16 low width) ≡ true
    → status_spare (with_bits word low width value) ≡ status_spare word
unfolding status_spare
status_spare_after word low width value fits h =
    let first : (is_apart 9 7 low width && is_apart 24 8 low width)
    ≡ true = (and_parts (is_apart 9 7 low width && is_apart 24 8 low width) (is_apart 48 16 low width) h).0 in
    let at_9 : bits (with_bits word low width value) 9 7
    ≡ bits word 9 7 = apart word low width value 9 7 fits
    (and_parts (is_apart 9 7 low width) (is_apart 24 8 low width) first).0 in
    let at_24 : bits (with_bits word low width value) 24 8
    ≡ bits word 24 8 = apart word low width value 24 8 fits
    (and_parts (is_apart 9 7 low width) (is_apart 24 8 low width) first).1 in
    let at_48 : bits (with_bits word low width value) 48 16
    ≡ bits word 48 16 = apart word low width value 48 16 fits
    (and_parts (is_apart 9 7 low width && is_apart 24 8 low width) (is_apart 48 16 low width) h).1 in
    cc

-- a word after one of its fields was set
pub ruleset control_set = (control_is, control_after, control_flag_after, control_spare_after)

pub ruleset status_set = (status_is, status_after, status_flag_after, status_spare_after)
