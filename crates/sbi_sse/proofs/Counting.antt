-- How often an instance stands in a list.
use Rattle.std.proofs.Common.{◌≡◌, ℕ, zero, suc, ◌+◌, ◌<◌, ◌≤◌, true, false, List, [], ◌∷◌, ◌++◌, length, get_or, set, refl, ap, sym, ◌∙◌, arith, inl, inr, zero-le}
use Rattle.std.specs.Prelude.{filter, if◌then◌else◌}
use Rattle.std.proofs.lemmas.Bool.{cases_Bool}
use Rattle.sse_base.specs.declared.ids.Instance.{Instance}
use Rattle.sse_base.specs.Ids.{same_instance, place, may_run_on}
use Rattle.sse_base.specs.Contexts.{Frame, Stack, bit}
use Rattle.sse_base.proofs.Instances.{same_self, same_is}
use Rattle.sbi_sse.specs.Kept.{times, ats, running}

pub times_append : (x : Instance) (xs ys : List Instance) → times x (xs ++ ys) ≡ times x xs + times x ys
times_append x [] ys = omega arith
times_append x (y ∷ xs) ys = omega (arith, times_append x xs ys)

-- an exchange of one hart's frames
pub exchange : (x : Instance) (ss : List Stack) (h : ℕ) (d s : Stack) → h < length ss →
    times x (running (set ss h s)) + times x (ats (get_or ss h d).frames)
    ≡ times x (running ss) + times x (ats s.frames)
exchange x [] h d s l = absurd (omega arith)
exchange x (r ∷ ss) zero d s l =
    omega (arith, times_append x (ats s.frames) (running ss), times_append x (ats r.frames) (running ss))
exchange x (r ∷ ss) (suc h) d s l =
    omega (
      arith,
      times_append x (ats r.frames) (running ss),
      times_append x (ats r.frames) (running (set ss h s)),
      exchange x ss h d s (omega arith),
    )

-- a hart's frames are some of all frames
pub part_of_running : (x : Instance) (ss : List Stack) (h : ℕ) (d : Stack) → h < length ss →
    times x (ats (get_or ss h d).frames) ≤ times x (running ss)
part_of_running x [] h d l = absurd (omega arith)
part_of_running x (r ∷ ss) zero d l = omega (arith, times_append x (ats r.frames) (running ss))
part_of_running x (r ∷ ss) (suc h) d l =
    omega (arith, times_append x (ats r.frames) (running ss), part_of_running x ss h d (omega arith))

pub ats_length : (fs : List Frame) → length (ats fs) ≡ length fs
ats_length [] = refl
ats_length (f ∷ fs) = ap suc (ats_length fs)

-- what has a place stands in the list
pub placed_stands : (x : Instance) (ys : List Instance) → place x ys < length ys → 0 < times x ys
placed_stands x [] l = absurd (omega arith)
placed_stands x (y ∷ ys) l =
    elim (cases_Bool (same_instance y x)) [
      | inl e ↦ rw e (omega arith)
      | inr e ↦
          let p : place x (y ∷ ys) ≡ suc (place x ys) = rw e refl
          in omega (arith, placed_stands x ys (omega (arith, p)))
    ]

-- and the other way round
pub standing_placed : (x : Instance) (ys : List Instance) → 0 < times x ys → place x ys < length ys
standing_placed x [] l = absurd (omega arith)
standing_placed x (y ∷ ys) l =
    elim (cases_Bool (same_instance y x)) [
      | inl e ↦ rw e (omega arith)
      | inr e ↦
          let m : bit false + times x ys ≡ bit (same_instance y x) + times x ys = rw e refl
          in rw e (omega (arith, standing_placed x ys (omega arith)))
    ]

-- two instances at one place are one
pub same_place : (x y : Instance) (zs : List Instance) → place x zs ≡ place y zs → place y zs < length zs
    → same_instance y x ≡ true
same_place x y [] e l = absurd (omega arith)
same_place x y (z ∷ zs) e l =
    elim (cases_Bool (same_instance z x)) [
      | inl p ↦ elim (cases_Bool (same_instance z y)) [
        | inl q ↦
            let r : y ≡ x = sym (same_is z y q) ∙ same_is z x p
            in ap (λ w. same_instance w x) r ∙ same_self x
        | inr q ↦
            let a : place x (z ∷ zs) ≡ 0 = rw p refl
            in let b : place y (z ∷ zs) ≡ suc (place y zs) = rw q refl
            in absurd (omega arith)
      ]
      | inr p ↦ elim (cases_Bool (same_instance z y)) [
        | inl q ↦
            let a : place x (z ∷ zs) ≡ suc (place x zs) = rw p refl
            in let b : place y (z ∷ zs) ≡ 0 = rw q refl
            in absurd (omega arith)
        | inr q ↦
            let a : place x (z ∷ zs) ≡ suc (place x zs) = rw p refl
            in let b : place y (z ∷ zs) ≡ suc (place y zs) = rw q refl
            in same_place x y zs (omega arith) (omega arith)
      ]
    ]

-- A list in which nothing stands more often than in another one is no longer than it.

abbrev without : Instance → List Instance → List Instance
without x [] = []
without x (y ∷ ys) = if same_instance y x then ys else y ∷ without x ys

without_length : (x : Instance) (ys : List Instance) → 0 < times x ys → length ys ≡ suc (length (without x ys))
without_length x [] l = absurd (omega arith)
without_length x (y ∷ ys) l =
    elim (cases_Bool (same_instance y x)) [
      | inl e ↦ rw e refl
      | inr e ↦
          let m : bit false + times x ys ≡ bit (same_instance y x) + times x ys = rw e refl
          in rw e (ap suc (without_length x ys (omega arith)))
    ]

without_times : (x z : Instance) (ys : List Instance) → 0 < times x ys →
    times z ys ≡ bit (same_instance x z) + times z (without x ys)
without_times x z [] l = absurd (omega arith)
without_times x z (y ∷ ys) l =
    elim (cases_Bool (same_instance y x)) [
      | inl e ↦
          let s : y ≡ x = same_is y x e
          in rw e (ap (λ w. bit (same_instance w z) + times z ys) s)
      | inr e ↦
          let m : bit false + times x ys ≡ bit (same_instance y x) + times x ys = rw e refl
          in rw e (omega (arith, without_times x z ys (omega arith)))
    ]

pub no_longer : (xs ys : List Instance) → ((z : Instance) → times z xs ≤ times z ys) → length xs ≤ length ys
no_longer [] ys h = zero-le
no_longer (x ∷ xs) ys h =
    let s : bit (same_instance x x) ≡ 1 = rw (same_self x) refl
    in let p : 0 < times x ys = omega (arith, h x)
    in let r : length xs ≤ length (without x ys) =
    no_longer xs (without x ys) (λ z. omega (arith, h z, without_times x z ys p))
    in omega (arith, without_length x ys p)

-- what passes a test stands among those that pass
pub passing : (h : ℕ) (z : Instance) (ys : List Instance) → may_run_on h z ≡ true
    → times z ys ≤ times z (filter (may_run_on h) ys)
passing h z [] p = omega arith
passing h z (y ∷ ys) p =
    elim (cases_Bool (same_instance y z)) [
      | inl e ↦
          let s : y ≡ z = same_is y z e
          in let q : may_run_on h y ≡ true = ap (may_run_on h) s ∙ p
          in rw q (omega (arith, passing h z ys p))
      | inr e ↦
          elim (cases_Bool (may_run_on h y)) [
            | inl q ↦ rw q (omega (arith, passing h z ys p))
            | inr q ↦ rw (q, e) (omega (arith, passing h z ys p))
          ]
    ]
