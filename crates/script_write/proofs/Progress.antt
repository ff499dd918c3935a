-- What is written of some bytes, and what is left.
use Rattle.std.proofs.Common.{◌≡◌, ℕ, List, [], ◌++◌, Ok, Err, Result, Option, refl, sym, ◌∙◌, append_assoc, append-nil, subst}
use Rattle.std.specs.Io.KnownBytes.{Appends}
use Rattle.std.proofs.KnownBytes.{Appends-trans, Appends-nil}
use Rattle.ras_io.specs.Causes.{Puts, AppendsFront}
use Rattle.ras_io.proofs.Puts.{AppendsFront-then, AppendsFront-of_more}

-- from a on some of the bytes went to b, and the rest is left
pub record Progress (a b : Option (List ℕ)) (all rest : List ℕ) : Type 0 where
  pub done : List ℕ
  pub appended : Appends a b done
  pub whole : all ≡ done ++ rest

pub progress-start : (a : Option (List ℕ)) (all : List ℕ) → Progress a a all all
progress-start a all = record { done = []; appended = Appends-nil a; whole = refl }

-- another part of them went
pub progress-more : {E : Type 0} (a b d : Option (List ℕ)) (all part rest : List ℕ) (u : Unit {0}) →
    Progress a b all (part ++ rest) → Puts {E = E} b d (Ok u) part → Progress a d all rest
progress-more a b d all part rest u p q =
    record {
      done = p.done ++ part;
      appended = Appends-trans a b d p.done part p.appended q.all;
      whole = p.whole
          ∙ sym (append_assoc p.done part rest);
    }

-- a fault leaves a front of them
pub progress-fault : {T E : Type 0} (a b d : Option (List ℕ)) (all part rest : List ℕ) (e : E) →
    Progress a b all (part ++ rest) → Puts {T = T} b d (Err e) part → Puts {T = T} a d (Err e) all
progress-fault {T} {E} a b d all part rest e p q =
    record {
      all = tt;
      front = subst (AppendsFront a d) (sym p.whole)
          (AppendsFront-then a b d p.done (part ++ rest) p.appended (AppendsFront-of_more b d part rest q.front));
    }

-- nothing is left
pub progress-end : {E : Type 0} (a b : Option (List ℕ)) (all : List ℕ) (u : Unit {0}) → Progress a b all [] →
    Puts {E = E} a b (Ok u) all
progress-end a b all u p =
    record { all = subst (Appends a b) (sym (p.whole ∙ append-nil p.done)) p.appended; front = tt }

-- the last part, whatever came of it
pub progress-last : {T E : Type 0} (a b d : Option (List ℕ)) (r : Result T E) (all part : List ℕ) →
    Progress a b all part → Puts b d r part → Puts a d r all
progress-last a b d (Ok v) all part p q =
    record { all = subst (Appends a d) (sym p.whole) (Appends-trans a b d p.done part p.appended q.all); front = tt }
progress-last a b d (Err e) all part p q =
    record {
      all = tt;
      front =
          subst (AppendsFront a d) (sym p.whole) (AppendsFront-then a b d p.done part p.appended q.front);
    }

-- the rest said in other words
pub progress-same : (a b : Option (List ℕ)) (all rest other : List ℕ) → rest ≡ other → Progress a b all rest →
    Progress a b all other
progress-same a b all rest other e p = subst (Progress a b all) e p

-- an exit at a fault that is passed on
pub progress-exit : {T U E : Type 0} (a b d : Option (List ℕ)) (all part rest : List ℕ) (e f : E) (r : Result U E) → r
    ≡ Err f → Progress a b all (part ++ rest) → Puts {T = T} b d (Err e) part → Puts a d r all
progress-exit {T} {U} {E} a b d all part rest e f r is p q =
    subst (λ (s : Result U E). Puts a d s all) (sym is)
    (record {
      all = tt;
      front =
          subst (AppendsFront a d) (sym p.whole)
          (AppendsFront-then a b d p.done (part ++ rest) p.appended (AppendsFront-of_more b d part rest q.front));
    })
