-- Two outputs, one behind the other.
use Rattle.std.proofs.Common.{◌≡◌, ℕ, List, ◌++◌, Ok, Err, Result, Option, sym, subst}
use Rattle.std.proofs.KnownBytes.{Appends-trans}
use Rattle.ras_io.specs.Causes.{AppendsFront, Puts}
use Rattle.ras_io.specs.declared.faults.SinkFault.{SinkFault}
use Rattle.board_run.specs.declared.status.Status.{Status}
use Rattle.board_run.specs.Parts.{Writes, status_of}
use Rattle.ras_io.proofs.Puts.{AppendsFront-then, AppendsFront-of_more}

-- the first was written, and then the second, whatever came of that
joined : {T U E : Type 0} (a b d : Option (List ℕ)) (xs ys : List ℕ) (u : T) (r : Result U E) →
    Puts {E = E} a b (Ok u) xs → Puts b d r ys → Puts a d r (xs ++ ys)
joined a b d xs ys u (Ok v) p q = record { all = Appends-trans a b d xs ys p.all q.all; front = tt }
joined a b d xs ys u (Err e) p q = record { all = tt; front = AppendsFront-then a b d xs ys p.all q.front }

-- the same for the answer that tells of it
pub joined_status : (a b d : Option (List ℕ)) (xs ys : List ℕ) (o r : Result (Unit {0}) SinkFault) (u : Unit {0})
    (status : Status) → o ≡ Ok u → status ≡ status_of r → Puts a b o xs → Puts b d r ys
    → Writes (xs ++ ys) a d status
joined_status a b d xs ys o r u status is ended p q =
    subst (Writes (xs ++ ys) a d) (sym ended)
    (go r (joined a b d xs ys u r (subst (λ s. Puts a b s xs) is p) q))
  where
    go : (r : Result (Unit {0}) SinkFault) → Puts a d r (xs ++ ys) → Writes (xs ++ ys) a d (status_of r)
    go (Ok v) p = p.all
    go (Err e) p = p.front

-- the first failed: the second isn't written
pub broken_off : (a b : Option (List ℕ)) (xs ys : List ℕ) (o : Result (Unit {0}) SinkFault) (e : SinkFault)
    → o ≡ Err e → Puts a b o xs → AppendsFront a b (xs ++ ys)
broken_off a b xs ys o e is p = AppendsFront-of_more a b xs ys (subst (λ s. Puts a b s xs) is p).front
