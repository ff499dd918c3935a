-- What some lines more leave of pages on their way to a sink.
use Rattle.std.proofs.Common.{◌≡◌, ℕ, suc, List, [], ◌∷◌, ◌++◌, length, Ok, Err, Result, Option, refl, sym, ap, ◌∙◌, append_assoc, append-nil, length-append, subst, arith}
use Rattle.std.specs.Result.{OnOk}
use Rattle.std.specs.Io.KnownBytes.{Appends}
use Rattle.std.proofs.KnownBytes.{Appends-trans, Appends-nil}
use Rattle.ras_io.specs.Causes.{AppendsFront, Rose, one_more}
use Rattle.ras_io.proofs.Puts.{AppendsFront-then, AppendsFront-of_more}
use Rattle.ras_io.specs.declared.faults.SinkFault.{SinkFault}
use Rattle.board_plan.specs.Text.{bytes_of}
use Rattle.board_report.specs.Writing.{State, Wrote, Grows, many}

pub bytes_of-append : (xs ys : List (List ℕ)) → bytes_of (xs ++ ys) ≡ bytes_of xs ++ bytes_of ys
bytes_of-append [] ys = refl
bytes_of-append (x ∷ xs) ys = ap (λ bs. x ++ 10 ∷ bs) (bytes_of-append xs ys)
    ∙ sym (append_assoc x (10 ∷ bytes_of xs) (bytes_of ys))

many-more : (n : ℕ) (xs ys : List (List ℕ)) → many (many n (length xs)) (length ys) ≡ many n (length (xs ++ ys))
many-more n xs [] = ap (λ l. many n (length l)) (sym (append-nil xs))
many-more n xs (y ∷ ys) =
    let longer : suc (length (xs ++ ys)) ≡ length (xs ++ y ∷ ys) = omega (
      arith,
      length-append xs
          (y ∷ ys),
      length-append xs ys,
    ) in
    ap one_more (many-more n xs ys) ∙ ap (λ (k : ℕ). many n k) longer

-- as many writes under another name
pub as-many : (o : Result (Unit {0}) SinkFault) (m n : ℕ) (xs ys : List (List ℕ)) → xs ≡ ys
    → OnOk o (m ≡ many n (length xs)) → OnOk o (m ≡ many n (length ys))
as-many (Ok u) m n xs ys e h = h ∙ ap (λ (ls : List (List ℕ)). many n (length ls)) e
as-many (Err x) m n xs ys e h = tt

-- how far pages are
abbrev at : Option (List ℕ) → ℕ → ℕ → Result (Unit {0}) SinkFault → State
at w f n o = record { written = w; faults = f; writes = n; outcome = o }

-- nothing was to be written
pub grows-nil : (a : State) → Grows a a []
grows-nil a = go a.written a.faults a.writes a.outcome
  where
    go : (w : Option (List ℕ)) (f n : ℕ) (o : Result (Unit {0}) SinkFault) → Grows (at w f n o) (at w f n o) []
    go w f n (Ok u) =
        record {
          all = record {
            bytes = record { all = Appends-nil w; front = tt };
            cause = record { later = omega arith; failed = tt; kept = refl };
            writes = refl;
          };
          still = tt;
        }
    go w f n (Err e) = record { all = tt; still = refl }

-- some lines more, and then others
pub grows-then : (a b d : State) (xs ys : List (List ℕ)) → Grows a b xs → Grows b d ys → Grows a d (xs ++ ys)
grows-then a b d xs ys p q =
    go a.written b.written d.written a.faults b.faults d.faults a.writes b.writes d.writes a.outcome b.outcome d.outcome
    p q
  where
    whole : (v w : Option (List ℕ)) → Appends v w (bytes_of xs ++ bytes_of ys) → Appends v w (bytes_of (xs ++ ys))
    whole v w h = subst (Appends v w) (sym (bytes_of-append xs ys)) h

    front : (v w : Option (List ℕ)) → AppendsFront v w (bytes_of xs ++ bytes_of ys)
        → AppendsFront v w (bytes_of (xs ++ ys))
    front v w h = subst (AppendsFront v w) (sym (bytes_of-append xs ys)) h

    go : (u v w : Option (List ℕ)) (f g h k m n : ℕ) (o r s : Result (Unit {0}) SinkFault)
        → Grows (at u f k o) (at v g m r) xs → Grows (at v g m r) (at w h n s) ys
        → Grows (at u f k o) (at w h n s) (xs ++ ys)
    go u v w f g h k m n (Err e) r s p q = record {
      all = tt;
      still = (subst (λ t. Grows t
          (at w h n s) ys) p.still q).still;
    }
    go u v w f g h k m n (Ok i) (Err e) s p q =
        let ended : Wrote (at u f k (Ok i)) (at v g m (Err e)) (xs ++ ys) = record {
          bytes = record {
            all = tt;
            front = front u v (AppendsFront-of_more u v (bytes_of xs)
                (bytes_of ys) p.all.bytes.front);
          };
          cause = p.all.cause;
          writes = tt;
        } in
        record { all = subst (λ t. Wrote (at u f k (Ok i)) t (xs ++ ys)) (sym q.still) ended; still = tt }
    go u v w f g h k m n (Ok i) (Ok j) (Err e) p q =
        record {
          all = record {
            bytes = record {
              all = tt;
              front = front u w (AppendsFront-then u v w (bytes_of xs)
                  (bytes_of ys) p.all.bytes.all q.all.bytes.front);
            };
            cause = record {
              later = omega (arith, p.all.cause.later, q.all.cause.later);
              failed = subst
                  (λ t. Rose t h) p.all.cause.kept q.all.cause.failed;
              kept = tt;
            };
            writes = tt;
          };
          still = tt;
        }
    go u v w f g h k m n (Ok i) (Ok j) (Ok l) p q =
        record {
          all = record {
            bytes = record {
              all = whole u w (Appends-trans u v w (bytes_of xs)
                  (bytes_of ys) p.all.bytes.all q.all.bytes.all);
              front = tt;
            };
            cause = record {
              later = omega (arith, p.all.cause.later, q.all.cause.later);
              failed = tt;
              kept = q.all.cause.kept ∙ p.all.cause.kept;
            };
            writes = q.all.writes ∙ ap (λ t. many t (length ys)) p.all.writes ∙ many-more k xs ys;
          };
          still = tt;
        }
