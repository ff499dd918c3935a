-- What is at hand when an act was handed on.
use Rattle.std.proofs.Common.{◌≡◌, ◌<◌, nat_lt, Bool, true, false, List, [], ◌∷◌, ◌++◌, length, slice_get, Option, Some, None, refl, sym, ap, ◌∙◌, append_assoc, arith}
use Rattle.std.proofs.lemmas.Bool.{cond-true}
use Rattle.std.proofs.lemmas.Bool.Decides.{nat_tests}
use Rattle.std.specs.Prelude.{if◌then◌else◌}
use Rattle.std.proofs.lemmas.Option.{none-some, same_Some}
use Rattle.ras_device.specs.declared.act.Act.{Act}
use Rattle.board_lock.specs.Hand.{Hand, Stays, act_at_hand, asked, first_of, moved, moved_by, next_of, whole}

-- ---- The next act ----

at_next : (xs ys : List Act) → slice_get (xs ++ ys) (length xs) ≡ first_of ys
at_next [] [] = refl
at_next [] (y ∷ ys) = refl
at_next (x ∷ xs) ys = at_next xs ys

-- below the limit the next act is the one of all acts that comes after those that were handed on
pub next_whole : (w : Hand) → length w.handed < w.limit → act_at_hand w ≡ slice_get (whole w) (length w.handed)
next_whole w low = go w.kept
  where
    go : (kept : List Act) → next_of w kept ≡ slice_get (w.handed ++ (kept ++ w.left)) (length w.handed)
    go [] =
        let below : nat_lt (length w.handed) w.limit ≡ true = grind (arith, nat_tests) in
        cond-true (nat_lt (length w.handed) w.limit) (first_of w.left) None below
        ∙ sym (at_next w.handed w.left)
    go (a ∷ more) = sym (at_next w.handed (a ∷ (more ++ w.left)))

-- ---- The hand after it ----

pub record Moves (w v : Hand) (o : Option Act) : Type 0 where
  pub none : o ≡ None → v ≡ w
  pub some : (a : Act) → o ≡ Some a → v.handed ≡ w.handed ++ a ∷ []
  pub stays : Stays w v

pub stays_same : (w : Hand) → Stays w w
stays_same w = record { actor = refl; limit = refl; same = refl }

moves_none : (w : Hand) → Moves w w None
moves_none w = record { none = λ e. refl; some = λ a e. absurd (none-some a e); stays = stays_same w }

moves_kept : (w : Hand) (a : Act) (more : List Act) → w.kept ≡ a ∷ more
    → Moves w (record w { handed = w.handed ++ a ∷ []; kept = more }) (Some a)
moves_kept w a more is =
    record {
      none = λ e. absurd (none-some a (sym e));
      some = λ x e. ap (λ y. w.handed ++ y ∷ []) (same_Some a x e);
      stays = record {
        actor = refl;
        limit = refl;
        same = append_assoc w.handed (a ∷ []) (more ++ w.left)
            ∙ ap (λ (ks : List Act). w.handed ++ (ks ++ w.left)) (sym is);
      };
    }

moves_left : (w : Hand) (a : Act) (rest : List Act) → w.kept ≡ [] → w.left ≡ a ∷ rest
    → Moves w (record w { handed = w.handed ++ a ∷ []; left = rest }) (Some a)
moves_left w a rest none is =
    record {
      none = λ e. absurd (none-some a (sym e));
      some = λ x e. ap (λ y. w.handed ++ y ∷ []) (same_Some a x e);
      stays = record {
        actor = refl;
        limit = refl;
        same = ap (λ (ks : List Act). (w.handed ++ a ∷ []) ++ (ks ++ rest)) none
            ∙ append_assoc w.handed (a ∷ []) rest
            ∙ ap (λ (ls : List Act). w.handed ++ ls) (sym is)
            ∙ ap (λ (ks : List Act). w.handed ++ (ks ++ w.left)) (sym none);
      };
    }

pub moves : (w : Hand) → Moves w (moved w) (act_at_hand w)
moves w = go w.kept refl
  where
    ask : (left : List Act) → w.kept ≡ [] → w.left ≡ left → Moves w (asked w left) (first_of left)
    ask [] none is = moves_none w
    ask (a ∷ rest) none is = moves_left w a rest none is

    below : (q : Bool) → w.kept ≡ []
        → Moves w (if q then asked w w.left else w) (if q then first_of w.left else None)
    below true none = ask w.left none refl
    below false none = moves_none w

    go : (kept : List Act) → w.kept ≡ kept → Moves w (moved_by w kept) (next_of w kept)
    go [] is = below (nat_lt (length w.handed) w.limit) is
    go (a ∷ more) is = moves_kept w a more is
