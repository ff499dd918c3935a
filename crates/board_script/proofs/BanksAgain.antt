-- The canonical lines of banks make those banks.
use Rattle.std.proofs.Common.{◌≡◌, ℕ, suc, ◌+◌, ◌^◌, ◌<◌, ◌≤◌, ◌==◌, ◌⊎◌, inl, inr, Bool, true, false, not, if◌then◌else◌, List, [], ◌∷◌, ◌++◌, length, slice_get, slice_set, Option, Some, None, Ok, refl, sym, ap, ◌∙◌, arith, append_assoc, length-append, subst}
use Rattle.std.proofs.lemmas.Bool.{lt-ltb, eqb-true, eq-eqb, ne_eqb, or_from}
use Rattle.std.proofs.lemmas.List.{append-nil}
use Rattle.board_plan.specs.declared.plan.BankDecl.{BankDecl}
use Rattle.board_plan.specs.Words.{is}
use Rattle.board_plan.specs.Script.{Half, has_number, most_records, usual_gather, bank_of, with_bank, plat_of, with_plat, gather_of, with_gather, statement}
use Rattle.board_plan.specs.Canonical.{bank_line, plat_line, gather_line, plat_lines, has_gather, gather_lines, lines_of_bank, bank_lines}
use Rattle.board_script.proofs.Boards.{harts_few, records_few}
use Rattle.board_script.proofs.Chains.{Each, Each-more, Each-weaker}
use Rattle.board_script.proofs.Steps.{both_true}
use Rattle.board_script.proofs.Fits.{PlatFits, Where, GatherFits, BankFits, HeadFits, with_banks, with_gathered, fresh_one}
use Rattle.board_script.proofs.Texts.{IsLine, Makes, makes_none, makes_one, makes_both, makes_same, plain_decimal}
use Rattle.board_script.proofs.WordsAgain.{from_1_again, below_again, known_again, platform_id_again, scope_again, scope_plain}

-- ---- Lists ----

pub get_last : {X : Type 0} (xs : List X) (x : X) → slice_get (xs ++ x ∷ []) (length xs) ≡ Some x
get_last [] x = refl
get_last (y ∷ xs) x = get_last xs x

pub set_last : {X : Type 0} (xs : List X) (x y : X) → slice_set (xs ++ x ∷ []) (length xs) y ≡ xs ++ y ∷ []
set_last [] x y = refl
set_last (z ∷ xs) x y = ap (λ l. z ∷ l) (set_last xs x y)

pub last_within : {X : Type 0} (xs : List X) (x : X) → length xs < length (xs ++ x ∷ [])
last_within xs x = simp length-append (omega arith)

-- ---- A bank's first line ----

bank_again : (h : Half) (b : BankDecl) → b.home < h.plan.harts → b.home < 2 ^ 64 → 1 ≤ b.recs
    → b.recs ≤ most_records h.plan.version → length h.plan.banks < 4
    → statement h (bank_line b) ≡ Ok (with_banks h (h.plan.banks ++ fresh_one h b.home b.global b.recs ∷ []))
unfolding statement bank_line with_bank bank_of is
bank_again h b home small some few room =
    let recs : b.recs < 2 ^ 64 = omega (arith, records_few h.plan.version) in
    rw (
      below_again h.plan.harts b.home home small,
      scope_again b.global,
      from_1_again (most_records h.plan.version) b.recs some few recs,
      lt-ltb (length h.plan.banks) 4 room,
    ) refl

bank_is_line : (b : BankDecl) → b.home < 2 ^ 64 → b.recs < 2 ^ 64 → IsLine (bank_line b)
unfolding bank_line
bank_is_line b home recs =
    ((refl, (plain_decimal b.home home, (scope_plain b.global, (plain_decimal b.recs recs, tt)))), refl)

-- ---- Its platform event ----

-- a bank with this platform event
abbrev plated : BankDecl → Option ℕ → BankDecl
plated b o = record b { plat = o }

plat_again : (h : Half) (before : List BankDecl) (b : BankDecl) (id : ℕ) → length before < 2 ^ 64
    → PlatFits h.plan.events id
    → statement (with_banks h (before ++ plated b None ∷ [])) (plat_line (length before) id)
    ≡ Ok (with_banks h (before ++ plated b (Some id) ∷ []))
unfolding statement with_plat plat_of is
plat_again h before b id small f =
    rw (
      known_again (length (before ++ plated b None ∷ [])) (length before) (last_within before (plated b None)) small,
      platform_id_again id f.small f.is,
      f.there,
      get_last before (plated b None),
      set_last before (plated b None) (plated b (Some id)),
    ) refl

plat_is_line : (n id : ℕ) → n < 2 ^ 64 → id ≤ 0xffffffff → IsLine (plat_line n id)
plat_is_line n id small low = ((refl, (plain_decimal n small, (plain_decimal id (omega arith), tt))), refl)

plats_again : (h : Half) (before : List BankDecl) (b : BankDecl) (o : Option ℕ) → length before < 2 ^ 64
    → Where (PlatFits h.plan.events) o
    → Makes (with_banks h (before ++ plated b None ∷ [])) (plat_lines (length before) o)
    (with_banks h (before ++ plated b o ∷ []))
unfolding plat_lines
plats_again h before b None small f = makes_none _ _ refl
plats_again h before b (Some id) small f =
    makes_one _ (plat_line (length before) id) _ (plat_is_line (length before) id small f.small)
    (plat_again h before b id small f)

-- ---- Its gather number ----

abbrev gathering : BankDecl → ℕ → BankDecl
gathering b n = record b { gather = n }

gather_again : (h : Half) (before : List BankDecl) (b : BankDecl) (m n : ℕ) (gs : List ℕ) → h.plan.version ≡ 2
    → length before < 2 ^ 64 → 1 ≤ n → n ≤ 4 → has_number (length before) gs ≡ false
    → statement (with_gathered h (before ++ gathering b m ∷ []) gs) (gather_line (length before) n)
    ≡ Ok (with_gathered h (before ++ gathering b n ∷ []) (gs ++ length before ∷ []))
unfolding statement with_gather gather_of is
gather_again h before b m n gs two small some few fresh =
    let c = gathering b m in
    rw (
      eq-eqb h.plan.version 2 two,
      known_again (length (before ++ c ∷ [])) (length before) (last_within before c) small,
      from_1_again 4 n some few (omega arith),
      get_last before c,
      fresh,
      set_last before c (gathering b n),
    ) refl

gather_is_line : (n count : ℕ) → n < 2 ^ 64 → count ≤ 4 → IsLine (gather_line n count)
gather_is_line n count small low = ((refl, (plain_decimal n small, (plain_decimal count (omega arith), tt))), refl)

-- numbers below one aren't that one
below_fresh : (n : ℕ) (gs : List ℕ) → Each (λ g. g < n) gs → has_number n gs ≡ false
unfolding has_number
below_fresh n [] f = refl
below_fresh n (g ∷ gs) f =
    let low : g < n = f.0 in or_from _ _ (ne_eqb g n (λ e. omega (arith, e, low))) (below_fresh n gs f.1)

-- what makes the last bank gather so many, and which banks' numbers were given then
record Gathers (h : Half) (before : List BankDecl) (b : BankDecl) (n : ℕ) (gs : List ℕ)
    (wss : List (List (List ℕ))) : Type 0 where
  gathered : List ℕ
  below : Each (λ g. g < length before + 1) gathered
  makes : Makes (with_gathered h (before ++ gathering b (usual_gather h.plan.version) ∷ []) gs) wss
      (with_gathered h (before ++ gathering b n ∷ []) gathered)

four_is : (n : ℕ) → not (n == 4) ≡ false → n ≡ 4
four_is n e = is (n == 4) refl e
  where
    is : (b : Bool) → (n == 4) ≡ b → not b ≡ false → n ≡ 4
    is true same e = eqb-true n 4 same
    is false same e = cc

-- a bank without a line for it gathers the usual number
usual_is : (version n : ℕ) → (version ≡ 1) ⊎ (version ≡ 2) → (version ≡ 1 → n ≡ 1) → has_gather version n ≡ false
    → usual_gather version ≡ n
usual_is version n (inl one) is_one e = ap usual_gather one ∙ sym (is_one one)
usual_is version n (inr two) is_one e =
    ap usual_gather two ∙ sym (four_is n (ap (λ v. has_gather v n) (sym two) ∙ e))

gathers_again : (h : Half) (before : List BankDecl) (b : BankDecl) (n : ℕ) (gs : List ℕ)
    → (h.plan.version ≡ 1) ⊎ (h.plan.version ≡ 2) → length before < 2 ^ 64 → GatherFits h.plan.version n
    → Each (λ g. g < length before) gs
    → Gathers h before b n gs (gather_lines h.plan.version (length before) n)
unfolding gather_lines
gathers_again h before b n gs known small f below = at (has_gather h.plan.version n) refl
  where
    lower : Each (λ g. g < length before + 1) gs
    lower = Each-weaker _ _ (λ g low. omega arith) gs below

    at : (c : Bool) → has_gather h.plan.version n ≡ c
        → Gathers h before b n gs (if c then gather_line (length before) n ∷ [] else [])
    at true e =
        let two : h.plan.version ≡ 2 = eqb-true h.plan.version 2 (both_true _ _ e).0 in
        record {
          gathered = gs ++ length before ∷ [];
          below = Each-more _ gs (length before) lower (omega arith);
          makes = makes_one _ (gather_line (length before) n) _ (gather_is_line (length before) n small f.1)
              (gather_again h before b (usual_gather h.plan.version) n gs two small f.0 f.1
              (below_fresh (length before) gs below));
        }
    at false e =
        record {
          gathered = gs;
          below = lower;
          makes = makes_none _ _ (ap (λ m. with_gathered h (before ++ gathering b m ∷ []) gs)
              (usual_is h.plan.version n known f.2 e));
        }

-- ---- All banks ----

-- the banks that some lines add, and which banks' gather numbers were given then
pub record BanksMade (h : Half) (before bs : List BankDecl) (gs : List ℕ) : Type 0 where
  pub gathered : List ℕ
  pub makes : Makes (with_gathered h before gs) (bank_lines h.plan.version (length before) bs)
      (with_gathered h (before ++ bs) gathered)

bank_made : (h : Half) (before : List BankDecl) (b : BankDecl) (gs : List ℕ)
    → HeadFits h.plan.version h.plan.harts → length before < 4
    → BankFits h.plan.version h.plan.harts h.plan.events b → Each (λ g. g < length before) gs
    → (g : Gathers h before b b.gather gs (gather_lines h.plan.version (length before) b.gather))
    → Makes (with_gathered h before gs) (lines_of_bank h.plan.version (length before) b)
    (with_gathered h (before ++ b ∷ []) g.gathered)
unfolding lines_of_bank
bank_made h before b gs head room f below g =
    let version = h.plan.version in
    let n = length before in
    let home : b.home < 2 ^ 64 = omega (arith, f.home, head.few, harts_few version) in
    let recs : b.recs < 2 ^ 64 = omega (arith, f.few, records_few version) in
    let begun = with_gathered h before gs in
    let usual = gathering b (usual_gather version) in
    makes_both begun (with_gathered h (before ++ plated usual None ∷ []) gs) _ (bank_line b ∷ [])
    (plat_lines n b.plat ++ gather_lines version n b.gather)
    (makes_one begun (bank_line b) _ (bank_is_line b home recs) (bank_again begun b f.home home f.some f.few room))
    (makes_both _ (with_gathered h (before ++ usual ∷ []) gs) _ (plat_lines n b.plat) (gather_lines version n b.gather)
    (plats_again begun before usual b.plat (omega arith) f.plat) g.makes)

pub banks_again : (bs : List BankDecl) (h : Half) (before : List BankDecl) (gs : List ℕ)
    → HeadFits h.plan.version h.plan.harts → length (before ++ bs) ≤ 4
    → Each (BankFits h.plan.version h.plan.harts h.plan.events) bs → Each (λ g. g < length before) gs
    → BanksMade h before bs gs
unfolding bank_lines
banks_again [] h before gs head few f below =
    record {
      gathered = gs;
      makes = makes_none _ _ (ap (λ l. with_gathered h l gs) (sym (append-nil before)));
    }
banks_again (b ∷ bs) h before gs head few f below =
    let version = h.plan.version in
    let room : length before + suc (length bs) ≤ 4 = simp length-append at few in
    let longer = length-append before (b ∷ []) in
    let g = gathers_again h before b b.gather gs head.known (omega arith) f.0.gather below in
    let rest = banks_again bs h (before ++ b ∷ []) g.gathered head
    (subst (λ l. length l ≤ 4) (sym (append_assoc before (b ∷ []) bs)) few) f.1
    (subst (λ n. Each (λ m. m < n) g.gathered) (sym longer) g.below) in
    record {
      gathered = rest.gathered;
      makes =
          makes_same _ _ _ _ (ap (λ l. with_gathered h l rest.gathered) (append_assoc before (b ∷ []) bs))
          (makes_both _ (with_gathered h (before ++ b ∷ []) g.gathered) _ (lines_of_bank version (length before) b)
          (bank_lines version (length before + 1) bs) (bank_made h before b gs head (omega arith) f.0 below g)
          (subst (λ n. Makes (with_gathered h (before ++ b ∷ []) g.gathered) (bank_lines version n bs)
          (with_gathered h ((before ++ b ∷ []) ++ bs) rest.gathered)) longer rest.makes));
    }
