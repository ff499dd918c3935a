-- What the parts of a board are made of, one by one.
use Rattle.std.proofs.Common.{◌≡◌, ℕ, ◌+◌, List, [], ◌∷◌, ◌++◌, map, replicate, length, slice_get, true, Some, inl, inr, sym, ◌∙◌, ap, subst, arith}
use Rattle.std.specs.Option.{option_map}
use Rattle.std.specs.List.{range_with_len}
use Rattle.std.proofs.lemmas.Bool.{cases_eq}
use Rattle.std.proofs.lemmas.List.{length-map, map_push}
use Rattle.std.proofs.lemmas.List.FromFn.{map-range_with_len_more, length-range_with_len}
use Rattle.std.proofs.lemmas.Option.{same_Some, slice_get-map}
use Rattle.std.proofs.lemmas.Simd.{splat_is_map}
use Rattle.reri_fields.specs.Drain.{BankState, bank_start}
use Rattle.reri_bank.proofs.Fresh.{get-push_same, get-push_other}
use Rattle.board_plan.specs.declared.plan.BankDecl.{BankDecl}
use Rattle.board_plan.specs.declared.plan.Plan.{Plan}
use Rattle.board_plan.specs.declared.plan.Reporter.{Reporter}
use Rattle.board_plan.specs.State.{bank_plan, fresh_reporter}
use Rattle.board_bank.specs.Standing.{BankParts, StandsFor}
use Rattle.board_parts.specs.Shows.{AreBanks}

-- one number more of a range
pub one_more_of : {X : Type 0} (f : ℕ → X) (xs : List X) (n : ℕ) → xs ≡ map f (range_with_len 0 n)
    → xs ++ f n ∷ [] ≡ map f (range_with_len 0 (n + 1))
one_more_of f xs n is = ap (λ ys. ys ++ f n ∷ []) is ∙ sym (map-range_with_len_more f 0 n n (omega arith))

-- the same, of what is seen of the items
pub one_more_seen : {X Y : Type 0} (see : X → Y) (f : ℕ → Y) (xs : List X) (x : X) (n : ℕ)
    → map see xs ≡ map f (range_with_len 0 n) → see x ≡ f n → map see (xs ++ x ∷ []) ≡ map f (range_with_len 0 (n + 1))
one_more_seen see f xs x n is seen =
    map_push see xs x ∙ ap (λ y. map see xs ++ y ∷ []) seen ∙ one_more_of f (map see xs) n is

-- one item for each number of a range
pub copies_of : {X : Type 0} (x : X) (n : ℕ) → map (λ _. x) (range_with_len 0 n) ≡ replicate n x
copies_of x n = sym (splat_is_map (range_with_len 0 n) n x (length-range_with_len 0 n))

-- ---- Banks ----

-- these are the first banks of a plan, to which nothing has happened yet
pub record AreMade (plan : Plan) (banks : List BankParts) : Type 0 where
  pub each : (i : ℕ) (d : BankDecl) (b : BankParts) → slice_get plan.banks i ≡ Some d → slice_get banks i ≡ Some b
      → StandsFor (bank_plan i d plan.recs) bank_start b

newest_made : (plan : Plan) (banks : List BankParts) (d e : BankDecl) (b x : BankParts) (i : ℕ)
    → slice_get plan.banks (length banks) ≡ Some d → StandsFor (bank_plan (length banks) d plan.recs) bank_start b
    → i ≡ length banks → slice_get plan.banks i ≡ Some e → slice_get (banks ++ b ∷ []) i ≡ Some x
    → StandsFor (bank_plan i e plan.recs) bank_start x
newest_made plan banks d e b x i declared stands last known here =
    let same : d ≡ e = same_Some d e (sym declared ∙ ap (slice_get plan.banks) (sym last) ∙ known) in
    let it : b ≡ x = same_Some b x (sym (get-push_same banks b)
    ∙ ap (slice_get (banks ++ b ∷ [])) (sym last) ∙ here) in
    subst (λ n. StandsFor (bank_plan n e plan.recs) bank_start x) (sym last)
    (subst (λ y. StandsFor (bank_plan (length banks) y plan.recs) bank_start x) same
    (subst (λ y. StandsFor (bank_plan (length banks) d plan.recs) bank_start y) it stands))

pub one_bank_more : (plan : Plan) (banks : List BankParts) (d : BankDecl) (b : BankParts)
    → slice_get plan.banks (length banks) ≡ Some d → StandsFor (bank_plan (length banks) d plan.recs) bank_start b
    → AreMade plan banks → AreMade plan (banks ++ b ∷ [])
one_bank_more plan banks d b declared stands made =
    record {
      each = λ i e x known here.
          elim (cases_eq i (length banks)) [
            | inl last ↦ newest_made plan banks d e b x i declared stands last known here
            | inr earlier ↦ made.each i e x known (get-push_other banks b x i earlier here)
          ];
    }

pub one_bank_at : (plan : Plan) (banks : List BankParts) (at : ℕ) (d : BankDecl) (b : BankParts) → length banks ≡ at
    → slice_get plan.banks at ≡ Some d → StandsFor (bank_plan at d plan.recs) bank_start b
    → AreMade plan banks → AreMade plan (banks ++ b ∷ [])
one_bank_at plan banks at d b there declared stands made =
    one_bank_more plan banks d b (subst (λ n. slice_get plan.banks n ≡ Some d) (sym there) declared)
    (subst (λ n. StandsFor (bank_plan n d plan.recs) bank_start b) (sym there) stands) made

abbrev pub fresh_banks : Plan → List BankState
fresh_banks plan = map (λ d. bank_start) plan.banks

pub fresh_bank_at : (plan : Plan) (i : ℕ) (d : BankDecl) → slice_get plan.banks i ≡ Some d
    → slice_get (fresh_banks plan) i ≡ Some bank_start
fresh_bank_at plan i d known =
    slice_get-map (λ (d : BankDecl). bank_start) plan.banks i
    ∙ ap (option_map (λ (d : BankDecl). bank_start)) known

pub all_made : (plan : Plan) (banks : List BankParts) → length banks ≡ length plan.banks → AreMade plan banks
    → AreBanks plan (fresh_banks plan) banks
all_made plan banks there made =
    record {
      count = length-map plan.banks (λ (d : BankDecl). bank_start);
      there = there;
      each = λ i d x b known state here.
          let it : bank_start ≡ x =
          same_Some bank_start x (sym (fresh_bank_at plan i d known) ∙ state) in
          subst (λ (y : BankState). StandsFor (bank_plan i d plan.recs) y b) it (made.each i d b known here);
    }

-- reporters that are plugged and have made nothing
pub fresh_are : (reporters : List Reporter) (n : ℕ) → length reporters ≡ n
    → replicate n (record { made = 0; plugged = true }) ≡ map fresh_reporter reporters
fresh_are reporters n many = splat_is_map reporters n (record { made = 0; plugged = true }) many
