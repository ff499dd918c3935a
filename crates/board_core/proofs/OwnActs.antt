-- What reporters have made, one by one and at their places.
use Rattle.std.proofs.Common.{◌≡◌, ◌<◌, ◌≤◌, ℕ, zero, suc, true, List, [], ◌∷◌, ◌++◌, map, length, set, take, slice_get, Some, is_none, refl, sym, ap, ◌∙◌, subst, arith, length-append}
use Rattle.std.specs.Prelude.{sum_by}
use Rattle.std.proofs.lemmas.List.{length-take-le}
use Rattle.std.proofs.lemmas.List.Sums.{sum_by-cons}
use Rattle.std.proofs.lemmas.Option.{none-some, same_Some, slice_get_within}
use Rattle.ras_device.specs.declared.act.Act.{Act}
use Rattle.board_plan.specs.declared.plan.Reporter.{Reporter}
use Rattle.board_core.specs.declared.made.Made.{Made}
use Rattle.board_core.specs.declared.made.Made.TheVariants.{Listed, Handed}
use Rattle.board_core.specs.OwnActs.{Suits, HasAdded, HasPlace, IsNew, Paired, acts_by, acts_in}
use Rattle.board_core.proofs.Keeping.{one_taken}

-- ---- Reporters, each with what it has made ----

pub paired_many : (P : Reporter → Made → Type 0) (ds : List Reporter) (ms : List Made) → Paired P ds ms
    → length ms ≡ length ds
paired_many P [] [] all = refl
paired_many P [] (m ∷ ms) all = absurd all
paired_many P (d ∷ ds) [] all = absurd all
paired_many P (d ∷ ds) (m ∷ ms) all = ap suc (paired_many P ds ms all.1)

pub paired_push : (P : Reporter → Made → Type 0) (ds : List Reporter) (ms : List Made) (d : Reporter) (m : Made)
    → Paired P ds ms → P d m → Paired P (ds ++ d ∷ []) (ms ++ m ∷ [])
paired_push P [] [] d m all last = (last, tt)
paired_push P [] (x ∷ ms) d m all last = absurd all
paired_push P (x ∷ ds) [] d m all last = absurd all
paired_push P (x ∷ ds) (y ∷ ms) d m all last = (all.0, paired_push P ds ms d m all.1 last)

pub paired_on : (P Q : Reporter → Made → Type 0) (ds : List Reporter) (ms : List Made)
    → ((d : Reporter) (m : Made) → P d m → Q d m) → Paired P ds ms → Paired Q ds ms
paired_on P Q [] [] on all = all
paired_on P Q [] (m ∷ ms) on all = absurd all
paired_on P Q (d ∷ ds) [] on all = absurd all
paired_on P Q (d ∷ ds) (m ∷ ms) on all = (on d m all.0, paired_on P Q ds ms on all.1)

pub paired_at : (P : Reporter → Made → Type 0) (ds : List Reporter) (ms : List Made) (r : ℕ) (d : Reporter) (m : Made)
    → Paired P ds ms → slice_get ds r ≡ Some d → slice_get ms r ≡ Some m → P d m
paired_at P [] ms r d m all there read = absurd (none-some d there)
paired_at P (x ∷ ds) [] r d m all there read = absurd all
paired_at P (x ∷ ds) (y ∷ ms) zero d m all there read =
    subst (P d) (same_Some y m read) (subst (λ z. P z y) (same_Some x d there) all.0)
paired_at P (x ∷ ds) (y ∷ ms) (suc r) d m all there read = paired_at P ds ms r d m all.1 there read

pub paired_set : (P : Reporter → Made → Type 0) (ds : List Reporter) (ms : List Made) (r : ℕ) (d : Reporter) (m : Made)
    → Paired P ds ms → slice_get ds r ≡ Some d → P d m → Paired P ds (set ms r m)
paired_set P [] ms r d m all there new = absurd (none-some d there)
paired_set P (x ∷ ds) [] r d m all there new = absurd all
paired_set P (x ∷ ds) (y ∷ ms) zero d m all there new =
    (subst (λ z. P z m) (sym (same_Some x d there)) new, all.1)
paired_set P (x ∷ ds) (y ∷ ms) (suc r) d m all there new = (all.0, paired_set P ds ms r d m all.1 there new)

-- ---- Their acts ----

abbrev pub no_act : List Act
no_act = []

pub fresh_acts : (ds : List Reporter) (ms : List Made) → Paired IsNew ds ms → acts_in ds ms ≡ map (λ d. no_act) ds
fresh_acts [] ms all = refl
fresh_acts (d ∷ ds) [] all = absurd all
fresh_acts (d ∷ ds) (m ∷ ms) all = λ i. all.0.none i ∷ fresh_acts ds ms all.1 i

pub acts_at : (ds : List Reporter) (ms : List Made) (r : ℕ) (d : Reporter) (m : Made) → slice_get ds r ≡ Some d
    → slice_get ms r ≡ Some m → slice_get (acts_in ds ms) r ≡ Some (acts_by d m)
acts_at [] ms r d m there read = absurd (none-some d there)
acts_at (x ∷ ds) [] r d m there read = absurd (none-some m read)
acts_at (x ∷ ds) (y ∷ ms) zero d m there read =
    ap Some (ap (λ z. acts_by z y) (same_Some x d there) ∙ ap (acts_by d) (same_Some y m read))
acts_at (x ∷ ds) (y ∷ ms) (suc r) d m there read = acts_at ds ms r d m there read

pub acts_set : (ds : List Reporter) (ms : List Made) (r : ℕ) (d : Reporter) (m : Made) → r < length ms
    → slice_get ds r ≡ Some d → acts_in ds (set ms r m) ≡ set (acts_in ds ms) r (acts_by d m)
acts_set [] ms r d m low there = absurd (none-some d there)
acts_set (x ∷ ds) [] r d m low there = absurd (omega (arith, low))
acts_set (x ∷ ds) (y ∷ ms) zero d m low there = ap (λ z. acts_by z m ∷ acts_in ds ms) (same_Some x d there)
acts_set (x ∷ ds) (y ∷ ms) (suc r) d m low there =
    ap (λ xs. acts_by x y ∷ xs) (acts_set ds ms r d m (omega (arith, low)) there)

-- ---- Room ----

pub limit_within : (ds : List Reporter) (r : ℕ) (d : Reporter) → slice_get ds r ≡ Some d
    → d.limit ≤ sum_by (λ x. x.limit) ds
limit_within [] r d there = absurd (none-some d there)
limit_within (x ∷ ds) zero d there =
    omega (arith, sum_by-cons (λ (y : Reporter). y.limit) x ds, ap (λ (y : Reporter). y.limit) (same_Some x d there))
limit_within (x ∷ ds) (suc r) d there =
    omega (arith, sum_by-cons (λ (y : Reporter). y.limit) x ds, limit_within ds r d there)

-- a reporter that may make one act more has room for it
pub has_place : (d : Reporter) (m : Made) → Suits d m → length (acts_by d m) < d.limit → d.limit ≤ 160000 → HasPlace m
has_place d (Listed n) suits allowed few = omega (arith, length-take-le n d.acts suits.1, allowed, few)
has_place d (Handed k) suits allowed few = omega (arith, suits.1, allowed)

-- ---- One act more ----

-- an act of a list is the list's next
abbrev pub IsListsNext : Reporter → Made → Act → Type 0
IsListsNext d m a = is_none d.device ≡ true → slice_get d.acts (length (acts_by d m)) ≡ Some a

pub added_is : (d : Reporter) (a : Act) (m n : Made) → Suits d m → IsListsNext d m a → HasAdded a m n
    → acts_by d n ≡ acts_by d m ++ a ∷ []
added_is d a (Listed k) (Listed j) suits next added =
    let had = take k d.acts in
    let size : length had ≡ k = length-take-le k d.acts suits.1 in
    let more : j ≡ length (had ++ a ∷ []) = omega (arith, added, size, length-append had (a ∷ [])) in
    ap (λ i. take i d.acts) more
    ∙ sym (one_taken had d.acts a (ap (λ i. take i d.acts) (sym size)) (next suits.0))
added_is d a (Handed k) (Handed j) suits next added = added.0
added_is d a (Listed k) (Handed j) suits next added = absurd added
added_is d a (Handed k) (Listed j) suits next added = absurd added

pub added_suits : (d : Reporter) (a : Act) (m n : Made) → Suits d m → IsListsNext d m a → HasAdded a m n → Suits d n
added_suits d a (Listed k) (Listed j) suits next added =
    let size : length (take k d.acts) ≡ k = length-take-le k d.acts suits.1 in
    (suits.0, omega (arith, added, size, slice_get_within d.acts (length (take k d.acts)) a (next suits.0)))
added_suits d a (Handed k) (Handed j) suits next added = (suits.0, added.1 ∙ suits.1)
added_suits d a (Listed k) (Handed j) suits next added = absurd added
added_suits d a (Handed k) (Listed j) suits next added = absurd added
