-- What a device answers is a report, and what is left of many devices where one of them was asked.
use Rattle.std.proofs.Common.{◌≡◌, ◌<◌, ℕ, zero, suc, nat_lt, List, [], ◌∷◌, length, slice_get, Option, Some, None, sym, ap, ◌∙◌, subst, arith}
use Rattle.std.specs.Prelude.{slice_set, slice_index_or, is_none, true, Bool}
use Rattle.std.proofs.lemmas.Bool.{ltb-true, true≢false}
use Rattle.std.proofs.lemmas.Option.{none-some}
use Rattle.ras_device.specs.declared.act.Act.{Act}
use Rattle.ras_device.specs.declared.act.Act.TheVariants as act
use Rattle.ras_device.specs.Acts.{Remaining, Takes}
use Rattle.board_plan.specs.declared.plan.Reporter as plan_reporter
use Rattle.board_core.specs.Played.{IsReport, has_list}
use Rattle.board_plan.specs.Plans.{named_by}
use Rattle.board_play.specs.Tried.{Hands, left_or_none, lefts}

-- an act that a device gave is among those that it had left
pub given_report : {D : Type 0} (left : D → Remaining) (d : D) (o : Option Act) (rest : List Act)
    → Takes o (left d).acts rest → IsReport o
given_report left d None rest takes report is = absurd (none-some (act.Error report) is)
given_report left d (Some a) rest takes report is =
    (left d).reports 0 report (ap (λ (l : List Act). slice_get l 0) takes ∙ is)

-- what is left of all where one was asked
pub lefts_set : {D : Type 0} (left : D → Remaining) (ds : List (Option D)) (k : ℕ) (now e : Option D)
    (f : List Act → List Act) → k < length ds → left_or_none left now ≡ f (left_or_none left (slice_index_or ds k e))
    → lefts left (slice_set ds k now) ≡ slice_set (lefts left ds) k (f (slice_index_or (lefts left ds) k []))
lefts_set left [] k now e f low is = absurd (omega (arith, low))
lefts_set left (d ∷ ds) zero now e f low is = ap (λ (x : List Act). x ∷ lefts left ds) is
lefts_set left (d ∷ ds) (suc k) now e f low is =
    ap (λ (xs : List (List Act)). left_or_none left d ∷ xs) (lefts_set left ds k now e f (omega (arith, low)) is)

-- ---- A reporter and its declaration ----

-- a declaration that was read is there
read_there : (rs : List plan_reporter.Reporter) (r : ℕ) (d e : plan_reporter.Reporter) → r < length rs
    → d ≡ slice_index_or rs r e → slice_get rs r ≡ Some d
read_there [] r d e low is = absurd (omega (arith, low))
read_there (x ∷ rs) zero d e low is = ap Some (sym is)
read_there (x ∷ rs) (suc r) d e low is = read_there rs r d e (omega (arith, low)) is

pub is_there : (rs qs : List plan_reporter.Reporter) (r : ℕ) → qs ≡ rs → true ≡ nat_lt r (length qs) → r < length rs
is_there rs qs r same low =
    subst (λ (xs : List plan_reporter.Reporter). r < length xs) same (ltb-true r (length qs) (sym low))

pub names_device : (rs qs : List plan_reporter.Reporter) (r : ℕ) (d e : plan_reporter.Reporter) → qs ≡ rs
    → true ≡ nat_lt r (length qs) → d ≡ slice_index_or qs r e → named_by (slice_get rs r) ≡ d.device
names_device rs qs r d e same low is =
    subst (λ (xs : List plan_reporter.Reporter). named_by (slice_get xs r) ≡ d.device) same
    (ap named_by (read_there qs r d e (ltb-true r (length qs) (sym low)) is))

-- a reporter whose acts are listed is handed what its list has next
pub listed_handed : (o : Option plan_reporter.Reporter) (device : Option ℕ) (wanted : Bool) (next : Option Act)
    (left : List (List Act)) (a : Option Act) (rest : List (List Act)) → named_by o ≡ device → has_list o ≡ true
    → Hands device wanted next left a rest → a ≡ next
listed_handed o None wanted next left a rest names list hands = hands.0
listed_handed None (Some k) wanted next left a rest names list hands = absurd (none-some k names)
listed_handed (Some r) (Some k) wanted next left a rest names list hands =
    absurd (true≢false (sym list ∙ ap is_none names))
