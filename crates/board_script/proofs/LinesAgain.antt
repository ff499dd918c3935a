-- The canonical lines of events, banks, records and starts make what they were written for.
use Rattle.std.proofs.Common.{◌≡◌, ℕ, ◌+◌, ◌^◌, ◌<◌, ◌≤◌, List, [], ◌∷◌, ◌++◌, map, length, Ok, refl, sym, ap, arith, append_assoc}
use Rattle.std.proofs.lemmas.Bool.{lt-ltb, le-leb}
use Rattle.std.proofs.lemmas.List.{append-nil}
use Rattle.std.proofs.lemmas.Option.{slice_get_within}
use Rattle.sse_base.specs.declared.events.EventDecl.{EventDecl}
use Rattle.board_plan.specs.declared.plan.BankDecl.{BankDecl}
use Rattle.board_plan.specs.declared.plan.RecDecl.{RecDecl}
use Rattle.board_plan.specs.declared.plan.Start.{Start}
use Rattle.board_plan.specs.Words.{is}
use Rattle.board_plan.specs.Script.{Half, with_event, record_of, with_record, start_of, with_start, total_budget, statement}
use Rattle.board_plan.specs.Canonical.{event_line, record_line, start_line}
use Rattle.board_script.proofs.Boards.{records_few}
use Rattle.board_script.proofs.Chains.{Each-at, EachFits}
use Rattle.board_script.proofs.Fits.{EventFits, BanksFit, RecFits, StartFits, with_events, with_recs, with_starts}
use Rattle.board_script.proofs.Texts.{IsLine, Makes, makes_none, makes_one, makes_both, makes_same, plain_decimal}
use Rattle.board_script.proofs.WordsAgain.{any_again, upto_again, below_again, known_again, event_id_again, inject_again, inject_plain}

-- ---- Events ----

event_again : (h : Half) (e : EventDecl) → EventFits h.plan.events e
    → statement h (event_line e) ≡ Ok (with_events h (h.plan.events ++ e ∷ []))
unfolding statement event_line with_event is
event_again h e f =
    rw (
      event_id_again e.id.0 f.small f.may,
      inject_again e.inject,
      f.fresh,
      lt-ltb (length h.plan.events) 8 f.room,
    ) refl

event_is_line : (before : List EventDecl) (e : EventDecl) → EventFits before e → IsLine (event_line e)
unfolding event_line
event_is_line before e f =
    let small = f.small in
    ((refl, (plain_decimal e.id.0 (omega arith), (inject_plain e.inject, tt))), refl)

pub events_again : (es : List EventDecl) (h : Half) → EachFits EventFits h.plan.events es
    → Makes h (map event_line es) (with_events h (h.plan.events ++ es))
events_again [] h f = makes_none h _ (ap (with_events h) (sym (append-nil h.plan.events)))
events_again (e ∷ es) h f =
    let k = with_events h (h.plan.events ++ e ∷ []) in
    makes_same h _ _ _ (ap (with_events h) (append_assoc h.plan.events (e ∷ []) es))
    (makes_both h k _ (event_line e ∷ []) (map event_line es)
    (makes_one h (event_line e) k (event_is_line h.plan.events e f.0) (event_again h e f.0))
    (events_again es k f.1))

-- ---- Records ----

record_again : (h : Half) (r : RecDecl) → RecFits h.plan.banks h.plan.recs r → r.bank < 2 ^ 64 → r.rec < 2 ^ 64
    → statement h (record_line r) ≡ Ok (with_recs h (h.plan.recs ++ r ∷ []))
unfolding statement record_line with_record record_of is
record_again h r f small small_rec =
    let control = f.control in
    let count = f.count in
    let within = slice_get_within h.plan.banks r.bank f.there.decl f.there.there in
    rw (
      known_again (length h.plan.banks) r.bank within small,
      f.there.there,
      known_again f.there.decl.recs r.rec f.there.within small_rec,
      upto_again 0xff r.control control (omega arith),
      upto_again 65535 r.count count (omega arith),
      f.fresh,
    ) refl

record_is_line : (r : RecDecl) → r.bank < 2 ^ 64 → r.rec < 2 ^ 64 → r.control ≤ 0xff → r.count ≤ 65535
    → IsLine (record_line r)
unfolding record_line
record_is_line r small small_rec control count = (
  (
    refl,
    (
      plain_decimal r.bank small,
      (
        plain_decimal r.rec small_rec,
        (
          plain_decimal r.control (omega arith),
          (plain_decimal r.count (omega arith), tt),
        ),
      ),
    ),
  ),
  refl,
)

-- how many banks there are, and how many records of each, bound the numbers of a record
record_small : (version harts : ℕ) (events : List EventDecl) (banks : List BankDecl) (before : List RecDecl)
    (r : RecDecl) → BanksFit version harts events banks → RecFits banks before r
    → (r.bank < 2 ^ 64) × (r.rec < 2 ^ 64)
record_small version harts events banks before r b f =
    let within = slice_get_within banks r.bank f.there.decl f.there.there in
    let few = (Each-at _ banks r.bank f.there.decl b.each f.there.there).few in
    (omega (arith, within, b.few), omega (arith, f.there.within, few, records_few version))

pub records_again : (rs : List RecDecl) (h : Half) → BanksFit h.plan.version h.plan.harts h.plan.events h.plan.banks
    → EachFits (RecFits h.plan.banks) h.plan.recs rs → Makes h (map record_line rs) (with_recs h (h.plan.recs ++ rs))
records_again [] h b f = makes_none h _ (ap (with_recs h) (sym (append-nil h.plan.recs)))
records_again (r ∷ rs) h b f =
    let k = with_recs h (h.plan.recs ++ r ∷ []) in
    let small = record_small h.plan.version h.plan.harts h.plan.events h.plan.banks h.plan.recs r b f.0 in
    makes_same h _ _ _ (ap (with_recs h) (append_assoc h.plan.recs (r ∷ []) rs))
    (makes_both h k _ (record_line r ∷ []) (map record_line rs)
    (makes_one h (record_line r) k (record_is_line r small.0 small.1 f.0.control f.0.count)
    (record_again h r f.0 small.0 small.1))
    (records_again rs k b f.1))

-- ---- Starts ----

start_again : (h : Half) (s : Start) → StartFits h.plan.harts h.plan.starts s → s.hart < 2 ^ 64
    → statement h (start_line s) ≡ Ok (with_starts h (h.plan.starts ++ s ∷ []))
unfolding statement start_line with_start start_of is
start_again h s f small =
    let budget = f.budget in
    rw (
      below_again h.plan.harts s.hart f.hart small,
      any_again s.pc f.pc,
      upto_again 10000 s.budget budget (omega arith),
      f.fresh,
      le-leb (total_budget h.plan.starts + s.budget) 80000 f.room,
    ) refl

start_is_line : (s : Start) → s.hart < 2 ^ 64 → s.pc < 2 ^ 64 → s.budget ≤ 10000 → IsLine (start_line s)
unfolding start_line
start_is_line s hart pc budget =
    ((refl, (plain_decimal s.hart hart, (plain_decimal s.pc pc, (plain_decimal s.budget (omega arith), tt)))), refl)

pub starts_again : (ss : List Start) (h : Half) → h.plan.harts ≤ 32 → EachFits (StartFits h.plan.harts) h.plan.starts ss
    → Makes h (map start_line ss) (with_starts h (h.plan.starts ++ ss))
starts_again [] h few f = makes_none h _ (ap (with_starts h) (sym (append-nil h.plan.starts)))
starts_again (s ∷ ss) h few f =
    let k = with_starts h (h.plan.starts ++ s ∷ []) in
    let hart = f.0.hart in
    makes_same h _ _ _ (ap (with_starts h) (append_assoc h.plan.starts (s ∷ []) ss))
    (makes_both h k _ (start_line s ∷ []) (map start_line ss)
    (makes_one h (start_line s) k (start_is_line s (omega arith) f.0.pc f.0.budget) (start_again h s f.0 (omega arith)))
    (starts_again ss k few f.1))
