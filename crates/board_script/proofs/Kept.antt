-- Each statement leaves a half-read plan whose parts fit.
use Rattle.std.proofs.Common.{◌≡◌, ℕ, zero, suc, ◌+◌, ◌<◌, ◌≤◌, ◌==◌, ◌⊎◌, inl, inr, ⊎_elim, Bool, true, false, if◌then◌else◌, List, [], ◌∷◌, ◌++◌, length, slice_get, slice_set, Option, Some, None, Result, Ok, Err, refl, sym, ap, ◌∙◌, subst, arith, codes, length-append}
use Rattle.std.proofs.lemmas.Bool.{eq-eqb, or_left}
use Rattle.std.proofs.lemmas.List.{length-set}
use Rattle.std.proofs.lemmas.List.Folds.{list_any-append}
use Rattle.ras_text.specs.Pieces.{words, lines}
use Rattle.sse_base.specs.declared.events.EventDecl.{EventDecl}
use Rattle.ras_device.specs.declared.act.Act.{Act}
use Rattle.board_plan.specs.declared.notes.Step.{Step}
use Rattle.board_plan.specs.declared.notes.Step.TheVariants as step
use Rattle.board_plan.specs.declared.ops.Op.{Op}
use Rattle.board_plan.specs.declared.ops.Placed.{Placed}
use Rattle.board_plan.specs.declared.plan.BankDecl.{BankDecl}
use Rattle.board_plan.specs.declared.plan.RecDecl.{RecDecl}
use Rattle.board_plan.specs.declared.plan.Start.{Start}
use Rattle.board_plan.specs.declared.plan.Reporter.{Reporter}
use Rattle.board_plan.specs.declared.plan.Plan.{Plan}
use Rattle.board_plan.specs.declared.plan.LineFault.{LineFault}
use Rattle.board_plan.specs.Words.{is, number_from_1_to}
use Rattle.board_plan.specs.Script.{Half, has_event, has_op, most_records, and_act, steps_of, most_harts, usual_gather, bare_board, version_of, board_of, versioned, board, statement, at_line, is_passed, after_line, follow, begin, script, Reads}
use Rattle.board_script.proofs.Chains.{Each, Each-append, Each-more, Each-at, Each-set, Each-weaker, EachFits, EachFits-more, EachFits-weaker}
use Rattle.board_script.proofs.Steps.{bind_then, if_then, ok_is, from_1_is}
use Rattle.board_script.proofs.Fits.{EventFits, PlatFits, Where, GatherFits, BankFits, HasRecord, RecFits, OpFits, IsOpAddress, behind, PlacedFits, StartFits, ActFits, SourceFits, ReporterFits, devices_of, DeviceFits, StepFits, HeadFits, BanksFit, ReportersFit, PlanFits, HalfFits, with_events, with_banks, with_recs, with_next, with_ops, with_starts, with_reporters, with_steps, with_gathered, fresh_one, Taken, an_event, a_bank, a_plat, a_gather, a_record, an_address, an_op, a_start, a_reporter, an_act, a_schedule}
use Rattle.board_script.proofs.Taken.{taken}

-- ---- Lists ----

pub get-append : {X : Type 0} (xs ys : List X) (i : ℕ) (x : X) → slice_get xs i ≡ Some x
    → slice_get (xs ++ ys) i ≡ Some x
get-append [] ys i x e = cc
get-append (z ∷ xs) ys zero x e = e
get-append (z ∷ xs) ys (suc i) x e = get-append xs ys i x e

-- after an element changed there is the old one, or the new one at its place
get-set : {X : Type 0} (xs : List X) (n i : ℕ) (y x : X) → slice_get xs i ≡ Some x
    → (slice_get (slice_set xs n y) i ≡ Some x) ⊎ ((n ≡ i) × (slice_get (slice_set xs n y) i ≡ Some y))
get-set [] n i y x e = cc
get-set (z ∷ xs) zero zero y x e = inr (refl, refl)
get-set (z ∷ xs) zero (suc i) y x e = inl e
get-set (z ∷ xs) (suc n) zero y x e = inl e
get-set (z ∷ xs) (suc n) (suc i) y x e =
    ⊎_elim (λ same. inl same) (λ p. inr (ap suc p.0, p.1)) (get-set xs n i y x e)

-- ---- Events ----

plat_more : (events : List EventDecl) (e : EventDecl) (o : Option ℕ) → Where (PlatFits events) o
    → Where (PlatFits (events ++ e ∷ [])) o
unfolding has_event
plat_more events e None f = tt
plat_more events e (Some id) f =
    record {
      small = f.small;
      is = f.is;
      there = list_any-append (λ (d : EventDecl). d.id.0 == id) events (e ∷ []) ∙ or_left _ _ f.there;
    }

bank_more : (version harts : ℕ) (events : List EventDecl) (e : EventDecl) (b : BankDecl)
    → BankFits version harts events b → BankFits version harts (events ++ e ∷ []) b
bank_more version harts events e b f =
    record {
      home = f.home;
      some = f.some;
      few = f.few;
      plat = plat_more events e b.plat f.plat;
      gather = f.gather;
    }

event_kept : (h : Half) (e : EventDecl) → EventFits h.plan.events e → HalfFits h
    → HalfFits (with_events h (h.plan.events ++ e ∷ []))
event_kept h e fits f =
    let p = f.plan in
    record {
      plan = record {
        head = p.head;
        events = EachFits-more EventFits [] h.plan.events e p.events fits;
        banks = record {
          each = Each-weaker _ _ (bank_more h.plan.version h.plan.harts h.plan.events e) h.plan.banks p.banks.each;
          few = p.banks.few;
        };
        recs = p.recs;
        ops = p.ops;
        starts = p.starts;
        reporters = p.reporters;
        schedule = p.schedule;
      };
      next = f.next;
    }

-- ---- Banks ----

-- other banks that have each record that these have
keeps_banks : (h : Half) (banks : List BankDecl) (gathered : List ℕ)
    → BanksFit h.plan.version h.plan.harts h.plan.events banks
    → ((bank rec : ℕ) → HasRecord h.plan.banks bank rec → HasRecord banks bank rec) → HalfFits h
    → HalfFits (with_gathered h banks gathered)
keeps_banks h banks gathered fit keeps f =
    let p = f.plan in
    record {
      plan = record {
        head = p.head;
        events = p.events;
        banks = fit;
        recs =
            EachFits-weaker (RecFits h.plan.banks) (RecFits banks) (λ before r g. record {
              there = keeps r.bank r.rec g.there;
              control = g.control;
              count = g.count;
              fresh = g.fresh;
            }) [] h.plan.recs p.recs;
        ops = p.ops;
        starts = p.starts;
        reporters = p.reporters;
        schedule = p.schedule;
      };
      next = f.next;
    }

usual_fits : (version : ℕ) → GatherFits version (usual_gather version)
usual_fits version = fits (version == 1) refl
  where
    fits : (b : Bool) → (version == 1) ≡ b → GatherFits version (if b then 1 else 4)
    fits true is = (omega arith, omega arith, λ e. refl)
    fits false is = (omega arith, omega arith, λ e. let yes_one = eq-eqb version 1 e in cc)

bank_kept : (h : Half) (home : ℕ) (global : Bool) (recs : ℕ) → home < h.plan.harts → 1 ≤ recs
    → recs ≤ most_records h.plan.version → length h.plan.banks < 4 → HalfFits h
    → HalfFits (with_banks h (h.plan.banks ++ fresh_one h home global recs ∷ []))
bank_kept h home global recs at_home some few room f =
    let one = fresh_one h home global recs in
    keeps_banks h (h.plan.banks ++ one ∷ []) h.gathered
    (record {
      each = Each-more _ h.plan.banks one f.plan.banks.each (record {
        home = at_home;
        some = some;
        few = few;
        plat = tt;
        gather = usual_fits h.plan.version;
      });
      few = simp length-append (omega arith);
    })
    (λ bank rec has. record {
      decl = has.decl;
      there = get-append h.plan.banks (one ∷ []) bank has.decl has.there;
      within = has.within;
    }) f

-- one bank changed, and has its records as before
one_kept : (h : Half) (n : ℕ) (b c : BankDecl) (gathered : List ℕ) → slice_get h.plan.banks n ≡ Some b
    → c.recs ≡ b.recs → BankFits h.plan.version h.plan.harts h.plan.events c → HalfFits h
    → HalfFits (with_gathered h (slice_set h.plan.banks n c) gathered)
one_kept h n b c gathered is_b recs fits f =
    keeps_banks h (slice_set h.plan.banks n c) gathered
    (record {
      each = Each-set _ h.plan.banks n c f.plan.banks.each fits;
      few = subst (λ l. l ≤ 4) (sym (length-set h.plan.banks n c)) f.plan.banks.few;
    })
    (λ bank rec has. ⊎_elim
    (λ there. record { decl = has.decl; there = there; within = has.within })
    (λ q. let same : Some b ≡ Some has.decl = sym is_b ∙ ap (slice_get h.plan.banks) q.0 ∙ has.there in
    let equal : b ≡ has.decl = cc in
    let more : has.decl.recs ≡ c.recs = ap (λ (d : BankDecl). d.recs) (sym equal) ∙ sym recs in
    record { decl = c; there = q.1; within = subst (λ m. rec < m) more has.within })
    (get-set h.plan.banks n bank c has.decl has.there)) f

plat_kept : (h : Half) (n id : ℕ) (b : BankDecl) → slice_get h.plan.banks n ≡ Some b → PlatFits h.plan.events id
    → HalfFits h → HalfFits (with_banks h (slice_set h.plan.banks n (record b { plat = Some id })))
plat_kept h n id b is_b fits f =
    let g = Each-at _ h.plan.banks n b f.plan.banks.each is_b in
    one_kept h n b (record b { plat = Some id }) h.gathered is_b refl
    (record { home = g.home; some = g.some; few = g.few; plat = fits; gather = g.gather }) f

gather_kept : (h : Half) (n count : ℕ) (b : BankDecl) → slice_get h.plan.banks n ≡ Some b → h.plan.version ≡ 2
    → 1 ≤ count → count ≤ 4 → HalfFits h
    → HalfFits (with_gathered h (slice_set h.plan.banks n (record b { gather = count })) (h.gathered ++ n ∷ []))
gather_kept h n count b is_b two some few f =
    let g = Each-at _ h.plan.banks n b f.plan.banks.each is_b in
    one_kept h n b (record b { gather = count }) (h.gathered ++ n ∷ []) is_b refl
    (record {
      home = g.home;
      some = g.some;
      few = g.few;
      plat = g.plat;
      gather = (some, few, λ one. absurd (omega (arith, one, two)));
    }) f

record_kept : (h : Half) (r : RecDecl) → RecFits h.plan.banks h.plan.recs r → HalfFits h
    → HalfFits (with_recs h (h.plan.recs ++ r ∷ []))
record_kept h r fits f =
    let p = f.plan in
    record {
      plan = record {
        head = p.head;
        events = p.events;
        banks = p.banks;
        recs = EachFits-more (RecFits h.plan.banks) [] h.plan.recs r p.recs fits;
        ops = p.ops;
        starts = p.starts;
        reporters = p.reporters;
        schedule = p.schedule;
      };
      next = f.next;
    }

-- ---- Ops and starts ----

pub behind-last : (next : ℕ) (ops : List Placed) (p : Placed) → behind next (ops ++ p ∷ []) ≡ p.pc + 4
behind-last next [] p = refl
behind-last next (q ∷ ops) p = behind-last (q.pc + 4) ops p

address_kept : (h : Half) (pc : ℕ) → IsOpAddress pc → HalfFits h → HalfFits (with_next h pc)
address_kept h pc fits f = record { plan = f.plan; next = inr fits }

op_kept : (h : Half) (op : Op) → OpFits op → has_op h.next h.plan.ops ≡ false → length h.plan.ops < 4096 → HalfFits h
    → HalfFits (with_ops h (h.plan.ops ++ record { pc = h.next; op = op } ∷ []) (h.next + 4))
op_kept h op fits fresh room f =
    let p = f.plan in
    let one : Placed = record { pc = h.next; op = op } in
    record {
      plan = record {
        head = p.head;
        events = p.events;
        banks = p.banks;
        recs = p.recs;
        ops = EachFits-more PlacedFits [] h.plan.ops one p.ops
            (record { op = fits; next = f.next; fresh = fresh; room = room });
        starts = p.starts;
        reporters = p.reporters;
        schedule = p.schedule;
      };
      next = inl (sym (behind-last 0x1000 h.plan.ops one));
    }

start_kept : (h : Half) (s : Start) → StartFits h.plan.harts h.plan.starts s → HalfFits h
    → HalfFits (with_starts h (h.plan.starts ++ s ∷ []))
start_kept h s fits f =
    let p = f.plan in
    record {
      plan = record {
        head = p.head;
        events = p.events;
        banks = p.banks;
        recs = p.recs;
        ops = p.ops;
        starts = EachFits-more (StartFits h.plan.harts) [] h.plan.starts s p.starts fits;
        reporters = p.reporters;
        schedule = p.schedule;
      };
      next = f.next;
    }

-- ---- Reporters ----

step_more : (harts reporters more : ℕ) → reporters ≤ more → (s : Step) → StepFits harts reporters s
    → StepFits harts more s
step_more harts reporters more le (step.Hart h) f = f
step_more harts reporters more le (step.Reporter r) f = let g = f.0 in (omega arith, f.1)

-- other reporters, no fewer
keeps_reporters : (h : Half) (rs : List Reporter) → ReportersFit rs → length h.plan.reporters ≤ length rs → HalfFits h
    → HalfFits (with_reporters h rs)
keeps_reporters h rs fit le f =
    let p = f.plan in
    record {
      plan = record {
        head = p.head;
        events = p.events;
        banks = p.banks;
        recs = p.recs;
        ops = p.ops;
        starts = p.starts;
        reporters = fit;
        schedule = record {
          each = Each-weaker _ _ (step_more h.plan.harts (length h.plan.reporters) (length rs) le)
              (steps_of h.plan.schedule) p.schedule.each;
          few = p.schedule.few;
        };
      };
      next = f.next;
    }

pub devices_more : (rs : List Reporter) (r : Reporter) → devices_of (rs ++ r ∷ []) ≡ devices_of rs ++ r.device ∷ []
devices_more [] r = refl
devices_more (s ∷ rs) r = ap (λ l. s.device ∷ l) (devices_more rs r)

reporter_kept : (h : Half) (r : Reporter) → ReporterFits r → DeviceFits (devices_of h.plan.reporters) r.device
    → length h.plan.reporters < 8 → HalfFits h → HalfFits (with_reporters h (h.plan.reporters ++ r ∷ []))
reporter_kept h r fits fresh room f =
    let rs = h.plan.reporters in
    keeps_reporters h (rs ++ r ∷ [])
    (record {
      each = Each-more ReporterFits rs r f.plan.reporters.each fits;
      devices = subst (EachFits DeviceFits []) (sym (devices_more rs r))
          (EachFits-more DeviceFits [] (devices_of rs) r.device f.plan.reporters.devices fresh);
      few = simp length-append (omega arith);
    }) (simp length-append (omega arith)) f

-- an act changes no device
devices_same : (rs : List Reporter) (n : ℕ) (a : Act) (r : Reporter) → slice_get rs n ≡ Some r
    → devices_of (slice_set rs n (and_act a r)) ≡ devices_of rs
devices_same [] n a r e = refl
devices_same (s ∷ rs) zero a r e =
    let same : s ≡ r = cc in ap (λ (t : Reporter). t.device ∷ devices_of rs) (sym same)
devices_same (s ∷ rs) (suc n) a r e = ap (λ l. s.device ∷ l) (devices_same rs n a r e)

source_more : (device : Option ℕ) (limit : ℕ) (acts : List Act) (a : Act) → device ≡ None
    → SourceFits device limit acts → ActFits a → length acts < 10000
    → SourceFits device (length (acts ++ a ∷ [])) (acts ++ a ∷ [])
source_more (Some k) limit acts a e f fits room = cc
source_more None limit acts a e f fits room =
    (refl, simp length-append (omega arith), Each-more ActFits acts a f.2 fits)

act_kept : (h : Half) (n : ℕ) (a : Act) (r : Reporter) → slice_get h.plan.reporters n ≡ Some r → r.device ≡ None
    → ActFits a → length r.acts < 10000 → HalfFits h
    → HalfFits (with_reporters h (slice_set h.plan.reporters n (and_act a r)))
act_kept h n a r is_r list fits room f =
    let rs = h.plan.reporters in
    let g = Each-at ReporterFits rs n r f.plan.reporters.each is_r in
    keeps_reporters h (slice_set rs n (and_act a r))
    (record {
      each = Each-set ReporterFits rs n (and_act a r) f.plan.reporters.each
          (source_more r.device r.limit r.acts a list g fits room);
      devices = subst (EachFits DeviceFits []) (sym (devices_same rs n a r is_r)) f.plan.reporters.devices;
      few = subst (λ l. l ≤ 8) (sym (length-set rs n (and_act a r))) f.plan.reporters.few;
    }) (omega (arith, length-set rs n (and_act a r))) f

-- ---- The schedule ----

schedule_kept : (h : Half) (steps : List Step) → Each (StepFits h.plan.harts (length h.plan.reporters)) steps
    → length (steps_of h.plan.schedule ++ steps) ≤ 200000 → HalfFits h
    → HalfFits (with_steps h (Some (steps_of h.plan.schedule ++ steps)))
schedule_kept h steps fit few f =
    let p = f.plan in
    record {
      plan = record {
        head = p.head;
        events = p.events;
        banks = p.banks;
        recs = p.recs;
        ops = p.ops;
        starts = p.starts;
        reporters = p.reporters;
        schedule = record {
          each = Each-append _ (steps_of h.plan.schedule) steps p.schedule.each fit;
          few = few;
        };
      };
      next = f.next;
    }

-- ---- Every statement, and a whole text ----

kept : (h k : Half) → Taken h k → HalfFits h → HalfFits k
kept h k (an_event e fits e1) f = subst HalfFits (sym e1) (event_kept h e fits f)
kept h k (a_bank home global recs at_home some few room e1) f =
    subst HalfFits (sym e1) (bank_kept h home global recs at_home some few room f)
kept h k (a_plat n id b is_b fits e1) f = subst HalfFits (sym e1) (plat_kept h n id b is_b fits f)
kept h k (a_gather n count b is_b two some few e1) f =
    subst HalfFits (sym e1) (gather_kept h n count b is_b two some few f)
kept h k (a_record r fits e1) f = subst HalfFits (sym e1) (record_kept h r fits f)
kept h k (an_address pc fits e1) f = subst HalfFits (sym e1) (address_kept h pc fits f)
kept h k (an_op op fits fresh room e1) f = subst HalfFits (sym e1) (op_kept h op fits fresh room f)
kept h k (a_start s fits e1) f = subst HalfFits (sym e1) (start_kept h s fits f)
kept h k (a_reporter r fits fresh room e1) f = subst HalfFits (sym e1) (reporter_kept h r fits fresh room f)
kept h k (an_act n a r is_r list fits room e1) f = subst HalfFits (sym e1) (act_kept h n a r is_r list fits room f)
kept h k (a_schedule steps fit few e1) f = subst HalfFits (sym e1) (schedule_kept h steps fit few f)

bare_fits : (version harts : ℕ) → HeadFits version harts → HalfFits (bare_board version harts)
bare_fits version harts head =
    record {
      plan = record {
        head = head;
        events = tt;
        banks = record { each = tt; few = omega arith };
        recs = tt;
        ops = tt;
        starts = tt;
        reporters = record { each = tt; devices = tt; few = omega arith };
        schedule = record { each = tt; few = omega arith };
      };
      next = inl refl;
    }

version_is : (word : List ℕ) (version : ℕ) → version_of word ≡ Ok version → (version ≡ 1) ⊎ (version ≡ 2)
unfolding version_of
version_is word version e =
    if_then (is word (codes "1")) _ _ _ _ e (λ t e1. inl (sym (ok_is 1 version e1))) (λ f e1.
    if_then (is word (codes "2")) _ _ _ _ e1 (λ t e2. inr (sym (ok_is 2 version e2))) (λ f e2. cc))

board_of_fits : (version : ℕ) (ws : List (List ℕ)) (h : Half) → (version ≡ 1) ⊎ (version ≡ 2)
    → board_of version ws ≡ Ok h → HalfFits h
unfolding board_of
board_of_fits version (harts ∷ []) h known e =
    bind_then (number_from_1_to (most_harts version) harts) _ h _ e (λ n n_is e1.
    let some = from_1_is (most_harts version) harts n n_is in
    subst HalfFits (ok_is (bare_board version n) h e1)
    (bare_fits version n (record { known = known; some = some.0; few = some.1 })))
board_of_fits version _ h known e = cc

versioned_fits : (ws : List (List ℕ)) (h : Half) → versioned ws ≡ Ok h → HalfFits h
unfolding versioned
versioned_fits [] h e = cc
versioned_fits (word ∷ ws) h e =
    bind_then (version_of word) _ h _ e (λ version version_made e1.
    board_of_fits version ws h (version_is word version version_made) e1)

board_fits : (h : Half) (ws : List (List ℕ)) → board ws ≡ Ok h → HalfFits h
unfolding board
board_fits h [] e = cc
board_fits h (name ∷ ws) e =
    if_then (is name (codes "board")) _ _ _ _ e (λ t e1. versioned_fits ws h e1) (λ f e1. cc)

at_line_ok : {A : Type 0} (n : ℕ) (r : Result A LineFault) (x : A) → at_line n r ≡ Ok x → r ≡ Ok x
at_line_ok n (Ok y) x e = cc
at_line_ok n (Err kind) x e = cc

line_fits : (n : ℕ) (h k : Half) (ws : List (List ℕ)) → after_line n h ws ≡ Ok k → HalfFits h → HalfFits k
unfolding after_line
line_fits n h k ws e f =
    if_then (is_passed ws) _ _ _ _ e (λ t e1. subst HalfFits (ok_is h k e1) f)
    (λ no e1. kept h k (taken h k ws (at_line_ok n (statement h ws) k e1)) f)

follow_fits : (n : ℕ) (h : Half) (ls : List (List ℕ)) (p : Plan) → follow n h ls ≡ Ok p → HalfFits h → PlanFits p
unfolding follow
follow_fits n h [] p e f = subst PlanFits (ok_is h.plan p e) f.plan
follow_fits n h (l ∷ ls) p e f =
    bind_then (after_line n h (words l)) _ p _ e (λ k taken_is e1.
    follow_fits (n + 1) k ls p e1 (line_fits n h k (words l) taken_is f))

begin_fits : (n : ℕ) (ls : List (List ℕ)) (p : Plan) → begin n ls ≡ Ok p → PlanFits p
unfolding begin
begin_fits n [] p e = cc
begin_fits n (l ∷ ls) p e =
    if_then (is_passed (words l)) _ _ _ _ e (λ t e1. begin_fits (n + 1) ls p e1)
    (λ no e1. bind_then (at_line n (board (words l))) _ p _ e1 (λ h made e2.
    follow_fits (n + 1) h ls p e2 (board_fits h (words l) (at_line_ok n (board (words l)) h made))))

-- each part of the plan of a script fits
pub script_fits : (text : List ℕ) (p : Plan) → Reads text p → PlanFits p
unfolding script
script_fits text p e = begin_fits 1 (lines text) p e
