-- Reading the canonical text of a script's plan gives the plan back, and the same holds once it is moved to version 2.
use Rattle.std.proofs.Common.{◌≡◌, ℕ, ◌^◌, ◌<◌, ◌≤◌, ◌==◌, ◌⊎◌, inl, inr, Bool, true, false, if◌then◌else◌, List, [], ◌∷◌, map, Result, Ok, refl, sym, ap, ◌∙◌, arith, decimal, subst, option_map}
use Rattle.std.proofs.lemmas.Bool.{eq-eqb}
use Rattle.std.proofs.lemmas.Fmt.{decimal_digit}
use Rattle.std.proofs.lemmas.List.{length-map}
use Rattle.std.proofs.lemmas.Option.{slice_get-map}
use Rattle.ras_text.specs.Pieces.{lines}
use Rattle.sse_base.specs.declared.events.EventDecl.{EventDecl}
use Rattle.board_plan.specs.declared.plan.BankDecl.{BankDecl}
use Rattle.board_plan.specs.declared.plan.Plan.{Plan}
use Rattle.board_plan.specs.declared.plan.LineFault.{LineFault}
use Rattle.board_plan.specs.Words.{◌>>=◌, is}
use Rattle.board_plan.specs.Script.{Half, most_harts, bare_board, version_of, board_of, versioned, board, at_line, is_passed, follow, begin, script, Reads}
use Rattle.board_plan.specs.Canonical.{lines_text, board_line, event_line, bank_lines, record_line, op_lines, start_line, reporter_lines, schedule_lines, later_lines, canonical, with_gather_1, moved}
use Rattle.board_script.proofs.Boards.{harts_few}
use Rattle.board_script.proofs.Chains.{Each, EachFits-weaker}
use Rattle.board_script.proofs.Fits.{BankFits, HasRecord, RecFits, HeadFits, PlanFits, behind, with_events, with_gathered, with_recs, with_ops, with_starts, with_reporters, with_steps}
use Rattle.board_script.proofs.Kept.{script_fits}
use Rattle.board_script.proofs.Texts.{IsLine, Makes, makes_both, line_again, words_again, follow_makes, plain_decimal}
use Rattle.board_script.proofs.WordsAgain.{from_1_again}
use Rattle.board_script.proofs.LinesAgain.{events_again, records_again, starts_again}
use Rattle.board_script.proofs.BanksAgain.{banks_again}
use Rattle.board_script.proofs.OpsAgain.{ops_again}
use Rattle.board_script.proofs.SourcesAgain.{reporters_again, steps_again}

-- ---- The board ----

version_again : (version : ℕ) → (version ≡ 1) ⊎ (version ≡ 2) → version_of (decimal version) ≡ Ok version
unfolding version_of is
version_again version (inl one) =
    subst (λ v. version_of (decimal v) ≡ Ok v) (sym one) (ap version_of (decimal_digit 1 (omega arith)))
version_again version (inr two) =
    subst (λ v. version_of (decimal v) ≡ Ok v) (sym two) (ap version_of (decimal_digit 2 (omega arith)))

board_again : (version harts : ℕ) → HeadFits version harts
    → board (board_line version harts) ≡ Ok (bare_board version harts)
unfolding board versioned board_of is
board_again version harts f =
    let small : harts < 2 ^ 64 = omega (arith, f.few, harts_few version) in
    rw (version_again version f.known, from_1_again (most_harts version) harts f.some f.few small) refl

version_small : (version : ℕ) → (version ≡ 1) ⊎ (version ≡ 2) → version < 2 ^ 64
version_small version (inl one) = omega arith
version_small version (inr two) = omega arith

board_is_line : (version harts : ℕ) → HeadFits version harts → IsLine (board_line version harts)
board_is_line version harts f = (
  (
    refl,
    (
      plain_decimal version (version_small version f.known),
      (plain_decimal harts (omega (arith, f.few, harts_few version)), tt),
    ),
  ),
  refl,
)

-- ---- The lines behind it ----

-- a half-read plan of these parts
record Later (p : Plan) : Type 0 where
  half : Half
  is : half.plan ≡ p
  makes : Makes (bare_board p.version p.harts) (later_lines p) half

later_again : (p : Plan) → PlanFits p → Later p
unfolding later_lines
later_again p f =
    let bare = bare_board p.version p.harts in
    let h1 = with_events bare p.events in
    let made = banks_again p.banks h1 [] [] f.head f.banks.few f.banks.each tt in
    let h2 = with_gathered h1 p.banks made.gathered in
    let h3 = with_recs h2 p.recs in
    let h4 = with_ops h3 p.ops (behind 0x1000 p.ops) in
    let h5 = with_starts h4 p.starts in
    let h6 = with_reporters h5 p.reporters in
    let h7 = with_steps h6 p.schedule in
    let harts : p.harts ≤ 32 = omega (arith, f.head.few, harts_few p.version) in
    record {
      half = h7;
      is = refl;
      makes =
          makes_both bare h6 h7 _ (schedule_lines p.schedule)
          (makes_both bare h5 h6 _ (reporter_lines 0 p.reporters)
          (makes_both bare h4 h5 _ (map start_line p.starts)
          (makes_both bare h3 h4 _ (op_lines 0x1000 p.ops)
          (makes_both bare h2 h3 _ (map record_line p.recs)
          (makes_both bare h1 h2 (map event_line p.events) (bank_lines p.version 0 p.banks)
          (events_again p.events bare f.events) made.makes)
          (records_again p.recs h2 f.banks f.recs))
          (ops_again p.ops h3 refl f.ops))
          (starts_again p.starts h4 harts f.starts))
          (reporters_again p.reporters h5 f.reporters.each f.reporters.devices f.reporters.few))
          (steps_again p.schedule h6 refl f.schedule.each f.schedule.few);
    }

-- ---- The whole text ----

fits_again : (p : Plan) → PlanFits p → Reads (canonical p) p
unfolding canonical script begin lines_text
fits_again p f =
    let first = board_line p.version p.harts in
    let line = board_is_line p.version p.harts f.head in
    let rest = lines (lines_text (later_lines p)) in
    let later = later_again p f in
    ap (begin 1) (line_again first (lines_text (later_lines p)) line.0)
    ∙ ap (λ l. if is_passed l then begin 2 rest else (at_line 1 (board l) >>= λ k. follow 2 k rest))
    (words_again first line.0)
    ∙ ap (λ (r : Result Half LineFault). at_line 1 r >>= λ k. follow 2 k rest) (board_again p.version p.harts f.head)
    ∙ follow_makes 2 (bare_board p.version p.harts) (later_lines p) later.half later.makes
    ∙ ap (λ (q : Plan). Ok q) later.is

pub canonical_again : (p : Plan) (text : List ℕ) → Reads text p → Reads (canonical p) p
canonical_again p text e = fits_again p (script_fits text p e)

-- ---- The move to version 2 ----

moved_bank : (harts : ℕ) (events : List EventDecl) (b : BankDecl) → BankFits 1 harts events b
    → BankFits 2 harts events (with_gather_1 b)
moved_bank harts events b f =
    let few : b.recs ≤ 16 = f.few in
    record {
      home = f.home;
      some = f.some;
      few = omega arith;
      plat = f.plat;
      gather = (omega arith, omega arith, λ e. absurd (omega (arith, e)));
    }

moved_banks : (harts : ℕ) (events : List EventDecl) (bs : List BankDecl) → Each (BankFits 1 harts events) bs
    → Each (BankFits 2 harts events) (map with_gather_1 bs)
moved_banks harts events [] f = tt
moved_banks harts events (b ∷ bs) f = (moved_bank harts events b f.0, moved_banks harts events bs f.1)

moved_has : (bs : List BankDecl) (bank rec : ℕ) → HasRecord bs bank rec → HasRecord (map with_gather_1 bs) bank rec
moved_has bs bank rec f =
    record {
      decl = with_gather_1 f.decl;
      there = slice_get-map with_gather_1 bs bank ∙ ap (option_map with_gather_1) f.there;
      within = f.within;
    }

moved_fits : (p : Plan) → p.version ≡ 1 → PlanFits p
    → PlanFits (record p { version = 2; banks = map with_gather_1 p.banks })
moved_fits p one f =
    let few : p.harts ≤ 8 = subst (λ v. p.harts ≤ most_harts v) one f.head.few in
    record {
      head = record { known = inr refl; some = f.head.some; few = omega arith };
      events = f.events;
      banks = record {
        each = moved_banks p.harts p.events p.banks
            (subst (λ v. Each (BankFits v p.harts p.events) p.banks) one f.banks.each);
        few = omega (arith, length-map p.banks with_gather_1, f.banks.few);
      };
      recs = EachFits-weaker (RecFits p.banks) (RecFits (map with_gather_1 p.banks)) (λ before r g. record {
        there = moved_has p.banks r.bank r.rec g.there;
        control = g.control;
        count = g.count;
        fresh = g.fresh;
      }) [] p.recs f.recs;
      ops = f.ops;
      starts = f.starts;
      reporters = f.reporters;
      schedule = f.schedule;
    }

first_version : (version : ℕ) → (version ≡ 1) ⊎ (version ≡ 2) → (version == 2) ≡ false → version ≡ 1
first_version version (inl one) e = one
first_version version (inr two) e = let same = eq-eqb version 2 two in cc

pub moved_again : (p q : Plan) (text : List ℕ) → q ≡ moved p → Reads text p → Reads (canonical q) q
moved_again p q text is e =
    subst (λ (r : Plan). Reads (canonical r) r) (sym is) (fits_again (moved p) (fits (p.version == 2) refl))
  where
    f : PlanFits p
    f = script_fits text p e

    fits : (b : Bool) → (p.version == 2) ≡ b
        → PlanFits (if b then p else record p { version = 2; banks = map with_gather_1 p.banks })
    fits true e = f
    fits false e = moved_fits p (first_version p.version f.head.known e) f
