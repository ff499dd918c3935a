-- The acts of a load are read: each reporter has room for them.
use Rattle.std.proofs.Common.{◌≡◌, ℕ, zero, suc, ◌+◌, ◌*◌, ◌/◌, ◌%◌, ◌<◌, ◌≤◌, ◌==◌, nat_lt, Bool, true, false, if◌then◌else◌, List, [], ◌∷◌, ◌++◌, length, None, Ok, refl, sym, ap, ◌∙◌, arith, decimal, codes, subst, length-append}
use Rattle.std.proofs.lemmas.Bool.{lt-ltb}
use Rattle.std.proofs.lemmas.Fmt.{decimal_digit}
use Rattle.reri_fields.specs.declared.report.Report.{Report}
use Rattle.reri_fields.specs.declared.severity.Severity.{Severity}
use Rattle.reri_fields.specs.declared.severity.Severity.TheVariants.{Ce, Ued, Uec}
use Rattle.ras_device.specs.declared.act.Act.{Act}
use Rattle.ras_device.specs.declared.act.Act.TheVariants.{Error}
use Rattle.board_plan.specs.declared.plan.Reporter.{Reporter}
use Rattle.board_plan.specs.Words.{is}
use Rattle.board_plan.specs.Notes.{severity_word}
use Rattle.board_plan.specs.Script.{Half, is_list, known_list, with_one_act, error_of, error_act, with_error, with_act, statement}
use Rattle.board_plan.specs.Canonical.{act_line}
use Rattle.board_script.proofs.Fits.{ReportFits, with_reporters}
use Rattle.board_script.proofs.Texts.{IsLine, ArePlain, Makes, makes_none, makes_one, makes_both, plain_decimal}
use Rattle.board_script.proofs.WordsAgain.{any_again, upto_again, known_again, severity_again, severity_plain}
use Rattle.board_load.specs.Load as load

-- a reporter that lists acts
abbrev pub listed : List Act → Reporter
listed acts = record { device = None; limit = length acts; acts = acts }

abbrev pub four : List Act → List Act → List Act → List Act → List Reporter
four a b c d = listed a ∷ listed b ∷ listed c ∷ listed d ∷ []

error_again : (r : Report) → ReportFits r →
    error_of (decimal r.bank) (decimal r.rec) (severity_word r.severity) (decimal r.priority) (decimal r.code)
    (decimal r.address) (decimal r.info) (decimal r.supplement) (decimal r.time) ≡ Ok (Error r)
unfolding error_of
error_again r f =
    let bank = f.bank in
    let rec = f.rec in
    let priority = f.priority in
    let code = f.code in
    rw (
      upto_again 255 r.bank bank (omega arith),
      upto_again 255 r.rec rec (omega arith),
      severity_again r.severity,
      upto_again 3 r.priority priority (omega arith),
      upto_again 255 r.code code (omega arith),
      any_again r.address f.address,
      any_again r.info f.info,
      any_again r.supplement f.supplement,
      any_again r.time f.time,
    ) refl

known : (a b c d : List Act) (k : ℕ) → k < 4 → known_list (four a b c d) (decimal k) ≡ Ok k
unfolding known_list is_list
known a b c d zero low = rw (known_again 4 0 (omega arith) (omega arith)) refl
known a b c d (suc zero) low = rw (known_again 4 1 (omega arith) (omega arith)) refl
known a b c d (suc (suc zero)) low = rw (known_again 4 2 (omega arith) (omega arith)) refl
known a b c d (suc (suc (suc zero))) low = rw (known_again 4 3 (omega arith) (omega arith)) refl
known a b c d (suc (suc (suc (suc k)))) low = absurd (omega arith)

-- each of the four reporters has no more acts than so many
pub record Roomy (m : ℕ) (h : Half) : Type 0 where
  pub rest : Half
  pub a : List Act
  pub b : List Act
  pub c : List Act
  pub d : List Act
  pub whole : h ≡ with_reporters rest (four a b c d)
  pub low_a : length a ≤ m
  pub low_b : length b ≤ m
  pub low_c : length c ≤ m
  pub low_d : length d ≤ m

-- what a line makes of a half-read plan
pub record Next (m : ℕ) (h : Half) (ws : List (List ℕ)) : Type 0 where
  pub half : Half
  pub made : statement h ws ≡ Ok half
  pub roomy : Roomy (suc m) half

one_more : (acts : List Act) (act : Act) (m : ℕ) → length acts ≤ m → length (acts ++ act ∷ []) ≤ suc m
one_more acts act m low = omega (arith, length-append acts (act ∷ []))

act_made : (k : ℕ) (r : Report) (m : ℕ) (h : Half) → k < 4 → ReportFits r → m < 10000 → Roomy m h
    → Next m h (act_line k (Error r))
unfolding statement act_line with_act with_error error_act is with_one_act
act_made zero r m h low f room p =
    let la = p.low_a in let lb = p.low_b in let lc = p.low_c in let ld = p.low_d in
    record {
      half = with_reporters p.rest (four (p.a ++ Error r ∷ []) p.b p.c p.d);
      made = rw (p.whole, known p.a p.b p.c p.d 0 low, error_again r f, lt-ltb (length p.a) 10000 (omega arith)) refl;
      roomy = record {
        rest = p.rest;
        a = p.a ++ Error r ∷ [];
        b = p.b;
        c = p.c;
        d = p.d;
        whole = refl;
        low_a = one_more p.a (Error r) m la;
        low_b = omega arith;
        low_c = omega arith;
        low_d = omega arith;
      };
    }
act_made (suc zero) r m h low f room p =
    let la = p.low_a in let lb = p.low_b in let lc = p.low_c in let ld = p.low_d in
    record {
      half = with_reporters p.rest (four p.a (p.b ++ Error r ∷ []) p.c p.d);
      made = rw (p.whole, known p.a p.b p.c p.d 1 low, error_again r f, lt-ltb (length p.b) 10000 (omega arith)) refl;
      roomy = record {
        rest = p.rest;
        a = p.a;
        b = p.b ++ Error r ∷ [];
        c = p.c;
        d = p.d;
        whole = refl;
        low_a = omega arith;
        low_b = one_more p.b (Error r) m lb;
        low_c = omega arith;
        low_d = omega arith;
      };
    }
act_made (suc (suc zero)) r m h low f room p =
    let la = p.low_a in let lb = p.low_b in let lc = p.low_c in let ld = p.low_d in
    record {
      half = with_reporters p.rest (four p.a p.b (p.c ++ Error r ∷ []) p.d);
      made = rw (p.whole, known p.a p.b p.c p.d 2 low, error_again r f, lt-ltb (length p.c) 10000 (omega arith)) refl;
      roomy = record {
        rest = p.rest;
        a = p.a;
        b = p.b;
        c = p.c ++ Error r ∷ [];
        d = p.d;
        whole = refl;
        low_a = omega arith;
        low_b = omega arith;
        low_c = one_more p.c (Error r) m lc;
        low_d = omega arith;
      };
    }
act_made (suc (suc (suc zero))) r m h low f room p =
    let la = p.low_a in let lb = p.low_b in let lc = p.low_c in let ld = p.low_d in
    record {
      half = with_reporters p.rest (four p.a p.b p.c (p.d ++ Error r ∷ []));
      made = rw (p.whole, known p.a p.b p.c p.d 3 low, error_again r f, lt-ltb (length p.d) 10000 (omega arith)) refl;
      roomy = record {
        rest = p.rest;
        a = p.a;
        b = p.b;
        c = p.c;
        d = p.d ++ Error r ∷ [];
        whole = refl;
        low_a = omega arith;
        low_b = omega arith;
        low_c = omega arith;
        low_d = one_more p.d (Error r) m ld;
      };
    }
act_made (suc (suc (suc (suc k)))) r m h low f room p = absurd (omega arith)

-- ---- The lines ----

abbrev severity_of : ℕ → Severity
severity_of s = if nat_lt s 6 then Ce else (if s == 6 then Ued else Uec)

by_tests : (x y : Bool) → (if x then codes "ce" else (if y then codes "ued" else codes "uec"))
    ≡ severity_word (if x then Ce else (if y then Ued else Uec))
by_tests true y = refl
by_tests false true = refl
by_tests false false = refl

-- the error of an act, from what was drawn for it
abbrev report : ℕ → ℕ → Report
report i r =
    record {
      bank = r % 3;
      rec = r / 3 % 4;
      severity = severity_of (r / 12 % 8);
      priority = r / 96 % 4;
      code = r / 384 % 256;
      address = 4096 * (r / 98304 % 64);
      info = i;
      supplement = 0;
      time = i;
    }

report_fits : (i r : ℕ) → i < 500 → ReportFits (report i r)
report_fits i r low =
    record {
      bank = omega arith;
      rec = omega arith;
      priority = omega arith;
      code = omega arith;
      address = omega arith;
      info = omega arith;
      supplement = omega arith;
      time = omega arith;
    }

line_same : (k i r : ℕ) → load.error_line k i r ≡ act_line k (Error (report i r))
unfolding act_line
line_same k i r =
    ap (λ (w : List ℕ). codes "act" ∷ decimal k ∷ codes "error" ∷ decimal (r % 3) ∷ decimal (r / 3 % 4) ∷ w
    ∷ decimal (r / 96 % 4) ∷ decimal (r / 384 % 256) ∷ decimal (4096 * (r / 98304 % 64)) ∷ decimal i ∷ codes "0"
    ∷ decimal i ∷ []) (by_tests (nat_lt (r / 12 % 8) 6) (r / 12 % 8 == 6))
    ∙ ap (λ (w : List ℕ). codes "act" ∷ decimal k ∷ codes "error" ∷ decimal (r % 3) ∷ decimal (r / 3 % 4)
    ∷ severity_word (severity_of (r / 12 % 8))
    ∷ decimal (r / 96 % 4) ∷ decimal (r / 384 % 256) ∷ decimal (4096 * (r / 98304 % 64)) ∷ decimal i ∷ w
    ∷ decimal i ∷ []) (sym (decimal_digit 0 (omega arith)))

line_is : (k : ℕ) (r : Report) → k < 4 → ReportFits r → IsLine (act_line k (Error r))
unfolding act_line
line_is k r low f =
    let bank = f.bank in
    let rec = f.rec in
    let priority = f.priority in
    let code = f.code in
    let values : ArePlain (decimal r.address ∷ decimal r.info ∷ decimal r.supplement ∷ decimal r.time ∷ []) = (
      plain_decimal r.address f.address,
      (plain_decimal r.info f.info, (plain_decimal r.supplement f.supplement, (plain_decimal r.time f.time, tt))),
    ) in
    let levels : ArePlain (severity_word r.severity ∷ decimal r.priority ∷ decimal r.code ∷ decimal r.address
    ∷ decimal r.info ∷ decimal r.supplement ∷ decimal r.time ∷ []) = (
      severity_plain r.severity,
      (plain_decimal r.priority (omega arith), (plain_decimal r.code (omega arith), values)),
    ) in
    let places : ArePlain (decimal r.bank ∷ decimal r.rec ∷ severity_word r.severity ∷ decimal r.priority
    ∷ decimal r.code ∷ decimal r.address ∷ decimal r.info ∷ decimal r.supplement ∷ decimal r.time ∷ []) = (
      plain_decimal r.bank (omega arith),
      (plain_decimal r.rec (omega arith), levels),
    ) in
    ((refl, (plain_decimal k (omega arith), (refl, places))), refl)

-- ---- Many acts ----

-- what lines make of a half-read plan
pub record Made (m : ℕ) (h : Half) (wss : List (List (List ℕ))) : Type 0 where
  pub half : Half
  pub makes : Makes h wss half
  pub roomy : Roomy m half

one_act : (k i r m : ℕ) (h : Half) → k < 4 → i < 500 → m < 10000 → Roomy m h
    → Made (suc m) h (load.error_line k i r ∷ [])
one_act k i r m h low few room p =
    let e : Report = report i r in
    let f = report_fits i r few in
    let next = act_made k e m h low f room p in
    subst (λ (ws : List (List ℕ)). Made (suc m) h (ws ∷ [])) (sym (line_same k i r))
    (record {
      half = next.half;
      makes = makes_one h (act_line k (Error e)) next.half (line_is k e low f) next.made;
      roomy = next.roomy;
    })

pub both_made : (m n : ℕ) (h : Half) (wss vss : List (List (List ℕ))) (p : Made m h wss) → Made n p.half vss
    → Made n h (wss ++ vss)
both_made m n h wss vss p q =
    record { half = q.half; makes = makes_both h p.half q.half wss vss p.makes q.makes; roomy = q.roomy }

-- the first acts of a reporter
acts_made : (n k : ℕ) → k < 4 → (i m : ℕ) (h : Half) → i ≤ 500 → m + i ≤ 9999 → Roomy m h
    → Made (m + i) h (load.line_below (load.act_line n k) i)
unfolding load.line_below load.act_line
acts_made n k low zero m h few room p =
    let same : m ≡ m + 0 = omega arith in
    record { half = h; makes = makes_none h h refl; roomy = subst (λ x. Roomy x h) same p }
acts_made n k low (suc i) m h few room p =
    let before = acts_made n k low i m h (omega arith) (omega arith) p in
    let same : suc (m + i) ≡ m + suc i = omega arith in
    both_made (m + i) (m + suc i) h _ _ before
    (subst (λ x. Made x before.half (load.error_line k i (load.drawn n (500 * k + i)) ∷ [])) same
    (one_act k i (load.drawn n (500 * k + i)) (m + i) before.half low (omega arith) (omega arith) before.roomy))

-- the acts of the first reporters
pub all_made : (n k : ℕ) → k ≤ 4 → (h : Half) → Roomy 0 h
    → Made (500 * k) h (load.lines_below (load.reporter_lines n) k)
unfolding load.lines_below load.reporter_lines
all_made n zero low h p = record { half = h; makes = makes_none h h refl; roomy = p }
all_made n (suc k) low h p =
    let before = all_made n k (omega arith) h p in
    let same : 500 * k + 500 ≡ 500 * suc k = omega arith in
    both_made (500 * k) (500 * suc k) h _ _ before
    (subst (λ x. Made x before.half (load.line_below (load.act_line n k) 500)) same
    (acts_made n k (omega arith) 500 (500 * k) before.half (omega arith) (omega arith) before.roomy))
