-- The canonical lines of reporters and of a schedule make them.
use Rattle.std.proofs.Common.{◌≡◌, ℕ, suc, ◌+◌, ◌^◌, ◌<◌, ◌≤◌, ◌==◌, Bool, true, false, if◌then◌else◌, List, [], ◌∷◌, ◌++◌, map, length, Option, Some, None, Ok, refl, sym, ap, ◌∙◌, arith, append_assoc, length-append, decimal, subst}
use Rattle.std.proofs.lemmas.Bool.{lt-ltb, le-leb}
use Rattle.std.proofs.lemmas.List.{append-nil}
use Rattle.reri_fields.specs.declared.report.Report.{Report}
use Rattle.ras_device.specs.declared.act.Act.{Act}
use Rattle.ras_device.specs.declared.act.Act.TheVariants.{Error, Raise}
use Rattle.board_plan.specs.declared.notes.Step.{Step}
use Rattle.board_plan.specs.declared.plan.Reporter.{Reporter}
use Rattle.board_plan.specs.Words.{is}
use Rattle.board_plan.specs.Script.{Half, is_list, device_of, added, with_list, with_device, with_reporter, known_list, with_one_act, error_of, error_act, with_error, raise_of, with_raise, with_act, steps_of, with_entries, with_schedule, statement}
use Rattle.board_plan.specs.Notes.{severity_word}
use Rattle.board_plan.specs.Canonical.{act_words, act_line, list_line, device_line, lines_of_reporter, reporter_lines, step_word, schedule_line, in_lines, schedule_lines}
use Rattle.board_script.proofs.Chains.{Each, EachFits, Each-more}
use Rattle.board_script.proofs.Fits.{ReportFits, ActFits, SourceFits, ReporterFits, devices_of, DeviceFits, StepFits, with_reporters, with_steps}
use Rattle.board_script.proofs.BanksAgain.{get_last, set_last, last_within}
use Rattle.board_script.proofs.Kept.{devices_more}
use Rattle.board_script.proofs.Taken.{has_device_of}
use Rattle.board_script.proofs.Texts.{IsLine, ArePlain, Makes, makes_none, makes_one, makes_both, makes_same, plain_decimal}
use Rattle.board_script.proofs.WordsAgain.{any_again, upto_again, known_again, severity_again, severity_plain, entry_again, entry_plain}

-- ---- Acts ----

-- a reporter that lists acts
abbrev listed : List Act → Reporter
listed acts = record { device = None; limit = length acts; acts = acts }

known_again_list : (before : List Reporter) (acts : List Act) → length before < 2 ^ 64
    → known_list (before ++ listed acts ∷ []) (decimal (length before)) ≡ Ok (length before)
unfolding known_list is_list
known_again_list before acts small =
    rw (
      known_again (length (before ++ listed acts ∷ [])) (length before) (last_within before (listed acts)) small,
      get_last before (listed acts),
    ) refl

one_act_again : (h : Half) (before : List Reporter) (acts : List Act) (a : Act) → length acts < 10000
    → with_one_act (with_reporters h (before ++ listed acts ∷ [])) (length before) a
    ≡ Ok (with_reporters h (before ++ listed (acts ++ a ∷ []) ∷ []))
unfolding with_one_act
one_act_again h before acts a room =
    rw (
      get_last before (listed acts),
      lt-ltb (length acts) 10000 room,
      set_last before (listed acts) (listed (acts ++ a ∷ [])),
    ) refl

error_again : (r : Report) → ReportFits r →
    error_of (decimal r.bank) (decimal r.rec) (severity_word r.severity) (decimal r.priority) (decimal r.code)
    (decimal r.address) (decimal r.info) (decimal r.supplement) (decimal r.time) ≡ Ok (Error r)
unfolding error_of
error_again r f =
    let bank = f.bank in
    let rec = f.rec in
    let priority = f.priority in
    let code = f.code in
    rw (
      upto_again 255 r.bank bank (omega arith),
      upto_again 255 r.rec rec (omega arith),
      severity_again r.severity,
      upto_again 3 r.priority priority (omega arith),
      upto_again 255 r.code code (omega arith),
      any_again r.address f.address,
      any_again r.info f.info,
      any_again r.supplement f.supplement,
      any_again r.time f.time,
    ) refl

raise_again : (id hart : ℕ) → id ≤ 0xffffffff → hart ≤ 255 → raise_of (decimal id) (decimal hart) ≡ Ok (Raise id hart)
unfolding raise_of
raise_again id hart low low_hart =
    rw (upto_again 0xffffffff id low (omega arith), upto_again 255 hart low_hart (omega arith)) refl

act_again : (h : Half) (before : List Reporter) (acts : List Act) (a : Act) → length before < 2 ^ 64 → ActFits a
    → length acts < 10000
    → statement (with_reporters h (before ++ listed acts ∷ [])) (act_line (length before) a)
    ≡ Ok (with_reporters h (before ++ listed (acts ++ a ∷ []) ∷ []))
unfolding statement act_line with_act with_error with_raise error_act is
act_again h before acts (Error r) small f room =
    rw (known_again_list before acts small, error_again r f, one_act_again h before acts (Error r) room) refl
act_again h before acts (Raise id hart) small f room =
    rw (
      known_again_list before acts small,
      raise_again id hart f.0 f.1,
      one_act_again h before acts (Raise id hart) room,
    )
    refl

act_plain : (a : Act) → ActFits a → ArePlain (act_words a)
act_plain (Error r) f =
    let bank = f.bank in
    let rec = f.rec in
    let priority = f.priority in
    let code = f.code in
    let values : ArePlain (decimal r.address ∷ decimal r.info ∷ decimal r.supplement ∷ decimal r.time ∷ []) = (
      plain_decimal r.address f.address,
      (plain_decimal r.info f.info, (plain_decimal r.supplement f.supplement, (plain_decimal r.time f.time, tt))),
    ) in
    let levels : ArePlain (severity_word r.severity ∷ decimal r.priority ∷ decimal r.code ∷ decimal r.address
    ∷ decimal r.info ∷ decimal r.supplement ∷ decimal r.time ∷ []) = (
      severity_plain r.severity,
      (plain_decimal r.priority (omega arith), (plain_decimal r.code (omega arith), values)),
    ) in
    (refl, (plain_decimal r.bank (omega arith), (plain_decimal r.rec (omega arith), levels)))
act_plain (Raise id hart) f =
    let low = f.0 in
    let low_hart = f.1 in
    (refl, (plain_decimal id (omega arith), (plain_decimal hart (omega arith), tt)))

act_is_line : (n : ℕ) (a : Act) → n < 2 ^ 64 → ActFits a → IsLine (act_line n a)
unfolding act_line
act_is_line n a small f = ((refl, (plain_decimal n small, act_plain a f)), refl)

acts_again : (acts done : List Act) (h : Half) (before : List Reporter) → length before < 2 ^ 64 → Each ActFits acts
    → length (done ++ acts) ≤ 10000
    → Makes (with_reporters h (before ++ listed done ∷ [])) (map (act_line (length before)) acts)
    (with_reporters h (before ++ listed (done ++ acts) ∷ []))
acts_again [] done h before small f few =
    makes_none _ _ (ap (λ l. with_reporters h (before ++ listed l ∷ [])) (sym (append-nil done)))
acts_again (a ∷ acts) done h before small f few =
    let long : length done + suc (length acts) ≤ 10000 = simp length-append at few in
    let next = with_reporters h (before ++ listed (done ++ a ∷ []) ∷ []) in
    makes_same _ _ _ _ (ap (λ l. with_reporters h (before ++ listed l ∷ [])) (append_assoc done (a ∷ []) acts))
    (makes_both _ next _ (act_line (length before) a ∷ []) (map (act_line (length before)) acts)
    (makes_one _ (act_line (length before) a) next (act_is_line (length before) a small f.0)
    (act_again h before done a small f.0 (omega arith)))
    (acts_again acts (done ++ a ∷ []) h before small f.1
    (subst (λ l. length l ≤ 10000) (sym (append_assoc done (a ∷ []) acts)) few)))

-- ---- Reporters ----

list_again : (h : Half) → length h.plan.reporters < 8
    → statement h list_line ≡ Ok (with_reporters h (h.plan.reporters ++ listed [] ∷ []))
unfolding statement with_reporter with_list added is
list_again h room = rw (lt-ltb (length h.plan.reporters) 8 room) refl

device_again : (h : Half) (k limit : ℕ) → k ≤ 7 → limit ≤ 10000 → DeviceFits (devices_of h.plan.reporters) (Some k)
    → length h.plan.reporters < 8
    → statement h (device_line k limit) ≡ Ok (with_reporters h (h.plan.reporters ++ device_of k limit ∷ []))
unfolding statement device_line with_reporter with_device added is
device_again h k limit low low_limit fresh room =
    rw (
      upto_again 7 k low (omega arith),
      upto_again 10000 limit low_limit (omega arith),
      has_device_of k h.plan.reporters ∙ fresh,
      lt-ltb (length h.plan.reporters) 8 room,
    ) refl

device_is_line : (k limit : ℕ) → k ≤ 7 → limit ≤ 10000 → IsLine (device_line k limit)
unfolding device_line
device_is_line k limit low low_limit =
    ((refl, (refl, (plain_decimal k (omega arith), (plain_decimal limit (omega arith), tt)))), refl)

source_again : (h : Half) (device : Option ℕ) (limit : ℕ) (acts : List Act) → SourceFits device limit acts
    → DeviceFits (devices_of h.plan.reporters) device → length h.plan.reporters < 8
    → Makes h (lines_of_reporter (length h.plan.reporters) device limit acts)
    (with_reporters h (h.plan.reporters ++ record { device = device; limit = limit; acts = acts } ∷ []))
unfolding lines_of_reporter
source_again h None limit acts f fresh room =
    let before = h.plan.reporters in
    makes_same h _ _ _
    (ap (λ n. with_reporters h (before ++ record { device = None; limit = n; acts = acts } ∷ [])) (sym f.0))
    (makes_both h (with_reporters h (before ++ listed [] ∷ [])) (with_reporters h (before ++ listed acts ∷ []))
    (list_line ∷ []) (map (act_line (length before)) acts)
    (makes_one h list_line _ ((refl, (refl, tt)), refl) (list_again h room))
    (acts_again acts [] h before (omega arith) f.2 (subst (λ n. n ≤ 10000) f.0 f.1)))
source_again h (Some k) limit acts f fresh room =
    let before = h.plan.reporters in
    makes_same h _ _ _
    (ap (λ l. with_reporters h (before ++ record { device = Some k; limit = limit; acts = l } ∷ [])) (sym f.2))
    (makes_one h (device_line k limit) _ (device_is_line k limit f.0 f.1) (device_again h k limit f.0 f.1 fresh room))

pub reporters_again : (rs : List Reporter) (h : Half) → Each ReporterFits rs
    → EachFits DeviceFits (devices_of h.plan.reporters) (devices_of rs) → length (h.plan.reporters ++ rs) ≤ 8
    → Makes h (reporter_lines (length h.plan.reporters) rs) (with_reporters h (h.plan.reporters ++ rs))
unfolding reporter_lines
reporters_again [] h f fresh few =
    makes_none h _ (ap (with_reporters h) (sym (append-nil h.plan.reporters)))
reporters_again (r ∷ rs) h f fresh few =
    let before = h.plan.reporters in
    let long : length before + suc (length rs) ≤ 8 = simp length-append at few in
    let k = with_reporters h (before ++ r ∷ []) in
    let same = append_assoc before (r ∷ []) rs in
    makes_same h _ _ _ (ap (with_reporters h) same)
    (makes_both h k _ (lines_of_reporter (length before) r.device r.limit r.acts)
    (reporter_lines (length before + 1) rs)
    (source_again h r.device r.limit r.acts f.0 fresh.0 (omega arith))
    (subst (λ n. Makes k (reporter_lines n rs) (with_reporters k ((before ++ r ∷ []) ++ rs)))
    (length-append before (r ∷ []))
    (reporters_again rs k f.1
    (subst (λ l. EachFits DeviceFits l (devices_of rs)) (sym (devices_more before r)) fresh.1)
    (subst (λ l. length l ≤ 8) (sym same) few))))

-- ---- The schedule ----

entries_again : (harts reporters : ℕ) (more steps : List Step) → Each (StepFits harts reporters) more
    → with_entries harts reporters steps (map step_word more) ≡ Ok (steps ++ more)
unfolding with_entries
entries_again harts reporters [] steps f = ap (λ (l : List Step). Ok l) (sym (append-nil steps))
entries_again harts reporters (s ∷ more) steps f =
    rw (entry_again harts reporters s f.0) (entries_again harts reporters more (steps ++ s ∷ []) f.1
    ∙ ap (λ (l : List Step). Ok l) (append_assoc steps (s ∷ []) more))

schedule_again : (h : Half) (more : List Step) → Each (StepFits h.plan.harts (length h.plan.reporters)) more
    → length (steps_of h.plan.schedule ++ more) ≤ 200000
    → statement h (schedule_line more) ≡ Ok (with_steps h (Some (steps_of h.plan.schedule ++ more)))
unfolding statement schedule_line with_schedule is
schedule_again h more f few =
    rw (
      entries_again h.plan.harts (length h.plan.reporters) more (steps_of h.plan.schedule) f,
      le-leb (length (steps_of h.plan.schedule ++ more)) 200000 few,
    ) refl

entries_plain : (harts reporters : ℕ) (more : List Step) → Each (StepFits harts reporters) more
    → ArePlain (map step_word more)
entries_plain harts reporters [] f = tt
entries_plain harts reporters (s ∷ more) f =
    (entry_plain harts reporters s f.0, entries_plain harts reporters more f.1)

schedule_is_line : (harts reporters : ℕ) (more : List Step) → Each (StepFits harts reporters) more
    → IsLine (schedule_line more)
unfolding schedule_line
schedule_is_line harts reporters more f = ((refl, entries_plain harts reporters more f), refl)

-- the fronts of a list are no longer than it
front_few : {X : Type 0} (xs ys : List X) (n : ℕ) → length (xs ++ ys) ≤ n → length xs ≤ n
front_few xs ys n few = let long : length xs + length ys ≤ n = simp length-append at few in omega arith

either : (h k : Half) (b : Bool) (x y : List (List Step)) → Makes h (map schedule_line x) k
    → Makes h (map schedule_line y) k → Makes h (map schedule_line (if b then x else y)) k
either h k true x y p q = p
either h k false x y p q = q

runs_again : (ss line : List Step) (h : Half) → Each (StepFits h.plan.harts (length h.plan.reporters)) line
    → Each (StepFits h.plan.harts (length h.plan.reporters)) ss
    → length ((steps_of h.plan.schedule ++ line) ++ ss) ≤ 200000
    → Makes h (map schedule_line (in_lines line ss)) (with_steps h (Some ((steps_of h.plan.schedule ++ line) ++ ss)))
unfolding in_lines
runs_again [] line h f g few =
    let done = steps_of h.plan.schedule in
    let fits = front_few (done ++ line) [] 200000 few in
    makes_same h _ _ _ (ap (λ l. with_steps h (Some l)) (sym (append-nil (done ++ line))))
    (makes_one h (schedule_line line) (with_steps h (Some (done ++ line)))
    (schedule_is_line h.plan.harts (length h.plan.reporters) line f) (schedule_again h line f fits))
runs_again (s ∷ ss) line h f g few =
    let done = steps_of h.plan.schedule in
    let k = with_steps h (Some (done ++ line)) in
    let fits = front_few (done ++ line) (s ∷ ss) 200000 few in
    let joined = append_assoc (done ++ line) (s ∷ []) ss in
    let moved = ap (λ l. l ++ ss) (sym (append_assoc done line (s ∷ []))) ∙ joined in
    either h _ (length line == 16) (line ∷ in_lines (s ∷ []) ss) (in_lines (line ++ s ∷ []) ss)
    (makes_same h _ _ _ (ap (λ l. with_steps h (Some l)) joined)
    (makes_both h k _ (schedule_line line ∷ []) (map schedule_line (in_lines (s ∷ []) ss))
    (makes_one h (schedule_line line) k (schedule_is_line h.plan.harts (length h.plan.reporters) line f)
    (schedule_again h line f fits))
    (runs_again ss (s ∷ []) k (g.0, tt) g.1 (subst (λ l. length l ≤ 200000) (sym joined) few))))
    (makes_same h _ _ _ (ap (λ l. with_steps h (Some l)) moved)
    (runs_again ss (line ++ s ∷ []) h (Each-more _ line s f g.0) g.1
    (subst (λ l. length l ≤ 200000) (sym moved) few)))

pub steps_again : (schedule : Option (List Step)) (h : Half) → h.plan.schedule ≡ None
    → Each (StepFits h.plan.harts (length h.plan.reporters)) (steps_of schedule) → length (steps_of schedule) ≤ 200000
    → Makes h (schedule_lines schedule) (with_steps h schedule)
unfolding schedule_lines
steps_again None h none f few = makes_none h _ (ap (with_steps h) none)
steps_again (Some steps) h none f few =
    let same = ap (λ o. (steps_of o ++ []) ++ steps) none in
    makes_same h _ _ _ (ap (λ l. with_steps h (Some l)) same)
    (runs_again steps [] h tt f (subst (λ l. length l ≤ 200000) (sym same) few))
