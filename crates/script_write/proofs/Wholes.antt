-- The lines of a list, one after another.
use Rattle.std.proofs.Common.{◌≡◌, ℕ, zero, suc, ◌+◌, ◌<◌, ◌≤◌, ◌==◌, true, false, cond, Option, Some, None, List, [], ◌∷◌, ◌++◌, length, take, drop, map, get_or, refl, sym, ap, ◌∙◌, append_assoc, length-append, add-one, arith}
use Rattle.std.proofs.Math.Seq.{drop-nil, drop-cons}
use Rattle.std.proofs.lemmas.Bool.{eq-eqb, ne_eqb}
use Rattle.std.proofs.lemmas.List.{append-nil, take-append-drop, length-take-le}
use Rattle.ras_device.specs.declared.act.Act.{Act}
use Rattle.board_plan.specs.declared.notes.Step.{Step}
use Rattle.board_plan.specs.declared.notes.Step.TheVariants.{Hart}
use Rattle.board_plan.specs.declared.ops.Placed.{Placed}
use Rattle.board_plan.specs.declared.plan.BankDecl.{BankDecl}
use Rattle.board_plan.specs.declared.plan.Reporter.{Reporter}
use Rattle.board_plan.specs.declared.plan.Plan.{Plan}
use Rattle.board_plan.specs.Canonical.{line_text, lines_text, bank_line, plat_line, plat_lines, gather_line, has_gather, gather_lines, lines_of_bank, bank_lines, list_line, device_line, act_line, lines_of_reporter, reporter_lines, op_line, at_line, at_lines, op_lines, schedule_line, in_lines, schedule_lines, board_line, event_line, record_line, start_line, later_lines, canonical}

-- the lines of what is left are the first one and the others
module _ {X : Type 0} (f : X → List (List ℕ)) where
  next_suc : (xs : List X) (i : ℕ) (d : X) → i < length xs →
      lines_text (map f (drop i xs)) ≡ line_text (f (get_or xs i d)) ++ lines_text (map f (drop (suc i) xs))
  unfolding lines_text
  next_suc [] i d h = absurd (omega arith)
  next_suc (x ∷ xs) zero d h = refl
  next_suc (x ∷ xs) (suc i) d h = next_suc xs i d (omega arith)

  pub next_line : (xs : List X) (i : ℕ) (d : X) → i < length xs →
      lines_text (map f (drop i xs)) ≡ line_text (f (get_or xs i d)) ++ lines_text (map f (drop (i + 1) xs))
  next_line xs i d h = rw add-one (next_suc xs i d h)

  -- past the last one nothing is left
  pub no_line : (xs : List X) (i : ℕ) → length xs ≤ i → lines_text (map f (drop i xs)) ≡ []
  unfolding lines_text
  no_line [] i h = rw drop-nil refl
  no_line (x ∷ xs) zero h = absurd (omega arith)
  no_line (x ∷ xs) (suc i) h = no_line xs i (omega arith)

pub lines_text-append : (wss vss : List (List (List ℕ))) → lines_text (wss ++ vss) ≡ lines_text wss ++ lines_text vss
unfolding lines_text
lines_text-append [] vss = refl
lines_text-append (ws ∷ wss) vss =
    ap (λ t. line_text ws ++ t) (lines_text-append wss vss)
    ∙ sym (append_assoc (line_text ws) (lines_text wss) (lines_text vss))

-- ---- Numbered lines ----

bank_next : (v k : ℕ) (bs : List BankDecl) (i : ℕ) (d : BankDecl) → i < length bs →
    bank_lines v k (drop i bs) ≡ lines_of_bank v k (get_or bs i d) ++ bank_lines v (k + 1) (drop (suc i) bs)
unfolding bank_lines
bank_next v k [] i d h = absurd (omega arith)
bank_next v k (b ∷ bs) zero d h = refl
bank_next v k (b ∷ bs) (suc i) d h = bank_next v k bs i d (omega arith)

pub next_bank : (v k : ℕ) (bs : List BankDecl) (i : ℕ) (d : BankDecl) → i < length bs →
    lines_text (bank_lines v k (drop i bs)) ≡ lines_text (lines_of_bank v k (get_or bs i d))
    ++ lines_text (bank_lines v (k + 1) (drop (i + 1) bs))
next_bank v k bs i d h =
    rw (add-one i) (ap lines_text (bank_next v k bs i d h) ∙ lines_text-append (lines_of_bank v k (get_or bs i d)) _)

pub no_bank : (v k : ℕ) (bs : List BankDecl) (i : ℕ) → length bs ≤ i → lines_text (bank_lines v k (drop i bs)) ≡ []
unfolding bank_lines lines_text
no_bank v k [] i h = rw drop-nil refl
no_bank v k (b ∷ bs) zero h = absurd (omega arith)
no_bank v k (b ∷ bs) (suc i) h = no_bank v k bs i (omega arith)

reporter_next : (k : ℕ) (rs : List Reporter) (i : ℕ) (r : Reporter) → i < length rs → r ≡ get_or rs i r →
    reporter_lines k (drop i rs) ≡ lines_of_reporter k r.device r.limit r.acts
    ++ reporter_lines (k + 1) (drop (suc i) rs)
unfolding reporter_lines
reporter_next k [] i r h e = absurd (omega arith)
reporter_next k (x ∷ rs) zero r h e =
    ap (λ (y : Reporter). lines_of_reporter k y.device y.limit y.acts ++ reporter_lines (k + 1) rs) (sym e)
reporter_next k (x ∷ rs) (suc i) r h e = reporter_next k rs i r (omega arith) e

pub next_reporter : (k : ℕ) (rs : List Reporter) (i : ℕ) (r : Reporter) → i < length rs → r ≡ get_or rs i r →
    lines_text (reporter_lines k (drop i rs))
    ≡ lines_text (lines_of_reporter k r.device r.limit r.acts) ++ lines_text (reporter_lines (k + 1) (drop (i + 1) rs))
next_reporter k rs i r h e =
    rw (add-one i) (ap lines_text (reporter_next k rs i r h e)
    ∙ lines_text-append (lines_of_reporter k r.device r.limit r.acts) _)

pub no_reporter : (k : ℕ) (rs : List Reporter) (i : ℕ) → length rs ≤ i → lines_text (reporter_lines k (drop i rs)) ≡ []
unfolding reporter_lines lines_text
no_reporter k [] i h = rw drop-nil refl
no_reporter k (r ∷ rs) zero h = absurd (omega arith)
no_reporter k (r ∷ rs) (suc i) h = no_reporter k rs i (omega arith)

-- ---- Ops ----

op_next : (next : ℕ) (ps : List Placed) (i : ℕ) (d : Placed) → i < length ps →
    op_lines next (drop i ps) ≡ op_lines next (get_or ps i d ∷ [])
    ++ op_lines ((get_or ps i d).pc + 4) (drop (suc i) ps)
unfolding op_lines
op_next next [] i d h = absurd (omega arith)
op_next next (p ∷ ps) zero d h = sym (append_assoc (at_lines next p.pc) (op_line p.op ∷ []) (op_lines (p.pc + 4) ps))
op_next next (p ∷ ps) (suc i) d h = op_next next ps i d (omega arith)

pub next_op : (next : ℕ) (ps : List Placed) (i : ℕ) (d : Placed) → i < length ps →
    lines_text (op_lines next (drop i ps))
    ≡ lines_text (op_lines next (get_or ps i d ∷ []))
    ++ lines_text (op_lines ((get_or ps i d).pc + 4) (drop (i + 1) ps))
next_op next ps i d h = rw (add-one i)
    (ap lines_text (op_next next ps i d h) ∙ lines_text-append (op_lines next (get_or ps i d ∷ [])) _)

pub no_op : (next : ℕ) (ps : List Placed) (i : ℕ) → length ps ≤ i → lines_text (op_lines next (drop i ps)) ≡ []
unfolding op_lines lines_text
no_op next [] i h = rw drop-nil refl
no_op next (p ∷ ps) zero h = absurd (omega arith)
no_op next (p ∷ ps) (suc i) h = no_op next ps i (omega arith)

-- ---- Lines that stand or don't ----

pub no_plat : (n : ℕ) (plat : Option ℕ) → plat ≡ None → lines_text (plat_lines n plat) ≡ []
unfolding plat_lines lines_text
no_plat n None e = refl
no_plat n (Some id) e = cc

pub one_plat : (n : ℕ) (plat : Option ℕ) (id : ℕ) → plat ≡ Some id → lines_text (plat_lines n plat)
    ≡ line_text (plat_line n id)
unfolding plat_lines lines_text
one_plat n None id e = cc
one_plat n (Some x) id e = let same : x ≡ id = cc in rw same (append-nil (line_text (plat_line n id)))

pub no_gather : (v n gather : ℕ) → has_gather v gather ≡ false → lines_text (gather_lines v n gather) ≡ []
unfolding gather_lines lines_text
no_gather v n gather e = ap (λ b. lines_text (cond b (gather_line n gather ∷ []) [])) e

pub one_gather : (v n gather : ℕ) → has_gather v gather ≡ true → lines_text (gather_lines v n gather)
    ≡ line_text (gather_line n gather)
unfolding gather_lines lines_text
one_gather v n gather e = ap (λ b. lines_text (cond b (gather_line n gather ∷ []) [])) e
    ∙ append-nil (line_text (gather_line n gather))

pub no_at : (next pc : ℕ) → (pc == next) ≡ true → lines_text (at_lines next pc) ≡ []
unfolding at_lines lines_text
no_at next pc e = ap (λ b. lines_text (cond b [] (at_line pc ∷ []))) e

pub one_at : (next pc : ℕ) → (pc == next) ≡ false → lines_text (at_lines next pc) ≡ line_text (at_line pc)
unfolding at_lines lines_text
one_at next pc e = ap (λ b. lines_text (cond b [] (at_line pc ∷ []))) e ∙ append-nil (line_text (at_line pc))

pub list_lines : (n : ℕ) (device : Option ℕ) (limit : ℕ) (acts : List Act) → device ≡ None →
    lines_text (lines_of_reporter n device limit acts) ≡ line_text list_line ++ lines_text (map (act_line n) acts)
unfolding lines_of_reporter lines_text
list_lines n None limit acts e = refl
list_lines n (Some k) limit acts e = cc

pub device_lines : (n : ℕ) (device : Option ℕ) (limit k : ℕ) (acts : List Act) → device ≡ Some k →
    lines_text (lines_of_reporter n device limit acts) ≡ line_text (device_line k limit)
unfolding lines_of_reporter lines_text
device_lines n None limit k acts e = cc
device_lines n (Some x) limit k acts e = let same : x ≡ k = cc in rw same (append-nil (line_text (device_line k limit)))

-- a bank's three parts
bank_parts : (v n : ℕ) (b : BankDecl) →
    lines_text (lines_of_bank v n b) ≡ line_text (bank_line b)
    ++ (lines_text (plat_lines n b.plat) ++ lines_text (gather_lines v n b.gather))
unfolding lines_of_bank lines_text
bank_parts v n b = ap (λ t. line_text (bank_line b) ++ t)
    (lines_text-append (plat_lines n b.plat) (gather_lines v n b.gather))

pub next_bank_parts : (v k : ℕ) (bs : List BankDecl) (i : ℕ) (d : BankDecl) → i < length bs →
    lines_text (bank_lines v k (drop i bs))
    ≡ (line_text (bank_line (get_or bs i d))
    ++ (lines_text (plat_lines k (get_or bs i d).plat) ++ lines_text (gather_lines v k (get_or bs i d).gather)))
    ++ lines_text (bank_lines v (k + 1) (drop (i + 1) bs))
next_bank_parts v k bs i d h =
    next_bank v k bs i d h ∙ ap (λ t. t ++ lines_text (bank_lines v (k + 1) (drop (i + 1) bs)))
    (bank_parts v k (get_or bs i d))

-- an op's two parts
op_parts : (next : ℕ) (p : Placed) → lines_text (op_lines next (p ∷ [])) ≡ lines_text (at_lines next p.pc)
    ++ line_text (op_line p.op)
unfolding op_lines lines_text
op_parts next p =
    lines_text-append (at_lines next p.pc) (op_line p.op ∷ [])
    ∙ ap (λ t. lines_text (at_lines next p.pc) ++ t) (append-nil (line_text (op_line p.op)))

pub next_op_parts : (next : ℕ) (ps : List Placed) (i : ℕ) (d : Placed) → i < length ps →
    lines_text (op_lines next (drop i ps))
    ≡ (lines_text (at_lines next (get_or ps i d).pc) ++ line_text (op_line (get_or ps i d).op))
    ++ lines_text (op_lines ((get_or ps i d).pc + 4) (drop (i + 1) ps))
next_op_parts next ps i d h =
    next_op next ps i d h ∙ ap (λ t. t ++ lines_text (op_lines ((get_or ps i d).pc + 4) (drop (i + 1) ps)))
    (op_parts next (get_or ps i d))

-- ---- Entries of a schedule ----

-- entries that fit on the line under way
fills : (line ss : List Step) → length line + length ss ≤ 16 → in_lines line ss ≡ (line ++ ss) ∷ []
unfolding in_lines
fills line [] h = ap (λ l. l ∷ []) (sym (append-nil line))
fills line (s ∷ ss) h =
    let no : (length line == 16) ≡ false = ne_eqb (length line) 16 (λ e. omega (arith, e, h)) in
    rw no (fills (line ++ s ∷ []) ss (simp length-append (omega (arith, h)))
    ∙ ap (λ l. l ∷ []) (append_assoc line (s ∷ []) ss))

-- entries that fill it
breaks : (line us : List Step) (v : Step) (vs : List Step) → length line + length us ≡ 16 →
    in_lines line (us ++ v ∷ vs) ≡ (line ++ us) ∷ in_lines [] (v ∷ vs)
unfolding in_lines
breaks line [] v vs h =
    let full : (length line == 16) ≡ true = eq-eqb (length line) 16 (omega (arith, h)) in
    rw full (ap (λ l. l ∷ in_lines (v ∷ []) vs) (sym (append-nil line)))
breaks line (u ∷ us) v vs h =
    let no : (length line == 16) ≡ false = ne_eqb (length line) 16 (λ e. omega (arith, e, h)) in
    rw no (breaks (line ++ u ∷ []) us v vs (simp length-append (omega (arith, h)))
    ∙ ap (λ l. l ∷ in_lines [] (v ∷ vs)) (append_assoc line (u ∷ []) us))

pub next_steps : (ss front back : List Step) → 16 < length ss → front ≡ take 16 ss → back ≡ drop 16 ss →
    lines_text (map schedule_line (in_lines [] ss)) ≡ line_text (schedule_line front)
    ++ lines_text (map schedule_line (in_lines [] back))
unfolding lines_text
next_steps ss front back h f b =
    let v = get_or ss 16 (Hart 0) in
    let vs = drop 17 ss in
    let behind : drop 16 ss ≡ v ∷ vs = drop-cons ss 16 (Hart 0) h in
    let whole : ss ≡ take 16 ss ++ v ∷ vs = sym (ap (λ t. take 16 ss ++ t) (sym behind) ∙ take-append-drop 16 ss) in
    let cut : in_lines [] ss ≡ take 16 ss ∷ in_lines [] (v ∷ vs) =
    ap (in_lines []) whole ∙ breaks [] (take 16 ss) v vs (omega (arith, length-take-le 16 ss (omega arith))) in
    ap (λ ls. lines_text (map schedule_line ls)) cut
    ∙ ap (λ t. lines_text (schedule_line (take 16 ss) ∷ map schedule_line (in_lines [] t))) (sym behind)
    ∙ ap (λ t. lines_text (schedule_line t ∷ map schedule_line (in_lines [] (drop 16 ss)))) (sym f)
    ∙ ap (λ t. lines_text (schedule_line front ∷ map schedule_line (in_lines [] t))) (sym b)

pub last_steps : (ss : List Step) → length ss ≤ 16 → lines_text (map schedule_line (in_lines [] ss))
    ≡ line_text (schedule_line ss)
unfolding lines_text
last_steps ss h = ap (λ ls. lines_text (map schedule_line ls)) (fills [] ss (omega (arith, h)))
    ∙ append-nil (line_text (schedule_line ss))

pub no_schedule : (schedule : Option (List Step)) → schedule ≡ None → lines_text (schedule_lines schedule) ≡ []
unfolding schedule_lines lines_text
no_schedule None e = refl
no_schedule (Some steps) e = cc

pub given_schedule : (schedule : Option (List Step)) (steps : List Step) → schedule ≡ Some steps →
    lines_text (schedule_lines schedule) ≡ lines_text (map schedule_line (in_lines [] steps))
unfolding schedule_lines
given_schedule None steps e = cc
given_schedule (Some given) steps e = let same : given ≡ steps = cc in rw same

-- ---- The whole text ----

pub canonical_parts : (p : Plan) →
    (line_text (board_line p.version p.harts)
    ++ (lines_text (map event_line p.events)
    ++ (lines_text (bank_lines p.version 0 p.banks) ++ lines_text (map record_line p.recs))))
    ++ (lines_text (op_lines 0x1000 p.ops)
    ++ (lines_text (map start_line p.starts)
    ++ (lines_text (reporter_lines 0 p.reporters) ++ lines_text (schedule_lines p.schedule))))
    ≡ canonical p
unfolding canonical lines_text later_lines
canonical_parts p = simp (lines_text-append, append_assoc)
