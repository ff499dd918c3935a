-- The lines of a report, one after another: each walk over a list with one more of its items.
use Rattle.std.proofs.Common.{◌≡◌, ℕ, zero, suc, ◌+◌, ◌≤◌, get_or, ◌*◌, ◌<◌, ◌==◌, Bool, true, false, cond, List, [], ◌∷◌, ◌++◌, map, length, take, Some, Ok, Err, Result, Option, refl, sym, ap, ◌∙◌, append_assoc, append-nil, subst, length-append, arith, slice_get}
use Rattle.std.proofs.lemmas.List.{take_all}
use Rattle.std.specs.List.{range_with_len}
use Rattle.sse_base.specs.declared.ids.Instance.{Instance}
use Rattle.sse_base.specs.Contexts.{Frame, Stack, Triple, below}
use Rattle.hart_ctx.specs.declared.regs.Saved.{Saved}
use Rattle.hart_ctx.specs.Running.{told_by, running_in}
use Rattle.sse_base.specs.declared.events.Slot.{Slot}
use Rattle.reri_fields.specs.declared.report.RecordCopy.{RecordCopy}
use Rattle.board_plan.specs.declared.notes.Counts.{Counts}
use Rattle.board_plan.specs.declared.notes.Step.{Step}
use Rattle.board_plan.specs.declared.notes.StepNote.{StepNote}
use Rattle.board_plan.specs.declared.plan.BankDecl.{BankDecl}
use Rattle.board_plan.specs.Text.{frame_line, frame_lines, lines_of_hart, hart_lines, event_line, record_line, trace_line, word_line, word_lines}
use Rattle.board_bank.specs.Standing.{BankParts}
use Rattle.board_report.specs.Told.{told_line, told_lines, told_records, told_bank_lines, told_banks, phase_of, told_steps}
use Rattle.ras_io.specs.declared.faults.SinkFault.{SinkFault}
use Rattle.board_report.specs.Writing.{State, Grows, Wrote}
use Rattle.board_report.proofs.Growing.{grows-then}

-- some lines and then others, under another name
pub grows-more : (a b d : State) (xs ys zs : List (List ℕ)) → zs ≡ xs ++ ys → Grows a b xs → Grows b d ys → Grows a d zs
grows-more a b d xs ys zs e p q = subst (Grows a d) (sym e) (grows-then a b d xs ys p q)

-- the same lines under another name
pub grows-same : (a b : State) (xs ys : List (List ℕ)) → xs ≡ ys → Grows a b xs → Grows a b ys
grows-same a b xs ys e p = subst (Grows a b) e p

-- ---- Handlers ----

told-append : (h n : ℕ) (xs : List (Instance × Saved)) (x : Instance × Saved)
    → told_lines h n (xs ++ x ∷ []) ≡ told_lines h n xs ++ told_line h (n + length xs) x.0 x.1 ∷ []
told-append h n [] x = ap (λ k. told_line h k x.0 x.1 ∷ []) (omega arith)
told-append h n (y ∷ xs) x = ap (λ ls. told_line h n y.0 y.1 ∷ ls) (told-append h (n + 1) xs x
    ∙ ap (λ k. told_lines h (n + 1) xs ++ told_line h k x.0 x.1 ∷ []) (omega arith))

length-running : (fs : List Frame) (base : Triple) → length (running_in fs base) ≡ length fs
length-running [] base = refl
length-running (f ∷ fs) base = simp length-append (omega (arith, length-running fs base))

one_frame : (h n : ℕ) (f : Frame) (t : Triple) → told_line h n (told_by f t).0
    (told_by f t).1 ≡ frame_line h n f.at f.saved t
unfolding told_line frame_line
one_frame h n f t = refl

-- the handlers as the firmware tells of them
told-frames : (h : ℕ) (fs : List Frame) (base : Triple) → told_lines h 1 (running_in fs base) ≡ frame_lines h fs base
told-frames h [] base = refl
told-frames h (f ∷ fs) base =
    told-append h 1 (running_in fs base) (told_by f (below fs base))
    ∙ ap (λ ls. ls ++ told_line h (1 + length (running_in fs base)) f.at (told_by f (below fs base)).1 ∷ [])
    (told-frames h fs base)
    ∙ ap (λ n. frame_lines h fs base ++ told_line h n f.at (told_by f (below fs base)).1 ∷ []) (omega
    (arith, length-running fs base))
    ∙ ap (λ l. frame_lines h fs base ++ l ∷ []) (one_frame h (length (f ∷ fs)) f (below fs base))

-- one handler more
pub told-next : (h n k m : ℕ) (ts : List (Instance × Saved)) (t : Instance × Saved) → m ≡ n + k
    → slice_get ts k ≡ Some t
    → told_lines h n (take (k + 1) ts) ≡ told_lines h n (take k ts) ++ told_line h m t.0 t.1 ∷ []
told-next h n k m [] t i e = cc
told-next h n zero m (x ∷ ts) t i e =
    let same : x ≡ t = cc in
    let place : n ≡ m = omega (arith, i) in
    ap (λ (y : Instance × Saved). told_line h n y.0 y.1 ∷ []) same ∙ ap (λ (i : ℕ). told_line h i t.0 t.1 ∷ []) place
told-next h n (suc k) m (x ∷ ts) t i e =
    let next : suc k + 1 ≡ suc (k + 1) = omega arith in
    rw next (ap (λ ls. told_line h n x.0 x.1 ∷ ls) (told-next h (n + 1) k m ts t (omega (arith, i)) e))

-- all of them
pub told-all : (h k : ℕ) (fs : List Frame) (base : Triple) → length fs ≤ k
    → told_lines h 1 (take k (running_in fs base)) ≡ frame_lines h fs base
told-all h k fs base e = ap (told_lines h 1) (take_all k (running_in fs base) (omega
    (arith, length-running fs base))) ∙ told-frames h fs base

-- ---- Events ----

-- one instance more
pub events-next : (i : ℕ) (ss : List Slot) (s : Slot) → slice_get ss i ≡ Some s
    → map event_line (take (i + 1) ss) ≡ map event_line (take i ss) ++ event_line s ∷ []
events-next i [] s e = cc
events-next zero (x ∷ ss) s e = let same : x ≡ s = cc in ap (λ (y : Slot). event_line y ∷ []) same
events-next (suc i) (x ∷ ss) s e = let next : suc i + 1 ≡ suc (i + 1) = omega arith in rw next (ap
    (λ ls. event_line x ∷ ls) (events-next i ss s e))

-- ---- Records ----

-- one record more
pub records-next : (b n k m : ℕ) (cs : List RecordCopy) (copy : RecordCopy) → m ≡ n + k → slice_get cs k ≡ Some copy
    → told_records b n (take (k + 1) cs) ≡ told_records b n (take k cs) ++ record_line b m copy ∷ []
records-next b n k m [] copy i e = cc
records-next b n zero m (x ∷ cs) copy i e =
    let same : x ≡ copy = cc in
    let place : n ≡ m = omega (arith, i) in
    ap (λ (y : RecordCopy). record_line b n y ∷ []) same ∙ ap (λ (i : ℕ). record_line b i copy ∷ []) place
records-next b n (suc k) m (x ∷ cs) copy i e =
    let next : suc k + 1 ≡ suc (k + 1) = omega arith in
    rw next (ap (λ ls. record_line b n x ∷ ls) (records-next b (n + 1) k m cs copy (omega (arith, i)) e))

pub records-all : (b k : ℕ) (cs : List RecordCopy) → length cs ≤ k → told_records b 0 (take k cs) ≡ told_records b 0 cs
records-all b k cs e = ap (told_records b 0) (take_all k cs e)

-- ---- Harts ----

-- one hart more
pub harts-next : (n k m : ℕ) (cs : List Counts) (ms : List Bool) (ss : List Stack) (c : Counts) (b : Bool) (s : Stack)
    → m ≡ n + k → slice_get cs k ≡ Some c → slice_get ms k ≡ Some b → slice_get ss k ≡ Some s
    → hart_lines n (take (k + 1) cs) (take (k + 1) ms) (take (k + 1) ss)
    ≡ hart_lines n (take k cs) (take k ms) (take k ss) ++ lines_of_hart m c b s
harts-next n k m [] ms ss c b s i e f g = cc
harts-next n k m (x ∷ cs) [] ss c b s i e f g = cc
harts-next n k m (x ∷ cs) (y ∷ ms) [] c b s i e f g = cc
harts-next n zero m (x ∷ cs) (y ∷ ms) (z ∷ ss) c b s i e f g =
    let same_counts : x ≡ c = cc in
    let same_mask : y ≡ b = cc in
    let same_stack : z ≡ s = cc in
    let place : n ≡ m = omega (arith, i) in
    append-nil (lines_of_hart n x y z)
    ∙ ap (λ (v : Counts). lines_of_hart n v y z) same_counts
    ∙ ap (λ (v : Bool). lines_of_hart n c v z) same_mask
    ∙ ap (λ (v : Stack). lines_of_hart n c b v) same_stack
    ∙ ap (λ (j : ℕ). lines_of_hart j c b s) place
harts-next n (suc k) m (x ∷ cs) (y ∷ ms) (z ∷ ss) c b s i e f g =
    let next : suc k + 1 ≡ suc (k + 1) = omega arith in
    rw next (ap (λ ls. lines_of_hart n x y z ++ ls) (harts-next (n + 1) k m cs ms ss c b s (omega (arith, i)) e f g)
    ∙ sym (append_assoc (lines_of_hart n x y z) (hart_lines (n + 1) (take k cs) (take k ms) (take k ss))
    (lines_of_hart m c b s)))

pub harts-all : (k : ℕ) (cs : List Counts) (ms : List Bool) (ss : List Stack) → length cs ≤ k → length ms ≤ k
    → length ss ≤ k → hart_lines 0 (take k cs) (take k ms) (take k ss) ≡ hart_lines 0 cs ms ss
harts-all k cs ms ss e f g =
    ap (λ (x : List Counts). hart_lines 0 x (take k ms) (take k ss)) (take_all k cs e)
    ∙ ap (λ (x : List Bool). hart_lines 0 cs x (take k ss)) (take_all k ms f)
    ∙ ap (λ (x : List Stack). hart_lines 0 cs ms x) (take_all k ss g)

-- ---- Banks ----

-- one bank more
pub banks-next : (n k m : ℕ) (ds : List BankDecl) (bs : List BankParts) (d : BankDecl) (b : BankParts) → m ≡ n + k
    → slice_get ds k ≡ Some d → slice_get bs k ≡ Some b
    → told_banks n (take (k + 1) ds) (take (k + 1) bs)
    ≡ told_banks n (take k ds) (take k bs) ++ told_bank_lines m d b.bank b.slot (phase_of b.drain)
banks-next n k m [] bs d b i e f = cc
banks-next n k m (x ∷ ds) [] d b i e f = cc
banks-next n zero m (x ∷ ds) (y ∷ bs) d b i e f =
    let same_decl : x ≡ d = cc in
    let same_bank : y ≡ b = cc in
    let place : n ≡ m = omega (arith, i) in
    append-nil (told_bank_lines n x y.bank y.slot (phase_of y.drain))
    ∙ ap (λ (v : BankDecl). told_bank_lines n v y.bank y.slot (phase_of y.drain)) same_decl
    ∙ ap (λ (v : BankParts). told_bank_lines n d v.bank v.slot (phase_of v.drain)) same_bank
    ∙ ap (λ (j : ℕ). told_bank_lines j d b.bank b.slot (phase_of b.drain)) place
banks-next n (suc k) m (x ∷ ds) (y ∷ bs) d b i e f =
    let next : suc k + 1 ≡ suc (k + 1) = omega arith in
    let first = told_bank_lines n x y.bank y.slot (phase_of y.drain) in
    rw next (ap (λ ls. first ++ ls) (banks-next (n + 1) k m ds bs d b (omega (arith, i)) e f)
    ∙ sym (append_assoc first (told_banks (n + 1) (take k ds) (take k bs))
    (told_bank_lines m d b.bank b.slot (phase_of b.drain))))

pub banks-all : (k : ℕ) (ds : List BankDecl) (bs : List BankParts) → length ds ≤ k → length bs ≤ k
    → told_banks 0 (take k ds) (take k bs) ≡ told_banks 0 ds bs
banks-all k ds bs e f =
    ap (λ (x : List BankDecl). told_banks 0 x (take k bs)) (take_all k ds e)
    ∙ ap (λ (x : List BankParts). told_banks 0 ds x) (take_all k bs f)

-- ---- Words ----

-- one word more, written or passed over
pub words-next : (addr i w : ℕ) (ws : List ℕ) → i < length ws → get_or ws i 0 ≡ w
    → word_lines addr (take (i + 1) ws) ≡ word_lines addr (take i ws) ++ word_lines (addr + 8 * i) (w ∷ [])
words-next addr i w [] h e = absurd (omega (arith, h))
words-next addr zero w (x ∷ ws) h e = ap (λ (v : ℕ). word_lines addr (v ∷ [])) e
    ∙ ap (λ (a : ℕ). word_lines a (w ∷ [])) (omega arith)
words-next addr (suc i) w (x ∷ ws) h e =
    let next : suc i + 1 ≡ suc (i + 1) = omega arith in
    let further : addr + 8 + 8 * i ≡ addr + 8 * suc i = omega arith in
    rw next (passed (x == 0) (word_line addr x) (word_lines (addr + 8) (take (i + 1) ws)) (word_lines (addr + 8)
    (take i ws)) (word_lines (addr + 8 * suc i) (w ∷ []))
    (words-next (addr + 8) i w ws (omega (arith, h)) e ∙ ap (λ (a : ℕ). word_lines (addr + 8) (take i ws)
    ++ word_lines a (w ∷ [])) further))
  where
    passed : (b : Bool) (l : List ℕ) (xs ys zs : List (List ℕ)) → xs ≡ ys ++ zs
        → cond b xs (l ∷ xs) ≡ cond b ys (l ∷ ys) ++ zs
    passed true l xs ys zs e = e
    passed false l xs ys zs e = ap (λ ls. l ∷ ls) e

pub words-all : (addr k : ℕ) (ws : List ℕ) → length ws ≤ k → word_lines addr (take k ws) ≡ word_lines addr ws
words-all addr k ws e = ap (word_lines addr) (take_all k ws e)

-- ---- Numbered lines ----

range-next : (f : ℕ → List ℕ) (at k : ℕ) → map f (range_with_len at (suc k)) ≡ map f (range_with_len at k) ++ f
    (at + k) ∷ []
range-next f at zero = ap (λ (i : ℕ). f i ∷ []) (omega arith)
range-next f at (suc k) =
    let further : at + 1 + k ≡ at + suc k = omega arith in
    ap (λ ls. f at ∷ ls) (range-next f (at + 1) k ∙ ap (λ (i : ℕ). map f (range_with_len (at + 1) k)
    ++ f i ∷ []) further)

-- one line more
pub numbered-next : (f : ℕ → List ℕ) (k : ℕ) → map f (range_with_len 0 (k + 1)) ≡ map f (range_with_len 0 k) ++ f k ∷ []
numbered-next f k =
    let next : k + 1 ≡ suc k = omega arith in
    let place : 0 + k ≡ k = omega arith in
    ap (λ (i : ℕ). map f (range_with_len 0 i)) next ∙ range-next f 0 k
    ∙ ap (λ (i : ℕ). map f (range_with_len 0 k) ++ f i ∷ []) place

-- ---- Steps ----

-- one step more
pub steps-next : (n k m : ℕ) (ts : List Step) (ns : List StepNote) (by : Step) (note : StepNote) → m ≡ n + k
    → slice_get ts k ≡ Some by → slice_get ns k ≡ Some note
    → told_steps n (take (k + 1) ts) (take (k + 1) ns) ≡ told_steps n (take k ts) (take k ns) ++ trace_line m
    (record { by = by; note = note }) ∷ []
steps-next n k m [] ns by note i e f = cc
steps-next n k m (t ∷ ts) [] by note i e f = cc
steps-next n zero m (t ∷ ts) (x ∷ ns) by note i e f =
    let same_step : t ≡ by = cc in
    let same_note : x ≡ note = cc in
    let place : n ≡ m = omega (arith, i) in
    ap (λ (y : Step). trace_line n (record { by = y; note = x }) ∷ []) same_step
    ∙ ap (λ (y : StepNote). trace_line n (record { by = by; note = y }) ∷ []) same_note
    ∙ ap (λ (j : ℕ). trace_line j (record { by = by; note = note }) ∷ []) place
steps-next n (suc k) m (t ∷ ts) (x ∷ ns) by note i e f =
    let next : suc k + 1 ≡ suc (k + 1) = omega arith in
    rw next (ap (λ ls. trace_line n (record { by = t; note = x }) ∷ ls) (steps-next (n + 1) k m ts ns by note (omega
    (arith, i)) e f))

pub steps-all : (k : ℕ) (ts : List Step) (ns : List StepNote) → length ts ≤ k → length ns ≡ length ts
    → told_steps 1 (take k ts) (take k ns) ≡ told_steps 1 ts ns
steps-all k ts ns e f =
    ap (λ (us : List Step). told_steps 1 us (take k ns)) (take_all k ts e)
    ∙ ap (λ (xs : List StepNote). told_steps 1 ts xs) (take_all k ns (omega (arith, e, f)))

-- ---- At the end ----

-- lines of pages that had not failed went out, or a front of them
pub wrote-of : (a b : State) (ls : List (List ℕ)) → a.outcome ≡ Ok tt → Grows a b ls → Wrote a b ls
wrote-of a b ls e p = go a.written a.faults a.writes a.outcome e p
  where
    go : (w : Option (List ℕ)) (f n : ℕ) (o : Result (Unit {0}) SinkFault) → o ≡ Ok tt
        → Grows (record { written = w; faults = f; writes = n; outcome = o }) b ls
        → Wrote (record { written = w; faults = f; writes = n; outcome = o }) b ls
    go w f n (Ok u) e p = p.all
    go w f n (Err x) e p = cc
