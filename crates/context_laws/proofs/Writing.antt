-- What calls make of a hart's handlers: a write of attributes, a completion, and all others.
use Rattle.std.proofs.Common.{◌≡◌, ℕ, zero, suc, ◌+◌, ◌-◌, ◌*◌, ◌%◌, ◌≤◌, ◌==◌, ◌&&◌, Bool, true, false, cond, List, [], ◌∷◌, map, take, drop, length, replicate, Option, Some, refl, inl, inr, sym, ap, ◌∙◌, subst, arith, nat_le, leb-true, le-leb}
use Rattle.std.specs.Prelude.{slice_index}
use Rattle.std.specs.Option.{option_map}
use Rattle.std.proofs.lemmas.Bool.{cases_Bool, true≢false, and_parts}
use Rattle.std.proofs.lemmas.Bool.Decides.{eqb_tells, nat_tests}
use Rattle.std.proofs.lemmas.List.{length-drop, length-take-le, take_at}
use Rattle.sse_base.specs.declared.codes.SbiCode.{SbiCode}
use Rattle.sse_base.specs.declared.codes.SbiCode.TheVariants.{Success}
use Rattle.sse_base.specs.declared.functions.Function.{Function}
use Rattle.sse_base.specs.declared.functions.Function.TheVariants as functions
use Rattle.sse_base.specs.declared.ids.Instance.{Instance}
use Rattle.sse_base.specs.Ids.{id_of, instance_of, is_global, same_instance}
use Rattle.sse_base.specs.Codes.{is_success}
use Rattle.sse_base.specs.Functions.{function_of}
use Rattle.sse_base.specs.Contexts.{Context, Frame, Stack, Triple, triple_of, with_triple, below, with_below, changed_below, changed_own, complete}
use Rattle.sse_base.specs.Words.{are_words, words_at, word_index}
use Rattle.sse_base.specs.Calls.{extension, padded, with_interrupted, with_interrupted_triple, with_interrupted_words}
use Rattle.sse_base.proofs.Instances.{same_self, same_is}
use Rattle.sbi_sse.specs.Kept.{times, ats}
use Rattle.sbi_sse.proofs.Keeps.{written_ats}
use Rattle.board_plan.specs.declared.notes.StepNote.{StepNote}
use Rattle.board_plan.specs.declared.notes.StepNote.TheVariants as note
use Rattle.board_plan.specs.Notes.{is_accepted_write}
use Rattle.board_plan.specs.Sound.{AreOf}
use Rattle.board_plan.specs.Amend.{is_done, is_complete, ids_of, is_id, at_depth, amend_by, written_own, written_below, written_by}
use Rattle.context_laws.proofs.Depths.{at_none, at_mapped, is_at, own_at_depth, lowered, below_at_depth, below_base}
use Rattle.context_laws.proofs.Amending.{Amends, IsQuiet, IsCompletion, amends_completion, amends_no_completion}

-- ---- Which calls complete, and which write ----

-- the function that writes attributes
abbrev pub is_write : Option Function → Bool
is_write (Some functions.WriteAttrs) = true
is_write f = false

-- its number is 1
writes_one : (fid : ℕ) → is_write (function_of fid) ≡ (fid == 1)
writes_one zero = refl
writes_one (suc zero) = refl
writes_one (suc (suc zero)) = refl
writes_one (suc (suc (suc zero))) = refl
writes_one (suc (suc (suc (suc zero)))) = refl
writes_one (suc (suc (suc (suc (suc zero))))) = refl
writes_one (suc (suc (suc (suc (suc (suc zero)))))) = refl
writes_one (suc (suc (suc (suc (suc (suc (suc zero))))))) = refl
writes_one (suc (suc (suc (suc (suc (suc (suc (suc zero)))))))) = refl
writes_one (suc (suc (suc (suc (suc (suc (suc (suc (suc zero))))))))) = refl
writes_one (suc (suc (suc (suc (suc (suc (suc (suc (suc (suc n)))))))))) = grind (arith, nat_tests)

and_off : (a b : Bool) → b ≡ false → (a && b) ≡ false
and_off true b e = e
and_off false b e = refl

off_and : (a b : Bool) → a ≡ false → (a && b) ≡ false
off_and true b e = absurd (true≢false e)
off_and false b e = refl

-- a call of another function is no write, and one that is refused neither
other_writes_nothing : (eid fid : ℕ) (args : List ℕ) (code : SbiCode) → is_write (function_of fid) ≡ false
    → is_accepted_write eid fid args code ≡ false
other_writes_nothing eid fid args code e =
    let one : (fid == 1) ≡ false = sym (writes_one fid) ∙ e in
    off_and ((eid == extension) && (fid == 1) && is_success code) (nat_le (slice_index args 2) 10)
    (off_and ((eid == extension) && (fid == 1)) (is_success code) (and_off (eid == extension) (fid == 1) one))

refused_writes_nothing : (eid fid : ℕ) (args : List ℕ) (code : SbiCode) → is_success code ≡ false
    → is_accepted_write eid fid args code ≡ false
refused_writes_nothing eid fid args code e =
    off_and ((eid == extension) && (fid == 1) && is_success code) (nat_le (slice_index args 2) 10)
    (and_off ((eid == extension) && (fid == 1)) (is_success code) e)

quiet_call : (eid fid : ℕ) (args : List ℕ) (code : SbiCode) (written : List ℕ)
    → is_complete (note.Call eid fid args code written) ≡ false → is_accepted_write eid fid args code ≡ false
    → IsQuiet (note.Call eid fid args code written)
quiet_call eid fid args code written done write =
    record {
      ids = λ is. rw done refl;
      amends = λ d is k. rw write refl;
      no_completion = done;
    }

pub refused_quiet : (eid fid : ℕ) (args : List ℕ) (code : SbiCode) (written : List ℕ) → is_success code ≡ false
    → IsQuiet (note.Call eid fid args code written)
refused_quiet eid fid args code written bad =
    quiet_call eid fid args code written
    (and_off ((eid == extension) && is_done (function_of fid)) (is_success code) bad)
    (refused_writes_nothing eid fid args code bad)

pub other_quiet : (eid fid : ℕ) (args : List ℕ) (code : SbiCode) (written : List ℕ)
    → is_done (function_of fid) ≡ false → is_write (function_of fid) ≡ false
    → IsQuiet (note.Call eid fid args code written)
other_quiet eid fid args code written done write =
    quiet_call eid fid args code written
    (off_and ((eid == extension) && is_done (function_of fid)) (is_success code)
    (and_off (eid == extension) (is_done (function_of fid)) done))
    (other_writes_nothing eid fid args code write)

-- ---- Completions ----

pub completion : (eid fid : ℕ) (args written : List ℕ) → (eid == extension) ≡ true
    → function_of fid ≡ Some functions.Complete → IsCompletion (note.Call eid fid args Success written)
completion eid fid args written same is =
    record {
      completes = rw (same, is) refl;
      amends = λ d js k.
          ap (λ b. cond b (written_by args written d js k) k)
          (other_writes_nothing eid fid args Success (ap is_write is));
    }

pub amends_complete : (n : StepNote) (s : Stack) → IsCompletion n → Amends n s.frames s.base (complete s)
amends_complete n s q = go s.frames
  where
    go : (fs : List Frame) → Amends n fs s.base (complete (record s { frames = fs }))
    go [] = amends_no_completion n s.base (complete (record s { frames = [] })) q refl refl
    go (f ∷ fs) = amends_completion n f fs s.base (complete (record s { frames = f ∷ fs })) q refl refl refl

-- ---- Writes ----

id_meant : (id h : ℕ) → (id_of (instance_of id h)).0 ≡ id
id_meant id h = elim (cases_Bool (is_global id)) [ inl whole ↦ rw whole refl | inr own ↦ rw own refl ]

-- an instance of this hart is known by its id
same_by_id : (h id : ℕ) (x : Instance) → instance_of (id_of x).0 h ≡ x
    → ((id_of x).0 == id) ≡ same_instance x (instance_of id h)
same_by_id h id x meant =
    elim (eqb_tells (id_of x).0 id) [
      | inl e ↦
          let is : x ≡ instance_of id h = sym meant ∙ ap (λ i. instance_of i h) e.1 in
          e.0 ∙ sym (ap (same_instance x) (sym is) ∙ same_self x)
      | inr n ↦ elim (cases_Bool (same_instance x (instance_of id h))) [
        | inl same ↦
            absurd (n.1 (ap (λ (y : Instance). (id_of y).0) (same_is x (instance_of id h) same) ∙ id_meant id h))
        | inr other ↦ n.0 ∙ sym other
      ]
    ]

-- and so are the handlers at each depth
known_by_id : (h id d : ℕ) (fs : List Frame) → AreOf h fs
    → is_id id (at_depth d (ids_of fs)) ≡ is_at (instance_of id h) (at_depth d fs)
known_by_id h id d fs all =
    ap (is_id id) (at_mapped (λ (f : Frame). (id_of f.at).0) d fs) ∙ each fs all
  where
    each : (gs : List Frame) → AreOf h gs
        → is_id id (option_map (λ (f : Frame). (id_of f.at).0) (at_depth d gs))
        ≡ is_at (instance_of id h) (at_depth d gs)
    each [] all = refl
    each (f ∷ gs) all =
        elim (eqb_tells (suc (length gs)) d) [
          | inl e ↦ rw e.0 (same_by_id h id f.at all.0)
          | inr n ↦ rw n.0 (each gs all.1)
        ]

-- the two changes of a context in either order
in_either_order : (base : ℕ) (words : List ℕ) (own low : Bool) (k : Context)
    → cond own (with_interrupted_words base words
    (cond low (with_triple (with_interrupted_triple base words (triple_of k)) k) k))
    (cond low (with_triple (with_interrupted_triple base words (triple_of k)) k) k)
    ≡ cond low (with_triple (with_interrupted_triple base words
    (triple_of (cond own (with_interrupted_words base words k) k))) (cond own (with_interrupted_words base words k) k))
    (cond own (with_interrupted_words base words k) k)
in_either_order base words true true k = refl
in_either_order base words true false k = refl
in_either_order base words false true k = refl
in_either_order base words false false k = refl

-- a change of frames that leaves whose they are
top_ats : (t : Triple) (fs : List Frame) (b : Triple) → ats (with_below t fs b).frames ≡ ats fs
top_ats t [] b = refl
top_ats t (f ∷ fs) b = refl

below_ats : (at : Instance) (g : Triple → Triple) (fs : List Frame) (b : Triple)
    → ats (changed_below at g fs b).frames ≡ ats fs
below_ats at g [] b = refl
below_ats at g (f ∷ fs) b =
    elim (cases_Bool (same_instance f.at at)) [
      | inl y ↦ rw y (ap (λ xs. f.at ∷ xs) (top_ats (g (below fs b)) fs b))
      | inr n ↦ rw n (ap (λ xs. f.at ∷ xs) (below_ats at g fs b))
    ]

written_frame : (h id base : ℕ) (words : List ℕ) (d : ℕ) (fs : List Frame) (b : Triple) (f : Frame) → AreOf h fs
    → times (instance_of id h) (ats fs) ≤ 1 → at_depth d fs ≡ Some f
    → at_depth d (changed_own (instance_of id h) (with_interrupted_words base words)
    (changed_below (instance_of id h) (with_interrupted_triple base words) fs b).frames)
    ≡ Some (record {
      at = f.at;
      saved = written_below id base words d (ids_of fs) (written_own id base words d (ids_of fs) f.saved);
    })
written_frame h id base words d fs b f all once there =
    let at = instance_of id h in
    let is = ids_of fs in
    let low : Bool = is_at at (at_depth (suc d) fs) in
    let own : Bool = same_instance f.at at in
    let gs = (changed_below at (with_interrupted_triple base words) fs b).frames in
    let k = f.saved in
    let owned : is_id id (at_depth d is) ≡ own = known_by_id h id d fs all ∙ ap (is_at at) there in
    let lows : is_id id (at_depth (suc d) is) ≡ low = known_by_id h id (suc d) fs all in
    let g = with_interrupted_triple base words in
    own_at_depth at (with_interrupted_words base words) d gs (lowered g low f)
    (subst (λ (xs : List Instance). times at xs ≤ 1) (sym (below_ats at g fs b)) once)
    (below_at_depth at g d fs b f once there)
    ∙ ap (λ c. Some (record { at = f.at; saved = c })) (in_either_order base words own low k
    ∙ sym (rw (owned, lows) refl))

ids_by_ats : (fs : List Frame) → ids_of fs ≡ map (λ (x : Instance). (id_of x).0) (ats fs)
ids_by_ats [] = refl
ids_by_ats (f ∷ fs) = ap (λ is. (id_of f.at).0 ∷ is) (ids_by_ats fs)

written_ids : (base : ℕ) (words : List ℕ) (at : Instance) (s : Stack)
    → ids_of (with_interrupted base words at s).frames ≡ ids_of s.frames
written_ids base words at s =
    ids_by_ats (with_interrupted base words at s).frames
    ∙ ap (map (λ (x : Instance). (id_of x).0)) (written_ats base words at s) ∙ sym (ids_by_ats s.frames)

-- the base is changed where the oldest handler is of the event
written_base : (h id base : ℕ) (words : List ℕ) (fs : List Frame) (b : Triple) (k : Context) → AreOf h fs
    → times (instance_of id h) (ats fs) ≤ 1 → b ≡ triple_of k
    → (changed_below (instance_of id h) (with_interrupted_triple base words) fs b).base
    ≡ triple_of (written_below id base words 0 (ids_of fs) (written_own id base words 0 (ids_of fs) k))
written_base h id base words fs b k all once is_k =
    let at = instance_of id h in
    let g = with_interrupted_triple base words in
    let is = ids_of fs in
    let low : Bool = is_at at (at_depth 1 fs) in
    let owned : is_id id (at_depth 0 is) ≡ false = ap (is_id id) (at_none is) in
    let lows : is_id id (at_depth 1 is) ≡ low = known_by_id h id 1 fs all in
    let so : written_below id base words 0 is (written_own id base words 0 is k)
    ≡ cond low (with_triple (g (triple_of k)) k) k = rw (owned, lows) refl in
    below_base at g fs b once ∙ ap (λ t. cond low (g t) t) is_k ∙ lifted low ∙ sym (ap triple_of so)
  where
    lifted : (c : Bool)
        → cond c (with_interrupted_triple base words (triple_of k)) (triple_of k)
        ≡ triple_of (cond c (with_triple (with_interrupted_triple base words (triple_of k)) k) k)
    lifted true = refl
    lifted false = refl

-- the words that a note tells of are those that were written
told_words : (words : List ℕ) (count : ℕ) → length words ≡ count → take count (padded words) ≡ words
told_words words count n = take_at words (replicate (10 - length words) 0) count n

-- words that stand in memory are as many as were asked for
pub words_many : (memory : List ℕ) (lo count : ℕ) → length memory ≡ 512 → are_words lo count ≡ true
    → length (words_at memory lo count) ≡ count
words_many memory lo count n fits =
    let one = and_parts ((lo % 8 == 0) && nat_le 0x80000000 lo) (nat_le (lo + 8 * count) 0x80001000) fits in
    let low : 0x80000000 ≤ lo =
    leb-true 0x80000000 lo (and_parts (lo % 8 == 0) (nat_le 0x80000000 lo) one.0).1 in
    let high : lo + 8 * count ≤ 0x80001000 = leb-true (lo + 8 * count) 0x80001000 one.1 in
    length-take-le count (drop (word_index lo) memory)
    (omega (arith, low, high, n, length-drop (word_index lo) memory))

-- an accepted write of attributes
module _ (h eid fid : ℕ) (args : List ℕ) (words : List ℕ) (same : (eid == extension) ≡ true)
    (is : function_of fid ≡ Some functions.WriteAttrs) (many : length words ≡ slice_index args 2)
    (few : slice_index args 2 ≤ 10) where
  abbrev written : StepNote
  written = note.Call eid fid args Success (padded words)

  no_end : is_complete written ≡ false
  no_end = rw (same, is) refl

  accepted : is_accepted_write eid fid args Success ≡ true
  accepted =
      let one : (fid == 1) ≡ true = sym (writes_one fid) ∙ ap is_write is in
      let within : nat_le (slice_index args 2) 10 ≡ true = le-leb (slice_index args 2) 10 few in
      rw (same, one, within) refl

  amends_so : (d : ℕ) (js : List ℕ) (k : Context)
      → amend_by written d js k
      ≡ written_below (slice_index args 0) (slice_index args 1) words d js
      (written_own (slice_index args 0) (slice_index args 1) words d js k)
  amends_so d js k =
      ap (λ b. cond b (written_by args (padded words) d js k) k) accepted
      ∙ ap (λ ws. written_below (slice_index args 0) (slice_index args 1) ws d js
      (written_own (slice_index args 0) (slice_index args 1) ws d js k)) (told_words words (slice_index args 2) many)

  pub amends_write : (s : Stack) → AreOf h s.frames → times (instance_of (slice_index args 0) h) (ats s.frames) ≤ 1
      → Amends written s.frames s.base
      (with_interrupted (slice_index args 1) words (instance_of (slice_index args 0) h) s)
  amends_write s all once =
      let id = slice_index args 0 in
      let base = slice_index args 1 in
      record {
        ids = written_ids base words (instance_of id h) s ∙ sym (rw no_end refl);
        frames = λ d f there open_still.
            written_frame h id base words d s.frames s.base f all once there
            ∙ ap (λ c. Some (record { at = f.at; saved = c })) (sym (amends_so d (ids_of s.frames) f.saved));
        base = λ k e.
            written_base h id base words s.frames s.base k all once e
            ∙ ap triple_of (sym (amends_so 0 (ids_of s.frames) k));
        restores = λ f yes there. absurd (true≢false (sym yes ∙ no_end));
      }
