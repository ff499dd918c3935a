-- What notes make of a hart's handlers: of each frame, of the triple below them all, and of the handlers' ids.
use Rattle.std.proofs.Common.{◌≡◌, ℕ, suc, ◌==◌, ◌&&◌, Bool, true, false, cond, List, [], ◌∷◌, drop, length, Some, refl, sym, ap, ◌∙◌, arith}
use Rattle.std.specs.Prelude.{not}
use Rattle.std.proofs.lemmas.Bool.{true≢false}
use Rattle.std.proofs.lemmas.List.{length-map}
use Rattle.std.proofs.lemmas.Option.{none-some, same_Some}
use Rattle.sse_base.specs.declared.ids.Instance.{Instance}
use Rattle.sse_base.specs.Ids.{id_of}
use Rattle.sse_base.specs.Contexts.{Context, Frame, Stack, Triple, below, with_below, triple_of, with_triple}
use Rattle.board_plan.specs.declared.notes.StepNote.{StepNote}
use Rattle.board_plan.specs.declared.notes.StepNote.TheVariants as note
use Rattle.board_plan.specs.Amend.{is_complete, ids_of, ids_with, ids_after, at_depth, amend_by, amend, completes, is_open}
use Rattle.context_laws.proofs.Depths.{here, behind, at_within, top_at_depth, top_base}

-- ---- One note ----

-- what a note's step makes of these frames and of the base below them
pub record Amends (n : StepNote) (fs : List Frame) (b : Triple) (y : Stack) : Type 0 where
  pub ids : ids_of y.frames ≡ ids_with n (ids_of fs)
  pub frames : (d : ℕ) (f : Frame) → at_depth d fs ≡ Some f → completes n d (ids_of fs) ≡ false
      → at_depth d y.frames ≡ Some (record { at = f.at; saved = amend_by n d (ids_of fs) f.saved })
  pub base : (k : Context) → b ≡ triple_of k → y.base ≡ triple_of (amend_by n 0 (ids_of fs) k)
  pub restores : (f : Frame) → is_complete n ≡ true → at_depth (length fs) fs ≡ Some f → y.live ≡ f.saved

-- ---- Several notes ----

pub record AmendsAll (ns : List StepNote) (x y : Stack) : Type 0 where
  pub ids : ids_of y.frames ≡ ids_after (ids_of x.frames) ns
  pub frames : (d : ℕ) (f : Frame) → at_depth d x.frames ≡ Some f → is_open d (ids_of x.frames) ns ≡ true
      → at_depth d y.frames ≡ Some (record { at = f.at; saved = amend d (ids_of x.frames) f.saved ns })
  pub base : (k : Context) → x.base ≡ triple_of k → y.base ≡ triple_of (amend 0 (ids_of x.frames) k ns)

pub amends_none : (x : Stack) → AmendsAll [] x x
amends_none x = record { ids = refl; frames = λ d f there still. there; base = λ k e. e }

still_open : (a b : Bool) → (not a && b) ≡ true → (a ≡ false) × (b ≡ true)
still_open true b e = absurd (true≢false (sym e))
still_open false b e = (refl, e)

-- one, and then the others
pub amends_more : (n : StepNote) (ns : List StepNote) (x y z : Stack) → Amends n x.frames x.base y → AmendsAll ns y z
    → AmendsAll (n ∷ ns) x z
amends_more n ns x y z p q =
    let is = ids_of x.frames in
    record {
      ids = q.ids ∙ ap (λ js. ids_after js ns) p.ids;
      frames = λ d f there open_still.
          let o = still_open (completes n d is) (is_open d (ids_with n is) ns) open_still in
          q.frames d (record { at = f.at; saved = amend_by n d is f.saved }) (p.frames d f there o.0)
          (ap (λ js. is_open d js ns) p.ids ∙ o.1)
          ∙ ap (λ js. Some (record { at = f.at; saved = amend d js (amend_by n d is f.saved) ns })) p.ids;
      base = λ k e.
          q.base (amend_by n 0 is k) (p.base k e)
          ∙ ap (λ js. triple_of (amend 0 js (amend_by n 0 is k) ns)) p.ids;
    }

-- ---- Kinds of notes ----

-- it leaves the handlers and what they interrupted
pub record IsQuiet (n : StepNote) : Type 0 where
  pub ids : (is : List ℕ) → ids_with n is ≡ is
  pub amends : (d : ℕ) (is : List ℕ) (k : Context) → amend_by n d is k ≡ k
  pub no_completion : is_complete n ≡ false

-- it changes what the newest handler interrupted, or the base where none runs
pub record IsOnTop (n : StepNote) (f : Context → Context) : Type 0 where
  pub ids : (is : List ℕ) → ids_with n is ≡ is
  pub amends : (d : ℕ) (is : List ℕ) (k : Context) → amend_by n d is k ≡ cond (length is == d) (f k) k
  pub no_completion : is_complete n ≡ false

not_both : (n : StepNote) {A : Type 0} → is_complete n ≡ false → is_complete n ≡ true → A
not_both n never done = absurd (true≢false (sym done ∙ never))

pub amends_quiet : (n : StepNote) (fs : List Frame) (b : Triple) (y : Stack) → IsQuiet n → y.frames ≡ fs → y.base ≡ b
    → Amends n fs b y
amends_quiet n fs b y q same base =
    record {
      ids = ap ids_of same ∙ sym (q.ids (ids_of fs));
      frames = λ d f there open_still.
          ap (at_depth d) same ∙ there
          ∙ ap (λ k. Some (record { at = f.at; saved = k })) (sym (q.amends d (ids_of fs) f.saved));
      base = λ k e. base ∙ e ∙ ap triple_of (sym (q.amends 0 (ids_of fs) k));
      restores = λ f yes there. not_both n q.no_completion yes;
    }

-- a change that leaves the frames is one of nothing else
top_ids : (t : Triple) (fs : List Frame) (b : Triple) → ids_of (with_below t fs b).frames ≡ ids_of fs
top_ids t [] b = refl
top_ids t (f ∷ fs) b = refl

picked : (f : Context → Context) (g : Triple → Triple) (b : Bool) (k : Context) → f k ≡ with_triple (g (triple_of k)) k
    → cond b (with_triple (g (triple_of k)) k) k ≡ cond b (f k) k
picked f g true k e = sym e
picked f g false k e = refl

pub amends_top : (n : StepNote) (f : Context → Context) (g : Triple → Triple) (fs : List Frame) (b : Triple) (y : Stack)
    → IsOnTop n f → ((k : Context) → f k ≡ with_triple (g (triple_of k)) k)
    → y.frames ≡ (with_below (g (below fs b)) fs b).frames → y.base ≡ (with_below (g (below fs b)) fs b).base
    → Amends n fs b y
amends_top n f g fs b y q so same base =
    let is = ids_of fs in
    let many : length is ≡ length fs = length-map fs (λ (x : Frame). (id_of x.at).0) in
    record {
      ids = ap ids_of same ∙ top_ids (g (below fs b)) fs b ∙ sym (q.ids is);
      frames = λ d x there open_still.
          ap (at_depth d) same ∙ top_at_depth g d fs b x there
          ∙ ap (λ k. Some (record { at = x.at; saved = k }))
          (picked f g (length fs == d) x.saved (so x.saved)
          ∙ ap (λ m. cond (m == d) (f x.saved) x.saved) (sym many) ∙ sym (q.amends d is x.saved));
      base = λ k e.
          base ∙ top_base g fs b ∙ ap (λ t. cond (length fs == 0) (g t) t) e
          ∙ lifted (length fs == 0) k
          ∙ ap triple_of (picked f g (length fs == 0) k (so k)
          ∙ ap (λ m. cond (m == 0) (f k) k) (sym many) ∙ sym (q.amends 0 is k));
      restores = λ x yes there. not_both n q.no_completion yes;
    }
  where
    lifted : (c : Bool) (k : Context)
        → cond c (g (triple_of k)) (triple_of k) ≡ triple_of (cond c (with_triple (g (triple_of k)) k) k)
    lifted true k = refl
    lifted false k = refl

-- ---- A delivery and a completion ----

pub amends_delivery : (at : Instance) (saved : Context) (fs : List Frame) (b : Triple) (y : Stack)
    → y.frames ≡ record { at = at; saved = saved } ∷ fs → y.base ≡ b
    → Amends (note.Deliver (id_of at).0) fs b y
amends_delivery at saved fs b y same base =
    let new : Frame = record { at = at; saved = saved } in
    record {
      ids = ap ids_of same;
      frames = λ d f there open_still.
          ap (at_depth d) same ∙ behind d new fs (λ e. omega (arith, e, at_within d fs f there)) ∙ there;
      base = λ k e. base ∙ e;
      restores = λ f yes there. absurd (true≢false (sym yes));
    }

-- with or without a handler
pub record IsCompletion (n : StepNote) : Type 0 where
  pub completes : is_complete n ≡ true
  pub amends : (d : ℕ) (is : List ℕ) (k : Context) → amend_by n d is k ≡ k

dropped : (n : StepNote) (is : List ℕ) → IsCompletion n → ids_with n is ≡ drop 1 is
dropped (note.Call eid fid args code written) is q = rw q.completes refl
dropped n is q = absurd (true≢false (sym q.completes))

pub amends_completion : (n : StepNote) (f : Frame) (fs : List Frame) (b : Triple) (y : Stack) → IsCompletion n
    → y.live ≡ f.saved → y.frames ≡ fs → y.base ≡ b → Amends n (f ∷ fs) b y
amends_completion n f fs b y q live same base =
    let is = ids_of (f ∷ fs) in
    let many : length is ≡ suc (length fs) = ap suc (length-map fs (λ (x : Frame). (id_of x.at).0)) in
    record {
      ids = ap ids_of same ∙ sym (dropped n is q);
      frames = λ d x there open_still.
          let lower : (suc (length fs) == d) ≡ false =
          sym (ap (λ c. c && (suc (length fs) == d)) q.completes)
          ∙ ap (λ m. is_complete n && (m == d)) (sym many) ∙ open_still in
          ap (at_depth d) same
          ∙ ap (λ c. cond c (Some f) (at_depth d fs)) (sym lower) ∙ there
          ∙ ap (λ k. Some (record { at = x.at; saved = k })) (sym (q.amends d is x.saved));
      base = λ k e. base ∙ e ∙ ap triple_of (sym (q.amends 0 is k));
      restores = λ x yes there.
          live ∙ ap (λ (z : Frame). z.saved)
          (same_Some f x (sym (here (suc (length fs)) f fs refl) ∙ there));
    }

pub amends_no_completion : (n : StepNote) (b : Triple) (y : Stack) → IsCompletion n → y.frames ≡ [] → y.base ≡ b
    → Amends n [] b y
amends_no_completion n b y q same base =
    record {
      ids = ap ids_of same ∙ sym (dropped n [] q);
      frames = λ d x there open_still. absurd (none-some x there);
      base = λ k e. base ∙ e ∙ ap triple_of (sym (q.amends 0 [] k));
      restores = λ x yes there. absurd (none-some x there);
    }
