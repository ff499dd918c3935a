-- Lines of pages, one after another.
use Rattle.std.proofs.Common.{◌≡◌, ℕ, zero, suc, ◌+◌, ◌≤◌, List, [], ◌∷◌, ◌++◌, map, length, take, drop, Some, Ok, Err, Result, Option, refl, sym, ap, ◌∙◌, subst, slice_get, arith}
use Rattle.std.proofs.lemmas.List.{take_all}
use Rattle.std.specs.Result.{OnOk}
use Rattle.std.specs.Io.KnownBytes.{Appends}
use Rattle.ras_io.specs.Causes.{AppendsFront, HasCause, Puts, one_more}
use Rattle.ras_io.specs.declared.faults.SinkFault.{SinkFault}
use Rattle.ras_text.specs.declared.line.Line.{Line}
use Rattle.ras_text.specs.Lines.{text_of, sink_of}
use Rattle.ras_policy.specs.declared.marks.Page.{Page}
use Rattle.ras_policy.specs.Retired.{pages_of}
use Rattle.board_plan.specs.declared.notes.Published.{Published}
use Rattle.board_plan.specs.Text.{bytes_of}
use Rattle.board_report.specs.Writing.{State, Wrote}
use Rattle.board_report.proofs.Growing.{grows-nil, grows-then}
use Rattle.board_run.specs.declared.status.Status.{Status}
use Rattle.board_run.specs.Retired.{page_line, page_lines}
use Rattle.board_run.specs.Parts.{Writes, state_of, status_of}

abbrev at : Option (List ℕ) → ℕ → ℕ → Result (Unit {0}) SinkFault → State
at w f n r = record { written = w; faults = f; writes = n; outcome = r }

-- nothing was to be written
pub none_wrote : (w : Option (List ℕ)) (f n : ℕ) → Wrote (at w f n (Ok tt)) (at w f n (Ok tt)) []
none_wrote w f n = (grows-nil (at w f n (Ok tt))).all

on_ok : (r : Result (Unit {0}) SinkFault) (A : Type 0) → A → OnOk r A
on_ok (Ok u) A a = a
on_ok (Err e) A a = tt

-- one line more, whatever came of its write
pub one_line : (u v w : Option (List ℕ)) (f g h k m n : ℕ) (xs zs : List (List ℕ)) (t : List ℕ)
    (r : Result (Unit {0}) SinkFault) → zs ≡ xs ++ t ∷ []
    → Wrote (at u f k (Ok tt)) (at v g m (Ok tt)) xs → Puts v w r (t ++ 10 ∷ []) → HasCause g h r → n ≡ one_more m
    → Wrote (at u f k (Ok tt)) (at w h n r) zs
one_line u v w f g h k m n xs zs t r e p bytes cause one =
    let more = grows-then (at u f k (Ok tt)) (at v g m (Ok tt)) (at w h n r) xs (t ∷ [])
    (record { all = p; still = tt })
    (record { all = record { bytes = bytes; cause = cause; writes = on_ok r _ one }; still = tt }) in
    subst (Wrote (at u f k (Ok tt)) (at w h n r)) (sym e) more.all

-- after a write that failed no further line goes out
pub cut_off : (u w : Option (List ℕ)) (f h k n : ℕ) (xs ys zs : List (List ℕ)) (d e : SinkFault)
    (r : Result (Unit {0}) SinkFault) → r ≡ Err e → zs ≡ xs ++ ys
    → Wrote (at u f k (Ok tt)) (at w h n (Err d)) xs → Wrote (at u f k (Ok tt)) (at w h n r) zs
cut_off u w f h k n xs ys zs d e r is whole p =
    let more = grows-then (at u f k (Ok tt)) (at w h n (Err e)) (at w h n (Err e)) xs ys
    (record {
      all = record {
        bytes = record { all = tt; front = p.bytes.front };
        cause = record { later = p.cause.later; failed = p.cause.failed; kept = tt };
        writes = tt;
      };
      still = tt;
    }) (record { all = tt; still = refl }) in
    subst (λ (s : Result (Unit {0}) SinkFault). Wrote (at u f k (Ok tt)) (at w h n s) zs) (sym is)
    (subst (Wrote (at u f k (Ok tt)) (at w h n (Err e))) (sym whole) more.all)

-- the same of a line under way: `before` as it stood, `put` with its text, `after` once it was ended
module _ {K : Type 0} (written : K → Option (List ℕ)) (faults writes : K → ℕ) (first before put after : Line K) where
  pub line_more : (xs zs : List (List ℕ)) (t : List ℕ) (r : Result (Unit {0}) SinkFault)
      → sink_of put ≡ sink_of before → text_of put ≡ t → zs ≡ xs ++ t ∷ []
      → Wrote (state_of written faults writes first (Ok tt)) (state_of written faults writes before (Ok tt)) xs
      → Puts (written (sink_of put)) (written (sink_of after)) r (text_of put ++ 10 ∷ [])
      → HasCause (faults (sink_of put)) (faults (sink_of after)) r
      → writes (sink_of after) ≡ one_more (writes (sink_of put))
      → Wrote (state_of written faults writes first (Ok tt)) (state_of written faults writes after r) zs
  line_more xs zs t r same text e p bytes cause one =
      let moved = subst (λ (s : K). Wrote (state_of written faults writes first (Ok tt))
      (at (written s) (faults s) (writes s) (Ok tt)) xs) (sym same) p in
      one_line _ _ _ _ _ _ _ _ _ xs zs (text_of put) r (e ∙ ap (λ (l : List ℕ). xs ++ l ∷ []) (sym text)) moved bytes
      cause one

-- the same lines under another name
pub wrote-same : (a b : State) (xs ys : List (List ℕ)) → xs ≡ ys → Wrote a b xs → Wrote a b ys
wrote-same a b xs ys e p = subst (Wrote a b) e p

-- one page more
pub pages-next : (i : ℕ) (ps : List Page) (p : Page) → slice_get ps i ≡ Some p
    → map page_line (take (i + 1) ps) ≡ map page_line (take i ps) ++ page_line p ∷ []
pages-next i [] p e = cc
pages-next zero (x ∷ ps) p e = let same : x ≡ p = cc in ap (λ (y : Page). page_line y ∷ []) same
pages-next (suc i) (x ∷ ps) p e =
    let next : suc i + 1 ≡ suc (i + 1) = omega arith in
    rw next (ap (λ ls. page_line x ∷ ls) (pages-next i ps p e))

-- some pages and the others
pub pages-split : (i : ℕ) (ps : List Page) → map page_line ps ≡ map page_line (take i ps) ++ map page_line (drop i ps)
pages-split zero ps = refl
pages-split (suc i) [] = refl
pages-split (suc i) (x ∷ ps) = ap (λ ls. page_line x ∷ ls) (pages-split i ps)

-- all of them
pub pages-all : (i : ℕ) (ps : List Page) → length ps ≤ i → map page_line (take i ps) ≡ map page_line ps
pages-all i ps e = ap (map page_line) (take_all i ps e)

-- ---- The whole list ----

-- the lines of a list, which is that of some copies, were written: all of them, or a front
pub listed : (threshold : ℕ) (copies published : List Published) (pages : List Page)
    (old new : Option (List ℕ)) (r : Result (Unit {0}) SinkFault) (status : Status) → published ≡ copies
    → pages ≡ pages_of threshold published → status ≡ status_of r → Puts old new r (bytes_of (map page_line pages))
    → Writes (bytes_of (page_lines threshold copies)) old new status
unfolding page_lines
listed threshold copies published pages old new (Ok u) status same is ended p =
    let text = ap (λ (ps : List Page). bytes_of (map page_line ps))
    (is ∙ ap (λ (cs : List Published). pages_of threshold cs) same) in
    subst (Writes (bytes_of (map page_line (pages_of threshold copies))) old new) (sym ended)
    (subst (Appends old new) text p.all)
listed threshold copies published pages old new (Err e) status same is ended p =
    let text = ap (λ (ps : List Page). bytes_of (map page_line ps))
    (is ∙ ap (λ (cs : List Published). pages_of threshold cs) same) in
    subst (Writes (bytes_of (map page_line (pages_of threshold copies))) old new) (sym ended)
    (subst (AppendsFront old new) text p.front)
