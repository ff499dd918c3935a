-- The words of a text's first line, as they are found byte by byte.
use Rattle.std.proofs.Common.{◌≡◌, ℕ, zero, suc, ◌+◌, ◌-◌, ◌<◌, ◌≤◌, ◌==◌, Bool, true, false, not, cond, List, [], ◌∷◌, ◌++◌, length, take, drop, get_or, slice_range, map, filter, refl, sym, ap, ◌∙◌, arith, append_assoc, append-nil, add-one, if◌then◌else◌}
use Rattle.std.proofs.Math.Seq.{drop-cons, take-suc}
use Rattle.std.proofs.Math.ListN.{drop_of_length-le}
use Rattle.std.proofs.lemmas.Bool.{and_from, or_from, not_from_false, ne_eqb, eq-eqb}
use Rattle.std.proofs.lemmas.List.{get_or-drop, length-drop, take_rest}
use Rattle.std.proofs.lemmas.List.Folds.{list_all-append}
use Rattle.std.specs.List.{list_all, onto_first, slice_split}
use Rattle.ras_text.specs.Pieces.{is_blank, is_word, words, pieces, lines, without_return, after_newline}
use Rattle.ras_text.proofs.Joined.{is_word_byte}
use Rattle.board_script.specs.Reading.{before_newline, line_of, as_word}
use Rattle.board_script.proofs.Steps.{both_true}

-- ---- A text's first line ----

piece_alone : (b : ℕ) (ends : Bool) → (if ends then [] ∷ [] else (b ∷ []) ∷ [])
    ≡ (if ends then [] else b ∷ []) ∷ pieces (if ends then [] else [])
piece_alone b true = refl
piece_alone b false = refl

piece_more : (b : ℕ) (t : List ℕ) (ends : Bool) → pieces t ≡ before_newline t ∷ pieces (after_newline t)
    → (if ends then [] ∷ pieces t else onto_first b (pieces t))
    ≡ (if ends then [] else b ∷ before_newline t) ∷ pieces (if ends then t else after_newline t)
piece_more b t true more = refl
piece_more b t false more = ap (onto_first b) more

first_piece : (t : List ℕ) → 0 < length t → pieces t ≡ before_newline t ∷ pieces (after_newline t)
first_piece [] some = absurd (omega arith)
first_piece (b ∷ []) some = piece_alone b (b == 10)
first_piece (b ∷ c ∷ t) some = piece_more b (c ∷ t) (b == 10) (first_piece (c ∷ t) (omega arith))

pub first_line : (t : List ℕ) → 0 < length t → lines t ≡ line_of t ∷ lines (after_newline t)
unfolding line_of
first_line t some = ap (map without_return) (first_piece t some)

one_fewer : (t u : List ℕ) (ends : Bool) → length u ≤ length t
    → length (if ends then t else u) ≤ length t
one_fewer t u true fewer = omega arith
one_fewer t u false fewer = fewer

no_longer : (t : List ℕ) → length (after_newline t) ≤ length t
no_longer [] = omega arith
no_longer (b ∷ t) = omega (arith, one_fewer t (after_newline t) (b == 10) (no_longer t))

pub shorter : (t : List ℕ) → 0 < length t → length (after_newline t) < length t
shorter [] some = absurd (omega arith)
shorter (b ∷ t) some = omega (arith, one_fewer t (after_newline t) (b == 10) (no_longer t))

-- ---- A line without its carriage return ----

-- a line that is cut at this place where a carriage return stands there
abbrev cut_at : List ℕ → ℕ → List ℕ
cut_at line n = if get_or line n 0 == 13 then take n line else line

behind_first : (c : ℕ) (cut : Bool) (x y : List ℕ) → (if cut then c ∷ x else c ∷ y) ≡ c ∷ (if cut then x else y)
behind_first c true x y = refl
behind_first c false x y = refl

return_later : (c d : ℕ) (l : List ℕ) → without_return (c ∷ d ∷ l) ≡ c ∷ without_return (d ∷ l)
return_later c d l =
    let two : length (c ∷ d ∷ l) - 1 ≡ suc (length l) = omega arith in
    let one : length (d ∷ l) - 1 ≡ length l = omega arith in
    ap (cut_at (c ∷ d ∷ l)) two
    ∙ behind_first c (get_or (d ∷ l) (length l) 0 == 13) (take (length l) (d ∷ l)) (d ∷ l)
    ∙ sym (ap (λ n. c ∷ cut_at (d ∷ l) n) one)

-- a return at the end of a line stands behind each other byte
return_behind : (w l : List ℕ) (b : ℕ) → (b == 13) ≡ false → without_return (w ++ b ∷ l) ≡ w ++ b ∷ without_return l
return_behind [] [] b other = ap (λ cut. cond cut [] (b ∷ [])) other
return_behind [] (d ∷ l) b other = return_later b d l
return_behind (c ∷ []) l b other = return_later c b l ∙ ap (λ x. c ∷ x) (return_behind [] l b other)
return_behind (c ∷ d ∷ w) l b other =
    return_later c d (w ++ b ∷ l) ∙ ap (λ x. c ∷ x) (return_behind (d ∷ w) l b other)

-- ---- Words ----

-- no byte of it is blank
abbrev IsPart : List ℕ → Type 0
IsPart w = list_all is_word_byte w ≡ true

not_so : (a : Bool) → not a ≡ true → a ≡ false
not_so true e = cc
not_so false e = refl

part_taken : (n : ℕ) (w : List ℕ) → IsPart w → IsPart (take n w)
part_taken zero w e = refl
part_taken (suc n) [] e = refl
part_taken (suc n) (b ∷ w) e =
    let p = both_true (is_word_byte b) _ e in and_from _ _ p.0 (part_taken n w p.1)

part_picked : (cut : Bool) (x y : List ℕ) → IsPart x → IsPart y → IsPart (if cut then x else y)
part_picked true x y p q = p
part_picked false x y p q = q

part_cut : (w : List ℕ) → IsPart w → IsPart (without_return w)
part_cut w e = part_picked (get_or w (length w - 1) 0 == 13) _ _ (part_taken (length w - 1) w e) e

part_more : (w : List ℕ) (b : ℕ) → IsPart w → is_blank b ≡ false → IsPart (w ++ b ∷ [])
part_more w b e other =
    list_all-append is_word_byte w (b ∷ []) ∙ and_from _ _ e (and_from _ _ (not_from_false _ other) refl)

abbrev by_blank : ℕ → List ℕ → Bool → List (List ℕ)
by_blank b v blank = cond blank ([] ∷ slice_split is_blank v) (onto_first b (slice_split is_blank v))

split_behind : (w v : List ℕ) (b : ℕ) → IsPart w → is_blank b ≡ true
    → slice_split is_blank (w ++ b ∷ v) ≡ w ∷ slice_split is_blank v
split_behind [] v b e blank = ap (by_blank b v) blank
split_behind (c ∷ w) v b e blank =
    let p = both_true (is_word_byte c) _ e in
    ap (by_blank c (w ++ b ∷ v)) (not_so _ p.0) ∙ ap (onto_first c) (split_behind w v b p.1 blank)

split_alone : (w : List ℕ) → IsPart w → slice_split is_blank w ≡ w ∷ []
split_alone [] e = refl
split_alone (c ∷ w) e =
    let p = both_true (is_word_byte c) _ e in
    ap (by_blank c w) (not_so _ p.0) ∙ ap (onto_first c) (split_alone w p.1)

word_in_front : (w : List ℕ) (ws : List (List ℕ)) → filter is_word (w ∷ ws) ≡ as_word w ++ filter is_word ws
word_in_front [] ws = refl
word_in_front (b ∷ w) ws = refl

words_behind : (w v : List ℕ) (b : ℕ) → IsPart w → is_blank b ≡ true → words (w ++ b ∷ v) ≡ as_word w ++ words v
unfolding words
words_behind w v b e blank =
    ap (filter is_word) (split_behind w v b e blank) ∙ word_in_front w (slice_split is_blank v)

words_alone : (w : List ℕ) → IsPart w → words w ≡ as_word w
unfolding words
words_alone w e = ap (filter is_word) (split_alone w e)

blank_is_no_return : (b : ℕ) → is_blank b ≡ true → (b == 13) ≡ false
blank_is_no_return b blank = ne_eqb b 13 (λ e. let other : is_blank b ≡ false = ap is_blank e in cc)

-- no byte above the space is blank
pub above_is_dark : (b : ℕ) → 32 < b → is_blank b ≡ false
above_is_dark b above = or_from _ _ (ne_eqb b 32 (λ e. omega arith)) (ne_eqb b 9 (λ e. omega arith))

-- ---- Byte by byte ----

-- the words from inside a line on, behind a part of a word
unfoldable pub onward : List ℕ → List ℕ → List (List ℕ)
onward part [] = as_word (without_return part)
onward part (b ∷ t) =
    if b == 10 then as_word (without_return part)
    else (if is_blank b then as_word part ++ onward [] t
    else onward (part ++ b ∷ []) t)

-- the same by what the next byte is
abbrev by_byte : List ℕ → ℕ → List ℕ → Bool → Bool → List (List ℕ)
by_byte part b t ends blank =
    if ends then as_word (without_return part)
    else (if blank then as_word part ++ onward [] t
    else onward (part ++ b ∷ []) t)

end_of_line : (w : List ℕ) → IsPart w → as_word (without_return w) ≡ words (without_return (w ++ []))
end_of_line w e =
    sym (ap (λ l. words (without_return l)) (append-nil w) ∙ words_alone (without_return w) (part_cut w e))

next_byte : (w : List ℕ) (b : ℕ) (t : List ℕ) (ends blank : Bool) → IsPart w → is_blank b ≡ blank
    → ((v : List ℕ) → IsPart v → onward v t ≡ words (without_return (v ++ before_newline t)))
    → by_byte w b t ends blank ≡ words (without_return (w ++ (if ends then [] else b ∷ before_newline t)))
next_byte w b t true blank e is more = end_of_line w e
next_byte w b t false true e is more =
    ap (λ ws. as_word w ++ ws) (more [] refl)
    ∙ sym (ap words (return_behind w (before_newline t) b (blank_is_no_return b is))
    ∙ words_behind w (without_return (before_newline t)) b e is)
next_byte w b t false false e is more =
    more (w ++ b ∷ []) (part_more w b e is)
    ∙ ap (λ l. words (without_return l)) (append_assoc w (b ∷ []) (before_newline t))

onward_is : (t w : List ℕ) → IsPart w → onward w t ≡ words (without_return (w ++ before_newline t))
unfolding onward
onward_is [] w e = end_of_line w e
onward_is (b ∷ t) w e = next_byte w b t (b == 10) (is_blank b) e refl (onward_is t)

-- the words of the first line
pub onward_start : (t : List ℕ) → onward [] t ≡ words (line_of t)
unfolding line_of
onward_start t = onward_is t [] refl

-- the text behind, by whether its first byte ends a line
abbrev after_byte : List ℕ → Bool → List ℕ
after_byte t ends = if ends then t else after_newline t

-- nothing stands behind the whole text
pub nothing_behind : (t : List ℕ) → take (length t - length t) (drop (length t) t) ≡ []
nothing_behind t = take_rest t (length t) ∙ drop_of_length-le t (omega arith)

module _ (t : List ℕ) (i : ℕ) where
  pub onward_end : (part : List ℕ) → length t ≤ i → onward part (drop i t) ≡ as_word (without_return part)
  unfolding onward
  onward_end part end = ap (onward part) (drop_of_length-le t end)

  pub after_end : length t ≤ i → after_newline (drop i t) ≡ []
  after_end end = ap after_newline (drop_of_length-le t end)

  module _ (here : i < length t) where
    at_place : drop i t ≡ get_or t i 0 ∷ drop (i + 1) t
    at_place = rw add-one (drop-cons t i 0 here)

    pub after_newline_byte : get_or t i 0 ≡ 10 → after_newline (drop i t) ≡ drop (i + 1) t
    after_newline_byte ends = ap after_newline at_place ∙ ap (after_byte (drop (i + 1) t)) (eq-eqb _ 10 ends)

    pub after_other_byte : (get_or t i 0 ≡ 10 → ⊥) → after_newline (drop i t) ≡ after_newline (drop (i + 1) t)
    after_other_byte other = ap after_newline at_place ∙ ap (after_byte (drop (i + 1) t)) (ne_eqb _ 10 other)

    pub onward_newline : (part : List ℕ) → get_or t i 0 ≡ 10 → onward part (drop i t) ≡ as_word (without_return part)
    unfolding onward
    onward_newline part ends =
        ap (onward part) at_place
        ∙ ap (λ e. by_byte part (get_or t i 0) (drop (i + 1) t) e (is_blank (get_or t i 0))) (eq-eqb _ 10 ends)

    onward_blank : (part : List ℕ) → (get_or t i 0 ≡ 10 → ⊥) → is_blank (get_or t i 0) ≡ true
        → onward part (drop i t) ≡ as_word part ++ onward [] (drop (i + 1) t)
    unfolding onward
    onward_blank part other blank =
        ap (onward part) at_place
        ∙ ap (λ e. by_byte part (get_or t i 0) (drop (i + 1) t) e (is_blank (get_or t i 0))) (ne_eqb _ 10 other)
        ∙ ap (by_byte part (get_or t i 0) (drop (i + 1) t) false) blank

    pub onward_word : (ws : List (List ℕ)) (s : ℕ) → (get_or t i 0 ≡ 10 → ⊥) → is_blank (get_or t i 0) ≡ true
        → (ws ++ as_word (slice_range t s i)) ++ onward (slice_range t (i + 1) (i + 1)) (drop (i + 1) t)
        ≡ ws ++ onward (slice_range t s i) (drop i t)
    onward_word ws s other blank =
        let part = slice_range t s i in
        let none : i + 1 - (i + 1) ≡ 0 = omega arith in
        append_assoc ws (as_word part) _
        ∙ ap (λ n. ws ++ (as_word part ++ onward (take n (drop (i + 1) t)) (drop (i + 1) t))) none
        ∙ ap (λ rest. ws ++ rest) (sym (onward_blank part other blank))

    range_more : (s : ℕ) → s ≤ i → slice_range t s i ++ get_or t i 0 ∷ [] ≡ slice_range t s (i + 1)
    range_more s low =
        let long : i + 1 - s ≡ suc (i - s) = omega arith in
        let back : s + (i - s) ≡ i = omega arith in
        sym (ap (λ n. take n (drop s t)) long
        ∙ take-suc (drop s t) (i - s) 0 (omega (arith, length-drop s t))
        ∙ ap (λ x. slice_range t s i ++ x ∷ []) (get_or-drop s t (i - s) 0 ∙ ap (λ n. get_or t n 0) back))

    pub onward_other : (s : ℕ) → s ≤ i → (get_or t i 0 ≡ 10 → ⊥) → is_blank (get_or t i 0) ≡ false
        → onward (slice_range t s i) (drop i t) ≡ onward (slice_range t s (i + 1)) (drop (i + 1) t)
    unfolding onward
    onward_other s low other dark =
        ap (onward (slice_range t s i)) at_place
        ∙ ap (λ e. by_byte (slice_range t s i) (get_or t i 0) (drop (i + 1) t) e (is_blank (get_or t i 0)))
        (ne_eqb _ 10 other)
        ∙ ap (by_byte (slice_range t s i) (get_or t i 0) (drop (i + 1) t) false) dark
        ∙ ap (λ w. onward w (drop (i + 1) t)) (range_more s low)
