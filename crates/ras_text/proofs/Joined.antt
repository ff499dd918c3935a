-- Words that are joined by spaces, and lines that end with a newline, are read again.
use Rattle.std.proofs.Common.{◌≡◌, ℕ, zero, suc, ◌-◌, Bool, true, false, not, ◌&&◌, cond, List, [], ◌∷◌, ◌++◌, length, take, get_or, map, filter, refl, ap, ◌∙◌, ◌==◌}
use Rattle.std.specs.List.{list_all, join_with_byte, onto_first, slice_split}
use Rattle.ras_text.specs.Pieces.{is_blank, is_word, words, pieces, lines, without_return}

-- a byte of a word
abbrev pub is_word_byte : ℕ → Bool
is_word_byte b = not (is_blank b)

-- bytes that are a word
abbrev pub is_whole_word : List ℕ → Bool
is_whole_word w = is_word w && list_all is_word_byte w

-- a byte of a line
abbrev pub is_line_byte : ℕ → Bool
is_line_byte b = not (b == 10) && not (b == 13)

pub both : (a b : Bool) → (a && b) ≡ true → (a ≡ true) × (b ≡ true)
both true b e = (refl, e)
both false b e = cc

not_so : (a : Bool) → not a ≡ true → a ≡ false
not_so true e = cc
not_so false e = refl

abbrev by_blank : ℕ → List ℕ → Bool → List (List ℕ)
by_blank b v blank = cond blank ([] ∷ slice_split is_blank v) (onto_first b (slice_split is_blank v))

word_and_more : (w v : List ℕ) → list_all is_word_byte w ≡ true → slice_split is_blank (w ++ 32 ∷ v) ≡ w
    ∷ slice_split is_blank v
word_and_more [] v e = refl
word_and_more (b ∷ w) v e =
    let p = both (is_word_byte b) _ e in
    ap (by_blank b (w ++ 32 ∷ v)) (not_so _ p.0) ∙ ap (onto_first b) (word_and_more w v p.1)

word_alone : (w : List ℕ) → list_all is_word_byte w ≡ true → slice_split is_blank w ≡ w ∷ []
word_alone [] e = refl
word_alone (b ∷ w) e =
    let p = both (is_word_byte b) _ e in
    ap (by_blank b w) (not_so _ p.0) ∙ ap (onto_first b) (word_alone w p.1)

-- a word that is found stays
kept : (w : List ℕ) (ws : List (List ℕ)) → is_word w ≡ true → filter is_word (w ∷ ws) ≡ w ∷ filter is_word ws
kept w ws e = ap (λ b. cond b (w ∷ filter is_word ws) (filter is_word ws)) e

-- words joined by spaces are read again
pub words_joined : (ws : List (List ℕ)) → list_all is_whole_word ws ≡ true → words (join_with_byte 32 ws) ≡ ws
unfolding words
words_joined [] e = refl
words_joined (w ∷ []) e =
    let p = both (is_word w) _ (both (is_whole_word w) _ e).0 in
    ap (filter is_word) (word_alone w p.1) ∙ kept w [] p.0
words_joined (w ∷ v ∷ ws) e =
    let all = both (is_whole_word w) _ e in
    let p = both (is_word w) _ all.0 in
    ap (filter is_word) (word_and_more w (join_with_byte 32 (v ∷ ws)) p.1)
    ∙ kept w (slice_split is_blank (join_with_byte 32 (v ∷ ws))) p.0 ∙ ap (λ l. w ∷ l) (words_joined (v ∷ ws) all.1)

abbrev by_end : ℕ → List ℕ → Bool → List (List ℕ)
by_end b t ends = cond ends ([] ∷ pieces t) (onto_first b (pieces t))

piece_and_more : (l t : List ℕ) → list_all is_line_byte l ≡ true → pieces (l ++ 10 ∷ t) ≡ l ∷ pieces t
piece_and_more [] t e = refl
piece_and_more (b ∷ l) t e =
    let p = both (is_line_byte b) _ e in
    ap (by_end b (l ++ 10 ∷ t)) (not_so _ (both (not (b == 10)) _ p.0).0) ∙ ap (onto_first b) (piece_and_more l t p.1)

no_return : (l : List ℕ) (k : ℕ) → list_all is_line_byte l ≡ true → (get_or l k 0 == 13) ≡ false
no_return [] k e = refl
no_return (b ∷ l) zero e = not_so _ (both (not (b == 10)) _ (both (is_line_byte b) _ e).0).1
no_return (b ∷ l) (suc k) e = no_return l k (both (is_line_byte b) _ e).1

-- a line and its newline are read again
pub lines_more : (l t : List ℕ) → list_all is_line_byte l ≡ true → lines (l ++ 10 ∷ t) ≡ l ∷ lines t
lines_more l t e =
    ap (map without_return) (piece_and_more l t e)
    ∙ ap (λ b. cond b (take (length l - 1) l) l ∷ lines t) (no_return l (length l - 1) e)
