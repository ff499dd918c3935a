-- Where words and lines begin and end.
use Rattle.std.proofs.Common.{◌≡◌, ℕ, zero, suc, ◌-◌, ◌<◌, ◌≤◌, Bool, true, false, cond, List, [], ◌∷◌, length, take, drop, get_or, refl, sym, ap, ◌∙◌, arith, map, filter}
use Rattle.std.proofs.lemmas.Bool.{eq-eqb, ne_eqb}
use Rattle.std.proofs.lemmas.List.{get_or-drop, length-drop}
use Rattle.std.proofs.Math.ListN.{drop_of_length-le}
use Rattle.std.proofs.Math.Seq.{drop-nil}
use Rattle.std.specs.List.{onto_first, slice_split}
use Rattle.ras_text.specs.Pieces.{is_blank, is_word, words, pieces, lines, without_return, after_newline}

-- ---- words

-- the parts that follow the first
abbrev tail_parts : List ℕ → List (List ℕ)
tail_parts [] = []
tail_parts (b ∷ t) = slice_split is_blank t

-- the parts of a line that is split where b stands before t
abbrev at_head : ℕ → List ℕ → Bool → List (List ℕ)
at_head b t blank = cond blank ([] ∷ slice_split is_blank t) (onto_first b (slice_split is_blank t))

-- the first part goes to the first blank
first_part : (u : List ℕ) (j : ℕ) → j ≤ length u → ((k : ℕ) → k < j → is_blank (get_or u k 0) ≡ false)
    → (j < length u → is_blank (get_or u j 0) ≡ true)
    → slice_split is_blank u ≡ take j u ∷ tail_parts (drop j u)
first_part [] zero fits before at = refl
first_part [] (suc j) fits before at = absurd (omega arith)
first_part (b ∷ u) zero fits before at = ap (at_head b u) (at (omega arith))
first_part (b ∷ u) (suc j) fits before at =
    ap (at_head b u) (before 0 (omega arith))
    ∙ ap (onto_first b) (first_part u j (omega arith) (λ k h. before (suc k) (omega arith)) (λ h. at (omega arith)))

-- blanks at the front give no word
skipped : (u : List ℕ) (j : ℕ) → j ≤ length u → ((k : ℕ) → k < j → is_blank (get_or u k 0) ≡ true)
    → words u ≡ words (drop j u)
unfolding words
skipped u zero fits before = refl
skipped [] (suc j) fits before = absurd (omega arith)
skipped (b ∷ u) (suc j) fits before =
    ap (λ blank. filter is_word (at_head b u blank)) (before 0 (omega arith))
    ∙ skipped u j (omega arith) (λ k h. before (suc k) (omega arith))

-- the words after the first part
words_after : (v : List ℕ) → (0 < length v → is_blank (get_or v 0 0) ≡ true) → filter is_word (tail_parts v) ≡ words v
unfolding words
words_after [] h = refl
words_after (b ∷ t) h = sym (ap (λ blank. filter is_word (at_head b t blank)) (h (omega arith)))

-- the first word goes to the first blank
first_word : (u : List ℕ) (j : ℕ) → 0 < j → j ≤ length u → ((k : ℕ) → k < j → is_blank (get_or u k 0) ≡ false)
    → (j < length u → is_blank (get_or u j 0) ≡ true)
    → words u ≡ take j u ∷ words (drop j u)
unfolding words
first_word u zero some fits before at = absurd (omega arith)
first_word [] (suc j) some fits before at = absurd (omega arith)
first_word (b ∷ u) (suc j) some fits before at =
    ap (filter is_word) (first_part (b ∷ u) (suc j) fits before at)
    ∙ ap (λ rest. (b ∷ take j u)
    ∷ rest) (words_after (drop j u) (λ h. ap is_blank (get_or-drop j u 0 0 ∙ ap (λ n. get_or u n 0) (omega arith))
    ∙ at (omega (arith, length-drop j u, h))))

-- what the search for a word and for its end say of a line t: u begins with the word, v is after it
pub next_word : (t u v w : List ℕ) (i j : ℕ) → u ≡ drop i t → w ≡ take j u → v ≡ drop j u
    → i ≤ length t → ((k : ℕ) → k < i → is_blank (get_or t k 0) ≡ true)
    → j ≤ length u → ((k : ℕ) → k < j → is_blank (get_or u k 0) ≡ false)
    → (j < length u → is_blank (get_or u j 0) ≡ true)
    → 0 < j → words t ≡ w ∷ words v
next_word t u v w i j front word back fits blanks within before at some =
    skipped t i fits blanks ∙ ap words (sym front) ∙ first_word u j some within before at
    ∙ ap (λ l. l ∷ words (drop j u)) (sym word) ∙ ap (λ l. w ∷ words l) (sym back)

-- a test has one answer
false_true : (b : Bool) → b ≡ true → b ≡ false → ⊥
false_true b p q = cc

-- the line is used up where no word begins
pub no_word : (t u v : List ℕ) (i j : ℕ) → u ≡ drop i t → v ≡ drop j u
    → i ≤ length t → ((k : ℕ) → k < i → is_blank (get_or t k 0) ≡ true)
    → (i < length t → is_blank (get_or t i 0) ≡ false)
    → (j < length u → is_blank (get_or u j 0) ≡ true) → j ≡ 0 → (words t ≡ []) × (words v ≡ [])
unfolding words
no_word t u v i j front back fits blanks begins at none =
    let long : length u ≡ length t - i = ap length front ∙ length-drop i t in
    let over : i < length t → ⊥ =
    λ h. let no = begins h in
    let yes = at (omega arith) in
    let same : get_or u j 0 ≡ get_or t i 0 =
    ap (λ l. get_or l j 0) front ∙ get_or-drop i t j 0 ∙ ap (λ n. get_or t n 0) (omega arith) in
    false_true _ (sym (ap is_blank same) ∙ yes) no in
    let used : drop i t ≡ [] = drop_of_length-le t (omega (arith, over)) in
    let gone : v ≡ [] = back ∙ ap (drop j) (front ∙ used) ∙ drop-nil j in
    (skipped t i fits blanks ∙ ap words used, ap words gone)

-- ---- lines

-- the pieces of a text where b stands before t
abbrev piece_head : ℕ → List ℕ → Bool → List (List ℕ)
piece_head b t ends = cond ends ([] ∷ pieces t) (onto_first b (pieces t))

-- the first piece goes to the first newline
first_piece : (t : List ℕ) (j : ℕ) → 0 < length t → j ≤ length t → ((k : ℕ) → k < j → get_or t k 0 ≡ 10 → ⊥)
    → (j < length t → get_or t j 0 ≡ 10)
    → pieces t ≡ take j t ∷ pieces (drop 1 (drop j t))
first_piece [] j some fits before at = absurd (omega arith)
first_piece (b ∷ t) zero some fits before at = ap (piece_head b t) (eq-eqb b 10 (at (omega arith)))
first_piece (b ∷ []) (suc zero) some fits before at = ap (piece_head b []) (ne_eqb b 10 (before 0 (omega arith)))
first_piece (b ∷ []) (suc (suc j)) some fits before at = absurd (omega arith)
first_piece (b ∷ c ∷ t) (suc j) some fits before at =
    ap (piece_head b (c ∷ t)) (ne_eqb b 10 (before 0 (omega arith)))
    ∙ ap (onto_first b) (first_piece (c ∷ t) j (omega arith) (omega arith) (λ k h. before (suc k) (omega arith))
    (λ h. at (omega arith)))

-- the first line goes to the first newline
pub first_line : (t : List ℕ) (j : ℕ) → 0 < length t → j ≤ length t → ((k : ℕ) → k < j → get_or t k 0 ≡ 10 → ⊥)
    → (j < length t → get_or t j 0 ≡ 10)
    → lines t ≡ without_return (take j t) ∷ lines (drop 1 (drop j t))
first_line t j some fits before at = ap (map without_return) (first_piece t j some fits before at)

-- the text after b and t
abbrev after_head : List ℕ → Bool → List ℕ
after_head t ends = cond ends t (after_newline t)

-- the text after the first line
pub after_line : (t : List ℕ) (j : ℕ) → j ≤ length t → ((k : ℕ) → k < j → get_or t k 0 ≡ 10 → ⊥)
    → (j < length t → get_or t j 0 ≡ 10)
    → drop 1 (drop j t) ≡ after_newline t
after_line [] zero fits before at = refl
after_line [] (suc j) fits before at = absurd (omega arith)
after_line (b ∷ t) zero fits before at = sym (ap (after_head t) (eq-eqb b 10 (at (omega arith))))
after_line (b ∷ t) (suc j) fits before at =
    after_line t j (omega arith) (λ k h. before (suc k) (omega arith)) (λ h. at (omega arith))
    ∙ sym (ap (after_head t) (ne_eqb b 10 (before 0 (omega arith))))
