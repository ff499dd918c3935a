-- Further words of a line, as they are put one after another.
use Rattle.std.proofs.Common.{◌≡◌, ℕ, zero, suc, ◌+◌, ◌<◌, List, [], ◌∷◌, ◌++◌, length, take, map, get_or, codes, decimal, sym, ap, ◌∙◌, append_assoc, add-one, arith}
use Rattle.std.proofs.lemmas.List.{append-nil}
use Rattle.std.specs.List.{join_with_byte}
use Rattle.reri_fields.specs.declared.report.Report.{Report}
use Rattle.board_plan.specs.declared.notes.Step.{Step}
use Rattle.board_plan.specs.Notes.{after_spaces, severity_word}
use Rattle.board_plan.specs.Canonical.{step_word, error_words}
use Rattle.board_plan.proofs.Spaces.{after_spaces-append, join_spaces, join_more}

module _ {X : Type 0} (f : X → List ℕ) where
  more_suc : (xs : List X) (i : ℕ) (d : X) → i < length xs →
      after_spaces (map f (take (suc i) xs)) ≡ after_spaces (map f (take i xs)) ++ 32 ∷ f (get_or xs i d)
  more_suc [] i d h = absurd (omega arith)
  more_suc (x ∷ xs) zero d h = ap (λ t. 32 ∷ t) (append-nil (f x))
  more_suc (x ∷ xs) (suc i) d h =
      ap (λ t. 32 ∷ (f x ++ t)) (more_suc xs i d (omega arith))
      ∙ ap (λ t. 32 ∷ t) (sym (append_assoc (f x) (after_spaces (map f (take i xs))) (32 ∷ f (get_or xs i d))))

  -- one more word
  more : (old : List ℕ) (xs : List X) (i : ℕ) (d : X) → i < length xs →
      (old ++ after_spaces (map f (take i xs))) ++ 32 ∷ f (get_or xs i d) ≡ old
      ++ after_spaces (map f (take (i + 1) xs))
  more old xs i d h = rw (add-one, more_suc xs i d h) (append_assoc old _ _)

pub decimals_more : (old xs : List ℕ) (i d : ℕ) → i < length xs →
    (old ++ after_spaces (map decimal (take i xs))) ++ 32 ∷ decimal (get_or xs i d) ≡ old
    ++ after_spaces (map decimal (take (i + 1) xs))
decimals_more = more decimal

pub steps_more : (old : List ℕ) (xs : List Step) (i : ℕ) (d : Step) → i < length xs →
    (old ++ after_spaces (map step_word (take i xs))) ++ 32 ∷ step_word (get_or xs i d) ≡ old
    ++ after_spaces (map step_word (take (i + 1) xs))
steps_more = more step_word

-- words behind one word, and behind two
pub behind_one : (old v : List ℕ) (ws : List (List ℕ)) → (old ++ v) ++ after_spaces ws ≡ old
    ++ join_with_byte 32 (v ∷ ws)
behind_one old v ws = append_assoc old v (after_spaces ws) ∙ ap (λ t. old ++ t) (sym (join_spaces v ws))

pub behind_two : (old v w : List ℕ) (ws : List (List ℕ)) →
    (old ++ join_with_byte 32 (v ∷ w ∷ [])) ++ after_spaces ws ≡ old ++ join_with_byte 32 (v ∷ w ∷ ws)
behind_two old v w ws =
    append_assoc old (join_with_byte 32 (v ∷ w ∷ [])) (after_spaces ws) ∙ ap (λ t. old ++ t) (join_more v (w ∷ []) ws)

-- words behind words, and a word as the only one
spaces_two : (old : List ℕ) (vs ws : List (List ℕ)) → (old ++ after_spaces vs) ++ after_spaces ws ≡ old
    ++ after_spaces (vs ++ ws)
spaces_two old vs ws = append_assoc old (after_spaces vs) (after_spaces ws)
    ∙ ap (λ t. old ++ t) (sym (after_spaces-append vs ws))

one_space : (w : List ℕ) → 32 ∷ w ≡ after_spaces (w ∷ [])
one_space w = ap (λ t. 32 ∷ t) (sym (append-nil w))

behind_spaces : (old : List ℕ) (vs : List (List ℕ)) (w : List ℕ) → (old ++ after_spaces vs) ++ 32 ∷ w ≡ old
    ++ after_spaces (vs ++ w ∷ [])
behind_spaces old vs w = ap (λ t. (old ++ after_spaces vs) ++ t) (one_space w) ∙ spaces_two old vs (w ∷ [])

pub call_put : (old : List ℕ) (eid fid : ℕ) (args : List ℕ) →
    ((old ++ after_spaces (codes "sbi" ∷ decimal eid ∷ [])) ++ 32 ∷ decimal fid) ++ after_spaces (map decimal args)
    ≡ old ++ after_spaces (codes "sbi" ∷ decimal eid ∷ decimal fid ∷ map decimal args)
call_put old eid fid args =
    ap (λ t. t ++ after_spaces (map decimal args)) (behind_spaces old (codes "sbi" ∷ decimal eid ∷ []) (decimal fid))
    ∙ spaces_two old (codes "sbi" ∷ decimal eid ∷ decimal fid ∷ []) (map decimal args)

pub error_put : (old : List ℕ) (r : Report) →
    (((old ++ 32 ∷ codes "error") ++ after_spaces (map decimal (r.bank ∷ r.rec ∷ []))) ++ 32 ∷ severity_word r.severity)
    ++ after_spaces (map decimal (r.priority ∷ r.code ∷ r.address ∷ r.info ∷ r.supplement ∷ r.time ∷ []))
    ≡ old ++ after_spaces (error_words r)
error_put old r =
    let place = map decimal (r.bank ∷ r.rec ∷ []) in
    let values = map decimal (r.priority ∷ r.code ∷ r.address ∷ r.info ∷ r.supplement ∷ r.time ∷ []) in
    ap (λ t. (((old ++ t) ++ after_spaces place) ++ 32 ∷ severity_word r.severity) ++ after_spaces values)
    (one_space (codes "error"))
    ∙ ap (λ t. (t ++ 32 ∷ severity_word r.severity) ++ after_spaces values) (spaces_two old (codes "error" ∷ []) place)
    ∙ ap (λ t. t ++ after_spaces values) (behind_spaces old (codes "error" ∷ place) (severity_word r.severity))
    ∙ spaces_two old (codes "error" ∷ decimal r.bank ∷ decimal r.rec ∷ severity_word r.severity ∷ []) values

pub ruleset numbers = (decimals_more)

pub ruleset entries = (steps_more)

pub ruleset one_word = (behind_one)

pub ruleset two_words = (behind_two)

pub ruleset call = (call_put)

pub ruleset error = (error_put)
