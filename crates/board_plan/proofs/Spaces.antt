-- Words behind spaces, one after another.
use Rattle.std.proofs.Common.{◌≡◌, ℕ, zero, suc, ◌+◌, ◌<◌, Option, List, [], ◌∷◌, ◌++◌, length, take, map, get_or, refl, sym, ap, ◌∙◌, append_assoc, add-one, arith, codes, decimal, slice_index}
use Rattle.std.proofs.lemmas.List.{append-nil}
use Rattle.std.specs.List.{join_with_byte}
use Rattle.ras_text.specs.Numbers.{hexadecimal}
use Rattle.std.specs.Fmt.{signed_decimal}
use Rattle.sse_base.specs.declared.codes.SbiCode.{SbiCode}
use Rattle.sse_base.specs.Codes.{number_of}
use Rattle.reri_fields.specs.declared.report.Report.{Report}
use Rattle.reri_fields.specs.declared.report.Logged.{Logged}
use Rattle.board_plan.specs.Notes.{after_spaces, written_words, call_words, is_accepted_write, report_words, logged_words, severity_word}

pub after_spaces-append : (vs ws : List (List ℕ)) → after_spaces (vs ++ ws) ≡ after_spaces vs ++ after_spaces ws
after_spaces-append [] ws = refl
after_spaces-append (v ∷ vs) ws =
    ap (λ t. 32 ∷ (v ++ t)) (after_spaces-append vs ws)
    ∙ ap (λ t. 32 ∷ t) (sym (append_assoc v (after_spaces vs) (after_spaces ws)))

-- words with one space between them: the first, and each other behind a space
pub join_spaces : (w : List ℕ) (ws : List (List ℕ)) → join_with_byte 32 (w ∷ ws) ≡ w ++ after_spaces ws
join_spaces w [] = sym (append-nil w)
join_spaces w (v ∷ ws) = ap (λ t. w ++ 32 ∷ t) (join_spaces v ws)

-- one more number in hexadecimal
hexes_suc : (ns : List ℕ) (i d : ℕ) → i < length ns →
    after_spaces (map hexadecimal (take (suc i) ns)) ≡ after_spaces (map hexadecimal (take i ns)) ++ 32
    ∷ hexadecimal (get_or ns i d)
hexes_suc [] i d h = absurd (omega arith)
hexes_suc (n ∷ ns) zero d h = ap (λ t. 32 ∷ t) (append-nil (hexadecimal n))
hexes_suc (n ∷ ns) (suc i) d h =
    ap (λ t. 32 ∷ (hexadecimal n ++ t)) (hexes_suc ns i d (omega arith))
    ∙ ap (λ t. 32 ∷ t) (sym (append_assoc (hexadecimal n) (after_spaces (map hexadecimal (take i ns)))
    (32 ∷ hexadecimal (get_or ns i d))))

pub hexes_more : (old ns : List ℕ) (i d : ℕ) → i < length ns →
    (old ++ after_spaces (map hexadecimal (take i ns))) ++ 32 ∷ hexadecimal (get_or ns i d) ≡ old
    ++ after_spaces (map hexadecimal (take (i + 1) ns))
hexes_more old ns i d h = rw (add-one, hexes_suc ns i d h) (append_assoc old _ _)

-- further words behind joined ones
pub join_more : (w : List ℕ) (vs ws : List (List ℕ)) → join_with_byte 32 (w ∷ vs) ++ after_spaces ws
    ≡ join_with_byte 32 (w ∷ (vs ++ ws))
join_more w vs ws =
    rw (join_spaces w vs, join_spaces w (vs ++ ws), after_spaces-append vs ws)
    (append_assoc w (after_spaces vs) (after_spaces ws))

parts_put : (old head : List ℕ) (us : List (List ℕ)) (v w : List ℕ) (ws : List (List ℕ)) →
    ((((old ++ head) ++ after_spaces us) ++ 32 ∷ v) ++ 32 ∷ w) ++ after_spaces ws ≡ old
    ++ (head ++ after_spaces (us ++ v ∷ w ∷ ws))
parts_put old head us v w ws = rw (after_spaces-append us (v ∷ w ∷ ws)) (simp append_assoc)

-- a call's words, one after another
pub call_put : (old : List ℕ) (eid fid : ℕ) (args : List ℕ) (code : SbiCode) (written : List ℕ) →
    ((((old ++ join_with_byte 32 (codes "call" ∷ hexadecimal eid ∷ hexadecimal fid ∷ []))
    ++ after_spaces (map hexadecimal args)) ++ 32 ∷ codes "=")
    ++ 32 ∷ signed_decimal (number_of code))
    ++ after_spaces (written_words (is_accepted_write eid fid args code) (slice_index args 2) written)
    ≡ old ++ join_with_byte 32 (call_words eid fid args code written)
unfolding call_words
call_put old eid fid args code written =
    let last = written_words (is_accepted_write eid fid args code) (slice_index args 2) written in
    parts_put old (join_with_byte 32 (codes "call" ∷ hexadecimal eid ∷ hexadecimal fid ∷ [])) (map hexadecimal args)
    (codes "=")
    (signed_decimal (number_of code)) last
    ∙ ap (λ t. old ++ t)
    (join_more (codes "call") (hexadecimal eid ∷ hexadecimal fid ∷ [])
    (map hexadecimal args ++ codes "=" ∷ signed_decimal (number_of code) ∷ last))

pub joined_more : (old w : List ℕ) (vs ws : List (List ℕ)) →
    (old ++ join_with_byte 32 (w ∷ vs)) ++ after_spaces ws ≡ old ++ join_with_byte 32 (w ∷ (vs ++ ws))
joined_more old w vs ws = append_assoc old (join_with_byte 32 (w ∷ vs)) (after_spaces ws)
    ∙ ap (λ t. old ++ t) (join_more w vs ws)

-- the first six words of an error, and its four values
pub report_put : (old : List ℕ) (r : Report) →
    (old ++ join_with_byte 32
    (codes "error" ∷ decimal r.bank ∷ decimal r.rec ∷ severity_word r.severity ∷ decimal r.priority
    ∷ decimal r.code ∷ []))
    ++ after_spaces (hexadecimal r.address ∷ hexadecimal r.info ∷ hexadecimal r.supplement ∷ hexadecimal r.time ∷ [])
    ≡ old ++ join_with_byte 32 (report_words r)
report_put old r =
    joined_more old (codes "error")
    (decimal r.bank ∷ decimal r.rec ∷ severity_word r.severity ∷ decimal r.priority ∷ decimal r.code ∷ [])
    (hexadecimal r.address ∷ hexadecimal r.info ∷ hexadecimal r.supplement ∷ hexadecimal r.time ∷ [])

-- an error's words, one after another
pub error_put : (old : List ℕ) (r : Report) (logged : Option Logged) →
    ((old ++ join_with_byte 32 (report_words r)) ++ 32 ∷ codes "=") ++ after_spaces (logged_words logged)
    ≡ old ++ join_with_byte 32 (report_words r ++ codes "=" ∷ logged_words logged)
error_put old r logged = rw (join_spaces (codes "=") (logged_words logged)) (simp append_assoc)
