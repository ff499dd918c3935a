-- The news of notes, and a tally, with one note more.
use Rattle.std.proofs.Common.{◌≡◌, ℕ, ◌+◌, ◌*◌, false, List, [], ◌∷◌, ◌++◌, map, reverse, length, replicate, Option, Some, None, refl, sym, ap, ◌∙◌, subst, arith}
use Rattle.std.specs.Option.{option_map_or}
use Rattle.std.proofs.lemmas.List.{length-map, length-reverse, map-append, reverse-append, get_or-replicate}
use Rattle.reri_fields.specs.Records.{Origin, shown, since}
use Rattle.board_plan.specs.declared.notes.Fates as fates
use Rattle.board_plan.specs.declared.notes.Step.{Step}
use Rattle.board_plan.specs.declared.notes.StepNote.{StepNote}
use Rattle.board_plan.specs.declared.plan.Plan.{Plan}
use Rattle.board_plan.specs.Plans.{IsPlan}
use Rattle.board_plan.specs.Run.{Noted}
use Rattle.board_plan.specs.Fates.{News, news, news_of, number_with, origin_at, fates_of}
use Rattle.board_fates.specs.declared.tally.Tally.{Tally}
use Rattle.board_fates.specs.Counted.{with_note}
use Rattle.board_fates.specs.Tallied.{shows_unpublished, is_unpublished_at, numbers, IsTallyOf, IsNext, Tallies}
use Rattle.board_fates.proofs.Tallying.{tally_next}

-- the newest piece of news is the first
pub news_push : (ns : List Noted) (n : Noted) → news (ns ++ n ∷ []) ≡ news_of n.note ∷ news ns
news_push ns n =
    ap reverse (map-append (λ (m : Noted). news_of m.note) ns (n ∷ []))
    ∙ reverse-append (map (λ (m : Noted). news_of m.note) ns) (news_of n.note ∷ [])

pub news_length : (ns : List Noted) → length (news ns) ≡ length ns
news_length ns =
    length-reverse (map (λ (m : Noted). news_of m.note) ns) ∙ length-map ns (λ (m : Noted). news_of m.note)

-- a tally that a note is added to
pub tally_push : (plan : Plan) (ns : List Noted) (by : Step) (n : StepNote) (t : Tally) → Tallies plan ns t
    → IsNext plan ns n → Tallies plan (ns ++ record { by = by; note = n } ∷ []) (with_note n t)
tally_push plan ns by n t h next =
    subst (λ (ms : List News). IsTallyOf plan ms (with_note n t)) (sym (news_push ns (record { by = by; note = n })))
    (tally_next plan (news ns) n t (omega (arith, news_length ns, next.few)) next.is_true h)

-- the counts that a tally has
pub fates_are : (plan : Plan) (ns : List Noted) (t : Tally) → Tallies plan ns t → t.counts ≡ fates_of plan ns
unfolding numbers
fates_are plan ns t h = h.counts

-- ---- Before the first note ----

no_record : (o : Option Origin) → option_map_or (λ (origin : Origin). shows_unpublished origin []) o false ≡ false
unfolding shows_unpublished since shown
no_record None = refl
no_record (Some origin) = refl

unmarked : (plan : Plan) (bank rec : ℕ) → is_unpublished_at plan [] bank rec ≡ false
unfolding is_unpublished_at
unmarked plan bank rec = no_record (origin_at plan bank rec)

abbrev none_made : fates.Fates
none_made =
    record {
      made = 0;
      stray = 0;
      disabled = 0;
      counted = 0;
      drained = 0;
      overwritten = 0;
      kept = 0;
      stands = 0;
    }

no_numbers : (plan : Plan) → none_made ≡ numbers plan []
unfolding numbers number_with
no_numbers plan = refl

pub tally_first : (plan : Plan) → IsPlan plan
    → Tallies plan [] (record { counts = none_made; marks = replicate 256 false })
tally_first plan is =
    record {
      is_plan = is;
      counts = no_numbers plan;
      marks = λ bank rec bank_low rec_low.
          get_or-replicate 256 (64 * bank + rec) false false (omega arith) ∙ sym (unmarked plan bank rec);
      room = refl;
    }
