-- The lines of a full report, part by part.
use Rattle.std.proofs.Common.{map, refl, ap, ◌∙◌}
use Rattle.ras_io.proofs.Puts.{Puts-same}
use Rattle.sse_base.specs.Events.{Events, slots}
use Rattle.sse_base.specs.Machine.{Machine}
use Rattle.board_plan.specs.Text.{bytes_of, event_line, word_lines}
use Rattle.board_report.specs.Reports.{full_bytes}
use Rattle.board_report.specs.Told.{told_full}
use Rattle.board_report.specs.Writing.{Wrote, state_of}
use Rattle.board_report.proofs.OneMore.{grows-more, grows-same, wrote-of}
use Rattle.board_report.proofs.Growing.{as-many}
use Rattle.board_report.proofs.Shown.{full-told, have-records}
use Rattle.board_report.proofs.run_texts.put_full.Goals as goal
use Rattle.board_report.proofs.run_texts.put_full.Given.{Over}
use Rattle.board_report.proofs.run_texts.put_full.Goals.{After-write_end}

pub write_banks-requires-clause-records : goal.write_banks-requires-clause-records
write_banks-requires-clause-records g c = have-records c.args.plan.now c.args.parts.now c.requires.parts

whole : (g : Over) (c : After-write_end g)
    → Wrote (state_of g.K.Sink.written g.K.Sink.faults g.K.Sink.writes c.args.pages.now)
    (state_of g.K.Sink.written g.K.Sink.faults g.K.Sink.writes c.write_end.new.pages)
    (told_full c.args.plan.now c.args.parts.now c.args.steps.now c.args.fates.now)
whole g c =
    let events = ap (λ (t : Events). map event_line (slots t)) (c.table.ensures ∙ ap (λ (m : Machine). m.events)
    c.firmware.ensures) in
    let memory = ap (word_lines 0x80000000) (c.words.ensures.words ∙ c.memory.ensures ∙ ap (λ (m : Machine). m.memory)
    c.firmware-2.ensures) in
    let harts = grows-more _ _ _ _ _ _ refl c.write_head.ensures.wrote c.write_harts.ensures.wrote in
    let shown = grows-more _ _ _ _ _ _ refl harts (grows-same _ _ _ _ events c.write_events.ensures.wrote) in
    let banks = grows-more _ _ _ _ _ _ refl shown c.write_banks.ensures.wrote in
    let fates = grows-more _ _ _ _ _ _ refl banks c.write_fates.ensures.wrote in
    let words = grows-more _ _ _ _ _ _ refl fates (grows-same _ _ _ _ memory c.write_words.ensures.wrote) in
    let steps = grows-more _ _ _ _ _ _ refl words c.write_schedule.ensures.wrote in
    wrote-of _ _ _ c.requires.going (grows-more _ _ _ _ _ _ refl steps c.write_end.ensures.wrote)

pub returns-clause-bytes : goal.returns-clause-bytes
unfolding full_bytes
returns-clause-bytes g c =
    λ r shows made became.
    let told = full-told c.args.plan.now r c.args.parts.now c.args.steps.now c.args.fates.now shows made became
    c.write_banks.ensures.words in
    Puts-same _ _ _ _ _ _ _ refl refl (ap bytes_of told) (whole g c).bytes

pub returns-clause-cause : goal.returns-clause-cause
returns-clause-cause g c = (whole g c).cause

pub returns-clause-writes : goal.returns-clause-writes
returns-clause-writes g c =
    λ r shows made became.
    let told = full-told c.args.plan.now r c.args.parts.now c.args.steps.now c.args.fates.now shows made became
    c.write_banks.ensures.words in
    as-many _ _ _ _ _ told (whole g c).writes
