-- One hart more, and all of them.
use Rattle.std.proofs.Common.{◌≡◌, ◌<◌, Bool, true, length, get_or, refl, sym, ap, ◌∙◌, arith}
use Rattle.std.proofs.lemmas.Option.{slice_get-get_or}
use Rattle.sse_base.specs.Choice.{is_masked}
use Rattle.sse_base.specs.Contexts.{fresh_stack}
use Rattle.sse_base.specs.Machine.{Machine, stack_of}
use Rattle.board_plan.specs.declared.notes.Counts.{Counts}
use Rattle.board_plan.specs.State.{no_counts}
use Rattle.board_plan.specs.Text.{lines_of_hart}
use Rattle.board_report.proofs.Growing.{grows-nil}
use Rattle.board_report.proofs.OneMore.{grows-more, grows-same, harts-next, harts-all}
use Rattle.board_report.proofs.walks.write_harts.Goals as goal

pub loop-hart-init : goal.loop-hart-init
loop-hart-init g c = record { empty = c.requires; wrote = grows-nil _; same_pages = refl }

pub loop-hart-preserved : goal.loop-hart-preserved
loop-hart-preserved g c =
    let p = c.args.parts.now in
    let m = p.firmware in
    let same : c.firmware-firmware.result.now ≡ m = c.firmware-firmware.ensures in
    let harts : c.harts-hart-end.result ≡ m.events.harts =
    c.harts-hart-end.ensures.harts ∙ ap (λ (f : Machine). f.events.harts) same in
    let masks : length m.masks ≡ c.harts-hart-end.result =
    sym (ap (λ (f : Machine). length f.masks) same) ∙ c.harts-hart-end.ensures.masks in
    let stacks : length m.stacks ≡ c.harts-hart-end.result =
    sym (ap (λ (f : Machine). length f.stacks) same) ∙ c.harts-hart-end.ensures.stacks in
    let low : c.loop-hart.hart < c.harts-hart-end.result = c.loop-hart-test.true in
    let counts = slice_get-get_or p.counts.items c.loop-hart.hart no_counts (omega (arith, p.counted, harts, low)) in
    let mask = slice_get-get_or m.masks c.loop-hart.hart true (omega (arith, masks, low)) in
    let stack = slice_get-get_or m.stacks c.loop-hart.hart (fresh_stack 0) (omega (arith, stacks, low)) in
    let told =
    ap (λ (n : Counts). lines_of_hart c.loop-hart.hart n c.is_masked-masked.result (stack_of c.loop-hart.hart
    c.firmware-firmware.result.now)) c.counts.ensures
    ∙ ap (λ (b : Bool). lines_of_hart c.loop-hart.hart (get_or p.counts.items c.loop-hart.hart no_counts) b (stack_of
    c.loop-hart.hart c.firmware-firmware.result.now))
    (c.is_masked-masked.ensures
    ∙ ap (is_masked c.loop-hart.hart) c.targets.ensures.masks
    ∙ ap (λ (f : Machine). is_masked c.loop-hart.hart f.masks) same)
    ∙ ap (λ (f : Machine). lines_of_hart c.loop-hart.hart (get_or p.counts.items c.loop-hart.hart no_counts)
    (is_masked c.loop-hart.hart m.masks) (stack_of c.loop-hart.hart f)) same in
    record {
      empty = c.write_one_hart.ensures.empty;
      wrote = grows-more _ _ _ _ _ _ (harts-next 0 c.loop-hart.hart c.loop-hart.hart p.counts.items m.masks m.stacks
          _ _ _ (omega arith) counts mask stack) c.loop-hart.invariant.wrote
          (grows-same _ _ _ _ told c.write_one_hart.ensures.wrote);
      same_pages = c.write_one_hart.ensures.same_pages ∙ c.loop-hart.invariant.same_pages;
    }

pub returns-clause-wrote : goal.returns-clause-wrote
returns-clause-wrote g c =
    let p = c.args.parts.now in
    let m = p.firmware in
    let same : c.firmware-firmware.result.now ≡ m = c.firmware-firmware.ensures in
    let harts : c.harts-hart-end.result ≡ m.events.harts =
    c.harts-hart-end.ensures.harts ∙ ap (λ (f : Machine). f.events.harts) same in
    let masks : length m.masks ≡ c.harts-hart-end.result =
    sym (ap (λ (f : Machine). length f.masks) same) ∙ c.harts-hart-end.ensures.masks in
    let stacks : length m.stacks ≡ c.harts-hart-end.result =
    sym (ap (λ (f : Machine). length f.stacks) same) ∙ c.harts-hart-end.ensures.stacks in
    let all = c.loop-hart-test.false in
    grows-same _ _ _ _ (harts-all c.loop-hart.hart p.counts.items m.masks m.stacks
    (omega (arith, p.counted, harts, all)) (omega (arith, masks, all)) (omega (arith, stacks, all)))
    c.loop-hart.invariant.wrote
