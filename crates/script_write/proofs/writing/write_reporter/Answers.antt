-- Goals of `write_reporter` that the tactics leave open.
use Rattle.std.proofs.Common.{List, ◌++◌, map, refl, sym, ap, ◌∙◌}
use Rattle.ras_io.proofs.Puts.{Puts-same}
use Rattle.ras_device.specs.declared.act.Act.{Act}
use Rattle.board_plan.specs.Canonical.{line_text, lines_text, list_line, act_line}
use Rattle.script_write.proofs.Wholes.{list_lines, device_lines}
use Rattle.script_write.proofs.writing.write_reporter.Goals as goal

pub returns-in-None-clause-bytes : goal.returns-in-None-clause-bytes
returns-in-None-clause-bytes g c =
    let r = c.args.reporter.now in
    Puts-same _ _ _ _ _ _ _ refl refl
    (ap (λ (acts : List Act). line_text list_line ++ lines_text (map (act_line c.args.n) acts)) c.as_slice.ensures
    ∙ sym (list_lines c.args.n r.device r.limit r.acts c.in-None.is))
    c.write_list.ensures.bytes

pub returns-in-Some-clause-bytes : goal.returns-in-Some-clause-bytes
returns-in-Some-clause-bytes g c =
    Puts-same _ _ _ _ _ _ _ refl refl
    (sym (device_lines _ c.args.reporter.now.device _ c.in-Some.k _ c.in-Some.is)) c.write_statement.ensures.bytes
