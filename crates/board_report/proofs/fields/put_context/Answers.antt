-- Goals of `put_context` that the tactics leave open.
use Rattle.ras_text.specs.Lines.{text_of}
use Rattle.board_report.proofs.LineParts.{context-put}
use Rattle.board_report.proofs.fields.put_context.Goals as goal

pub returns-clause-text : goal.returns-clause-text
returns-clause-text g c = cc (context-put (text_of c.args.line.now) c.args.regs.now)
