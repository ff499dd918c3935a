-- An event runs exactly where it has a frame.
use Rattle.event_laws.proofs.Framing.{each_runs_in_its_frame}
use Rattle.event_laws.proofs.laws.each_runs_in_its_frame.Goals as goal

pub returns : goal.returns
returns c = each_runs_in_its_frame
