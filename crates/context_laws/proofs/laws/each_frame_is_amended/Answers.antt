-- A context is saved as it was amended.
use Rattle.context_laws.proofs.Following.{each_frame_is_amended}
use Rattle.context_laws.proofs.laws.each_frame_is_amended.Goals as goal

pub returns : goal.returns
returns c = record { saved = each_frame_is_amended }
