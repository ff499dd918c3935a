use Rattle.drain_laws.proofs.Showing.{each_shown_published_is_under_invalidate}
use Rattle.drain_laws.proofs.each_shown_published_is_under_invalidate.Goals as goal

pub returns : goal.returns
returns c = each_shown_published_is_under_invalidate
