use Rattle.std.proofs.Common.{length}
use Rattle.closed_forms.proofs.map_in_work.+put.Given as goal

abbrev pub decreases-put : goal.decreases-put
decreases-put l = length l.news.items
