use Rattle.full_cert.proofs.Counts.{same_count}
use Rattle.full_cert.proofs.stage.are_pairs.Goals as goal

pub returns : goal.returns
returns c = same_count c.args.pairs c.args.count
