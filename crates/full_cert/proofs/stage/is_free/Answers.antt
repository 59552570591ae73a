use Rattle.poly.specs.Seen.{terms_in}
use Rattle.full_cert.proofs.Counts.{free_test}
use Rattle.full_cert.proofs.stage.is_free.Goals as goal

pub returns : goal.returns
returns c = free_test c.args.front _ (terms_in c.args.p.now) c.is_free_of_first.ensures
