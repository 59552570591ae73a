use Rattle.std.proofs.Common.{refl}
use Rattle.program_model.proofs.Closed.{closed_edge}
use Rattle.program_model.proofs.front.close.Goals as goal

pub returns : goal.returns
returns c n u cs h = closed_edge n u cs c.args.path h c.requires c.args.to _ refl refl refl refl
    refl
