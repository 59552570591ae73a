use Rattle.std.proofs.Common.{sym, subst}
use Rattle.loop_model.specs.View.{program_of}
use Rattle.loop_runs.specs.Parts.{AreStagesOf}
use Rattle.loop_runs.proofs.ChainParts.{kept_alike}
use Rattle.loop_runs.proofs.chain.Chain.further.Goals as goal

pub returns-clause-alike : goal.returns-clause-alike
returns-clause-alike c = subst (AreStagesOf (program_of c.args.self.now.first))
    (sym c.deref.ensures.value) (kept_alike c.args.self.now)
