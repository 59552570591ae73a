use Rattle.std.proofs.Common.{suc}
use Rattle.loop_runs.specs.ChainSeen.{chain_in}
use Rattle.invariant_fix.specs.Bases.{AreBases, IsLast}
use Rattle.invariant_fix.proofs.chain_bases.analyse_chain.Given as goal

abbrev pub invariant-loop-index : goal.invariant-loop-index
invariant-loop-index l = record {
  bases : AreBases (chain_in l.chain) l.budget (suc l.index) l.bases.items;
  last : IsLast (chain_in l.chain) l.budget (suc l.index) l.meter l.bases.items;
}
