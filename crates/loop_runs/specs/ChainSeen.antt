-- What chains are seen as.
--   chain_in c                a chain
use Rattle.std.specs.Prelude.{ℕ}
use Rattle.loops.specs.Program.{Expr}
use Rattle.loops.specs.Chain as spec
use Rattle.loop_runs.specs.Parts.{chain_seen}
use Rattle.loop_runs.specs.declared.chain.Chain.{Chain}

abbrev pub chain_in : Chain → spec.Chain (Expr ℕ)
chain_in c = chain_seen c.first c.further.items
