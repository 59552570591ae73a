use Rattle.std.proofs.Common.{◌≡◌, drop}
use Rattle.invariant_fix.specs.Code.{assigned_by}
use Rattle.invariant_fix.proofs.chain_code.is_assigned.Given as goal

abbrev pub invariant-loop-statement : goal.invariant-loop-statement
invariant-loop-statement l = assigned_by (drop l.statement-index l.code) l.var ≡ assigned_by l.code
    l.var
