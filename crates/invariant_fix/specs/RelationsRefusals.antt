-- Why no relations were given.
--   IsRefused program is before after e     what the refusal e tells of the program, and of the journals before and after
use Rattle.std.specs.Prelude.{ℕ, List}
use Rattle.machines.specs.Journal.{Journal}
use Rattle.loops.specs.Program.{Expr, Program}
use Rattle.loop_model.specs.Maps.{AreFree}
use Rattle.invariant_fix.specs.Refusals as analysis
use Rattle.invariant_fix.specs.Refusals.{AllHaveForms}
use Rattle.corollaries.specs.Journal.{IsOut, IsStopped, HasFollowed}
use Rattle.invariant_fix.specs.declared.relations_error.RelationsError.{RelationsError}
use Rattle.invariant_fix.specs.declared.relations_error.RelationsError.TheVariants.{Analysis, Wide, Budget, Memory}

module _ (program : Program (Expr ℕ)) (is : List ℕ) where
  abbrev pub IsRefused : Journal → Journal → RelationsError → Type 0
  IsRefused before after (Analysis e) = analysis.IsRefused program before after e
  IsRefused before after Wide =
      AreFree program × AllHaveForms program × IsStopped program is after.entries
  IsRefused before after Budget =
      AreFree program × AllHaveForms program × IsOut program is after.limit after.entries
  IsRefused before after Memory = HasFollowed program is after.entries
