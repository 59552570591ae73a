-- The refusals of `relations` as the definitions see them.
--   AreNamedBy n e      each variable that the refusal names is one of the first n
use Rattle.std.specs.Prelude.{ℕ, ⊤}
use Rattle.analysis_commands.specs.Naming.{AreNamed}
use Rattle.invariant_fix.specs.declared.relations_error.RelationsError.{RelationsError}
use Rattle.invariant_fix.specs.declared.relations_error.RelationsError.TheVariants.{Analysis, Wide, Budget, Memory}

abbrev pub AreNamedBy : ℕ → RelationsError → Type 0
AreNamedBy n (Analysis e) = AreNamed n e
AreNamedBy n Wide = ⊤
AreNamedBy n Budget = ⊤
AreNamedBy n Memory = ⊤
