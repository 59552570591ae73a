-- The arguments of `basis` and `cert` as the definitions see them.
--   view request        what is asked for
use Rattle.std.specs.Prelude.{string_bytes}
use Rattle.analysis_commands.specs.declared.basis_arguments.Request as made
use Rattle.analysis_commands.specs.BasisArguments.{Request}

abbrev pub view : made.Request → Request
view request = record {
  kind = request.kind;
  budget = request.budget.units;
  file = string_bytes request.file.now;
}
