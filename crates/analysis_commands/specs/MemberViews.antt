-- The arguments of `member` as the definitions see them.
--   view request        what is asked for
use Rattle.std.specs.Prelude.{string_bytes}
use Rattle.analysis_commands.specs.declared.member_arguments.Request as made
use Rattle.analysis_commands.specs.MemberArguments.{Request}

abbrev pub view : made.Request → Request
view request = record {
  budget = request.budget.units;
  file = string_bytes request.file.now;
  equation = string_bytes request.equation.now;
}
