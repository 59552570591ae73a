-- A request for a file as the definitions see it.
--   view request        what is asked for
use Rattle.std.specs.Prelude.{string_bytes}
use Rattle.command_parts.specs.declared.file_request.FileRequest as made
use Rattle.command_parts.specs.FileRequests.{FileRequest}

abbrev pub view : made.FileRequest → FileRequest
view request = record { budget = request.budget.units; file = string_bytes request.file.now }
