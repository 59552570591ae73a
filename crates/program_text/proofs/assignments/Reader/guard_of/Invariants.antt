use Rattle.std.proofs.Common.{◌≡◌, ◌++◌, map, drop}
use Rattle.std.specs.List.{filter_map}
use Rattle.program_text.specs.Guards.{said}
use Rattle.program_text.proofs.Answering.{comparison_of}
use Rattle.program_text.proofs.assignments.Reader.guard_of.Given as goal

abbrev pub invariant-loop-part : goal.invariant-loop-part
invariant-loop-part l =
    map comparison_of l.says.items ++ filter_map (said l.self.names.now l.text)
    (drop l.part-index l.part-items) ≡ filter_map (said l.self.names.now l.text) l.part-items
