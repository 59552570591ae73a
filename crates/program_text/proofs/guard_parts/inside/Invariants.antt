use Rattle.std.proofs.Common.{◌≡◌, drop}
use Rattle.program_text.specs.Guards.{inside_from, inside_of}
use Rattle.program_text.proofs.guard_parts.inside.Given as goal

abbrev pub invariant-loop-at : goal.invariant-loop-at
invariant-loop-at l = inside_from l.at (drop l.at l.text) ≡ inside_of l.from l.text
