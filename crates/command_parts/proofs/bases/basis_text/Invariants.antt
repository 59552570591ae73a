use Rattle.std.proofs.Common.{string_bytes}
use Rattle.command_parts.proofs.Pushing.{EquationsGoOn}
use Rattle.command_parts.proofs.bases.basis_text.Given as goal

abbrev pub invariant-loop-element : goal.invariant-loop-element
invariant-loop-element l = EquationsGoOn l.names l.basis l.element-index (string_bytes l.text)
