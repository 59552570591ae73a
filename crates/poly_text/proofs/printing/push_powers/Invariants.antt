use Rattle.std.proofs.Common.{◌++◌, string_bytes}
use Rattle.poly_text.specs.Printed.{powers}
use Rattle.poly_text.specs.PrintedParts.{joined_behind}
use Rattle.poly_text.proofs.PrintedPowers.{GoesOn}
use Rattle.poly_text.proofs.printing.push_powers.Given as goal

abbrev pub invariant-loop-index : goal.invariant-loop-index
invariant-loop-index l = GoesOn l.names l.exponents l.index (string_bytes l.text)
    (string_bytes l.fn.text ++ joined_behind l.fn.behind_factor (powers l.names l.exponents))
    l.between
