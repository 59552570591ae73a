use Rattle.std.proofs.Common.{◌≡◌, map, drop}
use Rattle.machines.specs.Cut.{lead_of}
use Rattle.poly.specs.Seen.{terms_each}
use Rattle.residue_rows.specs.ElementParts.{has_divisor}
use Rattle.residue_rows.proofs.elements.is_led.Given as goal

abbrev pub invariant-loop-element : goal.invariant-loop-element
invariant-loop-element l =
    has_divisor (map lead_of (terms_each l.elements)) l.mono
    ≡ has_divisor (map lead_of (terms_each (drop l.element-index l.elements))) l.mono
