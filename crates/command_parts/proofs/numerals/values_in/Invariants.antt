use Rattle.std.proofs.Common.{map}
use Rattle.frac128.specs.FracMeaning.{fraction_of}
use Rattle.command_parts.specs.Lookup.{IsFound}
use Rattle.poly_text.specs.Number.{number_of}
use Rattle.command_parts.specs.Numerals.{each_of}
use Rattle.command_parts.proofs.numerals.values_in.Given as goal

abbrev pub invariant-loop-part : goal.invariant-loop-part
invariant-loop-part l =
    IsFound (λ values. map fraction_of values.items) l.values
    (each_of number_of (map (λ part. part.now) l.yielded))
