use Rattle.std.proofs.Common.{map}
use Rattle.command_parts.specs.Lookup.{IsFound}
use Rattle.command_parts.specs.Numerals.{each_of, letter_of}
use Rattle.command_parts.proofs.numerals.letters_in.Given as goal

abbrev pub invariant-loop-part : goal.invariant-loop-part
invariant-loop-part l =
    IsFound (λ letters. letters.items) l.letters
    (each_of letter_of (map (λ part. part.now) l.yielded))
