use Rattle.std.proofs.Common.{◌≡◌, map, take}
use Rattle.frac128.specs.FracMeaning.{fraction_of}
use Rattle.program_families.specs.RestRows.{numbers_in}
use Rattle.program_families.proofs.rows.numbers_at.Given as goal

abbrev pub invariant-loop-rest : goal.invariant-loop-rest
invariant-loop-rest l =
    map fraction_of l.numbers.items ≡ numbers_in (take l.rest-index l.rests) l.monomial
