use Rattle.std.proofs.Common.{arith}
use Rattle.std.proofs.Math.Facts.{Fits-of_lt}
use Rattle.std.proofs.lemmas.Nat.{shr_below}
use Rattle.monos.proofs.ShortWords.{twice_fits, degree_fits}
use Rattle.monos.proofs.Mono.of_short.Goals as goal

pub overflow_mul-result : goal.overflow_mul-result
overflow_mul-result c =
    let degree = degree_fits _ _ _ c.short.invariant in
    Fits-of_lt (omega (arith, degree))

pub overflow_add-result : goal.overflow_add-result
overflow_add-result c =
    let degree = degree_fits _ _ _ c.short.invariant in
    Fits-of_lt (omega (arith, degree, c.short.invariant.few, c.from.ensures))

pub overflow_cast-result-2 : goal.overflow_cast-result-2
overflow_cast-result-2 c =
    let twice = twice_fits _ _ _ c.short.invariant in
    Fits-of_lt (shr_below c.short.inside.word 64 64 (omega (arith, twice)))
