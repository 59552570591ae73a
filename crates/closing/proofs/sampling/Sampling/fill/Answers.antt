use Rattle.std.proofs.Common.{◌≡◌, true, false, arith, refl, sym, ◌∙◌}
use Rattle.std.proofs.lemmas.Result.{err_from_is_err_and}
use Rattle.closing.proofs.Taking.{unfinished, enough}
use Rattle.closing.proofs.sampling.Sampling.fill.Goals as goal

pub loop-alloc-init : goal.loop-alloc-init
loop-alloc-init c = record {
  limit = refl;
  units = omega arith;
  some = c.requires.sampled;
  each = λ d h. h;
}

pub take-requires : goal.take-requires
take-requires c =
    let i = c.loop-alloc.invariant.some in
    let g = c.goes_on.ensures.0 c.loop-alloc-test.true in
    record {
      sampled = (
        i.0,
        unfinished i.0
            i.1 g.0 g.1,
      );
    }

pub returns-in_err-sampling-clause-limit : goal.returns-in_err-sampling-clause-limit
returns-in_err-sampling-clause-limit c = c.take.ensures.limit ∙ c.loop-alloc.invariant.limit

pub returns-in_err-sampling-clause-fills : goal.returns-in_err-sampling-clause-fills
returns-in_err-sampling-clause-fills c = λ d h.
    let g = c.goes_on.ensures.0 c.loop-alloc-test.true in
    let e = err_from_is_err_and c.from_residual.result c.from_residual.ensures.1 in
    rw (e.1, e.2) (c.in_err-sampling.ensures.takes d
    (unfinished d (c.loop-alloc.invariant.each d h) g.0 g.1))

pub loop-alloc-smaller : goal.loop-alloc-smaller
loop-alloc-smaller c =
    omega (
      arith,
      c.within_limit.ensures.within,
      c.take.ensures.limit,
      c.in_ok-sampling.ensures.units,
    )

pub loop-alloc-preserved : goal.loop-alloc-preserved
loop-alloc-preserved c =
    let i = c.loop-alloc.invariant in
    let g = c.goes_on.ensures.0 c.loop-alloc-test.true in
    record {
      limit = c.take.ensures.limit ∙ i.limit;
      units = omega (arith, i.units, c.in_ok-sampling.ensures.units);
      some = (
        i.some.0,
        c.in_ok-sampling.ensures.takes i.some.0
            (unfinished i.some.0 i.some.1 g.0 g.1),
      );
      each = λ d h. c.in_ok-sampling.ensures.takes d
          (unfinished d (i.each d h) g.0 g.1);
    }

pub returns-clause-limit : goal.returns-clause-limit
returns-clause-limit c = c.loop-alloc.invariant.limit

pub returns-clause-units : goal.returns-clause-units
returns-clause-units c = c.loop-alloc.invariant.units

pub returns-clause-fills : goal.returns-clause-fills
returns-clause-fills c = λ d h.
    enough d (c.loop-alloc.invariant.each d h)
    (λ g. let e : true ≡ false = sym (c.goes_on.ensures.1 g) ∙ c.loop-alloc-test.false in cc)
