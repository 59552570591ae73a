use Rattle.std.proofs.Common.{◌≡◌, ◌+◌, ◌-◌, ◌/◌, ◌^◌, ◌++◌, take, slice_set, subst, sym, ◌∙◌, arith}
use Rattle.std.proofs.lemmas.List.{length-set}
use Rattle.monos.specs.Lanes.{lanes}
use Rattle.monos.proofs.LaneSteps.{exponents_more, exponents_all}
use Rattle.monos.proofs.lanes.exponents_in.Goals as goal

pub loop-i-preserved : goal.loop-i-preserved
loop-i-preserved c = record {
  so_far = subst (λ v. take (c.loop-i.i + 1) (slice_set c.loop-i.exponents c.loop-i.i v)
      ++ lanes c.args.room (c.args.count - (c.loop-i.i + 1)) (c.loop-i.rest / 2 ^ (c.args.room + 1))
      ≡ lanes c.args.room c.args.count c.args.word) (sym c.lowest_bits.ensures)
      (exponents_more c.args.room c.args.count c.loop-i.i c.loop-i.rest c.loop-i.exponents
      (lanes c.args.room c.args.count c.args.word) c.loop-i-test.true
      (omega (arith, c.loop-i-test.true, c.requires.few, c.loop-i.invariant.places))
      c.loop-i.invariant.so_far);
  places = length-set c.loop-i.exponents c.loop-i.i c.lowest_bits.result
      ∙ c.loop-i.invariant.places;
}

pub returns : goal.returns
returns c = exponents_all c.args.room c.args.count c.loop-i.i c.loop-i.rest c.loop-i.exponents
    (lanes c.args.room c.args.count c.args.word) c.loop-i-test.false c.loop-i.auto.i-end
    c.loop-i.invariant.so_far
