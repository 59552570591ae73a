use Rattle.std.proofs.Common.{length, ap, arith}
use Rattle.residue_rows.specs.Limits.{most_monomials}
use Rattle.residue_rows.proofs.MonomialsListed.{arities_below, no_degrees, next_degree, all_degrees, too_many}
use Rattle.residue_rows.proofs.monomials.with_variable.Goals as goal

pub loop-total-init : goal.loop-total-init
loop-total-init c = record {
  within = omega arith;
  all = λ m is. no_degrees m c.args.degree c.new-longer.result.items c.new-longer.ensures.items;
  few = omega (arith, ap length c.new-longer.ensures.items);
}

pub with_degree-requires : goal.with_degree-requires
with_degree-requires c =
    let (m, few, is) = c.requires in arities_below c.args.list.now m c.args.degree is _ few

pub returns-then-len-gt-MOST_MONOMIALS-clause-many :
    goal.returns-then-len-gt-MOST_MONOMIALS-clause-many
returns-then-len-gt-MOST_MONOMIALS-clause-many c = λ m is none.
    too_many m c.args.degree _ most_monomials (omega (
      arith,
      c.loop-total-test.true,
      c.from-total-end.ensures,
    )) (next_degree m c.args.degree _ is
    (omega (arith, c.loop-total-test.true, c.from-total-end.ensures))
    (c.loop-total.invariant.all m is) c.in_ok-longer.ensures)
    (omega (arith, c.if-len-gt-MOST_MONOMIALS.true, c.len.ensures))

pub loop-total-preserved : goal.loop-total-preserved
loop-total-preserved c = record {
  within = omega (arith, c.loop-total-test.true, c.from-total-end.ensures);
  all = λ m is.
      next_degree m c.args.degree _ is (omega (
        arith,
        c.loop-total-test.true,
        c.from-total-end.ensures,
      )) (c.loop-total.invariant.all m is) c.in_ok-longer.ensures;
  few = omega (arith, c.if-len-gt-MOST_MONOMIALS.false, c.len.ensures);
}

pub returns-clause-all : goal.returns-clause-all
returns-clause-all c = λ m is.
    all_degrees m c.args.degree _ (omega (arith, c.loop-total.invariant.within))
    (omega (arith, c.loop-total-test.false, c.from-total-end.ensures))
    (c.loop-total.invariant.all m is)
