use Rattle.std.proofs.Common.{suc, rules, is_some, ap, ◌∙◌, arith}
use Rattle.closures.proofs.Monomials.{fewer_monomials}
use Rattle.residue_rows.proofs.MonomialsListed.{first_monomials}
use Rattle.residue_rows.proofs.monomials.monomials_up_to.Goals as goal

pub loop-variables-init : goal.loop-variables-init
loop-variables-init c = record {
  within = omega arith;
  all =
      first_monomials c.args.degree c.push.new.self.items c.in_ok-one.field-0
      (search rules) (search rules);
  few = search rules;
}

pub with_variable-requires : goal.with_variable-requires
with_variable-requires c = (
  c.loop-variables._variables,
  omega (arith, c.loop-variables-test.true, c.requires),
  c.deref.ensures.value ∙ c.loop-variables.invariant.all,
)

pub returns-in-None-clause-many : goal.returns-in-None-clause-many
returns-in-None-clause-many c = λ none.
    omega (
      arith,
      fewer_monomials (suc c.loop-variables._variables) c.args.arity c.args.degree
          (omega (arith, c.loop-variables-test.true)),
      c.in_ok-longer.ensures.many c.loop-variables._variables
          (c.deref.ensures.value ∙ c.loop-variables.invariant.all) (ap is_some c.in-None.is),
    )
