use Rattle.std.proofs.Common.{refl, sym, subst}
use Rattle.algebra.specs.In.{In}
use Rattle.algebra.proofs.In.{map-in, in_get}
use Rattle.poly.specs.Seen.{terms_in}
use Rattle.loop_model.proofs.Items.{in_list, item_of}
use Rattle.program_families.proofs.moves.values_at.Goals as goal

pub returns-in_err-value_at-clause-wide : goal.returns-in_err-value_at-clause-wide
returns-in_err-value_at-clause-wide c = λ e.
    let ps = c.args.polynomials.now.items in
    let i = c.loop-polynomial.polynomial-index in
    let p = c.polynomial-item.result in
    let value = c.deref-polynomial-items.ensures.value in
    record {
      polynomial = terms_in p;
      within = map-in terms_in ps p
          (subst (λ y. In y ps) (sym (item_of ps _ value i p c.polynomial-item.is))
          (in_get ps i p (in_list ps _ value i c.loop-polynomial-test.true)));
      past = c.in_err-value_at.ensures.wide refl;
    }
