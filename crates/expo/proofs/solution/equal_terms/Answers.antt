use Rattle.std.proofs.Common.{◌≡◌, length, subst}
use Rattle.frac128.specs.FracMeaning.{fraction_of}
use Rattle.poly.specs.View.{terms_of}
use Rattle.solvable_maps.specs.Expo.{power_terms}
use Rattle.expo.specs.Numbers.{number_at}
use Rattle.expo.specs.Powers.{key_in}
use Rattle.expo.proofs.Solved.{handed_on, equal_made}
use Rattle.expo.proofs.solution.equal_terms.Goals as goal

pub returns-clause-terms : goal.returns-clause-terms
returns-clause-terms c =
    let q = number_at c.in_ok-numbers.numbers.items in
    record {
      numbers = q;
      table = c.in_ok-numbers.ensures.table;
      terms = equal_made c.args.vars c.args.degree (key_in c.args.own.now.key) q
          (length c.in_ok-numbers.numbers.items) _
          (subst (λ l. terms_of fraction_of c.in_ok-terms_by_power.field-0.items
          ≡ power_terms c.args.vars (key_in c.args.own.now.key) (number_at l) 0 (length l))
          c.deref.ensures.value c.in_ok-terms_by_power.ensures.terms)
          c.in_ok-numbers.ensures.count;
    }

pub returns-in_err-numbers-clause-wide : goal.returns-in_err-numbers-clause-wide
returns-in_err-numbers-clause-wide c = handed_on c.in_err-numbers.field-0.0 c.from_residual.result
    c.from_residual.ensures.1 c.in_err-numbers.ensures.wide
