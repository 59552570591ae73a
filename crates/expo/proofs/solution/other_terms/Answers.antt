use Rattle.std.proofs.Common.{◌≡◌, ◌∙◌, ap, arith, map, length, subst}
use Rattle.std.proofs.lemmas.List.{map-append}
use Rattle.algebra.specs.Fraction.{opposite}
use Rattle.frac128.specs.FracMeaning.{fraction_of}
use Rattle.poly.specs.View.{term_of, terms_of}
use Rattle.solvable_maps.specs.Expo.{power_terms}
use Rattle.expo.specs.Numbers.{number_at}
use Rattle.expo.specs.Powers.{key_in}
use Rattle.expo.proofs.Solved.{handed_on, other_made}
use Rattle.expo.proofs.Tables.{number_here}
use Rattle.expo.proofs.solution.other_terms.Goals as goal

pub returns-clause-terms : goal.returns-clause-terms
returns-clause-terms c =
    let t = term_of fraction_of in
    let xs = c.in_ok-numbers.numbers.items in
    let q = number_at xs in
    let x = key_in c.args.inhomogeneity.now.key in
    record {
      numbers = q;
      table = c.in_ok-numbers.ensures.table;
      terms = other_made c.args.vars c.args.degree x (key_in c.args.own.now.key) q (length xs) _ _ _
          (ap (map t) c.in_ok-push.ensures.items ∙ map-append t _ _)
          (subst (λ l. terms_of fraction_of c.in_ok-terms.terms.items ≡ power_terms c.args.vars x
          (number_at l) 0 (length l)) c.deref.ensures.value c.in_ok-terms.ensures.terms)
          c.in_ok-numbers.ensures.count c.in_ok-mono.ensures.ok
          (c.neg.ensures
          ∙ ap opposite (number_here xs 0 _ (let n = c.in_ok-numbers.ensures.count in
          omega (arith, n)) c.index.ensures));
    }

pub returns-in_err-numbers-clause-wide : goal.returns-in_err-numbers-clause-wide
returns-in_err-numbers-clause-wide c = handed_on c.in_err-numbers.field-0.0 c.from_residual.result
    c.from_residual.ensures.1 c.in_err-numbers.ensures.wide
