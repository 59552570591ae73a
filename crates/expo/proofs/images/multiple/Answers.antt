use Rattle.std.proofs.Common.{length, sym, ap, ◌∙◌, arith}
use Rattle.frac128.specs.FracMeaning.{fraction_of}
use Rattle.poly.specs.View.{terms_of}
use Rattle.expo.proofs.Outcomes.{ok_weaker}
use Rattle.expo.proofs.Single.{single_is}
use Rattle.expo.proofs.images.multiple.Goals as goal

pub returns-clause-terms : goal.returns-clause-terms
returns-clause-terms c =
    ok_weaker _ _ (λ p i. record {
      exponents = c.in_ok-mono.mono;
      unit = c.in_ok-mono.ensures.ok;
      terms = single_is p.arity c.in_ok-mono.mono (fraction_of c.args.coef) _ _
          (c.in_ok-mono.ensures.arity ∙ sym i.arity) c.requires.nonzero p.polynomial i.same
          (ap (terms_of fraction_of) c.in_ok-terms.ensures.items);
    }) c.from_distinct.result c.from_distinct.ensures

pub from_distinct-requires-clause-distinct : goal.from_distinct-requires-clause-distinct
from_distinct-requires-clause-distinct c =
    let n = ap length c.in_ok-terms.ensures.items in
    λ i j d l g. absurd (omega (arith, n, l, g))
