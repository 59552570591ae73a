use Rattle.std.proofs.Common.{◌++◌, ap, sym, subst, ◌∙◌}
use Rattle.std.proofs.lemmas.Result.{IfOk-weaker}
use Rattle.polynomials.specs.Polynomial.{Arity}
use Rattle.linear.specs.Rows.{fractions_of}
use Rattle.poly.specs.Seen.{terms_each}
use Rattle.closed_forms.specs.Sums.{mix}
use Rattle.closed_forms.proofs.Making.{part_is}
use Rattle.closed_forms.proofs.Mixing.{tell, all_arity, mix-arity, polys_arity}
use Rattle.closed_forms.proofs.sums.weighted_sum.Goals as goal

pub from_terms-requires-clause-arities : goal.from_terms-requires-clause-arities
from_terms-requires-clause-arities c =
    all_arity _ _ (subst (Arity c.args.arity) (sym (c.in_ok-push_mixed.ensures.terms ∙ ap (λ l. tell
    l ++ mix (fractions_of c.args.numbers.now) (terms_each c.args.polys.now))
    c.new-terms.ensures.items)) (mix-arity c.args.arity (fractions_of c.args.numbers.now) _
    (polys_arity _ _ c.requires.arities)))

pub returns-clause-terms : goal.returns-clause-terms
returns-clause-terms c =
    IfOk-weaker c.from_terms.result _ _ (λ p i. part_is c.args.arity _ _ p
    c.requires.arities (c.in_ok-push_mixed.ensures.terms ∙ ap (λ l. tell l ++ mix
    (fractions_of c.args.numbers.now) (terms_each c.args.polys.now)) c.new-terms.ensures.items)
    i.arity i.same) c.from_terms.ensures.sum
