use Rattle.std.proofs.Common.{length, sym, ap, ap₂, ◌∙◌}
use Rattle.polynomials.specs.Exponent.{lcm}
use Rattle.poly.specs.Seen.{terms_in}
use Rattle.divide.proofs.OneCut.{lead_long}
use Rattle.complete.proofs.Made.{if_ok}
use Rattle.full_trace.proofs.PairsMade.{element, is_pair, past_pair}
use Rattle.full_trace.proofs.divisors.Divisors.pair_polynomial.Goals as goal

pub lcm-requires : goal.lcm-requires
lcm-requires g c =
    let f = c.index-list-left.result in
    let h = c.index-list-right.result in
    let one = element _ c.requires.divisors _ f c.requires.inside.0 c.index-list-left.is in
    let other = element _ c.requires.divisors _ h c.requires.inside.1 c.index-list-right.is in
    ap length c.in_ok-first.ensures.lead ∙ lead_long _ _ one.2 f.polynomial.arity ∙ one.1
    ∙ sym (ap length c.in_ok-second.ensures.lead ∙ lead_long _ _ other.2 h.polynomial.arity
    ∙ other.1)

pub returns-clause-terms : goal.returns-clause-terms
returns-clause-terms g c =
    if_ok _ _ c.s_polynomial.result
    (λ p h. is_pair c.args.self.now.order c.args.self.now.arity c.args.self.now.list.now
    c.requires.divisors
    (c.args.left, c.args.right) c.requires.inside c.index-list-left.result
    c.index-list-right.result c.index-list-left.is c.index-list-right.is c.in_ok-multiple.multiple
    (c.in_ok-multiple.ensures.ok ∙ ap₂ lcm c.in_ok-first.ensures.lead c.in_ok-second.ensures.lead)
    (terms_in p) h) c.s_polynomial.ensures.terms

pub returns-clause-wide : goal.returns-clause-wide
returns-clause-wide g c =
    λ w. past_pair c.args.self.now.order c.args.self.now.arity c.args.self.now.list.now
    c.requires.divisors
    (c.args.left, c.args.right) c.requires.inside c.index-list-left.result
    c.index-list-right.result c.index-list-left.is c.index-list-right.is c.in_ok-multiple.multiple
    (c.in_ok-multiple.ensures.ok ∙ ap₂ lcm c.in_ok-first.ensures.lead c.in_ok-second.ensures.lead)
    (c.s_polynomial.ensures.wide w)
