use Rattle.std.proofs.Common.{◌≡◌, [], ◌∷◌, map, drop, length, sym, ap, slice_index_or, refl, ◌∙◌}
use Rattle.machines.specs.Cut.{lead_of, divides}
use Rattle.machines.proofs.DividesTest.{divides-each}
use Rattle.poly.specs.View.{term_of}
use Rattle.poly.specs.Seen.{terms_in}
use Rattle.poly.proofs.Multiples.{seen_lead, first_nonzero}
use Rattle.divide.specs.Cutting.{term_at}
use Rattle.divide.proofs.OneCut.{seen_at, term_long, lead_long, lead_is, factor_is, number_is, term_is, past_division}
use Rattle.divide.proofs.current.factor_at.Given.{Over}
use Rattle.divide.proofs.current.factor_at.Goals.{In-Some}
use Rattle.divide.proofs.current.factor_at.Goals as goal

-- ---- the lead and the term, as they are seen, and their exponents
lead_seen : (g : Over) (c : In-Some g) → terms_in c.args.g.now ≡ term_of g.K.Ring.meaning
    c.in-Some.lead.now ∷ map (term_of g.K.Ring.meaning) (drop 1 c.args.g.now.terms.items)
lead_seen g c = seen_lead (term_of g.K.Ring.meaning) c.deref.result.now c.args.g.now.terms.items
    c.in-Some.lead.now c.in-Some.ensures.value (c.deref.ensures.value
    ∙ ap (λ v. v.items) c.terms-2.ensures)

term_seen : (g : Over) (c : In-Some g) → term_at g.K.Ring.scalars (terms_in c.args.p.now) c.args.at
    ≡ term_of g.K.Ring.meaning c.index-term.result.now
term_seen g c = seen_at (term_of g.K.Ring.meaning) c.args.p.now.terms.items c.args.at
    c.index-term.result.now ([], g.K.Ring.scalars.zero) c.requires.at (c.index-term.ensures
    ∙ ap (λ v. slice_index_or v.items c.args.at c.index-term.result.now) c.terms.ensures)

term_size : (g : Over) (c : In-Some g) → length c.index-term.result.now.mono ≡ c.args.p.now.arity
term_size g c = ap (λ t. length t.0) (sym (term_seen g c))
    ∙ term_long _ (terms_in c.args.p.now) c.args.at ([], g.K.Ring.scalars.zero) c.requires.at
    c.args.p.now.polynomial.arity

lead_size : (g : Over) (c : In-Some g) → c.args.p.now.arity ≡ length c.in-Some.lead.now.mono
lead_size g c = sym c.requires.arity
    ∙ sym (lead_long _ (terms_in c.args.g.now) c.requires.nonzero c.args.g.now.polynomial.arity)
    ∙ ap length (lead_is _ _ _ (lead_seen g c))

pub div-requires : goal.div-requires
div-requires g c = first_nonzero g.K.Ring.scalars _ _ _ _ _
    (lead_seen g (goal.at.div-requires g c).In-Some) c.args.g.now.polynomial

pub returns-in_err-coef-clause-wide : goal.returns-in_err-coef-clause-wide
returns-in_err-coef-clause-wide g c =
    let at = (goal.at.returns-in_err-coef-clause-wide g c).In-Some in
    λ _. past_division g.K.Ring.scalars _ _ _ _ _ _ (lead_seen g at) (term_seen g at)
    (c.in_err-coef.ensures.wide refl)

pub quotient-requires : goal.quotient-requires
quotient-requires g c =
    let at = (goal.at.quotient-requires g c).In-Some in
    record {
      arity = term_size g at ∙ lead_size g at;
      divides = divides-each _ _ (sym (term_size g at ∙ lead_size g at))
          (sym (ap (λ d. divides d c.index-term.result.now.mono) (lead_is _ _ _ (lead_seen g at)))
          ∙ sym (ap (λ t. divides (lead_of (terms_in c.args.g.now)) t.0) (term_seen g at))
          ∙ c.requires.divided);
    }

pub returns-clause-long : goal.returns-clause-long
returns-clause-long g c = c.in_ok-mono.ensures.arity
    ∙ term_size g (goal.at.returns-clause-long g c).In-Some

pub returns-clause-by : goal.returns-clause-by
returns-clause-by g c =
    let at = (goal.at.returns-clause-by g c).In-Some in
    factor_is g.K.Ring.scalars (terms_in c.args.p.now) _ _ _ _ _ (lead_seen g at) (term_seen g at)
    c.in_ok-mono.mono c.in_ok-mono.ensures.ok
    (c.in_ok-mono.ensures.arity ∙ term_size g at ∙ lead_size g at)

pub returns-clause-number : goal.returns-clause-number
returns-clause-number g c =
    let S = g.K.Ring.scalars in
    let at = (goal.at.returns-clause-number g c).In-Some in
    let lead = lead_seen g at in
    number_is S (terms_in c.args.p.now) _ _ _ _ _ lead (term_seen g at) g.met.K.Ring.ring
    g.met.K.Field.field _ (first_nonzero S _ _ _ _ _ lead c.args.g.now.polynomial)
    c.in_ok-coef.ensures.ok

pub returns-clause-term : goal.returns-clause-term
returns-clause-term g c =
    let at = (goal.at.returns-clause-term g c).In-Some in
    term_is g.K.Ring.scalars (terms_in c.args.p.now) _ _ _ _ _ (lead_seen g at) (term_seen g at)
    c.in_ok-mono.mono _ c.in_ok-mono.ensures.ok c.in_ok-coef.ensures.ok
