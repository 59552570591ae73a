use Rattle.std.proofs.Common.{◌≡◌, ◌∷◌, Result, Ok, Err, map, drop, length, refl, sym, ap, subst, ◌∙◌}
use Rattle.std.specs.Result.{IfOk}
use Rattle.std.proofs.lemmas.Result.{IfOk-weaker}
use Rattle.polynomials.specs.Exponent.{Divides}
use Rattle.poly.specs.Seen.{terms_in}
use Rattle.poly.specs.View.{term_of}
use Rattle.poly.proofs.Multiples.{seen_lead}
use Rattle.divide.proofs.OneCut.{lead_is, lead_long, factor_is}
use Rattle.complete.proofs.element.quotient_by_lead.Given.{Over}
use Rattle.complete.proofs.element.quotient_by_lead.Goals.{In-Some}
use Rattle.complete.proofs.element.quotient_by_lead.Goals as goal

-- the lead, as it is seen, and how many exponents it has
lead_seen : (g : Over) (c : In-Some g) → terms_in c.args.f.now ≡ term_of g.K.Ring.meaning
    c.in-Some.lead.now ∷ map (term_of g.K.Ring.meaning) (drop 1 c.args.f.now.terms.items)
lead_seen g c = seen_lead (term_of g.K.Ring.meaning) c.deref.result.now c.args.f.now.terms.items
    c.in-Some.lead.now c.in-Some.ensures.value (c.deref.ensures.value
    ∙ ap (λ v. v.items) c.terms.ensures)

same_long : (g : Over) (c : In-Some g)
    → length c.args.multiple.now ≡ length c.in-Some.lead.now.mono
same_long g c = c.requires.long
    ∙ sym (lead_long _ (terms_in c.args.f.now) c.requires.nonzero c.args.f.now.polynomial.arity)
    ∙ ap length (lead_is _ _ _ (lead_seen g c))

pub quotient-requires-clause-arity : goal.quotient-requires-clause-arity
quotient-requires-clause-arity g c =
    same_long g (goal.at.quotient-requires-clause-arity g c).In-Some

pub quotient-requires-clause-divides : goal.quotient-requires-clause-divides
quotient-requires-clause-divides g c =
    subst (λ d. Divides d c.args.multiple.now)
    (lead_is _ _ _ (lead_seen g (goal.at.quotient-requires-clause-divides g c).In-Some))
    c.requires.divided

-- what follows from two facts of a result
both : {X E : Type 0} (P Q R : X → Type 0) → ((x : X) → P x → Q x → R x) → (r : Result X E)
    → IfOk r P → IfOk r Q → IfOk r R
both P Q R f (Ok x) p q = f x p q
both P Q R f (Err e) p q = tt

pub returns-clause-quotient : goal.returns-clause-quotient
returns-clause-quotient g c =
    let S = g.K.Ring.scalars in
    let at = (goal.at.returns-clause-quotient g c).In-Some in
    let f = terms_in c.args.f.now in
    both _ _ _ (λ by is long. factor_is S f f _ (c.args.multiple.now, S.zero) _
    (c.args.multiple.now, S.zero) (lead_seen g at) refl by is (long ∙ same_long g at))
    c.quotient.result c.quotient.ensures.ok c.quotient.ensures.arity

pub returns-clause-long : goal.returns-clause-long
returns-clause-long g c = IfOk-weaker c.quotient.result _ _ (λ by e. e ∙ c.requires.long)
    c.quotient.ensures.arity
