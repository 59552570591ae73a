use Rattle.std.proofs.Common.{◌≡◌, ◌⊎◌, ◌++◌, All, List, length, refl, ap, ap₂, sym, subst, ◌∙◌}
use Rattle.std.proofs.lemmas.Result.{IfOk-weaker}
use Rattle.algebra.specs.Fraction.{Fraction, fraction_size}
use Rattle.polynomials.specs.Polynomial.{Arity}
use Rattle.polynomials.specs.Terms.{Terms}
use Rattle.frac128.specs.declared.fraction.Frac.{Frac}
use Rattle.poly.specs.Seen.{terms_in}
use Rattle.poly.specs.declared.Term.{Term}
use Rattle.solvable_maps.specs.Iterations.{width}
use Rattle.expo.specs.Powers.{key_of_power}
use Rattle.closed_forms.specs.Inhomogeneities.{collect_terms}
use Rattle.closed_forms.specs.Later.{with_powers}
use Rattle.algebra.specs.Size.{IsPast}
use Rattle.polynomials.specs.Weight.{weight}
use Rattle.closed_forms.specs.Recurrences.{base_by}
use Rattle.closed_forms.proofs.Joining.{expo_over, over_normal}
use Rattle.closed_forms.proofs.LaterForms.{together-arity, joined_is}
use Rattle.closed_forms.proofs.Mixing.{tell, all_arity, terms-append}
use Rattle.closed_forms.proofs.recurrence.Recurrence.joined.Goals as goal
use Rattle.closed_forms.proofs.recurrence.Recurrence.joined.Goals.{In_ok-append}

pub push_grown-requires : goal.push_grown-requires
push_grown-requires c =
    let start = c.args.start.now in
    subst (λ (ts : List (Term Frac)). All (λ (t : Term Frac). length t.mono ≡ c.args.self.now.vars)
    ts) (sym (c.deref.ensures.value ∙ ap (λ v. v.items) c.terms.ensures)) (subst (λ m. All
    (λ (t : Term Frac). length t.mono ≡ m) start.terms.items) c.requires.start
    (all_arity _ _ start.polynomial.arity))

-- all terms, and how many exponents they have
module _ (c : In_ok-append) where
  abbrev start : Terms Fraction
  start = terms_in c.args.start.now

  abbrev sum : Terms Fraction
  sum = terms_in c.args.sum.body

  abbrev all : Terms Fraction
  all = tell c.append.new.self.items

  all_is : all ≡ with_powers (key_of_power c.args.self.now.own) start ++ sum
  all_is =
      let x = key_of_power c.args.self.now.own in
      terms-append _ c.into_terms.result c.in_ok-append.ensures.items
      (c.into_terms.ensures ∙ ap (λ p. p.terms) c.into_body.ensures)
      ∙ ap (λ a. a ++ sum) (c.in_ok-push_grown.ensures.terms
      ∙ ap₂ (λ (none ts : List (Term Frac)). tell none ++ with_powers x (tell ts))
      c.new-terms.ensures.items
      (c.deref.ensures.value ∙ ap (λ v. v.items) c.terms.ensures))

  narrow : Arity c.args.self.now.vars start
  narrow = subst (λ m. Arity m start) c.requires.start c.args.start.now.polynomial.arity

  wide : Arity (width (length (base_by c.args.self.now)) c.args.self.now.vars) sum
  wide = (over_normal c.requires.sum).polynomial.arity

pub normal_sum-requires : goal.normal_sum-requires
normal_sum-requires c =
    let at = (goal.at.normal_sum-requires c).In_ok-append in
    let r = c.args.self.now in
    all_arity _ _ (together-arity (base_by r) r.coprime.0 r.vars r.own.negative
    r.own.exponents.items r.power.count (start at) (sum at) (all_is at) (narrow at) (wide at))

pub returns-clause-over : goal.returns-clause-over
returns-clause-over c =
    let r = c.args.self.now in
    IfOk-weaker c.normal_sum.result _ _ (expo_over _) c.normal_sum.ensures.normal

pub returns-clause-joined : goal.returns-clause-joined
returns-clause-joined c =
    let at = (goal.at.returns-clause-joined c).In_ok-append in
    let r = c.args.self.now in
    IfOk-weaker c.normal_sum.result _ _ (λ y h. joined_is (base_by r) r.coprime.0 r.vars
    r.own.negative r.own.exponents.items r.power.count (start at) (sum at) (all_is at) (narrow at)
    (wide at) r.vars y refl h) c.normal_sum.ensures.normal

pub returns-clause-wide : goal.returns-clause-wide
returns-clause-wide c =
    let at = (goal.at.returns-clause-wide c).In_ok-append in
    λ x. subst (λ p. IsPast (weight fraction_size p)
    ⊎ IsPast (weight fraction_size (collect_terms p))) (all_is at) (c.normal_sum.ensures.wide x)
