use Rattle.std.proofs.Common.{◌≤◌, length, map, refl, sym, ap, subst, ◌∙◌}
use Rattle.std.proofs.lemmas.List.{length-map}
use Rattle.algebra.specs.Each.{Each}
use Rattle.polynomials.specs.Order.{grevlex}
use Rattle.poly.specs.Seen.{terms_in}
use Rattle.coprime_base.specs.Sizes.{sizes}
use Rattle.solvable_maps.specs.Iterations.{width, IsNormalForm}
use Rattle.closed_forms.specs.Values.{bodies_of, AreOver}
use Rattle.closed_forms.specs.View.{ArePassing}
use Rattle.expo.specs.View.{base_of}
use Rattle.expo.specs.declared.exponential.Expo.{Expo}
use Rattle.rounds.specs.Form.{inverse_form}
use Rattle.invariant_fix.proofs.Forms.{fits_branch}
use Rattle.invariant_fix.proofs.branches.form_branch.Goals as goal

pub returns-clause-fits : goal.returns-clause-fits
returns-clause-fits c =
    let f = c.in_ok-form.form in
    let e = c.in_ok-form.ensures in
    let size = sym (length-map c.args.images.items terms_in) in
    fits_branch _ c.requires.square
    (record {
      base = e.base;
      closed = e.closed;
      least = e.least;
      normal = subst (λ n. Each (IsNormalForm (sizes f.base.items) grevlex n)
          (bodies_of f.polys.items)) size e.normal;
      over = subst (λ n. AreOver (sizes f.base.items) n f.polys.items) size e.over;
      count = e.count ∙ size;
      told = e.told ∙ size;
      passes = subst (λ n. ArePassing (sizes f.base.items) n (bodies_of f.polys.items)
          f.passing.items) size e.passes;
      short = e.short;
      early = e.early;
      few = subst (λ n. width (length (sizes f.base.items)) n ≤ 4096) size e.few;
    })
    (c.in_ok-back.ensures.terms
    ∙ ap (map (λ (e : Expo). inverse_form grevlex (length (base_of e)) (terms_in e.body)))
    c.deref.ensures.value)
    (c.in_ok-back.ensures.arity ∙ ap (map (λ (e : Expo). e.body.arity)) c.deref.ensures.value)

pub returns-clause-pass : goal.returns-clause-pass
returns-clause-pass c = c.in_ok-form.ensures.pass refl

pub returns-clause-short : goal.returns-clause-short
returns-clause-short c = c.in_ok-form.ensures.lengths refl
