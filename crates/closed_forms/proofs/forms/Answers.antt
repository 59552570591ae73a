use Rattle.std.proofs.Common.{◌≤◌, length, Vec, Global, rules, subst, ◌∙◌}
use Rattle.std.proofs.lemmas.Result.{IfOk-weaker, IfErr-weaker}
use Rattle.std.specs.Result.{IfOk, IfErr}
use Rattle.poly.specs.Seen.{terms_each}
use Rattle.solvable.proofs.Using.{FracPoly, length_each}
use Rattle.solvable_maps.specs.Iterations.{width}
use Rattle.solvable.specs.Refusal.{IsSolvable}
use Rattle.closed_forms.specs.Refusal.{AllPass, IfRefusedBy}
use Rattle.closed_forms.specs.Values.{AreOver}
use Rattle.closed_forms.specs.View.{base_in, polys_in, AreNormal, ArePassing, IsFormOf}
use Rattle.closed_forms.specs.declared.Form.{Form}
use Rattle.closed_forms.proofs.Ending.{all_pass, refused_later}
use Rattle.closed_forms.proofs.forms.Goals as goal
use Rattle.closed_forms.proofs.forms.Goals.{After-form}

of_form : (c : After-form) {P : Form → Type 0}
    → ((form : Form) → IsFormOf (terms_each c.args.images.now.items) form → P form)
    → IfOk c.form.result P
of_form c f = IfOk-weaker c.form.result _ _ f (subst (λ (v : Vec FracPoly Global).
    IfOk c.form.result (IsFormOf (terms_each v.items))) c.in-Ok.ensures.images c.form.ensures.form)

pub returns-in-Ok : goal.returns-in-Ok
returns-in-Ok c =
    let at = (goal.at.returns-in-Ok c).After-form in
    let is = c.in-Ok.ensures.work in
    let pass = all_pass _ c.in-Ok.work.map.square is.splits in
    record {
      base = of_form at (λ form h. h.base);
      closed = of_form at (λ form h. h.closed);
      least = of_form at (λ form h. h.least);
      normal = of_form at (λ form h.
          subst (λ m. AreNormal (base_in form) m (polys_in form)) (length_each _) h.normal);
      over = of_form at (λ form h.
          subst (λ m. AreOver (base_in form) m form.polys.items) (length_each _) h.over);
      count = of_form at (λ form h. h.count ∙ length_each _);
      told = of_form at (λ form h. h.told ∙ length_each _);
      passes = of_form at (λ form h. subst (λ m.
          ArePassing (base_in form) m (polys_in form) form.passing.items) (length_each _) h.passes);
      short = of_form at (λ form h. h.short);
      early = of_form at (λ form h. h.early);
      few = of_form at (λ form h.
          subst (λ m. width (length (base_in form)) m ≤ 4096) (length_each _) h.few);
      solvable = λ ok. subst (λ (v : Vec FracPoly Global). IsSolvable (terms_each v.items))
          c.in-Ok.ensures.images is.solvable;
      pass = λ ok. subst (λ (v : Vec FracPoly Global). AllPass (terms_each v.items))
          c.in-Ok.ensures.images pass;
      lengths = λ ok. c.in-Ok.ensures.lengths (search rules);
      refused = subst (λ (v : Vec FracPoly Global).
          IfErr c.form.result (IfRefusedBy (terms_each v.items))) c.in-Ok.ensures.images
          (IfErr-weaker _ _ _ (refused_later is.solvable pass) c.form.ensures.refused);
    }
