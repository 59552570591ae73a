use Rattle.std.proofs.Common.{◌≡◌, ◌≤◌, ◌<◌, ◌∙◌, List, All, Vec, Global, map, length, refl, sym, ap, subst}
use Rattle.frac128.specs.declared.fraction.Frac.{Frac}
use Rattle.poly.specs.Seen.{terms_each}
use Rattle.closed_forms.proofs.Ahead.{after_count}
use Rattle.closed_forms.proofs.Settling.{forms_wide, forms_few}
use Rattle.linear.specs.Rows.{rows_of}
use Rattle.solvable_maps.specs.Uses.{poly_at}
use Rattle.expo.specs.declared.exponential.Expo.{Expo}
use Rattle.closed_forms.specs.Inverses.{IsBehind}
use Rattle.closed_forms.specs.Values.{bodies_of}
use Rattle.solvable.proofs.Using.{FracPoly, length_each}
use Rattle.closed_forms.proofs.Splitting.{class_inside}
use Rattle.closed_forms.proofs.class.SplitClass.setting.Goals as goal

pub rests-requires : goal.rests-requires
rests-requires c = class_inside _ c.requires.class

pub class_matrix-requires : goal.class_matrix-requires
class_matrix-requires c = class_inside _ c.requires.class

pub invariant_of-forms : goal.invariant_of-forms
invariant_of-forms c =
    let map = c.args.self.now.work.now.map in
    record {
      few = subst (λ (fs : List (Vec Frac Global)). length fs ≤ 12) (sym c.as_slice.ensures.value)
          (forms_few c.requires.split c.requires.class (length_each map.images.now.items) map.few);
      square = subst (λ (fs : List (Vec Frac Global)). All (λ (f : Vec Frac Global).
          length f.items ≡ length fs) fs) (sym c.as_slice.ensures.value)
          (forms_wide c.requires.split);
    }

pub picked-requires : goal.picked-requires
picked-requires c =
    let M = c.args.self.now.work.now.map.images.now.items in
    subst (λ n. All (λ i. i < n) c.args.self.now.group.now)
    (sym (sym (length_each c.last_state.result.now)
    ∙ ap length c.last_state.ensures.terms
    ∙ after_count (terms_each M) c.args.self.now.work.now.iterations
    ∙ length_each M)) (class_inside M c.requires.class)

pub returns-clause-setting : goal.returns-clause-setting
returns-clause-setting c = record {
  earlier = c.in_ok-earlier.ensures.terms ∙ ap bodies_of c.deref.ensures.value;
  arities = λ w h. c.in_ok-earlier.ensures.arities w
      (subst (λ (es : List Expo). All (λ (e : Expo). e.body.arity ≡ w) es)
      (sym c.deref.ensures.value) h);
  rests = c.in_ok-rests.ensures.terms;
  variables = subst (λ n. All (λ (p : FracPoly). p.arity ≡ n) c.in_ok-rests.rests.items)
      (sym (length_each c.args.self.now.work.now.map.images.now.items))
      c.in_ok-rests.ensures.arities;
  matrix = c.in_ok-matrix.ensures;
  back = subst (λ fs. IsBehind (rows_of fs) (rows_of c.in_ok-back.back.items))
      c.as_slice.ensures.value c.in_ok-back.ensures.inverse;
  iterations = refl;
  ahead = c.in_ok-ahead.ensures.terms
      ∙ ap (λ l. map (poly_at l) c.args.self.now.group.now) c.last_state.ensures.terms;
  over = subst (λ n. All (λ (p : FracPoly). p.arity ≡ n) c.in_ok-ahead.ahead.items)
      (sym (length_each c.args.self.now.work.now.map.images.now.items))
      (c.in_ok-ahead.ensures.arities _ c.last_state.ensures.arities);
}
