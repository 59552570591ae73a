-- The form of a branch as that of lists from graphs, where it isn't the state from the start on.
--   late_front, late_list, late_past       an orbit
--   iteration_front_is, iteration_list_is, iteration_past_is      an iteration
--   whole_fits, whole_front, whole_list, whole_past    an orbit where the form is the state from the start on
use Rattle.std.proofs.Common.{◌≡◌, ◌⊎◌, ℕ, zero, suc, ◌+◌, ◌<◌, Bool, false, List, [], map, get_or, length, refl, sym, ap, subst, ◌∙◌, arith}
use mathlib.Core.Path.{fun_ext}
use Rattle.std.specs.Global.{Vec}
use Rattle.std.specs.List.{Any}
use Rattle.algebra.specs.Fraction.{Fraction, fractions, rationals}
use Rattle.polynomials.specs.Order.{grevlex, blocks}
use Rattle.polynomials.specs.Terms.{Terms}
use Rattle.polynomials.specs.Weight.{IsPastComposition}
use Rattle.machines.specs.Collect.{collect}
use Rattle.frac128.specs.declared.Whole.{Whole}
use Rattle.poly.specs.Seen.{terms_each}
use Rattle.coprime_base.specs.Sizes.{sizes}
use Rattle.expo.specs.declared.exponential.Expo.{Expo}
use Rattle.loop_model.specs.FracPoly.{FracPoly}
use Rattle.rounds.specs.Form.{Form, front, inverse_of_form, passes, passing, form_before, front_since, list_since, whole_orbit_list, late_orbit_list, iteration_before, iteration_graph}
use Rattle.rounds.specs.Past.{IsPastComposed, IsPastGraph, IsPastOrbitSince, iteration_images}
use Rattle.task_lists.specs.Late.{bodies_in, copies_in, front_in, orbit_of, iteration_of, IsPastOrbitOf, IsPastIterationOf, vars_in, which, form_in}
use Rattle.ideal_ops.specs.Calls.{AreOver}
use Rattle.task_lists.specs.Starting.{FitsOrbit}
use Rattle.task_lists.specs.declared.late_form.LateForm.{LateForm}
use Rattle.invariant_fix.specs.Orbits.{numbers_of, vars_of, orbit_front_of, orbit_list_of, iteration_front_of, iteration_list_of, pulled_back_list, IsPastPullingBack, IsPastTurning, IsPastPulledBack}
use Rattle.invariant_fix.specs.Setting.{form_of, FitsBranch}
use Rattle.invariant_fix.specs.declared.branches.Branch.{Branch}

-- ---- where the form is the state from the start on
module _ (b : Branch) (fits : FitsBranch (vars_of b) b) where
  pub whole_fits : (m : ℕ) → m ≡ vars_of b → 0 < vars_of b → (gs : List FracPoly)
      → AreOver (vars_of b) gs → FitsOrbit m b.form.base b.back gs
  whole_fits m e some gs over = subst (λ n. FitsOrbit n b.form.base b.back gs) (sym e) (record {
    some = some;
    coprime = fits.base;
    few = (let f = fits.few in omega (arith, f));
    count = fits.back_count;
    backs = fits.back_arity;
    elements = over;
  })

  module _ (at_once : b.form.since ≡ 0) where
    pub whole_front : orbit_front_of b ≡ front (numbers_of b)
    whole_front = ap (λ d. front_since d (form_of b.form) (vars_of b)) at_once

    pub whole_list : (gs : List FracPoly) → orbit_list_of b gs ≡ pulled_back_list b gs
    whole_list gs = ap (λ d. list_since d (form_of b.form) (vars_of b) (terms_each gs)) at_once
        ∙ ap (λ ps. whole_orbit_list (numbers_of b) (vars_of b) ps (terms_each gs)) (sym fits.back)

    pub whole_past : (gs : List FracPoly) → IsPastPulledBack b gs → IsPastPullingBack b gs
    whole_past gs p = subst (λ d. IsPastOrbitSince d (form_of b.form) (vars_of b) (terms_each gs))
        (sym at_once) (subst (λ ps. IsPastComposed ps (terms_each gs)) fits.back p)

-- ---- where it isn't
module _ (f : Form) (m : ℕ) (gs : List (Terms Fraction)) where
  later_front : (d : ℕ) → (d ≡ 0 → ⊥)
      → front_since d f m ≡ front (length f.base) + passing m (passes f m)
  later_front zero n = absurd (n refl)
  later_front (suc d) n = refl

  later_list : (d : ℕ) → (d ≡ 0 → ⊥) → list_since d f m gs ≡ late_orbit_list f m (passes f m) gs
  later_list zero n = absurd (n refl)
  later_list (suc d) n = refl

  later_past : (d : ℕ) → (d ≡ 0 → ⊥)
      → IsPastGraph (front (length f.base)) (passing m (passes f m)) m
      (map (collect rationals grevlex) (form_before f m (passes f m))) f.polys gs
      → IsPastOrbitSince d f m gs
  later_past zero n p = absurd (n refl)
  later_past (suc d) n p = p

module _ {b : Branch} (fits : FitsBranch (vars_of b) b) (f : LateForm)
    (base : f.base.now ≡ b.form.base) (polys : f.polys.now ≡ b.form.polys)
    (told : f.passing.now ≡ b.form.passing) where
  pub vars_are : vars_in f ≡ vars_of b
  vars_are = ap (λ (v : Vec Bool). length v.items) told ∙ fits.passing_count

  which_is : which f ≡ passes (form_of b.form) (vars_of b)
  which_is = fun_ext (λ i. ap (λ (v : Vec Bool). get_or v.items i false) told ∙ fits.passing i)

  base_is : sizes f.base.now.items ≡ (form_of b.form).base
  base_is = ap (λ (v : Vec Whole). sizes v.items) base

  polys_are : bodies_in f.polys.now.items ≡ (form_of b.form).polys
  polys_are = ap (λ (v : Vec Expo). bodies_in v.items) polys

  -- the form, as its lists see it
  abbrev seen : Form
  seen = record { base = (form_of b.form).base; polys = (form_of b.form).polys; since = 0 }

  form_is : form_in f ≡ seen
  form_is = λ i. record { base = base_is i; polys = polys_are i; since = 0 }

  seen_so : {T : Type 0} (of : Form → ℕ → (ℕ → Bool) → T) → of (form_in f) (vars_in f) (which f)
      ≡ of seen (vars_of b) (passes (form_of b.form) (vars_of b))
  seen_so of = ap (λ (g : Form). of g (vars_in f) (which f)) form_is
      ∙ ap (λ n. of seen n (which f)) vars_are ∙ ap (of seen (vars_of b)) which_is

  holds_so : (P : Form → ℕ → (ℕ → Bool) → Type 0) → P (form_in f) (vars_in f) (which f)
      → P seen (vars_of b) (passes (form_of b.form) (vars_of b))
  holds_so P p = subst (P seen (vars_of b)) which_is (subst (λ n. P seen n (which f)) vars_are
      (subst (λ (g : Form). P g (vars_in f) (which f)) form_is p))

  -- ---- an orbit
  module _ (late : b.form.since ≡ 0 → ⊥) where
    pub late_front : front_in f ≡ orbit_front_of b
    late_front = seen_so (λ g n p. front (length g.base) + passing n p)
        ∙ sym (later_front (form_of b.form) (vars_of b) [] b.form.since late)

    pub late_list : (gs : List FracPoly) → orbit_of f gs ≡ orbit_list_of b gs
    late_list gs = seen_so (λ g n p. late_orbit_list g n p (terms_each gs))
        ∙ sym (later_list (form_of b.form) (vars_of b) (terms_each gs) b.form.since late)

    pub late_past : (gs : List FracPoly) → IsPastOrbitOf f gs → IsPastPullingBack b gs
    late_past gs p = later_past (form_of b.form) (vars_of b) (terms_each gs) b.form.since late
        (holds_so (λ g n p. IsPastGraph (front (length g.base)) (passing n p) n
        (map (collect rationals grevlex) (form_before g n p)) g.polys (terms_each gs)) p)

  -- ---- an iteration
  pub iteration_front_is : copies_in f ≡ iteration_front_of b
  iteration_front_is = seen_so (λ g n p. passing n p)

  pub iteration_list_is : (gs : List FracPoly) → iteration_of f b.images.items gs
      ≡ iteration_list_of b gs
  iteration_list_is gs =
      seen_so (λ g n p. map (collect rationals (blocks (passing n p) grevlex grevlex))
      (iteration_graph g n p (terms_each b.images.items) (terms_each gs)))

  pub iteration_past_is : (gs : List FracPoly) → IsPastIterationOf f b.images.items gs
      → IsPastTurning b gs
  iteration_past_is gs p = holds_so (λ g n p.
      Any (λ q. IsPastComposition fractions q (iteration_images g n)) (inverse_of_form g)
      ⊎ IsPastGraph 0 (passing n p) n
      (map (collect rationals grevlex) (iteration_before g n p)) (terms_each b.images.items)
      (terms_each gs)) p
