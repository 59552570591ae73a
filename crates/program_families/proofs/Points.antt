-- Values of polynomials at a point, as the code computes them.
--   point_is          values of unknowns with a state behind them
--   other_value       where one isn't 0, a polynomial isn't
--   more_zeros, all_zero     where all are 0, all polynomials are
--   leads             then the transition leads to the values of its images
use Rattle.std.proofs.Common.{◌≡◌, ◌≢◌, ℕ, ◌+◌, ◌<◌, List, [], ◌∷◌, ◌++◌, map, take, length, get_or, sym, ap, ap₂, subst, ◌∙◌}
use Rattle.std.proofs.lemmas.List.{map-append, length-map}
use Rattle.algebra.specs.Each.{Each}
use Rattle.algebra.specs.In.{In}
use Rattle.algebra.specs.Fraction.{Fraction, ℚ}
use Rattle.algebra.proofs.Each.{each-append}
use Rattle.algebra.proofs.In.{each_in, each_from, in_get, in_map, map-in}
use Rattle.algebra.proofs.Lists.{take_one}
use Rattle.polynomials.specs.Terms.{Terms, value_at}
use Rattle.frac128.specs.FracMeaning.{fraction_of}
use Rattle.frac128.specs.declared.fraction.Frac.{Frac}
use Rattle.poly.specs.Seen.{terms_each}
use Rattle.program_model.specs.declared.graph.Transition.{Transition}
use Rattle.program_families.specs.Moves.{fractions_in, point_of, LeadsBy, HasOther}

pub point_is : (vs s begun behind point : List Frac) → begun ≡ vs → behind ≡ s
    → point ≡ begun ++ behind → fractions_in point ≡ point_of vs s
point_is vs s begun behind point b d is =
    ap fractions_in (is ∙ ap₂ ◌++◌ b d) ∙ map-append fraction_of vs s

module _ (ps : List (Terms Fraction)) (x : List Fraction) (values : List Frac)
    (are : fractions_in values ≡ map (λ p. value_at ℚ p x) ps) where
  pub other_value : (i : ℕ) (v : Frac) → i < length values → v ≡ get_or values i v
      → fraction_of v ≢ ℚ.zero → HasOther ps x
  other_value i v l is n =
      let (p, w, e) = in_map (λ q. value_at ℚ q x) ps (fraction_of v)
      (subst (In (fraction_of v)) are (map-in fraction_of values v
      (subst (λ y. In y values) (sym is) (in_get values i v l)))) in
      record { polynomial = p; within = w; other = λ z. n (e ∙ z) }

  pub all_zero : Each (λ v. fraction_of v ≡ ℚ.zero) values
      → Each (λ p. value_at ℚ p x ≡ ℚ.zero) ps
  all_zero h =
      each_from ps (λ p i.
      let (v, w, e) = in_map fraction_of values (value_at ℚ p x)
      (subst (In (value_at ℚ p x)) (sym are) (map-in (λ q. value_at ℚ q x) ps p i)) in
      e ∙ each_in (λ v. fraction_of v ≡ ℚ.zero) values v h w)

pub more_zeros : (values : List Frac) (i : ℕ) (v : Frac) → i < length values
    → v ≡ get_or values i v → fraction_of v ≡ ℚ.zero
    → Each (λ v. fraction_of v ≡ ℚ.zero) (take i values)
    → Each (λ v. fraction_of v ≡ ℚ.zero) (take (i + 1) values)
unfolding Each
more_zeros values i v l is z h =
    subst (Each (λ v. fraction_of v ≡ ℚ.zero)) (sym (take_one values i v l is))
    (each-append (λ v. fraction_of v ≡ ℚ.zero) (take i values) (v ∷ []) h (z, tt))

pub leads : (t : Transition) (vs s z zeros : List Frac) (x : List Fraction) → x ≡ point_of vs s
    → length vs ≡ t.unknowns
    → fractions_in zeros ≡ map (λ p. value_at ℚ p x) (terms_each t.zeros.items)
    → Each (λ v. fraction_of v ≡ ℚ.zero) zeros
    → fractions_in z ≡ map (λ p. value_at ℚ p x) (terms_each t.images.items)
    → LeadsBy t vs s z
leads t vs s z zeros x is count are all images = record {
  count = length-map vs fraction_of ∙ count;
  zeros =
      subst (λ y. Each (λ g. value_at ℚ g y ≡ ℚ.zero) (terms_each t.zeros.items)) is
      (all_zero (terms_each t.zeros.items) x zeros are all);
  is = images ∙ ap (λ y. map (λ p. value_at ℚ p y) (terms_each t.images.items)) is;
}
