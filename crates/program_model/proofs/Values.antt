-- What is formed, by its values.
--   stands_by_values        polynomials with the values of others at all states stand for them
--   IsUnknown m i q         q is the variable i of m;  unknown_values
--   IsInverseZero y h z     z is y times h, less 1;  inverse_values
--   IsSide ps e f z         z is e less f, where the variables have the values ps;  side_values
use Rattle.std.proofs.Common.{◌≡◌, ℕ, List, [], ◌∷◌, map, length, get_or, replicate, refl, sym, ap₂, ◌∙◌, All}
use Rattle.std.proofs.lemmas.List.{length-replicate}
use Rattle.std.proofs.lemmas.List.Elements.{All-head, All-tail}
use Rattle.std.proofs.Math.ListN.{get_or-map}
use Rattle.algebra.specs.Each.{Each}
use Rattle.algebra.specs.Fraction.{Fraction, ℚ}
use Rattle.algebra.specs.Sum.{sum_over}
use Rattle.algebra.proofs.Fractions.{ℚ_ring}
use Rattle.polynomials.specs.Terms.{Terms, constant, lists, variables, evaluate, value_at}
use Rattle.polynomials.specs.Polynomial.{AllArity}
use Rattle.polynomials.proofs.ByValues.{same_by_values}
use Rattle.polynomials.proofs.ValueAt.{value_at_same, value_at-variables}
use Rattle.loops.specs.Program as loops
use Rattle.loops.specs.Program.{Expr}
use Rattle.loops.specs.Effect.{value_of}
use Rattle.loops.proofs.Effects.{to-value_of}
use Rattle.loops.proofs.Maps.{value_at_carries}
use Rattle.flows.specs.Paths.{less, side_less}
use Rattle.poly.specs.Seen.{terms_in, terms_each, arity_of}
use Rattle.poly.specs.Standing.{IsInVariables, StandsFor, AllStandFor}
use Rattle.poly.proofs.Standing.{arity_over}
use Rattle.loop_model.specs.FracPoly.{FracPoly}
use Rattle.loop_model.specs.Operations.{value}
use Rattle.program_model.specs.Follows.{values}
use Rattle.program_model.specs.PathEvents.{unknown_at, less_one}
use Rattle.program_model.specs.Inverses.{IsInverse}
use Rattle.program_model.specs.declared.inverse.Inverse.{Inverse}

-- ---- polynomials with the same values
head_same : {x y : Fraction} {xs ys : List Fraction} → x ∷ xs ≡ y ∷ ys → x ≡ y
head_same e = cc

tail_same : {x y : Fraction} {xs ys : List Fraction} → x ∷ xs ≡ y ∷ ys → xs ≡ ys
tail_same e = cc

pub stands_by_values : (m : ℕ) (ps : List FracPoly) (qs : List (Terms Fraction))
    → All (IsInVariables m) ps → AllArity m qs → ((w : List Fraction) → length w ≡ m
    → values ps w ≡ map (λ q. value_at ℚ q w) qs) → AllStandFor m ps qs
unfolding Each
stands_by_values m [] [] a b h = tt
stands_by_values m [] (q ∷ qs) a b h =
    let k = h (replicate m ℚ.zero) (length-replicate m ℚ.zero) in absurd (cc)
stands_by_values m (p ∷ ps) [] a b h =
    let k = h (replicate m ℚ.zero) (length-replicate m ℚ.zero) in absurd (cc)
stands_by_values m (p ∷ ps) (q ∷ qs) a b h =
    let e : p.arity ≡ m = All-head (IsInVariables m) p ps a in (
      record {
        order = refl;
        arity = e;
        same = same_by_values m (terms_in p) q (arity_over m p e) b.0 (λ w l. head_same (h w l));
      },
      stands_by_values m ps qs (All-tail (IsInVariables m) p ps a) b.1 (λ w l. tail_same (h w l)),
    )

-- ---- an unknown, its zero, and a side
pub record IsUnknown (m i : ℕ) (q : FracPoly) : Type 0 where
  pub arity : q.arity ≡ m
  pub value : (w : List Fraction) → length w ≡ m → value_at ℚ (terms_in q) w ≡ get_or w i ℚ.zero

pub record IsInverseZero (y h z : FracPoly) : Type 0 where
  pub arity : z.arity ≡ y.arity
  pub value : (w : List Fraction) → value_at ℚ (terms_in z) w
      ≡ less ℚ (ℚ.mul (value_at ℚ (terms_in y) w) (value_at ℚ (terms_in h) w)) ℚ.one

pub record IsSide (ps : List FracPoly) (e f : Expr ℕ) (z : FracPoly) : Type 0 where
  pub arity : z.arity ≡ arity_of ps
  pub value : (w : List Fraction) → value_at ℚ (terms_in z) w
      ≡ side_less ℚ (λ c. c) (values ps w) e f

value_nil : (w : List Fraction) → value_at ℚ [] w ≡ ℚ.zero
unfolding evaluate sum_over
value_nil w = refl

pub unknown_values : (m i : ℕ) (q : FracPoly) → StandsFor m q (unknown_at m i) → IsUnknown m i q
unknown_values m i q h = record {
  arity = h.arity;
  value = λ w l. value_at_same ℚ_ring (terms_in q) (unknown_at m i) w h.same
      ∙ sym (get_or-map (λ p. value_at ℚ p w) (variables ℚ m) i [])
      ∙ ap₂ (λ t z. get_or t i z) (value_at-variables ℚ_ring m w l) (value_nil w);
}

value_here : (m : ℕ) (qs : List (Terms Fraction)) (e : Expr ℕ) (w : List Fraction)
    → value_at ℚ (value m qs e) w ≡ value_of ℚ (λ c. c) (map (λ q. value_at ℚ q w) qs) e
value_here m qs e w = to-value_of (lists ℚ m) ℚ (constant m) (λ c. c) (λ q. value_at ℚ q w)
    (value_at_carries m w) qs e

less_one_at : (at : ℕ) (u v : Fraction)
    → value_of ℚ (λ c. c) (u ∷ v ∷ []) (less_one at) ≡ less ℚ (ℚ.mul u v) ℚ.one
unfolding value_of
less_one_at at u v = refl

pub inverse_values : (m at i : ℕ) (h : Terms Fraction) (v : Inverse) (p : FracPoly)
    → IsInverse m at i h v → StandsFor m p h → IsInverseZero v.unknown p v.zero
inverse_values m at i h v p is k = record {
  arity = is.zero.arity ∙ sym is.unknown.arity;
  value = λ w.
      value_at_same ℚ_ring (terms_in v.zero) _ w is.zero.same
      ∙ value_here m (unknown_at m i ∷ h ∷ []) (less_one at) w
      ∙ less_one_at at (value_at ℚ (unknown_at m i) w) (value_at ℚ h w)
      ∙ ap₂ (λ y z. less ℚ (ℚ.mul y z) ℚ.one)
      (sym (value_at_same ℚ_ring (terms_in v.unknown) (unknown_at m i) w is.unknown.same))
      (sym (value_at_same ℚ_ring (terms_in p) h w k.same));
}

side_at : (at : ℕ) (t : List Fraction) (e f : Expr ℕ)
    → value_of ℚ (λ c. c) t (loops.sub at e f) ≡ side_less ℚ (λ c. c) t e f
unfolding value_of
side_at at t e f = refl

pub side_values : (m at : ℕ) (ps : List FracPoly) (e f : Expr ℕ) (z : FracPoly) → m ≡ arity_of ps
    → StandsFor m z (value m (terms_each ps) (loops.sub at e f)) → IsSide ps e f z
side_values m at ps e f z a h = record {
  arity = h.arity ∙ a;
  value = λ w.
      value_at_same ℚ_ring (terms_in z) _ w h.same
      ∙ value_here m (terms_each ps) (loops.sub at e f) w
      ∙ side_at at (values ps w) e f;
}
