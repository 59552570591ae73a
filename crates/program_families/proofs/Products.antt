-- What is divided for a monomial, as the code forms it.
--   times_formed      the rest of the lesser monomial times the variable's image
--   product_terms     what is formed, with like terms collected
--   rests_arity       rests among others, or 0
--   rests_begin, rests_over_begin     lists of rests
use Rattle.std.proofs.Common.{◌≡◌, ℕ, zero, suc, ◌+◌, List, [], ◌∷◌, Bool, true, false, cond, get_or, Option, Some, None, refl, sym, ap, subst, ◌∙◌, Result}
use Rattle.std.proofs.lemmas.List.Elements.{All-nil, All-head, All-tail}
use Rattle.algebra.specs.Each.{Each}
use Rattle.algebra.specs.Fraction.{Fraction, ℚ, rationals}
use Rattle.polynomials.specs.Exponent.{same}
use Rattle.polynomials.specs.Order.{grevlex}
use Rattle.polynomials.specs.Polynomial.{Arity, AllArity}
use Rattle.polynomials.specs.Terms.{Terms}
use Rattle.polynomials.proofs.Arity.{arity-times, arity-constant}
use Rattle.machines.specs.Collect.{collect}
use Rattle.poly.specs.Seen.{terms_in}
use Rattle.poly.specs.Standing.{StandsFor}
use Rattle.poly.proofs.Standing.{arity_over}
use Rattle.loop_model.specs.FracPoly.{FracPoly}
use Rattle.loop_model.specs.Operations.{product_at}
use Rattle.loop_model.specs.Stops.{Forms, Does}
use Rattle.loop_model.specs.declared.map_error.MapError.{MapError}
use Rattle.counter_run.proofs.WordImages.{terms_are}
use Rattle.flows.specs.Graph.{Transition}
use Rattle.flows.specs.Tasks.{Rests, Job, lesser, rest_in, product, times_image}
use Rattle.program_families.specs.Operations.{times_operations, plain_product}
use Rattle.program_families.specs.Views.{pair_of, rests_onto, rests_of, HaveArity}
use Rattle.program_families.specs.declared.job.Rest.{Rest}

pub times_formed : (n : ℕ) (t : Transition) (rs : Rests) (m e : List ℕ) (k : ℕ)
    → lesser m ≡ Some (e, k) → (x y : Terms Fraction) → x ≡ rest_in rs e
    → y ≡ get_or t.images k [] → (w : ℕ) → w ≡ t.unknowns + n → (r : Result FracPoly MapError)
    → Does w (product_at 0 x y) r
    → Forms (t.unknowns + n) (times_operations t rs (lesser m)) (plain_product n t rs (lesser m)) r
times_formed n t rs m e k is x y xs ys w over r h =
    let whole = t.unknowns + n in
    let h1 = subst (λ v. Does v (product_at 0 x y) r) over h in
    let h2 = subst (λ a. Does whole (product_at 0 a y) r) xs h1 in
    let h3 = subst (λ b. Does whole (product_at 0 (rest_in rs e) b) r) ys h2 in
    subst (λ o. Forms whole (times_operations t rs o) (plain_product n t rs o) r) (sym is) h3

arity_at : (m : ℕ) (fs : List (Terms Fraction)) (k : ℕ) → AllArity m fs → Arity m (get_or fs k [])
unfolding Each
arity_at m [] k h = tt
arity_at m (f ∷ fs) zero h = h.0
arity_at m (f ∷ fs) (suc k) h = arity_at m fs k h.1

abbrev AllRests : ℕ → Rests → Type 0
AllRests m rs = Each (λ r. Arity m r.1) rs

rest_arity : (m : ℕ) (rs : Rests) (e : List ℕ) → AllRests m rs → Arity m (rest_in rs e)
unfolding rest_in Each
rest_arity m [] e h = tt
rest_arity m (r ∷ rs) e h = go (same r.0 e) (rest_arity m rs e h.1)
  where
    go : (b : Bool) → Arity m (rest_in rs e) → Arity m (cond b r.1 (rest_in rs e))
    go true k = h.0
    go false k = k

onto_arity : (m : ℕ) (rs : Rests) (xs : List Rest) → AllRests m rs → HaveArity m xs
    → AllRests m (rests_onto rs xs)
unfolding rests_onto Each
onto_arity m rs [] h a = h
onto_arity m rs (x ∷ xs) h a =
    onto_arity m (pair_of x ∷ rs) xs
    (arity_over m x.polynomial (All-head (λ (r : Rest). r.polynomial.arity ≡ m) x xs a), h)
    (All-tail (λ (r : Rest). r.polynomial.arity ≡ m) x xs a)

pub rests_arity : (m : ℕ) (xs : List Rest) → HaveArity m xs → (e : List ℕ)
    → Arity m (rest_in (rests_of xs) e)
unfolding Each
rests_arity m xs a e = rest_arity m (rests_of xs) e (onto_arity m [] xs tt a)

module _ (n : ℕ) (j : Job) (images : (let t = j.transition in AllArity (t.unknowns + n) t.images))
    (rs : Rests) (over : (e : List ℕ) → (let t = j.transition in Arity (t.unknowns + n)
    (rest_in rs e))) where
  plain_arity : (o : Option (List ℕ × ℕ))
      → (let t = j.transition in Arity (t.unknowns + n) (plain_product n j.transition rs o))
  plain_arity None = (let t = j.transition in arity-constant (t.unknowns + n) ℚ.one)
  plain_arity (Some (e, k)) =
      let t = j.transition in
      arity-times (t.unknowns + n) ℚ (rest_in rs e) (get_or t.images k []) (over e)
      (arity_at (t.unknowns + n) t.images k images)

  collected : (o : Option (List ℕ × ℕ))
      → collect rationals grevlex (plain_product n j.transition rs o) ≡ times_image n j rs o
  collected None = refl
  collected (Some (e, k)) = refl

  pub product_terms : (m : List ℕ) (c : FracPoly)
      → (let t = j.transition in StandsFor (t.unknowns + n) c
      (plain_product n j.transition rs (lesser m)))
      → terms_in c ≡ product n j rs m
  product_terms m c s =
      let t = j.transition in
      terms_are (t.unknowns + n) c (plain_product n t rs (lesser m)) (plain_arity (lesser m)) s
      ∙ collected (lesser m)

pub rests_begin : (xs : List Rest) → xs ≡ [] → [] ≡ rests_of xs
unfolding rests_onto
rests_begin xs e = sym (ap rests_of e)

pub rests_over_begin : (m : ℕ) (xs : List Rest) → xs ≡ [] → HaveArity m xs
rests_over_begin m xs e =
    subst (HaveArity m) (sym e) (All-nil (λ (r : Rest). r.polynomial.arity ≡ m))
