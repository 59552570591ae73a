-- Two bodies with the same values at every natural number have the same values at every other point too, as at the negative numbers.
--   gathered x ts      the sum of the coefficients of the terms of ts that have the key x
--   regrouped          a sum over terms is the sum over their keys, each with what is gathered at it
--   Place, place_test  exponents of s, u, v and n, and a test for sameness
use Rattle.std.proofs.Common.{◌≡◌, ◌≢◌, Bool, true, false, cond, ℕ, List, ◌++◌, map, refl, sym, ap, ap₂, ◌∙◌}
use Rattle.algebra.specs.Each.{Each}
use Rattle.algebra.proofs.Each.{each-append, each-map}
use Rattle.algebra.specs.In.{In}
use Rattle.exponentials.specs.Base.{Coprime}
use Rattle.algebra.specs.Ring.{CommRing, Field, Hom, operations}
use Rattle.algebra.specs.Sum.{sum_over}
use Rattle.algebra.proofs.RingLaws as L
use Rattle.algebra.proofs.Sums as Sums
use Rattle.algebra.proofs.In.{each_in, each_from, map-in, in_left, in_right}
use Rattle.algebra.proofs.Basics.{cond_both}
use Rattle.exponentials.proofs.Lists.{Distinct, Test, each_map, sum_same, sum_alike, pick, once, once-distinct, once-in, once-out, same_false}
use Rattle.exponentials.specs.Table.{alike}
use Rattle.exponentials.proofs.Terms.{alike_true, alike_refl}
use Rattle.exponentials.specs.Keys.{Key, IsNormalKey}
use Rattle.exponentials.proofs.Expo.{IsChar0, key_test}
use Rattle.exponentials.proofs.Unique.{sum_at, coefficient_of, same_coefficients}

module _ {A : Type 0} (R : CommRing A) {W X : Type 0} (E : Test X) (key : W → X) (c : W → A) where
  -- the coefficient at x
  abbrev pub gathered : X → List W → A
  gathered x ts = sum_over (operations R) (λ t. cond (E.same x (key t)) (c t) R.zero) ts

  pub regrouped : (h : X → A) (xs : List X) → Distinct (λ (x : X). x) xs → (ts : List W)
      → Each (λ t. In (key t) xs) ts
      → sum_over (operations R) (λ x. R.mul (h x) (gathered x ts)) xs ≡ sum_over (operations R)
      (λ t. R.mul (h (key t)) (c t)) ts
  regrouped h xs d ts i =
      sum_alike R (λ x. R.mul (h x) (gathered x ts)) (λ x. sum_over (operations R) (λ t. cell x t)
      ts) xs (λ x. sym (Sums.sum-mul R (h x) (λ t. cond (E.same x (key t)) (c t) R.zero) ts))
      ∙ Sums.sum_swap R cell xs ts
      ∙ sum_same R (λ t. sum_over (operations R) (λ x. cell x t) xs) (λ t. R.mul (h (key t)) (c t))
      ts
      (each_map ts (λ t j. pick R (λ (x : X). x) (λ x. cell x t) xs (key t) d j (λ y ne.
      none y t ne) ∙ ap (λ b. R.mul (h (key t)) (cond b (c t) R.zero))
      (E.same_refl (key t))) i)
    where
      cell : X → W → A
      cell x t = R.mul (h x) (cond (E.same x (key t)) (c t) R.zero)

      none : (x : X) (t : W) → x ≢ key t → cell x t ≡ R.zero
      none x t ne = ap (λ b. R.mul (h x) (cond b (c t) R.zero)) (same_false E x (key t) ne)
          ∙ L.mul-zero R (h x)

  -- the same coefficients have the same sums with any h
  pub same_sums : (ts us : List W) → Each (λ x. gathered x ts ≡ gathered x us)
      (map key ts ++ map key us) → (h : X → A)
      → sum_over (operations R) (λ t. R.mul (h (key t)) (c t)) ts ≡ sum_over (operations R)
      (λ t. R.mul (h (key t)) (c t)) us
  same_sums ts us e h =
      let all = map key ts ++ map key us in
      let xs = once E all in
      let d : Distinct (λ (x : X). x) xs = once-distinct E all in
      sym (regrouped h xs d ts
      (each_from ts (λ t j. once-in E all (key t) (in_left (key t) (map key ts) (map key us)
      (map-in key ts t j)))))
      ∙ sum_same R (λ x. R.mul (h x) (gathered x ts)) (λ x. R.mul (h x) (gathered x us)) xs
      (each_from xs (λ x j. ap (R.mul (h x)) (each_in (λ x. gathered x ts ≡ gathered x us) all x e
      (once-out E all x j))))
      ∙ regrouped h xs d us
      (each_from us (λ t j. once-in E all (key t) (in_right (key t) (map key ts) (map key us)
      (map-in key us t j))))

-- ---- exponents of u, of v and of n
abbrev pub Place : Type 0
Place = Key × ℕ

unfoldable pub place_test : Test Place
place_test = record {
  same = λ p q. cond (alike q.1 p.1) (key_test.same p.0 q.0) false;
  same_true = λ p q h. go (alike q.1 p.1) refl (key_test.same p.0 q.0) refl h;
  same_refl = λ p. ap₂ (λ a b. cond a b false) (alike_refl p.1) (key_test.same_refl p.0);
}
  where
    go : {p q : Place} (a : Bool) → alike q.1 p.1 ≡ a → (b : Bool) → key_test.same p.0 q.0 ≡ b
        → cond a b false ≡ true → p ≡ q
    go {p} {q} true e true f h = λ i. (key_test.same_true p.0 q.0 f i, sym (alike_true q.1 p.1 e) i)
    go true e false f h = cc
    go false e b f h = cc

-- ---- any terms that have a degree in n, a key and a coefficient
module _ {K A : Type 0} (F : Field K) (char : IsChar0 F) (R : CommRing A) (φ : Hom F.ring R)
    (bs : List ℕ) (c : Coprime bs) {W : Type 0} (deg : W → ℕ) (key : W → Key) (coef : W → A) where
  abbrev pub place_of : W → Place
  place_of t = (key t, deg t)

  gathered-is : (x : Key) (a : ℕ) (ts : List W) → gathered R place_test place_of coef (x, a) ts
      ≡ coefficient_of F char R φ bs c deg key coef x a ts
  unfolding place_test
  gathered-is x a ts =
      sum_alike R (λ t. cond (cond (alike (deg t) a) (key_test.same x (key t)) false) (coef t)
      R.zero)
      (λ t. cond (alike (deg t) a) (cond (key_test.same x (key t)) (coef t) R.zero) R.zero) ts
      (λ t. cond_both (alike (deg t) a) (key_test.same x (key t)) (coef t) R.zero)

  -- h is put for the monomials in n, s, u and v, as their values at a negative n
  pub same_everywhere : (ts us : List W) → Each (λ t. IsNormalKey bs (key t)) ts
      → Each (λ t. IsNormalKey bs (key t)) us
      → ((n : ℕ) → sum_at F char R φ bs c deg key coef ts n ≡ sum_at F char R φ bs c deg key coef us
      n) → (h : Place → A)
      → sum_over (operations R) (λ t. R.mul (h (place_of t)) (coef t)) ts ≡ sum_over (operations R)
      (λ t. R.mul (h (place_of t)) (coef t)) us
  same_everywhere ts us g k e h =
      same_sums R place_test place_of coef ts us
      (each_map (map place_of ts ++ map place_of us) (λ p gp. gathered-is p.0 p.1 ts
      ∙ same_coefficients F char R φ bs c deg key coef ts us g k e p.0 gp p.1
      ∙ sym (gathered-is p.0 p.1 us))
      (each-append (λ (p : Place). IsNormalKey bs p.0) (map place_of ts) (map place_of us)
      (each-map (λ (p : Place). IsNormalKey bs p.0) place_of ts g)
      (each-map (λ (p : Place). IsNormalKey bs p.0) place_of us k))) h
