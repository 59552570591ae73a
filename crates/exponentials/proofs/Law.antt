-- Independence, of a body that is one list of terms in n, u, v and the variables.
--   Term K              a number of the field, and exponents of n, of s, of each u, of each v and of the variables; degree_of t: the exponent of n
--   point n             the point: n, s, u and v at n, and the variables; body_at ts n: the value of a body there
--   own t               the part of a term in the variables; coefficient_at x a ts: the coefficient at the key x and the power a of n, made of these
--   GoodBody bs ts      the key of each term is normal
--   independence_law    where all values of a body lie in an ideal, each of its coefficients does
--   same_bodies         bodies with the same values have the same coefficients
use Rattle.std.proofs.lemmas.List.{length-map}
use Rattle.std.proofs.Common.{cond, ◌≡◌, ℕ, List, ◌∷◌, ◌++◌, map, length, take, drop, sym, ap₂, ◌∙◌}
use Rattle.algebra.specs.Each.{Each}
use Rattle.exponentials.specs.Base.{Coprime}
use Rattle.algebra.specs.Arithmetic.{power}
use Rattle.algebra.specs.Ring.{Hom, CommRing, Field, operations, of_nat}
use Rattle.algebra.specs.Sum.{sum_over}
use Rattle.exponentials.proofs.Lists.{sum_alike}
use Rattle.exponentials.proofs.Flat.{IsIdeal}
use Rattle.exponentials.proofs.Flat as Flat
use Rattle.exponentials.specs.Table.{alike}
use Rattle.polynomials.specs.Terms.{monomial_at}
use Rattle.exponentials.specs.Keys.{Key, IsNormalKey, top, rest, key_of}
use Rattle.exponentials.proofs.Expo.{IsChar0, key_test, value, coefficient_in}
use Rattle.exponentials.proofs.Points.{term-value}
use Rattle.exponentials.proofs.Unique.{zero_ideal, same_coefficients}

-- a number of the field, and exponents of n, of s, of each u, of each v and of the variables
abbrev pub Term : Type 0 → Type 0
Term K = List ℕ × K

abbrev pub degree_of : {K : Type 0} → Term K → ℕ
degree_of t = top t.0

-- what the statements speak of
module _ {K A : Type 0} (F : Field K) (R : CommRing A) (φ : Hom F.ring R) (bs : List ℕ)
    (xs : List A) where
  -- n, s, u and v at n, and the variables
  abbrev pub point : ℕ → List A
  point n =
      of_nat R n ∷ power (operations R) (R.neg R.one) n
      ∷ (map (λ b. power (operations R) (φ.to (of_nat F.ring b)) n) bs
      ++ (map (λ b. power (operations R) (φ.to (F.inverse (of_nat F.ring b))) n) bs ++ xs))

  -- the value of a body
  abbrev pub body_at : List (Term K) → ℕ → A
  body_at ts n = sum_over (operations R)
      (λ t. R.mul (φ.to t.1) (monomial_at (operations R) (point n) t.0)) ts

  -- the part of a term in the variables
  abbrev pub own : Term K → A
  own t = R.mul (φ.to t.1) (monomial_at (operations R) xs
      (drop (length bs) (drop (length bs) (rest (rest t.0)))))

  -- its coefficient at u, v and a power of n: a polynomial in the variables
  abbrev pub coefficient_at : Key → ℕ → List (Term K) → A
  coefficient_at x a ts = sum_over (operations R)
      (λ t. cond (alike (degree_of t) a) (cond (key_test.same x (key_of (length bs) t.0)) (own t)
      R.zero) R.zero) ts

-- each term has exponents of the base, not both at one place
abbrev pub GoodBody : {K : Type 0} → List ℕ → List (Term K) → Type 0
GoodBody bs ts = Each (λ t. IsNormalKey bs (key_of (length bs) t.0)) ts

module _ {K A : Type 0} (F : Field K) (char : IsChar0 F) (R : CommRing A) (φ : Hom F.ring R)
    (bs : List ℕ) (c : Coprime bs) (xs : List A) where
  module _ (S : A → Type 0) (I : IsIdeal R S) where
    at_point : (n : ℕ) (t : Term K)
        → R.mul (φ.to t.1) (monomial_at (operations R) (point F R φ bs xs n) t.0) ≡ value F char R φ
        S I bs c degree_of (λ t. key_of (length bs) t.0) (own F R φ bs xs) n t
    at_point n t =
        let us = map (λ b. power (operations R) (φ.to (of_nat F.ring b)) n) bs in
        let vs = map (λ b. power (operations R) (φ.to (F.inverse (of_nat F.ring b))) n) bs in
        let e = rest (rest t.0) in
        let l : length us ≡ length bs =
        length-map bs (λ b. power (operations R) (φ.to (of_nat F.ring b)) n) in
        let m : length vs ≡ length bs =
        length-map bs (λ b. power (operations R) (φ.to (F.inverse (of_nat F.ring b))) n) in
        term-value R (φ.to t.1) (of_nat R n) (power (operations R) (R.neg R.one) n) us vs xs t.0
        ∙ ap₂ (λ i j. R.mul (R.mul (φ.to t.1) (monomial_at (operations R) xs (drop j (drop i e))))
        (R.mul (power (operations R) (of_nat R n) (top t.0))
        (R.mul (power (operations R) (power (operations R) (R.neg R.one) n)
        (top (rest t.0))) (R.mul (monomial_at (operations R) us (take i e))
        (monomial_at (operations R) vs (take j (drop i e))))))) l m

    pub independence_law : (ts : List (Term K)) → GoodBody bs ts
        → ((n : ℕ) → S (body_at F R φ bs xs ts n)) → (x : Key) → IsNormalKey bs x → (a : ℕ)
        → S (coefficient_at F R φ bs xs x a ts)
    independence_law ts g h x gx a =
        coefficient_in F char R φ S I bs c degree_of (λ t. key_of (length bs) t.0) (own F R φ bs xs)
        ts g
        (λ n. Flat.moved R S I
        (sum_alike R (λ t. R.mul (φ.to t.1) (monomial_at (operations R) (point F R φ bs xs n)
        t.0)) (value F char R φ S I bs c degree_of (λ t. key_of (length bs) t.0)
        (own F R φ bs xs) n) ts (at_point n)) (h n)) x gx a

  -- two bodies with the same values have the same coefficients
  pub same_bodies : (ts us : List (Term K)) → GoodBody bs ts → GoodBody bs us
      → ((n : ℕ) → body_at F R φ bs xs ts n ≡ body_at F R φ bs xs us n)
      → (x : Key) → IsNormalKey bs x → (a : ℕ) → coefficient_at F R φ bs xs x a ts ≡ coefficient_at
      F R φ bs xs x a us
  same_bodies ts us g h e x gx a =
      same_coefficients F char R φ bs c degree_of (λ t. key_of (length bs) t.0) (own F R φ bs xs) ts
      us g h
      (λ n. sym (values ts n) ∙ e n ∙ values us n) x gx a
    where
      values : (ts : List (Term K)) (n : ℕ) → body_at F R φ bs xs ts n ≡ sum_over (operations R)
          (value F char R φ (λ z. z ≡ R.zero) (zero_ideal R) bs c degree_of
          (λ t. key_of (length bs) t.0) (own F R φ bs xs) n) ts
      values ts n = sum_alike R _ _ ts (at_point (λ z. z ≡ R.zero) (zero_ideal R) n)
