-- Polynomials in n, s, u, v and variables, modulo an ideal: what is a member at each natural n is one wherever s s and u v are one modulo the ideal.
--   normal_congruent      the value of a term there is that of its normal exponents
--   member_at_units       the theorem
use Rattle.std.proofs.Common.{◌≡◌, ℕ, zero, suc, List, [], ◌∷◌, ◌++◌, map, length, take, drop, refl, sym, ap, ap₂, ◌∙◌}
use Rattle.std.specs.List.{AllZip}
use Rattle.algebra.specs.Arithmetic.{power}
use Rattle.algebra.specs.Each.{Each}
use Rattle.algebra.specs.Sum.{sum_over}
use Rattle.algebra.specs.Ring.{CommRing, Field, Hom, operations, of_nat}
use Rattle.algebra.proofs.RingLaws as L
use Rattle.algebra.proofs.Sums.{sum-nil, sum-cons}
use Rattle.polynomials.specs.Exponent.{plus}
use Rattle.polynomials.specs.Terms.{monomial_at}
use Rattle.exponentials.specs.Base.{Coprime, SameLength}
use Rattle.exponentials.specs.Keys.{Key, IsNormalKey, top, rest, excess, parity, normal_key}
use Rattle.exponentials.proofs.PowerProducts.{lower, lower_comm, lower-left}
use Rattle.exponentials.proofs.Monomial.{power-mul, power-one}
use Rattle.exponentials.proofs.Points.{term-value}
use Rattle.polynomials.proofs.Value.{monomial-plus}
use Rattle.exponentials.proofs.Flat.{IsIdeal, moved}
use Rattle.exponentials.specs.Table.{alike}
use Rattle.algebra.proofs.Each.{each-map}
use Rattle.algebra.proofs.In.{each_from, each_in, map-in}
use Rattle.algebra.proofs.Basics.{cond_both}
use Rattle.exponentials.proofs.Lists.{each_map, sum_same, sum_alike, once, once-distinct, once-in, once-out}
use Rattle.exponentials.proofs.Expo.{IsChar0, key_test, coefficient, coefficient_in, value}
use Rattle.exponentials.proofs.Everywhere.{Place, place_test, gathered, regrouped}
use Rattle.exponentials.proofs.Law.{Term, degree_of}
use Rattle.exponentials.proofs.Units.{Room, HasRoom, us_of, vs_of, part, normal_good, normal_term, natural, natural_unit, value_of}
use Rattle.ideals.specs.Ideal.{InIdeal, IsCongruent}
use Rattle.ideals.proofs.Ideal.{in_ideal_same, in_ideal_zero, in_ideal_add, in_ideal_mul}
use Rattle.ideals.proofs.Congruence.{congruent_refl, congruent_same, congruent_add, congruent_mul, congruent_power, congruent_member}

module _ {A : Type 0} (R : CommRing A) (gs : List A) where
  open R use {zero as 𝟘, one as 𝟙, add as ◌⊕◌, mul as ◌⊗◌, neg}

  infixl 60 ◌⊕◌
  infixl 70 ◌⊗◌
  abbrev mon : List A → List ℕ → A
  mon xs e = monomial_at (operations R) xs e

  abbrev Near : A → A → Type 0
  Near x y = IsCongruent R gs x y

  pub ideal_of : IsIdeal R (InIdeal R gs)
  ideal_of = record {
    zero_in = in_ideal_zero R;
    add_in = λ a b i j. in_ideal_add R i j;
    mul_in = λ k a i. in_ideal_mul R k i;
  }

  parity_congruent : (e : A) → Near (e ⊗ e) 𝟙 → (n : ℕ)
      → Near (power (operations R) e n) (power (operations R) e (parity n))
  unfolding power
  parity_congruent e h zero = congruent_refl R gs 𝟙
  parity_congruent e h (suc zero) = congruent_refl R gs (e ⊗ 𝟙)
  parity_congruent e h (suc (suc n)) =
      congruent_same R gs (sym (R.mul_assoc e e (power (operations R) e n)))
      (sym (L.one-mul R (power (operations R) e (parity n))))
      (congruent_mul R gs (e ⊗ e) 𝟙 (power (operations R) e n) (power (operations R) e (parity n)) h
      (parity_congruent e h n))

  inverse_congruent : (us vs : List A) → AllZip (λ u v. Near (u ⊗ v) 𝟙) us vs → (e : List ℕ)
      → Near (mon us e ⊗ mon vs e) 𝟙
  unfolding monomial_at
  inverse_congruent [] [] h e = congruent_same R gs (L.one-mul R 𝟙) refl (congruent_refl R gs 𝟙)
  inverse_congruent [] (v ∷ vs) h e = absurd h
  inverse_congruent (u ∷ us) [] h e = absurd h
  inverse_congruent (u ∷ us) (v ∷ vs) h [] = congruent_same R gs (L.one-mul R 𝟙) refl
      (congruent_refl R gs 𝟙)
  inverse_congruent (u ∷ us) (v ∷ vs) h (n ∷ e) = congruent_same R gs
      (L.mul_swap R (power (operations R) u n) (mon us e) (power (operations R) v n) (mon vs e)
      ∙ ap (λ z. z ⊗ (mon us e ⊗ mon vs e)) (sym (power-mul R u v n)))
      (sym (L.one-mul R 𝟙) ∙ ap (λ z. z ⊗ 𝟙) (sym (power-one R n)))
      (congruent_mul R gs (power (operations R) (u ⊗ v) n) (power (operations R) 𝟙 n)
      (mon us e ⊗ mon vs e) 𝟙 (congruent_power R gs (u ⊗ v) 𝟙 n h.0)
      (inverse_congruent us vs h.1 e))

  common_congruent : (us vs : List A) → AllZip (λ u v. Near (u ⊗ v) 𝟙) us vs → (bs d e : List ℕ)
      → SameLength bs d → SameLength bs e
      → Near (mon us d ⊗ mon vs e) (mon us (excess d e) ⊗ mon vs (excess e d))
  common_congruent us vs h bs d e p q =
      let k = lower d e in
      congruent_same R gs
      (ap₂ ◌⊗◌ (ap (mon us) (sym (lower-left bs d e p q)) ∙ monomial-plus R us k (excess d e))
      (ap (mon vs) (sym (lower-left bs e d q p)
      ∙ ap (λ z. plus z (excess e d)) (lower_comm e d)) ∙ monomial-plus R vs k (excess e d))
      ∙ L.mul_swap R (mon us k) (mon us (excess d e)) (mon vs k) (mon vs (excess e d)))
      (sym (L.one-mul R (mon us (excess d e) ⊗ mon vs (excess e d))))
      (congruent_mul R gs (mon us k ⊗ mon vs k) 𝟙 _ _ (inverse_congruent us vs h k)
      (congruent_refl R gs (mon us (excess d e) ⊗ mon vs (excess e d))))

  -- the value of a monomial in n, s, u and v
  abbrev place_of_lists : A → A → List A → List A → Place → A
  place_of_lists a e us vs p = power (operations R) a p.1 ⊗ (power (operations R) e p.0.0 ⊗
      (mon us p.0.1 ⊗ mon vs p.0.2))

  pub normal_congruent : {K : Type 0} (a e : A) (us vs xs : List A) → Near (e ⊗ e) 𝟙
      → AllZip (λ u v. Near (u ⊗ v) 𝟙) us vs → (bs : List ℕ) → length us ≡ length bs
      → length vs ≡ length bs
      → (c : A) (t : Term K) → Room bs t → Near (c ⊗ mon (a ∷ e ∷ (us ++ (vs ++ xs))) t.0)
      (part R bs xs c t.0 ⊗ place_of_lists a e us vs (normal_key (length bs) t.0, degree_of t))
  normal_congruent a e us vs xs square inverse bs lu lv c t room =
      let d = rest (rest t.0) in
      congruent_same R gs
      (term-value R c a e us vs xs t.0
      ∙ ap₂ (λ i j. (c ⊗ mon xs (drop j (drop i d))) ⊗ (power (operations R) a (top t.0) ⊗
      (power (operations R) e (top (rest t.0)) ⊗
      (mon us (take i d) ⊗ mon vs (take j (drop i d)))))) lu lv)
      refl
      (congruent_mul R gs _ _ _ _ (congruent_refl R gs (part R bs xs c t.0))
      (congruent_mul R gs _ _ _ _ (congruent_refl R gs (power (operations R) a (top t.0)))
      (congruent_mul R gs _ _ _ _ (parity_congruent e square (top (rest t.0)))
      (common_congruent us vs inverse bs (us_of (length bs) t) (vs_of (length bs) t) room.0
      room.1))))

  -- ---- sums
  sum_congruent : {X : Type 0} (f g : X → A) (xs : List X) → Each (λ x. Near (f x) (g x)) xs
      → Near (sum_over (operations R) f xs) (sum_over (operations R) g xs)
  unfolding Each
  sum_congruent f g [] h = congruent_same R gs (sum-nil R f) (sum-nil R g) (congruent_refl R gs 𝟘)
  sum_congruent f g (x ∷ xs) h = congruent_same R gs (sum-cons R f x xs) (sum-cons R g x xs)
      (congruent_add R gs _ _ _ _ h.0 (sum_congruent f g xs h.1))

  sum_in : {X : Type 0} (f : X → A) (xs : List X) → Each (λ x. InIdeal R gs (f x)) xs
      → InIdeal R gs (sum_over (operations R) f xs)
  unfolding Each
  sum_in f [] h = in_ideal_same R (sum-nil R f) (in_ideal_zero R)
  sum_in f (x ∷ xs) h = in_ideal_same R (sum-cons R f x xs) (in_ideal_add R h.0 (sum_in f xs h.1))

module _ {K A : Type 0} (F : Field K) (char : IsChar0 F) (R : CommRing A) (φ : Hom F.ring R)
    (bs : List ℕ) (c : Coprime bs) (xs gs : List A) where
  abbrev own : Term K → A
  own t = part R bs xs (φ.to t.1) t.0

  abbrev key : Term K → Key
  key t = normal_key (length bs) t.0

  abbrev place : Term K → Place
  place t = (key t, degree_of t)

  abbrev S : A → Type 0
  S = InIdeal R gs

  coefficient_is : (x : Key) (a : ℕ) (ts : List (Term K)) → gathered R place_test place own (x, a)
      ts ≡ coefficient F char R φ S (ideal_of R gs) bs c degree_of key own x a ts
  unfolding place_test
  coefficient_is x a ts =
      sum_alike R _ _ ts (λ t. cond_both (alike (degree_of t) a) (key_test.same x (key t)) (own t)
      R.zero)

  -- what is put for the monomials in n, s, u and v is free
  within_everywhere : (ts : List (Term K)) → HasRoom bs ts
      → ((n : ℕ) → S (value_of F char R φ bs c xs ts (natural F char R φ bs c xs n)))
      → (h : Place → A)
      → S (sum_over (operations R) (λ t. R.mul (h (place t)) (own t)) ts)
  within_everywhere ts room at h =
      let all = map place ts in
      let us = once place_test all in
      let goods : Each (λ (p : Place). IsNormalKey bs p.0) all =
      each-map (λ (p : Place). IsNormalKey bs p.0) place ts
      (each_map ts (λ t q. normal_good bs t q) room) in
      moved R S (ideal_of R gs)
      (regrouped R place_test place own h us (once-distinct place_test all) ts
      (each_from ts (λ t j. once-in place_test all (place t) (map-in place ts t j))))
      (sum_in R gs (λ x. R.mul (h x) (gathered R place_test place own x ts)) us
      (each_from us (λ x j. in_ideal_mul R (h x) (in_ideal_same R (coefficient_is x.0 x.1 ts)
      (coefficient_in F char R φ S (ideal_of R gs) bs c degree_of key own ts
      (each_map ts (λ t q. normal_good bs t q) room) values x.0
      (each_in (λ (p : Place). IsNormalKey bs p.0) all x goods (once-out place_test all x j))
      x.1)))))
    where
      values : (n : ℕ)
          → S (sum_over (operations R) (value F char R φ S (ideal_of R gs) bs c degree_of key own n)
          ts)
      values n =
          in_ideal_same R
          (sym (sum_same R _ _ ts
          (each_map ts (λ t q. normal_term R bs xs (of_nat R n)
          (power (operations R) (R.neg R.one) n)
          (λ b. power (operations R) (φ.to (of_nat F.ring b)) n)
          (λ b. power (operations R) (φ.to (F.inverse (of_nat F.ring b))) n)
          (natural_unit F char R φ bs c xs n) (φ.to t.1) t q) room))) (at n)

  -- where s s and u v are one modulo the ideal, it is a member
  pub member_at_units : (ts : List (Term K)) → HasRoom bs ts
      → ((n : ℕ) → InIdeal R gs (value_of F char R φ bs c xs ts (natural F char R φ bs c xs n)))
      → (a e : A) (us vs : List A) → IsCongruent R gs (R.mul e e) R.one
      → AllZip (λ u v. IsCongruent R gs (R.mul u v) R.one) us vs → length us ≡ length bs
      → length vs ≡ length bs
      → InIdeal R gs (value_of F char R φ bs c xs ts (a ∷ e ∷ (us ++ (vs ++ xs))))
  member_at_units ts room at a e us vs square inverse lu lv =
      congruent_member R gs _ _
      (sum_congruent R gs _ _ ts
      (each_map ts (λ t q.
      congruent_same R gs refl (R.mul_comm (place_of_lists R gs a e us vs (place t))
      (own t)) (normal_congruent R gs a e us vs xs square inverse bs lu lv (φ.to t.1) t
      q)) room))
      (within_everywhere ts room at (place_of_lists R gs a e us vs))
