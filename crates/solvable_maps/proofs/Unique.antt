-- Polynomials in n, s, u, v and variables, taken as polynomials in the variables at each n: an ideal that has all of these has each coefficient,
-- and polynomials without s s and u v that have the same values everywhere are the same.
--   value_in p n         the value at n as a polynomial in the variables; value_in-is: its value at a state
--   part_is              the sum of the terms with the same n, s, u and v is the polynomial of their part
--   part_in              each part is in an ideal that has the value at each n
--   same_parts, form_one    the same values: the same parts, the same polynomials
use Rattle.std.proofs.Common.{◌≡◌, ◌≢◌, ◌⊎◌, inl, inr, ℕ, zero, suc, ◌+◌, ◌<◌, List, [], ◌∷◌, ◌++◌, map, length, take, drop, cond, Bool, true, false, refl, sym, ap, ap₂, subst, ◌∙◌, arith, take-append-drop}
use mathlib.Core.Path.{fun_ext}
use Rattle.polynomials.proofs.Orders.{split_equal}
use Rattle.exponentials.specs.Base.{Coprime, Disjoint, SameLength}
use Rattle.exponentials.specs.Keys.{Key, IsNormalKey, top, rest, key_of}
use Rattle.algebra.specs.Arithmetic.{power}
use Rattle.algebra.specs.Each.{Each}
use Rattle.algebra.specs.Ring.{CommRing, Field, Hom, operations, of_nat}
use Rattle.algebra.specs.Sum.{sum_over}
use Rattle.algebra.proofs.RingLaws as L
use Rattle.algebra.proofs.Homs.{id_hom, then_hom, to-neg, to-power}
use Rattle.algebra.proofs.Basics.{equal_or_not}
use Rattle.algebra.proofs.Lists.{length-front, length-back}
use Rattle.std.proofs.lemmas.List.{map-append}
use Rattle.std.proofs.lemmas.Simd.{map-map}
use Rattle.polynomials.proofs.ByValues.{poly_by_values}
use Rattle.polynomials.specs.Exponent.{same, exponents, unit_exponents}
use Rattle.polynomials.specs.Terms.{Terms, Same, coefficient, monomial_at, variables, value_at}
use Rattle.polynomials.specs.Polynomial.{Arity}
use Rattle.polynomials.proofs.Exponent.{same_cases, same_refl, same_true}
use Rattle.polynomials.proofs.Algebra.{gather, gather_values, to-gather, coefficient-nil, coefficient-cons, single, single_true, single_false}
use Rattle.polynomials.proofs.AlgebraRing as AR
use Rattle.polynomials.proofs.Arity.{AllLong, unit_exponents_long, weighted-units}
use Rattle.polynomials.proofs.Composition.{monomial-terms}
use Rattle.polynomials.proofs.Value.{to-monomial}
use Rattle.polynomials.proofs.ValueAt.{value_at-gather, value_at-variables}
use Rattle.polynomials.proofs.Poly.{Poly, poly, poly_ring, monomials, monomials_monoid, powers_at, same_from_poly, arity_none, poly-nil, poly-cons, poly_term, poly-term, poly_constant, constant-times, poly_evaluate, poly_evaluate-list, poly_value_at}
use Rattle.exponentials.specs.Table.{alike}
use Rattle.exponentials.proofs.Terms.{alike_true, alike_refl}
use Rattle.exponentials.proofs.Monomial.{to-nat}
use Rattle.exponentials.proofs.Expo.{IsChar0, key_test, of_nat_same}
use Rattle.exponentials.proofs.Flat.{IsIdeal}
use Rattle.exponentials.proofs.Law as Law
use Rattle.exponentials.proofs.Law.{GoodBody, same_bodies, independence_law}
use Rattle.solvable_maps.specs.Expo.{front, tail, part}
use Rattle.solvable_maps.specs.Iterations.{width}
use Rattle.solvable_maps.proofs.Values.{natural}

module _ {A : Type 0} (F : Field A) (char : IsChar0 F) where
  naturals_apart : (i j : ℕ) → i ≢ j → F.add (of_nat F.ring i) (F.neg (of_nat F.ring j)) ≢ F.zero
  naturals_apart i j ne e =
      ne (of_nat_same F char i j (L.eq_of_sub F.ring (of_nat F.ring i) (of_nat F.ring j) e))

map_alike : {X Y : Type 0} (f g : X → Y) → ((x : X) → f x ≡ g x) → (xs : List X)
    → map f xs ≡ map g xs
map_alike f g h [] = refl
map_alike f g h (x ∷ xs) = ap₂ ◌∷◌ (h x) (map_alike f g h xs)

-- ---- good exponents are decided
fits_dec : (bs e : List ℕ) → Dec (SameLength bs e)
fits_dec [] [] = yes tt
fits_dec [] (n ∷ e) = no (λ h. h)
fits_dec (b ∷ bs) [] = no (λ h. h)
fits_dec (b ∷ bs) (n ∷ e) = fits_dec bs e

zero_dec : (n : ℕ) → Dec (n ≡ 0)
zero_dec zero = yes refl
zero_dec (suc n) = no (λ e. absurd (omega arith))

disjoint_dec : (d e : List ℕ) → Dec (Disjoint d e)
disjoint_dec [] e = yes tt
disjoint_dec (m ∷ d) [] = yes tt
disjoint_dec (m ∷ d) (n ∷ e) =
    elim (disjoint_dec d e) [
      | no ne ↦ no (λ h. ne h.1)
      | yes h ↦ elim (zero_dec m) [
        | yes z ↦ yes (inl z, h)
        | no nm ↦ elim (zero_dec n) [
          | yes z ↦ yes (inr z, h)
          | no nn
              ↦ no (λ k. elim k.0 [ inl z ↦ nm z | inr z ↦ nn z ])
        ]
      ]
    ]

small_dec : (n : ℕ) → Dec (n < 2)
small_dec zero = yes (omega arith)
small_dec (suc zero) = yes (omega arith)
small_dec (suc (suc n)) = no (λ h. absurd (omega arith))

pub good_dec : (bs : List ℕ) (x : Key) → Dec (IsNormalKey bs x)
good_dec bs x =
    elim (small_dec x.0) [
      | no a ↦ no (λ h. a h.0)
      | yes a ↦ elim (fits_dec bs x.1) [
        | no b ↦ no (λ h. b h.1)
        | yes b ↦ elim (fits_dec bs x.2) [
          | no d ↦ no (λ h. d h.2)
          | yes d ↦ elim (disjoint_dec x.1 x.2) [
            | no e ↦ no (λ h. e h.3)
            | yes e
                ↦ yes (a, b, d, e)
          ]
        ]
      ]
    ]

-- ---- exponents and their parts
rest-length : (e : List ℕ) (k : ℕ) → length e ≡ suc k → length (rest e) ≡ k
rest-length [] k l = absurd (omega arith)
rest-length (x ∷ e) k l = omega arith

module _ (r m : ℕ) where
  tail-length : (e : List ℕ) → length e ≡ width r m → length (tail r e) ≡ m
  tail-length e l = length-back r m (drop r (rest (rest e))) (length-back r (r + m) (rest (rest e))
      (rest-length (rest e) (r + (r + m)) (rest-length e (suc (r + (r + m))) l)))

  -- exponents with the same front have the same n, s, u and v
  front_out : (d e : List ℕ) → length d ≡ width r m → length e ≡ width r m → front r d ≡ front r e
      → (top d ≡ top e) × (key_of r d ≡ key_of r e)
  front_out d e l k h =
      let ld : length (rest (rest d)) ≡ r + (r + m) = rest-length (rest d) (r + (r + m))
      (rest-length d (suc (r + (r + m))) l) in
      let le : length (rest (rest e)) ≡ r + (r + m) = rest-length (rest e) (r + (r + m))
      (rest-length e (suc (r + (r + m))) k) in
      let tops : top d ≡ top e = cc in
      let signs : top (rest d) ≡ top (rest e) = cc in
      let others : take r (rest (rest d)) ++ (take r (drop r (rest (rest d))) ++ [])
      ≡ take r (rest (rest e)) ++ (take r (drop r (rest (rest e))) ++ []) = cc in
      let us = split_equal _ _ _ _ (length-front r (r + m) (rest (rest d)) ld
      ∙ sym (length-front r (r + m) (rest (rest e)) le)) others in
      let vs = split_equal _ _ _ _ (length-front r m (drop r (rest (rest d)))
      (length-back r (r + m) (rest (rest d)) ld)
      ∙ sym (length-front r m (drop r (rest (rest e))) (length-back r (r + m) (rest (rest e))
      le))) us.1 in
      (tops, (λ i. (signs i, us.0 i, vs.0 i)))

  front_in : (d e : List ℕ) → top d ≡ top e → key_of r d ≡ key_of r e → front r d ≡ front r e
  front_in d e a b = λ i. a i ∷ (b i).0 ∷ ((b i).1 ++ ((b i).2 ++ []))

  -- and with the same variables are one
  parts_same : (d e : List ℕ) → length d ≡ width r m → length e ≡ width r m → top d ≡ top e
      → key_of r d ≡ key_of r e → tail r d ≡ tail r e → d ≡ e
  parts_same [] e l k a b t = absurd (omega arith)
  parts_same (x ∷ []) e l k a b t = absurd (omega arith)
  parts_same (x ∷ y ∷ d) [] l k a b t = absurd (omega arith)
  parts_same (x ∷ y ∷ d) (z ∷ []) l k a b t = absurd (omega arith)
  parts_same (x ∷ y ∷ d) (x' ∷ y' ∷ e) l k a b t =
      ap₂ ◌∷◌ a (ap₂ ◌∷◌ (ap (λ (z : Key). z.0) b)
      (sym (take-append-drop r d)
      ∙ ap₂ ◌++◌ (ap (λ (z : Key). z.1) b) (sym (take-append-drop r (drop r d))
      ∙ ap₂ ◌++◌ (ap (λ (z : Key). z.2) b) t ∙ take-append-drop r (drop r e))
      ∙ take-append-drop r e))

  -- the two tests of the front agree
  tests_agree : (d e : List ℕ) → length d ≡ width r m → length e ≡ width r m
      → {B : Type 0} (x y : B)
      → cond (alike (top e) (top d)) (cond (key_test.same (key_of r d) (key_of r e)) x y) y
      ≡ cond (same (front r d) (front r e)) x y
  tests_agree d e l k x y = go (alike (top e) (top d)) refl
      (key_test.same (key_of r d) (key_of r e)) refl (same (front r d) (front r e)) refl
    where
      go : (a : Bool) → alike (top e) (top d) ≡ a → (b : Bool)
          → key_test.same (key_of r d) (key_of r e) ≡ b → (c : Bool) → same (front r d) (front r e)
          ≡ c → cond a (cond b x y) y ≡ cond c x y
      go true p true q true s = refl
      go true p true q false s = absurd (let f : false ≡ true = sym s
          ∙ ap (λ z. same (front r d) z)
          (sym (front_in d e (sym (alike_true (top e) (top d) p)) (key_test.same_true (key_of r d)
          (key_of r e) q))) ∙ same_refl (front r d) in cc)
      go true p false q true s =
          absurd (let h = front_out d e l k (same_true (front r d) (front r e) s) in
          let f : false ≡ true = sym q ∙ ap (key_test.same (key_of r d)) (sym h.1)
          ∙ key_test.same_refl (key_of r d) in cc)
      go true p false q false s = refl
      go false p b q true s =
          absurd (let h = front_out d e l k (same_true (front r d) (front r e) s) in
          let f : false ≡ true = sym p ∙ ap (alike (top e)) h.0 ∙ alike_refl (top e) in cc)
      go false p b q false s = refl

module _ {A : Type 0} (F : Field A) (char : IsChar0 F) (bs : List ℕ) (c : Coprime bs) (m : ℕ) where
  abbrev R : CommRing A
  R = F.ring

  abbrev r : ℕ
  r = length bs

  abbrev w : ℕ
  w = width r m

  abbrev Q : CommRing (Poly m R)
  Q = poly_ring m R

  abbrev φ : Hom F.ring Q
  φ = poly_constant m R

  abbrev pub vars : List (Poly m R)
  vars = map (λ e. poly_term m R e R.one) (unit_exponents m)

  -- the value at n as a polynomial in the variables
  abbrev pub value_in : Terms A → ℕ → Poly m R
  value_in p n = Law.body_at F Q φ bs vars p n

  abbrev h : (s : List A) → Hom Q R
  h s = poly_evaluate m (id_hom R) s

  constant_value : (s : List A) (a : A) → (h s).to (φ.to a) ≡ a
  constant_value s a = AR.evaluation-constant (monomials m) (monomials_monoid m) (id_hom R) _
      (powers_at m (id_hom R) s) a

  vars_values : (s : List A) → length s ≡ m → map (h s).to vars ≡ s
  unfolding Each variables
  vars_values s l = each (unit_exponents m) (unit_exponents_long m) ∙ value_at-variables R m s l
    where
      one : (e : List ℕ) → length e ≡ m → (h s).to (poly_term m R e R.one) ≡ value_at (operations R)
          ((e, R.one) ∷ []) s
      one e k = ap (h s).to (sym (poly-term m R e R.one))
          ∙ poly_evaluate-list m (id_hom R) s ((e, R.one) ∷ []) (k, tt)
          ∙ sym (value_at-gather R ((e, R.one) ∷ []) s)

      each : (us : List (List ℕ)) → AllLong m us
          → map (h s).to (map (λ e. poly_term m R e R.one) us)
          ≡ map (λ q. value_at (operations R) q s) (map (λ e. (e, R.one) ∷ []) us)
      each [] a = refl
      each (u ∷ us) a = ap₂ ◌∷◌ (one u a.0) (each us a.1)

  pub value_in-is : (p : Terms A) (n : ℕ) (s : List A) → length s ≡ m
      → poly_value_at m R (value_in p n) s ≡ value_at (operations R) p (natural F bs n s)
  unfolding gather
  value_in-is p n s k =
      to-gather φ (h s) (monomial_at (operations Q) (Law.point F Q φ bs vars n)) p
      ∙ gather_values (then_hom φ (h s)) (id_hom R) (constant_value s)
      (λ e. (h s).to (monomial_at (operations Q) (Law.point F Q φ bs vars n) e)) p
      ∙ ap (λ f. gather (id_hom R) f p) (fun_ext (λ e. to-monomial (h s) (Law.point F Q φ bs vars n)
      e ∙ ap (λ l. monomial_at (operations R) l e) points))
      ∙ sym (value_at-gather R p (natural F bs n s))
    where
      block : (f : ℕ → A) (l : List (Poly m R)) (l' : List A) → map (h s).to l ≡ l'
          → map (h s).to (map (λ b. power (operations Q) (φ.to (f b)) n) bs ++ l)
          ≡ map (λ b. power (operations R) (f b) n) bs ++ l'
      block f l l' e =
          map-append (h s).to (map (λ b. power (operations Q) (φ.to (f b)) n) bs) l
          ∙ ap₂ ◌++◌ (map-map (h s).to (λ b. power (operations Q) (φ.to (f b)) n) bs
          ∙ map_alike _ (λ b. power (operations R) (f b) n)
          (λ b. to-power (h s) (φ.to (f b)) n
          ∙ ap (λ z. power (operations R) z n) (constant_value s (f b))) bs) e

      points : map (h s).to (Law.point F Q φ bs vars n) ≡ natural F bs n s
      points =
          ap₂ ◌∷◌ (to-nat (h s) n)
          (ap₂ ◌∷◌ (to-power (h s) (Q.neg Q.one) n
          ∙ ap (λ z. power (operations R) z n) (to-neg (h s) Q.one ∙ ap R.neg (h s).to-one))
          (block (of_nat R) (map (λ b. power (operations Q) (φ.to (F.inverse (of_nat R b))) n) bs
          ++ vars) (map (λ b. power (operations R) (F.inverse (of_nat R b)) n) bs ++ s)
          (block (λ b. F.inverse (of_nat R b)) vars s (vars_values s k))))

  -- ---- the part at exponents of n, s, u and v
  own-is : (t : List ℕ × A) → length t.0 ≡ w → Law.own F Q φ bs vars t ≡ poly_term m R (tail r t.0)
      t.1
  own-is t l =
      ap (Q.mul (φ.to t.1)) (monomial-terms m R (unit_exponents m) (tail r t.0)
      ∙ ap (λ e. poly_term m R e R.one) (weighted-units m (tail r t.0)
      (tail-length r m t.0 l)))
      ∙ constant-times m R (tail r t.0) t.1

  pub part_arity : (e : List ℕ) (p : Terms A) → Arity w p → Arity m (part r e p)
  unfolding part Each
  part_arity e [] a = tt
  part_arity e (t ∷ p) a = go (same (front r e) (front r t.0)) (part_arity e p a.1)
    where
      go : (b : Bool) → Arity m (part r e p)
          → Arity m (cond b ((tail r t.0, t.1) ∷ part r e p) (part r e p))
      go true q = (tail-length r m t.0 a.0, q)
      go false q = q

  pub part_is : (e : List ℕ) → length e ≡ w → (p : Terms A) → Arity w p
      → Law.coefficient_at F Q φ bs vars (key_of r e) (top e) p ≡ poly m R (part r e p)
  unfolding part Each sum_over
  part_is e k [] a = sym (poly-nil m R)
  part_is e k (t ∷ p) a =
      ap₂ Q.add (tests_agree r m e t.0 k a.0 (Law.own F Q φ bs vars t) Q.zero) (part_is e k p a.1)
      ∙ go (same (front r e) (front r t.0))
    where
      go : (b : Bool) → Q.add (cond b (Law.own F Q φ bs vars t) Q.zero) (poly m R (part r e p))
          ≡ poly m R (cond b ((tail r t.0, t.1) ∷ part r e p) (part r e p))
      go true = ap (λ z. Q.add z (poly m R (part r e p))) (own-is t a.0)
          ∙ sym (poly-cons m R (tail r t.0, t.1) (part r e p))
      go false = L.zero-add Q (poly m R (part r e p))

  -- at exponents that no normal polynomial has there is nothing
  part_none : (e : List ℕ) → length e ≡ w → (p : Terms A) → Arity w p → GoodBody bs p
      → (IsNormalKey bs (key_of r e) → ⊥) → part r e p ≡ []
  unfolding part Each
  part_none e k [] a g n = refl
  part_none e k (t ∷ p) a g n = go (same (front r e) (front r t.0)) refl (part_none e k p a.1 g.1 n)
    where
      go : (b : Bool) → same (front r e) (front r t.0) ≡ b → part r e p ≡ []
          → cond b ((tail r t.0, t.1) ∷ part r e p) (part r e p) ≡ []
      go true s ih =
          absurd (n
          (subst (IsNormalKey bs)
          (sym ((front_out r m e t.0 k a.0 (same_true (front r e) (front r t.0) s)).1)) g.0))
      go false s ih = ih

  -- ---- each part is in an ideal that has the value at each n
  pub part_in : (S : Poly m R → Type 0) → IsIdeal Q S → (p : Terms A) → Arity w p → GoodBody bs p
      → ((n : ℕ) → S (value_in p n)) → (e : List ℕ) → length e ≡ w → S (poly m R (part r e p))
  part_in S I p a g q e k =
      elim (good_dec bs (key_of r e)) [
        | yes good ↦ subst S (part_is e k p a) (independence_law F char Q φ bs c vars S I p g q
            (key_of r e) good (top e))
        | no bad ↦ subst S (sym (ap (poly m R) (part_none e k p a g bad) ∙ poly-nil m R)) I.zero_in
      ]

  -- ---- the same values
  same_parts : (p q : Terms A) → Arity w p → Arity w q → GoodBody bs p → GoodBody bs q
      → ((n : ℕ) (s : List A) → length s ≡ m → value_at (operations R) p (natural F bs n s)
      ≡ value_at (operations R) q (natural F bs n s))
      → (e : List ℕ) → length e ≡ w → Same (operations R) (part r e p) (part r e q)
  same_parts p q a b g h' v e k =
      elim (good_dec bs (key_of r e)) [
        | yes good ↦ same_from_poly m R (part r e p) (part r e q) (part_arity e p a)
            (part_arity e q b)
            (sym (part_is e k p a)
            ∙ same_bodies F char Q φ bs c vars p q g h' (λ n. poly_by_values F (of_nat F.ring)
            (naturals_apart F char) m (value_in p n) (value_in q n) (λ s l.
            value_in-is p n s l ∙ v n s l ∙ sym (value_in-is q n s l))) (key_of r e) good
            (top e)
            ∙ part_is e k q b)
        | no bad ↦ subst (λ z. Same (operations R) z (part r e q)) (sym (part_none e k p a g bad))
            (subst (λ z. Same (operations R) [] z) (sym (part_none e k q b h' bad))
            (record { at = λ d. refl }))
      ]

  -- a coefficient is that of its part
  coefficient-part : (e : List ℕ) → length e ≡ w → (p : Terms A) → Arity w p
      → coefficient (operations R) p e ≡ coefficient (operations R) (part r e p) (tail r e)
  unfolding part Each
  coefficient-part e k [] a = coefficient-nil exponents R e
      ∙ sym (coefficient-nil exponents R (tail r e))
  coefficient-part e k (t ∷ p) a = coefficient-cons exponents R t p e
      ∙ ap (R.add (R.mul t.1 (single exponents R e t.0))) (coefficient-part e k p a.1)
      ∙ go (same (front r e) (front r t.0)) refl
    where
      none : (e ≡ t.0 → ⊥) → R.mul t.1 (single exponents R e t.0) ≡ R.zero
      none ne = elim (same_cases e t.0) [
        | inl q ↦ absurd (ne q)
        | inr f
            ↦ ap (R.mul t.1) (single_false exponents R e t.0 f) ∙ L.mul-zero R t.1
      ]

      single_tail : same (front r e) (front r t.0) ≡ true → single exponents R e t.0
          ≡ single exponents R (tail r e) (tail r t.0)
      single_tail s = elim (same_cases (tail r e) (tail r t.0)) [
        | inl x ↦
            let f = front_out r m e t.0 k a.0 (same_true (front r e) (front r t.0) s) in
            let q : e ≡ t.0 = parts_same r m e t.0 k a.0 f.0 f.1 x in
            single_true exponents R e t.0 (ap (λ d. same e d) (sym q) ∙ same_refl e)
            ∙ sym (single_true exponents R (tail r e) (tail r t.0)
            (ap (λ d. same (tail r e) d) (sym x) ∙ same_refl (tail r e)))
        | inr f ↦ elim (same_cases e t.0) [
          | inl q ↦ absurd (let g : false ≡ true = sym f ∙ ap (λ d. same (tail r d) (tail r t.0)) q
              ∙ same_refl (tail r t.0) in cc)
          | inr g ↦ single_false exponents R e t.0 g
              ∙ sym (single_false exponents R (tail r e) (tail r t.0) f)
        ]
      ]

      go : (b : Bool) → same (front r e) (front r t.0) ≡ b
          → R.add (R.mul t.1 (single exponents R e t.0)) (coefficient (operations R) (part r e p)
          (tail r e))
          ≡ coefficient (operations R) (cond b ((tail r t.0, t.1) ∷ part r e p) (part r e p))
          (tail r e)
      go true s = ap (λ z. R.add (R.mul t.1 z) (coefficient (operations R) (part r e p) (tail r e)))
          (single_tail s)
          ∙ sym (coefficient-cons exponents R (tail r t.0, t.1) (part r e p) (tail r e))
      go false s = ap (λ z. R.add z (coefficient (operations R) (part r e p) (tail r e)))
          (none (λ q. let f : false ≡ true = sym s ∙ ap (λ d. same (front r d) (front r t.0)) q
          ∙ same_refl (front r t.0) in cc))
          ∙ L.zero-add R (coefficient (operations R) (part r e p) (tail r e))

  pub form_one : (p q : Terms A) → Arity w p → Arity w q → GoodBody bs p → GoodBody bs q
      → ((n : ℕ) (s : List A) → length s ≡ m → value_at (operations R) p (natural F bs n s)
      ≡ value_at (operations R) q (natural F bs n s)) → Same (operations R) p q
  form_one p q a b g h' v = record { at = λ e. go e (equal_or_not (length e) w) }
    where
      go : (e : List ℕ) → (length e ≡ w) ⊎ (length e ≡ w → ⊥) → coefficient (operations R) p e
          ≡ coefficient (operations R) q e
      go e (inl k) = coefficient-part e k p a ∙ (same_parts p q a b g h' v e k).at (tail r e)
          ∙ sym (coefficient-part e k q b)
      go e (inr n) = arity_none w R p a e n ∙ sym (arity_none w R q b e n)
