-- The points of a base are independent: what is a member of an ideal at each of them is one of that ideal padded and the relations.
--   points_are_independent      the theorem
--   arity_relations             the relations of a base are polynomials in the variables and what stands in front of them
--   points_of_base              the points of a base have as many numbers as stand in front of the variables
use Rattle.std.proofs.Common.{◌≡◌, ℕ, zero, suc, ◌+◌, ◌<◌, ◌⊎◌, inl, inr, List, [], ◌∷◌, ◌++◌, map, get_or, take, drop, length, arith, refl, sym, ap, ap₂, subst, ◌∙◌, take-append-drop, length-take, length-drop, append_assoc}
use Rattle.std.proofs.lemmas.List.{length-map, length-append, map-append, drop-drop, get_or-take, get_or-drop}
use Rattle.std.proofs.Math.ListN.{get_or-map}
use Rattle.std.specs.List.{AllZip}
use Rattle.algebra.specs.Arithmetic.{power}
use Rattle.algebra.specs.Each.{Each}
use Rattle.algebra.specs.Ring.{CommRing, Hom, operations, of_nat}
use Rattle.algebra.proofs.Each.{each-append}
use Rattle.algebra.proofs.Homs.{to-neg, to-power}
use Rattle.algebra.proofs.Lists.{length-back}
use Rattle.algebra.specs.Fraction.{Fraction, ℚ}
use Rattle.algebra.proofs.Fractions.{ℚ_ring, ℚ_field, ℚ_zero_test}
use Rattle.polynomials.specs.Terms.{Terms, Same, constant, variables, compose, evaluate}
use Rattle.polynomials.specs.Polynomial.{Arity, AllArity}
use Rattle.polynomials.proofs.Arity.{arity-append, arity-times, arity-negate, arity-constant, arity-constants, arity-variables, arity-compose}
use Rattle.polynomials.proofs.Composition.{poly-compose, same_compose-variables}
use Rattle.polynomials.proofs.Poly.{Poly, poly, poly_ring, poly_same, poly-append, poly-times, poly-negate, poly_constant, poly-constant, poly_evaluate-list}
use Rattle.polynomials.proofs.Value.{evaluate-gather}
use Rattle.polynomials.proofs.ValueAt.{value_at-compose, values_at-constants}
use Rattle.exponentials.specs.Base.{Coprime}
use Rattle.exponentials.proofs.Monomial.{to-nat}
use Rattle.exponentials.proofs.Unique.{fraction_char0}
use Rattle.exponentials.proofs.Units as Units
use Rattle.exponentials.proofs.Units.{HasRoom, room_long, value_of}
use Rattle.solvable_maps.proofs.Numbers.{point-is}
use Rattle.ideals.specs.Ideal.{InIdeal, IsCongruent}
use Rattle.ideals.specs.Members.{IsMember}
use Rattle.ideals.proofs.Ideal.{in_ideal_same, in_ideal_head, in_ideal_tail, in_ideal_append_left, in_ideal_append_right}
use Rattle.ideals.proofs.Members.{member_in, member_out}
use Rattle.machines.specs.Elimination.{in_front}
use Rattle.loops.proofs.Maps.{length-variables}
use Rattle.polynomials.proofs.Arity.{arity_at}
use Rattle.rounds.specs.Orbit.{IsPoints, at_point, IsIndependent}
use Rattle.rounds.specs.Form.{front, point_of, variable_at, relation, relations_to, relations}
use Rattle.ideals.proofs.FractionMembers.{member_same}
use Rattle.polynomials.proofs.ByValues.{same_by_values}
use Rattle.machines.proofs.Padding.{at, arity-padded, inner, inner-is, inner_arity, inner_at, member_in_front}
use Rattle.rounds.proofs.Orbit.{value_at_point, arity-at_point}
use Rattle.rounds.proofs.Units.{member_at_units}

zip_by : {X : Type 0} (Q : X → X → Type 0) (us vs : List X) (d : X) → length us ≡ length vs
    → ((j : ℕ) → j < length us → Q (get_or us j d) (get_or vs j d)) → AllZip Q us vs
zip_by Q [] [] d l h = tt
zip_by Q [] (v ∷ vs) d l h = absurd (omega arith)
zip_by Q (u ∷ us) [] d l h = absurd (omega arith)
zip_by Q (u ∷ us) (v ∷ vs) d l h =
    (h 0 (omega arith), zip_by Q us vs d (omega arith) (λ j k. h (suc j) (omega arith)))

-- a list of the variables in front and others
module _ {X : Type 0} (r m : ℕ) (l : List X) (d : X) (long : length l ≡ front r + m) where
  us_in : List X
  us_in = take r (drop 2 l)

  vs_in : List X
  vs_in = take r (drop r (drop 2 l))

  shape : l ≡ get_or l 0 d ∷ get_or l 1 d ∷ (us_in ++ (vs_in ++ drop (front r) l))
  unfolding us_in vs_in
  shape = go l long
    where
      go : (l : List X) → length l ≡ front r + m → l ≡ get_or l 0 d ∷ get_or l 1 d
          ∷ (take r (drop 2 l) ++ (take r (drop r (drop 2 l)) ++ drop (front r) l))
      go [] h = absurd (omega arith)
      go (x ∷ []) h = absurd (omega arith)
      go (x ∷ y ∷ z) h = ap (λ q. x ∷ y ∷ q) (sym (take-append-drop r z)
          ∙ ap (λ q. take r z ++ q) (sym (take-append-drop r (drop r z))
          ∙ ap (λ q. take r (drop r z) ++ q) (drop-drop r r z)))

  length-us : length us_in ≡ r
  unfolding us_in
  length-us = length-take r (drop 2 l) ∙ (let e = length-drop 2 l in grind (arith, e, long))

  length-vs : length vs_in ≡ r
  unfolding vs_in
  length-vs = length-take r (drop r (drop 2 l))
      ∙ (let e = length-drop 2 l in let f = length-drop r (drop 2 l) in grind (arith, e, f, long))

  us-at : (j : ℕ) → j < r → get_or us_in j d ≡ get_or l (suc (suc j)) d
  unfolding us_in
  us-at j h = get_or-take r (drop 2 l) j d h ∙ get_or-drop 2 l j d
      ∙ (let e : 2 + j ≡ suc (suc j) = omega arith in ap (λ n. get_or l n d) e)

  vs-at : (j : ℕ) → j < r → get_or vs_in j d ≡ get_or l (suc (suc (r + j))) d
  unfolding vs_in
  vs-at j h = get_or-take r (drop r (drop 2 l)) j d h ∙ get_or-drop r (drop 2 l) j d
      ∙ get_or-drop 2 l (r + j) d ∙ (let e : 2 + (r + j) ≡ suc (suc (r + j)) = omega arith in
      ap (λ n. get_or l n d) e)

-- ---- the relations
module _ (w : ℕ) where
  abbrev P : CommRing (Poly w ℚ_ring)
  P = poly_ring w ℚ_ring

  abbrev of : Terms Fraction → Poly w ℚ_ring
  of p = poly w ℚ_ring p

  poly-relation : (i j : ℕ)
      → of (relation w i j) ≡ P.add (P.mul (of (variable_at w i)) (of (variable_at w j)))
      (P.neg P.one)
  unfolding relation
  poly-relation i j = poly-append w ℚ_ring _ _
      ∙ ap₂ P.add (poly-times w ℚ_ring (variable_at w i) (variable_at w j))
      (poly-negate w ℚ_ring (constant w ℚ.one) ∙ ap P.neg (poly-constant w ℚ_ring w ℚ.one
      ∙ (poly_constant w ℚ_ring).to-one))

  in_relations : (r n j : ℕ) → j < n → InIdeal P (map of (relations_to r w n))
      (of (relation w (suc (suc j)) (suc (suc (r + j)))))
  unfolding relations_to
  in_relations r zero j h = absurd (omega arith)
  in_relations r (suc n) j h =
      subst (λ l. InIdeal P l (of (relation w (suc (suc j)) (suc (suc (r + j))))))
      (sym (map-append of (relations_to r w n) (relation w (suc (suc n)) (suc (suc (r + n))) ∷ [])))
      (go (grind arith) (λ k. in_relations r n j k))
    where
      go : (j < n) ⊎ (j ≡ n)
          → (j < n → InIdeal P (map of (relations_to r w n))
          (of (relation w (suc (suc j)) (suc (suc (r + j))))))
          → InIdeal P (map of (relations_to r w n) ++ of
          (relation w (suc (suc n)) (suc (suc (r + n)))) ∷ [])
          (of (relation w (suc (suc j)) (suc (suc (r + j)))))
      go (inl k) f = in_ideal_append_left P (map of (relations_to r w n)) _ (f k)
      go (inr e) f = in_ideal_append_right P (map of (relations_to r w n)) _
          (in_ideal_same P (ap (λ i. of (relation w (suc (suc i)) (suc (suc (r + i))))) e)
          (in_ideal_head P))

  arity_relation : (i j : ℕ) → Arity w (relation w i j)
  unfolding relation
  arity_relation i j = arity-append w _ _ (arity-times w ℚ (variable_at w i) (variable_at w j)
      (arity_at w (variables ℚ w) (arity-variables w ℚ) i)
      (arity_at w (variables ℚ w) (arity-variables w ℚ) j)) (arity-negate w ℚ (constant w ℚ.one)
      (arity-constant w ℚ.one))

  arity_relations_to : (r n : ℕ) → AllArity w (relations_to r w n)
  unfolding relations_to Each
  arity_relations_to r zero = tt
  arity_relations_to r (suc n) = each-append (Arity w) (relations_to r w n) _
      (arity_relations_to r n) (arity_relation _ _, tt)

pub arity_relations : (r m : ℕ) → AllArity (front r + m) (relations r m)
unfolding Each
arity_relations r m = (arity_relation (front r + m) 1 1, arity_relations_to (front r + m) r r)

module _ (bs : List ℕ) (c : Coprime bs) (m : ℕ) where
  abbrev r : ℕ
  r = length bs

  abbrev w : ℕ
  w = front (length bs) + m

  abbrev Q : CommRing (Poly w ℚ_ring)
  Q = poly_ring w ℚ_ring

  abbrev φ : Hom ℚ_ring Q
  φ = poly_constant w ℚ_ring

  V : List (Poly w ℚ_ring)
  V = map (of w) (variables ℚ w)

  xs : List (Poly w ℚ_ring)
  xs = map (of w) (inner (front r) m)

  length-V : length V ≡ front r + m
  unfolding V
  length-V = length-map (variables ℚ w) (of w) ∙ length-variables w

  V-at : (i : ℕ) → get_or V i (of w []) ≡ of w (variable_at w i)
  unfolding V
  V-at i = get_or-map (of w) (variables ℚ w) i []

  drop-V : drop (front r) V ≡ xs
  unfolding V xs
  drop-V = sym (map-dropped (front r) (variables ℚ w))
      ∙ ap (map (of w)) (sym (inner-is (front r) m))
    where
      map-dropped : (k : ℕ) (l : List (Terms Fraction))
          → map (of w) (drop k l) ≡ drop k (map (of w) l)
      map-dropped zero l = refl
      map-dropped (suc k) [] = refl
      map-dropped (suc k) (x ∷ l) = map-dropped k l

  -- ---- values of lists of terms
  abbrev value : Terms Fraction → List (Poly w ℚ_ring) → Poly w ℚ_ring
  value e s = value_of ℚ_field fraction_char0 Q φ bs c xs e s

  value-is : (e : Terms Fraction) (images : List (Terms Fraction)) → Arity w e
      → of w (compose ℚ w e images) ≡ value e (map (of w) images)
  unfolding evaluate
  value-is e images a = poly-compose ℚ_ring w w e images a
      ∙ poly_evaluate-list w φ (map (of w) images) e a
      ∙ sym (evaluate-gather φ (map (of w) images) e)

  value-V : (e : Terms Fraction) → Arity w e → of w e ≡ value e V
  unfolding V
  value-V e a = sym (poly_same w ℚ_ring (same_compose-variables ℚ_ring w e a))
      ∙ value-is e (variables ℚ w) a

  -- ---- at a natural n
  powers-are : (f : ℕ → Fraction) (n : ℕ) (cs : List ℕ)
      → map (of w) (map (constant w) (map (λ b. power ℚ (f b) n) cs))
      ≡ map (λ b. power (operations Q) (φ.to (f b)) n) cs
  powers-are f n [] = refl
  powers-are f n (b ∷ cs) = ap₂ ◌∷◌ (poly-constant w ℚ_ring w (power ℚ (f b) n)
      ∙ to-power φ (f b) n) (powers-are f n cs)

  images : ℕ → List (Terms Fraction)
  images n = map (constant w) (point_of bs n) ++ inner (front r) m

  images-are : (n : ℕ) → map (of w) (images n) ≡ Units.natural ℚ_field fraction_char0 Q φ bs c xs n
  unfolding images xs
  images-are n =
      ap (λ l. map (of w) (map (constant w) l ++ inner (front r) m)) (point-is bs n [])
      ∙ ap₂ (λ x y. x ∷ y) (poly-constant w ℚ_ring w (of_nat ℚ_ring n) ∙ to-nat φ n)
      (ap₂ (λ x y. x ∷ y) (poly-constant w ℚ_ring w (power ℚ (ℚ.neg ℚ.one) n)
      ∙ to-power φ (ℚ.neg ℚ.one) n ∙ ap (λ z. power (operations Q) z n) (to-neg φ ℚ.one
      ∙ ap Q.neg φ.to-one))
      (ap (λ z. map (of w) (z ++ inner (front r) m)) (map-append (constant w) ups (downs ++ [])
      ∙ ap (λ z. map (constant w) ups ++ z) (map-append (constant w) downs []))
      ∙ ap (map (of w)) (append_assoc (map (constant w) ups) (map (constant w) downs ++ [])
      (inner (front r) m)
      ∙ ap (λ z. map (constant w) ups ++ z) (append_assoc (map (constant w) downs) []
      (inner (front r) m)))
      ∙ map-append (of w) (map (constant w) ups) (map (constant w) downs ++ inner (front r) m)
      ∙ ap₂ ◌++◌ (powers-are (of_nat ℚ_ring) n bs) (map-append (of w) (map (constant w) downs)
      (inner (front r) m) ∙ ap (λ z. z ++ map (of w) (inner (front r) m))
      (powers-are (λ b. ℚ_field.inverse (of_nat ℚ_ring b)) n bs))))
    where
      ups : List Fraction
      ups = map (λ b. power ℚ (of_nat ℚ_ring b) n) bs

      downs : List Fraction
      downs = map (λ b. power ℚ (ℚ_field.inverse (of_nat ℚ_ring b)) n) bs

  has_room : (ts : Terms Fraction) → Arity w ts → HasRoom bs ts
  unfolding Each
  has_room [] a = tt
  has_room (t ∷ ts) a = (
    room_long bs t (let l : length t.0 ≡ w = a.0 in omega (arith, l)),
    has_room ts a.1,
  )

  -- ---- the theorem
  images_arity : (n : ℕ) → AllArity w (images n)
  unfolding images
  images_arity n = each-append (Arity w) (map (constant w) (point_of bs n)) (inner (front r) m)
      (arity-constants w (point_of bs n)) (inner_arity (front r) m)

  images_at : (n : ℕ) (s : List Fraction) → length s ≡ w → map (λ q. at q s) (images n)
      ≡ point_of bs n ++ drop (front r) s
  unfolding images
  images_at n s l = map-append (λ q. at q s) (map (constant w) (point_of bs n)) (inner (front r) m)
      ∙ ap₂ ◌++◌ (values_at-constants ℚ_ring w (point_of bs n) s) (inner_at (front r) m s l)

  module _ (points : IsPoints (front (length bs)) (point_of bs)) (gs : List (Terms Fraction))
      (ga : AllArity m gs) (e : Terms Fraction) (a : Arity (front (length bs) + m) e)
      (h : (n : ℕ) → IsMember ℚ m gs (at_point (front (length bs)) m (point_of bs) n e)) where
    abbrev padded : List (Terms Fraction)
    padded = map (in_front (front r)) gs

    G : List (Poly w ℚ_ring)
    G = map (of w) (padded ++ relations r m)

    G-is : G ≡ map (of w) padded ++ map (of w) (relations r m)
    unfolding G
    G-is = map-append (of w) padded (relations r m)

    same_images : (n : ℕ)
        → Same ℚ (compose ℚ w e (images n)) (compose ℚ w (at_point (front r) m (point_of bs) n e)
        (inner (front r) m))
    same_images n = same_by_values w _ _ (arity-compose w ℚ e (images n) (images_arity n))
        (arity-compose w ℚ _ (inner (front r) m) (inner_arity (front r) m))
        (λ s l.
        value_at-compose ℚ_ring w e (images n) s ∙ ap (at e) (images_at n s l)
        ∙ sym (value_at-compose ℚ_ring w (at_point (front r) m (point_of bs) n e)
        (inner (front r) m) s ∙ ap (at (at_point (front r) m (point_of bs) n e))
        (inner_at (front r) m s l)
        ∙ value_at_point (front r) m (point_of bs) points n e (drop (front r) s)
        (length-back (front r) m s l)))

    at_natural : (n : ℕ)
        → InIdeal Q G (value e (Units.natural ℚ_field fraction_char0 Q φ bs c xs n))
    at_natural n =
        subst (λ l. InIdeal Q l (value e (Units.natural ℚ_field fraction_char0 Q φ bs c xs n)))
        (sym G-is) (in_ideal_append_left Q (map (of w) padded) (map (of w) (relations r m))
        (in_ideal_same Q (sym (value-is e (images n) a ∙ ap (value e) (images-are n)))
        (member_in w ℚ_ring padded (compose ℚ w e (images n))
        (member_same w padded _ _ (same_images n) (member_in_front (front r) m gs _ ga
        (arity-at_point (front r) m (point_of bs) points n e) (h n))))))

    -- the relations
    near : (i j : ℕ) → InIdeal Q (map (of w) (relations r m)) (of w (relation w i j))
        → IsCongruent Q G (Q.mul (get_or V i (of w [])) (get_or V j (of w []))) Q.one
    near i j k = record {
      difference =
          subst (λ l. InIdeal Q l (Q.add (Q.mul (get_or V i (of w [])) (get_or V j (of w [])))
          (Q.neg Q.one))) (sym G-is) (in_ideal_append_right Q (map (of w) padded)
          (map (of w) (relations r m))
          (in_ideal_same Q (ap (λ x. Q.add x (Q.neg Q.one)) (ap₂ Q.mul (V-at i) (V-at j))
          ∙ sym (poly-relation w i j)) k));
    }

    square : IsCongruent Q G (Q.mul (get_or V 1 (of w [])) (get_or V 1 (of w []))) Q.one
    square = near 1 1 (in_ideal_head Q)

    abbrev us : List (Poly w ℚ_ring)
    us = us_in r m V (of w []) length-V

    abbrev vs : List (Poly w ℚ_ring)
    vs = vs_in r m V (of w []) length-V

    lu : length us ≡ length bs
    lu = length-us r m V (of w []) length-V

    lv : length vs ≡ length bs
    lv = length-vs r m V (of w []) length-V

    inverse : AllZip (λ u v. IsCongruent Q G (Q.mul u v) Q.one) us vs
    inverse = zip_by (λ u v. IsCongruent Q G (Q.mul u v) Q.one) us vs (of w []) (lu ∙ sym lv)
        (λ j l. one j (subst (λ n. j < n) lu l))
      where
        one : (j : ℕ) → j < length bs
            → IsCongruent Q G (Q.mul (get_or us j (of w [])) (get_or vs j (of w []))) Q.one
        one j l = subst (λ x. IsCongruent Q G x Q.one)
            (ap₂ Q.mul (sym (us-at r m V (of w []) length-V j l))
            (sym (vs-at r m V (of w []) length-V j l)))
            (near (suc (suc j)) (suc (suc (length bs + j)))
            (in_ideal_tail Q (in_relations w (length bs) (length bs) j l)))

    all_member : IsMember ℚ w (padded ++ relations r m) e
    unfolding G
    all_member = member_out w ℚ_ring ℚ_zero_test (padded ++ relations r m) e
        (each-append (Arity w) padded (relations r m) (arity-padded (front r) m gs ga)
        (arity_relations r m)) a
        (in_ideal_same Q (value-V e a ∙ ap (value e) (shape r m V (of w []) length-V
        ∙ ap (λ z. get_or V 0 (of w []) ∷ get_or V 1 (of w []) ∷ (us ++ (vs ++ z)))
        drop-V))
        (member_at_units ℚ_field fraction_char0 Q φ bs c xs G e (has_room e a) at_natural
        (get_or V 0 (of w [])) (get_or V 1 (of w [])) us vs square inverse lu lv))

length-points : (bs : List ℕ) (n : ℕ) → length (point_of bs n) ≡ front (length bs)
length-points bs n = ap (λ k. suc (suc k)) (length-append (map _ bs) (map _ bs ++ [])
    ∙ ap₂ ◌+◌ (length-map bs _) (length-append (map _ bs) [] ∙ ap (λ k. k + 0) (length-map bs _))
    ∙ omega arith)

pub points_of_base : (bs : List ℕ) → IsPoints (front (length bs)) (point_of bs)
points_of_base bs = record { size = length-points bs }

pub points_are_independent : (bs : List ℕ) → Coprime bs → (m : ℕ)
    → IsIndependent (front (length bs)) m (point_of bs) (relations (length bs) m)
points_are_independent bs c m = record {
  member = λ gs ga e a h.
      all_member bs c m (points_of_base bs) gs ga e a h;
}
