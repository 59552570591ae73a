-- The points of a base are independent from any n on: what is a member of an ideal at each later point is one at each point.
--   members_from           from some n on, and so at each n
--   points_from_are_independent
--   back-append            the numbers of a point at -n stand before its variables
use Rattle.std.proofs.Common.{◌≡◌, ℕ, zero, suc, ◌+◌, pos, drop, List, [], ◌∷◌, ◌++◌, map, length, arith, sym, ap, ap₂, subst, ◌∙◌, All, append_assoc}
use Rattle.std.proofs.lemmas.List.{map-append, drop_at, length-append, length-map}
use Rattle.std.proofs.lemmas.List.Elements.{All-head, All-tail}
use Rattle.algebra.specs.Each.{Each}
use Rattle.algebra.specs.Sum.{sum_over}
use Rattle.algebra.proofs.Each.{each-append}
use Rattle.exponentials.specs.Base.{Coprime}
use Rattle.algebra.specs.Fraction.{Fraction, ℚ, whole, opposite}
use Rattle.algebra.proofs.Fractions.{ℚ_ring, ℚ_field}
use Rattle.polynomials.specs.Terms.{Terms, Same, constant, variables, compose, evaluate}
use Rattle.polynomials.specs.Polynomial.{Arity, AllArity}
use Rattle.polynomials.proofs.Arity.{arity-compose, arity-constants, arity-variables}
use Rattle.polynomials.proofs.ByValues.{same_by_values}
use Rattle.polynomials.proofs.Same.{Same-sym}
use Rattle.polynomials.proofs.ValueAt.{value_at-compose, values_at-constants, value_at-variables}
use Rattle.solvable_maps.specs.Iterations.{back_point, powers, inverses, sign, width}
use Rattle.solvable_maps.specs.Expo.{next_images}
use Rattle.solvable_maps.proofs.Operations.{point-append, next-value}
use Rattle.solvable_maps.proofs.Back as Back
use Rattle.ideals.specs.Members.{IsMember}
use Rattle.ideals.proofs.FractionMembers.{member_same, member_nil, member_turned}
use Rattle.machines.specs.Elimination.{in_front}
use Rattle.machines.proofs.Padding.{at, arity-padded, in_front_at}
use Rattle.rounds.specs.Form.{front, point_of, relations}
use Rattle.rounds.specs.Orbit.{IsPoints, at_point, Padded, IsIndependent}
use Rattle.rounds.proofs.Independent.{points_of_base, points_are_independent, arity_relations}
use Rattle.rounds.proofs.Orbit.{value_at_point, arity-at_point}
use Rattle.rounds.proofs.Relations.{zero_at_back_points}
use Rattle.exponentials.proofs.Unique.{fraction_char0}
use Rattle.solvable_maps.proofs.OneForm.{next_images-is, next_back_value, back_point_zero}
use Rattle.rounds.proofs.Graph.{each_place, members_each}

module _ (bs : List ℕ) (c : Coprime bs) (m : ℕ) where
  abbrev r : ℕ
  r = length bs

  abbrev k : ℕ
  k = front (length bs)

  abbrev w : ℕ
  w = front (length bs) + m

  width-is : width r m ≡ w
  width-is = omega arith

  -- ---- one more for n
  next : Terms Fraction → Terms Fraction
  next e = compose ℚ (width r m) e (next_images bs m)

  next-arity : (e : Terms Fraction) → Arity w (next e)
  unfolding next
  next-arity e = subst (λ n. Arity n (compose ℚ (width r m) e (next_images bs m))) width-is
      (arity-compose (width r m) ℚ e (next_images bs m) images_long)
    where
      images_long : AllArity (width r m) (next_images bs m)
      images_long = subst (AllArity (width r m)) (sym (next_images-is bs c m))
          (Back.arity_next ℚ_field fraction_char0 bs c m)

  next_point : (n : ℕ) (e : Terms Fraction) → Same ℚ (at_point k m (point_of bs) n (next e))
      (at_point k m (point_of bs) (suc n) e)
  unfolding next
  next_point n e = same_by_values m _ _ (arity-at_point k m (point_of bs) (points_of_base bs) n
      (next e)) (arity-at_point k m (point_of bs) (points_of_base bs) (suc n) e)
      (λ s l.
      value_at_point k m (point_of bs) (points_of_base bs) n (next e) s l
      ∙ ap (at (next e)) (point-append bs n s)
      ∙ next-value bs c m e n s l
      ∙ sym (value_at_point k m (point_of bs) (points_of_base bs) (suc n) e s l
      ∙ ap (at e) (point-append bs (suc n) s)))

  -- ---- the point of -1
  back_images : List (Terms Fraction)
  back_images = map (constant m) (back_point bs 1 []) ++ variables ℚ m

  back_images_arity : AllArity m back_images
  unfolding back_images
  back_images_arity = each-append (Arity m) (map (constant m) (back_point bs 1 [])) (variables ℚ m)
      (arity-constants m (back_point bs 1 [])) (arity-variables m ℚ)

  pub back-append : (n : ℕ) (s : List Fraction) → back_point bs n [] ++ s ≡ back_point bs n s
  back-append n s = ap (λ z. opposite (whole (pos n)) ∷ sign n ∷ z) (append_assoc (inverses bs n)
      (powers bs n ++ []) s ∙ ap (λ z. inverses bs n ++ z) (append_assoc (powers bs n) [] s))

  back_images_at : (s : List Fraction) → length s ≡ m → map (λ q. at q s) back_images
      ≡ back_point bs 1 s
  unfolding back_images
  back_images_at s l = map-append (λ q. at q s) (map (constant m) (back_point bs 1 []))
      (variables ℚ m) ∙ ap₂ ◌++◌ (values_at-constants ℚ_ring m (back_point bs 1 []) s)
      (value_at-variables ℚ_ring m s l) ∙ back-append 1 s

  back-length : (s : List Fraction) → length s ≡ m → length (back_point bs 1 s) ≡ w
  back-length s l = ap (λ x. suc (suc x)) (length-append (inverses bs 1) (powers bs 1 ++ s)
      ∙ ap₂ ◌+◌ (length-map bs _) (length-append (powers bs 1) s ∙ ap₂ ◌+◌ (length-map bs _) l))
      ∙ omega arith

  back-drop : (s : List Fraction) → drop k (back_point bs 1 s) ≡ s
  back-drop s = ap (drop (r + r)) (sym (append_assoc (inverses bs 1) (powers bs 1) s))
      ∙ drop_at (inverses bs 1 ++ powers bs 1) s (r + r) (length-append (inverses bs 1)
      (powers bs 1) ∙ ap₂ ◌+◌ (length-map bs _) (length-map bs _))

  module _ (gs : List (Terms Fraction)) (ga : AllArity m gs) where
    there : (e : Terms Fraction) (g : Terms Fraction) → Arity m g
        → ((s : List Fraction) → length s ≡ m → at e (back_point bs 1 s) ≡ at g s)
        → Same ℚ (compose ℚ m e back_images) g
    there e g a h = same_by_values m _ g (arity-compose m ℚ e back_images back_images_arity) a
        (λ s l. value_at-compose ℚ_ring m e back_images s ∙ ap (at e) (back_images_at s l) ∙ h s l)

    padded_there : (xs : List (Terms Fraction)) → AllArity m xs → Each (IsMember ℚ m gs) xs
        → Each (λ e. IsMember ℚ m gs (compose ℚ m e back_images)) (map (in_front k) xs)
    unfolding Each
    padded_there [] a h = tt
    padded_there (x ∷ xs) a h = (
      member_same m gs x _ (there (in_front k x) x a.0 (λ s l. in_front_at k m x (back_point bs 1 s)
          (back-length s l) ∙ ap (at x) (back-drop s))) h.0,
      padded_there xs a.1 h.1,
    )

    relations_there : (xs : List (Terms Fraction)) → ((s : List Fraction) → length s ≡ m
        → All (λ q. at q (back_point bs 1 s) ≡ ℚ.zero) xs)
        → Each (λ e. IsMember ℚ m gs (compose ℚ m e back_images)) xs
    unfolding Each evaluate sum_over
    relations_there [] h = tt
    relations_there (x ∷ xs) h = (
      member_same m gs [] _ (there x [] tt (λ s l. All-head (λ q. at q (back_point bs 1 s) ≡ ℚ.zero)
          x xs (h s l))) (member_nil m gs),
      relations_there xs (λ s l. All-tail (λ q. at q (back_point bs 1 s) ≡ ℚ.zero) x xs (h s l)),
    )

    held_before_the_first : (e : Terms Fraction) → Arity w e
        → ((n : ℕ) → IsMember ℚ m gs (at_point k m (point_of bs) n (next e)))
        → IsMember ℚ m gs (at_point k m (point_of bs) 0 e)
    unfolding next
    held_before_the_first e a h =
        let padded : IsMember ℚ w (Padded k m gs (relations r m)) (next e) =
        (points_are_independent bs c m).member gs ga (next e) (next-arity e) h in
        let moved : IsMember ℚ m gs (compose ℚ m (next e) back_images) =
        member_turned w m (Padded k m gs (relations r m)) gs back_images (next e)
        (each-append (Arity w) (map (in_front k) gs) (relations r m) (arity-padded k m gs ga)
        (arity_relations r m)) ga back_images_arity (next-arity e)
        (each_place (λ x. IsMember ℚ m gs (compose ℚ m x back_images))
        (Padded k m gs (relations r m))
        (each-append _ (map (in_front k) gs) (relations r m)
        (padded_there gs ga (members_each m gs ga)) (relations_there (relations r m) (λ s l.
        zero_at_back_points bs c m 1 s l)))) padded in
        member_same m gs _ _
        (Same-sym ℚ (there (next e) (at_point k m (point_of bs) 0 e)
        (arity-at_point k m (point_of bs) (points_of_base bs) 0 e)
        (λ s l.
        next_back_value bs c m e 0 s l ∙ ap (at e) (back_point_zero bs c m s)
        ∙ sym (value_at_point k m (point_of bs) (points_of_base bs) 0 e s l
        ∙ ap (at e) (point-append bs 0 s))))) moved

    one_less : (e : Terms Fraction) → Arity w e
        → ((n : ℕ) → IsMember ℚ m gs (at_point k m (point_of bs) n (next e))) → (n : ℕ)
        → IsMember ℚ m gs (at_point k m (point_of bs) n e)
    one_less e a h zero = held_before_the_first e a h
    one_less e a h (suc n) = member_same m gs _ _ (Same-sym ℚ (next_point n e)) (h n)

    pub members_from : (d : ℕ) (e : Terms Fraction) → Arity (front (length bs) + m) e
        → ((n : ℕ) → IsMember ℚ m gs (at_point (front (length bs)) m (point_of bs) (d + n) e))
        → (n : ℕ) → IsMember ℚ m gs (at_point (front (length bs)) m (point_of bs) n e)
    members_from zero e a h n = let q : 0 + n ≡ n = omega arith in
        subst (λ i. IsMember ℚ m gs (at_point k m (point_of bs) i e)) q (h n)
    members_from (suc d) e a h n = one_less e a
        (members_from d (next e) (next-arity e) (λ j. let q : suc d + j ≡ suc (d + j) =
        omega arith in member_same m gs _ _ (next_point (d + j) e)
        (subst (λ i. IsMember ℚ m gs (at_point k m (point_of bs) i e)) q (h j)))) n

  pub points_from_are_independent : (d : ℕ) → IsIndependent (front (length bs)) m
      (λ n. point_of bs (d + n)) (relations (length bs) m)
  points_from_are_independent d = record {
    member = λ gs ga e a h. (points_are_independent bs c m).member gs ga e a
        (members_from gs ga d e a h);
  }

pub points_from : (bs : List ℕ) (d : ℕ) → IsPoints (front (length bs)) (λ n. point_of bs (d + n))
points_from bs d = record { size = λ n. (points_of_base bs).size (d + n) }
