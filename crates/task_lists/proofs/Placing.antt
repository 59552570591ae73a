-- Polynomials in the order that eliminates the first variables, one after another.
--   IsLeft, left_next, left_end     what is still to be put, as one goes behind another
--   normal_is, placed_is            an element
--   heavy_composed                  where a composition is too heavy
--   relation_placed                 a relation
use Rattle.std.proofs.Common.{◌≡◌, inl, ℕ, ◌+◌, ◌-◌, ◌≤◌, List, [], ◌∷◌, ◌++◌, map, get_or, length, sym, ap, subst, ◌∙◌, arith, append_assoc}
use Rattle.std.proofs.lemmas.List.{append-nil, map-append}
use Rattle.std.proofs.lemmas.Slice.Zip.{AllZip-long}
use Rattle.algebra.proofs.Lists.{nil_from_length}
use Rattle.algebra.specs.Each.{Each}
use Rattle.algebra.specs.Fraction.{Fraction, ℚ, fractions, fraction_size, rationals}
use Rattle.algebra.specs.Size.{IsPast}
use Rattle.algebra.proofs.Fractions.{ℚ_ring, ℚ_field, fractions_ring}
use Rattle.algebra.proofs.SizeLaws.{fractions_bounded, past_under}
use Rattle.polynomials.specs.Order.{grevlex, blocks}
use Rattle.polynomials.specs.Polynomial.{Arity, AllArity, IsPolynomial}
use Rattle.polynomials.specs.Terms.{Terms, Same, compose}
use Rattle.polynomials.specs.Weight.{weight, IsPastComposition}
use Rattle.polynomials.proofs.Arity.{arity_at}
use Rattle.polynomials.proofs.Orders.{grevlex_order, blocks_order}
use Rattle.polynomials.proofs.Past.{composition_under}
use Rattle.polynomials.proofs.Same.{Same-trans}
use Rattle.polynomials.proofs.Weight.{composition-pos}
use Rattle.machines.specs.Collect.{collect}
use Rattle.machines.proofs.Collecting.{collect-is, collect-same}
use Rattle.poly.specs.Seen.{terms_in, terms_each, Is}
use Rattle.poly.specs.Standing.{StandsFor, AllStandFor}
use Rattle.solvable_maps.specs.Expo.{with_normal_keys}
use Rattle.solvable_maps.specs.Iterations.{width}
use Rattle.solvable_maps.proofs.Lengths.{arity-normalized}
use Rattle.solvable_maps.proofs.Retold.{same_normalized}
use Rattle.rounds.specs.Form.{front, normal, orbit_order, relations}
use Rattle.rounds.proofs.Independent.{arity_relations}
use Rattle.loop_model.specs.FracPoly.{FracPoly}
use Rattle.task_lists.specs.Blocks.{Blocked, in_blocks}
use Rattle.task_lists.proofs.TwoTerms.{block_polynomial}

-- ---- one more
module _ (w : ℕ) (f : Terms Fraction → Terms Fraction) where
  -- what was put, with the f of what the list stands for behind it, is all
  pub record IsLeft (list : List FracPoly) (put : List Blocked) (all : List (Terms Fraction))
      : Type 0 where
    pub left : List (Terms Fraction)
    pub stand : AllStandFor w list left
    pub long : AllArity w left
    pub are : terms_each put ++ map f left ≡ all

  module _ (olds : List Blocked) {news : List Blocked} (b : Blocked) (are : news ≡ olds ++ b ∷ [])
      (p : FracPoly) (element : (q : Terms Fraction) → StandsFor w p q → Arity w q → terms_in b ≡ f
      q) (rest : List FracPoly) (all : List (Terms Fraction)) where
    along : (q : Terms Fraction) (qs : List (Terms Fraction)) → terms_in b ≡ f q
        → terms_each news ++ map f qs ≡ terms_each olds ++ f q ∷ map f qs
    along q qs e =
        ap (λ l. l ++ map f qs) (ap terms_each are
        ∙ map-append (λ (x : Blocked). terms_in x) olds (b ∷ [])
        ∙ ap (λ t. terms_each olds ++ t ∷ []) e)
        ∙ append_assoc (terms_each olds) (f q ∷ []) (map f qs)

    behind : (qs : List (Terms Fraction)) → AllStandFor w (p ∷ rest) qs → AllArity w qs
        → terms_each olds ++ map f qs ≡ all → IsLeft rest news all
    unfolding Each
    behind [] a h e = absurd a
    behind (q ∷ qs) a h e = record {
      left = qs;
      stand = a.1;
      long = h.1;
      are = along q qs (element q a.0 h.0) ∙ e;
    }

    pub left_next : {list : List FracPoly} → list ≡ p ∷ rest → IsLeft list olds all
        → IsLeft rest news all
    left_next is h =
        behind h.left (subst (λ l. AllStandFor w l h.left) is h.stand) h.long h.are

  pub left_end : (list : List FracPoly) (put : List Blocked) (all : List (Terms Fraction))
      → list ≡ [] → IsLeft list put all → terms_each put ≡ all
  left_end list put all none h =
      let n = AllZip-long (StandsFor w) list h.left h.stand in
      let m = ap length none in
      let nil = nil_from_length h.left (omega (arith, n, m)) in
      sym (append-nil (terms_each put)) ∙ ap (λ qs. terms_each put ++ map f qs) (sym nil) ∙ h.are

-- ---- an element
module _ (n w : ℕ) (b : Blocked) (order : b.order ≡ in_blocks n) (arity : b.arity ≡ w)
    (q : Terms Fraction) (long : Arity w q) (same : Same ℚ (terms_in b) q) where
  pub collected_is : terms_in b ≡ collect rationals (blocks n grevlex grevlex) q
  collected_is = collect-is ℚ_field (blocks n grevlex grevlex)
      (blocks_order n grevlex grevlex grevlex_order grevlex_order) w q (terms_in b) long
      (block_polynomial n w b (ap (λ o. o.first) order) arity) same

pub placed_is : (n w : ℕ) (p : FracPoly) (b : Blocked) → Is (in_blocks n) p.arity (terms_in p) b
    → (q : Terms Fraction) → StandsFor w p q → Arity w q
    → terms_in b ≡ collect rationals (blocks n grevlex grevlex) q
placed_is n w p b is q s a = collected_is n w b is.order (is.arity ∙ s.arity) q a
    (Same-trans ℚ is.same s.same)

module _ (n w r : ℕ) (p made : FracPoly) (b : Blocked) (normals : terms_in made
    ≡ normal grevlex r (terms_in p)) (size : made.arity ≡ p.arity) (some : front r ≤ p.arity)
    (is : Is (in_blocks n) made.arity (terms_in made) b) where
  pub normal_is : (q : Terms Fraction) → StandsFor w p q → Arity w q
      → terms_in b ≡ normal (blocks n grevlex grevlex) r q
  normal_is q s a =
      let within = s.arity in
      let wide : width r (w - front r) ≡ w = omega (arith, some, within) in
      collected_is n w b is.order (is.arity ∙ size ∙ s.arity) (with_normal_keys r q)
      (subst (λ k. Arity k (with_normal_keys r q)) wide
      (arity-normalized r (w - front r) q (subst (λ k. Arity k q) (sym wide) a)))
      (Same-trans ℚ (subst (Same ℚ (terms_in b)) normals is.same)
      (Same-trans ℚ (collect-same ℚ_field grevlex grevlex_order (with_normal_keys r (terms_in p)))
      (same_normalized ℚ_ring r (terms_in p) q s.same)))

-- what is composed, where it is too heavy
pub heavy_composed : (w : ℕ) {p : Terms Fraction} (g : Terms Fraction)
    (images : List (Terms Fraction))
    → IsPolynomial ℚ grevlex w p → Same ℚ p (compose ℚ w g images) → IsPast (weight fraction_size p)
    → IsPastComposition fractions g images
heavy_composed w {p = p} g images h s past =
    inl (past_under (weight fraction_size p) _ (composition-pos ℚ_ring fraction_size
    fractions_bounded w g images) (composition_under fractions fractions_ring fractions_bounded
    grevlex grevlex_order w p g images h s) past)

-- ---- the relations
pub relation_placed : (n r m i : ℕ) (p b : Blocked)
    → terms_in p ≡ collect rationals (orbit_order r) (get_or (relations r m) i [])
    → p.arity ≡ front r + m → Is (in_blocks n) p.arity (terms_in p) b
    → terms_in b ≡ collect rationals (blocks n grevlex grevlex) (get_or (relations r m) i [])
relation_placed n r m i p b terms size is =
    let relation = get_or (relations r m) i [] in
    collected_is n (front r + m) b is.order (is.arity ∙ size) relation
    (arity_at (front r + m) (relations r m) (arity_relations r m) i)
    (Same-trans ℚ (subst (Same ℚ (terms_in b)) terms is.same)
    (collect-same ℚ_field (orbit_order r)
    (blocks_order (front r) grevlex grevlex grevlex_order grevlex_order) relation))
