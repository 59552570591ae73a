-- The rests of monomials, one from another.
--   lesser_length, lesser_sum       the lesser monomial
--   image_one, image_next           what a transition makes of a monomial: 1, or that of the lesser one times a variable's image
--   rest_next                       so the rest of the lesser one gives its rest
--   lesser_before                   among the monomials in ascending order the lesser one stands before
use Rattle.std.proofs.Common.{◌≡◌, ◌⊎◌, inl, inr, ℕ, zero, suc, ◌+◌, ◌≤◌, List, [], ◌∷◌, ◌++◌, map, length, sum, get_or, Option, Some, None, refl, sym, ap, subst, ◌∙◌, arith, Less}
use Rattle.std.proofs.lemmas.List.Sums.{sum_by-cons}
use Rattle.algebra.specs.Each.{Each}
use Rattle.algebra.specs.In.{In}
use Rattle.algebra.specs.Arithmetic.{power}
use Rattle.algebra.specs.Ring.{CommRing, operations}
use Rattle.algebra.specs.Sum.{sum_over}
use Rattle.algebra.proofs.In.{each_in, in_either, in_right}
use Rattle.algebra.proofs.RingLaws.{one-mul}
use Rattle.algebra.proofs.RingSolver.{ring, ring_rules}
use Rattle.algebra.proofs.RingLaws.{power-zero, power-suc}
use Rattle.algebra.specs.Fraction.{Fraction, ℚ}
use Rattle.algebra.proofs.Fractions.{ℚ_ring, ℚ_zero_test}
use Rattle.polynomials.specs.Order.{compare, grevlex}
use Rattle.polynomials.specs.Polynomial.{Arity, AllArity}
use Rattle.polynomials.specs.Terms.{Terms, constant, evaluate, lists, monomial_at, negate, times}
use Rattle.polynomials.proofs.Arity.{arity-append, arity-negate}
use Rattle.polynomials.proofs.Composition.{poly-monomial}
use Rattle.polynomials.proofs.Poly.{Poly, poly, poly_ring, poly-append, poly-nil, poly-times, poly-constant, poly_constant}
use Rattle.ideals.proofs.Ideal.{in_ideal_same, in_ideal_add, in_ideal_mul}
use Rattle.ideals.proofs.Members.{member_in, member_out}
use Rattle.closures.specs.Monomials.{AreAscending, monomials_up_to}
use Rattle.closures.proofs.Monomials.{are_monomials_up_to, in_monomials}
use Rattle.closures.proofs.UpTo.{less_degree}
use Rattle.flows.specs.Graph.{Transition}
use Rattle.flows.specs.Family.{after}
use Rattle.flows.specs.Rows.{IsRest}
use Rattle.flows.proofs.Members.{poly-less}
use Rattle.flows.specs.Tasks.{lesser, in_second}

sum-cons : (a : ℕ) (m : List ℕ) → sum (a ∷ m) ≡ a + sum m
sum-cons a m = sum_by-cons (λ x. x) a m

pub lesser_is : (m e : List ℕ) (k : ℕ) → lesser m ≡ Some (e, k)
    → (length e ≡ length m) × (suc (sum e) ≡ sum m)
unfolding lesser
lesser_is [] e k h = absurd (let z : ⊥ = cc in z)
lesser_is (suc a ∷ m) e k h =
    let pair : ◌≡◌ {A = List ℕ × ℕ} (a ∷ m, 0) (e, k) = cc in
    let same : a ∷ m ≡ e = ap (λ (x : List ℕ × ℕ). x.0) pair in (
      sym (ap (λ (x : List ℕ). length x) same),
      (let one : sum (a ∷ m) ≡ sum e = ap (λ (x : List ℕ). sum x) same in
          let two = sum-cons a m in
          let three = sum-cons (suc a) m in omega (arith, one, two, three)),
    )
lesser_is (zero ∷ m) e k h = go (lesser m) (λ d j f. lesser_is m d j f) h
  where
    go : (o : Option (List ℕ × ℕ))
        → ((d : List ℕ) (j : ℕ) → o ≡ Some (d, j)
        → (length d ≡ length m) × (suc (sum d) ≡ sum m))
        → in_second o ≡ Some (e, k)
        → (length e ≡ suc (length m)) × (suc (sum e) ≡ sum (zero ∷ m))
    go None f g = absurd (let z : ⊥ = cc in z)
    go (Some (d, j)) f g =
        let r = f d j refl in
        let pair : ◌≡◌ {A = List ℕ × ℕ} (0 ∷ d, suc j) (e, k) = cc in
        let same : 0 ∷ d ≡ e = ap (λ (x : List ℕ × ℕ). x.0) pair in (
          sym (ap (λ (x : List ℕ). length x) same) ∙ ap suc r.0,
          (let one : sum (0 ∷ d) ≡ sum e = ap (λ (x : List ℕ). sum x) same in
              let two = sum-cons 0 d in
              let three = sum-cons 0 m in
              let four = r.1 in omega (arith, one, two, three, four)),
        )

module _ (w : ℕ) where
  abbrev K : CommRing (Poly w ℚ_ring)
  K = poly_ring w ℚ_ring

  abbrev of : Terms Fraction → Poly w ℚ_ring
  of p = poly w ℚ_ring p

  abbrev mon : List (Terms Fraction) → List ℕ → Poly w ℚ_ring
  mon images e = monomial_at (operations (poly_ring w ℚ_ring)) (map (poly w ℚ_ring) images) e

  mon_one : (m : List ℕ) (images : List (Terms Fraction)) → lesser m ≡ None
      → mon images m ≡ K.one
  unfolding lesser monomial_at
  mon_one m [] h = refl
  mon_one [] (f ∷ images) h = refl
  mon_one (suc a ∷ m) (f ∷ images) h = absurd (let z : ⊥ = cc in z)
  mon_one (zero ∷ m) (f ∷ images) h = go (lesser m) (λ g. mon_one m images g) h
    where
      go : (o : Option (List ℕ × ℕ)) → (o ≡ None → mon images m ≡ K.one)
          → in_second o ≡ None
          → mon (f ∷ images) (zero ∷ m) ≡ K.one
      go None g e =
          ap (λ x. K.mul x (mon images m)) (power-zero K (of f)) ∙ one-mul K (mon images m)
          ∙ g refl
      go (Some (d, j)) g e = absurd (let z : ⊥ = cc in z)

  mon_next : (m e : List ℕ) (k : ℕ) (images : List (Terms Fraction)) → length images ≡ length m
      → lesser m ≡ Some (e, k)
      → mon images m ≡ K.mul (mon images e) (of (get_or images k []))
  unfolding lesser monomial_at
  mon_next [] e k images l h = absurd (let z : ⊥ = cc in z)
  mon_next (a ∷ m) e k [] l h = absurd (omega (arith, l))
  mon_next (suc a ∷ m) e k (f ∷ images) l h =
      let pair : ◌≡◌ {A = List ℕ × ℕ} (a ∷ m, 0) (e, k) = cc in
      subst (λ (x : List ℕ × ℕ). mon (f ∷ images) (suc a ∷ m)
      ≡ K.mul (mon (f ∷ images) x.0) (of (get_or (f ∷ images) x.1 []))) pair
      (ap (λ x. K.mul x (mon images m)) (power-suc K (of f) a)
      ∙ raised K (of f) (power (operations (poly_ring w ℚ_ring)) (of f) a) (mon images m))
    where
      raised : {A : Type 0} (R : CommRing A) (x p y : A) → R.mul (R.mul x p) y
          ≡ R.mul (R.mul p y) x
      raised R x p y = ring R (x ∷ p ∷ y ∷ []) (search ring_rules depth 40) refl
  mon_next (zero ∷ m) e k (f ∷ images) l h =
      go (lesser m) (λ d j g. mon_next m d j images (omega (arith, l)) g) h
    where
      moved : {A : Type 0} (R : CommRing A) (p x y : A) → R.mul p (R.mul x y)
          ≡ R.mul (R.mul p x) y
      moved R p x y = ring R (p ∷ x ∷ y ∷ []) (search ring_rules depth 40) refl

      go : (o : Option (List ℕ × ℕ))
          → ((d : List ℕ) (j : ℕ) → o ≡ Some (d, j)
          → mon images m ≡ K.mul (mon images d) (of (get_or images j [])))
          → in_second o ≡ Some (e, k)
          → mon (f ∷ images) (zero ∷ m)
          ≡ K.mul (mon (f ∷ images) e) (of (get_or (f ∷ images) k []))
      go None g i = absurd (let z : ⊥ = cc in z)
      go (Some (d, j)) g i =
          let pair : ◌≡◌ {A = List ℕ × ℕ} (0 ∷ d, suc j) (e, k) = cc in
          subst (λ (x : List ℕ × ℕ). mon (f ∷ images) (zero ∷ m)
          ≡ K.mul (mon (f ∷ images) x.0) (of (get_or (f ∷ images) x.1 []))) pair
          (ap (K.mul (power (operations (poly_ring w ℚ_ring)) (of f) 0))
          (g d j refl)
          ∙ moved K (power (operations (poly_ring w ℚ_ring)) (of f) 0) (mon images d)
          (of (get_or images j [])))

module _ (n : ℕ) (t : Transition) where
  abbrev v : ℕ
  v = t.unknowns + n

  abbrev L : CommRing (Poly (t.unknowns + n) ℚ_ring)
  L = poly_ring (t.unknowns + n) ℚ_ring

  image_mon : (m : List ℕ) → poly (t.unknowns + n) ℚ_ring (after n t ((m, ℚ.one) ∷ []))
      ≡ mon (t.unknowns + n) t.images m
  unfolding evaluate sum_over
  image_mon m =
      let q = monomial_at (lists ℚ (t.unknowns + n)) t.images m in
      poly-append (t.unknowns + n) ℚ_ring (times ℚ (constant (t.unknowns + n) ℚ.one) q) []
      ∙ ap (L.add _) (poly-nil (t.unknowns + n) ℚ_ring) ∙ L.add-zero _
      ∙ poly-times (t.unknowns + n) ℚ_ring (constant (t.unknowns + n) ℚ.one) q
      ∙ ap (λ x. L.mul x (poly (t.unknowns + n) ℚ_ring q))
      (poly-constant (t.unknowns + n) ℚ_ring (t.unknowns + n) ℚ.one
      ∙ (poly_constant (t.unknowns + n) ℚ_ring).to-one)
      ∙ one-mul L _ ∙ poly-monomial (t.unknowns + n) ℚ_ring t.images m

  pub image_one : (m : List ℕ) → lesser m ≡ None
      → poly (t.unknowns + n) ℚ_ring (after n t ((m, ℚ.one) ∷ [])) ≡ L.one
  image_one m h = image_mon m ∙ mon_one (t.unknowns + n) m t.images h

  pub image_next : (m e : List ℕ) (k : ℕ) → length t.images ≡ length m
      → lesser m ≡ Some (e, k)
      → poly (t.unknowns + n) ℚ_ring (after n t ((m, ℚ.one) ∷ []))
      ≡ L.mul (poly (t.unknowns + n) ℚ_ring (after n t ((e, ℚ.one) ∷ [])))
      (poly (t.unknowns + n) ℚ_ring (get_or t.images k []))
  image_next m e k l h =
      image_mon m ∙ mon_next (t.unknowns + n) m e k t.images l h
      ∙ ap (λ x. L.mul x (poly (t.unknowns + n) ℚ_ring (get_or t.images k []))) (sym (image_mon e))

-- what is left of a product, by what is left of its factor
pub split_rest : {A : Type 0} (R : CommRing A) (y f r u : A) → R.add (R.mul y f) (R.neg u)
    ≡ R.add (R.mul f (R.add y (R.neg r))) (R.add (R.mul r f) (R.neg u))
split_rest R y f r u = ring R (y ∷ f ∷ r ∷ u ∷ []) (search ring_rules depth 40) refl

pub rest_next : (w : ℕ) (gs : List (Terms Fraction)) → AllArity w gs
    → (p f r q u s : Terms Fraction) → Arity w s
    → of w s ≡ (K w).mul (of w p) (of w f)
    → of w q ≡ (K w).mul (of w r) (of w f)
    → IsRest gs w p r → IsRest gs w q u → IsRest gs w s u
rest_next w gs a p f r q u s sa whole part h k = record {
  arity = k.arity;
  differs =
      member_out w ℚ_ring ℚ_zero_test gs (s ++ negate ℚ u) a
      (arity-append w s (negate ℚ u) sa (arity-negate w ℚ u k.arity))
      (in_ideal_same (K w) (poly-less w s u ∙ ap (λ y. (K w).add y ((K w).neg (of w u))) whole
      ∙ split_rest (K w) (of w p) (of w f) (of w r) (of w u))
      (in_ideal_add (K w) (in_ideal_mul (K w) (of w f)
      (in_ideal_same (K w) (sym (poly-less w p r)) (member_in w ℚ_ring gs (p ++ negate ℚ r)
      h.differs)))
      (in_ideal_same (K w) (ap (λ y. (K w).add y ((K w).neg (of w u))) (sym part)
      ∙ sym (poly-less w q u))
      (member_in w ℚ_ring gs (q ++ negate ℚ u) k.differs))));
  standard = k.standard;
}

-- ---- among the monomials
from_middle : (es : List (List ℕ)) (m : List ℕ) (ms : List (List ℕ))
    → AreAscending (es ++ m ∷ ms) → Each (λ d. compare grevlex m d ≡ Less) ms
unfolding AreAscending
from_middle [] m ms h = h.0
from_middle (e ∷ es) m ms h = from_middle es m ms h.1

pub lesser_before : (n d : ℕ) (es : List (List ℕ)) (m : List ℕ) (ms : List (List ℕ))
    → monomials_up_to n d ≡ es ++ m ∷ ms → (e : List ℕ) (k : ℕ) → lesser m ≡ Some (e, k)
    → In e es
lesser_before n d es m ms at e k h =
    let are = are_monomials_up_to n d in
    let i : In m (monomials_up_to n d) =
    subst (In m) (sym at) (in_right m es (m ∷ ms) (inl refl)) in
    let ml : length m ≡ n = each_in (λ e. length e ≡ n) (monomials_up_to n d) m are.arities i in
    let md : sum m ≤ d = each_in (λ e. sum e ≤ d) (monomials_up_to n d) m are.degrees i in
    let r = lesser_is m e k h in
    go r.0 r.1 (in_either e es (m ∷ ms) (subst (In e) at
    (in_monomials n d e (r.0 ∙ ml) (omega (arith, r.1, md)))))
  where
    go : length e ≡ length m → suc (sum e) ≡ sum m → In e es ⊎ In e (m ∷ ms) → In e es
    go l s (inl i) = i
    go l s (inr (inl f)) =
        let g : sum e ≡ sum m = ap (λ (x : List ℕ). sum x) f in absurd (omega (arith, s, g))
    go l s (inr (inr i)) =
        let are = are_monomials_up_to n d in
        let below = each_in (λ d. compare grevlex m d ≡ Less) ms e
        (from_middle es m ms (subst AreAscending at are.ascend)) i in
        let g = less_degree m e (sym l) below in
        absurd (omega (arith, s, g))
