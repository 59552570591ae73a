-- Products of powers whose exponents are sums, place by place: their weights and greatest exponents are those of products.
--   push_parts                two lists with one exponent more each
--   past_short, past_long     where one with exponents of a part is past, so is that with the sums
--   past_parts                where the product of two of them is past, so is that with the sums
use Rattle.std.proofs.Common.{◌≡◌, ◌<◌, inl, inr, ℕ, zero, suc, ◌+◌, List, [], ◌∷◌, ◌++◌, length, map, sym, ap, ap₂, subst, ◌∙◌, arith, zero-add, suc-add}
use Rattle.std.proofs.lemmas.List.{length_push}
use Rattle.algebra.specs.Arithmetic.{Arithmetic, power}
use Rattle.algebra.specs.Ring.{CommRing, IsRing, ring}
use Rattle.algebra.specs.Scalars.{Scalars, IsBounded}
use Rattle.algebra.specs.Size.{Size, sizes, product_size, IsPast, IsUnder}
use Rattle.algebra.proofs.SizeLaws.{under_trans}
use Rattle.algebra.proofs.ProductSizes.{IsClean, product_some, product_comm, product_assoc, one-product, power-add, past_product, past_left}
use Rattle.polynomials.specs.Exponent.{plus, Divides}
use Rattle.polynomials.specs.Terms.{Terms, Same, lists, monomial_at}
use Rattle.polynomials.specs.Order.{Rank, IsMonomialOrder}
use Rattle.polynomials.specs.Polynomial.{IsPolynomial}
use Rattle.polynomials.specs.Weight.{weight, degrees, degree_bounds, FitsMonomial, IsPastProduct, IsPastMonomial}
use Rattle.polynomials.proofs.Exponent.{nil-plus, plus_comm, plus_assoc, plus-push}
use Rattle.polynomials.proofs.Degrees.{divides_trans, divides-plus, plus-left, fits_divides, degrees-monomial, degrees_collected}
use Rattle.polynomials.proofs.Sized.{clean-monomial, sized-monomial}
use Rattle.polynomials.proofs.Weight.{weight-pos, weight_of_polynomial, lists_sized}

-- ---- one exponent more
pub push_parts : (ds es ds' es' xs : List ℕ) (i j k : ℕ) → ds' ≡ ds ++ i ∷ [] → es' ≡ es ++ j ∷ []
    → i + j ≡ k → (plus ds es ≡ xs) × (length ds ≡ length es)
    → (plus ds' es' ≡ xs ++ k ∷ []) × (length ds' ≡ length es')
push_parts ds es ds' es' xs i j k d e s h = (
  ap₂ plus d e ∙ plus-push ds es i j h.1 ∙ ap₂ (λ ys n. ys ++ n ∷ []) h.0 s,
  ap length d ∙ length_push ds i ∙ ap (λ n. n + 1) h.1 ∙ sym (ap length e ∙ length_push es j),
)

-- ---- in any arithmetic whose products are associative and commutative
module _ {A : Type 0} (N : Arithmetic A)
    (assoc : (a b c : A) → N.mul (N.mul a b) c ≡ N.mul a (N.mul b c))
    (comm : (a b : A) → N.mul a b ≡ N.mul b a) where
  exchange : (a b c d : A) → N.mul (N.mul a b) (N.mul c d) ≡ N.mul (N.mul a c) (N.mul b d)
  exchange a b c d = assoc a b (N.mul c d)
      ∙ ap (N.mul a) (sym (assoc b c d) ∙ ap (λ z. N.mul z d) (comm b c) ∙ assoc c b d)
      ∙ sym (assoc a c (N.mul b d))

  module _ (one : (s : List A) (e : List ℕ) → N.mul N.one (monomial_at N s e) ≡ monomial_at N s e)
      (add : (a : A) (m n : ℕ) → power N a (m + n) ≡ N.mul (power N a m) (power N a n)) where
    monomial-plus : (s : List A) (d e : List ℕ)
        → monomial_at N s (plus d e) ≡ N.mul (monomial_at N s d) (monomial_at N s e)
    unfolding monomial_at plus
    monomial-plus [] d e = sym (one [] e)
    monomial-plus (x ∷ s) [] e = sym (one (x ∷ s) e)
    monomial-plus (x ∷ s) (m ∷ d) [] = sym (comm _ N.one ∙ one (x ∷ s) (m ∷ d))
    monomial-plus (x ∷ s) (m ∷ d) (n ∷ e) = ap₂ N.mul (add x m n) (monomial-plus s d e)
        ∙ exchange (power N x m) (power N x n) (monomial_at N s d) (monomial_at N s e)

-- ---- weights
monomial_some : (s : List Size) (e : List ℕ) → 0 < (monomial_at sizes s e).size
unfolding monomial_at
monomial_some [] e = omega arith
monomial_some (x ∷ s) [] = omega arith
monomial_some (x ∷ s) (n ∷ e) = product_some (power sizes x n) (monomial_at sizes s e)

size-plus : (s : List Size) (d e : List ℕ) → monomial_at sizes s (plus d e)
    ≡ product_size (monomial_at sizes s d) (monomial_at sizes s e)
size-plus = monomial-plus sizes product_assoc product_comm
    (λ s e. one-product (monomial_at sizes s e) (monomial_some s e)) power-add

-- ---- greatest exponents
degree_power-plus : (d : List ℕ) (m n : ℕ) → power degree_bounds d (m + n)
    ≡ plus (power degree_bounds d m) (power degree_bounds d n)
unfolding power plus
degree_power-plus d zero n = ap (power degree_bounds d) (zero-add n)
degree_power-plus d (suc m) n = ap (power degree_bounds d) (suc-add m n)
    ∙ ap (plus d) (degree_power-plus d m n)
    ∙ sym (plus_assoc d (power degree_bounds d m) (power degree_bounds d n))

degree-plus : (s : List (List ℕ)) (d e : List ℕ) → monomial_at degree_bounds s (plus d e)
    ≡ plus (monomial_at degree_bounds s d) (monomial_at degree_bounds s e)
degree-plus = monomial-plus degree_bounds plus_assoc plus_comm
    (λ s e. nil-plus (monomial_at degree_bounds s e)) degree_power-plus

-- ---- what is past
module _ (S : Scalars) (r : IsRing S.arithmetic) (b : IsBounded S.arithmetic S.size)
    (images : List (Terms S.Elem)) where
  abbrev N : Arithmetic S.Elem
  N = S.arithmetic

  abbrev R : CommRing S.Elem
  R = ring S.arithmetic r

  abbrev W : Terms S.Elem → Size
  W = weight S.size

  abbrev weights_at : List ℕ → Size
  weights_at e = monomial_at sizes (map W images) e

  abbrev degrees_at : List ℕ → List ℕ
  degrees_at e = monomial_at degree_bounds (map degrees images) e

  clean : (e : List ℕ) → IsClean (weights_at e)
  clean e = clean-monomial (lists N 0) W (lists_sized R S.size b 0) images e

  pub past_short : (d e : List ℕ) → IsPastMonomial S images d → IsPastMonomial S images (plus d e)
  past_short d e (inl h) = inl (subst IsPast (sym (size-plus (map W images) d e))
      (past_left (weights_at d) (weights_at e) (clean d) (clean e).some h))
  past_short d e (inr k) = inr (λ f. k (fits_divides (degrees_at d) _
      (plus-left (degrees_at d) (degrees_at e))
      (subst FitsMonomial (degree-plus (map degrees images) d e) f)))

  pub past_long : (d e : List ℕ) → IsPastMonomial S images e → IsPastMonomial S images (plus d e)
  past_long d e p = subst (IsPastMonomial S images) (plus_comm e d) (past_short e d p)

  module _ (O : Rank) (o : IsMonomialOrder O) (m : ℕ) where
    under : (z : Terms S.Elem) (e : List ℕ) → IsPolynomial N O m z
        → Same N z (monomial_at (lists N m) images e) → IsUnder (W z) (weights_at e)
    under z e h s = under_trans (W z) (W (monomial_at (lists N m) images e)) (weights_at e)
        (weight-pos R S.size b z) (clean e).some
        (weight_of_polynomial R S.size b O o m z (monomial_at (lists N m) images e) h s)
        (sized-monomial (lists N m) W (lists_sized R S.size b m) images e)

    within : (z : Terms S.Elem) (e : List ℕ) → IsPolynomial N O m z
        → Same N z (monomial_at (lists N m) images e) → Divides (degrees z) (degrees_at e)
    within z e h s = divides_trans (degrees z) (degrees (monomial_at (lists N m) images e))
        (degrees_at e) (degrees_collected R O o m z (monomial_at (lists N m) images e) h s)
        (degrees-monomial N m images e)

    pub past_parts : (x y : Terms S.Elem) (d e : List ℕ) → IsPolynomial N O m x
        → IsPolynomial N O m y → Same N x (monomial_at (lists N m) images d)
        → Same N y (monomial_at (lists N m) images e) → IsPastProduct S x y
        → IsPastMonomial S images (plus d e)
    past_parts x y d e hx hy sx sy (inl h) =
        inl (subst IsPast (sym (size-plus (map W images) d e))
        (past_product (W x) (W y) (weights_at d) (weights_at e) (clean d).some (clean e).some
        (under x d hx sx) (under y e hy sy) h))
    past_parts x y d e hx hy sx sy (inr n) =
        inr (λ f. n (fits_divides (plus (degrees x) (degrees y))
        (plus (degrees_at d) (degrees_at e))
        (divides-plus _ _ _ _ (within x d hx sx) (within y e hy sy))
        (subst FitsMonomial (degree-plus (map degrees images) d e) f)))
