-- What loops over terms make.
--   past_scale_at             where the weight of a product with a number is past, so is the polynomial's
--   polynomial_negate, polynomial_shift     opposites and shifted polynomials
--   past_difference           where a difference is past
--   shift_fits_at, all_arity, arity_at     exponents;  compare-shift: products keep the order
--   begin_X, step_X           X so far: nothing, and one term more
use Rattle.algebra.specs.Each.{Each}
use Rattle.polynomials.specs.Algebra as Algebra
use Rattle.std.proofs.Common.{◌≡◌, ◌≢◌, ℕ, List, [], ◌∷◌, ◌++◌, length, refl, sym, ap, ap₂, subst, ◌∙◌}
use Rattle.std.specs.List.{All}
use Rattle.std.proofs.lemmas.List.Elements.{All-nil, All-cons}
use Rattle.algebra.specs.Scalars.{Scalars, IsBounded}
use Rattle.algebra.specs.Ring.{IsRing, ring as ring_of}
use Rattle.algebra.specs.Size.{IsPast, sum_size, product_size}
use Rattle.polynomials.specs.Exponent.{plus}
use Rattle.polynomials.specs.Terms.{Terms, shift, negate}
use Rattle.polynomials.specs.Order.{Rank, IsMonomialOrder, compare}
use Rattle.polynomials.specs.Polynomial.{Below, Falls, Arity}
use Rattle.polynomials.specs.Polynomial.{HasNoZero, IsPolynomial}
use Rattle.polynomials.specs.Weight.{degrees, FitsMonomial}
use Rattle.polynomials.specs.Weight.{weight, IsPastSum}
use Rattle.polynomials.proofs.Degrees.{shift_fits}
use Rattle.polynomials.proofs.Past.{past_scale}
use Rattle.poly.specs.declared.Term.{Term}
use Rattle.poly.specs.View.{terms_of}
use Rattle.polynomials.proofs.Exponent.{plus_comm}
use Rattle.polynomials.proofs.Order.{compare-plus}
use Rattle.polynomials.proofs.Arity.{arity-negate, arity-shift}
use Rattle.polynomials.proofs.Weight.{weight-negate}

-- ---- orders
module _ (O : Rank) (o : IsMonomialOrder O) (m : ℕ) (d : List ℕ) (l : length d ≡ m) where
  pub compare-shift : (e f : List ℕ) → length e ≡ m → length f ≡ m → compare O (plus d e) (plus d f)
      ≡ compare O e f
  compare-shift e f k j = ap₂ (compare O) (plus_comm d e) (plus_comm d f)
      ∙ compare-plus O o e f d (k ∙ sym l) (j ∙ sym l)

module _ (S : Scalars) where
  -- ---- opposites
  negate-push : (p : Terms S.Elem) (t : List ℕ × S.Elem) → negate S.arithmetic (p ++ t ∷ [])
      ≡ negate S.arithmetic p ++ (t.0, S.neg t.1) ∷ []
  unfolding Algebra.negate
  negate-push [] t = refl
  negate-push (u ∷ p) t = ap (λ (zs : Terms S.Elem). (u.0, S.neg u.1) ∷ zs) (negate-push p t)

  pub begin_negate : (out : Terms S.Elem) → out ≡ [] → out ≡ negate S.arithmetic []
  unfolding Algebra.negate
  begin_negate out e = e

  pub step_negate : (p p' out news : Terms S.Elem) (t u : List ℕ × S.Elem) → p' ≡ p ++ t ∷ []
      → news ≡ out ++ u ∷ [] → u.0 ≡ t.0 → u.1 ≡ S.neg t.1 → out ≡ negate S.arithmetic p
      → news ≡ negate S.arithmetic p'
  step_negate p p' out news t u e f m n h =
      f ∙ ap₂ (λ (zs : Terms S.Elem) (v : List ℕ × S.Elem). zs ++ v ∷ []) h (λ i. (m i, n i))
      ∙ sym (negate-push p t) ∙ ap (negate S.arithmetic) (sym e)

  below-negate : (O : Rank) (e : List ℕ) (p : Terms S.Elem) → Below O e p
      → Below O e (negate S.arithmetic p)
  unfolding Each Algebra.negate
  below-negate O e [] b = tt
  below-negate O e (t ∷ p) b = (b.0, below-negate O e p b.1)

  falls-negate : (O : Rank) (p : Terms S.Elem) → Falls O p → Falls O (negate S.arithmetic p)
  unfolding Falls Algebra.negate
  falls-negate O [] f = tt
  falls-negate O (t ∷ p) f = (below-negate O t.0 p f.0, falls-negate O p f.1)

  module _ (r : IsRing S.arithmetic) where
    neg-nonzero : (a : S.Elem) → a ≢ S.zero → S.neg a ≢ S.zero
    neg-nonzero a n e = n (sym (r.add-zero a) ∙ ap (S.add a) (sym e) ∙ r.add-neg a)

    nonzero-negate : (p : Terms S.Elem) → HasNoZero S.arithmetic p
        → HasNoZero S.arithmetic (negate S.arithmetic p)
    unfolding Each Algebra.negate
    nonzero-negate [] n = tt
    nonzero-negate (t ∷ p) n = (neg-nonzero t.1 n.0, nonzero-negate p n.1)

    pub polynomial_negate : (O : Rank) (m : ℕ) (p q : Terms S.Elem)
        → IsPolynomial S.arithmetic O m p → q ≡ negate S.arithmetic p
        → IsPolynomial S.arithmetic O m q
    polynomial_negate O m p q h e = subst (IsPolynomial S.arithmetic O m) (sym e) (record {
      nonzero = nonzero-negate p h.nonzero;
      arity = arity-negate m S.arithmetic p h.arity;
      falls = falls-negate O p h.falls;
    })

    -- ---- products with a monomial
    one-mul : (a : S.Elem) → S.mul S.one a ≡ a
    one-mul a = r.mul_comm S.one a ∙ r.mul-one a

    shift-push : (d : List ℕ) (p : Terms S.Elem) (t : List ℕ × S.Elem)
        → shift S.arithmetic d S.one (p ++ t ∷ []) ≡ shift S.arithmetic d S.one p ++ (
          plus d t.0,
          t.1,
        ) ∷ []
    unfolding Algebra.shift
    shift-push d [] t = ap (λ (a : S.Elem). (plus d t.0, a) ∷ []) (one-mul t.1)
    shift-push d (u ∷ p) t = ap (λ (zs : Terms S.Elem). (plus d u.0, S.mul S.one u.1) ∷ zs)
        (shift-push d p t)

    pub begin_shift : (d : List ℕ) (out : Terms S.Elem) → out ≡ []
        → out ≡ shift S.arithmetic d S.one []
    unfolding Algebra.shift
    begin_shift d out e = e

    pub step_shift : (d : List ℕ) (p p' out news : Terms S.Elem) (t u : List ℕ × S.Elem)
        → p' ≡ p ++ t ∷ [] → news ≡ out ++ u ∷ [] → u.0 ≡ plus d t.0 → u.1 ≡ t.1
        → out ≡ shift S.arithmetic d S.one p → news ≡ shift S.arithmetic d S.one p'
    step_shift d p p' out news t u e f m n h =
        f ∙ ap₂ (λ (zs : Terms S.Elem) (x : List ℕ × S.Elem). zs ++ x ∷ []) h (λ i. (m i, n i))
        ∙ sym (shift-push d p t) ∙ ap (shift S.arithmetic d S.one) (sym e)

    nonzero-shift : (d : List ℕ) (p : Terms S.Elem) → HasNoZero S.arithmetic p
        → HasNoZero S.arithmetic (shift S.arithmetic d S.one p)
    unfolding Each Algebra.shift
    nonzero-shift d [] n = tt
    nonzero-shift d (t ∷ p) n = ((λ e. n.0 (sym (one-mul t.1) ∙ e)), nonzero-shift d p n.1)

    module _ (O : Rank) (o : IsMonomialOrder O) (m : ℕ) (d : List ℕ) (l : length d ≡ m) where
      below-shift : (e : List ℕ) (c : S.Elem) (p : Terms S.Elem) → length e ≡ m → Arity m p
          → Below O e p → Below O (plus d e) (shift S.arithmetic d c p)
      unfolding Each Algebra.shift
      below-shift e c [] k a b = tt
      below-shift e c (t ∷ p) k a b = (
        compare-shift O o m d l t.0 e a.0 k
            ∙ b.0,
        below-shift e c p k a.1 b.1,
      )

      falls-shift : (c : S.Elem) (p : Terms S.Elem) → Arity m p → Falls O p
          → Falls O (shift S.arithmetic d c p)
      unfolding Each Falls Algebra.shift
      falls-shift c [] a f = tt
      falls-shift c (t ∷ p) a f = (below-shift t.0 c p a.0 a.1 f.0, falls-shift c p a.1 f.1)

      pub polynomial_shift : (p q : Terms S.Elem) → IsPolynomial S.arithmetic O m p
          → q ≡ shift S.arithmetic d S.one p → IsPolynomial S.arithmetic O m q
      polynomial_shift p q h e = subst (IsPolynomial S.arithmetic O m) (sym e) (record {
        nonzero = nonzero-shift d p h.nonzero;
        arity = arity-shift m S.arithmetic d S.one p l h.arity;
        falls = falls-shift S.one p h.arity h.falls;
      })

-- ---- products with numbers
module _ (S : Scalars) (r : IsRing S.arithmetic) (z : IsBounded S.arithmetic S.size) where
  pub past_scale_at : (c : S.Elem) (ts front back : Terms S.Elem) (t : List ℕ × S.Elem)
      → ts ≡ front ++ t ∷ back
      → IsPast (product_size (S.size c) (S.size t.1))
      → IsPast (product_size (S.size c) (weight S.size ts))
  past_scale_at c ts front back t e past =
      subst (λ (zs : Terms S.Elem). IsPast (product_size (S.size c) (weight S.size zs))) (sym e)
      (past_scale S r z c front t back past)

-- ---- differences
module _ (S : Scalars) (r : IsRing S.arithmetic) (z : IsBounded S.arithmetic S.size) where
  pub past_difference : (p q n : Terms S.Elem) → n ≡ negate S.arithmetic q → IsPastSum S p n
      → IsPastSum S p q
  past_difference p q n e past = subst (λ s. IsPast (sum_size (weight S.size p) s))
      (ap (weight S.size) e ∙ weight-negate (ring_of S.arithmetic r) S.size z q) past

-- ---- exponents
pub shift_fits_at : {A : Type 0} (d : List ℕ) (ts front back : Terms A) (t : List ℕ × A)
    → ts ≡ front ++ t ∷ back → FitsMonomial (plus d (degrees ts)) → FitsMonomial (plus d t.0)
shift_fits_at d ts front back t e fits =
    shift_fits d front t back (subst (λ (zs : Terms _). FitsMonomial (plus d (degrees zs))) e fits)

-- one term of a list has as many exponents as all
arity_between : {A : Type 0} (m : ℕ) (front back : Terms A) (t : List ℕ × A)
    → Arity m (front ++ t ∷ back) → length t.0 ≡ m
unfolding Each
arity_between m [] back t a = a.0
arity_between m (u ∷ front) back t a = arity_between m front back t a.1

pub arity_at : {A : Type 0} (m : ℕ) (ts front back : Terms A) (t : List ℕ × A) → Arity m ts
    → ts ≡ front ++ t ∷ back → length t.0 ≡ m
arity_at m ts front back t a e = arity_between m front back t (subst (Arity m) e a)

-- all terms have as many exponents
pub all_arity : {K E : Type 0} (meaning : K → E) (m : ℕ) (ts : List (Term K))
    → Arity m (terms_of meaning ts) → All (λ t. length t.mono ≡ m) ts
unfolding Each
all_arity meaning m [] a = All-nil (λ t. length t.mono ≡ m)
all_arity meaning m (t ∷ ts) a = All-cons (λ t. length t.mono ≡ m) t ts a.0
    (all_arity meaning m ts a.1)
