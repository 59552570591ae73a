-- One cancellation, over plain variables.
--   seen_at                 the term of a polynomial that an index reads
--   term_long, lead_long    terms and leads have an exponent for each variable
--   lead_is, number_of      the lead of a list, by its first term
--   factor_is, number_is    the factor of a cancellation
--   term_is, lead_multiple       its product with the lead is the term, and the first term where that is the term
--   cuts                    what a cancellation is
--   past_division, past_rest     where a part of it is past
--   leads_long                   the leads of divisors have an exponent for each variable
--   after_any     at the places that are found
--   along         a polynomial is one in an equal order and for an equal number of variables
use Rattle.std.proofs.Common.{◌≡◌, ◌≢◌, ◌↔◌, ℕ, zero, suc, ◌<◌, true, List, [], ◌∷◌, ◌++◌, length, map, slice_index_or, get_or, slice_get, IsSomeAnd, Some, inl, inr, refl, sym, ap, ap₂, subst, ◌∙◌, arith}
use Rattle.std.specs.List.{All}
use Rattle.std.proofs.lemmas.List.{get_or-map, length-map}
use Rattle.std.proofs.lemmas.List.Elements.{All-nil, All-cons, All-head, All-tail}
use Rattle.algebra.specs.Each.{Each}
use Rattle.algebra.specs.Ring.{Field, IsRing, IsFieldOf}
use Rattle.algebra.specs.FieldArithmetic.{FieldArithmetic, field_of}
use Rattle.algebra.specs.Scalars.{Scalars, field}
use Rattle.algebra.specs.Size.{IsPast, quotient_size}
use Rattle.algebra.proofs.ScalarFields.{is_field}
use Rattle.polynomials.specs.Exponent.{plus, over}
use Rattle.polynomials.specs.Terms.{Terms, Same, shift, negate}
use Rattle.polynomials.specs.Order.{Rank, IsMonomialOrder}
use Rattle.polynomials.specs.Polynomial.{Arity, IsPolynomial}
use Rattle.polynomials.proofs.Exponent.{plus_comm}
use Rattle.polynomials.proofs.Arity.{arity-append, arity-negate, arity-shift}
use Rattle.machines.specs.Cut.{lead_of, lead_number, after_cut}
use Rattle.machines.specs.Collect.{collect}
use Rattle.machines.specs.Past.{IsPastCut}
use Rattle.machines.proofs.Collecting.{collect-is}
use Rattle.poly.specs.Multiple.{IsPastMultiple}
use Rattle.poly.proofs.Multiples.{quotient_number}
use Rattle.divide.specs.Cutting.{term_at, cutting_of, Cuts}

pub seen_at : {X Y : Type 0} (h : X → Y) (items : List X) (i : ℕ) (x : X) (d : Y)
    → i < length (map h items) → x ≡ slice_index_or items i x → get_or (map h items) i d ≡ h x
seen_at h items i x d l e = let s = length-map items h in
    get_or-map h items i x d (omega (arith, s, l)) ∙ ap h (sym e)

pub along : (S : Scalars) {X : Type 0} (order : X → Rank) (a b : X) (m n : ℕ) (p : Terms S.Elem)
    → a ≡ b → m ≡ n → IsPolynomial S.arithmetic (order a) m p
    → IsPolynomial S.arithmetic (order b) n p
along S order a b m n p e h i = subst (λ x. IsPolynomial S.arithmetic (order x) n p) e
    (subst (λ k. IsPolynomial S.arithmetic (order a) k p) h i)

module _ {A : Type 0} where
  pub term_long : (m : ℕ) (p : Terms A) (i : ℕ) (d : List ℕ × A) → i < length p → Arity m p
      → length (get_or p i d).0 ≡ m
  unfolding Each
  term_long m [] i d l a = absurd (omega arith)
  term_long m (t ∷ p) zero d l a = a.0
  term_long m (t ∷ p) (suc i) d l a = term_long m p i d (omega arith) a.1

  pub lead_long : (m : ℕ) (g : Terms A) → g ≢ [] → Arity m g → length (lead_of g) ≡ m
  unfolding Each lead_of
  lead_long m [] n a = absurd (n refl)
  lead_long m (t ∷ g) n a = a.0

  pub lead_is : (g rest : Terms A) (u : List ℕ × A) → g ≡ u ∷ rest → lead_of g ≡ u.0
  unfolding lead_of
  lead_is g rest u e = ap lead_of e

  pub number_of : (F : FieldArithmetic A) (g rest : Terms A) (u : List ℕ × A) → g ≡ u ∷ rest
      → lead_number F g ≡ u.1
  unfolding lead_number
  number_of F g rest u e = ap (lead_number F) e

over-factor : (q d : List ℕ) → length q ≡ length d → q ≡ over (plus d q) d
unfolding over plus
over-factor [] [] l = refl
over-factor [] (x ∷ d) l = absurd (omega arith)
over-factor (y ∷ q) [] l = absurd (omega arith)
over-factor (y ∷ q) (x ∷ d) l = ap₂ ◌∷◌ (omega arith) (over-factor q d (omega arith))

module _ (S : Scalars) (p g rest : Terms S.Elem) (t u v : List ℕ × S.Elem) (lead : g ≡ u ∷ rest)
    (at : t ≡ v) where
  abbrev F : FieldArithmetic S.Elem
  F = field S

  pub factor_is : (by : List ℕ) → plus u.0 by ≡ v.0 → length by ≡ length u.0
      → by ≡ over t.0 (lead_of g)
  factor_is by e l = over-factor by u.0 l ∙ ap₂ over (e ∙ sym (ap (λ x. x.0) at))
      (sym (lead_is g rest u lead))

  pub number_is : IsRing S.arithmetic → IsFieldOf S.arithmetic S.inverse → (c : S.Elem)
      → u.1 ≢ S.zero → S.mul c u.1 ≡ v.1 → c ≡ S.mul t.1 (S.inverse (lead_number F g))
  number_is r f c n e =
      quotient_number S r f c u.1 v.1 n e ∙ r.mul_comm (S.inverse u.1) v.1
      ∙ ap₂ (λ a b. S.mul a (S.inverse b)) (sym (ap (λ x. x.1) at))
      (sym (number_of F g rest u lead))

  pub term_is : (by : List ℕ) (c : S.Elem) → plus u.0 by ≡ v.0 → S.mul c u.1 ≡ v.1
      → t ≡ (plus by (lead_of g), S.mul c (lead_number F g))
  term_is by c e n = at ∙ ap₂ (λ (d : List ℕ) (a : S.Elem). (d, a))
      (sym e ∙ plus_comm u.0 by ∙ ap (plus by) (sym (lead_is g rest u lead)))
      (sym n ∙ ap (S.mul c) (sym (number_of F g rest u lead)))

  pub past_division : IsPast (quotient_size (S.size v.1) (S.size u.1))
      → IsPastCut S F p (cutting_of S 0 t g)
  past_division past =
      inl (subst (λ a. IsPast (quotient_size (S.size a) (S.size (lead_number F g))))
      (sym (ap (λ x. x.1) at))
      (subst (λ b. IsPast (quotient_size (S.size v.1) (S.size b))) (sym (number_of F g rest u lead))
      past))

pub past_rest : (S : Scalars) (p g : Terms S.Elem) (t : List ℕ × S.Elem) (by : List ℕ) (c : S.Elem)
    → by ≡ over t.0 (lead_of g) → c ≡ S.mul t.1 (S.inverse (lead_number (field S) g))
    → IsPastMultiple S p by c g → IsPastCut S (field S) p (cutting_of S 0 t g)
past_rest S p g t by c b n past = inr
    (subst (λ d. IsPastMultiple S p d (cutting_of S 0 t g).number g) b
    (subst (λ a. IsPastMultiple S p by a g) n past))

-- a term that is a multiple of the lead
pub lead_multiple : (S : Scalars) (p g : Terms S.Elem) (by : List ℕ) (c : S.Elem) → 0 < length p
    → g ≢ [] → term_at S p 0 ≡ (plus by (lead_of g), S.mul c (lead_number (field S) g))
    → IsSomeAnd (slice_get g 0) (λ u. slice_get p 0 ≡ Some (plus by u.0, S.mul c u.1))
unfolding lead_of lead_number
lead_multiple S [] g by c some n e = absurd (omega arith)
lead_multiple S (t ∷ p) [] by c some n e = absurd (n refl)
lead_multiple S (t ∷ p) (u ∷ g) by c some n e = ap Some e

module _ (S : Scalars) (r : IsRing S.arithmetic) (f : IsFieldOf S.arithmetic S.inverse)
    (z : (a : S.Elem) → (S.is_zero a ≡ true) ↔ (a ≡ S.zero)) (O : Rank) (o : IsMonomialOrder O)
    (m : ℕ) where
  abbrev K : Field S.Elem
  K = field_of (field S) (is_field S r f z)

  pub cuts : (p g left : Terms S.Elem) (t : List ℕ × S.Elem) (by : List ℕ) (c : S.Elem)
      → IsPolynomial S.arithmetic O m p → IsPolynomial S.arithmetic O m g
      → IsPolynomial S.arithmetic O m left → length by ≡ m
      → by ≡ over t.0 (lead_of g) → c ≡ S.mul t.1 (S.inverse (lead_number (field S) g))
      → Same S.arithmetic left (p ++ negate S.arithmetic (shift S.arithmetic by c g))
      → Cuts S O p t g by c left
  unfolding after_cut
  cuts p g left t by c hp hg hl l b n same = record {
    by_is = b;
    number_is = n;
    left_is =
        collect-is K O o m (p ++ negate S.arithmetic (shift S.arithmetic by c g)) left
        (arity-append m p _ hp.arity (arity-negate m S.arithmetic (shift S.arithmetic by c g)
        (arity-shift m S.arithmetic by c g l hg.arity))) hl same
        ∙ ap₂ (λ d x. collect (field S) O (p ++ negate S.arithmetic (shift S.arithmetic d x g))) b
        n;
  }

-- the leads of divisors
pub leads_long : {X A : Type 0} (terms : X → Terms A) (m : ℕ) (xs : List X) (ls : List (List ℕ))
    → ls ≡ map lead_of (map terms xs) → All (λ x. (terms x ≢ []) × Arity m (terms x)) xs
    → All (λ d. length d ≡ m) ls
leads_long {X} {A} terms m xs ls e h = subst (All (λ d. length d ≡ m)) (sym e) (go xs h)
  where
    go : (xs : List X) → All (λ x. (terms x ≢ []) × Arity m (terms x)) xs
        → All (λ d. length d ≡ m) (map lead_of (map terms xs))
    go [] h = All-nil (λ d. length d ≡ m)
    go (x ∷ xs) h =
        let one = All-head (λ y. (terms y ≢ []) × Arity m (terms y)) x xs h in
        All-cons (λ d. length d ≡ m) (lead_of (terms x)) (map lead_of (map terms xs))
        (lead_long m (terms x) one.0 one.1)
        (go xs (All-tail (λ y. (terms y ≢ []) × Arity m (terms y)) x xs h))

-- the element's place has no part in what a cutting leaves
pub after_any : (S : Scalars) (O : Rank) (p g : Terms S.Elem) (t : List ℕ × S.Elem) (j k : ℕ)
    → after_cut (field S) O p (cutting_of S j t g) ≡ after_cut (field S) O p (cutting_of S k t g)
unfolding after_cut
after_any S O p g t j k = refl
