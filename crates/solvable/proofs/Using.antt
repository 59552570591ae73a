-- The variables that the polynomials of a map use, by their terms.
--   FracPoly, length_each, arity_at      a polynomial as the code has it; as many lists of terms as polynomials; the number of variables of one of them
--   is_map, poly_at-is     the lists of terms are a map; one of them is the terms of the polynomial at this place
--   to_false               a test that isn't met is false
use Rattle.std.proofs.Common.{◌≡◌, ◌⊎◌, inl, inr, ◌<◌, ◌≤◌, ℕ, zero, suc, ◌+◌, Option, Some, None, Vec, Global, Bool, true, false, List, [], ◌∷◌, ◌&&◌, ◌||◌, map, length, get_or, drop, sum, All, T, ltb, lt→ltb, ltb→lt, refl, sym, ap, ap₂, subst, ◌∙◌, arith, drop-cons, add-one}
use mathlib.Core.Path.{fun_ext}
use Rattle.std.proofs.lemmas.Bool.{cases_lt}
use Rattle.algebra.specs.Each.{Each}
use Rattle.algebra.proofs.Basics.{to_true, both_in, both_out}
use Rattle.algebra.specs.Fraction.{Fraction}
use Rattle.polynomials.specs.Terms.{Terms}
use Rattle.polynomials.specs.Polynomial.{Arity}
use Rattle.solvable_maps.specs.Dependency.{IsNonlinearCycle, IsLeastCycle}
use Rattle.solvable_maps.specs.Class.{AreClasses}
use Rattle.solvable.specs.Refusal.{IsAnswer}
use Rattle.solvable_maps.specs.Uses.{any, has, exponent, degree, poly_at, uses, strongly, IsMap}
use Rattle.solvable_maps.proofs.Exponents.{exponent-get, degree-sum}
use Rattle.solvable_maps.proofs.Linear.{exponent_degree, map_bounded, strongly_uses}
use Rattle.poly.specs.View.{terms_of}
use Rattle.poly.specs.declared.Term.{Term}
use Rattle.frac128.specs.declared.fraction.Frac.{Frac}
use Rattle.frac128.specs.contracts.fraction.FracRing.TheImpl as FracRing
use Rattle.frac128.specs.contracts.fraction.FracPartialEq.TheImpl as FracPartialEq
use Rattle.monos.specs.declared.order.Grevlex.{Grevlex}
use Rattle.monos.specs.contracts.order.GrevlexOrder.TheImpl as GrevlexOrder
use Rattle.monos.specs.contracts.order.GrevlexPartialEq.TheImpl as GrevlexPartialEq
use Rattle.poly.specs.declared.Poly.{Poly}
use Rattle.poly.specs.Seen.{terms_in, terms_each}
use Rattle.poly.proofs.Standing.{arities_over}
use Rattle.solvable.specs.Tables.{at, IsTable}
use Rattle.solvable.specs.Terms.{has_above, is_used}
use Rattle.solvable.proofs.Rows.{Rows, at_inside}

-- ---- one term
pub has_now : (below j : ℕ) (e : List ℕ) (x d : ℕ) → x ≡ get_or e j 0 → 0 < x → d ≡ sum e
    → below < d → has_above below j e ≡ true
has_now below j e x d p h q k =
    to_true (has_above below j e)
    (both_in (has j e) (ltb below (degree e))
    (lt→ltb 0 (exponent e j) (subst (λ y. 0 < y) (p ∙ sym (exponent-get e j)) h))
    (lt→ltb below (degree e) (subst (λ y. below < y) (q ∙ sym (degree-sum e)) k)))

pub to_false : (b : Bool) → (T b → ⊥) → b ≡ false
to_false true f = absurd (f tt)
to_false false f = refl

pub has_not : (below j : ℕ) (e : List ℕ) (x : ℕ) → x ≡ get_or e j 0 → x ≤ 0
    → has_above below j e ≡ false
has_not below j e x p h =
    to_false (has_above below j e)
    (λ t. (let l : 0 < exponent e j =
    ltb→lt 0 (exponent e j) (both_out (has j e) (ltb below (degree e)) t).0 in
    let q : x ≡ exponent e j = p ∙ sym (exponent-get e j) in absurd (omega arith)))

pub has_low : (below j : ℕ) (e : List ℕ) (d : ℕ) → d ≡ sum e → d ≤ below
    → has_above below j e ≡ false
has_low below j e d q k =
    to_false (has_above below j e)
    (λ t. (let l : below < degree e =
    ltb→lt below (degree e) (both_out (has j e) (ltb below (degree e)) t).1 in
    let r : d ≡ degree e = q ∙ sym (degree-sum e) in absurd (omega arith)))

-- ---- a loop over the terms
module _ {K E : Type 0} (meaning : K → E) (test : List ℕ → Bool) where
  abbrev any_of : List (Term K) → Bool
  any_of ts = any test (terms_of meaning ts)

  next_term : (i : ℕ) (ts : List (Term K)) (t : Term K) → i < length ts → t ≡ get_or ts i t
      → any_of (drop i ts) ≡ (test t.mono || any_of (drop (i + 1) ts))
  next_term i ts t h e = ap any_of (drop-cons ts i t h ∙ ap (λ u. u ∷ drop (suc i) ts) (sym e))
      ∙ ap (λ k. test t.mono || any_of (drop k ts)) (sym (add-one i))

  pub found_term : (i : ℕ) (ts : List (Term K)) (t : Term K) (all : Bool) → i < length ts
      → t ≡ get_or ts i t → test t.mono ≡ true → all ≡ any_of (drop i ts) → true ≡ all
  found_term i ts t all h e p q = sym (q ∙ next_term i ts t h e
      ∙ ap (λ b. b || any_of (drop (i + 1) ts)) p)

  pub passed_term : (i : ℕ) (ts : List (Term K)) (t : Term K) (all : Bool) → i < length ts
      → t ≡ get_or ts i t → test t.mono ≡ false → all ≡ any_of (drop i ts)
      → all ≡ any_of (drop (i + 1) ts)
  passed_term i ts t all h e p q = q ∙ next_term i ts t h e
      ∙ ap (λ b. b || any_of (drop (i + 1) ts)) p

pub term_arity : {K E : Type 0} (meaning : K → E) (m i : ℕ) (ts : List (Term K)) (t : Term K)
    → i < length ts → t ≡ get_or ts i t → Arity m (terms_of meaning ts) → length t.mono ≡ m
unfolding Each
term_arity meaning m i [] t h e a = absurd (omega arith)
term_arity meaning m zero (u ∷ ts) t h e a = ap (λ (v : Term _). length v.mono) e ∙ a.0
term_arity meaning m (suc i) (u ∷ ts) t h e a = term_arity meaning m i ts t (omega arith) e a.1

-- ---- tables of a map
-- a table of a test that is false outside is the test
pub same_table : (m : ℕ) (f : ℕ → ℕ → Bool) (t : Rows) → ((i j : ℕ) → T (f i j) → (i < m) × (j < m))
    → IsTable m (λ i j b. b ≡ f i j) t → at t ≡ f
same_table m f t bounded s = fun_ext (λ i. fun_ext (λ j. same i j (cases_lt i m) (cases_lt j m)))
  where
    outside : (i j : ℕ) → ((i < m) × (j < m) → ⊥) → at t i j ≡ f i j
    outside i j n = to_false (at t i j) (λ h. n (at_inside m t s.square i j h))
        ∙ sym (to_false (f i j) (λ h. n (bounded i j h)))

    same : (i j : ℕ) → (i < m) ⊎ (m ≤ i) → (j < m) ⊎ (m ≤ j) → at t i j ≡ f i j
    same i j (inl h) (inl k) = s.each i j h k
    same i j (inl h) (inr k) = outside i j (λ b. (let l : j < m = b.1 in absurd (omega arith)))
    same i j (inr h) k = outside i j (λ b. (let l : i < m = b.0 in absurd (omega arith)))

has_any : (j : ℕ) (e : List ℕ) → has_above 0 j e ≡ has j e
has_any j e = go (has j e) refl
  where
    go : (b : Bool) → has j e ≡ b → has_above 0 j e ≡ b
    go true h =
        let some : 0 < exponent e j = ltb→lt 0 (exponent e j) (subst T (sym h) tt) in
        ap₂ ◌&&◌ h (to_true (ltb 0 (degree e)) (lt→ltb 0 (degree e) (let d = exponent_degree e j in
        omega (arith, d, some))))
    go false h = ap (λ b. b && ltb 0 (degree e)) h

used_any : (map : List (Terms Fraction)) (i j : ℕ) → is_used 0 map i j ≡ uses map i j
used_any map i j = ap (λ test. any test (poly_at map i)) (fun_ext (has_any j))

module _ (m : ℕ) (map : List (Terms Fraction)) (is : IsMap m map) where
  pub used_table : (t : Rows) → IsTable m (λ i j b. b ≡ is_used 0 map i j) t → at t ≡ uses map
  used_table t s = same_table m (uses map) t (map_bounded m map is)
      (record { square = s.square; each = λ i j h k. s.each i j h k ∙ used_any map i j })

  pub strong_table : (t : Rows) → IsTable m (λ i j b. b ≡ is_used 1 map i j) t → at t ≡ strongly map
  strong_table t s = same_table m (strongly map) t (λ i j h.
      map_bounded m map is i j (strongly_uses m map is i j h)) (record {
        square = s.square;
        each = λ i j h k. s.each i j h k;
      })

  pub linear_tables : (t u : Rows) → IsTable m (λ i j b. b ≡ is_used 0 map i j) t
      → IsTable m (λ i j b. b ≡ is_used 1 map i j) u → (i j : ℕ) → T (at u i j) → T (at t i j)
  linear_tables t u s r i j h = subst (λ f. T (f i j)) (sym (used_table t s))
      (strongly_uses m map is i j (subst (λ f. T (f i j)) (strong_table u r) h))

-- ---- over what the code has
abbrev pub FracPoly : Type 0
FracPoly = Poly Frac Grevlex FracRing.ghosts FracPartialEq.ghosts GrevlexOrder.ghosts
    GrevlexPartialEq.ghosts

pub length_each : (images : List FracPoly) → length (terms_each images) ≡ length images
length_each [] = refl
length_each (p ∷ images) = ap suc (length_each images)

pub is_map : (images : List FracPoly) → All (λ p. p.arity ≡ length images) images
    → IsMap (length images) (terms_each images)
is_map images a = record {
  size = length_each images;
  arity = arities_over (length images) images
      a;
}

pub poly_at-is : (images : List FracPoly) (i : ℕ) (p : FracPoly) → i < length images
    → p ≡ get_or images i p → poly_at (terms_each images) i ≡ terms_in p
poly_at-is [] i p h e = absurd (omega arith)
poly_at-is (q ∷ images) zero p h e = ap (λ (r : FracPoly). terms_in r) (sym e)
poly_at-is (q ∷ images) (suc i) p h e = poly_at-is images i p (omega arith) e

pub arity_at : (images : List FracPoly) (m i : ℕ) (p : FracPoly) → i < length images
    → p ≡ get_or images i p → All (λ p. p.arity ≡ m) images → p.arity ≡ m
arity_at images m i p h e a = subst (λ (q : FracPoly). q.arity ≡ m) (sym e) (a i p h)

-- ---- what is told of the map
module _ (images : List FracPoly) (a : All (λ p. p.arity ≡ length images) images) (t u : Rows) where
  abbrev I : List (Terms Fraction)
  I = terms_each images

  abbrev Told : Type 0
  Told = IsTable (length images) (λ i j b. b ≡ is_used 0 I i j) t
      × IsTable (length images) (λ i j b. b ≡ is_used 1 I i j) u

  pub answer_is : (found : Option (Vec ℕ Global)) → Told → IsAnswer (at t) (at u) found
      → IsAnswer (uses I) (strongly I) found
  answer_is found d h =
      subst (λ f. IsAnswer f (strongly I) found) (used_table (length images) I (is_map images a) t
      d.0)
      (subst (λ f. IsAnswer (at t) f found) (strong_table (length images) I (is_map images a) u d.1)
      h)

  pub classes_are : (gs : List (List ℕ)) → Told → AreClasses (at t) (length t) [] gs
      → AreClasses (uses I) (length I) [] gs
  classes_are gs d h = subst (λ n. AreClasses (uses I) n [] gs) (sym (length_each images))
      (subst (λ f. AreClasses f (length images) [] gs) (used_table (length images) I
      (is_map images a) t d.0) (subst (λ n. AreClasses (at t) n [] gs) d.0.square.size h))

pub some_answer : (uses strongly : ℕ → ℕ → Bool) (found : Option (Vec ℕ Global))
    (cycle : Vec ℕ Global) → found ≡ Some cycle → IsAnswer uses strongly found
    → IsLeastCycle uses strongly cycle.items
some_answer uses strongly found cycle e h = subst (IsAnswer uses strongly) e h

pub no_answer : (uses strongly : ℕ → ℕ → Bool) (found : Option (Vec ℕ Global)) → found ≡ None
    → IsAnswer uses strongly found → (vs : List ℕ) → IsNonlinearCycle uses strongly vs → ⊥
no_answer uses strongly found e h = subst (IsAnswer uses strongly) e h
