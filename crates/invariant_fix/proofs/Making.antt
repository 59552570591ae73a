-- The list of code, as code makes it.
--   more_places, all_places     what the variables were, one after another
--   before_count, before_some, before_arity, before_over      how many these are, and over how many variables
--   put_at, block_at, over_at, past_at     an element, as it is put;  difference_at, past_value_at: a difference
--   value_at, value_arity     the value of a variable
--   differs                   a difference
--   one_difference, no_difference    the differences, one after another;  past_difference: one of them is past
use Rattle.std.proofs.Common.{◌≡◌, ◌⊎◌, inl, inr, ℕ, zero, suc, ◌+◌, ◌<◌, ◌≤◌, Bool, true, false, cond, List, [], ◌∷◌, ◌++◌, map, get_or, length, refl, sym, ap, ap₂, subst, subst₂, ◌∙◌, arith}
use Rattle.std.specs.List.{Any}
use Rattle.std.proofs.lemmas.List.{length-map, get_or-map, map-append, append_assoc}
use Rattle.algebra.specs.Fraction.{Fraction, ℚ, rationals, fractions}
use Rattle.algebra.proofs.Fractions.{ℚ_ring}
use Rattle.polynomials.specs.Order.{grevlex, blocks}
use Rattle.polynomials.specs.Terms.{Terms, Same, compose, negate}
use Rattle.polynomials.specs.Weight.{IsPastComposition, IsPastSum}
use Rattle.polynomials.proofs.Same.{Same-refl, Same-trans, same_append, same_negate}
use Rattle.machines.specs.Collect.{collect}
use Rattle.poly.specs.Seen.{arity_of, terms_in, terms_each}
use Rattle.poly.proofs.Standing.{first_arity}
use Rattle.loop_model.specs.FracPoly.{FracPoly}
use Rattle.ideal_ops.specs.Calls.{AreOver}
use Rattle.invariant_fix.specs.Blocked.{Blocked}
use Rattle.loop_model.specs.declared.statement.Statement as code
use Rattle.loop_runs.specs.Parts.{statements_in}
use Rattle.corollaries.specs.CodeBetween.{variable_of, list_from, copy_of, copies, was_at, was, assigned_variables}
use Rattle.corollaries.proofs.CodeBetween.{listed_next, copy_is, copy_within}
use Rattle.invariant_fix.specs.Code.{assigned_by, all, place_before, AreBefore, in_code_order, put_value, IsPastValueOf, IsPastValue, IsCodeInWork, AreThereBefore}
use Rattle.invariant_fix.specs.declared.chain_code.CodeInWork.{CodeInWork}
use Rattle.invariant_fix.proofs.Assigned.{more_assigned, same_assigned}

-- ---- what the variables were
module _ (m : ℕ) (b : List code.Statement) where
  before_at : (v : ℕ) → variable_of (all m b) (place_before m b v) ≡ was_at m (statements_in b) v
  before_at v = go (assigned_by b v)
    where
      go : (t : Bool)
          → variable_of (all m b) (cond t (copy_of (statements_in b) v) (copies m (statements_in b)
          + v)) ≡ cond t (variable_of (all m b) (copy_of (statements_in b) v))
          (variable_of (all m b) (copies m (statements_in b) + v))
      go true = refl
      go false = refl

  pub more_places : (v : ℕ) (ps : List FracPoly) {news : List FracPoly} (p : FracPoly)
      → news ≡ ps ++ p ∷ [] → terms_in p ≡ variable_of (all m b) (place_before m b v)
      → terms_each ps ≡ list_from 0 v (was_at m (statements_in b))
      → terms_each news ≡ list_from 0 (v + 1) (was_at m (statements_in b))
  more_places v ps p e is h =
      ap terms_each e ∙ map-append terms_in ps (p ∷ [])
      ∙ ap₂ (λ xs x. xs ++ x ∷ []) h (is ∙ before_at v)
      ∙ sym (ap (λ k. list_from 0 k (was_at m (statements_in b)))
      (let q : v + 1 ≡ suc v = omega arith in q) ∙ listed_next (was_at m (statements_in b)) 0 v
      ∙ ap (λ k. list_from 0 v (was_at m (statements_in b)) ++ was_at m (statements_in b) k ∷ [])
      (let q : 0 + v ≡ v = omega arith in q))

  pub all_places : (v : ℕ) (ps : List FracPoly) → v ≤ m → m ≤ v
      → terms_each ps ≡ list_from 0 v (was_at m (statements_in b))
      → terms_each ps ≡ was m (statements_in b)
  all_places v ps x y h = h ∙ ap (λ k. list_from 0 k (was_at m (statements_in b)))
      (let q : v ≡ m = omega (arith, x, y) in q)

  module _ (ps : List FracPoly) (are : AreBefore m b ps) where
    length-listed : {A : Type 0} (i n : ℕ) (f : ℕ → A) → length (list_from i n f) ≡ n
    length-listed i zero f = refl
    length-listed i (suc n) f = ap suc (length-listed (suc i) n f)

    pub before_count : length ps ≡ m
    before_count = sym (length-map ps terms_in) ∙ ap length are.0
        ∙ length-listed 0 m (was_at m (statements_in b))

pub before_some : {w : CodeInWork} → IsCodeInWork w → (ps : List FracPoly) → AreThereBefore w ps
    → 0 < length ps
before_some {w} h ps are =
    let a = before_count (length w.values.now) w.code.now ps are in
    let b = h.some in
    omega (arith, a, b)

-- ---- over how many variables
module _ {n : ℕ} (ps : List FracPoly) (over : AreOver n ps) (some : 0 < length ps) where
  pub before_arity : arity_of ps ≡ n
  before_arity = first_arity n ps over some

  pub before_over : AreOver (arity_of ps) ps
  before_over = subst (λ k. AreOver k ps) (sym before_arity) over

-- an element as it is put
module _ {w : CodeInWork} (u : IsCodeInWork w) (ps : List FracPoly) (are : AreThereBefore w ps)
    (n : ℕ) (size : n ≡ length w.values.now) where
  abbrev m : ℕ
  m = length w.values.now

  abbrev b : List code.Statement
  b = w.code.now

  abbrev k : ℕ
  k = w.copies

  pub put_at : (g : Terms Fraction) (p : Blocked)
      → terms_in p ≡ collect rationals (blocks k grevlex grevlex)
      (compose ℚ (k + n) g (terms_each ps)) → terms_in p ≡ in_code_order m b g
  put_at g p h = h
      ∙ ap₂ (λ (k n : ℕ). collect rationals (blocks k grevlex grevlex)
      (compose ℚ (k + n) g (terms_each ps))) u.count size
      ∙ ap (λ qs. collect rationals (blocks (copies m (statements_in b)) grevlex grevlex)
      (compose ℚ (copies m (statements_in b) + m) g qs)) are.0

  pub block_at : (p : Blocked) → (p.order.first ≡ k) × (p.arity ≡ k + n)
      → (p.order.first ≡ copies m (statements_in b)) × (p.arity ≡ all m b)
  block_at p h = (h.0 ∙ u.count, h.1 ∙ ap₂ ◌+◌ u.count size)

  pub over_at : AreOver (k + n) ps
  over_at = subst (λ j. AreOver j ps) (sym (ap₂ ◌+◌ u.count size)) are.1

  pub past_at : (g : Terms Fraction) → IsPastComposition fractions g (terms_each ps)
      → IsPastComposition fractions g (was m (statements_in b))
  past_at g p = subst (IsPastComposition fractions g) are.0 p

  -- and a difference
  pub difference_at : (v : ℕ) (f : Terms Fraction) (p : Blocked)
      → terms_in p ≡ collect rationals (blocks k grevlex grevlex) (variable_of (k + n) (k + v)
      ++ negate ℚ (compose ℚ (k + n) f (terms_each ps))) → terms_in p ≡ put_value m b v f
  difference_at v f p h = h
      ∙ ap₂ (λ (k n : ℕ). collect rationals (blocks k grevlex grevlex)
      (variable_of (k + n) (k + v) ++ negate ℚ (compose ℚ (k + n) f (terms_each ps)))) u.count size
      ∙ ap (λ qs. collect rationals (blocks (copies m (statements_in b)) grevlex grevlex)
      (variable_of (copies m (statements_in b) + m) (copies m (statements_in b) + v)
      ++ negate ℚ (compose ℚ (copies m (statements_in b) + m) f qs))) are.0

  pub past_value_at : (v : ℕ) (f : Terms Fraction) → IsPastComposition fractions f (terms_each ps)
      ⊎ IsPastSum fractions (variable_of (k + n) (k + v))
      (collect rationals grevlex (compose ℚ (k + n) f (terms_each ps))) → IsPastValueOf m b f v
  past_value_at v f (inl p) = inl (past_at f p)
  past_value_at v f (inr p) = inr (subst (λ qs. IsPastSum fractions
      (variable_of (copies m (statements_in b) + m) (copies m (statements_in b) + v))
      (collect rationals grevlex (compose ℚ (copies m (statements_in b) + m) f qs))) are.0
      (subst₂ (λ (k n : ℕ). IsPastSum fractions (variable_of (k + n) (k + v))
      (collect rationals grevlex (compose ℚ (k + n) f (terms_each ps)))) u.count size p))

-- the value of a variable, by its place
module _ (fs : List FracPoly) (v : ℕ) (q : FracPoly) (l : v < length fs) (is : q ≡ get_or fs v q)
  where
    pub value_at : terms_in q ≡ get_or (terms_each fs) v []
    value_at = ap terms_in is ∙ sym (get_or-map terms_in fs v q [] l)

    pub value_arity : AreOver (length fs) fs → q.arity ≡ length fs
    value_arity over = ap (λ (p : FracPoly). p.arity) is ∙ over v q l

-- a difference
pub differs : (x y : FracPoly) (u w : Terms Fraction) (d : Terms Fraction) → terms_in x ≡ u
    → Same ℚ (terms_in y) w → Same ℚ d (terms_in x ++ negate ℚ (terms_in y))
    → Same ℚ d (u ++ negate ℚ w)
differs x y u w d e s t =
    Same-trans ℚ t
    (same_append ℚ_ring (subst (λ z. Same ℚ (terms_in x) z) e (Same-refl ℚ (terms_in x)))
    (same_negate ℚ_ring s))

-- ---- the differences, one after another
module _ (b : List code.Statement) (fs : List FracPoly) (v : ℕ) where
  abbrev less_at : ℕ → Terms Fraction
  less_at y = put_value (length fs) b y (get_or (terms_each fs) y [])

  pub one_difference : (first : List (Terms Fraction)) (gens : List Blocked) {news : List Blocked}
      (p : Blocked) → assigned_by b v ≡ true → news ≡ gens ++ p ∷ [] → terms_in p ≡ less_at v
      → terms_each gens ≡ first ++ map less_at (assigned_variables v (statements_in b))
      → terms_each news ≡ first ++ map less_at (assigned_variables (v + 1) (statements_in b))
  one_difference first gens p t e is h =
      ap terms_each e ∙ map-append terms_in gens (p ∷ []) ∙ ap₂ (λ xs x. xs ++ x ∷ []) h is
      ∙ append_assoc first (map less_at (assigned_variables v (statements_in b))) (less_at v ∷ [])
      ∙ ap (λ l. first ++ l) (sym (ap (map less_at) (more_assigned b v t)
      ∙ map-append less_at (assigned_variables v (statements_in b)) (v ∷ [])))

  pub no_difference : (first : List (Terms Fraction)) {now : List (Terms Fraction)}
      → assigned_by b v ≡ false
      → now ≡ first ++ map less_at (assigned_variables v (statements_in b))
      → now ≡ first ++ map less_at (assigned_variables (v + 1) (statements_in b))
  no_difference first t h = h ∙ ap (λ l. first ++ map less_at l) (sym (same_assigned b v t))

  pub past_difference : v < length fs → assigned_by b v ≡ true → IsPastValue b fs v
      → Any (IsPastValue b fs) (assigned_variables (length fs) (statements_in b))
  past_difference l t p = (
    copy_of (statements_in b) v,
    v,
    copy_within (statements_in b) (length fs) v l t,
    copy_is (statements_in b) (length fs) v l t v,
    p,
  )
