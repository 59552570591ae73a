-- One iteration of the variables of a class: its matrix times them, and the rest at the whole state.
--   matrix_of cs f        the linear parts of its polynomials in its own variables
--   class_next            the law
--   own_terms             where there is no cycle, each monomial with a variable of the class is that variable
--   entries_decide        lists of one length with the same entries are one
use Rattle.std.proofs.Common.{◌≡◌, inl, inr, ℕ, zero, suc, ◌<◌, List, [], ◌∷◌, length, T, refl, sym, ap, ◌∙◌, arith, ltb→lt}
use Rattle.algebra.specs.Each.{Each}
use Rattle.algebra.proofs.In.{each_from}
use Rattle.algebra.specs.In.{In}
use Rattle.algebra.specs.Ring.{Field, operations}
use Rattle.algebra.specs.Sum.{sum_over}
use Rattle.polynomials.specs.Terms.{Terms, coefficient, evaluate, value_at}
use Rattle.solvable_maps.specs.Dependency.{IsNonlinearCycle}
use Rattle.solvable_maps.specs.Class.{InClass}
use Rattle.solvable_maps.specs.Uses.{exponent, has, uses, strongly, poly_at, IsMap, unit}
use Rattle.solvable_maps.proofs.Reach.{or_out}
use Rattle.solvable_maps.proofs.Linear.{own_is_unit}
use Rattle.vectors.specs.Rows.{Row}
use Rattle.vectors.specs.Lists.{entries, below, below-past}
use Rattle.vectors.specs.Echelon.{total}
use Rattle.exponentials.proofs.Lists.{Distinct}
use Rattle.solvable_maps.specs.AfterIterations.{mine, rest_of, place}
use Rattle.solvable_maps.proofs.Parts.{value_split}
use Rattle.solvable_maps.proofs.ClassForms.{dot, row_at, IsNext}
use Rattle.vectors.proofs.EchelonKernel.{total_same}
use Rattle.vectors.proofs.ListLaws.{below-entry}
use Rattle.solvable_maps.proofs.Values.{values, iterations, iterations-length}

-- ---- where there is no cycle
module _ {A : Type 0} (m : ℕ) (f : List (Terms A)) (is : IsMap m f) (none : (vs : List ℕ)
    → IsNonlinearCycle (uses f) (strongly f) vs → ⊥) where
  mine_out : (cs : List ℕ) (e : List ℕ) → T (mine cs e) → (j : ℕ) × In j cs × T (has j e)
  mine_out [] e h = absurd h
  mine_out (k ∷ cs) e h =
      elim (or_out (has k e) (mine cs e) h) [
        | inl a ↦ (k, inl refl, a)
        | inr b ↦ (let r = mine_out cs e b in (r.0, inr r.1, r.2))
      ]

  pub own_terms : (i : ℕ) (cs : List ℕ) → ((j : ℕ) → In j cs → InClass (uses f) i j)
      → Each (λ (t : List ℕ × A). T (mine cs t.0) → (j : ℕ) × In j cs × (t.0 ≡ unit m j))
      (poly_at f i)
  own_terms i cs class =
      each_from (poly_at f i)
      (λ t inside h. (let r = mine_out cs t.0 h in (
        r.0,
        r.1,
        own_is_unit m f is none i r.0 (class r.0 r.1) t inside
            (ltb→lt 0 (exponent t.0 r.0) r.2),
      )))

module _ {A : Type 0} (F : Field A) where
  -- the entry of each polynomial's coefficients at the class's variables
  abbrev pub row_of : ℕ → (cs : List ℕ) → Terms A → Row F (length cs)
  row_of m cs p = (
    below F (length cs) (λ b. coefficient (operations F.ring) p (unit m (place cs b))),
    below-past F (length cs) (λ b. coefficient (operations F.ring) p (unit m (place cs b))),
  )

  abbrev pub matrix_of : ℕ → (cs : List ℕ) → List (Terms A) → List ℕ → List (Row F (length cs))
  matrix_of m cs f [] = []
  matrix_of m cs f (i ∷ is) = row_of m cs (poly_at f i) ∷ matrix_of m cs f is

  pub matrix-length : (m : ℕ) (cs : List ℕ) (f : List (Terms A)) (is : List ℕ)
      → length (matrix_of m cs f is) ≡ length is
  matrix-length m cs f [] = refl
  matrix-length m cs f (i ∷ is) = ap suc (matrix-length m cs f is)

  matrix-row : (m : ℕ) (cs : List ℕ) (f : List (Terms A)) (is : List ℕ) (a : ℕ) → a < length is
      → row_at F (length cs) (matrix_of m cs f is) a ≡ row_of m cs (poly_at f (place is a))
  matrix-row m cs f [] a l = absurd (omega arith)
  matrix-row m cs f (i ∷ is) zero l = refl
  matrix-row m cs f (i ∷ is) (suc a) l = matrix-row m cs f is a (omega arith)

  -- a sum over the class is a total over its places
  sum-total : (g : ℕ → A) (cs : List ℕ) → sum_over (operations F.ring) g cs ≡ total F (length cs)
      (λ b. g (place cs b))
  unfolding sum_over
  sum-total g [] = refl
  sum-total g (j ∷ cs) = ap (F.add (g j)) (sum-total g cs)

  module _ (m : ℕ) (f : List (Terms A)) (size : length f ≡ m) (cs : List ℕ)
      (distinct : Distinct (λ (x : ℕ). x) cs) (within : Each (λ j. j < m) cs)
      (linear : (a : ℕ) → a < length cs → Each (λ (t : List ℕ × A). T (mine cs t.0) → (j : ℕ)
      × In j cs × (t.0 ≡ unit m j)) (poly_at f (place cs a))) where
    -- the value of a polynomial, and of each
    abbrev pub value : Terms A → List A → A
    value p s = value_at (operations F.ring) p s

    values-entry : (g : List (Terms A)) (s : List A) (i : ℕ)
        → entries F (values (operations F.ring) g s) i ≡ value (poly_at g i) s
    unfolding evaluate sum_over
    values-entry [] s i = refl
    values-entry (p ∷ g) s zero = refl
    values-entry (p ∷ g) s (suc i) = values-entry g s i

    -- the variables of the class after n iterations, and what the rest of its polynomials says there
    abbrev pub own : List A → ℕ → ℕ → A
    own s n a = entries F (iterations (operations F.ring) f n s) (place cs a)

    abbrev pub rest : List A → ℕ → ℕ → A
    rest s n a = value (rest_of cs (poly_at f (place cs a))) (iterations (operations F.ring) f n s)

    pub class_next : (s : List A) → length s ≡ m → IsNext F (length cs) (matrix_of m cs f cs)
        (matrix-length m cs f cs) (own s) (rest s)
    class_next s l = record {
      is = λ n a k.
          values-entry f (iterations (operations F.ring) f n s) (place cs a)
          ∙ value_split F m cs distinct within (iterations (operations F.ring) f n s)
          (iterations-length (operations F.ring) f m size n s l) (poly_at f (place cs a))
          (linear a k)
          ∙ ap (λ z. F.add z (rest s n a))
          (sum-total (λ j. F.mul (coefficient (operations F.ring) (poly_at f (place cs a))
          (unit m j)) (entries F (iterations (operations F.ring) f n s) j)) cs
          ∙ total_same F (length cs) _ (λ b. F.mul ((row_of m cs (poly_at f (place cs a))).0 b)
          (own s n b))
          (λ b q. ap (λ z. F.mul z (own s n b))
          (sym (below-entry F (length cs) (λ b. coefficient (operations F.ring)
          (poly_at f (place cs a)) (unit m (place cs b))) b q)))
          ∙ ap (λ (r : Row F (length cs)). dot F (length cs) r.0 (own s n))
          (sym (matrix-row m cs f cs a k)));
    }
