-- Places of cancellations, in scalars.
--   term_at S p i              the term of p at the place i
--   cutting_of S k t g         the cutting of the term t by g, the element at place k
--   FoundAt S gs p i k         the division rule cancels the term at i of p by the element at k
--   FindsTerm S ls p o         o is where it cancels a term of p, if it does, by elements with the leads ls
--   Cuts S O p t g by c left   `by` and c are the factor of the cutting of the term t of p by g, and left is what it leaves
use Rattle.std.specs.Prelude.{◌≡◌, ◌<◌, ℕ, true, List, [], length, map, get_or, Option, Some, None, MatchOption}
use Rattle.algebra.specs.Scalars.{Scalars, field}
use Rattle.polynomials.specs.Terms.{Terms}
use Rattle.polynomials.specs.Order.{Rank}
use Rattle.polynomials.specs.Exponent.{over}
use Rattle.machines.specs.Cut.{Cutting, lead_of, lead_number, divides, find_cut, all_places, after_cut}
use Rattle.divide.specs.declared.current.CutPlace.{CutPlace}

module _ (S : Scalars) where
  abbrev pub term_at : Terms S.Elem → ℕ → List ℕ × S.Elem
  term_at p i = get_or p i ([], S.zero)

  abbrev pub cutting_of : ℕ → List ℕ × S.Elem → Terms S.Elem → Cutting S.Elem
  cutting_of k t g = record {
    place = k;
    term = t;
    by = over t.0 (lead_of g);
    number = S.mul t.1 (S.inverse (lead_number (field S) g));
    of = g;
  }

  pub record FoundAt (gs : List (Terms S.Elem)) (p : Terms S.Elem) (i k : ℕ) : Type 0 where
    pub term_in : i < length p
    pub element_in : k < length gs
    pub divided : divides (lead_of (get_or gs k [])) (term_at p i).0 ≡ true
    pub is : find_cut (field S) all_places gs p ≡ Some (cutting_of k (term_at p i) (get_or gs k []))

  abbrev pub FindsTerm : List (List ℕ) → Terms S.Elem → Option CutPlace → Type 0
  FindsTerm ls p o = (gs : List (Terms S.Elem)) → ls ≡ map lead_of gs
      → MatchOption o (find_cut (field S) all_places gs p ≡ None)
      (λ a. FoundAt gs p a.term a.element)

  pub record Cuts (O : Rank) (p : Terms S.Elem) (t : List ℕ × S.Elem) (g : Terms S.Elem)
      (by : List ℕ) (number : S.Elem) (left : Terms S.Elem) : Type 0 where
    pub by_is : by ≡ (cutting_of 0 t g).by
    pub number_is : number ≡ (cutting_of 0 t g).number
    pub left_is : left ≡ after_cut (field S) O p (cutting_of 0 t g)
