-- Terms behind leads that other leads divide, in scalars.
--   FoundBut S at gs p i k      the division rule without the element at the place `at` cancels the term at i of p by the element at k
--   FindsTerm S at ls p o       o is where it cancels a term of p, if it does, by elements with the leads ls
--   tail_of_places S gs i j k   the cutting of the term at j of the element at i by the element at k
--   TailAt S gs from i j k      that is the first cutting of a tail from the place `from` on, and its term stands behind the lead
--   FindsTail S from gs o       o is where the first cutting of a tail is from the place `from` on, if there is one
use Rattle.std.specs.Prelude.{◌≡◌, ◌<◌, ℕ, true, List, [], length, map, drop, get_or, Option, Some, None, MatchOption}
use Rattle.algebra.specs.Scalars.{Scalars, field}
use Rattle.polynomials.specs.Terms.{Terms}
use Rattle.machines.specs.Cut.{lead_of, divides, find_cut}
use Rattle.machines.specs.Tidying.{others, TailCut, tail_from}
use Rattle.divide.specs.Cutting.{term_at, cutting_of}
use Rattle.reduced_basis.specs.declared.tails.CutPlace.{CutPlace}
use Rattle.reduced_basis.specs.declared.tails.Tail.{Tail}

module _ (S : Scalars) where
  pub record FoundBut (at : ℕ) (gs : List (Terms S.Elem)) (p : Terms S.Elem) (i k : ℕ) : Type
      0 where
    pub term_in : i < length p
    pub element_in : k < length gs
    pub divided : divides (lead_of (get_or gs k [])) (term_at S p i).0 ≡ true
    pub is : find_cut (field S) (others at) gs p
        ≡ Some (cutting_of S k (term_at S p i) (get_or gs k []))

  abbrev pub FindsTerm : ℕ → List (List ℕ) → Terms S.Elem → Option CutPlace → Type 0
  FindsTerm at ls p o = (gs : List (Terms S.Elem)) → ls ≡ map lead_of gs
      → MatchOption o (find_cut (field S) (others at) gs p ≡ None)
      (λ a. FoundBut at gs p a.term a.divisor)

  abbrev pub tail_of_places : List (Terms S.Elem) → ℕ → ℕ → ℕ → TailCut S.Elem
  tail_of_places gs i j k = record {
    element = i;
    from = get_or gs i [];
    cutting = cutting_of S k (term_at S (get_or gs i []) j) (get_or gs k []);
  }

  pub record TailAt (gs : List (Terms S.Elem)) (from i j k : ℕ) : Type 0 where
    pub element_in : i < length gs
    pub term_in : j < length (get_or gs i [])
    pub behind : 0 < j
    pub divisor_in : k < length gs
    pub divided : divides (lead_of (get_or gs k [])) (term_at S (get_or gs i []) j).0 ≡ true
    pub is : tail_from (field S) gs from (drop from gs) ≡ Some (tail_of_places gs i j k)

  abbrev pub FindsTail : ℕ → List (Terms S.Elem) → Option Tail → Type 0
  FindsTail from gs o =
      MatchOption o (tail_from (field S) gs from (drop from gs) ≡ None)
      (λ a. TailAt gs from a.element a.term a.divisor)
