-- S-polynomials as sums of products below the least common multiple of the leads (Cox, Little and O'Shea, 2.9). By Buchberger's criterion a
-- list all of whose pairs have such sums is a Gröbner basis.
--   pairs_of n             the pairs of places below n, the lower one first, by the first and then by the second
--   IsLeadBelow F O e p    the lead of p, if p isn't 0, is below e
--   AreBelow F O e qs gs   so it is for the products of the qs with the gs, place by place
--   IsLcmRepresentation F O gs a qs     the S-polynomial of the pair a of the list is the sum of the products of the qs with it, and these are
--                          below the least common multiple of the pair's leads
use Rattle.std.specs.Prelude.{◌≡◌, ℕ, suc, ◌-◌, List, [], ◌∷◌, map, flat_map}
use Rattle.std.specs.declared.cmp.Ordering.TheVariants.{Less}
use Rattle.algebra.specs.FieldArithmetic.{FieldArithmetic}
use Rattle.polynomials.specs.Terms.{Terms, Same, times, combination}
use Rattle.polynomials.specs.Order.{Rank, compare}
use Rattle.polynomials.specs.Degree.{IsLead}
use Rattle.exponentials.specs.Table.{numbers}
use Rattle.machines.specs.Pairs.{multiple}
use Rattle.machines.specs.Completion.{leads, s_polynomial}

unfoldable pub pairs_of : ℕ → List (ℕ × ℕ)
pairs_of n = flat_map (λ i. map (λ j. (i, j)) (numbers (suc i) (n - suc i))) (numbers 0 n)

module _ {A : Type 0} (F : FieldArithmetic A) (O : Rank) where
  abbrev pub IsLeadBelow : List ℕ → Terms A → Type 0
  IsLeadBelow e p = (d : List ℕ) → IsLead F.arithmetic O d p → compare O d e ≡ Less

  unfoldable pub AreBelow : List ℕ → List (Terms A) → List (Terms A) → Type 0
  AreBelow e [] gs = Unit {0}
  AreBelow e (q ∷ qs) [] = Unit {0}
  AreBelow e (q ∷ qs) (g ∷ gs) = IsLeadBelow e (times F.arithmetic q g) × AreBelow e qs gs

  abbrev pub IsLcmRepresentation : List (Terms A) → ℕ × ℕ → List (Terms A) → Type 0
  IsLcmRepresentation gs a qs =
      Same F.arithmetic (s_polynomial F O gs a) (combination F.arithmetic qs gs)
      × AreBelow (multiple (leads gs) a) qs gs
