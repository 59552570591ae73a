-- Samples: runs from given numbers by given words, and the values of monomials at their ends modulo a number.
--   letters b ns                letters by the numbers ns, of a loop with b branches
--   start_at program ns           the start of a program whose free variables have the numbers ns, each at the variable's place
--   IsRunFrom program ns word r   the run r has this start and this word
--   IsSampleState program q ns word xs     xs are residues of the numbers at its end
--   IsRowOf program q es ns word row       the row has residues of the monomials es there
use Rattle.std.specs.Prelude.{◌≡◌, ℕ, suc, ◌%◌, ℤ, pos, List, map}
use Rattle.algebra.specs.Fraction.{Fraction, ℚ, whole}
use Rattle.polynomials.specs.Terms.{value_at, monomial_at}
use Rattle.loops.specs.Map.{start_map}
use Rattle.loops.specs.Program.{Expr, Program}
use Rattle.loops.specs.Run.{Run}
use Rattle.closures.specs.Modulo.{AreResidues}

abbrev pub letters : ℕ → List ℕ → List ℕ
letters b ns = map (λ n. suc (n % b)) ns

module _ {At : Type 0} (program : Program (Expr At)) where
  abbrev pub start_at : List ℕ → List Fraction
  start_at ns = map (λ p. value_at ℚ p (map (λ n. whole (pos n)) ns)) (start_map program)

  pub record IsRunFrom (ns word : List ℕ) (run : Run program) : Type 0 where
    pub start : run.start ≡ start_at ns
    pub is_word : run.word ≡ word

  pub record IsSampleState (q : ℤ) (ns word : List ℕ) (xs : List ℤ) : Type 0 where
    pub run : Run program
    pub from : IsRunFrom ns word run
    pub residues : AreResidues q run.end xs

  pub record IsRowOf (q : ℤ) (es : List (List ℕ)) (ns word : List ℕ) (row : List ℤ) : Type
      0 where
    pub run : Run program
    pub from : IsRunFrom ns word run
    pub residues : AreResidues q (map (monomial_at ℚ run.end) es) row
