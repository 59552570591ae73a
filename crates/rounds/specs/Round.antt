-- Rounds: what each list is, by the lists before it. `gs` is the list that a round begins with.
--   IsOrbitAt program gs i times hs     hs generate the polynomials that, composed with times n iterations of branch i for each n, are members of the ideal of gs
--   IsOrbit program gs i hs      so with any number of iterations
--   IsAfter program gs R hs      hs generate the polynomials that, composed with t iterations of branch i for each i and t of which R holds, are members of the ideal of gs
--   IsSoFar program gs j hs      hs is the list so far after branch j: so for the branches 1 to j, and any number of iterations
--   IsClosed program gs          each of gs composed with the map of each branch is a member of their ideal
--   IsRound program I k gs       gs is the list of round k: round 0 generates I, and each further round follows one that isn't closed
use Rattle.std.specs.Prelude.{ℕ, suc, ◌<◌, List, [], replicate, get_or, length}
use Rattle.algebra.specs.Fraction.{Fraction, ℚ}
use Rattle.polynomials.specs.Terms.{Terms}
use Rattle.ideals.specs.Members.{IsMember}
use Rattle.loops.specs.Program.{Expr, Program}
use Rattle.rounds.specs.Word.{LettersTo, IsLetter, after_iteration, after_word}
use Rattle.rounds.specs.Generate.{Generates}

module _ {At : Type 0} (program : Program (Expr At)) where
  abbrev pub IsOrbitAt : List (Terms Fraction) → ℕ → (ℕ → ℕ) → List (Terms Fraction) → Type 0
  IsOrbitAt gs i times hs =
      Generates (length program.names) hs (λ p. (n : ℕ)
      → IsMember ℚ (length program.names) gs (after_word program (replicate (times n) i) p))

  abbrev pub IsOrbit : List (Terms Fraction) → ℕ → List (Terms Fraction) → Type 0
  IsOrbit gs i hs = IsOrbitAt gs i (λ n. n) hs

  abbrev pub IsAfter : List (Terms Fraction) → (ℕ → ℕ → Type 0) → List (Terms Fraction) → Type 0
  IsAfter gs R hs =
      Generates (length program.names) hs (λ p. (i t : ℕ) → R i t
      → IsMember ℚ (length program.names) gs (after_word program (replicate t i) p))

  abbrev pub IsSoFar : List (Terms Fraction) → ℕ → List (Terms Fraction) → Type 0
  IsSoFar gs j hs = IsAfter gs (LettersTo j) hs

  pub record IsClosed (gs : List (Terms Fraction)) : Type 0 where
    pub turned : (b i : ℕ) → IsLetter program b → i < length gs
        → IsMember ℚ (length program.names) gs (after_iteration program b (get_or gs i []))

  pub data IsRound (I : Terms Fraction → Type 0) : ℕ → List (Terms Fraction) → Type 0 where
    start : (gs : List (Terms Fraction)) → Generates (length program.names) gs I → IsRound I 0 gs
    round : (k : ℕ) (gs hs : List (Terms Fraction)) → IsRound I k gs → ¬ (IsClosed gs)
        → IsSoFar gs (length program.branches) hs → IsRound I (suc k) hs
