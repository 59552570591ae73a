-- The closure of a list of polynomials: the ideal of all that becomes of them in words.
--   IsAfterWord program P g      g is one of P composed with the maps of the letters of a word, the
--                                last letter's first
--   InClosure program P q        q is in the closure of P: a member of the ideal of some of these
--   GeneratesClosure program P gs     gs generate the closure of P
--   IsIdeal m I                  I is an ideal of polynomials in m variables
--   IsClosedUnderBranches program I             each iteration of a branch leads from I into I
--   IsZeroFromStart program q    q composed with the start map is 0
use Rattle.std.specs.Prelude.{ℕ, List, [], ◌++◌, ◌≡◌, length}
use Rattle.std.specs.List.{All}
use Rattle.algebra.specs.Each.{Each}
use Rattle.algebra.specs.In.{In}
use Rattle.algebra.specs.Fraction.{Fraction, ℚ}
use Rattle.polynomials.specs.Terms.{Terms, Same, times}
use Rattle.polynomials.specs.Polynomial.{Arity}
use Rattle.ideals.specs.Members.{IsMember}
use Rattle.loops.specs.Program.{Expr, Program}
use Rattle.loops.specs.Map.{start_map, composition}
use Rattle.rounds.specs.Generate.{Generates}
use Rattle.rounds.specs.Word.{IsLetter, after_iteration, after_word}

module _ {At : Type 0} (program : Program (Expr At)) where
  module _ (P : List (Terms Fraction)) where
    pub record IsAfterWord (g : Terms Fraction) : Type 0 where
      pub of : Terms Fraction
      pub word : List ℕ
      pub given : In of P
      pub letters : All (IsLetter program) word
      pub is : g ≡ after_word program word of

    pub record InClosure (q : Terms Fraction) : Type 0 where
      pub arity : Arity (length program.names) q
      pub images : List (Terms Fraction)
      pub are : Each IsAfterWord images
      pub member : IsMember ℚ (length program.names) images q

    abbrev pub GeneratesClosure : List (Terms Fraction) → Type 0
    GeneratesClosure gs = Generates (length program.names) gs InClosure

  pub record IsClosedUnderBranches (I : Terms Fraction → Type 0) : Type 0 where
    pub turned : (b : ℕ) (p : Terms Fraction) → IsLetter program b → I p
        → I (after_iteration program b p)

  abbrev pub IsZeroFromStart : Terms Fraction → Type 0
  IsZeroFromStart q = Same ℚ (composition program q (start_map program)) []

pub record IsIdeal (m : ℕ) (I : Terms Fraction → Type 0) : Type 0 where
  pub arity : (p : Terms Fraction) → I p → Arity m p
  pub same : (p q : Terms Fraction) → Arity m q → Same ℚ p q → I p → I q
  pub zero : I []
  pub sum : (p q : Terms Fraction) → I p → I q → I (p ++ q)
  pub multiple : (p q : Terms Fraction) → Arity m p → I q → I (times ℚ p q)
