-- Words by their constant pieces, and polynomials composed with the maps of a word's letters.
--   pieces w                 how many maximal constant pieces the word w has
--   AtMost k, Every          sets of words: of level k; all
--   Ending k R               of level k and then t letters i, where R holds of i and t
--   AnyIterations i, Iterations i n, LaterIterations i d     of the letter i, any number, n, at least d
--   LettersTo j, FirstIterations b n     any number of a letter from 1 to j; so for the first b letters, and at most n of the next one
--   Then k i, UpTo k j       Ending k of AnyIterations i and of LettersTo j
--   IsLetter program b       b is the number of a branch; branches count from 1
--   branch_of program b      that branch
--   after_iteration program b p   p composed with the map of the branch b: its value at a state is that of p after an iteration of the branch
--   after_word program w p   p composed with the maps of the letters of w, the last letter's first: its value at a state is that of p at the end of the word
--   Stays program I W p      p composed with each word of W lies in I
--   IsZeroAtStarts program p     p is zero at each start
use Rattle.std.specs.Prelude.{◌≡◌, ℕ, suc, pred, ◌<◌, ◌≤◌, cond, eqb, List, [], ◌∷◌, ◌++◌, replicate, get_or, length, ⊤}
use Rattle.std.specs.List.{All}
use Rattle.algebra.specs.Fraction.{Fraction, ℚ}
use Rattle.polynomials.specs.Terms.{Terms, value_at}
use Rattle.loops.specs.Program.{Expr, Program, Statement}
use Rattle.loops.specs.Run.{IsStart}
use Rattle.loops.specs.Map.{branch_map, composition}

unfoldable pub pieces_after : ℕ → List ℕ → ℕ
pieces_after b [] = 0
pieces_after b (c ∷ w) = cond (eqb b c) (pieces_after c w) (suc (pieces_after c w))

unfoldable pub pieces : List ℕ → ℕ
pieces [] = 0
pieces (b ∷ w) = suc (pieces_after b w)

abbrev pub AtMost : ℕ → List ℕ → Type 0
AtMost k w = pieces w ≤ k

pub record Ending (k : ℕ) (R : ℕ → ℕ → Type 0) (w : List ℕ) : Type 0 where
  pub before : List ℕ
  pub letter : ℕ
  pub iterations : ℕ
  pub few : pieces before ≤ k
  pub allowed : R letter iterations
  pub is : w ≡ before ++ replicate iterations letter

abbrev pub AnyIterations : ℕ → ℕ → ℕ → Type 0
AnyIterations i j t = j ≡ i

abbrev pub Iterations : ℕ → ℕ → ℕ → ℕ → Type 0
Iterations i n j t = (j ≡ i) × (t ≡ n)

abbrev pub LaterIterations : ℕ → ℕ → ℕ → ℕ → Type 0
LaterIterations i d j t = (j ≡ i) × (d ≤ t)

abbrev pub LettersTo : ℕ → ℕ → ℕ → Type 0
LettersTo j i t = (0 < i) × (i ≤ j)

abbrev pub FirstIterations : ℕ → ℕ → ℕ → ℕ → Type 0
FirstIterations b n i t = (0 < i) × (i ≤ suc b) × (i ≡ suc b → t ≤ n)

abbrev pub Then : ℕ → ℕ → List ℕ → Type 0
Then k i w = Ending k (AnyIterations i) w

abbrev pub UpTo : ℕ → ℕ → List ℕ → Type 0
UpTo k j w = Ending k (LettersTo j) w

abbrev pub Every : List ℕ → Type 0
Every w = ⊤

module _ {At : Type 0} (program : Program (Expr At)) where
  pub record IsLetter (b : ℕ) : Type 0 where
    pub some : 0 < b
    pub within : b ≤ length program.branches

  abbrev pub branch_of : ℕ → List (Statement (Expr At))
  branch_of b = get_or program.branches (pred b) []

  abbrev pub after_iteration : ℕ → Terms Fraction → Terms Fraction
  after_iteration b p = composition program p (branch_map program (branch_of b))

  unfoldable pub after_word : List ℕ → Terms Fraction → Terms Fraction
  after_word [] p = p
  after_word (b ∷ w) p = after_iteration b (after_word w p)

  pub record Stays (I : Terms Fraction → Type 0) (W : List ℕ → Type 0) (p : Terms Fraction) : Type
      0 where
    pub in_words : (w : List ℕ) → All IsLetter w → W w → I (after_word w p)

  pub record IsZeroAtStarts (p : Terms Fraction) : Type 0 where
    pub zero : (s : List Fraction) → IsStart program s → value_at ℚ p s ≡ ℚ.zero
