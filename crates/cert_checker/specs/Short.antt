-- Which identities of a certificate aren't too long.
--   ShortStart program c, ShortStep program c b     those of the start, and those of branch b, multiply out to at most most_terms terms
--   AreShort program c v     so do those of the start, and of the branches that the verdict v has looked at: of all, or up to the one that fails
use Rattle.std.specs.Prelude.{ℕ, ◌<◌, ◌≤◌, List, [], get_or, length}
use Rattle.algebra.specs.Fraction.{Fraction}
use Rattle.polynomials.specs.Terms.{Terms}
use Rattle.loops.specs.Program.{Expr, Program}
use Rattle.loops.specs.Map.{start_map, branch_map}
use Rattle.loops.specs.Certificate.{Certificate, Verdict, valid, start_fails, step_fails}
use Rattle.expansion.specs.Counts.{most_terms}
use Rattle.cert_checker.specs.Long.{start_terms, step_terms, total}
use Rattle.cert_checker.specs.Wide.{IsMapOf}

module _ (program : Program (Expr ℕ)) (c : Certificate) where
  pub record ShortStart : Type 0 where
    pub images : List (Terms Fraction)
    pub is : IsMapOf (length program.names) images (start_map program)
    pub few : total (start_terms c.basis images) (length c.basis) ≤ most_terms

  pub record ShortStep (b : ℕ) : Type 0 where
    pub images : List (Terms Fraction)
    pub is : IsMapOf (length program.names) images
        (branch_map program (get_or program.branches b []))
    pub few : total (step_terms c.basis images (get_or c.steps b [])) (length c.basis) ≤ most_terms

  abbrev pub AreShort : Verdict → Type 0
  AreShort valid = ShortStart × ((b : ℕ) → b < length program.branches → ShortStep b)
  AreShort (start_fails i) = ShortStart
  AreShort (step_fails branch i) = ShortStart × ((b : ℕ) → b ≤ branch → ShortStep b)
