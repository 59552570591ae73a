-- Certificates: polynomials, and for each branch and each of them its cofactors. Elements and branches count from 0 here.
--   PassesStart program c i      element i composed with the start map is 0
--   PassesStep program c b i     element i composed with the map of branch b is the sum of its cofactors times the elements
--   IsValid program c            each element passes the start and each branch
--   AreOver m c                  the polynomials of c are in m variables; IsOver program c: in the program's
--   SameCertificate c d          the same polynomials in the same places
--   IsVerdict program c v        v is valid, or the first that fails: the starts, then branch by branch, element by element
use Rattle.std.specs.Prelude.{◌≡◌, ℕ, ◌<◌, List, [], get_or, length}
use Rattle.algebra.specs.Fraction.{Fraction, ℚ}
use Rattle.polynomials.specs.Terms.{Terms, Same, AllSame, combination}
use Rattle.polynomials.specs.Polynomial.{AllArity}
use Rattle.loops.specs.Program.{Expr, Program}
use Rattle.loops.specs.Map.{branch_map, start_map, composition}

pub record Certificate : Type 0 where
  pub basis : List (Terms Fraction)
  pub steps : List (List (List (Terms Fraction)))

pub data Verdict : Type 0 where
  valid : Verdict
  start_fails : ℕ → Verdict
  step_fails : ℕ → ℕ → Verdict

abbrev pub element : Certificate → ℕ → Terms Fraction
element c i = get_or c.basis i []

abbrev pub cofactors : Certificate → ℕ → ℕ → List (Terms Fraction)
cofactors c b i = get_or (get_or c.steps b []) i []

pub record SameCertificate (c d : Certificate) : Type 0 where
  pub basis : AllSame ℚ c.basis d.basis
  pub branches : length c.steps ≡ length d.steps
  pub elements : (b : ℕ) → length (get_or c.steps b []) ≡ length (get_or d.steps b [])
  pub steps : (b i : ℕ) → AllSame ℚ (cofactors c b i) (cofactors d b i)

-- what a reader of certificates gives: polynomials in m variables
pub record AreOver (m : ℕ) (c : Certificate) : Type 0 where
  pub arities : AllArity m c.basis
  pub cofactor_arities : (b i : ℕ) → AllArity m (cofactors c b i)

abbrev pub IsOver : {At : Type 0} → Program (Expr At) → Certificate → Type 0
IsOver program c = AreOver (length program.names) c

module _ {At : Type 0} (program : Program (Expr At)) (c : Certificate) where
  abbrev pub PassesStart : ℕ → Type 0
  PassesStart i = Same ℚ (composition program (element c i) (start_map program)) []

  abbrev pub PassesStep : ℕ → ℕ → Type 0
  PassesStep b i = Same ℚ
      (composition program (element c i) (branch_map program (get_or program.branches b [])))
      (combination ℚ (cofactors c b i) c.basis)

  pub record IsValid : Type 0 where
    pub starts : (i : ℕ) → i < length c.basis → PassesStart i
    pub steps : (b i : ℕ) → b < length program.branches → i < length c.basis → PassesStep b i

  pub record IsFirstStart (i : ℕ) : Type 0 where
    pub within : i < length c.basis
    pub fails : PassesStart i → ⊥
    pub before : (j : ℕ) → j < i → PassesStart j

  pub record IsFirstStep (b i : ℕ) : Type 0 where
    pub branch_within : b < length program.branches
    pub within : i < length c.basis
    pub fails : PassesStep b i → ⊥
    pub starts : (j : ℕ) → j < length c.basis → PassesStart j
    pub branches_before : (a j : ℕ) → a < b → j < length c.basis → PassesStep a j
    pub before : (j : ℕ) → j < i → PassesStep b j

  abbrev pub IsVerdict : Verdict → Type 0
  IsVerdict valid = IsValid
  IsVerdict (start_fails i) = IsFirstStart i
  IsVerdict (step_fails b i) = IsFirstStep b i
