-- What the rounds are judged with.
--   given_list s                 the list that the stages of a branch give
--   IsGivenOver m b               the lists that its stages give have m variables
--   AreInverseForm program c back   back has for each branch the polynomials of its form in c, backward, and its base is one
use Rattle.std.specs.Prelude.{◌≡◌, ℕ, ◌+◌, ◌<◌, ◌≤◌, List, All, get_or, length, Option, Some, None, IfSome, Vec}
use Rattle.std.specs.declared.alloc.Global.{Global}
use Rattle.algebra.specs.Fraction.{Fraction}
use Rattle.polynomials.specs.Terms.{Terms}
use Rattle.loops.specs.Program.{Expr, Program}
use Rattle.rounds.specs.Form.{front, inverse_of_form}
use Rattle.monos.specs.Variables.{most_variables}
use Rattle.poly.specs.Seen.{terms_each}
use Rattle.poly.specs.Standing.{IsInVariables}
use Rattle.loop_model.specs.FracPoly.{FracPoly}
use Rattle.expo.specs.Bases.{IsCoprimeBase}
use Rattle.corollaries.specs.Stage.{Stage}
use Rattle.corollaries.specs.Full.{BranchStages, form_of}
use Rattle.task_lists.specs.Images.{ArePolys}
use Rattle.task_lists.specs.View.{full_of}
use Rattle.task_lists.specs.declared.parts.FullBranch.{FullBranch}
use Rattle.task_lists.specs.declared.parts.FullCert.{FullCert}

abbrev pub given_by : Stage → Option Stage → List (Terms Fraction)
given_by s None = s.out
given_by s (Some t) = t.out

abbrev pub given_list : BranchStages → List (Terms Fraction)
given_list s = given_by s.orbit_stage s.meet_stage

abbrev pub IsGivenOver : ℕ → FullBranch → Type 0
IsGivenOver m b = ArePolys m b.orbit.out × IfSome b.meet (λ s. ArePolys m s.out)

pub record IsInverseForm (program : Program (Expr ℕ)) (c : FullCert) (b : ℕ)
    (back : Vec FracPoly Global) : Type 0 where
  pub base : IsCoprimeBase (form_of (full_of c) b).base
  pub few : front (length (form_of (full_of c) b).base) + length program.names ≤ most_variables
  pub count : length back.items ≡ length program.names
  pub arity : All (IsInVariables (front (length (form_of (full_of c) b).base)
      + length program.names))
      back.items
  pub is : terms_each back.items ≡ inverse_of_form (form_of (full_of c) b)

pub record AreInverseForm (program : Program (Expr ℕ)) (c : FullCert)
    (back : Vec (Vec FracPoly Global)
    Global) : Type 0 where
  pub count : length back.items ≡ length program.branches
  pub each : (b : ℕ) (d : Vec FracPoly Global) → b < length program.branches
      → IsInverseForm program c b (get_or back.items b d)
