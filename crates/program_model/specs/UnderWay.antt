-- Open paths of the code.
--   HasRoom p                 what the functions of a path need: polynomials in its unknowns and variables, at most 16 of both
--   IsUnderWay n u cs ds p    of n variables, the path p comes from the node u, has done the steps cs, and of the next one the divisors ds
--   IsReady n p               it has n variables and room, and an image for each variable
--   IsOpen n o p              it is the open path o;  AreOpen n os ps: of each
use Rattle.std.specs.Prelude.{◌≡◌, ℕ, ◌+◌, ◌<◌, ◌≤◌, List, [], length}
use Rattle.std.specs.List.{All, AllZip}
use Rattle.flows.specs.Steps.{Step}
use Rattle.flows.specs.Paths.{all_unknowns}
use Rattle.flows.specs.Chart.{Open}
use Rattle.poly.specs.Standing.{IsInVariables}
use Rattle.program_model.specs.Limits.{most_names}
use Rattle.program_model.specs.PathEvents.{E, most_unknowns}
use Rattle.program_model.specs.Follows.{Follows}
use Rattle.program_model.specs.declared.path.Path.{Path}

pub record HasRoom (p : Path) : Type 0 where
  pub some : 0 < p.variables
  pub few_variables : p.variables ≤ most_names
  pub few_unknowns : p.unknowns ≤ most_unknowns
  pub images : All (IsInVariables (p.unknowns + p.variables)) p.images.items
  pub zeros : All (IsInVariables (p.unknowns + p.variables)) p.zeros.items
  pub count : p.variables ≤ length p.images.items

pub record IsUnderWay (n u : ℕ) (cs : List (Step E)) (ds : List E) (p : Path) : Type 0 where
  pub variables : p.variables ≡ n
  pub from : p.from ≡ u
  pub unknowns : p.unknowns ≡ all_unknowns cs + length ds
  pub follows : Follows n cs ds p.zeros.items p.images.items

pub record IsReady (n : ℕ) (p : Path) : Type 0 where
  pub room : HasRoom p
  pub whole : length p.images.items ≡ p.variables
  pub variables : p.variables ≡ n

pub record IsOpen (n : ℕ) (o : Open E) (p : Path) : Type 0 where
  pub ready : IsReady n p
  pub way : IsUnderWay n o.from o.steps [] p

abbrev pub AreOpen : ℕ → List (Open E) → List Path → Type 0
AreOpen n os ps = AllZip (IsOpen n) os ps
