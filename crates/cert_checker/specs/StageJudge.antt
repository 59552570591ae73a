-- The judge of a stage, as the code has it.
--   starting_by s, stage_seen s     the list that the stage begins with, and the stage
--   IsStageJudge s                  the stage and what it begins with have the polynomials and the counts that they must have
--   HoldsBy s place, IsPastBy s place     the part of the stage at the place holds, and is too wide
--   places_by s                     the places of its parts
use Rattle.std.specs.Prelude.{◌≡◌, ◌+◌, ◌≤◌, List, length}
use Rattle.algebra.specs.Fraction.{Fraction}
use Rattle.polynomials.specs.Terms.{Terms}
use Rattle.monos.specs.Variables.{most_variables}
use Rattle.corollaries.specs.Counts.{IsStageCounted}
use Rattle.corollaries.specs.Stage.{Stage, Place, HoldsAt, places}
use Rattle.task_lists.specs.Images.{IsStageIn}
use Rattle.task_lists.specs.Starting.{starting, front_of, FitsStart, IsPastAt}
use Rattle.task_lists.specs.View.{stage_in}
use Rattle.cert_checker.specs.StageParts.{IsPastPlace}
use Rattle.cert_checker.specs.declared.full_stage.StageJudge.{StageJudge}

module _ (s : StageJudge) where
  abbrev pub starting_by : List (Terms Fraction)
  starting_by = starting s.variables s.begin

  abbrev pub stage_seen : Stage
  stage_seen = stage_in s.stage.now

  pub record IsStageJudge : Type 0 where
    pub fits : FitsStart s.variables s.begin
    pub front : s.front ≡ front_of s.begin
    pub few : s.front + s.variables ≤ most_variables
    pub images : IsStageIn s.front s.variables s.stage.now
    pub counts : IsStageCounted s.front (length starting_by) stage_seen

  abbrev pub HoldsBy : Place → Type 0
  HoldsBy = HoldsAt s.front starting_by stage_seen

  abbrev pub IsPastBy : Place → Type 0
  IsPastBy = IsPastPlace (IsPastAt s.begin) stage_seen

  abbrev pub places_by : List Place
  places_by = places s.front starting_by stage_seen
