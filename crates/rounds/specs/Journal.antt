-- Journals: lists of entries that follow a loop, from its starts or from a reduced basis that is given.
--   setting_from program given forms asked     the setting of the program's analysis; `given` is a reduced basis that it begins with, if one is, and `asked` a
--                                      polynomial that is to be divided by the last list, if one is
--   setting_of program forms asked     where none is given
--   AreForms program forms             one closed form for each branch;  since_of forms b: from which number of iterations on that of branch b, from 0, is the state
--   FollowsFrom, ComesFrom, IsOutFrom  as below, where a list is given or none is
--   Follows program asked es s         the entries es follow the loop, and lead to the state s
--   ComesNext program asked es step    they follow it, and this comes next
--   IsFinishedBy program given es k gs       they follow it from what is given, and the analysis has ended with round k and its list gs
--   IsFinishedFrom program firsts es k gs    they follow it from firsts, and the analysis has ended with round k and its list gs
--   IsFinished program es k gs         they follow it, and the analysis has ended with round k and its list gs
--   IsAnswered program p es k gs s     they follow it, the analysis has ended so, and the division of p by gs has ended with s
--   IsOut program asked limit es       they follow it, have as many units as the limit, and what comes next is a unit
use Rattle.std.specs.Prelude.{◌≡◌, ℕ, suc, ◌<◌, true, List, [], map, get_or, length, Option, Some, None}
use Rattle.algebra.specs.Fraction.{Fraction, rationals}
use Rattle.polynomials.specs.Terms.{Terms}
use Rattle.polynomials.specs.Order.{grevlex}
use Rattle.machines.specs.Collect.{collect}
use Rattle.machines.specs.Journal.{Entry, counts, units_of}
use Rattle.machines.specs.Division as division
use Rattle.machines.specs.Run.{IsRun}
use Rattle.loops.specs.Program.{Expr, Program}
use Rattle.loops.specs.Map.{branch_map}
use Rattle.rounds.specs.Start.{start_list}
use Rattle.rounds.specs.Form.{Form, IsClosedForm}
use Rattle.rounds.specs.Analysis.{Setting, State, fresh, Step, goes, finished, answered, next, moves}

abbrev pub setting_from : {At : Type 0} → Program (Expr At) → Option (List (Terms Fraction))
    → List Form → Option (Terms Fraction) → Setting
setting_from program given forms asked = record {
  arity = length program.names;
  starts = start_list program;
  maps =
      map (λ branch. map (collect rationals grevlex) (branch_map program branch)) program.branches;
  forms = forms;
  given = given;
  asked = asked;
}

abbrev pub setting_of : {At : Type 0} → Program (Expr At) → List Form → Option (Terms Fraction)
    → Setting
setting_of program forms asked = setting_from program None forms asked

pub record AreForms {At : Type 0} (program : Program (Expr At)) (forms : List Form) : Type 0 where
  pub count : length forms ≡ length program.branches
  pub each : (b : ℕ) (d : Form) → b < length forms → IsClosedForm program (suc b) (get_or forms b d)

abbrev pub since_of : List Form → ℕ → ℕ
since_of forms b = (get_or forms b (record { base = []; polys = []; since = 0 })).since

module _ {At : Type 0} (program : Program (Expr At)) (given : Option (List (Terms Fraction)))
    (asked : Option (Terms Fraction)) where
  pub record FollowsFrom (es : List Entry) (s : State) : Type 0 where
    pub forms : List Form
    pub are_forms : AreForms program forms
    pub run : IsRun (moves (setting_from program given forms asked)) fresh es s

  -- and this comes next
  pub record ComesFrom (es : List Entry) (step : Step) : Type 0 where
    pub state : State
    pub follows : FollowsFrom es state
    pub is : next (setting_from program given follows.forms asked) state ≡ step

  pub record IsOutFrom (limit : ℕ) (es : List Entry) : Type 0 where
    pub entry : Entry
    pub state : State
    pub comes : ComesFrom es (goes entry state)
    pub unit : counts entry ≡ true
    pub exhausted : units_of es ≡ limit

module _ {At : Type 0} (program : Program (Expr At)) (asked : Option (Terms Fraction)) where
  abbrev pub Follows : List Entry → State → Type 0
  Follows es s = FollowsFrom program None asked es s

  abbrev pub ComesNext : List Entry → Step → Type 0
  ComesNext es step = ComesFrom program None asked es step

  abbrev pub IsOut : ℕ → List Entry → Type 0
  IsOut limit es = IsOutFrom program None asked limit es

abbrev pub IsFinishedBy : {At : Type 0} → Program (Expr At) → Option (List (Terms Fraction))
    → List Entry
    → ℕ → List (Terms Fraction) → Type 0
IsFinishedBy program given es k gs = ComesFrom program given None es (finished k gs)

abbrev pub IsFinishedFrom : {At : Type 0} → Program (Expr At) → List (Terms Fraction) → List Entry
    → ℕ
    → List (Terms Fraction) → Type 0
IsFinishedFrom program firsts es k gs = IsFinishedBy program (Some firsts) es k gs

abbrev pub IsFinished : {At : Type 0} → Program (Expr At) → List Entry → ℕ → List (Terms Fraction)
    → Type 0
IsFinished program es k gs = IsFinishedBy program None es k gs

abbrev pub IsAnswered : {At : Type 0} → Program (Expr At) → Terms Fraction → List Entry → ℕ
    → List (Terms Fraction) → division.State Fraction → Type 0
IsAnswered program p es k gs s = ComesNext program (Some p) es (answered k gs s)
