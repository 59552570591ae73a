-- What an analysis is of.
--   setting_of s               it, as the machine has it; form_of f: a closed form
--   given_of o           the list that is given, if one is;  most_first m o: how many elements the list that the analysis begins with has at most
--   most_given         how many elements a list that is given may have;  most_iterations: from how many iterations on at most a form is the state
--   IsSquare images      there are 1 to 12 polynomials, in as many variables
--   FitsBranch m b       the parts of the branch b are over m variables, its form over its base too, which is short, and its inverse form is that of its form
--   FitsSetting s               the parts of s are over its variables, of which there are 1 to 12, and it has 1 to 6 branches
--   IsMapIn program b images    they are the polynomials of the branch b, which counts from 1, as the analysis has them
--   IsBranchOf program b c      c has the map and a closed form of the branch b, fits, and no class of its map is refused or too long
--   AreMaps program maps        the maps are those of all branches
--   AreBranchesTo program n cs  that is so of the first n branches;  AreBranches program cs: of all
--   IsSettingOf program s       s has what the definitions make of the program
--   HoldsOf s P                 P holds of each well-formed program of which s is the setting
use Rattle.std.specs.Prelude.{◌≡◌, ◌≤◌, ◌<◌, ℕ, suc, ◌+◌, ◌^◌, false, List, All, length, map, get_or, Option, Some, None, option_map}
use Rattle.algebra.specs.Fraction.{Fraction}
use Rattle.polynomials.specs.Terms.{Terms}
use Rattle.std.specs.Global.{Vec}
use Rattle.loops.specs.Program.{Expr, Program}
use Rattle.loops.specs.WellFormed.{IsWellFormed}
use Rattle.rounds.specs.Analysis as analysis
use Rattle.rounds.specs.BranchMap.{map_of}
use Rattle.rounds.specs.Form as form
use Rattle.rounds.specs.Form.{front, inverse_of_form, passes, IsClosedForm}
use Rattle.monos.specs.Variables.{most_variables}
use Rattle.poly.specs.Seen.{terms_each}
use Rattle.ideal_ops.specs.Calls.{AreOver}
use Rattle.loop_model.specs.FracPoly.{FracPoly}
use Rattle.coprime_base.specs.Sizes.{sizes}
use Rattle.expo.specs.Bases.{IsCoprimeBase}
use Rattle.solvable.specs.Refusal.{IsSolvable}
use Rattle.closed_forms.specs.Limits.{most_in_base}
use Rattle.closed_forms.specs.Lengths.{IsShort}
use Rattle.closed_forms.specs.Refusal.{AllPass}
use Rattle.closed_forms.specs.Values as values
use Rattle.closed_forms.specs.Values.{bodies_of}
use Rattle.closed_forms.specs.declared.Form.{Form}
use Rattle.invariant_fix.specs.declared.branches.Branch.{Branch}
use Rattle.invariant_fix.specs.declared.setting.Setting.{Setting}
use Rattle.task_lists.specs.Starts.{AreStarts}
use Rattle.loop_model.specs.Limits.{names_limit}

abbrev pub form_of : Form → form.Form
form_of f = record { base = sizes f.base.items; polys = bodies_of f.polys.items; since = f.since }

-- how many elements a list that is given may have
abbrev pub most_given : ℕ
most_given = 2 ^ 27 + 2 ^ 26

-- how many iterations of a branch there may be before its form begins to be the state
abbrev pub most_iterations : ℕ
most_iterations = 12

-- how many elements a list may have that an iteration or an orbit begins with
abbrev pub most_starting_elements : ℕ
most_starting_elements = 2 ^ 29

abbrev pub given_of : Option (Vec FracPoly) → Option (List (Terms Fraction))
given_of o = option_map (λ (v : Vec FracPoly). terms_each v.items) o

abbrev pub most_first : ℕ → Option (Vec FracPoly) → ℕ
most_first m None = m
most_first m (Some v) = length v.items

abbrev pub setting_of : Setting → analysis.Setting
setting_of s = record {
  arity = s.arity;
  starts = terms_each s.starts.items;
  maps = map (λ (b : Branch). terms_each b.images.items) s.branches.items;
  forms = map (λ (b : Branch). form_of b.form) s.branches.items;
  given = given_of s.given;
  asked = None;
}

pub record IsSquare (images : List FracPoly) : Type 0 where
  pub some : 1 ≤ length images
  pub few : length images ≤ names_limit
  pub arity : AreOver (length images) images

pub record FitsBranch (m : ℕ) (b : Branch) : Type 0 where
  pub count : length b.images.items ≡ m
  pub arity : AreOver m b.images.items
  pub base : IsCoprimeBase (sizes b.form.base.items)
  pub short : length (sizes b.form.base.items) ≤ most_in_base
  pub few : front (length (sizes b.form.base.items)) + m + m ≤ most_variables
  pub back_count : length b.back.items ≡ m
  pub back_arity : AreOver (front (length (sizes b.form.base.items)) + m) b.back.items
  pub back : terms_each b.back.items ≡ inverse_of_form (form_of b.form)
  pub form_over : values.AreOver (sizes b.form.base.items) m b.form.polys.items
  pub form_count : length b.form.polys.items ≡ m
  pub early : b.form.since ≤ most_iterations
  pub passing_count : length b.form.passing.items ≡ m
  pub passing : (i : ℕ) → get_or b.form.passing.items i false ≡ passes (form_of b.form) m i

pub record FitsSetting (s : Setting) : Type 0 where
  pub some : 1 ≤ s.arity
  pub few : s.arity ≤ names_limit
  pub starts : AreOver s.arity s.starts.items
  pub few_starts : length s.starts.items ≤ s.arity
  pub few_first : most_first s.arity s.given ≤ most_given
  pub branches : All (FitsBranch s.arity) s.branches.items
  pub some_branch : 1 ≤ length s.branches.items
  pub few_branches : length s.branches.items ≤ 6

module _ (program : Program (Expr ℕ)) where
  pub record IsMapIn (b : ℕ) (images : Vec FracPoly) : Type 0 where
    pub count : length images.items ≡ length program.names
    pub arity : AreOver (length program.names) images.items
    pub is : terms_each images.items ≡ map_of program b

  pub record IsBranchOf (b : ℕ) (c : Branch) : Type 0 where
    pub fits : FitsBranch (length program.names) c
    pub images : terms_each c.images.items ≡ map_of program b
    pub form : IsClosedForm program b (form_of c.form)
    pub solvable : IsSolvable (map_of program b)
    pub pass : AllPass (map_of program b)
    pub short : IsShort (map_of program b)

  pub record AreMaps (maps : List (Vec FracPoly)) : Type 0 where
    pub count : length maps ≡ length program.branches
    pub each : (b : ℕ) (d : Vec FracPoly) → b < length program.branches
        → IsMapIn (suc b) (get_or maps b d)

  pub record AreBranchesTo (n : ℕ) (cs : List Branch) : Type 0 where
    pub count : length cs ≡ n
    pub each : (b : ℕ) (d : Branch) → b < n → IsBranchOf (suc b) (get_or cs b d)

  abbrev pub AreBranches : List Branch → Type 0
  AreBranches cs = AreBranchesTo (length program.branches) cs

  pub record IsSettingOf (s : Setting) : Type 0 where
    pub arity : s.arity ≡ length program.names
    pub starts : AreStarts program s.starts.items
    pub branches : AreBranches s.branches.items

abbrev pub HoldsOf : Setting → (Program (Expr ℕ) → Type 0) → Type 0
HoldsOf s P =
    (program : Program (Expr ℕ)) → IsWellFormed program → IsSettingOf program s → P program
