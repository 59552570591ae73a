-- The tasks of a trace, by the setting that the program has (invariant_fix).
--   written_of f             a closed form, as it is written
--   IsSettingIn s A          A has the variables and the starts of s, and its forms, each as one that is the state from 0 on
--   Along s P                P holds of each A that has these
--   Stops A rounds after e   what the refusal e of a trace tells of the journal after
--   IfBegun P r              of a refusal before anything is done: P, where a number or an exponent doesn't fit
--   IsBegunRefused P k hs before after r     the making of what a stage begins with was refused so, or the stage from hs was
--   most_begun               a list that a task takes has at most so many elements
--   Knows s j gs             the gs, of the variables of s, are no more than these and the units of the journal j
--   IsInWork w j             the setting of the round w fits, and its list is known to the journal j
--   given_in b               the list behind a branch with these stages;  after_row gs bs, after_rows gs rows: behind branches, and behind rounds, where gs is that before
--   fronts_of s              how many variables are eliminated in the orbit along each branch
--   IsBranchOver m k b, AreBranchesOver m ks bs     the stages of a branch, and of branches, have the variables and orders that they should have
use Rattle.std.specs.Prelude.{◌≡◌, ◌⊎◌, ◌≤◌, ◌+◌, ◌^◌, ℕ, List, [], ◌∷◌, IfSome, length, map, Option, Some, None, Vec}
use Rattle.std.specs.List.{AllZip}
use Rattle.std.specs.declared.alloc.Global.{Global}
use Rattle.algebra.specs.Fraction.{Fraction}
use Rattle.polynomials.specs.Terms.{Terms}
use Rattle.machines.specs.Journal.{Journal, units_of}
use Rattle.machines.specs.Machine.{Refusal, too_wide, out_of_units, out_of_memory}
use Rattle.rounds.specs.Analysis as analysis
use Rattle.rounds.specs.Form.{front}
use Rattle.poly.specs.Seen.{terms_each}
use Rattle.coprime_base.specs.Sizes.{sizes}
use Rattle.closed_forms.specs.Values.{bodies_of}
use Rattle.closed_forms.specs.declared.Form.{Form}
use Rattle.corollaries.specs.Full.{WrittenForm, as_form}
use Rattle.loop_model.specs.FracPoly.{FracPoly}
use Rattle.journal.specs.View as view
use Rattle.ideal_ops.specs.Calls.{AreOver}
use Rattle.corollaries.specs.Coming.{IsGoing, IsStopped, IsOutOf}
use Rattle.corollaries.specs.Making.{IsStageRefused}
use Rattle.task_lists.specs.Images.{IsStageIn}
use Rattle.task_lists.specs.declared.parts.FullStage.{FullStage}
use Rattle.task_lists.specs.declared.parts.FullBranch.{FullBranch}
use Rattle.invariant_fix.specs.Setting.{FitsSetting}
use Rattle.invariant_fix.specs.declared.branches.Branch.{Branch}
use Rattle.invariant_fix.specs.declared.setting.Setting.{Setting}
use Rattle.invariant_fix.specs.declared.errors.AnalyseError.{AnalyseError}
use Rattle.invariant_fix.specs.declared.errors.AnalyseError.TheVariants as error
use Rattle.full_trace.specs.declared.round_in_work.RoundInWork.{RoundInWork}

abbrev pub written_of : Form → WrittenForm
written_of f = record { base = sizes f.base.items; polys = bodies_of f.polys.items }

pub record IsSettingIn (s : Setting) (A : analysis.Setting) : Type 0 where
  pub arity : A.arity ≡ s.arity
  pub starts : analysis.starting A analysis.starts ≡ terms_each s.starts.items
  pub forms : A.forms ≡ map (λ (c : Branch). as_form (written_of c.form)) s.branches.items

abbrev pub Along : Setting → (analysis.Setting → Type 0) → Type 0
Along s P = (A : analysis.Setting) → IsSettingIn s A → P A

-- ---- refusals
abbrev pub Stops : analysis.Setting → ℕ → Journal → AnalyseError → Type 0
Stops A rounds after (error.Map e) = ⊥
Stops A rounds after (error.Branch b e) = ⊥
Stops A rounds after (error.Limit task) = ⊥
Stops A rounds after (error.Wide task) = IsStopped A rounds (view.task_of task) after.entries
Stops A rounds after error.Budget = IsOutOf A rounds after.limit after.entries
Stops A rounds after error.Memory = IsGoing A rounds after.entries

abbrev pub IfBegun : Type 0 → Refusal → Type 0
IfBegun P too_wide = P
IfBegun P out_of_units = ⊥
IfBegun P out_of_memory = Unit {0}

abbrev pub IsBegunRefused : Type 0 → ℕ → List (Terms Fraction) → (before after : Journal)
    → Refusal → Type 0
IsBegunRefused P k hs before after r =
    ((after ≡ before) × IfBegun P r) ⊎ IsStageRefused k hs after r before

-- ---- lists
abbrev pub most_begun : ℕ
most_begun = 2 ^ 29

pub record Knows (s : Setting) (j : Journal) (gs : List FracPoly) : Type 0 where
  pub over : AreOver s.arity gs
  pub few : length gs ≤ s.arity + units_of j.entries

pub record IsInWork (w : RoundInWork) (j : Journal) : Type 0 where
  pub fits : FitsSetting w.setting.now
  pub basis : Knows w.setting.now j w.basis.now.items

abbrev pub given_of : FullStage → Option FullStage → Vec FracPoly Global
given_of orbit None = orbit.out
given_of orbit (Some s) = s.out

abbrev pub given_in : FullBranch → Vec FracPoly Global
given_in b = given_of b.orbit b.meet

-- ---- branches
abbrev pub fronts_of : Setting → List ℕ
fronts_of s = map (λ (c : Branch). front (length (sizes c.form.base.items))) s.branches.items

pub record IsBranchOver (m k : ℕ) (b : FullBranch) : Type 0 where
  pub orbit : IsStageIn k m b.orbit
  pub meet : IfSome b.meet (IsStageIn 1 m)

abbrev pub AreBranchesOver : ℕ → List ℕ → List FullBranch → Type 0
AreBranchesOver m ks bs = AllZip (IsBranchOver m) ks bs

-- ---- the list behind branches, and behind rounds: the last that they give
unfoldable pub after_row : Vec FracPoly Global → List FullBranch → Vec FracPoly Global
after_row gs [] = gs
after_row gs (b ∷ bs) = after_row (given_in b) bs

unfoldable pub after_rows : Vec FracPoly Global → List (Vec FullBranch Global)
    → Vec FracPoly Global
after_rows gs [] = gs
after_rows gs (row ∷ rows) = after_rows (after_row gs row.items) rows
