-- What steps and comparisons are, by cases.
--   equal_asked, differ_asked        the step that a comparison is true, or false, where its sides are to be equal, and where they aren't
--   equal_events, differ_events      what is done then
--   step_of-assign, step_of-any, step_of-assume     what a step of the code is seen as
--   told_none, told_one              past a guard: nothing, or its one comparison
use Rattle.std.proofs.Common.{◌≡◌, ◌≢◌, arith, Bool, true, false, ℕ, List, [], ◌∷◌, map, length, get_or, refl, sym, ap}
use mathlib.Core.Bool.{beq}
use Rattle.flows.specs.Steps as steps
use Rattle.flows.specs.Guards.{true_step, false_step}
use Rattle.program_model.specs.Program as program
use Rattle.program_model.specs.Code.{compared}
use Rattle.program_model.specs.PathEvents.{E, side, are_equal, at_path, inverted, sides_events, compare_events, asked, false_steps, false_events}
use Rattle.program_model.specs.SyntaxView.{comparison_of, assignment_of, step_of}
use Rattle.program_model.specs.declared.syntax.Comparison.{Comparison}
use Rattle.program_model.specs.declared.syntax.Assignment.{Assignment}
use Rattle.program_model.specs.declared.syntax.Step as code
use Rattle.program_model.specs.declared.syntax.Step.TheVariants.{Assign, Any, Assume}

equal_here : (b h : Bool) → beq b h ≡ true → are_equal b h ≡ true
equal_here true true q = refl
equal_here true false q = absurd (cc)
equal_here false true q = absurd (cc)
equal_here false false q = refl

differ_here : (b h : Bool) → beq b h ≡ false → are_equal b h ≡ false
differ_here true true q = absurd (cc)
differ_here true false q = refl
differ_here false true q = refl
differ_here false false q = absurd (cc)

module _ (k : program.Comparison E) (h : Bool) where
  asked_true : (b h : Bool) (e f : E) → are_equal b h ≡ true
      → asked h (record { at = k.at; equal = b; left = e; right = f }) ≡ steps.equal e f
  unfolding compared true_step false_step
  asked_true true true e f q = refl
  asked_true true false e f q = absurd (cc)
  asked_true false true e f q = absurd (cc)
  asked_true false false e f q = refl

  asked_false : (b h : Bool) (e f : E) → are_equal b h ≡ false
      → asked h (record { at = k.at; equal = b; left = e; right = f }) ≡ steps.differ e f
  unfolding compared true_step false_step
  asked_false true true e f q = absurd (cc)
  asked_false true false e f q = refl
  asked_false false true e f q = refl
  asked_false false false e f q = absurd (cc)

  pub equal_asked : beq k.equal h ≡ true → asked h k ≡ steps.equal k.left k.right
  equal_asked q = asked_true k.equal h k.left k.right (equal_here k.equal h q)

  pub differ_asked : beq k.equal h ≡ false → asked h k ≡ steps.differ k.left k.right
  differ_asked q = asked_false k.equal h k.left k.right (differ_here k.equal h q)

  module _ (n : ℕ) (cs : List (steps.Step E)) where
    pub equal_events : beq k.equal h ≡ true → compare_events n cs k h ≡ at_path n cs 0 0 (side k)
    unfolding sides_events
    equal_events q = ap (λ b. sides_events n cs b k) (equal_here k.equal h q)

    pub differ_events : beq k.equal h ≡ false
        → compare_events n cs k h ≡ inverted n cs 0 1 k.at (side k)
    unfolding sides_events
    differ_events q = ap (λ b. sides_events n cs b k) (differ_here k.equal h q)

-- ---- what a step is seen as
pub step_of-assign : (c : code.Step) (a : Assignment) → c ≡ Assign a
    → step_of c ≡ program.assign (assignment_of a)
unfolding step_of
step_of-assign c a e = ap step_of e

pub step_of-any : (c : code.Step) (at i : ℕ) → c ≡ Any at i → step_of c ≡ program.choose at i
unfolding step_of
step_of-any c at i e = ap step_of e

pub step_of-assume : (c : code.Step) (k : Comparison) → c ≡ Assume k
    → step_of c ≡ program.assume (comparison_of k)
unfolding step_of
step_of-assume c k e = ap step_of e

-- ---- past a guard
module _ (n : ℕ) (cs : List (steps.Step E)) where
  pub told_one : (b : Bool) (ks : List Comparison) (k : Comparison) → b ≡ true → length ks ≡ 1
      → k ≡ get_or ks 0 k
      → (false_steps b (map comparison_of ks) ≡ asked false (comparison_of k) ∷ [])
      × (false_events n cs b (map comparison_of ks) ≡ compare_events n cs (comparison_of k) false)
  unfolding false_steps false_events
  told_one true [] k b l e = absurd (omega arith)
  told_one true (j ∷ []) k b l e = (
    ap (λ (x : Comparison). asked false (comparison_of x) ∷ []) (sym e),
    ap (λ (x : Comparison). compare_events n cs (comparison_of x) false) (sym e),
  )
  told_one true (j ∷ i ∷ ks) k b l e = absurd (omega arith)
  told_one false ks k b l e = absurd (cc)

  pub told_none : (b : Bool) (ks : List Comparison) → (b ≡ true → length ks ≢ 1)
      → (false_steps b (map comparison_of ks) ≡ [])
      × (false_events n cs b (map comparison_of ks) ≡ [])
  unfolding false_steps false_events
  told_none false ks h = (refl, refl)
  told_none true [] h = (refl, refl)
  told_none true (k ∷ []) h = absurd (h refl refl)
  told_none true (k ∷ j ∷ ks) h = (refl, refl)
