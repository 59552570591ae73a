-- What a loop keeps of its parts.
--   all_unmapped          what holds of the images of all holds of all
--   no_branch_zero, no_branch_past, branch_here     the branch with a number, by what the loop's getter gives
--   statements_here       its statements are over the loop's variables
--   equations_here        each equation of its start is one over them
use Rattle.std.proofs.Common.{◌≡◌, ◌∙◌, sym, ap, subst, refl, ℕ, zero, suc, ◌+◌, ◌-◌, ◌<◌, ◌≤◌, arith, List, All, map, length, get_or, Some, None}
use Rattle.std.specs.Global.{Vec}
use Rattle.std.specs.Prelude.{slice_get, option_map}
use Rattle.std.proofs.lemmas.Option.{slice_get-map, slice_get_past, slice_get_read}
use Rattle.std.proofs.lemmas.List.{get_or-map, length-map}
use Rattle.loops.specs.Program.{Expr, Program}
use Rattle.loops.specs.Program as program
use Rattle.loops.specs.Run.{branch_at}
use Rattle.loops.specs.WellFormed.{IsStatement}
use Rattle.loops.proofs.Starts.{uses_weaker}
use Rattle.loop_model.specs.Parts.{statement_of, equation_of}
use Rattle.loop_model.specs.View.{program_of}
use Rattle.loop_model.specs.declared.statement.Init.{Init}
use Rattle.loop_model.specs.declared.statement.Statement.{Statement}
use Rattle.loop_model.specs.declared.loop_.Loop.{Loop}
use Rattle.loop_model.proofs.Formed.{formed}
use Rattle.loop_runs.specs.Fits.{IsEquation}

pub all_unmapped : {X Y : Type 0} (P : Y → Type 0) (f : X → Y) (xs : List X) → All P (map f xs)
    → All (λ x. P (f x)) xs
all_unmapped P f xs h k d l = subst P (get_or-map f xs k d (f d) l)
    (h k (f d) (omega (arith, length-map xs f)))

abbrev branch_of : Vec Statement → List (program.Statement (Expr ℕ))
branch_of b = map statement_of b.items

pub no_branch_zero : {At : Type 0} (program : Program (Expr At)) (n : ℕ) → (1 ≤ n → ⊥)
    → None ≡ branch_at program n
unfolding branch_at
no_branch_zero program zero h = refl
no_branch_zero program (suc n) h = absurd (h (omega arith))

at_place : (lp : Loop) (bs : List (Vec Statement)) → map branch_of bs ≡ (program_of lp).branches
    → (n k : ℕ) → 1 ≤ n → k ≡ n - 1 → branch_at (program_of lp) n ≡ option_map branch_of
    (slice_get bs k)
unfolding branch_at
at_place lp bs e zero k low is = absurd (omega arith)
at_place lp bs e (suc n) k low is = let same : n ≡ k = omega arith in
    rw (same, ← e) (slice_get-map branch_of bs k)

module _ (lp : Loop) (bs : List (Vec Statement)) (e : map branch_of bs ≡ (program_of lp).branches)
    (n k : ℕ) (low : 1 ≤ n) (is : k ≡ n - 1) where
  pub no_branch_past : length bs ≤ k → None ≡ branch_at (program_of lp) n
  no_branch_past h = sym (at_place lp bs e n k low is
      ∙ ap (option_map branch_of) (slice_get_past bs k h))

  pub branch_here : (b : Vec Statement) → k < length bs → b ≡ get_or bs k b
      → Some (branch_of b) ≡ branch_at (program_of lp) n
  branch_here b h r = sym (at_place lp bs e n k low is
      ∙ ap (option_map branch_of) (slice_get_read bs (length bs) k b refl h r))

  pub statements_here : (b : Vec Statement) → k < length bs → b ≡ get_or bs k b
      → All (λ s. IsStatement (length (program_of lp).names + length (program_of lp).locals)
      (statement_of s)) b.items
  statements_here b h r =
      all_unmapped (IsStatement (length (program_of lp).names + length (program_of lp).locals))
      statement_of b.items
      (subst (All (IsStatement (length (program_of lp).names + length (program_of lp).locals)))
      (ap (λ all. get_or all k (branch_of b)) (sym e)
      ∙ get_or-map branch_of bs k b (branch_of b) h ∙ ap branch_of (sym r))
      ((formed lp).statements k (branch_of b) (subst (λ all. k < length all) e
      (omega (arith, length-map bs branch_of)))))

-- its equations, by what its getter gives
pub equations_here : (lp : Loop) (is : List Init) → map equation_of is ≡ (program_of lp).init
    → All (λ i. IsEquation (length (program_of lp).names) (equation_of i)) is
equations_here lp is e =
    let m = length (program_of lp).names in
    let init = (program_of lp).init in
    let each : All (IsEquation m) init = λ k d h. (
      (formed lp).set k d h,
      uses_weaker _ (λ i. i < m) (λ i u. u.0) (get_or init k d).value
          ((formed lp).free k d h),
    ) in
    all_unmapped (IsEquation m) equation_of is (subst (All (IsEquation m)) (sym e) each)
