-- Where a replay is refused.
--   IsPlaced n r              a fault of r is at a letter and a step up to n
--   states_placed             a fault of a word is at one of its letters
--   count_sees, count_within  a refusal that is counted on
use Rattle.std.proofs.Common.{ℕ, suc, ◌+◌, ◌≤◌, List, [], ◌∷◌, ◌++◌, take, length, replicate, arith, Option, Some, None, Result, Ok, Err}
use Rattle.std.specs.Prelude.{⊤, ok_or}
use Rattle.algebra.specs.Fraction.{Fraction, ℚ}
use Rattle.loops.specs.Program.{Expr, Program, Statement}
use Rattle.loops.specs.Effect.{store}
use Rattle.loops.specs.Run.{branch_at}
use Rattle.loop_runs.specs.Checked.{checked_value}
use Rattle.loop_runs.specs.Replay.{RunFault, count, start, no_branch, wide, and_then, values, statement_end, branch_end, iteration_end, states_from}

abbrev pub IsAtMost : ℕ → RunFault → Type 0
IsAtMost n (count given wanted) = ⊤
IsAtMost n (start var) = ⊤
IsAtMost n (no_branch index) = index ≤ n
IsAtMost n (wide step var) = step ≤ n

abbrev pub IsPlaced : {A : Type 0} → ℕ → Result A RunFault → Type 0
IsPlaced n (Ok x) = ⊤
IsPlaced n (Err f) = IsAtMost n f

placed_then : {A B : Type 0} (n : ℕ) (f : A → Result B RunFault) (r : Result A RunFault)
    → IsPlaced n r → ((x : A) → IsPlaced n (f x)) → IsPlaced n (and_then f r)
placed_then n f (Ok x) h k = k x
placed_then n f (Err e) h k = h

values_placed : {At : Type 0} (i : ℕ) (vs : List ℕ) (es : List (Expr At)) (s : List Fraction)
    → IsPlaced i (values i vs es s)
unfolding values
values_placed i [] es s = tt
values_placed i (v ∷ vs) [] s = tt
values_placed i (v ∷ vs) (e ∷ es) s =
    placed_then i (λ x. and_then (λ xs. Ok (x ∷ xs)) (values i vs es s))
    (ok_or (checked_value e s) (wide i v)) (found (checked_value e s))
    (λ x. placed_then i (λ xs. Ok (x ∷ xs)) (values i vs es s) (values_placed i vs es s) (λ xs. tt))
  where
    found : (o : Option Fraction) → IsPlaced i (ok_or o (wide i v))
    found None = omega arith
    found (Some x) = tt

statement_placed : {At : Type 0} (i : ℕ) (c : Statement (Expr At)) (s : List Fraction)
    → IsPlaced i (statement_end i c s)
statement_placed i c s =
    placed_then i (λ xs. Ok (store c.targets xs s)) (values i c.targets c.values s)
    (values_placed i c.targets c.values s) (λ xs. tt)

branch_placed : {At : Type 0} (i : ℕ) (cs : List (Statement (Expr At))) (s : List Fraction)
    → IsPlaced i (branch_end i cs s)
unfolding branch_end
branch_placed i [] s = tt
branch_placed i (c ∷ cs) s =
    placed_then i (branch_end i cs) (statement_end i c s) (statement_placed i c s)
    (λ t. branch_placed i cs t)

iteration_placed : {At : Type 0} (m k i : ℕ) (cs : List (Statement (Expr At))) (s : List Fraction)
    → IsPlaced i (iteration_end m k i cs s)
unfolding iteration_end
iteration_placed m k i cs s =
    placed_then i (λ t. Ok (take m t)) (branch_end i cs (s ++ replicate k ℚ.zero))
    (branch_placed i cs (s ++ replicate k ℚ.zero)) (λ t. tt)

at_most_more : (n k : ℕ) (f : RunFault) → n ≤ k → IsAtMost n f → IsAtMost k f
at_most_more n k (count given wanted) l h = tt
at_most_more n k (start var) l h = tt
at_most_more n k (no_branch index) l h = omega (arith, l, h)
at_most_more n k (wide step var) l h = omega (arith, l, h)

placed_more : {A : Type 0} (n k : ℕ) (r : Result A RunFault) → n ≤ k → IsPlaced n r → IsPlaced k r
placed_more n k (Ok x) l h = tt
placed_more n k (Err f) l h = at_most_more n k f l h

pub states_placed : {At : Type 0} (program : Program (Expr At)) (i : ℕ) (w : List ℕ)
    (s : List Fraction) → IsPlaced (i + length w) (states_from program i w s)
unfolding states_from
states_placed program i [] s = tt
states_placed {At} program i (b ∷ w) s =
    placed_then n
    (λ branch. and_then (λ t. and_then (λ ts. Ok (s ∷ ts)) (states_from program (suc i) w t))
    (iteration branch)) (ok_or (branch_at program b) (no_branch i)) (lettered (branch_at program b))
    (λ branch. placed_then n (λ t. and_then (λ ts. Ok (s ∷ ts)) (states_from program (suc i) w t))
    (iteration branch)
    (placed_more (suc i) n (iteration branch) (omega arith)
    (iteration_placed (length program.names) (length program.locals) (suc i) branch s))
    (λ t. placed_then n (λ ts. Ok (s ∷ ts)) (states_from program (suc i) w t)
    (placed_more (suc i + length w) n (states_from program (suc i) w t) (omega arith)
    (states_placed program (suc i) w t)) (λ ts. tt)))
  where
    n : ℕ
    n = i + suc (length w)

    iteration : List (Statement (Expr At)) → Result (List Fraction) RunFault
    iteration branch = iteration_end (length program.names) (length program.locals) (suc i) branch s

    lettered : (o : Option (List (Statement (Expr At)))) → IsPlaced n (ok_or o (no_branch i))
    lettered None = omega arith
    lettered (Some branch) = tt
