-- Replaying a run with checked fractions.
--   RunFault                    why it is refused; letters and variables count from 0, steps from 1, and step 0 is the start
--   same_number p q             p and q are the same number
--   and_then f r                f of the value, or the fault
--   start_fault es s            the first equation that is too wide at s, or doesn't hold
--   values i is es s            the values of the right sides es at s, for the targets is, in step i
--   statement_end, branch_end   the state after a statement, and after the statements of a branch, in step i
--   iteration_end m k i cs s         the m variables after the branch cs, where k local names are 0 before it
--   states_from program i word s       the states from s on, where i letters came before
--   replay_of program start word       the states from the start to the end of the word, or the first fault
use Rattle.std.specs.Prelude.{ℕ, suc, Bool, ◌&&◌, ◌==◌, if◌then◌else◌, List, [], ◌∷◌, ◌++◌, get_or, take, replicate, length, Option, Some, None, ok_or, Result, Ok, Err}
use Rattle.std.specs.Option.{option_map_or}
use Rattle.std.specs.Ordering.{int_eq}
use Rattle.algebra.specs.Fraction.{Fraction, ℚ}
use Rattle.loops.specs.Program.{Program, Equation, Statement, Expr}
use Rattle.loops.specs.Effect.{store}
use Rattle.loops.specs.Run.{branch_at}
use Rattle.loop_runs.specs.Checked.{checked_value}

pub data RunFault : Type 0 where
  count : (values variables : ℕ) → RunFault
  start : (var : ℕ) → RunFault
  no_branch : (index : ℕ) → RunFault
  wide : (step var : ℕ) → RunFault

abbrev pub same_number : Fraction → Fraction → Bool
same_number p q = int_eq p.num q.num && p.den == q.den

abbrev pub and_then : {A B : Type 0} → (A → Result B RunFault) → Result A RunFault
    → Result B RunFault
and_then f (Ok x) = f x
and_then f (Err e) = Err e

unfoldable pub start_fault : {At : Type 0} → List (Equation (Expr At)) → List Fraction
    → Option RunFault
start_fault [] s = None
start_fault (e ∷ es) s = option_map_or
    (λ x. if same_number x (get_or s e.name ℚ.zero) then start_fault es s else Some (start e.name))
    (checked_value e.value s) (Some (wide 0 e.name))

unfoldable pub values : {At : Type 0} → ℕ → List ℕ → List (Expr At) → List Fraction
    → Result (List Fraction) RunFault
values i [] es s = Ok []
values i (v ∷ vs) [] s = Ok []
values i (v ∷ vs) (e ∷ es) s = and_then (λ x. and_then (λ xs. Ok (x ∷ xs)) (values i vs es s))
    (ok_or (checked_value e s) (wide i v))

abbrev pub statement_end : {At : Type 0} → ℕ → Statement (Expr At) → List Fraction
    → Result (List Fraction) RunFault
statement_end i c s = and_then (λ xs. Ok (store c.targets xs s)) (values i c.targets c.values s)

unfoldable pub branch_end : {At : Type 0} → ℕ → List (Statement (Expr At)) → List Fraction
    → Result (List Fraction) RunFault
branch_end i [] s = Ok s
branch_end i (c ∷ cs) s = and_then (branch_end i cs) (statement_end i c s)

unfoldable pub iteration_end : {At : Type 0} → ℕ → ℕ → ℕ → List (Statement (Expr At))
    → List Fraction
    → Result (List Fraction) RunFault
iteration_end m k i cs s = and_then (λ t. Ok (take m t)) (branch_end i cs (s ++ replicate k ℚ.zero))

unfoldable pub states_from : {At : Type 0} → Program (Expr At) → ℕ → List ℕ → List Fraction
    → Result (List (List Fraction)) RunFault
states_from program i [] s = Ok (s ∷ [])
states_from program i (b ∷ word) s = and_then
    (λ branch. and_then (λ t. and_then (λ ts. Ok (s ∷ ts)) (states_from program (suc i) word t))
    (iteration_end (length program.names) (length program.locals) (suc i) branch s))
    (ok_or (branch_at program b) (no_branch i))

unfoldable pub replay_of : {At : Type 0} → Program (Expr At) → List Fraction → List ℕ
    → Result (List (List Fraction)) RunFault
replay_of program s word =
    if length s == length program.names
    then option_map_or Err (start_fault program.init s) (states_from program 0 word s)
    else Err (count (length s) (length program.names))
