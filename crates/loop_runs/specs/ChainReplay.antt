-- Replaying a run of a chain with checked fractions. Letters and steps count over all words; code is a step, and no letter.
--   fault_behind n k f          the fault f, where n letters and k steps came before
--   result_behind n k r         the states of a word, or its fault so
--   last_of ss                  the last of the states ss
--   with_code program n k code ss     the states ss, and the one behind the code from the last of them, if it has statements
--   with_word program n k w ss  the states ss, and those of one more word from the last of them
--   with_words program n k stages words ss     the same of each stage in turn, of its code and its word
--   chain_replay_of c s words   the states from the start s to the end of the last word, or the first fault
use Rattle.std.specs.Prelude.{ℕ, ◌+◌, ◌-◌, List, [], ◌∷◌, ◌++◌, drop, get_or, length, Result, Ok, Err}
use Rattle.algebra.specs.Fraction.{Fraction}
use Rattle.loops.specs.Program.{Program, Statement, Expr}
use Rattle.loops.specs.Chain.{Stage, Chain, loop_of, is_code}
use Rattle.loop_runs.specs.Replay.{RunFault, count, start, no_branch, wide, and_then, iteration_end, states_from, replay_of}

abbrev pub fault_behind : ℕ → ℕ → RunFault → RunFault
fault_behind n k (count values variables) = count values variables
fault_behind n k (start var) = start var
fault_behind n k (no_branch index) = no_branch (n + index)
fault_behind n k (wide step var) = wide (k + step) var

abbrev pub result_behind : {A : Type 0} → ℕ → ℕ → Result A RunFault → Result A RunFault
result_behind n k (Ok x) = Ok x
result_behind n k (Err f) = Err (fault_behind n k f)

abbrev pub last_of : List (List Fraction) → List Fraction
last_of ss = get_or ss (length ss - 1) []

unfoldable pub with_code : {At : Type 0} → Program (Expr At) → ℕ → ℕ → List (Statement (Expr At))
    → List (List Fraction) → Result (List (List Fraction)) RunFault
with_code program n k [] ss = Ok ss
with_code program n k (a ∷ code) ss = and_then (λ t. Ok (ss ++ t ∷ []))
    (result_behind n k
    (iteration_end (length program.names) (length program.locals) 1 (a ∷ code) (last_of ss)))

unfoldable pub with_word : {At : Type 0} → Program (Expr At) → ℕ → ℕ → List ℕ
    → List (List Fraction) → Result (List (List Fraction)) RunFault
with_word program n k w ss = and_then (λ ts. Ok (ss ++ drop 1 ts))
    (result_behind n k (states_from program 0 w (last_of ss)))

unfoldable pub with_words : {At : Type 0} → Program (Expr At) → ℕ → ℕ → List (Stage (Expr At))
    → List (List ℕ) → List (List Fraction) → Result (List (List Fraction)) RunFault
with_words program n k [] words ss = Ok ss
with_words program n k (g ∷ stages) [] ss = Ok ss
with_words program n k (g ∷ stages) (w ∷ words) ss =
    and_then (with_words program (n + length w) (k + is_code g.code + length w) stages words)
    (and_then (with_word (loop_of program g.branches) n (k + is_code g.code) w)
    (with_code program n k g.code ss))

unfoldable pub chain_replay_of : {At : Type 0} → Chain (Expr At) → List Fraction → List (List ℕ)
    → Result (List (List Fraction)) RunFault
chain_replay_of c s [] = Ok []
chain_replay_of c s (w ∷ words) =
    and_then (with_words c.first (length w) (length w) c.further words) (replay_of c.first s w)
