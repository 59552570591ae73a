-- Sequences as a loop: an iteration goes from n to n + 1.
--   underscore           the byte between a name and an index
--   indexed_names w i r        the names w_i, w_(i+1), .., r of them;  names_of q: the name of q, and with it the indices from 1 on, as many as its order;  names qs: those of all
--   all_given qs         the values that are given, of all
--   equations i es       the variables from i on have the values es
--   variables_from i r   the variables from i on, r of them;  places i r: their places
--   iteration i qs            what the variables from i on become: each the next one, and the last of a sequence what its recurrence gives
--   program_of qs        the loop
--   first_places i qs           the places of the sequences themselves, where the variables begin at i
use Rattle.std.specs.Prelude.{ℕ, zero, suc, ◌+◌, List, [], ◌∷◌, ◌++◌, length, decimal}
use Rattle.loops.specs.Program.{Expr, variable, Statement, Equation, Program}
use Rattle.loops.specs.Sequences.{Sequence, order, given_values, size}

-- the byte _
abbrev pub underscore : ℕ
underscore = 95

unfoldable pub indexed_names : List ℕ → ℕ → ℕ → List (List ℕ)
indexed_names w i zero = []
indexed_names w i (suc r) = (w ++ underscore ∷ decimal i) ∷ indexed_names w (suc i) r

unfoldable pub places : ℕ → ℕ → List ℕ
places i zero = []
places i (suc r) = i ∷ places (suc i) r

module _ {E : Type 0} where
  abbrev pub names_of : Sequence E → List (List ℕ)
  names_of q = q.name ∷ indexed_names q.name 1 (length q.later)

  unfoldable pub names : List (Sequence E) → List (List ℕ)
  names [] = []
  names (q ∷ qs) = names_of q ++ names qs

  unfoldable pub all_given : List (Sequence E) → List E
  all_given [] = []
  all_given (q ∷ qs) = given_values q ++ all_given qs

  unfoldable pub equations : ℕ → List E → List (Equation E)
  equations i [] = []
  equations i (e ∷ es) = record { name = i; value = e } ∷ equations (suc i) es

  unfoldable pub first_places : ℕ → List (Sequence E) → List ℕ
  first_places i [] = []
  first_places i (q ∷ qs) = i ∷ first_places (i + order q) qs

module _ {At : Type 0} where
  unfoldable pub variables_from : ℕ → ℕ → List (Expr At)
  variables_from i zero = []
  variables_from i (suc r) = variable i ∷ variables_from (suc i) r

  unfoldable pub iteration : ℕ → List (Sequence (Expr At)) → List (Expr At)
  iteration i [] = []
  iteration i (q ∷ qs) = variables_from (suc i) (length q.later) ++ q.next ∷ iteration (i + order q)
      qs

  abbrev pub step : List (Sequence (Expr At)) → Statement (Expr At)
  step qs = record { targets = places 0 (size qs); values = iteration 0 qs }

  abbrev pub program_of : List (Sequence (Expr At)) → Program (Expr At)
  program_of qs = record {
    names = names qs;
    locals = [];
    init = equations 0 (all_given qs);
    branches = (step qs ∷ []) ∷ [];
  }
