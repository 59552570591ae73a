-- Which variables the polynomials of a graph have: k in front, copies of t others, and m behind these.
--   width_of s         how many there are
--   wider k t e        the exponents e with those of t copies behind the first k, all 0
--   passers bs         how many of the variables pass, of which bs tells whether they do
--   before_in w k bs j ps     what each variable was, of w variables with k in front: with the copies from the jth on, the copy of one that passes, else that of the ps
--   AreFrom w n ps     the ps stand for the variables from the nth on, of w
use Rattle.std.specs.Prelude.{ℕ, suc, ◌+◌, Bool, true, false, List, [], ◌∷◌, ◌++◌, take, drop, replicate}
use Rattle.algebra.specs.Fraction.{Fraction}
use Rattle.polynomials.specs.Terms.{Terms}
use Rattle.rounds.specs.Form.{variable_at}
use Rattle.task_lists.specs.declared.shape.Shape.{Shape}

abbrev pub width_of : Shape → ℕ
width_of s = s.front + s.copies + s.variables

abbrev pub wider : ℕ → ℕ → List ℕ → List ℕ
wider k t e = take k e ++ (replicate t 0 ++ drop k e)

abbrev pub passers : List Bool → ℕ
passers [] = 0
passers (true ∷ bs) = suc (passers bs)
passers (false ∷ bs) = passers bs

abbrev pub before_in : ℕ → ℕ → List Bool → ℕ → List (Terms Fraction) → List (Terms Fraction)
before_in w k [] j ps = []
before_in w k (b ∷ bs) j [] = []
before_in w k (true ∷ bs) j (p ∷ ps) = variable_at w (k + j) ∷ before_in w k bs (suc j) ps
before_in w k (false ∷ bs) j (p ∷ ps) = p ∷ before_in w k bs j ps
