-- Sequences that are given by recurrences, as data.
--   Sequence E      a sequence f: its name; its first value f(0), and those later ones that are given, f(1) and so on; and what gives f(n + r), where r values are given
--   order q         how many values are given;  given_values q: these
--   size qs         how many are given of all of them
--   sequence_names qs     the names of the sequences
--   AreFormed qs    there is a sequence; what is given computes with no variable, and each recurrence with those of all sequences
-- E is what stands for an expression. In a recurrence the variables are, for each sequence f of order r in turn, f(n), f(n + 1), .., f(n + r - 1).
use Rattle.std.specs.Prelude.{ℕ, suc, ◌+◌, ◌<◌, List, [], ◌∷◌, map, length}
use Rattle.algebra.specs.Each.{Each}
use Rattle.loops.specs.Program.{Expr}
use Rattle.loops.specs.WellFormed.{Uses}

pub record Sequence (E : Type 0) : Type 0 where
  pub name : List ℕ
  pub first : E
  pub later : List E
  pub next : E

module _ {E : Type 0} where
  abbrev pub order : Sequence E → ℕ
  order q = suc (length q.later)

  abbrev pub given_values : Sequence E → List E
  given_values q = q.first ∷ q.later

  unfoldable pub size : List (Sequence E) → ℕ
  size [] = 0
  size (q ∷ qs) = order q + size qs

  abbrev pub sequence_names : List (Sequence E) → List (List ℕ)
  sequence_names qs = map (λ (q : Sequence E). q.name) qs

pub record AreFormed {At : Type 0} (qs : List (Sequence (Expr At))) : Type 0 where
  pub some : 0 < length qs
  pub values : Each (λ q. Each (Uses (λ i. ⊥)) (given_values q)) qs
  pub nexts : Each (λ (q : Sequence (Expr At)). Uses (λ i. i < size qs) q.next) qs
