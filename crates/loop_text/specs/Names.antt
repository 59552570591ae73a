-- The names of the variables that sequences make.
--   sequence_variables w n        those of the sequence w with n values;  all_variables ws rs: those of the sequences ws with so many values each
--   IsSeqName w      a name of a sequence: a plain word of few bytes without _
--   AreReady ws rs w i variables     the sequences ws with so many values each have these variables, and so has the sequence w, another one, with i values; there is room for one more
use Rattle.std.specs.Prelude.{◌≡◌, ◌≢◌, ℕ, zero, suc, ◌<◌, ◌≤◌, ◌==◌, false, IsTrue, List, [], ◌∷◌, ◌++◌, length}
use Rattle.std.specs.List.{list_any}
use Rattle.algebra.specs.Each.{Each}
use Rattle.loops.specs.Limits.{most_names}
use Rattle.loop_model.specs.Ascii.{underscore}
use Rattle.loop_model.specs.Words.{is_plain_word}
use Rattle.loops.specs.Turning.{indexed_names}
use Rattle.loop_text.specs.Seqs.{most_seqname}

unfoldable pub sequence_variables : List ℕ → ℕ → List (List ℕ)
sequence_variables w zero = []
sequence_variables w (suc r) = w ∷ indexed_names w 1 r

unfoldable pub all_variables : List (List ℕ) → List ℕ → List (List ℕ)
all_variables (w ∷ ws) (r ∷ rs) = sequence_variables w r ++ all_variables ws rs
all_variables (w ∷ ws) [] = []
all_variables [] rs = []

pub record IsSeqName (w : List ℕ) : Type 0 where
  pub plain : IsTrue (is_plain_word w)
  pub short : length w ≤ most_seqname
  pub bare : list_any (λ c. c == underscore) w ≡ false

pub record AreReady (ws : List (List ℕ)) (rs : List ℕ) (w : List ℕ) (i : ℕ)
    (variables : List (List ℕ)) : Type 0 where
  pub good : Each IsSeqName ws
  pub apart : Each (λ v. v ≢ w) ws
  pub name : IsSeqName w
  pub made : variables ≡ all_variables ws rs ++ sequence_variables w i
  pub few : i ≤ length variables
  pub room : length variables < most_names
