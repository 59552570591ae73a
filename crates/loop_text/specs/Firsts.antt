-- What was read before the recurrences.
--   values_in f          the values that are given
--   behind f             as a state of the grammar's reader: the sequences f were read, and another may follow;  opened f i: the last one is open, with i values
--   behind_all f ns      all sequences were read, and then the recurrences ns
--   IsDeclared w ws ws'  the sequence w is declared behind the ws
--   AreMade f            the sequences f have their variables and values
--   IsOpen f i w         so have those before the last one, which is w and has i values so far
use Rattle.std.specs.Prelude.{◌≡◌, ◌≢◌, ℕ, ◌+◌, ◌<◌, ◌≤◌, List, [], ◌∷◌, ◌++◌, length, map, None}
use Rattle.algebra.specs.Each.{Each}
use Rattle.loops.specs.Limits.{most_names}
use Rattle.loops.specs.Program.{Expr}
use Rattle.loop_model.specs.Names.{place_of}
use Rattle.loop_model.specs.ExpressionView.{expr_of}
use Rattle.loop_model.specs.Parts.{equation_of}
use Rattle.loop_model.specs.declared.statement.Init.{Init}
use Rattle.loops.specs.Turning.{equations}
use Rattle.loop_text.specs.Seqs.{SeqState}
use Rattle.loop_text.specs.Names.{sequence_variables, all_variables, IsSeqName}
use Rattle.loop_text.specs.LoopLayout.{total, IsGiven, AreGiven}
use Rattle.loop_text.specs.declared.sequence_firsts.Firsts.{Firsts}
use Rattle.loop_text.specs.SequenceStates.{in_first, behind_firsts}

abbrev pub values_in : Firsts → List (Expr ℕ)
values_in f = map (λ (i : Init). expr_of i.value) f.start.items

abbrev pub opened : Firsts → ℕ → SeqState
opened f i = in_first f.sequences f.variables f.orders.items (values_in f) i

abbrev pub behind : Firsts → SeqState
behind f = opened f 0

abbrev pub behind_all : Firsts → List (Expr ℕ) → SeqState
behind_all f ns = behind_firsts f.sequences f.variables f.orders.items (values_in f) ns

pub record IsDeclared (w : List ℕ) (before after : List (List ℕ)) : Type 0 where
  pub is : after ≡ before ++ w ∷ []
  pub good : IsSeqName w
  pub other : place_of before w ≡ None

pub record AreMade (f : Firsts) : Type 0 where
  pub good : Each IsSeqName f.sequences
  pub names : f.variables ≡ all_variables f.sequences f.orders.items
  pub count : length f.orders.items ≡ length f.sequences
  pub values : AreGiven f.orders.items (values_in f)
  pub start : map equation_of f.start.items ≡ equations 0 (values_in f)
  pub long : length f.variables ≡ length (values_in f)

pub record IsOpen (f : Firsts) (i : ℕ) (w : List ℕ) : Type 0 where
  pub before : List (List ℕ)
  pub is : f.sequences ≡ before ++ w ∷ []
  pub good : Each IsSeqName before
  pub name : IsSeqName w
  pub apart : Each (λ v. v ≢ w) before
  pub names : f.variables ≡ all_variables before f.orders.items ++ sequence_variables w i
  pub count : length f.orders.items ≡ length before
  pub some : Each (λ r. 0 < r) f.orders.items
  pub total : total f.orders.items + i ≡ length (values_in f)
  pub few : length (values_in f) ≤ most_names
  pub given : Each IsGiven (values_in f)
  pub start : map equation_of f.start.items ≡ equations 0 (values_in f)
  pub long : length f.variables ≡ length (values_in f)
