-- What the answer of the reader of sequences says.
--   IsIteration f ns ts         where the recurrences are ns, the variables become ts in an iteration
--   HasReadIteration f c r         a recurrence was read for each sequence, and the variables become these
--   ReadsIteration f c result   they were read from the cursor c on, or its first fault
--   HasIteration f ts           the sequences f have recurrences with which the variables become ts
--   IsLoopOf s qs          the loop of the sequences qs, their places, and their names
--   Says result told       the answer is what the text says
use Rattle.std.specs.Prelude.{◌≡◌, ◌<◌, length, map, ℕ, List, [], Result, Ok, Err, IfSome, option_map}
use Rattle.std.specs.Global.{Vec}
use Rattle.algebra.specs.Each.{Each}
use Rattle.loops.specs.Program.{Expr}
use Rattle.loop_model.specs.ExpressionView.{expr_of}
use Rattle.loop_model.specs.declared.expr.Expr as code
use Rattle.grammars.specs.Grammar.{rule}
use Rattle.poly_text.specs.CursorView.{rest}
use Rattle.poly_text.specs.Reasons.{Fault}
use Rattle.poly_text.specs.Faults.{fault_of}
use Rattle.poly_text.specs.declared.cursor.Cursor.{Cursor}
use Rattle.poly_text.specs.declared.error.TextError.{TextError}
use Rattle.loop_model.specs.View.{program_of}
use Rattle.loops.specs.Sequences.{Sequence, sequence_names, AreFormed}
use Rattle.loops.specs.Turning as turning
use Rattle.loops.specs.Turning.{first_places}
use Rattle.loop_text.specs.Seqs.{more_nexts}
use Rattle.loop_text.specs.LoopLayout.{iterations, UsesBelow}
use Rattle.loop_text.specs.declared.sequences.Seqs.{Seqs}
use Rattle.loop_text.specs.declared.sequence_firsts.Firsts.{Firsts}
use Rattle.loop_text.specs.SequenceStates.{reading}
use Rattle.loop_text.specs.Firsts.{values_in, behind_all, AreMade}

pub record IsIteration (f : Firsts) (ns : List (Expr ℕ)) (ts : List code.Expr) : Type 0 where
  pub count : length ns ≡ length f.sequences
  pub over : Each (UsesBelow (length (values_in f))) ns
  pub is : map expr_of ts ≡ iterations 0 f.orders.items ns

pub record HasReadIteration (f : Firsts) (c : Cursor) (r : Vec code.Expr × Cursor) : Type 0 where
  pub nexts : List (Expr ℕ)
  pub iteration : IsIteration f nexts r.0.items
  pub goes : Ok (behind_all f nexts, rest r.1)
      ≡ reading (rule more_nexts) (behind_all f []) (rest c)

abbrev pub ReadsIteration : Firsts → Cursor → Result (Vec code.Expr × Cursor) TextError → Type 0
ReadsIteration f c (Ok r) = HasReadIteration f c r
ReadsIteration f c (Err e) = IfSome (option_map Err (fault_of e))
    (λ r. r ≡ reading (rule more_nexts) (behind_all f []) (rest c))

pub record HasIteration (f : Firsts) (ts : List code.Expr) : Type 0 where
  pub some : 0 < length f.sequences
  pub made : AreMade f
  pub nexts : List (Expr ℕ)
  pub iteration : IsIteration f nexts ts

pub record IsLoopOf (s : Seqs) (qs : List (Sequence (Expr ℕ))) : Type 0 where
  pub is : program_of s.lp ≡ turning.program_of qs
  pub places : s.shown.items ≡ first_places 0 qs
  pub names : s.names ≡ sequence_names qs
  pub formed : AreFormed qs

pub record IsReadAs (s : Seqs) (told : Result (List (Sequence (Expr ℕ))) Fault) : Type 0 where
  pub sequences : List (Sequence (Expr ℕ))
  pub said : told ≡ Ok sequences
  pub is : IsLoopOf s sequences

abbrev pub Says : Result Seqs TextError → Result (List (Sequence (Expr ℕ))) Fault → Type 0
Says (Ok s) told = IsReadAs s told
Says (Err e) told = IfSome (option_map Err (fault_of e)) (λ r. r ≡ told)
