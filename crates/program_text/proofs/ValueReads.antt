-- As many right sides as there are targets.
--   more_values_due     behind fewer: a comma, and the next ones
--   no_values_due       behind the last: what ends them
use Rattle.std.proofs.Common.{◌≡◌, ℕ, ◌<◌, ◌≤◌, List, length, ap, sym, ◌∙◌, true, false, nat_lt, arith}
use Rattle.std.proofs.lemmas.Bool.Decides.{nat_tests}
use Rattle.loops.specs.Program.{Expr}
use Rattle.grammars.specs.Grammar.{sequence, rule}
use Rattle.program_text.specs.CursorView.{rest, behind}
use Rattle.program_text.specs.Lexemes.{Placed}
use Rattle.program_text.specs.declared.cursor.Cursor.{Cursor}
use Rattle.program_text.proofs.CursorReads.{here}
use Rattle.program_text.proofs.Paths.{reading_rule, reading_change, in_first, in_parts, then_on, GoesOn, over}
use Rattle.program_text.specs.Programs.{ProgramValue, ProgramState, Rule, keep, sign, right_side, more_values, more_if, another_value, program_language}
use Rattle.program_text.specs.States.{reading, in_set}
use Rattle.program_text.proofs.ProgramChecked.{programs_checked}
use Rattle.program_model.specs.Program.{Divisor}

-- behind a right side
module _ {g : Rule} {r : ProgramState} {os : List Placed} (names : List (List ℕ))
    (n d : ℕ) (w : ProgramValue) (is : List ℕ) (es : List (Expr ℕ)) (ds : List (Divisor (Expr ℕ)))
    (c : Cursor)
    (path : GoesOn program_language g r os (sequence (rule more_values) (sign 41))
    (in_set names n d w is es ds) (rest c)) where
  abbrev s : ProgramState
  s = in_set names n d w is es ds

  pub more_values_due : length es < length is
      → GoesOn program_language g r os
      (sequence (sign 44) (sequence (sequence right_side (rule more_values)) (sign 41))) s (rest c)
  more_values_due few =
      let fits : nat_lt (length es) (length is) ≡ true = grind (arith, nat_tests) in
      over path _ _ _ (in_first program_language (rule more_values) (sign 41) s (rest c)
      another_value
      s (rest c) (reading_rule program_language programs_checked more_values s (rest c)
      ∙ ap (λ b. reading (more_if b) s (rest c)) fits)
      ∙ in_parts program_language (sign 44) (sequence right_side (rule more_values)) s (rest c)
      (sign 41))

  pub no_values_due : length is ≤ length es → GoesOn program_language g r os (sign 41) s (rest c)
  no_values_due all =
      let past : nat_lt (length es) (length is) ≡ false = grind (arith, nat_tests) in
      over path _ _ _ (then_on program_language (rule more_values) (sign 41) s (rest c) s (rest c)
      (sym (reading_rule program_language programs_checked more_values s (rest c)
      ∙ ap (λ b. reading (more_if b) s (rest c)) past
      ∙ reading_change program_language (λ c. c) keep s (here c) (behind c))))
