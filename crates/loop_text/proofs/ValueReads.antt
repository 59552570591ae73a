-- As many right sides as there are targets.
--   more_values_due     behind fewer: a comma, and the next ones
--   no_values_due       behind the last: what ends them
use Rattle.std.proofs.Common.{◌≡◌, ℕ, ◌<◌, ◌≤◌, List, length, ap, sym, ◌∙◌, true, false, nat_lt, arith}
use Rattle.std.proofs.lemmas.Bool.Decides.{nat_tests}
use Rattle.loops.specs.Program.{Expr}
use Rattle.grammars.specs.Grammar.{sequence, rule}
use Rattle.poly_text.specs.CursorView.{rest, behind}
use Rattle.poly_text.specs.Lexemes.{Placed}
use Rattle.poly_text.specs.declared.cursor.Cursor.{Cursor}
use Rattle.poly_text.proofs.CursorReads.{here}
use Rattle.poly_text.proofs.Paths.{reading_rule, reading_change, in_first, in_parts, then_on, GoesOn, over}
use Rattle.loop_text.specs.Loops.{LoopState, Rule, keep, sign, right_side, more_values, more_if, another_value, loop_language}
use Rattle.loop_text.specs.States.{reading, Before, in_statement}
use Rattle.loop_text.proofs.LoopChecked.{loops_checked}
use Rattle.loop_text.specs.declared.begun.Begun.{Begun}

-- behind a right side
module _ {g : Rule} {r : LoopState} {os : List Placed} (names : List (List ℕ)) (us : List ℕ)
    (n : Begun) (b : Before) (is : List ℕ) (es : List (Expr ℕ)) (c : Cursor)
    (path : GoesOn loop_language g r os (sequence (rule more_values) (sign 41))
    (in_statement names us n b is es) (rest c)) where
  abbrev s : LoopState
  s = in_statement names us n b is es

  pub more_values_due : length es < length is
      → GoesOn loop_language g r os
      (sequence (sign 44) (sequence (sequence right_side (rule more_values)) (sign 41))) s (rest c)
  more_values_due few =
      let fits : nat_lt (length es) (length is) ≡ true = grind (arith, nat_tests) in
      over path _ _ _ (in_first loop_language (rule more_values) (sign 41) s (rest c) another_value
      s (rest c) (reading_rule loop_language loops_checked more_values s (rest c)
      ∙ ap (λ b. reading (more_if b) s (rest c)) fits)
      ∙ in_parts loop_language (sign 44) (sequence right_side (rule more_values)) s (rest c)
      (sign 41))

  pub no_values_due : length is ≤ length es → GoesOn loop_language g r os (sign 41) s (rest c)
  no_values_due all =
      let past : nat_lt (length es) (length is) ≡ false = grind (arith, nat_tests) in
      over path _ _ _ (then_on loop_language (rule more_values) (sign 41) s (rest c) s (rest c)
      (sym (reading_rule loop_language loops_checked more_values s (rest c)
      ∙ ap (λ b. reading (more_if b) s (rest c)) past
      ∙ reading_change loop_language (λ c. c) keep s (here c) (behind c))))
