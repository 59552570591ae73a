-- What the answers of the functions that read loops cite, from one place.
pub use Rattle.std.proofs.lemmas.Result.{err_from_is_err_and}
pub use Rattle.std.proofs.lemmas.List.{map_push, length-map}
pub use Rattle.loop_model.specs.ExpressionView.{expr_of}
pub use Rattle.grammars.specs.Grammar.{sequence, many, some, change, optional, rule}
pub use Rattle.poly_text.specs.CursorView.{rest, bytes_left, items}
pub use Rattle.poly_text.specs.Lexemes.{tokens_from, Placed, tokens, is_sign_of, is_end_of}
pub use Rattle.poly_text.specs.NextToken.{seen_lexeme}
pub use Rattle.poly_text.specs.Reasons.{limit, Fault, syntax, unknown, twice, init_uses, Reason, or_else}
pub use Rattle.poly_text.specs.declared.cursor.Cursor.{Cursor}
pub use Rattle.poly_text.proofs.CursorReads.{no_first, here, token_barred, at_left, at_right}
pub use Rattle.poly_text.proofs.Paths.{GoesOn, start, on, ends, stops_going, stops_last_going, over, stops, stops_last, in_parts, continued_going, continued, then_on, IsFault}
pub use Rattle.loop_model.specs.Parts.{statement_of, equation_of, parts}
pub use Rattle.loop_text.specs.declared.begun.Begun.{Begun}
pub use Rattle.loop_text.specs.Loops.{declared_fault, declare, declared_name, names, nothing, sign, loop_language, keep, keyword, name_fault, set_fault, set_variable, sum, end_equation, with_equation, no_sum_value, init, init_end, end_sum, LoopState, guard, branch, the_end, Rule, branch_word_token, head, statements, branch_fault, begin_branch, loop, target_fault, aim, with_branch, statement_fault, begin_statement, end_statement, end_branch, with_statement, targets, values, statement_end, several, target, value_list, single, statement, LoopContext, only_target, right_side, more_values}
pub use Rattle.loop_text.specs.States.{used_in, with_names, in_init, Inits, in_branches, with_init, branches_of, reading, Before, between, is_keyword_of, whole, in_statement, behind, IsLeft, left_fault}
pub use Rattle.loop_text.specs.Limited.{branch_limit, statement_limit}
pub use Rattle.loop_text.proofs.ListReads.{due, none_due, each, next_one, last_one, comma_list}
pub use Rattle.loop_text.proofs.TokenReads.{keyword_read, keyword_at_fault, keyword_barred, end_is, end_read, end_barred, sign_no_end, keyword_no_end, keyword_kind, no_keyword_kind, sign_read, sign_at_fault, sign_barred}
pub use Rattle.loop_text.proofs.SumReads.{sum_fault, equation_read, has_used, right_side_read}
