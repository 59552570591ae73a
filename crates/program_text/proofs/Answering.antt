-- What the answers of the functions that read programs cite, from one place.
pub use Rattle.std.proofs.lemmas.Result.{err_from_is_err_and}
pub use Rattle.std.proofs.lemmas.List.{map_push, length-map}
pub use Rattle.loop_model.specs.ExpressionView.{expr_of}
pub use Rattle.grammars.specs.Grammar.{sequence, many, some, change, either, rule}
pub use Rattle.poly_text.specs.Reasons.{limit, Fault, syntax, unknown, twice, Reason, or_else}
pub use Rattle.program_model.specs.SyntaxView.{divisor_of, comparison_of, guard_of}
pub use Rattle.program_model.specs.StatementView.{block_of, statement_of}
pub use Rattle.program_text.specs.CursorView.{rest, behind, bytes_left, items}
pub use Rattle.program_text.specs.Lexemes.{tokens_from, Placed, tokens, is_sign_of, is_end_of}
pub use Rattle.program_text.specs.NextToken.{seen_lexeme}
pub use Rattle.program_text.specs.declared.cursor.Cursor.{Cursor}
pub use Rattle.program_text.proofs.CursorReads.{no_first, here, token_barred, at_left, at_right}
pub use Rattle.program_text.proofs.Paths.{GoesOn, start, on, ends, stops_going, stops_last_going, over, stops, stops_last, in_parts, continued_going, continued, then_on, IsFault}
pub use Rattle.program_text.specs.Programs.{ProgramContext, ProgramValue, ProgramState, Rule, keep, sign, keyword, statement_fault, begin_statement, end_statement, with_set, with_unknown, only_target_fault, aim_only, aim, word_keeps, target_fault, only_target, any_token, any_value, set_value, right_side, set_end, unknown_end, targets, target, values, value_list, more_values, several, single, program_language}
pub use Rattle.program_text.specs.States.{reading, with_block, with_guard, with_place, with_counter, in_set, at_statement, statement_limit, is_keyword_of, target_told, IsTarget}
pub use Rattle.program_text.proofs.ListReads.{due, none_due, each, next_one, last_one, comma_list}
pub use Rattle.program_text.proofs.TokenReads.{keyword_read, keyword_at_fault, keyword_barred, noted_read, noted_at_fault, end_is, end_read, end_barred, sign_no_end, keyword_no_end, keyword_kind, no_keyword_kind, sign_read, sign_at_fault, sign_barred}
pub use Rattle.program_text.proofs.SumReads.{in_sum, sum_read, sum_fault, side_begins, right_side_read}
