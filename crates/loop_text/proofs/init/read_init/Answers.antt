use Rattle.std.proofs.Common.{refl, sym, ◌∙◌, None}
use Rattle.loop_model.specs.Words.{init_word}
use Rattle.poly_text.specs.CursorView.{behind}
use Rattle.poly_text.proofs.Paths.{reading_change}
use Rattle.loop_text.specs.Loops.{start}
use Rattle.loop_text.proofs.Answering.{sequence, change, optional, rest, seen_lexeme, continued, then_on, here, at_left, at_right, comma_list, keyword_read, keyword_kind, no_keyword_kind, keep, keyword, init, init_end, loop_language, with_names}
use Rattle.loop_text.proofs.init.read_init.Goals as goal

pub returns-then-is_keyword : goal.returns-then-is_keyword
returns-then-is_keyword c =
    let k = c.args.cursor in
    let s = with_names c.args.names.now.variables c.args.names.now.locals in
    let equations = sequence (comma_list start) init_end in
    continued loop_language (optional init) equations s s _ k c.next.result c.read_equations.result
    (at_left loop_language init (change (λ c. c) (λ c v. v)) s k
    (keyword_kind init_word (seen_lexeme k.token.lexeme) (sym c.if-is_keyword.ensures))
    ∙ then_on loop_language (keyword init_word) equations s (rest k) s (rest c.next.result)
    (keyword_read init_word k (λ c. None) (λ c. c) keep s (sym c.if-is_keyword.ensures) refl
    (rest c.next.result) c.next.ensures.tokens))
    c.read_equations.ensures

pub returns-else-is_keyword : goal.returns-else-is_keyword
returns-else-is_keyword c =
    let k = c.args.cursor in
    let s = with_names c.args.names.now.variables c.args.names.now.locals in
    rw c.new.ensures.items (sym (at_right loop_language init (change (λ c. c) (λ c v. v)) s k
    (no_keyword_kind init_word (seen_lexeme k.token.lexeme) (sym c.if-is_keyword.ensures))
    ∙ reading_change loop_language (λ c. c) (λ c v. v) s (here k) (behind k)))
