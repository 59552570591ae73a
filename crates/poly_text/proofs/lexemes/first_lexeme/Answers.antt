use Rattle.std.proofs.Common.{true, false, refl, ap, sym, subst, ◌∙◌, IsTrue}
use Rattle.std.specs.Str.{all_ascii_digits}
use Rattle.std.specs.Str.Parse.{digits_value}
use Rattle.std.specs.Char.{is_ascii_digit}
use Rattle.loop_model.specs.Words.{is_word, is_word_text}
use Rattle.poly_text.specs.Tokens.{is_sign}
use Rattle.poly_text.specs.Lexemes.{word_of, number_of}
use Rattle.poly_text.proofs.Shapes.{run_taken, digits_pass, word_passes, lexeme_none, lexeme_by}
use Rattle.poly_text.proofs.lexemes.first_lexeme.Goals as goal

pub returns-in_default-clause-lexeme : goal.returns-in_default-clause-lexeme
returns-in_default-clause-lexeme c = lexeme_none c.args.text.now c.in_default.ensures.value

pub word_lexeme-requires : goal.word_lexeme-requires
word_lexeme-requires c =
    subst (λ w. IsTrue (is_word_text w))
    (sym (run_taken is_word c.args.text.now c.word_len-len.result c.word_len-len.ensures))
    (word_passes c.args.text.now c.in-Some.first.now c.in-Some.ensures.value
    (sym c.if-is_ascii_alphabetic.ensures.value))

pub number_lexeme-requires : goal.number_lexeme-requires
number_lexeme-requires c = subst (λ ds. IsTrue (all_ascii_digits ds))
    (sym (run_taken is_ascii_digit c.args.text.now c.digits_len-len.result
    c.digits_len-len.ensures)) (digits_pass c.args.text.now)

pub returns-then-is_ascii_alphabetic-clause-lexeme :
    goal.returns-then-is_ascii_alphabetic-clause-lexeme
returns-then-is_ascii_alphabetic-clause-lexeme c =
    let first = c.in-Some.first.now in
    c.word_lexeme.ensures.lexeme
    ∙ ap word_of (run_taken is_word c.args.text.now c.word_len-len.result
    c.word_len-len.ensures)
    ∙ lexeme_by c.args.text.now first c.in-Some.ensures.value true (is_ascii_digit first)
    (is_sign first) (sym c.if-is_ascii_alphabetic.ensures.value) refl refl

pub returns-then-is_ascii_digit-clause-lexeme : goal.returns-then-is_ascii_digit-clause-lexeme
returns-then-is_ascii_digit-clause-lexeme c =
    let first = c.in-Some.first.now in
    c.number_lexeme.ensures.lexeme ∙ ap (λ ds. number_of (digits_value 10 ds))
    (run_taken is_ascii_digit c.args.text.now c.digits_len-len.result c.digits_len-len.ensures)
    ∙ lexeme_by c.args.text.now first c.in-Some.ensures.value false true (is_sign first)
    (sym c.if-is_ascii_alphabetic.ensures.value) (sym c.if-is_ascii_digit.ensures.value) refl

pub returns-then-is_sign-clause-lexeme : goal.returns-then-is_sign-clause-lexeme
returns-then-is_sign-clause-lexeme c = lexeme_by c.args.text.now c.in-Some.first.now
    c.in-Some.ensures.value false false true (sym c.if-is_ascii_alphabetic.ensures.value)
    (sym c.if-is_ascii_digit.ensures.value) (sym c.if-is_sign.ensures)

pub returns-else-is_sign-clause-lexeme : goal.returns-else-is_sign-clause-lexeme
returns-else-is_sign-clause-lexeme c = lexeme_by c.args.text.now c.in-Some.first.now
    c.in-Some.ensures.value false false false (sym c.if-is_ascii_alphabetic.ensures.value)
    (sym c.if-is_ascii_digit.ensures.value) (sym c.if-is_sign.ensures)
