use Rattle.std.proofs.Common.{◌≡◌, [], ◌∷◌, refl, sym, subst, Ok}
use Rattle.poly_text.specs.Lexemes as lexemes
use Rattle.poly_text.specs.Kinds.{an_end}
use Rattle.poly_text.specs.NextToken.{seen_lexeme, tokens_behind}
use Rattle.poly_text.specs.Sums.{sum_language, the_end}
use Rattle.poly_text.specs.Telling.{reading}
use Rattle.poly_text.proofs.KindTests.{unlike}
use Rattle.poly_text.proofs.CursorReads.{taken, token_barred}
use Rattle.poly_text.proofs.equation.expect_end.Goals as goal

pub returns-in-End : goal.returns-in-End
returns-in-End c = λ t.
    let k = c.args.cursor in
    subst (λ l. Ok (t, []) ≡ reading sum_language the_end t (record {
      at = k.token.at;
      lexeme = seen_lexeme l;
    } ∷ tokens_behind k.text.now (seen_lexeme l) k.token.end))
    (sym c.in-End.is)
    (taken sum_language the_end t (record { at = k.token.at; lexeme = lexemes.the_end }) [] refl
    refl refl)

pub returns-in_default : goal.returns-in_default
returns-in_default c = λ t. token_barred sum_language the_end refl t c.args.cursor
    (unlike (an_end ∷ []) c.args.cursor.token.lexeme refl (c.in_default.not-End, tt))
