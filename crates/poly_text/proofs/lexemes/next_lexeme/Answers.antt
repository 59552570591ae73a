use Rattle.std.proofs.Common.{◌≡◌, ◌-◌, ℕ, List, length, take, drop, ap, ◌∙◌, arith}
use Rattle.std.proofs.lemmas.List.{take_all, length-drop}
use Rattle.poly_text.specs.Tokens.{len_at}
use Rattle.poly_text.specs.Lexemes.{lexeme_at}
use Rattle.poly_text.specs.NextToken.{seen_lexeme}
use Rattle.poly_text.proofs.Lexing.{tokens_from-at}
use Rattle.poly_text.proofs.Shapes.{token-shaped, token-moves}
use Rattle.poly_text.proofs.lexemes.next_lexeme.Goals as goal

whole : (text : List ℕ) (at : ℕ) → take (length text - at) (drop at text) ≡ drop at text
whole text at = take_all (length text - at) (drop at text) (omega (arith, length-drop at text))

pub returns-clause-tokens : goal.returns-clause-tokens
returns-clause-tokens c =
    let text = c.args.text.now in
    let at = c.skip_blanks-at.result in
    let first = c.first_lexeme-len in
    tokens_from-at text c.args.from at first.result.1 (seen_lexeme first.result.0)
    c.skip_blanks-at.ensures.start (first.ensures.lexeme ∙ ap lexeme_at (whole text at))
    (first.ensures.len ∙ ap len_at (whole text at))

pub returns-clause-shape : goal.returns-clause-shape
returns-clause-shape c =
    let text = c.args.text.now in
    let at = c.skip_blanks-at.result in
    let first = c.first_lexeme-len in
    token-shaped text at first.result.1 (seen_lexeme first.result.0) c.skip_blanks-at.ensures.within
    (first.ensures.lexeme ∙ ap lexeme_at (whole text at)) (first.ensures.len
    ∙ ap len_at (whole text at))

pub returns-clause-moves : goal.returns-clause-moves
returns-clause-moves c =
    let text = c.args.text.now in
    let at = c.skip_blanks-at.result in
    let first = c.first_lexeme-len in
    token-moves text c.args.from at first.result.1 first.result.0 c.skip_blanks-at.ensures.start
    (first.ensures.lexeme ∙ ap lexeme_at (whole text at)) (first.ensures.len
    ∙ ap len_at (whole text at))
