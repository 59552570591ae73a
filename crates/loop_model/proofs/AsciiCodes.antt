-- The names of bytes are those of the bytes that texts have.
use Rattle.std.specs.Prelude.{◌≡◌, refl, [], ◌∷◌, codes}
use Rattle.loop_model.specs.Ascii.{tab, line_feed, carriage_return, blank, exclamation_mark, hash, left_parenthesis, right_parenthesis, star, plus_sign, comma, minus_sign, slash, digit_zero, semicolon, equal_sign, caret, underscore, left_brace, right_brace, tilde}

blanks_are : codes "\t\n\r " ≡ tab ∷ line_feed ∷ carriage_return ∷ blank ∷ []
blanks_are = refl

brackets_are : codes "(){}"
    ≡ left_parenthesis ∷ right_parenthesis ∷ left_brace ∷ right_brace ∷ []
brackets_are = refl

operators_are : codes "+-*/^="
    ≡ plus_sign ∷ minus_sign ∷ star ∷ slash ∷ caret ∷ equal_sign ∷ []
operators_are = refl

others_are : codes "!#,0;_~"
    ≡ exclamation_mark ∷ hash ∷ comma ∷ digit_zero ∷ semicolon ∷ underscore ∷ tilde ∷ []
others_are = refl
