-- Words.
--   is_word c               may stand in a word behind its first letter
--   is_word_text text       an ASCII letter, then bytes of words
--   Keyword                 vars, init, branch, when
--   keyword_of w            the keyword that the word w is
--   is_plain_word w         a letter, then letters, digits and _, but no keyword
use Rattle.std.specs.Prelude.{ℕ, Bool, false, ◌&&◌, ◌||◌, List, [], ◌∷◌, ◌==◌, if◌then◌else◌, Option, Some, None, is_none, codes}
use Rattle.std.specs.List.{list_all}
use Rattle.std.specs.Char.{is_ascii_alphabetic, is_ascii_alphanumeric}
use Rattle.std.specs.Str.{bytes_eq}
use Rattle.loop_model.specs.Ascii.{underscore}

abbrev pub is_word : ℕ → Bool
is_word c = is_ascii_alphanumeric c || c == underscore

abbrev pub is_word_text : List ℕ → Bool
is_word_text [] = false
is_word_text (c ∷ cs) = is_ascii_alphabetic c && list_all is_word cs

pub data Keyword : Type 0 where
  vars_word init_word branch_word when_word : Keyword

unfoldable pub keyword_of : List ℕ → Option Keyword
keyword_of w = if bytes_eq w (codes "vars") then Some vars_word
    else (if bytes_eq w (codes "init") then Some init_word
    else (if bytes_eq w (codes "branch") then Some branch_word
    else (if bytes_eq w (codes "when") then Some when_word else None)))

abbrev pub is_plain_word : List ℕ → Bool
is_plain_word w = is_word_text w && is_none (keyword_of w)
