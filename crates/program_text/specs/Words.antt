-- Words of programs.
--   Keyword                 vars, if, else, while, for, assume, assert, any; a word of any and digits, which is an unknown of a certificate; another keyword of loops
--   is_unknown_word w       the word is any and digits behind it, one at least
--   keyword_of w            the keyword that the word w is
--   is_plain_word w         a letter, then letters, digits and _, but no keyword
use Rattle.std.specs.Prelude.{ℕ, Bool, ◌&&◌, List, take, drop, if◌then◌else◌, Option, Some, None, is_none, is_some, codes}
use Rattle.std.specs.Str.{bytes_eq, all_ascii_digits}
use Rattle.loop_model.specs.Words as words
pub use Rattle.loop_model.specs.Words.{is_word, is_word_text}

pub data Keyword : Type 0 where
  vars_word if_word else_word while_word for_word assume_word assert_word any_word
      unknown_word loop_word : Keyword

abbrev pub is_unknown_word : List ℕ → Bool
is_unknown_word w = bytes_eq (take 3 w) (codes "any") && all_ascii_digits (drop 3 w)

unfoldable pub keyword_of : List ℕ → Option Keyword
keyword_of w = if bytes_eq w (codes "vars") then Some vars_word
    else (if bytes_eq w (codes "if") then Some if_word
    else (if bytes_eq w (codes "else") then Some else_word
    else (if bytes_eq w (codes "while") then Some while_word
    else (if bytes_eq w (codes "for") then Some for_word
    else (if bytes_eq w (codes "assume") then Some assume_word
    else (if bytes_eq w (codes "assert") then Some assert_word
    else (if bytes_eq w (codes "any") then Some any_word
    else (if is_unknown_word w then Some unknown_word
    else (if is_some (words.keyword_of w) then Some loop_word else None)))))))))

abbrev pub is_plain_word : List ℕ → Bool
is_plain_word w = is_word_text w && is_none (keyword_of w)
