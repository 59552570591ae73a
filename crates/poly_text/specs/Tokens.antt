-- The tokens of a text: words, numbers and single signs, with blanks between them.
--   is_blank c               a space, a tab, a line feed or a carriage return
--   is_sign c                is a token by itself
--   blank_len text           how many bytes at the front are blank; a comment goes from # up to the end of its line, which is a line feed
--   comment_len text         the same inside a comment
--   word_at, digits_at       the word and the digits at the front, as long as possible
--   len_at                   the length of the token at the front
--   start_of text from       where the blanks from there end
--   number_limit             a number of a text is below it; a larger one is large
--   IsLongestRun p text a b  from a to b each byte passes p, and the one at b doesn't
use Rattle.std.specs.Prelude.{◌≡◌, ℕ, suc, ◌+◌, ◌<◌, ◌≤◌, ◌^◌, List, [], ◌∷◌, Bool, true, false, ◌||◌, ◌==◌, if◌then◌else◌, length, drop, take_while, slice_index, codes}
use Rattle.std.specs.List.{list_any}
use Rattle.std.specs.Char.{is_ascii_alphabetic, is_ascii_digit}
use Rattle.loop_model.specs.Ascii.{tab, line_feed, carriage_return, blank, hash}
use Rattle.loop_model.specs.Words.{is_word}

abbrev pub number_limit : ℕ
number_limit = 2 ^ 127

abbrev pub is_blank : ℕ → Bool
is_blank c = c == blank || c == tab || c == line_feed || c == carriage_return

abbrev pub is_sign : ℕ → Bool
is_sign c = list_any (λ s. s == c) (codes ",;=(){}+-*/^")

abbrev mutual
  pub blank_len : List ℕ → ℕ
  blank_len [] = 0
  blank_len (c ∷ cs) =
      if is_blank c then suc (blank_len cs) else (if c == hash then suc (comment_len cs) else 0)

  pub comment_len : List ℕ → ℕ
  comment_len [] = 0
  comment_len (c ∷ cs) = if c == line_feed then suc (blank_len cs) else suc (comment_len cs)

abbrev pub word_at : List ℕ → List ℕ
word_at text = take_while is_word text

abbrev pub digits_at : List ℕ → List ℕ
digits_at text = take_while is_ascii_digit text

abbrev pub len_at : List ℕ → ℕ
len_at [] = 0
len_at (c ∷ cs) =
    if is_ascii_alphabetic c then length (word_at (c ∷ cs))
    else (if is_ascii_digit c then length (digits_at (c ∷ cs)) else 1)

abbrev pub start_of : List ℕ → ℕ → ℕ
start_of text from = from + blank_len (drop from text)

pub record IsLongestRun (p : ℕ → Bool) (text : List ℕ) (start end : ℕ) : Type 0 where
  pub pass : (k : ℕ) → start ≤ k → k < end → p (slice_index text k) ≡ true
  pub stop : end < length text → p (slice_index text end) ≡ false
