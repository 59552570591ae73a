-- The kinds of lexemes. What bytes can't spell is of a kind that no grammar names.
--   Kind               a name, a number or a larger one, a byte of a guard, the end, a sign by its byte or two, a keyword; or no_kind
--   same j k           whether the kinds are the same
--   kind_of x          the kind of a lexeme;  is_name x: whether it is a name's
--   sample k           a lexeme of the kind k
--   word_in, number_in what a lexeme says: a word, a number; a large number says none
use Rattle.std.specs.Prelude.{ℕ, Bool, true, false, if◌then◌else◌, nat_lt, ◌==◌, List, [], ◌∷◌, Option, Some, None, codes}
use Rattle.loop_model.specs.Ascii.{exclamation_mark}
use Rattle.program_text.specs.Words.{Keyword, vars_word, if_word, else_word, while_word, for_word, assume_word, assert_word, any_word, unknown_word, loop_word, is_plain_word}
use Rattle.grammars.specs.Kinds.{has}
use Rattle.poly_text.specs.Tokens.{is_sign, number_limit}
use Rattle.program_text.specs.Lexemes.{Lexeme, name, keyword, number, large, sign, double, item, bad, the_end, is_item}
use Rattle.program_text.specs.Doubles.{Double, equal, differs, dots}

pub data Kind : Type 0 where
  a_name a_number a_large an_item an_end no_kind : Kind
  a_sign : ℕ → Kind
  a_double : Double → Kind
  a_keyword : Keyword → Kind

abbrev pub same_keyword : Keyword → Keyword → Bool
same_keyword vars_word vars_word = true
same_keyword if_word if_word = true
same_keyword else_word else_word = true
same_keyword while_word while_word = true
same_keyword for_word for_word = true
same_keyword assume_word assume_word = true
same_keyword assert_word assert_word = true
same_keyword any_word any_word = true
same_keyword unknown_word unknown_word = true
same_keyword loop_word loop_word = true
same_keyword j k = false

abbrev pub same_double : Double → Double → Bool
same_double equal equal = true
same_double differs differs = true
same_double dots dots = true
same_double c d = false

abbrev pub same : Kind → Kind → Bool
same a_name a_name = true
same a_number a_number = true
same a_large a_large = true
same an_item an_item = true
same an_end an_end = true
same no_kind no_kind = true
same (a_sign b) (a_sign c) = b == c
same (a_double c) (a_double d) = same_double c d
same (a_keyword j) (a_keyword k) = same_keyword j k
same j k = false

abbrev pub kind_of : Lexeme → Kind
kind_of (name w) = if is_plain_word w then a_name else no_kind
kind_of (keyword k) = a_keyword k
kind_of (number n) = if nat_lt n number_limit then a_number else no_kind
kind_of large = a_large
kind_of (sign c) = if is_sign c then a_sign c else no_kind
kind_of (double d) = a_double d
kind_of (item c) = if is_item c then an_item else no_kind
kind_of bad = no_kind
kind_of the_end = an_end

abbrev pub is_name : Lexeme → Bool
is_name x = has same (a_name ∷ []) (kind_of x)

abbrev pub sample : Kind → Lexeme
sample a_name = name (codes "a")
sample a_number = number 1
sample a_large = large
sample an_item = item exclamation_mark
sample an_end = the_end
sample no_kind = bad
sample (a_sign c) = sign c
sample (a_double d) = double d
sample (a_keyword k) = keyword k

abbrev pub word_in : Lexeme → List ℕ
word_in (name w) = w
word_in x = []

abbrev pub number_in : Lexeme → Option ℕ
number_in (number n) = Some n
number_in x = None
