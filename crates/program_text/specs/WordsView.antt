-- What the types of the code are seen as.
--   seen_keyword k, seen_double d     a keyword, a sign of two bytes
use Rattle.program_text.specs.Words as words
use Rattle.program_text.specs.Doubles as doubles
use Rattle.program_text.specs.declared.words.Keyword.{Keyword}
use Rattle.program_text.specs.declared.words.Keyword.TheVariants.{Vars, If, Else, While, For, Assume, Assert, Any, Unknown, Loop}
use Rattle.program_text.specs.declared.doubles.Double.{Double}
use Rattle.program_text.specs.declared.doubles.Double.TheVariants as double

abbrev pub seen_keyword : Keyword → words.Keyword
seen_keyword Vars = words.vars_word
seen_keyword If = words.if_word
seen_keyword Else = words.else_word
seen_keyword While = words.while_word
seen_keyword For = words.for_word
seen_keyword Assume = words.assume_word
seen_keyword Assert = words.assert_word
seen_keyword Any = words.any_word
seen_keyword Unknown = words.unknown_word
seen_keyword Loop = words.loop_word

abbrev pub seen_double : Double → doubles.Double
seen_double double.Equal = doubles.equal
seen_double double.Differs = doubles.differs
seen_double double.Dots = doubles.dots
