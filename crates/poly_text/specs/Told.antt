-- What reading a text answers, as the code tells it.
--   Told C V       the state behind what was read, with the tokens from there on, or the first fault
--   told a         so the answer a of a reader: what can't stand where it does is a fault of syntax
use Rattle.std.specs.Prelude.{List, unwrap_or, Result, Ok, Err}
use Rattle.grammars.specs.Grammar.{State}
use Rattle.grammars.specs.Reader as answer
use Rattle.grammars.specs.Reader.{ReadResult}
use Rattle.poly_text.specs.Lexemes.{Lexeme, Placed}
use Rattle.poly_text.specs.Reasons.{Reason, syntax, Fault}

module _ (C V : Type 0) where
  abbrev pub Told : Type 0
  Told = Result (State C V × List Placed) Fault

module _ {C V : Type 0} where
  abbrev pub told : ReadResult Lexeme C V Reason → Told C V
  told (answer.reads t rest) = Ok (t, rest)
  told (answer.refused x why) = Err (record { reason = unwrap_or why syntax; at = x.at })
  told answer.unended = Err (record { reason = syntax; at = 0 })
