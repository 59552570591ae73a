-- What the functions that read chains say: what they read as a state of the grammar's reader.
--   reading, Reads, Goes    those of texts, in the language of chains
--   whole g s ts        the chain that g says up to the end of the text, or the first fault
use Rattle.std.specs.Prelude.{ℕ, List, [], ◌∷◌, Result}
use Rattle.loops.specs.Program.{Expr}
use Rattle.grammars.specs.Reader.{read_whole}
use Rattle.poly_text.specs.Lexemes.{Placed}
use Rattle.poly_text.specs.Reasons.{Fault}
use Rattle.poly_text.specs.Telling as telling
use Rattle.poly_text.specs.Told.{Told, told}
use Rattle.poly_text.specs.declared.error.TextError.{TextError}
use Rattle.poly_text.specs.declared.cursor.Cursor.{Cursor}
use Rattle.loops.specs.Chain.{Chain}
use Rattle.loop_text.specs.Chains.{ChainContext, ChainValue, ChainState, Rule, chain_end, chain_language}
use Rattle.loop_text.specs.ChainReader.{chain_or_fault}

abbrev pub reading : Rule → ChainState → List Placed → Told ChainContext ChainValue
reading g s ts = telling.reading chain_language g s ts

abbrev pub Reads : {A : Type 0} → Rule → ChainState → (A → ChainState) → Cursor
    → Result (A × Cursor) TextError → Type 0
Reads g s state c result = telling.Reads chain_language g s state c result

abbrev pub Goes : Rule → ChainState → ChainState → Cursor → Result Cursor TextError → Type 0
Goes g s t c result = telling.Goes chain_language g s t c result

-- what the grammar g says up to the end of the text
abbrev pub whole : Rule → ChainState → List Placed → Result (Chain (Expr ℕ)) Fault
whole g s ts = chain_or_fault (told (read_whole chain_language (g ∷ chain_end ∷ []) s ts))
