-- What the functions that read texts by a language say. Its lexemes, their kinds and the reasons for faults are those of texts; its rules, contexts and values are its own.
--   TextLanguage, TextRule       such a language, and a grammar in it
--   reading L g s ts             so the answer of the grammar g
--   Reads L g s state c result   the answer is what the grammar g reads from the state s and the cursor c on, and its value makes the state
--   Goes L g s t c result        the same where the state is t
--   Ends L g s t c result        the same at the end of the text
use Rattle.std.specs.Prelude.{◌≡◌, ⊤, List, [], Option, Some, Result, Ok, Err, option_map, IfSome}
use Rattle.grammars.specs.Grammar.{State, Grammar, Language}
use Rattle.grammars.specs.Reader.{parsed}
use Rattle.poly_text.specs.Lexemes.{Lexeme, Placed}
use Rattle.poly_text.specs.Kinds.{Kind}
use Rattle.poly_text.specs.Reasons.{Reason}
use Rattle.poly_text.specs.Told.{Told, told}
use Rattle.poly_text.specs.Faults.{fault_of}
use Rattle.poly_text.specs.CursorView.{rest}
use Rattle.poly_text.specs.declared.error.TextError.{TextError}
use Rattle.poly_text.specs.declared.cursor.Cursor.{Cursor}

module _ (N C V : Type 0) where
  abbrev pub TextLanguage : Type 0
  TextLanguage = Language N Kind Lexeme C V Reason

  abbrev pub TextRule : Type 0
  TextRule = Grammar N Kind Lexeme C V Reason

module _ {C V : Type 0} where
  abbrev pub answer_by : {A : Type 0} → (A → State C V) → Result (A × Cursor) TextError
      → Option (Told C V)
  answer_by state (Ok r) = Some (Ok (state r.0, rest r.1))
  answer_by state (Err e) = option_map Err (fault_of e)

  abbrev pub goes_to : State C V → Result Cursor TextError → Option (Told C V)
  goes_to t (Ok c) = Some (Ok (t, rest c))
  goes_to t (Err e) = option_map Err (fault_of e)

  abbrev pub ends_in : State C V → Result ⊤ TextError → Option (Told C V)
  ends_in t (Ok u) = Some (Ok (t, []))
  ends_in t (Err e) = option_map Err (fault_of e)

module _ {N C V : Type 0} (L : TextLanguage N C V) where
  unfoldable pub reading : TextRule N C V → State C V → List Placed → Told C V
  reading g s ts = told (parsed L g s ts)

  abbrev pub Reads : {A : Type 0} → TextRule N C V → State C V → (A → State C V) → Cursor
      → Result (A × Cursor) TextError → Type 0
  Reads g s state c result = IfSome (answer_by state result) (λ told. told ≡ reading g s (rest c))

  abbrev pub Goes : TextRule N C V → State C V → State C V → Cursor → Result Cursor TextError
      → Type 0
  Goes g s t c result = IfSome (goes_to t result) (λ told. told ≡ reading g s (rest c))

  abbrev pub Ends : TextRule N C V → State C V → State C V → Cursor → Result ⊤ TextError → Type 0
  Ends g s t c result = IfSome (ends_in t result) (λ told. told ≡ reading g s (rest c))
