-- What the functions that read sequences say: what they read as a state of the grammar's reader.
--   reading, Reads, Goes             those of texts, in the language of sequences
--   IsFault e x                      the error e says the fault x; want of memory says nothing
--   whole g s ts                     the sequences that g says up to the end of the text, or the first fault
--   in_first ws vs rs es own         these sequences are declared and make these variables, the finished ones are of these orders, these values are given, and so many are of the open one
--   between ws vs rs es              no sequence is open
--   behind_firsts ws vs rs es ns     behind the values: these recurrences were read
use Rattle.std.specs.Prelude.{◌≡◌, ℕ, List, [], ◌∷◌, length, Result, Err, IfSome, option_map}
use Rattle.loops.specs.Program.{Expr}
use Rattle.grammars.specs.Reader.{read_whole}
use Rattle.poly_text.specs.Lexemes as lexemes
use Rattle.poly_text.specs.Lexemes.{Placed}
use Rattle.poly_text.specs.Faults.{fault_of}
use Rattle.poly_text.specs.Reasons.{Fault}
use Rattle.poly_text.specs.Telling as telling
use Rattle.poly_text.specs.Told.{Told, told}
use Rattle.poly_text.specs.declared.error.TextError.{TextError}
use Rattle.poly_text.specs.declared.cursor.Cursor.{Cursor}
use Rattle.loops.specs.Sequences.{Sequence}
use Rattle.loop_text.specs.Seqs.{SeqContext, SeqValue, SeqState, Rule, no_sum, no_sum_value, the_end, seq_language}
use Rattle.loop_text.specs.SeqReader.{sequences_or_fault}

abbrev pub reading : Rule → SeqState → List Placed → Told SeqContext SeqValue
reading g s ts = telling.reading seq_language g s ts

abbrev pub Reads : {A : Type 0} → Rule → SeqState → (A → SeqState) → Cursor
    → Result (A × Cursor) TextError → Type 0
Reads g s state c result = telling.Reads seq_language g s state c result

abbrev pub Goes : Rule → SeqState → SeqState → Cursor → Result Cursor TextError → Type 0
Goes g s t c result = telling.Goes seq_language g s t c result

abbrev pub IsFault : TextError → Told SeqContext SeqValue → Type 0
IsFault e x = IfSome (option_map Err (fault_of e)) (λ (r : Told SeqContext SeqValue). r ≡ x)

-- what the grammar g says up to the end of the text
abbrev pub whole : Rule → SeqState → List Placed → Result (List (Sequence (Expr ℕ))) Fault
whole g s ts = sequences_or_fault (told (read_whole seq_language (g ∷ the_end ∷ []) s ts))

abbrev pub in_first : List (List ℕ) → List (List ℕ) → List ℕ → List (Expr ℕ) → ℕ → SeqState
in_first ws vs rs es own = record {
  context = record { sum = no_sum []; sequences = ws; variables = vs; own = own; nexts = 0 };
  value = record { values = es; orders = rs; nexts = []; sum = no_sum_value };
}

abbrev pub between : List (List ℕ) → List (List ℕ) → List ℕ → List (Expr ℕ) → SeqState
between ws vs rs es = in_first ws vs rs es 0

abbrev pub behind_firsts : List (List ℕ) → List (List ℕ) → List ℕ → List (Expr ℕ)
    → List (Expr ℕ) → SeqState
behind_firsts ws vs rs es ns = record {
  context = record { sum = no_sum vs; sequences = ws; variables = vs; own = 0; nexts = length ns };
  value = record { values = es; orders = rs; nexts = ns; sum = no_sum_value };
}
