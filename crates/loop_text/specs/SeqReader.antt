-- What a text says: it is read by the grammar of sequences.
--   sequences_from ws rs vs es         the sequences with these names, of these orders, with these values in turn, and these recurrences
--   sequences_in s             the sequences that were read
--   sequences_or_fault t       they, or the first fault; fault_at x why: that of the token x
--   sequences_of bytes         what the text says, or its first fault
use Rattle.std.specs.Prelude.{ℕ, pos, List, [], ◌∷◌, take, drop, Option, Result, Ok, Err, unwrap_or}
use Rattle.loops.specs.Program.{Expr, number}
use Rattle.grammars.specs.Reader.{read_whole}
use Rattle.poly_text.specs.Lexemes.{Placed, tokens}
use Rattle.poly_text.specs.Reasons.{Reason, syntax, Fault}
use Rattle.poly_text.specs.Told.{Told, told}
use Rattle.loops.specs.Sequences.{Sequence}
use Rattle.loop_text.specs.Seqs.{SeqContext, SeqValue, SeqState, seq_language, whole_seqs, nothing}

-- a sequence from its name, its values and its recurrence; there is a value
abbrev pub sequence_of : List ℕ → List (Expr ℕ) → Expr ℕ → Sequence (Expr ℕ)
sequence_of w [] e = record { name = w; first = number (pos 0); later = []; next = e }
sequence_of w (v ∷ vs) e = record { name = w; first = v; later = vs; next = e }

unfoldable pub sequences_from : List (List ℕ) → List ℕ → List (Expr ℕ) → List (Expr ℕ)
    → List (Sequence (Expr ℕ))
sequences_from (w ∷ ws) (r ∷ rs) vs (e ∷ es) = sequence_of w (take r vs) e ∷ sequences_from ws rs
    (drop r vs) es
sequences_from [] rs vs es = []
sequences_from (w ∷ ws) [] vs es = []
sequences_from (w ∷ ws) (r ∷ rs) vs [] = []

abbrev pub sequences_in : SeqState → List (Sequence (Expr ℕ))
sequences_in s = sequences_from s.context.sequences s.value.orders s.value.values s.value.nexts

abbrev pub sequences_or_fault : Told SeqContext SeqValue → Result (List (Sequence (Expr ℕ))) Fault
sequences_or_fault (Ok r) = Ok (sequences_in r.0)
sequences_or_fault (Err f) = Err f

-- what can't stand where it does is a fault of syntax
abbrev pub fault_at : Placed → Option Reason → Fault
fault_at x why = record { reason = unwrap_or why syntax; at = x.at }

abbrev pub sequences_of : List ℕ → Result (List (Sequence (Expr ℕ))) Fault
sequences_of bytes = sequences_or_fault
    (told (read_whole seq_language whole_seqs nothing (tokens bytes)))
