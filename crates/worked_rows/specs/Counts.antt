-- What is counted, and how rows and answers have texts.
--   with_row t agrees     the tally t with one row more that agrees or differs; the same where there is none
--   in_text byte         the byte of the text that a row has so: `~` is the end of a line
--   with_item text between item     the item behind a text of others, and before it what stands between them
use Rattle.std.specs.Prelude.{ℕ, ◌+◌, ◌-◌, ◌^◌, ◌==◌, if◌then◌else◌, min, Bool, true, false, List, [], ◌∷◌, ◌++◌, Option, Some, None}
use Rattle.worked_rows.specs.declared.tally.Tally.{Tally}

abbrev pub with_row : Tally → Option Bool → Tally
with_row t None = t
with_row t (Some true) = record t { agree = min (t.agree + 1) (2 ^ 64 - 1) }
with_row t (Some false) = record t { differ = min (t.differ + 1) (2 ^ 64 - 1) }

abbrev pub tilde : ℕ
tilde = 126

abbrev pub line_feed : ℕ
line_feed = 10

abbrev pub in_text : ℕ → ℕ
in_text byte = if byte == tilde then line_feed else byte

abbrev pub with_item : List ℕ → List ℕ → List ℕ → List ℕ
with_item [] between item = item
with_item (c ∷ cs) between item = (c ∷ cs) ++ between ++ item
