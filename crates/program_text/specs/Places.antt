-- Lines and columns of a text, from 1.
--   step c p             the place behind the byte c at the place p: a line feed begins the next line
--   place_behind p cs    behind these bytes
--   place_of text at     the place of the byte at an offset
--   most_text            more bytes than a text has of which places are told
use Rattle.std.specs.Prelude.{ℕ, suc, ◌^◌, ◌==◌, if◌then◌else◌, List, [], ◌∷◌, take}
use Rattle.loop_model.specs.Ascii.{line_feed}

abbrev pub most_text : ℕ
most_text = 2 ^ 32

abbrev pub step : ℕ → ℕ × ℕ → ℕ × ℕ
step c p = if c == line_feed then (suc p.0, 1) else (p.0, suc p.1)

abbrev pub place_behind : ℕ × ℕ → List ℕ → ℕ × ℕ
place_behind p [] = p
place_behind p (c ∷ cs) = place_behind (step c p) cs

abbrev pub place_of : List ℕ → ℕ → ℕ × ℕ
place_of text at = place_behind (1, 1) (take at text)
