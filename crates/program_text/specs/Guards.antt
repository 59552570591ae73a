-- What a guard says.
--   with_item x text        the text of a guard with one token more: what isn't of the guard is blank, so each byte keeps its offset
--   pieces text from        where what stands between the && outside of parentheses begins and ends, from an offset up to the end of the text
--   most_parentheses        more than a text has
--   inside_of from text     where what is inside of a pair of parentheses around it all begins and ends
--   parts_of text           the parts: a pair around it all, or around a piece, is no part, and what is in it has parts again; at most so many pairs around one another are looked into
--   said names text part    the comparison that a part reads as, with no fault
--   guard_of names text     what its parts say, and whether it has one alone
use Rattle.std.specs.Prelude.{ℕ, ◌≤◌, ◌^◌, zero, suc, ◌-◌, Bool, true, false, ◌&&◌, ◌==◌, if◌then◌else◌, List, [], ◌∷◌, ◌++◌, length, take, drop, replicate, filter_map, Option, Some, None, option_map, Ok, Err}
use Rattle.std.specs.List.{list_all}
use Rattle.loops.specs.Program.{Expr}
use Rattle.loop_model.specs.Ascii.{blank, left_parenthesis, right_parenthesis}
use Rattle.poly_text.specs.Tokens.{is_blank}
use Rattle.grammars.specs.Reader.{read_whole}
use Rattle.program_text.specs.Told.{Told, told}
use Rattle.program_model.specs.Program.{Comparison, Guard}
use Rattle.program_text.specs.Lexemes.{Lexeme, Placed, item, tokens_from}
use Rattle.program_text.specs.Sums.{SumContext, SumValue, sum_language, whole_comparison, start, comparison_in}

abbrev pub blanks : ℕ → List ℕ
blanks n = replicate n blank

abbrev pub byte_in : Lexeme → ℕ
byte_in (item c) = c
byte_in x = 0

abbrev pub with_item : Placed → List ℕ → List ℕ
with_item x text = text ++ blanks (x.at - length text) ++ byte_in x.lexeme ∷ []

-- ---- pieces
abbrev pub ampersand : ℕ
ampersand = 38

-- more than a text has
abbrev pub most_parentheses : ℕ
most_parentheses = 2 ^ 63

abbrev pub counted : ℕ → ℕ → ℕ → ℕ
counted c which n = if c == which then suc n else n

-- behind so many parentheses that were opened and closed
abbrev pub splits : ℕ → ℕ → List ℕ → Bool
splits o c [] = false
splits o c (a ∷ []) = false
splits o c (a ∷ b ∷ bs) = a == ampersand && (b == ampersand && o == c)

-- at an offset, in the piece that began at `start`
unfoldable pub pieces_from : ℕ → ℕ → ℕ → ℕ → List ℕ → List (ℕ × ℕ)
pieces_from at start o c [] = (start, at) ∷ []
pieces_from at start o c (a ∷ []) = (start, suc at) ∷ []
pieces_from at start o c (a ∷ b ∷ bs) =
    if splits o c (a ∷ b ∷ bs)
    then (start, at) ∷ pieces_from (suc (suc at)) (suc (suc at)) o c bs
    else pieces_from (suc at) start (counted a left_parenthesis o) (counted a right_parenthesis c)
    (b ∷ bs)

abbrev pub pieces : List ℕ → ℕ → List (ℕ × ℕ)
pieces text from = pieces_from from from 0 0 (drop from text)

-- ---- a pair of parentheses around it all
abbrev pub open_behind : ℕ → ℕ → ℕ
open_behind c n =
    if c == left_parenthesis then suc n else (if c == right_parenthesis then n - 1 else n)

abbrev pub last_at : ℕ → List ℕ → Option ℕ
last_at at cs = if list_all is_blank cs then Some at else None

-- at an offset inside of so many: where the first of them is closed, if all behind it is blank
unfoldable pub closing_at : ℕ → ℕ → List ℕ → Option ℕ
closing_at at n [] = None
closing_at at n (c ∷ cs) =
    if c == right_parenthesis && n == 1 then last_at at cs
    else closing_at (suc at) (open_behind c n) cs

abbrev pub closing_of : List ℕ → ℕ → Option ℕ
closing_of text from = closing_at from 1 (drop from text)

abbrev pub opened_at : ℕ → List ℕ → Option (ℕ × ℕ)
opened_at at [] = None
opened_at at (c ∷ cs) =
    if c == left_parenthesis then option_map (λ end. (suc at, end)) (closing_at (suc at) 1 cs)
    else None

unfoldable pub inside_from : ℕ → List ℕ → Option (ℕ × ℕ)
inside_from at [] = None
inside_from at (c ∷ cs) = if is_blank c then inside_from (suc at) cs else opened_at at (c ∷ cs)

abbrev pub inside_of : ℕ → List ℕ → Option (ℕ × ℕ)
inside_of from text = inside_from from (drop from text)

-- ---- parts
pub record IsWithin (n : ℕ) (p : ℕ × ℕ) : Type 0 where
  pub order : p.0 ≤ p.1
  pub end : p.1 ≤ n

-- how many pairs of parentheses around one another are looked into
unfoldable pub most_pairs : ℕ
most_pairs = 64

abbrev pub in_each : (ℕ × ℕ → List (ℕ × ℕ)) → List (ℕ × ℕ) → List (ℕ × ℕ)
in_each parts [] = []
in_each parts (p ∷ ps) = parts p ++ in_each parts ps

abbrev pub by_inside : (ℕ × ℕ → List (ℕ × ℕ)) → ℕ × ℕ → Option (ℕ × ℕ) → List (ℕ × ℕ)
by_inside parts whole None = whole ∷ []
by_inside parts whole (Some p) = parts p

abbrev pub by_pieces : (ℕ × ℕ → List (ℕ × ℕ)) → List ℕ → List (ℕ × ℕ) → List (ℕ × ℕ)
by_pieces parts text [] = []
by_pieces parts text (p ∷ []) = by_inside parts p (inside_of p.0 text)
by_pieces parts text (p ∷ q ∷ ps) = in_each parts (p ∷ q ∷ ps)

unfoldable pub parts_within : ℕ → List ℕ → ℕ × ℕ → List (ℕ × ℕ)
parts_within zero text p = p ∷ []
parts_within (suc n) text p =
    by_pieces (parts_within n text) (take p.1 text) (pieces (take p.1 text) p.0)

abbrev pub parts_of : List ℕ → List (ℕ × ℕ)
parts_of text = parts_within most_pairs text (0, length text)

-- ---- what they say
abbrev pub said_by : Told SumContext SumValue → Option (Comparison (Expr ℕ))
said_by (Ok r) = Some (comparison_in r.0.value)
said_by (Err f) = None

unfoldable pub said : List (List ℕ) → List ℕ → ℕ × ℕ → Option (Comparison (Expr ℕ))
said names text p =
    said_by (told (read_whole sum_language whole_comparison (start names)
    (tokens_from (take p.1 text) p.0)))

abbrev pub is_one : {A : Type 0} → List A → Bool
is_one [] = false
is_one (x ∷ []) = true
is_one (x ∷ y ∷ ys) = false

unfoldable pub guard_of : List (List ℕ) → List ℕ → Guard (Expr ℕ)
guard_of names text = record {
  says = filter_map (said names text) (parts_of text);
  alone = is_one (parts_of text);
}
