-- What the functions that read sums say.
--   Progress             how many operators of a sum were read, and the divisors that are no numbers
--   progress_of p        what the code counts, seen so; counted n: one operator more
--   Around               what surrounds the part of a sum that is read: names, whether any factor may stand behind a /, depth, and what waits
--   around r depth v     what surrounds a part that the reader r reads
--   with_operator a at, inside a     with an operator at the offset at; in parentheses or behind a minus sign
--   state_in a n         the state of a reader there, behind the progress n
--   state_behind a p     the state behind the part p of a sum; with_exponent s n, with_divisor s n: behind an exponent, behind a divisor
--   Counts n c result    the operator at the cursor c, behind n others, is read
--   ReadsPart r depth g n c result     the answer is the part of a sum that the grammar g reads by the reader r, at this depth and behind the progress n, whatever waits
--   ReadsBehind r depth g p c result   it is what g reads behind the part p, with p
--   ReadsDivisor r depth e at n c result     it is what is read behind the product e and a / at the offset at
use Rattle.std.specs.Prelude.{◌≡◌, ℕ, ◌+◌, pos, Bool, List, map, Result, IsTrue}
use Rattle.loops.specs.Program.{Expr, divide, power}
use Rattle.loop_model.specs.ExpressionView.{expr_of}
use Rattle.grammars.specs.Grammar.{rule}
use Rattle.poly_text.specs.Tokens.{is_sign}
use Rattle.program_text.specs.Lexemes.{sign}
use Rattle.program_text.specs.NextToken.{seen_lexeme}
use Rattle.program_model.specs.Program.{Divisor}
use Rattle.program_model.specs.SyntaxView.{divisor_of}
use Rattle.program_text.specs.Sums.{SumValue, SumState, Rule, a_divisor, sum_language, operator, push, note, with_one}
use Rattle.program_text.specs.Telling.{Reads, Goes}
use Rattle.program_text.specs.declared.error.ProgramTextError.{ProgramTextError}
use Rattle.program_text.specs.declared.cursor.Cursor.{Cursor}
use Rattle.program_text.specs.declared.sums.Part.{Part}
use Rattle.program_text.specs.declared.sums.Progress as code
use Rattle.program_text.specs.declared.sums.SumReader.{SumReader}

pub record Progress : Type 0 where
  pub operators : ℕ
  pub divisors : List (Divisor (Expr ℕ))

abbrev pub progress : ℕ → List (Divisor (Expr ℕ)) → Progress
progress n ds = record { operators = n; divisors = ds }

abbrev pub progress_of : code.Progress → Progress
progress_of p = record { operators = p.operators; divisors = map divisor_of p.divisors.items }

abbrev pub counted : Progress → Progress
counted n = record n { operators = n.operators + 1 }

pub record Around : Type 0 where
  pub names : List (List ℕ)
  pub free : Bool
  pub depth : ℕ
  pub value : SumValue

abbrev pub around : SumReader → ℕ → SumValue → Around
around r depth value = record { names = r.names.now; free = r.free; depth = depth; value = value }

abbrev pub with_operator : Around → ℕ → Around
with_operator a at = record a { value = note at a.value }

abbrev pub inside : Around → Around
inside a = record a { depth = a.depth + 1 }

abbrev pub state_in : Around → Progress → SumState
state_in a n = record {
  context = record { names = a.names; free = a.free; operators = n.operators; depth = a.depth };
  value = record a.value { divisors = n.divisors };
}

-- behind an expression
abbrev pub behind_expr : Around → Expr ℕ → Around
behind_expr a e = record a { value = push e a.value }

abbrev pub state_behind : Around → Part → SumState
state_behind a p = state_in (behind_expr a (expr_of p.value.value)) (progress_of p.progress)

abbrev pub with_exponent : SumState → ℕ → SumState
with_exponent s n = record s { value = with_one (λ at e. power at e n) s.value }

abbrev pub with_divisor : SumState → ℕ → SumState
with_divisor s n = record s { value = with_one (λ at e. divide at e (pos n)) s.value }

abbrev pub Counts : ℕ → Cursor → Result Cursor ProgramTextError → Type 0
Counts n c result =
    (a : Around) (ds : List (Divisor (Expr ℕ))) (byte : ℕ) → IsTrue (is_sign byte)
    → seen_lexeme c.token.lexeme ≡ sign byte → Goes sum_language (operator byte)
    (state_in a (progress n ds))
    (state_in (with_operator a c.token.at) (counted (progress n ds))) c result

abbrev pub ReadsPart : SumReader → ℕ → Rule → Progress → Cursor
    → Result (Part × Cursor) ProgramTextError → Type 0
ReadsPart r depth g n c result =
    (v : SumValue) → let a = around r depth v in
    Reads sum_language g (state_in a n) (state_behind a) c result

abbrev pub ReadsBehind : SumReader → ℕ → Rule → Part → Cursor
    → Result (Part × Cursor) ProgramTextError → Type 0
ReadsBehind r depth g p c result =
    (v : SumValue) → let a = around r depth v in
    Reads sum_language g (state_behind a p) (state_behind a) c result

abbrev pub ReadsDivisor : SumReader → ℕ → Expr ℕ → ℕ → Progress → Cursor
    → Result (Part × Cursor) ProgramTextError → Type 0
ReadsDivisor r depth e at n c result =
    (v : SumValue) → let a = around r depth v in
    Reads sum_language (rule a_divisor) (state_in (with_operator (behind_expr a e) at) n)
    (state_behind a) c result
