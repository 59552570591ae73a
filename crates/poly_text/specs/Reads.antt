-- What the functions that read sums say.
--   used_by e us         the variables us, and before them those of e, the last first
--   Around               what surrounds the part of a sum that is read: names, refused variables and why they are, depth, variables used, and what waits
--   around r depth us v  what surrounds a part that the reader r reads
--   with_operator a at, inside a     with an operator at the offset at; in parentheses or behind a minus sign
--   state_in a n         the state of a reader there, where n operators were read
--   state_behind a p     the state behind the part p of a sum; with_exponent s n, with_divisor s n: behind an exponent, behind a divisor
--   Counts n c result    the operator at the cursor c, behind n others, is read
--   ReadsPart r depth g n c result     the answer is the part of a sum that the grammar g reads by the reader r, at this depth and behind n operators, whatever waits
--   ReadsBehind r depth g p c result   it is what g reads behind the part p, with p
use Rattle.std.specs.Prelude.{◌≡◌, ℕ, ◌+◌, pos, List, ◌∷◌, Result, IsTrue}
use Rattle.loops.specs.Program.{Expr, number, variable, neg, add, sub, mul, divide, power}
use Rattle.loop_model.specs.ExpressionView.{expr_of}
use Rattle.poly_text.specs.Tokens.{is_sign}
use Rattle.poly_text.specs.Lexemes.{sign}
use Rattle.poly_text.specs.NextToken.{seen_lexeme}
use Rattle.poly_text.specs.Sums.{SumValue, SumState, Rule, sum_language, operator, push, note, with_one}
use Rattle.poly_text.specs.Reasons.{Reason}
use Rattle.poly_text.specs.Faults.{reason_of}
use Rattle.poly_text.specs.Telling.{Reads, Goes}
use Rattle.poly_text.specs.declared.error.TextError.{TextError}
use Rattle.poly_text.specs.declared.cursor.Cursor.{Cursor}
use Rattle.poly_text.specs.declared.sums.Part.{Part}
use Rattle.poly_text.specs.declared.sums.SumReader.{SumReader}

unfoldable pub used_by : Expr ℕ → List ℕ → List ℕ
used_by (number n) us = us
used_by (variable i) us = i ∷ us
used_by (neg at e) us = used_by e us
used_by (add at e f) us = used_by f (used_by e us)
used_by (sub at e f) us = used_by f (used_by e us)
used_by (mul at e f) us = used_by f (used_by e us)
used_by (divide at e n) us = used_by e us
used_by (power at e n) us = used_by e us

pub record Around : Type 0 where
  pub names : List (List ℕ)
  pub refused : List ℕ
  pub refusal : Reason
  pub depth : ℕ
  pub used : List ℕ
  pub value : SumValue

abbrev pub around : SumReader → ℕ → List ℕ → SumValue → Around
around r depth used value = record {
  names = r.names.now;
  refused = r.refused.now;
  refusal = reason_of r.refusal;
  depth = depth;
  used = used;
  value = value;
}

abbrev pub with_operator : Around → ℕ → Around
with_operator a at = record a { value = note at a.value }

abbrev pub inside : Around → Around
inside a = record a { depth = a.depth + 1 }

abbrev pub state_in : Around → ℕ → SumState
state_in a n = record {
  context = record {
    names = a.names;
    refused = a.refused;
    refusal = a.refusal;
    used = a.used;
    operators = n;
    depth = a.depth;
  };
  value = a.value;
}

-- behind an expression that was read with n operators up to its end
abbrev pub behind_expr : Around → Expr ℕ → Around
behind_expr a e = record a { used = used_by e a.used; value = push e a.value }

abbrev pub state_behind : Around → Part → SumState
state_behind a p = state_in (behind_expr a (expr_of p.value.value)) p.operators

abbrev pub with_exponent : SumState → ℕ → SumState
with_exponent s n = record s { value = with_one (λ at e. power at e n) s.value }

abbrev pub with_divisor : SumState → ℕ → SumState
with_divisor s n = record s { value = with_one (λ at e. divide at e (pos n)) s.value }

abbrev pub Counts : ℕ → Cursor → Result Cursor TextError → Type 0
Counts n c result =
    (a : Around) (byte : ℕ) → IsTrue (is_sign byte) → seen_lexeme c.token.lexeme ≡ sign byte
    → Goes sum_language (operator byte) (state_in a n) (state_in (with_operator a c.token.at)
    (n + 1))
    c result

abbrev pub ReadsPart : SumReader → ℕ → Rule → ℕ → Cursor
    → Result (Part × Cursor) TextError → Type 0
ReadsPart r depth g n c result =
    (us : List ℕ) (v : SumValue) → let a = around r depth us v in
    Reads sum_language g (state_in a n) (state_behind a) c result

abbrev pub ReadsBehind : SumReader → ℕ → Rule → Part → Cursor
    → Result (Part × Cursor) TextError → Type 0
ReadsBehind r depth g p c result =
    (us : List ℕ) (v : SumValue) → let a = around r depth us v in
    Reads sum_language g (state_behind a p) (state_behind a) c result
