-- What the functions that read programs say.
--   Reads, Goes                    as of any language of texts
--   ReadsGuard g s state c result  what the grammar g reads behind the token of the cursor c
--   with_block b w, with_guard g w, with_place at w, with_counter j w     what waits, and a block, a guard, an offset or a variable that counts
--   in_set names n d w is es ds    in an assignment, with these targets, right sides and divisors so far, where n statements began and d blocks are open
--   at_statement names n d w       a statement may come
--   statement_limit n              why a statement behind n others is at fault, if it is
--   Limits o at result             where a limit o is passed, the token at the offset is at fault
--   target_told names taken w      why the name w can't be a target behind these
--   IsTarget names taken fault next build s after    so is a token: it is at fault so, and the variable's place makes the state behind it
use Rattle.std.specs.Prelude.{◌≡◌, ⊤, ℕ, suc, Bool, true, false, ◌==◌, nat_le, List, [], ◌∷◌, length, Option, Some, None, unwrap_or, Result, Ok, Err, IfSome, if◌then◌else◌}
use Rattle.loops.specs.Program.{Expr}
use Rattle.loop_model.specs.Names.{place_of}
use Rattle.poly_text.specs.Reasons.{Reason, limit, twice, unless, or_else}
use Rattle.poly_text.specs.NameFaults as positions
use Rattle.program_model.specs.Program.{Comparison, Divisor, Guard, Block}
use Rattle.program_text.specs.Lexemes as lexemes
use Rattle.program_text.specs.Lexemes.{Lexeme, Placed}
use Rattle.program_text.specs.Kinds.{Kind, same_keyword}
use Rattle.program_text.specs.Doubles.{equal, differs, dots}
use Rattle.loop_model.specs.Ascii.{equal_sign}
use Rattle.program_text.specs.NameFaults.{name_fault}
use Rattle.program_text.specs.Words.{Keyword}
use Rattle.program_text.specs.CursorView.{behind}
use Rattle.program_text.specs.Told.{Told}
use Rattle.program_text.specs.Telling as telling
use Rattle.program_text.specs.Telling.{answer_by}
use Rattle.program_text.specs.Sums as sums
use Rattle.program_text.specs.Sums.{SumValue, SumState}
use Rattle.program_text.specs.Programs.{ProgramContext, ProgramValue, ProgramState, Rule, no_sum, outside, nothing_built, most_statements, program_language}
use Rattle.program_text.specs.declared.error.ProgramTextError.{ProgramTextError}
use Rattle.program_text.specs.declared.error.ProgramTextError.TheVariants as code_fault
use Rattle.program_text.specs.declared.cursor.Cursor.{Cursor}

abbrev pub reading : Rule → ProgramState → List Placed → Told ProgramContext ProgramValue
reading g s ts = telling.reading program_language g s ts

abbrev pub Reads : {A : Type 0} → Rule → ProgramState → (A → ProgramState) → Cursor
    → Result (A × Cursor) ProgramTextError → Type 0
Reads g s state c result = telling.Reads program_language g s state c result

abbrev pub Goes : Rule → ProgramState → ProgramState → Cursor → Result Cursor ProgramTextError
    → Type 0
Goes g s t c result = telling.Goes program_language g s t c result

abbrev pub ReadsGuard : {A : Type 0} → Rule → ProgramState → (A → ProgramState) → Cursor
    → Result (A × Cursor) ProgramTextError → Type 0
ReadsGuard g s state c result =
    IfSome (answer_by state result) (λ told. told ≡ reading g s (behind c))

-- ---- what waits
abbrev pub with_block : Block (Expr ℕ) → ProgramValue → ProgramValue
with_block b w = record w { blocks = b ∷ w.blocks }

abbrev pub with_guard : Guard (Expr ℕ) → ProgramValue → ProgramValue
with_guard g w = record w { guards = g ∷ w.guards }

abbrev pub with_place : ℕ → ProgramValue → ProgramValue
with_place at w = record w { sum = sums.note at w.sum }

abbrev pub with_counter : ℕ → ProgramValue → ProgramValue
with_counter j w = record w { counters = j ∷ w.counters }

abbrev pub in_set : List (List ℕ) → ℕ → ℕ → ProgramValue → List ℕ → List (Expr ℕ)
    → List (Divisor (Expr ℕ)) → ProgramState
in_set names n d w is es ds = record {
  context = record {
    names = names;
    sum = no_sum names;
    targets = is;
    values = length es;
    statements = n;
    blocks = d;
  };
  value = record w { guard = []; values = es; sum = record w.sum { divisors = ds } };
}

abbrev pub at_statement : List (List ℕ) → ℕ → ℕ → ProgramValue → ProgramState
at_statement names n d w = in_set names n d w [] [] []

-- behind these names
abbrev pub named_so : List (List ℕ) → ProgramState
named_so names = record { context = outside names; value = nothing_built }

-- ---- comparisons and bounds
abbrev pub signs : Bool → List Kind
signs true = sums.all_signs
signs false = sums.equal_signs

-- what a sign says of both sides: that they are equal, or not, or nothing
abbrev pub sign_says : Bool → Lexeme → Option Bool
sign_says b (lexemes.sign c) = if c == equal_sign then Some true else None
sign_says b (lexemes.double equal) = Some true
sign_says true (lexemes.double differs) = Some false
sign_says b x = None

abbrev pub is_dots : Lexeme → Bool
is_dots (lexemes.double dots) = true
is_dots x = false

abbrev pub plain_state : List (List ℕ) → SumValue → SumState
plain_state names v = record { context = no_sum names; value = record v { divisors = [] } }

abbrev pub with_sides : Comparison (Expr ℕ) → SumValue → SumValue
with_sides k v =
    record v {
      values = k.right ∷ k.left ∷ v.values;
      places = k.at ∷ v.places;
      signs = k.equal ∷ v.signs;
    }

abbrev pub with_bounds : Expr ℕ → ℕ → Expr ℕ → ProgramValue → ProgramValue
with_bounds e at f w =
    record w { sum = record w.sum { values = f ∷ e ∷ w.sum.values; places = at ∷ w.sum.places } }

-- ---- limits
abbrev pub statement_limit : ℕ → Option Reason
statement_limit n = unless (nat_le (suc n) most_statements) limit

abbrev pub Limits : Option Reason → ℕ → Result ⊤ ProgramTextError → Type 0
Limits o at (Ok u) = o ≡ None
Limits o at (Err e) = (o ≡ Some limit) × (e ≡ code_fault.Limit at)

-- ---- tokens
abbrev pub is_keyword_of : Lexeme → Keyword → Bool
is_keyword_of (lexemes.keyword j) k = same_keyword k j
is_keyword_of x k = false

abbrev pub target_told : List (List ℕ) → List ℕ → List ℕ → Option Reason
target_told names taken w =
    or_else (name_fault names w)
    (if positions.has taken (unwrap_or (place_of names w) 0) then Some twice else None)

pub record IsTarget (names : List (List ℕ)) (taken : List ℕ)
    (fault : ProgramContext → List ℕ → Option Reason)
    (next : ProgramContext → List ℕ → ProgramContext)
    (build : ProgramContext → List ℕ → ProgramValue → ProgramValue) (s : ProgramState)
    (after : ℕ → ProgramState) : Type 0 where
  pub faults : (w : List ℕ) → fault s.context w ≡ target_told names taken w
  pub goes : (w : List ℕ) → let t : ProgramState = record {
    context = next s.context w;
    value = build s.context w s.value;
  } in t ≡ after (unwrap_or (place_of names w) 0)

abbrev pub is_named : Lexeme → Bool
is_named (lexemes.name w) = true
is_named x = false
