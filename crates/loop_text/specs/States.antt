-- What the functions that read loops say: what they read as a state of the grammar's reader.
--   reading, Reads, Goes            those of texts, in the language of loops
--   whole g s ts                    the program that g says up to the end of the text, or the first fault
--   used_in init                    the variables that stand in these equations, the last first
--   in_init names locals set init is     in init: these variables are refused in a right side, these equations were read, and the targets of the one that is open
--   with_init names locals init     behind init; with_names names locals: behind these variables and local names
--   Inits                           equations of init
--   Before                          what was read before the open statement: the variables, the local names, init, the finished branches, and the statements of the open one
--   in_statement names us n b is es in a statement with these targets and right sides, where so many began, statements know these names, and those at
--                                   the places us are unset; between names us n b: in none
--   behind b ss                     behind the statements ss of the open branch
--   in_branches names locals n init bs     behind these branches
--   AreVariablesThenLocals ns                        all names are the variables and then the local names
--   left_fault names taken used w   why a name can't stand on a left side where these variables are taken and used
--   IsLeft names taken used fault next s after     so a token's fault is in the state s, and its variable makes the state behind it
--   IsDeclaration others known fault next s after     so a name that is declared is at fault in the state s, and makes the state behind it
--   is_keyword_of x k               whether a lexeme is the keyword k
use Rattle.std.specs.Prelude.{◌≡◌, ℕ, Bool, false, if◌then◌else◌, List, [], ◌∷◌, ◌++◌, length, map, Option, Some, None, unwrap_or, Result}
use Rattle.std.specs.Global.{Vec}
use Rattle.std.specs.List.{fold}
use Rattle.std.specs.Option.{option_map_or}
use Rattle.loops.specs.Program.{Expr, Equation, Statement, Program}
use Rattle.loop_model.specs.Names.{place_of}
use Rattle.loop_model.specs.Words.{Keyword}
use Rattle.grammars.specs.Kinds.{has}
use Rattle.grammars.specs.Reader.{read_whole}
use Rattle.poly_text.specs.Lexemes as lexemes
use Rattle.poly_text.specs.Lexemes.{Lexeme, Placed}
use Rattle.poly_text.specs.Kinds.{same_keyword}
use Rattle.poly_text.specs.NameFaults as positions
use Rattle.poly_text.specs.Reasons.{Reason, twice, unknown, init_uses, or_else, Fault}
use Rattle.poly_text.specs.Reads.{used_by}
use Rattle.poly_text.specs.Telling as telling
use Rattle.poly_text.specs.Told.{Told, told}
use Rattle.poly_text.specs.declared.error.TextError.{TextError}
use Rattle.poly_text.specs.declared.cursor.Cursor.{Cursor}
use Rattle.loop_model.specs.declared.statement.Statement as code
use Rattle.loop_model.specs.Parts.{statement_of}
use Rattle.loop_text.specs.declared.begun.Begun.{Begun}
use Rattle.loop_text.specs.declared.names.LoopNames.{LoopNames}
use Rattle.loop_text.specs.Loops.{LoopContext, LoopValue, LoopState, Rule, no_sum, in_scope, no_sum_value, length_fault, new_fault, the_end, loop_language}
use Rattle.loop_text.specs.LoopReader.{program_or_fault}

abbrev pub reading : Rule → LoopState → List Placed → Told LoopContext LoopValue
reading g s ts = telling.reading loop_language g s ts

abbrev pub Reads : {A : Type 0} → Rule → LoopState → (A → LoopState) → Cursor
    → Result (A × Cursor) TextError → Type 0
Reads g s state c result = telling.Reads loop_language g s state c result

abbrev pub Goes : Rule → LoopState → LoopState → Cursor → Result Cursor TextError → Type 0
Goes g s t c result = telling.Goes loop_language g s t c result

-- what the grammar g says up to the end of the text
abbrev pub whole : Rule → LoopState → List Placed → Result (Program (Expr ℕ)) Fault
whole g s ts = program_or_fault (told (read_whole loop_language (g ∷ the_end ∷ []) s ts))

-- ---- init
abbrev pub Inits : Type 0
Inits = List (Equation (Expr ℕ))

abbrev pub used_in : Inits → List ℕ
used_in init = fold (λ us (e : Equation (Expr ℕ)). used_by e.value us) [] init

abbrev pub in_init : List (List ℕ) → List (List ℕ) → List ℕ → Inits → List ℕ → LoopState
in_init names locals set init is = record {
  context = record {
    names = names;
    locals = locals;
    sum = record {
      names = names;
      refused = set;
      refusal = init_uses;
      used = used_in init;
      operators = 0;
      depth = 0;
    };
    targets = is;
    values = 0;
    statements = 0;
    branches = 0;
  };
  value = record { init = init; branches = []; statements = []; values = []; sum = no_sum_value };
}

-- ---- statements and branches
pub record Before : Type 0 where
  pub names : List (List ℕ)
  pub locals : List (List ℕ)
  pub init : Inits
  pub branches : List (List (Statement (Expr ℕ)))
  pub statements : List (Statement (Expr ℕ))

abbrev pub in_statement : List (List ℕ) → List ℕ → Begun → Before → List ℕ → List (Expr ℕ)
    → LoopState
in_statement names places n b is es = record {
  context = record {
    names = b.names;
    locals = b.locals;
    sum = in_scope names places;
    targets = is;
    values = length es;
    statements = n.statements;
    branches = n.branches;
  };
  value = record {
    init = b.init;
    branches = b.branches;
    statements = b.statements;
    values = es;
    sum = no_sum_value;
  };
}

abbrev pub between : List (List ℕ) → List ℕ → Begun → Before → LoopState
between names places n b = in_statement names places n b [] []

-- behind these statements of the open branch
abbrev pub behind : Before → List (Statement (Expr ℕ)) → Before
behind b ss = record b { statements = ss }

abbrev pub in_branches : List (List ℕ) → List (List ℕ) → Begun → Inits
    → List (List (Statement (Expr ℕ))) → LoopState
in_branches names locals n init bs = record {
  context = record {
    names = names;
    locals = locals;
    sum = no_sum names;
    targets = [];
    values = 0;
    statements = n.statements;
    branches = n.branches;
  };
  value = record { init = init; branches = bs; statements = []; values = []; sum = no_sum_value };
}

abbrev pub with_init : List (List ℕ) → List (List ℕ) → Inits → LoopState
with_init names locals init =
    in_branches names locals (record { statements = 0; branches = 0 }) init []

abbrev pub with_names : List (List ℕ) → List (List ℕ) → LoopState
with_names names locals = with_init names locals []

abbrev pub branches_of : List (Vec code.Statement) → List (List (Statement (Expr ℕ)))
branches_of bs = map (λ b. map statement_of b.items) bs

-- ---- names
abbrev pub AreVariablesThenLocals : LoopNames → Type 0
AreVariablesThenLocals ns = ns.all ≡ ns.variables ++ ns.locals

abbrev pub left_fault : List (List ℕ) → List ℕ → List ℕ → List ℕ → Option Reason
left_fault names taken used w =
    or_else (length_fault w)
    (option_map_or
    (λ i. if positions.has taken i then Some twice
    else (if positions.has used i then Some init_uses else None)) (place_of names w) (Some unknown))

pub record IsLeft (names : List (List ℕ)) (taken used : List ℕ)
    (fault : LoopContext → List ℕ → Option Reason) (next : LoopContext → List ℕ → LoopContext)
    (s : LoopState) (after : ℕ → LoopState) : Type 0 where
  pub faults : (w : List ℕ) → fault s.context w ≡ left_fault names taken used w
  pub goes : (w : List ℕ) → record { context = next s.context w; value = s.value }
      ≡ after (unwrap_or (place_of names w) 0)

-- a name that is declared behind others of its kind, where these are known
pub record IsDeclaration (others known : List (List ℕ))
    (fault : LoopContext → List ℕ → Option Reason) (next : LoopContext → List ℕ → LoopContext)
    (s : LoopState) (after : List (List ℕ) → LoopState) : Type 0 where
  pub faults : (w : List ℕ) → fault s.context w ≡ new_fault others known w
  pub goes : (w : List ℕ) → record { context = next s.context w; value = s.value }
      ≡ after (others ++ w ∷ [])

abbrev pub is_keyword_of : Lexeme → Keyword → Bool
is_keyword_of (lexemes.keyword j) k = same_keyword k j
is_keyword_of x k = false
