-- The grammar of loops, with what is at fault and what is built. The language of sums is embedded.
--   loop      = "vars" name { "," name } ";" [ "locals" name { "," name } ";" ] [ "init" start { "," start } ";" ] branch { branch }
--   start     = name "=" sum
--   branch    = "branch" ( "when" item { item } "{" | "{" ) { statement } "}"
--   statement = name "=" sum ";" | "(" name "," name { "," name } ")" "=" "(" sum "," sum { "," sum } ")" ";"
--   LoopContext       the variables and the local names; that of the sum that is read; the targets of the open equation or statement, and how many of its
--                     right sides were read; how many statements and branches began. While init is read the sum has the variables, refuses what init sets,
--                     and its variables used are those of all of init. In a branch it has the local names too, and refuses those that are unset
--   locals_word w     the word is locals, which isn't a keyword
--   in_scope names unset    no sum is read in a branch, with these names, where these places are unset
--   LoopValue         init, the branches, the statements of the open one, the right sides of the open statement; and that of the sum
--   X_fault           why a name or a keyword is at fault, if it is
--   loop_language     what the rules say; more_values: as many right sides as there are targets
--   whole_loop        a loop up to the end of the text; nothing: nothing was read
use Rattle.std.specs.Prelude.{ℕ, suc, pos, is_some, Bool, true, false, nat_le, nat_lt, if◌then◌else◌, List, [], ◌∷◌, ◌++◌, length, Option, Some, None, codes}
use Rattle.std.specs.Str.{bytes_eq}
use Rattle.std.specs.Option.{option_map_or}
use Rattle.loops.specs.Limits.{most_names, most_bytes, most_branches, most_statements}
use Rattle.loops.specs.Program.{Expr, number, Equation, Statement}
use Rattle.loops.specs.WellFormed.{local_places, still_unset}
use Rattle.loop_model.specs.Ascii.{left_parenthesis, right_parenthesis, star, plus_sign, comma, minus_sign, slash, semicolon, equal_sign, left_brace, right_brace}
use Rattle.loop_model.specs.Names.{place_of}
use Rattle.loop_model.specs.Words.{Keyword, vars_word, init_word, branch_word, when_word}
use Rattle.grammars.specs.Grammar.{State, Grammar, Language, token, change, sequence, either, many, rule, optional, some, separated, plain}
use Rattle.grammars.specs.Embedded.{Embedding, lift}
use Rattle.poly_text.specs.Lexemes.{Lexeme}
use Rattle.poly_text.specs.Kinds.{Kind, a_name, an_item, an_end, a_sign, a_keyword, same, kind_of, sample, word_in}
use Rattle.poly_text.specs.Reasons.{Reason, syntax, limit, twice, unknown, init_uses, unset, unless, or_else}
use Rattle.poly_text.specs.NameFaults.{has}
use Rattle.poly_text.specs.Sums as sums
use Rattle.poly_text.specs.Sums.{SumContext, SumValue, SumRule, a_sum, a_factor, begins_sum, place}

pub record LoopContext : Type 0 where
  pub names : List (List ℕ)
  pub locals : List (List ℕ)
  pub sum : SumContext
  pub targets : List ℕ
  pub values : ℕ
  pub statements : ℕ
  pub branches : ℕ

pub record LoopValue : Type 0 where
  pub init : List (Equation (Expr ℕ))
  pub branches : List (List (Statement (Expr ℕ)))
  pub statements : List (Statement (Expr ℕ))
  pub values : List (Expr ℕ)
  pub sum : SumValue

abbrev pub LoopState : Type 0
LoopState = State LoopContext LoopValue

-- no sum is read
abbrev pub no_sum : List (List ℕ) → SumContext
no_sum names = (sums.start names []).context

abbrev pub in_scope : List (List ℕ) → List ℕ → SumContext
in_scope names places = record {
  names = names;
  refused = places;
  refusal = unset;
  used = [];
  operators = 0;
  depth = 0;
}

abbrev pub no_sum_value : SumValue
no_sum_value = record { values = []; places = [] }

abbrev pub nothing : LoopState
nothing = record {
  context = record {
    names = [];
    locals = [];
    sum = no_sum [];
    targets = [];
    values = 0;
    statements = 0;
    branches = 0;
  };
  value = record { init = []; branches = []; statements = []; values = []; sum = no_sum_value };
}

-- ---- what is at fault
abbrev pub length_fault : List ℕ → Option Reason
length_fault w = unless (nat_le (length w) most_bytes) limit

abbrev pub locals_word : List ℕ → Bool
locals_word w = bytes_eq w (codes "locals")

-- another name can't stand where locals may
abbrev pub locals_fault : LoopContext → List ℕ → Option Reason
locals_fault c w = unless (locals_word w) syntax

-- a name that is declared behind others of its kind, where these are known
abbrev pub new_fault : List (List ℕ) → List (List ℕ) → List ℕ → Option Reason
new_fault others known w =
    or_else (unless (nat_le (suc (length others)) most_names) limit)
    (or_else (length_fault w) (if is_some (place_of known w) then Some twice else None))

abbrev pub declared_fault : LoopContext → List ℕ → Option Reason
declared_fault c w = new_fault c.names c.names w

abbrev pub local_fault : LoopContext → List ℕ → Option Reason
local_fault c w = new_fault c.locals (c.names ++ c.locals) w

-- a name on a left side, and why its variable may not stand there
abbrev pub name_fault : LoopContext → List ℕ → (ℕ → Option Reason) → Option Reason
name_fault c w fault =
    or_else (length_fault w) (option_map_or fault (place_of c.sum.names w) (Some unknown))

-- a variable that init sets isn't set or used before
abbrev pub set_fault : LoopContext → ℕ → Option Reason
set_fault c i =
    if has c.sum.refused i then Some twice
    else (if has c.sum.used i then Some init_uses else None)

abbrev pub target_fault : LoopContext → ℕ → Option Reason
target_fault c i = if has c.targets i then Some twice else None

abbrev pub statement_fault : LoopContext → Option Reason
statement_fault c = unless (nat_le (suc c.statements) most_statements) limit

abbrev pub branch_fault : LoopContext → Option Reason
branch_fault c = unless (nat_le (suc c.branches) most_branches) limit

-- ---- what comes next
abbrev pub with_sum : LoopContext → SumContext → LoopContext
with_sum c d = record c { sum = d }

abbrev pub declare : LoopContext → List ℕ → LoopContext
declare c w = record c { names = c.names ++ w ∷ []; sum = no_sum (c.names ++ w ∷ []) }

abbrev pub declare_local : LoopContext → List ℕ → LoopContext
declare_local c w = record c { locals = c.locals ++ w ∷ [] }

abbrev pub aim : LoopContext → List ℕ → LoopContext
aim c w = record c { targets = c.targets ++ place c.sum w ∷ [] }

abbrev pub set_variable : LoopContext → List ℕ → LoopContext
set_variable c w = with_sum (aim c w) (record c.sum {
  refused = c.sum.refused ++ place c.sum w
      ∷ [];
})

abbrev pub end_equation : LoopContext → LoopContext
end_equation c = record c { sum = record c.sum { operators = 0 }; targets = [] }

abbrev pub end_sum : LoopContext → LoopContext
end_sum c = with_sum c (no_sum c.sum.names)

abbrev pub end_value : LoopContext → LoopContext
end_value c = record c { sum = in_scope c.sum.names c.sum.refused; values = suc c.values }

abbrev pub begin_statement : LoopContext → LoopContext
begin_statement c = record c { statements = suc c.statements }

abbrev pub end_statement : LoopContext → LoopContext
end_statement c = record c {
  sum = in_scope c.sum.names (still_unset c.targets c.sum.refused);
  targets = [];
  values = 0;
}

abbrev pub begin_branch : LoopContext → LoopContext
begin_branch c = record c {
  sum = in_scope (c.names ++ c.locals) (local_places (length c.names) (length c.locals));
  branches = suc c.branches;
}

abbrev pub end_branch : LoopContext → LoopContext
end_branch c = with_sum c (no_sum c.names)

-- ---- what is built
abbrev pub keep : LoopContext → LoopValue → LoopValue
keep c v = v

-- the sum that was read, and the target of an equation; 0 where there is none
abbrev pub top : List (Expr ℕ) → Expr ℕ
top [] = number (pos 0)
top (e ∷ es) = e

abbrev pub first_target : List ℕ → ℕ
first_target [] = 0
first_target (i ∷ is) = i

abbrev pub with_equation : LoopContext → LoopValue → LoopValue
with_equation c v =
    record v {
      init = v.init ++ record { name = first_target c.targets; value = top v.sum.values } ∷ [];
      sum = no_sum_value;
    }

abbrev pub with_value : LoopContext → LoopValue → LoopValue
with_value c v = record v { values = v.values ++ top v.sum.values ∷ []; sum = no_sum_value }

abbrev pub with_statement : LoopContext → LoopValue → LoopValue
with_statement c v =
    record v {
      statements = v.statements ++ record { targets = c.targets; values = v.values } ∷ [];
      values = [];
    }

abbrev pub with_branch : LoopContext → LoopValue → LoopValue
with_branch c v = record v { branches = v.branches ++ v.statements ∷ []; statements = [] }

-- ---- the grammar
pub data LoopRule : Type 0 where
  of_sums : SumRule → LoopRule
  more_values : LoopRule

abbrev pub Rule : Type 0
Rule = Grammar LoopRule Kind Lexeme LoopContext LoopValue Reason

abbrev pub token_of : Kind → (LoopContext → Option Reason) → (LoopContext → LoopContext)
    → (LoopContext → LoopValue → LoopValue) → Rule
token_of k fault next build = token (k ∷ []) (λ c x. fault c) (λ c x. next c) (λ c x v. build c v)

abbrev pub word : (LoopContext → List ℕ → Option Reason) → (LoopContext → List ℕ → LoopContext)
    → Rule
word fault next =
    token (a_name ∷ []) (λ c x. fault c (word_in x)) (λ c x. next c (word_in x)) (λ c x v. v)

abbrev pub sign : ℕ → Rule
sign b = plain (a_sign b ∷ [])

abbrev pub keyword : Keyword → Rule
keyword k = plain (a_keyword k ∷ [])

abbrev pub sum : Rule
sum = rule (of_sums a_sum)

-- vars
abbrev pub declared_name : Rule
declared_name = word declared_fault declare

abbrev pub names : Rule
names = sequence (keyword vars_word) (sequence (separated (sign comma) declared_name)
    (sign semicolon))

-- locals
abbrev pub word_locals : Rule
word_locals = word locals_fault (λ c w. c)

abbrev pub local_name : Rule
local_name = word local_fault declare_local

abbrev pub locals : Rule
locals = sequence word_locals (sequence (separated (sign comma) local_name) (sign semicolon))

-- init
abbrev pub set_name : Rule
set_name = word (λ c w. name_fault c w (set_fault c)) set_variable

abbrev pub start : Rule
start =
    sequence set_name
    (sequence (sign equal_sign) (sequence sum (change end_equation with_equation)))

abbrev pub init_end : Rule
init_end = token_of (a_sign semicolon) (λ c. None) end_sum keep

abbrev pub init : Rule
init = sequence (keyword init_word) (sequence (separated (sign comma) start) init_end)

-- statements
abbrev pub right_side : Rule
right_side = sequence sum (change end_value with_value)

abbrev pub statement_end : Rule
statement_end = token_of (a_sign semicolon) (λ c. None) end_statement with_statement

abbrev pub only_target : Rule
only_target =
    word (λ c w. or_else (statement_fault c) (name_fault c w (target_fault c)))
    (λ c w. aim (begin_statement c) w)

abbrev pub single : Rule
single = sequence only_target (sequence (sign equal_sign) (sequence right_side statement_end))

abbrev pub list_opening : Rule
list_opening = token_of (a_sign left_parenthesis) statement_fault begin_statement keep

abbrev pub target : Rule
target = word (λ c w. name_fault c w (target_fault c)) aim

abbrev pub targets : Rule
targets =
    sequence target
    (sequence (sign comma) (sequence (separated (sign comma) target) (sign right_parenthesis)))

abbrev pub value_list : Rule
value_list = sequence right_side (sequence (rule more_values) (sign right_parenthesis))

abbrev pub values : Rule
values = sequence (sign equal_sign) (sequence (sign left_parenthesis) value_list)

abbrev pub several : Rule
several = sequence list_opening (sequence targets (sequence values statement_end))

abbrev pub statement : Rule
statement = either single several

-- branches
abbrev pub the_item : Rule
the_item = plain (an_item ∷ [])

abbrev pub guard : Rule
guard = sequence (keyword when_word) (some the_item)

abbrev pub branch_word_token : Rule
branch_word_token = token_of (a_keyword branch_word) branch_fault begin_branch keep

abbrev pub branch_end : Rule
branch_end = token_of (a_sign right_brace) (λ c. None) end_branch with_branch

-- up to the first statement
abbrev pub head : Rule
head = either (sequence guard (sign left_brace)) (sign left_brace)

abbrev pub statements : Rule
statements = sequence (many statement) branch_end

-- statements between braces
abbrev pub block : Rule
block = sequence (sign left_brace) statements

abbrev pub branch : Rule
branch = sequence branch_word_token (sequence head statements)

abbrev pub loop : Rule
loop = sequence names (sequence (optional locals) (sequence (optional init) (some branch)))

abbrev pub the_end : Rule
the_end = plain (an_end ∷ [])

abbrev pub whole_loop : List Rule
whole_loop = loop ∷ the_end ∷ []

-- ---- the language
abbrev pub sums_in_loops : Embedding SumRule LoopRule LoopContext SumContext LoopValue SumValue
sums_in_loops = record {
  rule_of = of_sums;
  get_context = λ c. c.sum;
  put_context = λ d c. with_sum c d;
  get_value = λ v. v.sum;
  put_value = λ w v. record v { sum = w };
}

abbrev pub another_value : Rule
another_value = sequence (sign comma) (sequence right_side (rule more_values))

abbrev pub more_if : Bool → Rule
more_if true = another_value
more_if false = change (λ c. c) keep

abbrev pub rule_says : LoopRule → LoopContext → Rule
rule_says (of_sums n) c = lift sums_in_loops (sums.rule_says n c.sum)
rule_says more_values c = more_if (nat_lt c.values (length c.targets))

abbrev pub rule_begins : LoopRule → List Kind
rule_begins (of_sums n) = begins_sum
rule_begins more_values = a_sign comma ∷ []

abbrev pub may_be_none : LoopRule → Bool
may_be_none (of_sums n) = false
may_be_none more_values = true

abbrev pub may_follow : LoopRule → List Kind
may_follow (of_sums a_sum) = a_sign comma ∷ a_sign semicolon ∷ a_sign right_parenthesis ∷ []
may_follow (of_sums a_factor) =
    a_sign star ∷ a_sign slash ∷ a_sign plus_sign ∷ a_sign minus_sign ∷ a_sign right_parenthesis
    ∷ a_sign comma ∷ a_sign semicolon ∷ []
may_follow more_values = a_sign right_parenthesis ∷ []

abbrev pub loop_language : Language LoopRule Kind Lexeme LoopContext LoopValue Reason
loop_language = record {
  same = same;
  kind = kind_of;
  says = rule_says;
  begins = rule_begins;
  empty = may_be_none;
  follows = may_follow;
  sample = sample;
}
