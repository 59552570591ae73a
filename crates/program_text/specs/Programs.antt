-- The grammar of programs, with what is at fault and what is built. The language of sums is embedded.
--   program    = "vars" name { "," name } ";" { statement }
--   statement  = name "=" ( quot | "any" ) ";" | "(" name "," name { "," name } ")" "=" "(" quot "," quot { "," quot } ")" ";"
--              | if-statement | "while" guard block | "for" name "=" sum ".." sum block
--              | "assume" comparison ";" | "assert" equation ";"
--   if-statement = "if" guard block [ "else" ( block | if-statement ) ]
--   block      = "{" { statement } "}"
--   guard      = item { item }
--   comparison = sum ( "=" | "==" | "!=" ) sum;  equation: without !=
--   A quot is a sum in which any factor may stand behind a /.
--   ProgramContext    the variables; that of the sum that is read; the targets of the open statement, and how many of its right sides were read; how many
--                     statements began, and how many blocks are open
--   ProgramValue      what was read and waits, the last first: the text of the open guard, guards, blocks, variables that count, the right sides of the open
--                     statement; and the sums and offsets that wait
--   X_fault           why a token is at fault, if it is
--   counted at j e f between body b    behind the block b, what `for j = e .. f` says of the body: j = e, and a loop while j != f, whose body ends by j = j + 1
--   program_language  what the rules say; more_values: as many right sides as there are targets
--   whole_program      up to the end of the text;  nothing: nothing was read
use Rattle.std.specs.Prelude.{ℕ, suc, pos, ◌-◌, is_some, Bool, true, false, nat_le, nat_lt, if◌then◌else◌, List, [], ◌∷◌, ◌++◌, length, drop, Option, Some, None}
use Rattle.loops.specs.Limits.{most_bytes}
use Rattle.loops.specs.Program.{Expr, number, variable, add}
use Rattle.loop_model.specs.Ascii.{left_parenthesis, right_parenthesis, star, plus_sign, comma, minus_sign, slash, semicolon, equal_sign, left_brace, right_brace}
use Rattle.grammars.specs.Grammar.{State, Grammar, Language, token, change, sequence, either, many, rule, some, separated, plain}
use Rattle.grammars.specs.Embedded.{Embedding, lift}
use Rattle.poly_text.specs.Reasons.{Reason, limit, twice, unless, or_else}
use Rattle.poly_text.specs.NameFaults as positions
use Rattle.program_model.specs.Program.{Divisor, Guard, Statement, Block, step, assign, choose, assume, assert, branch, loop, empty, behind}
use Rattle.loop_model.specs.Names.{place_of}
use Rattle.program_text.specs.Words.{Keyword, vars_word, if_word, else_word, while_word, for_word, assume_word, assert_word, any_word}
use Rattle.program_text.specs.Doubles.{dots}
use Rattle.program_text.specs.Lexemes.{Lexeme}
use Rattle.program_text.specs.Kinds.{Kind, a_name, an_item, an_end, a_sign, a_double, a_keyword, same, kind_of, sample, word_in}
use Rattle.program_text.specs.NameFaults.{name_fault}
use Rattle.program_text.specs.Sums as sums
use Rattle.program_text.specs.Sums.{SumContext, SumValue, SumRule, a_sum, a_factor, a_divisor, begins_sum, place, nth, all_signs, equal_signs, comparison_in}
use Rattle.program_text.specs.Guards.{with_item, guard_of}

pub record ProgramContext : Type 0 where
  pub names : List (List ℕ)
  pub sum : SumContext
  pub targets : List ℕ
  pub values : ℕ
  pub statements : ℕ
  pub blocks : ℕ

pub record ProgramValue : Type 0 where
  pub guard : List ℕ
  pub guards : List (Guard (Expr ℕ))
  pub blocks : List (Block (Expr ℕ))
  pub counters : List ℕ
  pub values : List (Expr ℕ)
  pub sum : SumValue

abbrev pub ProgramState : Type 0
ProgramState = State ProgramContext ProgramValue

-- no sum is read
abbrev pub no_sum : List (List ℕ) → SumContext
no_sum names = (sums.start names).context

abbrev pub nothing_built : ProgramValue
nothing_built = record {
  guard = [];
  guards = [];
  blocks = empty ∷ [];
  counters = [];
  values = [];
  sum = sums.no_value;
}

abbrev pub outside : List (List ℕ) → ProgramContext
outside names = record {
  names = names;
  sum = no_sum names;
  targets = [];
  values = 0;
  statements = 0;
  blocks = 0;
}

abbrev pub nothing : ProgramState
nothing = record { context = outside []; value = nothing_built }

-- ---- limits
unfoldable pub most_names : ℕ
most_names = 16

unfoldable pub most_statements : ℕ
most_statements = 256

unfoldable pub most_blocks : ℕ
most_blocks = 16

-- ---- what is at fault
abbrev pub declared_fault : ProgramContext → List ℕ → Option Reason
declared_fault c w =
    or_else (unless (nat_le (suc (length c.names)) most_names) limit)
    (or_else (unless (nat_le (length w) most_bytes) limit)
    (if is_some (place_of c.names w) then Some twice else None))

abbrev pub target_fault : ProgramContext → List ℕ → Option Reason
target_fault c w =
    or_else (name_fault c.names w)
    (if positions.has c.targets (place c.sum w) then Some twice else None)

abbrev pub statement_fault : ProgramContext → Option Reason
statement_fault c = unless (nat_le (suc c.statements) most_statements) limit

abbrev pub block_fault : ProgramContext → Option Reason
block_fault c = unless (nat_le (suc c.blocks) most_blocks) limit

-- ---- what comes next
abbrev pub with_sum : ProgramContext → SumContext → ProgramContext
with_sum c d = record c { sum = d }

abbrev pub declare : ProgramContext → List ℕ → ProgramContext
declare c w = record c { names = c.names ++ w ∷ []; sum = no_sum (c.names ++ w ∷ []) }

abbrev pub aim : ProgramContext → List ℕ → ProgramContext
aim c w = record c { targets = c.targets ++ place c.sum w ∷ [] }

abbrev pub end_sum : ProgramContext → ProgramContext
end_sum c = with_sum c (no_sum c.names)

abbrev pub begin_value : ProgramContext → ProgramContext
begin_value c = with_sum c (record (no_sum c.names) { free = true })

abbrev pub end_value : ProgramContext → ProgramContext
end_value c = record c { sum = no_sum c.names; values = suc c.values }

abbrev pub begin_statement : ProgramContext → ProgramContext
begin_statement c = record c { statements = suc c.statements }

abbrev pub end_statement : ProgramContext → ProgramContext
end_statement c = record c { sum = no_sum c.names; targets = []; values = 0 }

abbrev pub open_block : ProgramContext → ProgramContext
open_block c = record c { blocks = suc c.blocks }

abbrev pub close_block : ProgramContext → ProgramContext
close_block c = record c { blocks = c.blocks - 1 }

-- ---- what is built
abbrev pub keep : ProgramContext → ProgramValue → ProgramValue
keep c v = v

abbrev pub expr_at : ℕ → ProgramValue → Expr ℕ
expr_at k v = nth (number (pos 0)) k v.sum.values

abbrev pub place_at : ℕ → ProgramValue → ℕ
place_at k v = nth 0 k v.sum.places

abbrev pub block_at : ℕ → ProgramValue → Block (Expr ℕ)
block_at k v = nth empty k v.blocks

abbrev pub guard_at : ProgramValue → Guard (Expr ℕ)
guard_at v = nth (record { says = []; alone = true }) 0 v.guards

-- so many sums, offsets and signs wait no more
abbrev pub pop_sums : ℕ → ℕ → ℕ → ProgramValue → ProgramValue
pop_sums k m n v =
    record v {
      sum = record v.sum {
        values = drop k v.sum.values;
        places = drop m v.sum.places;
        signs = drop n v.sum.signs;
      };
    }

abbrev pub note : ℕ → ProgramValue → ProgramValue
note at v = record v { sum = sums.note at v.sum }

-- the statement s behind those of the last block but m, which wait no more
abbrev pub with_statement : ℕ → Statement (Expr ℕ) → ProgramValue → ProgramValue
with_statement m s v = record v { blocks = behind (block_at m v) s ∷ drop (suc m) v.blocks }

abbrev pub with_value : ProgramContext → ProgramValue → ProgramValue
with_value c v = pop_sums 1 0 0 (record v { values = v.values ++ expr_at 0 v ∷ [] })

abbrev pub set : List (Divisor (Expr ℕ)) → List ℕ → List (Expr ℕ) → Statement (Expr ℕ)
set ds is es = step (assign (record { divisors = ds; targets = is; values = es }))

abbrev pub with_set : ProgramContext → ProgramValue → ProgramValue
with_set c v =
    record (with_statement 0 (set v.sum.divisors c.targets v.values) v) {
      values = [];
      sum = record v.sum { divisors = [] };
    }

abbrev pub with_unknown : ProgramContext → ProgramValue → ProgramValue
with_unknown c v =
    pop_sums 0 1 0 (with_statement 0 (step (choose (place_at 0 v) (nth 0 0 c.targets))) v)

abbrev pub with_test : ProgramContext → ProgramValue → ProgramValue
with_test c v = pop_sums 2 1 1 (with_statement 0 (step (assume (comparison_in v.sum))) v)

abbrev pub with_claim : ProgramContext → ProgramValue → ProgramValue
with_claim c v = pop_sums 2 2 1 (with_statement 0 (assert (place_at 1 v) (comparison_in v.sum)) v)

abbrev pub with_guard : ProgramContext → ProgramValue → ProgramValue
with_guard c v = record v { guard = []; guards = guard_of c.names v.guard ∷ v.guards }

abbrev pub with_empty : ProgramContext → ProgramValue → ProgramValue
with_empty c v = record v { blocks = empty ∷ v.blocks }

abbrev pub pop_guard : ProgramValue → ProgramValue
pop_guard v = record v { guards = drop 1 v.guards }

abbrev pub with_choice : ProgramContext → ProgramValue → ProgramValue
with_choice c v =
    pop_guard (pop_sums 0 1 0 (with_statement 2 (branch (place_at 0 v) (guard_at v) (block_at 1 v)
    (block_at 0 v)) v))

abbrev pub with_loop : ProgramContext → ProgramValue → ProgramValue
with_loop c v =
    pop_guard (pop_sums 0 1 0 (with_statement 1 (loop (place_at 0 v) (guard_at v) (block_at 0 v))
    v))

-- ---- what `for` says
abbrev pub until : ℕ → Expr ℕ → ℕ → Guard (Expr ℕ)
until j f at = record {
  says = record { at = at; equal = false; left = variable j; right = f } ∷ [];
  alone = true;
}

abbrev pub one_more : ℕ → ℕ → Statement (Expr ℕ)
one_more j at = set [] (j ∷ []) (add at (variable j) (number (pos 1)) ∷ [])

abbrev pub counted : ℕ → ℕ → Expr ℕ → Expr ℕ → ℕ → Block (Expr ℕ) → Block (Expr ℕ) → Block (Expr ℕ)
counted at j e f between body b =
    behind (behind b (set [] (j ∷ []) (e ∷ [])))
    (loop at (until j f between) (behind body (one_more j between)))

abbrev pub with_count : ProgramContext → ProgramValue → ProgramValue
with_count c v =
    record (pop_sums 2 2 0 v) {
      blocks = counted (place_at 1 v) (nth 0 0 v.counters) (expr_at 1 v) (expr_at 0 v)
          (place_at 0 v) (block_at 0 v) (block_at 1 v) ∷ drop 2 v.blocks;
      counters = drop 1 v.counters;
    }

-- ---- the grammar
pub data ProgramRule : Type 0 where
  of_sums : SumRule → ProgramRule
  more_values a_statement an_if : ProgramRule

abbrev pub sums_in_programs : Embedding SumRule ProgramRule ProgramContext SumContext ProgramValue
    SumValue
sums_in_programs = record {
  rule_of = of_sums;
  get_context = λ c. c.sum;
  put_context = λ d c. with_sum c d;
  get_value = λ v. v.sum;
  put_value = λ w v. record v { sum = w };
}

abbrev pub Rule : Type 0
Rule = Grammar ProgramRule Kind Lexeme ProgramContext ProgramValue Reason

abbrev pub token_of : Kind → (ProgramContext → Option Reason) → (ProgramContext → ProgramContext)
    → (ProgramContext → ProgramValue → ProgramValue) → Rule
token_of k fault next build = token (k ∷ []) (λ c x. fault c) (λ c x. next c) (λ c x v. build c v)

-- the token notes its offset
abbrev pub noted : List Kind → (ProgramContext → Option Reason) → (ProgramContext → ProgramContext)
    → Rule
noted ks fault next = token ks (λ c x. fault c) (λ c x. next c) (λ c x v. note x.at v)

abbrev pub word : (ProgramContext → List ℕ → Option Reason) → (ProgramContext → List ℕ
    → ProgramContext) → (ProgramContext → List ℕ → ProgramValue → ProgramValue) → Rule
word fault next build =
    token (a_name ∷ []) (λ c x. fault c (word_in x)) (λ c x. next c (word_in x))
    (λ c x v. build c (word_in x.lexeme) v)

abbrev pub word_keeps : ProgramContext → List ℕ → ProgramValue → ProgramValue
word_keeps c w v = v

abbrev pub sign : ℕ → Rule
sign b = plain (a_sign b ∷ [])

abbrev pub keyword : Keyword → Rule
keyword k = plain (a_keyword k ∷ [])

abbrev pub sum : Rule
sum = rule (of_sums a_sum)

-- vars
abbrev pub declared_name : Rule
declared_name = word declared_fault declare word_keeps

abbrev pub names : Rule
names = sequence (keyword vars_word) (sequence (separated (sign comma) declared_name)
    (sign semicolon))

-- assignments
abbrev pub right_side : Rule
right_side = sequence (change begin_value keep) (sequence sum (change end_value with_value))

abbrev pub set_end : Rule
set_end = token_of (a_sign semicolon) (λ c. None) end_statement with_set

abbrev pub unknown_end : Rule
unknown_end = token_of (a_sign semicolon) (λ c. None) end_statement with_unknown

abbrev pub only_target_fault : ProgramContext → List ℕ → Option Reason
only_target_fault c w = or_else (statement_fault c) (target_fault c w)

abbrev pub aim_only : ProgramContext → List ℕ → ProgramContext
aim_only c w = aim (begin_statement c) w

abbrev pub only_target : Rule
only_target = word only_target_fault aim_only word_keeps

abbrev pub any_token : Rule
any_token = noted (a_keyword any_word ∷ []) (λ c. None) (λ c. c)

abbrev pub any_value : Rule
any_value = sequence any_token unknown_end

abbrev pub set_value : Rule
set_value = sequence right_side set_end

abbrev pub single : Rule
single = sequence only_target (sequence (sign equal_sign) (either any_value set_value))

abbrev pub list_opening : Rule
list_opening = token_of (a_sign left_parenthesis) statement_fault begin_statement keep

abbrev pub target : Rule
target = word target_fault aim word_keeps

abbrev pub targets : Rule
targets =
    sequence target
    (sequence (sign comma) (sequence (separated (sign comma) target) (sign right_parenthesis)))

abbrev pub value_list : Rule
value_list = sequence right_side (sequence (rule more_values) (sign right_parenthesis))

abbrev pub values : Rule
values = sequence (sign equal_sign) (sequence (sign left_parenthesis) value_list)

abbrev pub several : Rule
several = sequence list_opening (sequence targets (sequence values set_end))

-- comparisons
abbrev pub comparison : List Kind → Rule
comparison ks = lift sums_in_programs (sums.comparison ks)

abbrev pub head_word : Keyword → Rule
head_word k = noted (a_keyword k ∷ []) statement_fault begin_statement

abbrev pub assume_token : Rule
assume_token = token_of (a_keyword assume_word) statement_fault begin_statement keep

abbrev pub test_end : Rule
test_end = token_of (a_sign semicolon) (λ c. None) end_statement with_test

abbrev pub claim_end : Rule
claim_end = token_of (a_sign semicolon) (λ c. None) end_statement with_claim

abbrev pub assumption_of : Rule
assumption_of = sequence assume_token (sequence (comparison all_signs) test_end)

abbrev pub assertion : Rule
assertion = sequence (head_word assert_word) (sequence (comparison equal_signs) claim_end)

-- blocks
abbrev pub block_opening : Rule
block_opening = token_of (a_sign left_brace) block_fault open_block with_empty

abbrev pub block_closing : Rule
block_closing = token_of (a_sign right_brace) (λ c. None) close_block keep

abbrev pub statements : Rule
statements = sequence (many (rule a_statement)) block_closing

abbrev pub block : Rule
block = sequence block_opening statements

-- guards, and the { of the block behind them
abbrev pub the_item : Rule
the_item =
    token (an_item ∷ []) (λ c x. None) (λ c x. c)
    (λ c x v. record v { guard = with_item x v.guard })

abbrev pub guard_end : Rule
guard_end =
    token_of (a_sign left_brace) block_fault open_block (λ c v. with_empty c (with_guard c v))

abbrev pub guard : Rule
guard = sequence (some the_item) guard_end

abbrev pub while_loop : Rule
while_loop =
    sequence (head_word while_word) (sequence guard (sequence statements (change (λ c. c)
    with_loop)))

abbrev pub else_if : Rule
else_if = sequence (change (λ c. c) with_empty) (rule an_if)

abbrev pub else_way : Rule
else_way = sequence (keyword else_word) (either block else_if)

abbrev pub other_way : Rule
other_way = either else_way (change (λ c. c) with_empty)

abbrev pub if_statement : Rule
if_statement =
    sequence (head_word if_word) (sequence guard (sequence statements (sequence other_way
    (change (λ c. c) with_choice))))

-- for
abbrev pub counter_fault : ProgramContext → List ℕ → Option Reason
counter_fault c w = name_fault c.names w

abbrev pub word_stays : ProgramContext → List ℕ → ProgramContext
word_stays c w = c

abbrev pub with_counter : ProgramContext → List ℕ → ProgramValue → ProgramValue
with_counter c w v = record v { counters = place c.sum w ∷ v.counters }

abbrev pub counter : Rule
counter = word counter_fault word_stays with_counter

abbrev pub no_divisors : ProgramContext → ProgramValue → ProgramValue
no_divisors c v = record v { sum = record v.sum { divisors = [] } }

abbrev pub bounds_sign : Rule
bounds_sign =
    token (a_double dots ∷ []) (λ c x. None) (λ c x. end_sum c)
    (λ c x v. no_divisors c (note x.at v))

abbrev pub bounds : Rule
bounds = sequence sum (sequence bounds_sign (sequence sum (change end_sum no_divisors)))

abbrev pub for_loop : Rule
for_loop =
    sequence (head_word for_word) (sequence counter (sequence (sign equal_sign) (sequence bounds
    (sequence block (change (λ c. c) with_count)))))

abbrev pub statement : Rule
statement =
    either single (either several (either if_statement (either while_loop (either for_loop
    (either assumption_of assertion)))))

abbrev pub program : Rule
program = sequence names (many (rule a_statement))

abbrev pub the_end : Rule
the_end = plain (an_end ∷ [])

abbrev pub whole_program : List Rule
whole_program = program ∷ the_end ∷ []

-- ---- the language
abbrev pub another_value : Rule
another_value = sequence (sign comma) (sequence right_side (rule more_values))

abbrev pub more_if : Bool → Rule
more_if true = another_value
more_if false = change (λ c. c) keep

abbrev pub rule_says : ProgramRule → ProgramContext → Rule
rule_says (of_sums n) c = lift sums_in_programs (sums.rule_says n c.sum)
rule_says more_values c = more_if (nat_lt c.values (length c.targets))
rule_says a_statement c = statement
rule_says an_if c = if_statement

abbrev pub begins_statement : List Kind
begins_statement =
    a_name ∷ a_sign left_parenthesis ∷ a_keyword if_word ∷ a_keyword while_word
    ∷ a_keyword for_word ∷ a_keyword assume_word ∷ a_keyword assert_word ∷ []

abbrev pub rule_begins : ProgramRule → List Kind
rule_begins (of_sums n) = begins_sum
rule_begins more_values = a_sign comma ∷ []
rule_begins a_statement = begins_statement
rule_begins an_if = a_keyword if_word ∷ []

abbrev pub may_be_none : ProgramRule → Bool
may_be_none (of_sums n) = false
may_be_none more_values = true
may_be_none a_statement = false
may_be_none an_if = false

abbrev pub behind_sum : List Kind
behind_sum =
    a_sign comma ∷ a_sign semicolon ∷ a_sign right_parenthesis ∷ a_sign left_brace
    ∷ a_double dots ∷ an_end ∷ all_signs

abbrev pub behind_factor : List Kind
behind_factor = a_sign star ∷ a_sign slash ∷ a_sign plus_sign ∷ a_sign minus_sign ∷ behind_sum

abbrev pub behind_statement : List Kind
behind_statement = a_sign right_brace ∷ an_end ∷ begins_statement

abbrev pub may_follow : ProgramRule → List Kind
may_follow (of_sums a_sum) = behind_sum
may_follow (of_sums a_factor) = behind_factor
may_follow (of_sums a_divisor) = behind_factor
may_follow more_values = a_sign right_parenthesis ∷ []
may_follow a_statement = behind_statement
may_follow an_if = behind_statement

abbrev pub program_language : Language ProgramRule Kind Lexeme ProgramContext ProgramValue Reason
program_language = record {
  same = same;
  kind = kind_of;
  says = rule_says;
  begins = rule_begins;
  empty = may_be_none;
  follows = may_follow;
  sample = sample;
}
