-- The grammar of sequences, with what is at fault and what is built. The language of sums is embedded twice: for the values that are given, and for recurrences.
--   seqs  = "sequences" first { "," first } ";" next { next }
--   first = seqname "=" "(" sum { "," sum } ")"
--   next  = name "=" sum ";"
--   SeqContext        that of the sum that is read; the names of the sequences; the variables that they make so far; how many values of the open sequence were read, and how
--                     many recurrences
--   SeqValue          the values that are given, of all sequences in turn, and how many of each finished one; the recurrences; and that of the sum
--   sequences_word    the first word of a text, which names nothing
--   variable_name w i     the variable of the sequence w for f(n + i)
--   in_values, in_nexts   how the faults of sums are told: `sequences` can't stand in them; in a recurrence a name has no limit of its own, so a long one isn't known
--   X_fault           why a name is at fault, if it is
--   top es            the sum that was read last
--   seq_language      what the rules say. a_value: a value, or, behind as many as a loop has variables, what begins one, which stands in these texts, always
--                     at fault; more_nexts: as many recurrences as sequences
--   whole_seqs        sequences up to the end of the text; nothing: nothing was read
use Rattle.std.specs.Prelude.{ℕ, zero, suc, pos, is_some, Bool, true, false, not, ◌&&◌, nat_le, nat_lt, if◌then◌else◌, List, [], ◌∷◌, ◌++◌, length, get_or, ◌==◌, codes, decimal, Option, Some, None}
use Rattle.std.specs.List.{list_any}
use Rattle.std.specs.Str.{bytes_eq}
use Rattle.loops.specs.Limits.{most_names, most_bytes}
use Rattle.loops.specs.Program.{Expr, number}
use Rattle.loop_model.specs.Ascii.{underscore, left_parenthesis, right_parenthesis, star, plus_sign, comma, minus_sign, slash, semicolon, equal_sign}
use Rattle.loop_model.specs.Names.{place_of}
use Rattle.grammars.specs.Grammar.{State, Grammar, Language, token, change, sequence, rule, separated, plain}
use Rattle.grammars.specs.Embedded.{Embedding, lift}
use Rattle.poly_text.specs.Lexemes as lexemes
use Rattle.poly_text.specs.Lexemes.{Lexeme}
use Rattle.poly_text.specs.Kinds.{Kind, a_name, an_end, a_sign, same, kind_of, sample, word_in}
use Rattle.poly_text.specs.Reasons.{Reason, syntax, limit, twice, unknown, unless, or_else}
use Rattle.poly_text.specs.Sums as sums
use Rattle.poly_text.specs.Sums.{SumContext, SumValue, SumRule, a_sum, a_factor, begins_sum}
use Rattle.grammars.specs.Retold.{retold}

pub record SeqContext : Type 0 where
  pub sum : SumContext
  pub sequences : List (List ℕ)
  pub variables : List (List ℕ)
  pub own : ℕ
  pub nexts : ℕ

pub record SeqValue : Type 0 where
  pub values : List (Expr ℕ)
  pub orders : List ℕ
  pub nexts : List (Expr ℕ)
  pub sum : SumValue

abbrev pub SeqState : Type 0
SeqState = State SeqContext SeqValue

-- no sum is read
abbrev pub no_sum : List (List ℕ) → SumContext
no_sum names = (sums.start names []).context

abbrev pub no_sum_value : SumValue
no_sum_value = record { values = []; places = [] }

abbrev pub nothing : SeqState
nothing = record {
  context = record { sum = no_sum []; sequences = []; variables = []; own = 0; nexts = 0 };
  value = record { values = []; orders = []; nexts = []; sum = no_sum_value };
}

-- ---- what is at fault
-- the most bytes of a sequence's name
unfoldable pub most_seqname : ℕ
most_seqname = 24

unfoldable pub sequences_word : List ℕ
sequences_word = codes "sequences"

abbrev pub is_sequences : List ℕ → Bool
is_sequences w = bytes_eq w sequences_word

abbrev pub is_seqname : List ℕ → Bool
is_seqname w = not (is_sequences w) && not (list_any (λ c. c == underscore) w)

abbrev pub in_values : Lexeme → Reason → Reason
in_values x syntax = syntax
in_values x why = if is_sequences (word_in x) then syntax else why

abbrev pub in_nexts : Lexeme → Reason → Reason
in_nexts x syntax = syntax
in_nexts x why =
    if is_sequences (word_in x) then syntax
    else (if nat_le (length (word_in x)) most_bytes then why else unknown)

abbrev pub opening_fault : List ℕ → Option Reason
opening_fault w = unless (is_sequences w) syntax

abbrev pub declared_fault : SeqContext → List ℕ → Option Reason
declared_fault c w =
    or_else (unless (is_seqname w) syntax)
    (or_else (unless (nat_le (length w) most_seqname) limit)
    (if is_some (place_of c.sequences w) then Some twice else None))

-- behind as many values as there may be
abbrev pub value_fault : Lexeme → Option Reason
value_fault x = Some (in_values x limit)

abbrev pub due_fault : SeqContext → List ℕ → Option Reason
due_fault c w =
    if bytes_eq w (get_or c.sequences c.nexts []) then None
    else Some (if is_sequences w then syntax else unknown)

-- ---- what comes next
abbrev pub variable_name : List ℕ → ℕ → List ℕ
variable_name w zero = w
variable_name w (suc i) = w ++ underscore ∷ decimal (suc i)

abbrev pub last : List (List ℕ) → List ℕ
last [] = []
last (w ∷ []) = w
last (w ∷ v ∷ ws) = last (v ∷ ws)

abbrev pub with_sum : SeqContext → SumContext → SeqContext
with_sum c d = record c { sum = d }

abbrev pub declare : SeqContext → List ℕ → SeqContext
declare c w = record c { sequences = c.sequences ++ w ∷ [] }

abbrev pub end_value : SeqContext → SeqContext
end_value c = record c {
  sum = no_sum c.sum.names;
  variables = c.variables ++ variable_name (last c.sequences) c.own ∷ [];
  own = suc c.own;
}

abbrev pub end_first : SeqContext → SeqContext
end_first c = record c { own = 0 }

abbrev pub end_firsts : SeqContext → SeqContext
end_firsts c = record c { sum = no_sum c.variables }

abbrev pub end_next : SeqContext → SeqContext
end_next c = record c { sum = no_sum c.sum.names; nexts = suc c.nexts }

-- ---- what is built
abbrev pub top : List (Expr ℕ) → Expr ℕ
top [] = number (pos 0)
top (e ∷ es) = e

abbrev pub keep : SeqContext → SeqValue → SeqValue
keep c v = v

abbrev pub with_value : SeqContext → SeqValue → SeqValue
with_value c v = record v { values = v.values ++ top v.sum.values ∷ []; sum = no_sum_value }

abbrev pub with_first : SeqContext → SeqValue → SeqValue
with_first c v = record v { orders = v.orders ++ c.own ∷ [] }

abbrev pub with_next : SeqContext → SeqValue → SeqValue
with_next c v = record v { nexts = v.nexts ++ top v.sum.values ∷ []; sum = no_sum_value }

-- ---- the grammar
pub data SeqRule : Type 0 where
  of_values : SumRule → SeqRule
  of_nexts : SumRule → SeqRule
  a_value : SeqRule
  more_nexts : SeqRule

abbrev pub Rule : Type 0
Rule = Grammar SeqRule Kind Lexeme SeqContext SeqValue Reason

abbrev pub token_of : Kind → (SeqContext → SeqContext) → (SeqContext → SeqValue → SeqValue) → Rule
token_of k next build = token (k ∷ []) (λ c x. None) (λ c x. next c) (λ c x v. build c v)

abbrev pub word : (SeqContext → List ℕ → Option Reason) → (SeqContext → List ℕ → SeqContext) → Rule
word fault next =
    token (a_name ∷ []) (λ c x. fault c (word_in x)) (λ c x. next c (word_in x)) (λ c x v. v)

abbrev pub sign : ℕ → Rule
sign b = plain (a_sign b ∷ [])

abbrev pub opening : Rule
opening = word (λ c w. opening_fault w) (λ c w. c)

-- the values that are given
abbrev pub declared_name : Rule
declared_name = word declared_fault declare

abbrev pub value : Rule
value = rule a_value

abbrev pub first_end : Rule
first_end = token_of (a_sign right_parenthesis) end_first with_first

abbrev pub values : Rule
values = sequence (separated (sign comma) value) first_end

abbrev pub first : Rule
first = sequence declared_name (sequence (sign equal_sign) (sequence (sign left_parenthesis)
    values))

abbrev pub firsts_end : Rule
firsts_end = token_of (a_sign semicolon) end_firsts keep

abbrev pub firsts : Rule
firsts = sequence (separated (sign comma) first) firsts_end

-- recurrences
abbrev pub due_name : Rule
due_name = word due_fault (λ c w. c)

abbrev pub next_end : Rule
next_end = token_of (a_sign semicolon) end_next with_next

abbrev pub next : Rule
next = sequence due_name (sequence (sign equal_sign) (sequence (rule (of_nexts a_sum)) next_end))

abbrev pub seqs : Rule
seqs = sequence opening (sequence firsts (rule more_nexts))

abbrev pub the_end : Rule
the_end = plain (an_end ∷ [])

abbrev pub whole_seqs : List Rule
whole_seqs = seqs ∷ the_end ∷ []

-- ---- the language
abbrev pub sums_in_values : Embedding SumRule SeqRule SeqContext SumContext SeqValue SumValue
sums_in_values = record {
  rule_of = of_values;
  get_context = λ c. c.sum;
  put_context = λ d c. with_sum c d;
  get_value = λ v. v.sum;
  put_value = λ w v. record v { sum = w };
}

abbrev pub sums_in_nexts : Embedding SumRule SeqRule SeqContext SumContext SeqValue SumValue
sums_in_nexts = record {
  rule_of = of_nexts;
  get_context = λ c. c.sum;
  put_context = λ d c. with_sum c d;
  get_value = λ v. v.sum;
  put_value = λ w v. record v { sum = w };
}

-- no rule begins with another one: so it says what the sum says
abbrev pub given_value : Rule
given_value =
    sequence (lift sums_in_values (retold in_values sums.sum)) (change end_value with_value)

abbrev pub value_if : Bool → Rule
value_if true = given_value
value_if false = token begins_sum (λ c x. value_fault x) (λ c x. c) (λ c x v. v)

abbrev pub next_if : Bool → Rule
next_if true = sequence next (rule more_nexts)
next_if false = change (λ c. c) keep

abbrev pub rule_says : SeqRule → SeqContext → Rule
rule_says (of_values n) c = lift sums_in_values (retold in_values (sums.rule_says n c.sum))
rule_says (of_nexts n) c = lift sums_in_nexts (retold in_nexts (sums.rule_says n c.sum))
rule_says a_value c = value_if (nat_lt (length c.variables) most_names)
rule_says more_nexts c = next_if (nat_lt c.nexts (length c.sequences))

abbrev pub rule_begins : SeqRule → List Kind
rule_begins (of_values n) = begins_sum
rule_begins (of_nexts n) = begins_sum
rule_begins a_value = begins_sum
rule_begins more_nexts = a_name ∷ []

abbrev pub may_be_none : SeqRule → Bool
may_be_none (of_values n) = false
may_be_none (of_nexts n) = false
may_be_none a_value = false
may_be_none more_nexts = true

abbrev pub may_follow : SeqRule → List Kind
may_follow (of_values a_sum) = a_sign comma ∷ a_sign right_parenthesis ∷ []
may_follow (of_values a_factor) =
    a_sign star ∷ a_sign slash ∷ a_sign plus_sign ∷ a_sign minus_sign ∷ a_sign right_parenthesis
    ∷ a_sign comma ∷ []
may_follow (of_nexts a_sum) = a_sign semicolon ∷ a_sign right_parenthesis ∷ []
may_follow (of_nexts a_factor) =
    a_sign star ∷ a_sign slash ∷ a_sign plus_sign ∷ a_sign minus_sign ∷ a_sign right_parenthesis
    ∷ a_sign semicolon ∷ []
may_follow a_value = a_sign comma ∷ a_sign right_parenthesis ∷ []
may_follow more_nexts = an_end ∷ []

abbrev pub seq_language : Language SeqRule Kind Lexeme SeqContext SeqValue Reason
seq_language = record {
  same = same;
  kind = kind_of;
  says = rule_says;
  begins = rule_begins;
  empty = may_be_none;
  follows = may_follow;
  sample = sample;
}
