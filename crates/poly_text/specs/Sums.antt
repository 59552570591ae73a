-- The grammar of sums and of equations, with what is at fault and what is built.
--   sum      = product { ("+" | "-") product }
--   product  = factor { "*" factor | "/" number }
--   factor   = atom [ "^" number ] | "-" factor
--   atom     = number | name | "(" sum ")"
--   equation = sum "=" sum
--   SumContext           the names; the variables that are refused, and why; those that stand in what was read, the last first; how many operators were read, and how
--                        many parentheses and leading minus signs are open
--   SumValue             the sums that were read and wait, and the offsets of the operators that wait, the last first
--   sign_of b, joint b   of + and of -, where b says whether it is the second
--   X_fault              why a lexeme is at fault, if it is; most_depth: how many parentheses and leading minus signs may be open
--   push e v, note at v  one sum, one operator more that waits; with_one f v: f of the last one at the last operator's offset; with_two f v: f of the last two
--   sum_language         what the rules say. What follows a / and isn't a number, though it could begin a factor, stands in these texts, always at fault
--   whole_sum, whole_equation     up to the end of the text; an equation is its left side minus its right side, by an operator at the offset of the =
--   start names refused  nothing was read
use Rattle.std.specs.Prelude.{ℕ, suc, ◌-◌, pos, Bool, true, false, nat_le, if◌then◌else◌, ◌==◌, List, [], ◌∷◌, Option, Some, None, unwrap_or}
use Rattle.std.specs.Option.{option_map_or}
use Rattle.loops.specs.Limits.{most_operators, most_exponent}
use Rattle.loops.specs.Program.{Expr, number, variable, neg, add, sub, mul, divide, power}
use Rattle.loop_model.specs.Ascii.{left_parenthesis, right_parenthesis, star, plus_sign, minus_sign, slash, equal_sign, caret}
use Rattle.loop_model.specs.Names.{place_of}
use Rattle.grammars.specs.Grammar.{Placed, State, Grammar, Language, token, change, sequence, either, many, rule, optional, plain}
use Rattle.poly_text.specs.Lexemes as lexemes
use Rattle.poly_text.specs.Lexemes.{Lexeme}
use Rattle.poly_text.specs.Kinds.{Kind, a_name, a_number, a_large, an_end, a_sign, same, kind_of, sample, word_in, number_in}
use Rattle.poly_text.specs.Reasons.{Reason, limit, wide, init_uses, divisor, unless, or_else}
use Rattle.poly_text.specs.NameFaults.{name_fault}

pub record SumContext : Type 0 where
  pub names : List (List ℕ)
  pub refused : List ℕ
  pub refusal : Reason
  pub used : List ℕ
  pub operators : ℕ
  pub depth : ℕ

pub record SumValue : Type 0 where
  pub values : List (Expr ℕ)
  pub places : List ℕ

abbrev pub SumState : Type 0
SumState = State SumContext SumValue

-- ---- what is at fault
-- how many parentheses and leading minus signs may be open
unfoldable pub most_depth : ℕ
most_depth = 64

abbrev pub operator_fault : SumContext → Option Reason
operator_fault c = unless (nat_le (suc c.operators) most_operators) limit

abbrev pub depth_fault : SumContext → Option Reason
depth_fault c = unless (nat_le (suc c.depth) most_depth) limit

abbrev pub word_fault : SumContext → List ℕ → Option Reason
word_fault c w = name_fault c.names c.refused c.refusal w

abbrev pub number_fault : Lexeme → Option Reason
number_fault x = option_map_or (λ n. None) (number_in x) (Some wide)

abbrev pub exponent_fault : Lexeme → Option Reason
exponent_fault x =
    option_map_or (λ n. unless (nat_le n most_exponent) limit) (number_in x) (Some limit)

abbrev pub minus_fault : SumContext → Option Reason
minus_fault c = or_else (depth_fault c) (operator_fault c)

-- what begins a factor in place of a divisor has the fault that it has there, or else is none
abbrev pub divisor_fault : SumContext → Lexeme → Option Reason
divisor_fault c (lexemes.name w) = or_else (word_fault c w) (Some divisor)
divisor_fault c (lexemes.number n) = unless (nat_le 1 n) divisor
divisor_fault c lexemes.large = Some wide
divisor_fault c (lexemes.sign b) =
    or_else (if b == minus_sign then minus_fault c else depth_fault c) (Some divisor)
divisor_fault c x = None

-- ---- what comes next
abbrev pub stays : SumContext → Lexeme → SumContext
stays c x = c

abbrev pub place : SumContext → List ℕ → ℕ
place c w = unwrap_or (place_of c.names w) 0

abbrev pub with_used : SumContext → ℕ → SumContext
with_used c i = record c { used = i ∷ c.used }

abbrev pub with_operator : SumContext → SumContext
with_operator c = record c { operators = suc c.operators }

abbrev pub deeper : SumContext → SumContext
deeper c = record c { depth = suc c.depth }

abbrev pub shallower : SumContext → SumContext
shallower c = record c { depth = c.depth - 1 }

-- ---- what is built
abbrev pub keeps : SumContext → Placed Lexeme → SumValue → SumValue
keeps c x v = v

abbrev pub push : Expr ℕ → SumValue → SumValue
push e v = record v { values = e ∷ v.values }

abbrev pub note : ℕ → SumValue → SumValue
note at v = record v { places = at ∷ v.places }

abbrev pub one_of : (ℕ → Expr ℕ → Expr ℕ) → SumValue → List (Expr ℕ) → List ℕ → SumValue
one_of f v [] ps = v
one_of f v (e ∷ es) [] = v
one_of f v (e ∷ es) (p ∷ ps) = record { values = f p e ∷ es; places = ps }

abbrev pub two_of : (ℕ → Expr ℕ → Expr ℕ → Expr ℕ) → SumValue → List (Expr ℕ) → List ℕ → SumValue
two_of f v [] ps = v
two_of f v (e ∷ []) ps = v
two_of f v (e ∷ d ∷ es) [] = v
two_of f v (e ∷ d ∷ es) (p ∷ ps) = record { values = f p d e ∷ es; places = ps }

abbrev pub with_one : (ℕ → Expr ℕ → Expr ℕ) → SumValue → SumValue
with_one f v = one_of f v v.values v.places

abbrev pub with_two : (ℕ → Expr ℕ → Expr ℕ → Expr ℕ) → SumValue → SumValue
with_two f v = two_of f v v.values v.places

abbrev pub number_of : Lexeme → ℕ
number_of x = unwrap_or (number_in x) 0

-- ---- the grammar
pub data SumRule : Type 0 where
  a_sum a_factor : SumRule

abbrev pub Rule : Type 0
Rule = Grammar SumRule Kind Lexeme SumContext SumValue Reason

abbrev pub number_token : Rule
number_token =
    token (a_number ∷ a_large ∷ []) (λ c x. number_fault x) stays
    (λ c x v. push (number (pos (number_of x.lexeme))) v)

abbrev pub name_token : Rule
name_token =
    token (a_name ∷ []) (λ c x. word_fault c (word_in x))
    (λ c x. with_used c (place c (word_in x)))
    (λ c x v. push (variable (place c (word_in x.lexeme))) v)

abbrev pub opening : Rule
opening = token (a_sign left_parenthesis ∷ []) (λ c x. depth_fault c) (λ c x. deeper c) keeps

abbrev pub closing : Rule
closing = token (a_sign right_parenthesis ∷ []) (λ c x. None) (λ c x. shallower c) keeps

abbrev pub parentheses : Rule
parentheses = sequence opening (sequence (rule a_sum) closing)

abbrev pub atom : Rule
atom = either number_token (either name_token parentheses)

abbrev pub operator : ℕ → Rule
operator b =
    token (a_sign b ∷ []) (λ c x. operator_fault c) (λ c x. with_operator c) (λ c x v. note x.at v)

abbrev pub exponent : Rule
exponent =
    token (a_number ∷ a_large ∷ []) (λ c x. exponent_fault x) stays
    (λ c x v. with_one (λ at e. power at e (number_of x.lexeme)) v)

abbrev pub raising : Rule
raising = optional (sequence (operator caret) exponent)

abbrev pub leading_minus : Rule
leading_minus =
    token (a_sign minus_sign ∷ []) (λ c x. minus_fault c) (λ c x. deeper (with_operator c))
    (λ c x v. note x.at v)

abbrev pub negation : Rule
negation = change shallower (λ c v. with_one neg v)

abbrev pub opposite : Rule
opposite = sequence leading_minus (sequence (rule a_factor) negation)

abbrev pub factor : Rule
factor = either (sequence atom raising) opposite

abbrev pub combine : (ℕ → Expr ℕ → Expr ℕ → Expr ℕ) → Rule
combine f = change (λ c. c) (λ c v. with_two f v)

abbrev pub times : Rule
times = sequence (operator star) (sequence (rule a_factor) (combine mul))

abbrev pub divisor_token : Rule
divisor_token =
    token (a_number ∷ a_large ∷ a_name ∷ a_sign minus_sign ∷ a_sign left_parenthesis ∷ [])
    divisor_fault stays
    (λ c x v. with_one (λ at e. divide at e (pos (number_of x.lexeme))) v)

abbrev pub over : Rule
over = sequence (operator slash) divisor_token

abbrev pub next_factor : Rule
next_factor = either times over

abbrev pub product : Rule
product = sequence factor (many next_factor)

abbrev pub joint : Bool → ℕ → Expr ℕ → Expr ℕ → Expr ℕ
joint false = add
joint true = sub

-- a + or a -
abbrev pub sign_of : Bool → ℕ
sign_of negative = if negative then minus_sign else plus_sign

abbrev pub joins : Bool → Rule
joins negative =
    sequence (operator (sign_of negative)) (sequence product (combine (joint negative)))

abbrev pub next_product : Rule
next_product = either (joins false) (joins true)

abbrev pub sum : Rule
sum = sequence product (many next_product)

abbrev pub rule_says : SumRule → SumContext → Rule
rule_says a_sum c = sum
rule_says a_factor c = factor

abbrev pub begins_sum : List Kind
begins_sum = a_number ∷ a_large ∷ a_name ∷ a_sign left_parenthesis ∷ a_sign minus_sign ∷ []

abbrev pub may_follow : SumRule → List Kind
may_follow a_sum = a_sign right_parenthesis ∷ a_sign equal_sign ∷ an_end ∷ []
may_follow a_factor =
    a_sign star ∷ a_sign slash ∷ a_sign plus_sign ∷ a_sign minus_sign ∷ a_sign right_parenthesis
    ∷ a_sign equal_sign ∷ an_end ∷ []

abbrev pub sum_language : Language SumRule Kind Lexeme SumContext SumValue Reason
sum_language = record {
  same = same;
  kind = kind_of;
  says = rule_says;
  begins = λ n. begins_sum;
  empty = λ n. false;
  follows = may_follow;
  sample = sample;
}

-- ---- whole texts. Each side of an equation has its own count of operators
abbrev pub the_end : Rule
the_end = plain (an_end ∷ [])

abbrev pub equals : Rule
equals =
    token (a_sign equal_sign ∷ []) (λ c x. None) (λ c x. record c { operators = 0 })
    (λ c x v. note x.at v)

abbrev pub equation : Rule
equation = sequence (rule a_sum) (sequence equals (sequence (rule a_sum) (combine sub)))

abbrev pub whole_sum : List Rule
whole_sum = rule a_sum ∷ the_end ∷ []

abbrev pub whole_equation : List Rule
whole_equation = equation ∷ the_end ∷ []

abbrev pub start : List (List ℕ) → List ℕ → SumState
start names refused = record {
  context = record {
    names = names;
    refused = refused;
    refusal = init_uses;
    used = [];
    operators = 0;
    depth = 0;
  };
  value = record { values = []; places = [] };
}
