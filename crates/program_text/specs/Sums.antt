-- The grammar of sums and of comparisons, with what is at fault and what is built.
--   sum      = product { ("+" | "-") product }
--   product  = factor { "*" factor | "/" number | "/" factor }
--   factor   = atom [ "^" number ] | "-" factor
--   atom     = number | name | "(" sum ")"
--   comparison = sum ( "=" | "==" | "!=" ) sum
--   SumContext           the names; whether a / may have any factor behind it; how many operators were read, and how many parentheses and leading minus signs are open
--   SumValue             the sums that were read and wait, the offsets of the operators that wait, and of the comparisons that wait whether their sign says that both sides are
--                        equal, the last first; and the divisors that are no numbers, in the order in which they were read to their ends
--   sign_of b, joint b   of + and of -, where b says whether it is the second
--   X_fault              why a lexeme is at fault, if it is; most_depth: how many parentheses and leading minus signs may be open
--   push e v, note at v  one sum, one operator more that waits; with_one f v: f of the last one at the last operator's offset; with_two f v: f of the last two
--   divided names v      the last but one of the sums that wait over the last one, which becomes a divisor: times the variable that stands for one over it, behind the names
--   divisor_by free      what may stand behind a /. Where only numbers may, what could begin a factor stands in these texts all the same, always at fault
--   sum_language         what the rules say
--   comparison ks        with one of these signs; comparison_in v: what was read
--   whole_comparison     one up to the end of the text
--   start names          nothing was read
use Rattle.std.specs.Prelude.{ℕ, suc, ◌-◌, pos, Bool, true, false, not, nat_le, if◌then◌else◌, ◌==◌, List, [], ◌∷◌, ◌+◌, ◌++◌, length, Option, Some, None, unwrap_or, drop}
use Rattle.std.specs.Option.{option_map_or}
use Rattle.loops.specs.Limits.{most_operators, most_exponent}
use Rattle.loops.specs.Program.{Expr, number, variable, neg, add, sub, mul, divide, power}
use Rattle.loop_model.specs.Ascii.{left_parenthesis, right_parenthesis, star, plus_sign, minus_sign, slash, equal_sign, caret}
use Rattle.loop_model.specs.Names.{place_of}
use Rattle.grammars.specs.Grammar.{Placed, State, Grammar, Language, token, change, sequence, either, many, rule, optional, plain}
use Rattle.program_text.specs.Lexemes as lexemes
use Rattle.program_text.specs.Lexemes.{Lexeme}
use Rattle.program_text.specs.Kinds.{Kind, a_name, a_number, a_large, an_end, a_sign, a_double, same, kind_of, sample, word_in, number_in}
use Rattle.poly_text.specs.Reasons.{Reason, limit, wide, divisor, unless, or_else}
use Rattle.program_text.specs.Doubles.{equal, differs}
use Rattle.program_model.specs.Program.{Comparison, Divisor}
use Rattle.program_text.specs.NameFaults.{name_fault}

pub record SumContext : Type 0 where
  pub names : List (List ℕ)
  pub free : Bool
  pub operators : ℕ
  pub depth : ℕ

pub record SumValue : Type 0 where
  pub values : List (Expr ℕ)
  pub places : List ℕ
  pub signs : List Bool
  pub divisors : List (Divisor (Expr ℕ))

abbrev pub SumState : Type 0
SumState = State SumContext SumValue

-- ---- what is at fault
-- how many parentheses and leading minus signs may be open
unfoldable pub most_depth : ℕ
most_depth = 64

abbrev pub operator_fault : SumContext → Option Reason
operator_fault c = unless (nat_le (suc c.operators) most_operators) limit

abbrev pub depth_fault : SumContext → Option Reason
depth_fault c = unless (nat_le (suc c.depth) most_depth) limit

abbrev pub word_fault : SumContext → List ℕ → Option Reason
word_fault c w = name_fault c.names w

abbrev pub number_fault : Lexeme → Option Reason
number_fault x = option_map_or (λ n. None) (number_in x) (Some wide)

abbrev pub exponent_fault : Lexeme → Option Reason
exponent_fault x =
    option_map_or (λ n. unless (nat_le n most_exponent) limit) (number_in x) (Some limit)

abbrev pub minus_fault : SumContext → Option Reason
minus_fault c = or_else (depth_fault c) (operator_fault c)

-- what begins a factor in place of a divisor has the fault that it has there, or else is none
abbrev pub divisor_fault : SumContext → Lexeme → Option Reason
divisor_fault c (lexemes.name w) = or_else (word_fault c w) (Some divisor)
divisor_fault c (lexemes.number n) = unless (nat_le 1 n) divisor
divisor_fault c lexemes.large = Some wide
divisor_fault c (lexemes.sign b) =
    or_else (if b == minus_sign then minus_fault c else depth_fault c) (Some divisor)
divisor_fault c x = None

-- ---- what comes next
abbrev pub stays : SumContext → Lexeme → SumContext
stays c x = c

abbrev pub place : SumContext → List ℕ → ℕ
place c w = unwrap_or (place_of c.names w) 0

abbrev pub with_operator : SumContext → SumContext
with_operator c = record c { operators = suc c.operators }

abbrev pub deeper : SumContext → SumContext
deeper c = record c { depth = suc c.depth }

abbrev pub shallower : SumContext → SumContext
shallower c = record c { depth = c.depth - 1 }

-- ---- what is built
abbrev pub keeps : SumContext → Placed Lexeme → SumValue → SumValue
keeps c x v = v

abbrev pub push : Expr ℕ → SumValue → SumValue
push e v = record v { values = e ∷ v.values }

abbrev pub note : ℕ → SumValue → SumValue
note at v = record v { places = at ∷ v.places }

abbrev pub one_of : (ℕ → Expr ℕ → Expr ℕ) → SumValue → List (Expr ℕ) → List ℕ → SumValue
one_of f v [] ps = v
one_of f v (e ∷ es) [] = v
one_of f v (e ∷ es) (p ∷ ps) = record v { values = f p e ∷ es; places = ps }

abbrev pub two_of : (ℕ → Expr ℕ → Expr ℕ → Expr ℕ) → SumValue → List (Expr ℕ) → List ℕ → SumValue
two_of f v [] ps = v
two_of f v (e ∷ []) ps = v
two_of f v (e ∷ d ∷ es) [] = v
two_of f v (e ∷ d ∷ es) (p ∷ ps) = record v { values = f p d e ∷ es; places = ps }

abbrev pub divided_of : List (List ℕ) → SumValue → List (Expr ℕ) → List ℕ → SumValue
divided_of names v [] ps = v
divided_of names v (e ∷ []) ps = v
divided_of names v (e ∷ d ∷ es) [] = v
divided_of names v (e ∷ d ∷ es) (p ∷ ps) =
    record v {
      values = mul p d (variable (length names + length v.divisors)) ∷ es;
      places = ps;
      divisors = v.divisors ++ record { at = p; value = e } ∷ [];
    }

abbrev pub with_one : (ℕ → Expr ℕ → Expr ℕ) → SumValue → SumValue
with_one f v = one_of f v v.values v.places

abbrev pub with_two : (ℕ → Expr ℕ → Expr ℕ → Expr ℕ) → SumValue → SumValue
with_two f v = two_of f v v.values v.places

abbrev pub divided : List (List ℕ) → SumValue → SumValue
divided names v = divided_of names v v.values v.places

abbrev pub number_of : Lexeme → ℕ
number_of x = unwrap_or (number_in x) 0

-- ---- the grammar
pub data SumRule : Type 0 where
  a_sum a_factor a_divisor : SumRule

abbrev pub Rule : Type 0
Rule = Grammar SumRule Kind Lexeme SumContext SumValue Reason

abbrev pub number_token : Rule
number_token =
    token (a_number ∷ a_large ∷ []) (λ c x. number_fault x) stays
    (λ c x v. push (number (pos (number_of x.lexeme))) v)

abbrev pub name_token : Rule
name_token =
    token (a_name ∷ []) (λ c x. word_fault c (word_in x)) stays
    (λ c x v. push (variable (place c (word_in x.lexeme))) v)

abbrev pub opening : Rule
opening = token (a_sign left_parenthesis ∷ []) (λ c x. depth_fault c) (λ c x. deeper c) keeps

abbrev pub closing : Rule
closing = token (a_sign right_parenthesis ∷ []) (λ c x. None) (λ c x. shallower c) keeps

abbrev pub parentheses : Rule
parentheses = sequence opening (sequence (rule a_sum) closing)

abbrev pub atom : Rule
atom = either number_token (either name_token parentheses)

abbrev pub operator : ℕ → Rule
operator b =
    token (a_sign b ∷ []) (λ c x. operator_fault c) (λ c x. with_operator c) (λ c x v. note x.at v)

abbrev pub exponent : Rule
exponent =
    token (a_number ∷ a_large ∷ []) (λ c x. exponent_fault x) stays
    (λ c x v. with_one (λ at e. power at e (number_of x.lexeme)) v)

abbrev pub raising : Rule
raising = optional (sequence (operator caret) exponent)

abbrev pub leading_minus : Rule
leading_minus =
    token (a_sign minus_sign ∷ []) (λ c x. minus_fault c) (λ c x. deeper (with_operator c))
    (λ c x v. note x.at v)

abbrev pub negation : Rule
negation = change shallower (λ c v. with_one neg v)

abbrev pub opposite : Rule
opposite = sequence leading_minus (sequence (rule a_factor) negation)

abbrev pub factor : Rule
factor = either (sequence atom raising) opposite

abbrev pub combine : (ℕ → Expr ℕ → Expr ℕ → Expr ℕ) → Rule
combine f = change (λ c. c) (λ c v. with_two f v)

abbrev pub times : Rule
times = sequence (operator star) (sequence (rule a_factor) (combine mul))

abbrev pub divisor_token : Rule
divisor_token =
    token (a_number ∷ a_large ∷ a_name ∷ a_sign minus_sign ∷ a_sign left_parenthesis ∷ [])
    divisor_fault stays
    (λ c x v. with_one (λ at e. divide at e (pos (number_of x.lexeme))) v)

abbrev pub number_divisor : Rule
number_divisor =
    token (a_number ∷ a_large ∷ []) divisor_fault stays
    (λ c x v. with_one (λ at e. divide at e (pos (number_of x.lexeme))) v)

-- a factor that begins with no number
abbrev pub no_number : Rule
no_number = either (sequence (either name_token parentheses) raising) opposite

abbrev pub factor_divisor : Rule
factor_divisor = sequence no_number (change (λ c. c) (λ c v. divided c.names v))

abbrev pub divisor_by : Bool → Rule
divisor_by false = divisor_token
divisor_by true = either number_divisor factor_divisor

abbrev pub over : Rule
over = sequence (operator slash) (rule a_divisor)

abbrev pub next_factor : Rule
next_factor = either times over

abbrev pub product : Rule
product = sequence factor (many next_factor)

abbrev pub joint : Bool → ℕ → Expr ℕ → Expr ℕ → Expr ℕ
joint false = add
joint true = sub

-- a + or a -
abbrev pub sign_of : Bool → ℕ
sign_of negative = if negative then minus_sign else plus_sign

abbrev pub joins : Bool → Rule
joins negative =
    sequence (operator (sign_of negative)) (sequence product (combine (joint negative)))

abbrev pub next_product : Rule
next_product = either (joins false) (joins true)

abbrev pub sum : Rule
sum = sequence product (many next_product)

abbrev pub rule_says : SumRule → SumContext → Rule
rule_says a_sum c = sum
rule_says a_factor c = factor
rule_says a_divisor c = divisor_by c.free

abbrev pub begins_sum : List Kind
begins_sum = a_number ∷ a_large ∷ a_name ∷ a_sign left_parenthesis ∷ a_sign minus_sign ∷ []

abbrev pub behind_sum : List Kind
behind_sum =
    a_sign right_parenthesis ∷ a_sign equal_sign ∷ a_double equal ∷ a_double differs ∷ an_end ∷ []

abbrev pub behind_factor : List Kind
behind_factor = a_sign star ∷ a_sign slash ∷ a_sign plus_sign ∷ a_sign minus_sign ∷ behind_sum

abbrev pub may_follow : SumRule → List Kind
may_follow a_sum = behind_sum
may_follow a_factor = behind_factor
may_follow a_divisor = behind_factor

abbrev pub sum_language : Language SumRule Kind Lexeme SumContext SumValue Reason
sum_language = record {
  same = same;
  kind = kind_of;
  says = rule_says;
  begins = λ n. begins_sum;
  empty = λ n. false;
  follows = may_follow;
  sample = sample;
}

-- ---- comparisons. Each side has its own count of operators
abbrev pub the_end : Rule
the_end = plain (an_end ∷ [])

abbrev pub is_differs : Lexeme → Bool
is_differs (lexemes.double differs) = true
is_differs x = false

abbrev pub compares : List Kind → Rule
compares ks =
    token ks (λ c x. None) (λ c x. record c { operators = 0 })
    (λ c x v. record (note x.at v) { signs = not (is_differs x.lexeme) ∷ v.signs; divisors = [] })

abbrev pub side_end : Rule
side_end = change (λ c. record c { operators = 0 }) (λ c v. record v { divisors = [] })

abbrev pub equal_signs : List Kind
equal_signs = a_sign equal_sign ∷ a_double equal ∷ []

abbrev pub all_signs : List Kind
all_signs = a_sign equal_sign ∷ a_double equal ∷ a_double differs ∷ []

abbrev pub comparison : List Kind → Rule
comparison ks = sequence (rule a_sum) (sequence (compares ks) (sequence (rule a_sum) side_end))

abbrev pub whole_comparison : List Rule
whole_comparison = comparison all_signs ∷ the_end ∷ []

-- the last one that waits below k others, or d
abbrev pub first_or : {A : Type 0} → A → List A → A
first_or d [] = d
first_or d (x ∷ xs) = x

abbrev pub nth : {A : Type 0} → A → ℕ → List A → A
nth d k xs = first_or d (drop k xs)

abbrev pub comparison_in : SumValue → Comparison (Expr ℕ)
comparison_in v = record {
  at = nth 0 0 v.places;
  equal = nth true 0 v.signs;
  left = nth (number (pos 0)) 1 v.values;
  right = nth (number (pos 0)) 0 v.values;
}

abbrev pub no_value : SumValue
no_value = record { values = []; places = []; signs = []; divisors = [] }

abbrev pub start : List (List ℕ) → SumState
start names = record {
  context = record { names = names; free = false; operators = 0; depth = 0 };
  value = no_value;
}
