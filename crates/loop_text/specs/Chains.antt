-- The grammar of chains. The language of loops is embedded.
--   chain = loop { "then" [ code ] branch { branch } }
--   code  = "do" "{" { statement } "}"
-- `then` is a name like others: only behind the } of a branch, where no other name can stand, does it begin a loop. So is `do`: only behind such a `then` does it
-- begin code.
--   ChainContext      that of the loop that is read, and how many loops began; the statements are counted over all loops, the branches of each
--   Earlier           the stages before, and the code of the one that is read
--   ChainValue        these, and what is built of the loop that is read
--   loop_limit n      why a loop behind n others is at fault, if it is
--   then_fault        why a name behind a branch is at fault, if it is;  do_fault: a name behind `then`
--   taken_code        code, which is read as a branch of the loop that isn't begun, is taken out of it
--   chain_language    what the rules say: those of loops
--   whole_chain       a chain up to the end of the text; chain_nothing: nothing was read
use Rattle.std.specs.Prelude.{ℕ, suc, nat_le, if◌then◌else◌, List, [], ◌∷◌, ◌++◌, get_or, Option, Some, codes}
use Rattle.std.specs.Str.{bytes_eq}
use Rattle.loops.specs.Program.{Expr, Statement}
use Rattle.grammars.specs.Grammar.{State, Grammar, Language, token, change, sequence, many, optional, some, plain}
use Rattle.grammars.specs.Embedded.{Embedding, lift}
use Rattle.poly_text.specs.Lexemes.{Lexeme}
use Rattle.poly_text.specs.Kinds.{Kind, a_name, an_end, same, kind_of, sample, word_in}
use Rattle.poly_text.specs.Reasons.{Reason, syntax, limit, unless}
use Rattle.loop_text.specs.Loops as loops
use Rattle.loop_text.specs.Loops.{LoopContext, LoopValue, LoopRule, nothing, begin_branch, loop, branch, block}
use Rattle.loop_runs.specs.Limits.{most_loops}
use Rattle.loops.specs.Chain.{Stage}

pub record ChainContext : Type 0 where
  pub loop : LoopContext
  pub loops : ℕ

pub record Earlier : Type 0 where
  pub stages : List (Stage (Expr ℕ))
  pub code : List (Statement (Expr ℕ))

pub record ChainValue : Type 0 where
  pub before : Earlier
  pub loop : LoopValue

abbrev pub ChainState : Type 0
ChainState = State ChainContext ChainValue

abbrev pub none_before : Earlier
none_before = record { stages = []; code = [] }

abbrev pub chain_nothing : ChainState
chain_nothing = record {
  context = record { loop = nothing.context; loops = 1 };
  value = record { before = none_before; loop = nothing.value };
}

-- ---- what is at fault, what comes next, and what is built
abbrev pub loop_limit : ℕ → Option Reason
loop_limit n = unless (nat_le (suc n) most_loops) limit

abbrev pub then_fault : ChainContext → List ℕ → Option Reason
then_fault c w = if bytes_eq w (codes "then") then loop_limit c.loops else Some syntax

abbrev pub do_fault : List ℕ → Option Reason
do_fault w = unless (bytes_eq w (codes "do")) syntax

abbrev pub begin_loop : ChainContext → ChainContext
begin_loop c = record { loop = record c.loop { branches = 0 }; loops = suc c.loops }

-- code is read as a branch, which doesn't count
abbrev pub begin_code : ChainContext → ChainContext
begin_code c = record c { loop = begin_branch c.loop }

abbrev pub end_code : ChainContext → ChainContext
end_code c = record c { loop = record c.loop { branches = 0 } }

-- a stage more, behind those before
abbrev pub with_stage : Earlier → List (List (Statement (Expr ℕ))) → Earlier
with_stage e bs = record {
  stages = e.stages ++ record { code = e.code; branches = bs } ∷ [];
  code = [];
}

abbrev pub with_loop : ChainValue → ChainValue
with_loop v =
    record { before = with_stage v.before v.loop.branches; loop = record v.loop { branches = [] } }

abbrev pub with_code : Earlier → List (Statement (Expr ℕ)) → Earlier
with_code e ss = record e { code = ss }

abbrev pub taken_code : ChainValue → ChainValue
taken_code v = record {
  before = with_code v.before (get_or v.loop.branches 0 []);
  loop = record v.loop { branches = [] };
}

-- ---- the grammar
abbrev pub Rule : Type 0
Rule = Grammar LoopRule Kind Lexeme ChainContext ChainValue Reason

abbrev pub loops_in_chains : Embedding LoopRule LoopRule ChainContext LoopContext ChainValue
    LoopValue
loops_in_chains = record {
  rule_of = λ n. n;
  get_context = λ c. c.loop;
  put_context = λ d c. record c { loop = d };
  get_value = λ v. v.loop;
  put_value = λ w v. record v { loop = w };
}

abbrev pub the_loop : Rule
the_loop = lift loops_in_chains loop

abbrev pub the_branches : Rule
the_branches = lift loops_in_chains (some branch)

abbrev pub then_token : Rule
then_token =
    token (a_name ∷ []) (λ c x. then_fault c (word_in x)) (λ c x. begin_loop c) (λ c x v.
    with_loop v)

abbrev pub do_token : Rule
do_token =
    token (a_name ∷ []) (λ c x. do_fault (word_in x)) (λ c x. begin_code c) (λ c x v. v)

abbrev pub code_end : Rule
code_end = change end_code (λ c v. taken_code v)

abbrev pub code : Rule
code = sequence do_token (sequence (lift loops_in_chains block) code_end)

abbrev pub stage : Rule
stage = sequence (optional code) the_branches

abbrev pub further : Rule
further = sequence then_token stage

abbrev pub chain : Rule
chain = sequence the_loop (many further)

abbrev pub chain_end : Rule
chain_end = plain (an_end ∷ [])

abbrev pub whole_chain : List Rule
whole_chain = chain ∷ chain_end ∷ []

-- ---- the language
abbrev pub chain_language : Language LoopRule Kind Lexeme ChainContext ChainValue Reason
chain_language = record {
  same = same;
  kind = kind_of;
  says = λ n c. lift loops_in_chains (loops.rule_says n c.loop);
  begins = loops.rule_begins;
  empty = loops.may_be_none;
  follows = loops.may_follow;
  sample = sample;
}
