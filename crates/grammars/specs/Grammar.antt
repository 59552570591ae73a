-- Grammars as data. N names the rules, Y is the type of lexemes, K of their kinds, R of reasons for which a lexeme is at fault.
-- What was read so far is a context, of the type C, and a value, of the type V. Rules and faults depend on the context alone; the value is what
-- was built, and it alone may depend on the offsets of tokens.
--   Placed               a token: a lexeme and its offset
--   State                a context and a value
--   token ks fault next build    a token of one of the kinds ks: it may be at fault in the context, and it leads to the next context and value
--   change next build    no token: the context and the value change
--   sequence g h         g, then h
--   either g h           g or h
--   many g               g any number of times, up to none
--   rule n               what the rule n says in the context that is there
--   after_token, after_change    the state behind a token and behind a change
--   Language             the test whether kinds are the same, the kinds of lexemes, and what the rules say; of each rule the kinds that may begin it, whether it may be empty, and the
--                        kinds that may follow it; and a lexeme of each kind
--   optional, some, separated, plain    g or nothing; g once or more; the same with something between two; a token that is never at fault and changes nothing
use Rattle.std.specs.Prelude.{ℕ, Bool, List, Option, None}

pub record Placed (Y : Type 0) : Type 0 where
  pub at : ℕ
  pub lexeme : Y

pub record State (C V : Type 0) : Type 0 where
  pub context : C
  pub value : V

pub data Grammar (N K Y C V R : Type 0) : Type 0 where
  token : List K → (C → Y → Option R) → (C → Y → C) → (C → Placed Y → V → V) → Grammar N K Y C V R
  change : (C → C) → (C → V → V) → Grammar N K Y C V R
  sequence either : Grammar N K Y C V R → Grammar N K Y C V R → Grammar N K Y C V R
  many : Grammar N K Y C V R → Grammar N K Y C V R
  rule : N → Grammar N K Y C V R

pub record Language (N K Y C V R : Type 0) : Type 0 where
  pub same : K → K → Bool
  pub kind : Y → K
  pub says : N → C → Grammar N K Y C V R
  pub begins : N → List K
  pub empty : N → Bool
  pub follows : N → List K
  pub sample : K → Y

module _ {Y C V : Type 0} where
  abbrev pub after_token : (C → Y → C) → (C → Placed Y → V → V) → State C V → Placed Y → State C V
  after_token next build s x = record {
    context = next s.context x.lexeme;
    value = build s.context x s.value;
  }

module _ {C V : Type 0} where
  abbrev pub after_change : (C → C) → (C → V → V) → State C V → State C V
  after_change next build s = record { context = next s.context; value = build s.context s.value }

module _ {N K Y C V R : Type 0} where
  abbrev pub optional : Grammar N K Y C V R → Grammar N K Y C V R
  optional g = either g (change (λ c. c) (λ c v. v))

  abbrev pub some : Grammar N K Y C V R → Grammar N K Y C V R
  some g = sequence g (many g)

  abbrev pub separated : Grammar N K Y C V R → Grammar N K Y C V R → Grammar N K Y C V R
  separated comma g = sequence g (many (sequence comma g))

  abbrev pub plain : List K → Grammar N K Y C V R
  plain ks = token ks (λ c y. None) (λ c y. c) (λ c x v. v)
