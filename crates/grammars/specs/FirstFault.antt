-- The first fault of a list of tokens, over texts. T is the type of the texts, and `marks` gives the lexemes of each with the reasons for which they are at fault.
--   symbols_in ms        the symbols of marks
--   lexemes_of ts        the lexemes of tokens; bare_marks ms: marks of tokens as marks of lexemes
--   sounds ls            the marks of ls where none is at fault
--   Begins ls            some text begins with ls
--   BeginsSoundly ls     some text begins with ls, none of which is at fault there
--   IsAtFault ls l why   some text begins with ls, none of which is at fault there, and then l, which is at fault there for the reason why
--   CannotGoOn ls l      some text begins soundly with ls, and none begins with ls and l
--   IsFirstFault ts x why    x is the first token of ts that is at fault; why is none where it can't stand there
use Rattle.std.specs.Prelude.{◌≡◌, List, [], ◌∷◌, ◌++◌, map, Option, Some, None}
use Rattle.grammars.specs.Grammar.{Placed}
use Rattle.grammars.specs.Derivation.{Mark}

module _ {X R : Type 0} where
  abbrev pub symbols_in : List (Mark X R) → List X
  symbols_in ms = map (λ (m : Mark X R). m.symbol) ms

  abbrev pub sound : X → Mark X R
  sound x = record { symbol = x; fault = None }

  abbrev pub sounds : List X → List (Mark X R)
  sounds xs = map sound xs

module _ {Y : Type 0} where
  abbrev pub lexemes_of : List (Placed Y) → List Y
  lexemes_of ts = map (λ (t : Placed Y). t.lexeme) ts

module _ {Y R : Type 0} where
  abbrev pub bare : Mark (Placed Y) R → Mark Y R
  bare m = record { symbol = m.symbol.lexeme; fault = m.fault }

  abbrev pub bare_marks : List (Mark (Placed Y) R) → List (Mark Y R)
  bare_marks ms = map bare ms

module _ {T X R : Type 0} (marks : T → List (Mark X R)) where
  pub record Begins (ls : List X) : Type 0 where
    pub text : T
    pub rest : List X
    pub written : symbols_in (marks text) ≡ ls ++ rest

  pub record BeginsSoundly (ls : List X) : Type 0 where
    pub text : T
    pub rest : List (Mark X R)
    pub marked : marks text ≡ sounds ls ++ rest

  pub record IsAtFault (ls : List X) (l : X) (why : R) : Type 0 where
    pub text : T
    pub rest : List (Mark X R)
    pub marked : marks text ≡ sounds ls ++ record { symbol = l; fault = Some why } ∷ rest

  pub record CannotGoOn (ls : List X) (l : X) : Type 0 where
    pub before : BeginsSoundly ls
    pub none : Begins (ls ++ l ∷ []) → ⊥

  abbrev pub IsCause : List X → X → Option R → Type 0
  IsCause ls l None = CannotGoOn ls l
  IsCause ls l (Some why) = IsAtFault ls l why

  pub record IsFirstFault (ts : List (Placed X)) (x : Placed X) (why : Option R) : Type 0 where
    pub before : List (Placed X)
    pub after : List (Placed X)
    pub tokens : ts ≡ before ++ x ∷ after
    pub cause : IsCause (lexemes_of before) x.lexeme why
