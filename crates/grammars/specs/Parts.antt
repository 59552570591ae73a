-- Texts in front of other tokens. `tokens` gives what spells them.
--   BeginsExactly        each kind that is to begin a rule begins what it says, and what is to be empty may be
--   IsReadBefore ts t x after     the tokens of ts before x and after are a text, none at fault, that leads to t, and x continues them to none
--   IsPartFault ts x why     x is the first token at fault; where it can't stand there, those before it are no text: else that would have been read
use Rattle.std.specs.Prelude.{◌≡◌, true, List, ◌∷◌, ◌++◌, Option, None}
use Rattle.grammars.specs.Kinds.{within}
use Rattle.grammars.specs.Grammar.{Placed, State, Grammar, Language}
use Rattle.grammars.specs.First.{may_be_empty, first}
use Rattle.grammars.specs.FirstFault.{lexemes_of, CannotGoOn, IsFirstFault}
use Rattle.grammars.specs.Spelled.{IsRead, spelled_marks}

module _ {N K Y C V R : Type 0} (L : Language N K Y C V R) where
  pub record BeginsExactly : Type 0 where
    pub begins : (n : N) (c : C) → within L.same (L.begins n) (first L (L.says n c)) ≡ true
    pub empty : (n : N) (c : C) → L.empty n ≡ true → may_be_empty L (L.says n c) ≡ true

  module _ (gs : List (Grammar N K Y C V R)) (s : State C V) {B : Type 0} (tokens : B
      → List (Placed Y)) where
    pub record IsReadBefore (ts : List (Placed Y)) (t : State C V) (x : Placed Y)
        (after : List (Placed Y)) : Type 0 where
      pub before : List (Placed Y)
      pub parts : ts ≡ before ++ x ∷ after
      pub text : IsRead L gs s before t
      pub ends : CannotGoOn (spelled_marks L gs s tokens) (lexemes_of before) x.lexeme

    pub record IsPartFault (ts : List (Placed Y)) (x : Placed Y) (why : Option R) : Type 0 where
      pub first : IsFirstFault (spelled_marks L gs s tokens) ts x why
      pub no_text : why ≡ None → (t : State C V) → IsRead L gs s first.before t → ⊥
