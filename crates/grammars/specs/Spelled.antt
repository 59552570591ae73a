-- The texts that something spells, as bytes do: `tokens` gives what each spells.
--   IsRead gs s ts t     the tokens ts are a text of gs, none of them at fault, that leads from the state s to t
--   SpelledText          a text whose tokens are spelled
--   AreSpelled           each text is, but for the offsets of its tokens, one that is spelled
use Rattle.std.specs.Prelude.{◌≡◌, List}
use Rattle.grammars.specs.Grammar.{Placed, State, Grammar, Language}
use Rattle.grammars.specs.Derivation.{Mark, Derives, Text}
use Rattle.grammars.specs.FirstFault.{symbols_in, sounds, lexemes_of, bare_marks}

module _ {N K Y C V R : Type 0} (L : Language N K Y C V R) (gs : List (Grammar N K Y C V R))
    (s : State C V) where
  abbrev pub IsRead : List (Placed Y) → State C V → Type 0
  IsRead ts t = Derives L gs s (sounds ts) t

  module _ {B : Type 0} (tokens : B → List (Placed Y)) where
    pub record SpelledText : Type 0 where
      pub text : Text L gs s
      pub by : B
      pub spelled : symbols_in text.marks ≡ tokens by

    abbrev pub spelled_marks : SpelledText → List (Mark Y R)
    spelled_marks t = bare_marks t.text.marks

    abbrev pub AreSpelled : Type 0
    AreSpelled = (text : Text L gs s) → (b : B)
        × (lexemes_of (tokens b) ≡ lexemes_of (symbols_in text.marks))
