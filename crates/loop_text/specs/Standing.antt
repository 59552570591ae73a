-- Tokens that stand in a text outside of guards.
--   AreTokens text ts     the tokens ts are none, or those of the text from an offset on
use Rattle.std.specs.Prelude.{◌≡◌, ◌⊎◌, ℕ, ◌≤◌, List, [], length}
use Rattle.poly_text.specs.Lexemes.{Placed, tokens_from}

pub record StandFrom (text : List ℕ) (ts : List Placed) : Type 0 where
  pub from : ℕ
  pub within : from ≤ length text
  pub is : ts ≡ tokens_from text from

abbrev pub AreTokens : List ℕ → List Placed → Type 0
AreTokens text ts = (ts ≡ []) ⊎ StandFrom text ts
