-- A text by other kinds of lexemes: where they are those of the language at its tokens, it is a text of the language.
--   with_kinds         the language with these kinds
--   AreKinds ms        they are the language's at the symbols of these marks
--   by_kinds           so it is a text of the language
use Rattle.std.proofs.Common.{◌≡◌, List, [], ◌∷◌, subst, true}
use Rattle.grammars.specs.Kinds.{has}
use Rattle.grammars.specs.Grammar.{Placed, State, Grammar, Language}
use Rattle.grammars.specs.Derivation.{Mark, Derives, derives_nothing, derives_token, derives_change, derives_sequence, derives_left, derives_right, derives_none, derives_more, derives_rule}

module _ {N K Y C V R : Type 0} (L : Language N K Y C V R) (kind : Y → K) where
  abbrev pub with_kinds : Language N K Y C V R
  with_kinds = record {
    same = L.same;
    kind = kind;
    says = L.says;
    begins = L.begins;
    empty = L.empty;
    follows = L.follows;
    sample = L.sample;
  }

  abbrev pub AreKinds : List (Mark (Placed Y) R) → Type 0
  AreKinds [] = Unit {0}
  AreKinds (m ∷ ms) = (kind m.symbol.lexeme ≡ L.kind m.symbol.lexeme) × AreKinds ms

  pub by_kinds : {gs : List (Grammar N K Y C V R)} {s t : State C V} {ms : List (Mark (Placed Y) R)}
      → Derives with_kinds gs s ms t → AreKinds ms → Derives L gs s ms t
  by_kinds derives_nothing are = derives_nothing
  by_kinds (derives_token {ks = ks} h w) are =
      derives_token (subst (λ k. has L.same ks k ≡ true) are.0 h) (by_kinds w are.1)
  by_kinds (derives_change w) are = derives_change (by_kinds w are)
  by_kinds (derives_sequence w) are = derives_sequence (by_kinds w are)
  by_kinds (derives_left w) are = derives_left (by_kinds w are)
  by_kinds (derives_right w) are = derives_right (by_kinds w are)
  by_kinds (derives_none w) are = derives_none (by_kinds w are)
  by_kinds (derives_more w) are = derives_more (by_kinds w are)
  by_kinds (derives_rule w) are = derives_rule (by_kinds w are)
