-- The texts of grammars, by their leftmost derivations. This knows nothing of readers.
--   Mark                 a symbol of a text, and the reason for which it is at fault, if it is
--   Derives gs s ms t    from the state s the grammars gs, one behind the other, give the marks ms, which lead to the state t
--   Text gs s            a text: its marks, the state that it leads to, and its derivation
use Rattle.std.specs.Prelude.{◌≡◌, true, List, [], ◌∷◌, Option}
use Rattle.grammars.specs.Kinds.{has}
use Rattle.grammars.specs.Grammar.{Placed, State, Grammar, token, change, sequence, either, many, rule, Language, after_token, after_change}

pub record Mark (X R : Type 0) : Type 0 where
  pub symbol : X
  pub fault : Option R

module _ {N K Y C V R : Type 0} (L : Language N K Y C V R) where
  pub data Derives : List (Grammar N K Y C V R) → State C V → List (Mark (Placed Y) R) → State C V
      → Type 0 where
    derives_nothing : {s : State C V} → Derives [] s [] s
    derives_token : {ks : List K} {fault : C → Y → Option R} {next : C → Y → C} {build : C
        → Placed Y → V → V}
        {gs : List (Grammar N K Y C V R)} {s t : State C V} {x : Placed Y}
        {ms : List (Mark (Placed Y) R)}
        → has L.same ks (L.kind x.lexeme) ≡ true → Derives gs (after_token next build s x) ms t
        → Derives (token ks fault next build ∷ gs) s (record {
          symbol = x;
          fault = fault s.context x.lexeme;
        } ∷ ms) t
    derives_change : {next : C → C} {build : C → V → V} {gs : List (Grammar N K Y C V R)}
        {s t : State C V} {ms : List (Mark (Placed Y) R)}
        → Derives gs (after_change next build s) ms t → Derives (change next build ∷ gs) s ms t
    derives_sequence : {g h : Grammar N K Y C V R} {gs : List (Grammar N K Y C V R)}
        {s t : State C V} {ms : List (Mark (Placed Y) R)}
        → Derives (g ∷ h ∷ gs) s ms t → Derives (sequence g h ∷ gs) s ms t
    derives_left : {g h : Grammar N K Y C V R} {gs : List (Grammar N K Y C V R)} {s t : State C V}
        {ms : List (Mark (Placed Y) R)}
        → Derives (g ∷ gs) s ms t → Derives (either g h ∷ gs) s ms t
    derives_right : {g h : Grammar N K Y C V R} {gs : List (Grammar N K Y C V R)} {s t : State C V}
        {ms : List (Mark (Placed Y) R)}
        → Derives (h ∷ gs) s ms t → Derives (either g h ∷ gs) s ms t
    derives_none : {g : Grammar N K Y C V R} {gs : List (Grammar N K Y C V R)} {s t : State C V}
        {ms : List (Mark (Placed Y) R)}
        → Derives gs s ms t → Derives (many g ∷ gs) s ms t
    derives_more : {g : Grammar N K Y C V R} {gs : List (Grammar N K Y C V R)} {s t : State C V}
        {ms : List (Mark (Placed Y) R)}
        → Derives (g ∷ many g ∷ gs) s ms t → Derives (many g ∷ gs) s ms t
    derives_rule : {n : N} {gs : List (Grammar N K Y C V R)} {s t : State C V}
        {ms : List (Mark (Placed Y) R)}
        → Derives (L.says n s.context ∷ gs) s ms t → Derives (rule n ∷ gs) s ms t

  pub record Text (gs : List (Grammar N K Y C V R)) (s : State C V) : Type 0 where
    pub marks : List (Mark (Placed Y) R)
    pub end : State C V
    pub derivation : Derives gs s marks end
