-- Reading by a language whose faults are told in another way.
--   retold_read       of one grammar
use Rattle.std.proofs.Common.{◌≡◌, List, [], ◌∷◌, ◌++◌, map, refl, ap, ap₂, ◌∙◌, Bool, true, false, ◌&&◌, ◌||◌, Some, None, option_map, if◌then◌else◌}
use Rattle.grammars.specs.Kinds.{has, with_if}
use Rattle.grammars.specs.Grammar.{Placed, State, Grammar, token, change, sequence, either, many, rule, Language, after_token, after_change}
use Rattle.grammars.specs.First.{may_be_empty, first}
use Rattle.grammars.specs.Reader.{Move, takes, leaves, refuses, Opening, on, closed, opened, move, by_move, read, parsed}
use Rattle.grammars.specs.Retold.{Telling, retold, retold_language, retold_answer}

module _ {N K Y C V R : Type 0} (r : Telling Y R) (L : Language N K Y C V R) where
  abbrev M : Language N K Y C V R
  M = retold_language r L

  empty_same : (g : Grammar N K Y C V R) → may_be_empty M (retold r g) ≡ may_be_empty L g
  empty_same (token ks fault next build) = refl
  empty_same (change next build) = refl
  empty_same (sequence g h) = ap₂ (λ a b. a && b) (empty_same g) (empty_same h)
  empty_same (either g h) = ap₂ (λ a b. a || b) (empty_same g) (empty_same h)
  empty_same (many g) = refl
  empty_same (rule n) = refl

  first_same : (g : Grammar N K Y C V R) → first M (retold r g) ≡ first L g
  first_same (token ks fault next build) = refl
  first_same (change next build) = refl
  first_same (sequence g h) =
      ap₂ (λ b ks. with_if b ks (first M (retold r h))) (empty_same g) (first_same g)
      ∙ ap (with_if (may_be_empty L g) (first L g)) (first_same h)
  first_same (either g h) = ap₂ (λ a b. a ++ b) (first_same g) (first_same h)
  first_same (many g) = first_same g
  first_same (rule n) = refl

  module _ (x : Placed Y) where
    abbrev told_move : Move N K Y C V R → Move N K Y C V R
    told_move (takes f t gs) = takes (option_map (r x.lexeme) f) t (map (retold r) gs)
    told_move (leaves t) = leaves t
    told_move refuses = refuses

    choice : (b c : Bool) (d e d' e' : Move N K Y C V R) → b ≡ c → d ≡ told_move d'
        → e ≡ told_move e' → (if b then d else e) ≡ told_move (if c then d' else e')
    choice b true d e d' e' same p q = ap (λ b. if b then d else e) same ∙ p
    choice b false d e d' e' same p q = ap (λ b. if b then d else e) same ∙ q

    chosen : (g : Grammar N K Y C V R)
        → has L.same (first M (retold r g)) (L.kind x.lexeme) ≡ has L.same (first L g)
        (L.kind x.lexeme)
    chosen g = ap (λ ks. has L.same ks (L.kind x.lexeme)) (first_same g)

    abbrev OpensAs : Opening M → Opening L → Type 0
    OpensAs inner other =
        (n : N) (gs : List (Grammar N K Y C V R)) (t : State C V) (skip skip' : State C V
        → Move N K Y C V R)
        → ((u : State C V) → skip u ≡ told_move (skip' u))
        → inner n (map (retold r) gs) t x skip ≡ told_move (other n gs t x skip')

    module _ (inner : Opening M) (other : Opening L) (rules : OpensAs inner other) where
      on_retold : (g : Grammar N K Y C V R) (gs : List (Grammar N K Y C V R)) (t : State C V)
          (skip skip' : State C V → Move N K Y C V R)
          → ((u : State C V) → skip u ≡ told_move (skip' u))
          → on M inner (retold r g) (map (retold r) gs) t x skip ≡ told_move
          (on L other g gs t x skip')
      on_retold (token ks fault next build) gs t skip skip' e =
          choice (has L.same ks (L.kind x.lexeme)) (has L.same ks (L.kind x.lexeme)) _ refuses
          (takes (fault t.context x.lexeme) (after_token next build t x) gs) refuses refl refl refl
      on_retold (change next build) gs t skip skip' e = e (after_change next build t)
      on_retold (sequence g h) gs t skip skip' e =
          on_retold g (h ∷ gs) t (λ u. on M inner (retold r h) (map (retold r) gs) u x skip)
          (λ u. on L other h gs u x skip') (λ u. on_retold h gs u skip skip' e)
      on_retold (either g h) gs t skip skip' e =
          choice (has L.same (first M (retold r g)) (L.kind x.lexeme))
          (has L.same (first L g) (L.kind x.lexeme)) _ _ (on L other g gs t x skip')
          (on L other h gs t x skip') (chosen g)
          (on_retold g gs t skip skip' e) (on_retold h gs t skip skip' e)
      on_retold (many g) gs t skip skip' e =
          choice (has L.same (first M (retold r g)) (L.kind x.lexeme))
          (has L.same (first L g) (L.kind x.lexeme)) _ _ (on L other g (many g ∷ gs) t x skip')
          (skip' t) (chosen g)
          (on_retold g (many g ∷ gs) t skip skip' e) (e t)
      on_retold (rule n) gs t skip skip' e = rules n gs t skip skip' e

    closed_retold : OpensAs (closed M) (closed L)
    closed_retold n gs t skip skip' e = refl

    opened_retold : OpensAs (opened M) (opened L)
    opened_retold n gs t skip skip' e =
        on_retold (closed M) (closed L) closed_retold (L.says n t.context) gs t skip skip' e

    move_retold : (gs : List (Grammar N K Y C V R)) (t : State C V)
        → move M (map (retold r) gs) t x ≡ told_move (move L gs t x)
    move_retold [] t = refl
    move_retold (g ∷ gs) t =
        on_retold (opened M) (opened L) opened_retold g gs t (λ u. move M (map (retold r) gs) u x)
        (λ u. move L gs u x) (λ u. move_retold gs u)

  read_retold : (ts : List (Placed Y)) (gs : List (Grammar N K Y C V R)) (t : State C V)
      → read M (map (retold r) gs) t ts ≡ retold_answer r (read L gs t ts)
  unfolding read
  read_retold [] [] t = refl
  read_retold [] (g ∷ gs) t = refl
  read_retold (x ∷ xs) gs t =
      ap (λ d. by_move M d x xs (λ u hs. read M hs u xs)) (move_retold x gs t)
      ∙ go (move L gs t x) (λ hs u. read_retold xs hs u)
    where
      go : (d : Move N K Y C V R)
          → ((hs : List (Grammar N K Y C V R)) (u : State C V)
          → read M (map (retold r) hs) u xs ≡ retold_answer r (read L hs u xs))
          → by_move M (told_move x d) x xs (λ u hs. read M hs u xs) ≡ retold_answer r
          (by_move L d x xs (λ u hs. read L hs u xs))
      go (takes None u hs) later = later hs u
      go (takes (Some why) u hs) later = refl
      go (leaves u) later = refl
      go refuses later = refl

  pub retold_read : (g : Grammar N K Y C V R) (s : State C V) (ts : List (Placed Y))
      → parsed (retold_language r L) (retold r g) s ts ≡ retold_answer r (parsed L g s ts)
  retold_read g s ts = read_retold ts (g ∷ []) s
