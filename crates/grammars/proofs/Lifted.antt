-- Reading by a lifted grammar is reading by the small language on its part of the state.
--   lifted_read       of one grammar
use Rattle.std.proofs.Common.{◌≡◌, List, [], ◌∷◌, ◌++◌, map, refl, ap, ap₂, sym, ◌∙◌, Bool, true, false, ◌&&◌, ◌||◌, Option, Some, None, if◌then◌else◌}
use Rattle.grammars.specs.Kinds.{has, with_if}
use Rattle.grammars.specs.Grammar.{Placed, State, Grammar, token, change, sequence, either, many, rule, Language, after_token, after_change}
use Rattle.grammars.specs.First.{may_be_empty, first}
use Rattle.grammars.specs.Reader.{Move, takes, leaves, refuses, Opening, on, closed, opened, move, by_move, read, parsed}
use Rattle.grammars.specs.Embedded.{Embedding, lift, part, with_part, IsEmbedded, answer_in}

module _ {M N K Y C D V W R : Type 0} (E : Embedding M N C D V W) (S : Language M K Y D W R)
    (L : Language N K Y C V R) (is : IsEmbedded E S L) where
  empty_same : (g : Grammar M K Y D W R) → may_be_empty L (lift E g) ≡ may_be_empty S g
  empty_same (token ks fault next build) = refl
  empty_same (change next build) = refl
  empty_same (sequence g h) = ap₂ (λ a b. a && b) (empty_same g) (empty_same h)
  empty_same (either g h) = ap₂ (λ a b. a || b) (empty_same g) (empty_same h)
  empty_same (many g) = refl
  empty_same (rule n) = is.empty n

  first_same : (g : Grammar M K Y D W R) → first L (lift E g) ≡ first S g
  first_same (token ks fault next build) = refl
  first_same (change next build) = refl
  first_same (sequence g h) = ap₂ (λ b ks. with_if b ks (first L (lift E h))) (empty_same g)
      (first_same g) ∙ ap (with_if (may_be_empty S g) (first S g)) (first_same h)
  first_same (either g h) = ap₂ (λ a b. a ++ b) (first_same g) (first_same h)
  first_same (many g) = first_same g
  first_same (rule n) = is.begins n

  chosen_same : (g : Grammar M K Y D W R) (y : Y) → has L.same (first L (lift E g)) (L.kind y)
      ≡ has S.same (first S g) (S.kind y)
  chosen_same g y = is.kinds (first L (lift E g)) y
      ∙ ap (λ ks. has S.same ks (S.kind y)) (first_same g)

  module _ (s : State C V) where
    abbrev in_s : State D W → State C V
    in_s t = with_part E t s

    -- the part of what it is put into
    part_in : (t : State D W) → part E (in_s t) ≡ t
    part_in t = ap₂ (λ c v. record { context = c; value = v }) (is.get_put t.context s.context)
        (is.value_get_put t.value s.value)

    in_in : (t u : State D W) → with_part E t (in_s u) ≡ in_s t
    in_in t u = ap₂ (λ c v. record { context = c; value = v }) (is.put_put t.context u.context
        s.context) (is.value_put_put t.value u.value s.value)

    abbrev move_in : Move M K Y D W R → Move N K Y C V R
    move_in (takes f t gs) = takes f (in_s t) (map (lift E) gs)
    move_in (leaves t) = leaves (in_s t)
    move_in refuses = refuses

    abbrev taking : Option R → State C V → List (Grammar M K Y D W R) → Move N K Y C V R
    taking f t gs = takes f t (map (lift E) gs)

    token_in : (fault : D → Y → Option R) (next : D → Y → D) (build : D → Placed Y → W
        → W) (t u : State D W) (x : Placed Y) (gs : List (Grammar M K Y D W R))
        → part E (in_s t) ≡ u
        → taking (fault u.context x.lexeme) (with_part E (after_token next build u x) (in_s t)) gs
        ≡ move_in (takes (fault t.context x.lexeme) (after_token next build t x) gs)
    token_in fault next build t u x gs e =
        let same : u ≡ t = sym e ∙ part_in t in
        ap (λ u. taking (fault u.context x.lexeme) (with_part E (after_token next build u x)
        (in_s t)) gs) same
        ∙ ap (λ z. taking (fault t.context x.lexeme) z gs) (in_in (after_token next build t x) t)

    choice : (b c : Bool) (d e : Move N K Y C V R) (d' e' : Move M K Y D W R) → b ≡ c
        → d ≡ move_in d' → e ≡ move_in e' → (if b then d else e) ≡ move_in (if c then d' else e')
    choice b true d e d' e' same p q = ap (λ b. if b then d else e) same ∙ p
    choice b false d e d' e' same p q = ap (λ b. if b then d else e) same ∙ q

    abbrev OpensIn : Opening L → Opening S → Type 0
    OpensIn inner other = (n : M) (gs : List (Grammar M K Y D W R)) (t : State D W) (x : Placed Y)
        (skip : State C V → Move N K Y C V R) (skip' : State D W → Move M K Y D W R)
        → ((u : State D W) → skip (in_s u) ≡ move_in (skip' u))
        → inner (E.rule_of n) (map (lift E) gs) (in_s t) x skip ≡ move_in (other n gs t x skip')

    module _ (inner : Opening L) (other : Opening S) (rules : OpensIn inner other) where
      on_lifted : (g : Grammar M K Y D W R) (gs : List (Grammar M K Y D W R)) (t : State D W)
          (x : Placed Y) (skip : State C V → Move N K Y C V R) (skip' : State D W
          → Move M K Y D W R)
          → ((u : State D W) → skip (in_s u) ≡ move_in (skip' u))
          → on L inner (lift E g) (map (lift E) gs) (in_s t) x skip
          ≡ move_in (on S other g gs t x skip')
      on_lifted (token ks fault next build) gs t x skip skip' e =
          choice (has L.same ks (L.kind x.lexeme)) (has S.same ks (S.kind x.lexeme)) _ refuses
          (takes _ _ gs) refuses (is.kinds ks x.lexeme)
          (token_in fault next build t (part E (in_s t)) x gs refl) refl
      on_lifted (change next build) gs t x skip skip' e =
          ap (λ u. skip (with_part E (after_change next build u) (in_s t))) (part_in t)
          ∙ ap skip (in_in (after_change next build t) t) ∙ e (after_change next build t)
      on_lifted (sequence g h) gs t x skip skip' e = on_lifted g (h ∷ gs) t x
          (λ u. on L inner (lift E h) (map (lift E) gs) u x skip) (λ u. on S other h gs u x skip')
          (λ u. on_lifted h gs u x skip skip' e)
      on_lifted (either g h) gs t x skip skip' e =
          choice (has L.same (first L (lift E g)) (L.kind x.lexeme))
          (has S.same (first S g) (S.kind x.lexeme)) _ _ (on S other g gs t x skip')
          (on S other h gs t x skip') (chosen_same g x.lexeme)
          (on_lifted g gs t x skip skip' e) (on_lifted h gs t x skip skip' e)
      on_lifted (many g) gs t x skip skip' e =
          choice (has L.same (first L (lift E g)) (L.kind x.lexeme))
          (has S.same (first S g) (S.kind x.lexeme)) _ _ (on S other g (many g ∷ gs) t x skip')
          (skip' t) (chosen_same g x.lexeme)
          (on_lifted g (many g ∷ gs) t x skip skip' e) (e t)
      on_lifted (rule n) gs t x skip skip' e = rules n gs t x skip skip' e

    closed_lifted : OpensIn (closed L) (closed S)
    closed_lifted n gs t x skip skip' e = refl

    opened_lifted : OpensIn (opened L) (opened S)
    opened_lifted n gs t x skip skip' e =
        ap (λ g. on L (closed L) g (map (lift E) gs) (in_s t) x skip) (is.says n (in_s t).context
        ∙ ap (λ d. lift E (S.says n d)) (ap (λ (u : State D W). u.context) (part_in t)))
        ∙ on_lifted (closed L) (closed S) closed_lifted (S.says n t.context) gs t x skip skip' e

    move_lifted : (gs : List (Grammar M K Y D W R)) (t : State D W) (x : Placed Y)
        → move L (map (lift E) gs) (in_s t) x ≡ move_in (move S gs t x)
    move_lifted [] t x = refl
    move_lifted (g ∷ gs) t x = on_lifted (opened L) (opened S) opened_lifted g gs t x
        (λ u. move L (map (lift E) gs) u x) (λ u. move S gs u x) (λ u. move_lifted gs u x)

    pub read_lifted : (ts : List (Placed Y)) (gs : List (Grammar M K Y D W R)) (t : State D W)
        → read L (map (lift E) gs) (with_part E t s) ts ≡ answer_in E (read S gs t ts) s
    unfolding read
    read_lifted [] [] t = refl
    read_lifted [] (g ∷ gs) t = refl
    read_lifted (x ∷ xs) gs t = ap (λ d. by_move L d x xs (λ u hs. read L hs u xs))
        (move_lifted gs t x) ∙ go (move S gs t x) (λ hs u. read_lifted xs hs u)
      where
        go : (d : Move M K Y D W R) → ((hs : List (Grammar M K Y D W R)) (u : State D W)
            → read L (map (lift E) hs) (with_part E u s) xs ≡ answer_in E (read S hs u xs) s)
            → by_move L (move_in d) x xs (λ u hs. read L hs u xs)
            ≡ answer_in E (by_move S d x xs (λ u hs. read S hs u xs)) s
        go (takes None u hs) later = later hs u
        go (takes (Some why) u hs) later = refl
        go (leaves u) later = refl
        go refuses later = refl

  pub lifted_read : (g : Grammar M K Y D W R) (s : State C V) (ts : List (Placed Y))
      → parsed L (lift E g) s ts ≡ answer_in E (parsed S g (part E s) ts) s
  lifted_read g s ts =
      ap (λ u. parsed L (lift E g) u ts)
      (sym (ap₂ (λ c v. record { context = c; value = v }) (is.put_get s.context)
      (is.value_put_get s.value)))
      ∙ read_lifted s ts (g ∷ []) (part E s)
