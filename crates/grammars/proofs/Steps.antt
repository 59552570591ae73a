-- Reading by a grammar alone, by its parts: what a function that reads by recursive descent cites.
--   and_then a next     the answer a, or where it reads up to some tokens, what comes next
--   judged why x a      the token x refused for its fault, if it has one, or else the answer a
--   parsed_token, parsed_change, parsed_sequence, parsed_either, parsed_many, parsed_rule      by the next token
--   read_then           what is read by grammars one behind the other is read by the first ones, and then by the others
use Rattle.std.proofs.Common.{◌≡◌, List, [], ◌∷◌, ◌++◌, refl, ap, ◌∙◌, Bool, true, false, not, Option, Some, None, if◌then◌else◌}
use Rattle.grammars.specs.Kinds.{has}
use Rattle.grammars.specs.Grammar.{Placed, State, Grammar, token, change, sequence, either, many, rule, Language, after_token, after_change}
use Rattle.grammars.specs.First.{may_be_empty, first}
use Rattle.grammars.specs.Reader.{Move, takes, leaves, refuses, Opening, on, closed, opened, move, ReadResult, reads, refused, unended, by_move, read, parsed}
use Rattle.grammars.specs.Checked.{IsChecked}
use Rattle.grammars.proofs.Steady.{full_steady, move_rule}

module _ {N K Y C V R : Type 0} (L : Language N K Y C V R) where
  abbrev pub and_then : ReadResult Y C V R → (State C V → List (Placed Y) → ReadResult Y C V R)
      → ReadResult Y C V R
  and_then (reads t rest) next = next t rest
  and_then (refused x why) next = refused x why
  and_then unended next = unended

  abbrev pub judged : Option R → Placed Y → ReadResult Y C V R → ReadResult Y C V R
  judged None x a = a
  judged (Some why) x a = refused x (Some why)

  -- ---- grammars one behind the other
  abbrev extended : List (Grammar N K Y C V R) → Placed Y → Move N K Y C V R → Move N K Y C V R
  extended hs x (takes f t gs) = takes f t (gs ++ hs)
  extended hs x (leaves t) = move L hs t x
  extended hs x refuses = refuses

  chosen : (hs : List (Grammar N K Y C V R)) (x : Placed Y) (b : Bool)
      (d e d' e' : Move N K Y C V R) → d ≡ extended hs x d' → e ≡ extended hs x e'
      → (if b then d else e) ≡ extended hs x (if b then d' else e')
  chosen hs x true d e d' e' p q = p
  chosen hs x false d e d' e' p q = q

  abbrev OpensBefore : List (Grammar N K Y C V R) → Opening L → Type 0
  OpensBefore hs inner = (n : N) (gs : List (Grammar N K Y C V R)) (s : State C V) (x : Placed Y)
      (skip other : State C V → Move N K Y C V R)
      → ((t : State C V) → skip t ≡ extended hs x (other t)) → inner n (gs ++ hs) s x skip
      ≡ extended hs x (inner n gs s x other)

  module _ (hs : List (Grammar N K Y C V R)) where
    module _ (inner : Opening L) (rules : OpensBefore hs inner) where
      on_before : (g : Grammar N K Y C V R) (gs : List (Grammar N K Y C V R)) (s : State C V)
          (x : Placed Y) (skip other : State C V → Move N K Y C V R)
          → ((t : State C V) → skip t ≡ extended hs x (other t)) → on L inner g (gs ++ hs) s x skip
          ≡ extended hs x (on L inner g gs s x other)
      on_before (token ks fault next build) gs s x skip other e =
          chosen hs x (has L.same ks (L.kind x.lexeme)) (takes _ _ (gs ++ hs)) refuses
          (takes _ _ gs) refuses refl refl
      on_before (change next build) gs s x skip other e = e _
      on_before (sequence g h) gs s x skip other e = on_before g (h ∷ gs) s x
          (λ t. on L inner h (gs ++ hs) t x skip) (λ t. on L inner h gs t x other)
          (λ t. on_before h gs t x skip other e)
      on_before (either g h) gs s x skip other e =
          chosen hs x (has L.same (first L g) (L.kind x.lexeme)) (on L inner g (gs ++ hs) s x skip)
          (on L inner h (gs ++ hs) s x skip) (on L inner g gs s x other)
          (on L inner h gs s x other)
          (on_before g gs s x skip other e) (on_before h gs s x skip other e)
      on_before (many g) gs s x skip other e =
          chosen hs x (has L.same (first L g) (L.kind x.lexeme)) (on L inner g (many g ∷ gs ++ hs) s
          x skip) (skip s) (on L inner g (many g ∷ gs) s x other) (other s)
          (on_before g (many g ∷ gs) s x skip other e) (e s)
      on_before (rule n) gs s x skip other e = rules n gs s x skip other e

    closed_before : OpensBefore hs (closed L)
    closed_before n gs s x skip other e = refl

    opened_before : OpensBefore hs (opened L)
    opened_before n gs s x skip other e = on_before (closed L) closed_before (L.says n s.context) gs
        s x skip other e

    move_before : (gs : List (Grammar N K Y C V R)) (s : State C V) (x : Placed Y)
        → move L (gs ++ hs) s x ≡ extended hs x (move L gs s x)
    move_before [] s x = refl
    move_before (g ∷ gs) s x = on_before (opened L) opened_before g gs s x
        (λ t. move L (gs ++ hs) t x) (λ t. move L gs t x) (λ t. move_before gs t x)

    pub read_then : (ts : List (Placed Y)) (gs : List (Grammar N K Y C V R)) (s : State C V)
        → read L (gs ++ hs) s ts ≡ and_then (read L gs s ts) (λ t rest. read L hs t rest)
    unfolding read
    read_then [] [] s = refl
    read_then [] (g ∷ gs) s = refl
    read_then (x ∷ xs) gs s = ap (λ d. by_move L d x xs (λ t ls. read L ls t xs))
        (move_before gs s x) ∙ go (move L gs s x) (λ ls t. read_then xs ls t)
      where
        go : (d : Move N K Y C V R) → ((ls : List (Grammar N K Y C V R)) (t : State C V)
            → read L (ls ++ hs) t xs ≡ and_then (read L ls t xs) (λ t rest. read L hs t rest))
            → by_move L (extended hs x d) x xs (λ t ls. read L ls t xs)
            ≡ and_then (by_move L d x xs (λ t ls. read L ls t xs)) (λ t rest. read L hs t rest)
        go (takes None t ls) later = later ls t
        go (takes (Some why) t ls) later = refl
        go (leaves t) later = refl
        go refuses later = refl

  -- ---- by the next token
  pub parsed_token : (ks : List K) (fault : C → Y → Option R) (next : C → Y → C) (build : C
      → Placed Y → V → V) (s : State C V) (x : Placed Y) (xs : List (Placed Y))
      → parsed L (token ks fault next build) s (x ∷ xs) ≡ (if has L.same ks (L.kind x.lexeme)
      then judged (fault s.context x.lexeme) x (reads (after_token next build s x) xs)
      else refused x None)
  unfolding read
  parsed_token ks fault next build s x xs = go (has L.same ks (L.kind x.lexeme))
      (fault s.context x.lexeme) (read_nothing xs)
    where
      read_nothing : (xs : List (Placed Y)) → read L [] (after_token next build s x) xs
          ≡ reads (after_token next build s x) xs
      read_nothing [] = refl
      read_nothing (y ∷ ys) = refl

      go : (b : Bool) (f : Option R) → read L [] (after_token next build s x) xs
          ≡ reads (after_token next build s x) xs
          → by_move L (if b then takes f (after_token next build s x) [] else refuses) x xs (λ t ls.
          read L ls t xs)
          ≡ (if b then judged f x (reads (after_token next build s x) xs) else refused x None)
      go true None e = e
      go true (Some why) e = refl
      go false f e = refl

  pub parsed_change : (next : C → C) (build : C → V → V) (s : State C V) (x : Placed Y)
      (xs : List (Placed Y))
      → parsed L (change next build) s (x ∷ xs) ≡ reads (after_change next build s) (x ∷ xs)
  unfolding read
  parsed_change next build s x xs = refl

  pub parsed_sequence : (g h : Grammar N K Y C V R) (s : State C V) (ts : List (Placed Y))
      → parsed L (sequence g h) s ts ≡ and_then (parsed L g s ts) (λ t rest. parsed L h t rest)
  unfolding read
  parsed_sequence g h s [] = refl
  parsed_sequence g h s (x ∷ xs) = read_then (h ∷ []) (x ∷ xs) (g ∷ []) s

  pub parsed_either : (g h : Grammar N K Y C V R) (s : State C V) (x : Placed Y)
      (xs : List (Placed Y))
      → parsed L (either g h) s (x ∷ xs) ≡ (if has L.same (first L g) (L.kind x.lexeme)
      then parsed L g s (x ∷ xs) else parsed L h s (x ∷ xs))
  unfolding read
  parsed_either g h s x xs = go (has L.same (first L g) (L.kind x.lexeme))
    where
      go : (b : Bool) → by_move L (if b then move L (g ∷ []) s x else move L (h ∷ []) s x) x xs
          (λ t ls. read L ls t xs) ≡ (if b then parsed L g s (x ∷ xs) else parsed L h s (x ∷ xs))
      go true = refl
      go false = refl

  module _ (checked : IsChecked L) where
    pub parsed_many : (g : Grammar N K Y C V R) (s : State C V) (x : Placed Y)
        (xs : List (Placed Y)) → not (may_be_empty L g) ≡ true
        → parsed L (many g) s (x ∷ xs) ≡ (if has L.same (first L g) (L.kind x.lexeme)
        then and_then (parsed L g s (x ∷ xs)) (λ t rest. parsed L (many g) t rest)
        else reads s (x ∷ xs))
    unfolding read
    parsed_many g s x xs full = go (has L.same (first L g) (L.kind x.lexeme))
        (ap (λ d. by_move L d x xs (λ t ls. read L ls t xs)) (full_steady L checked g (many g ∷ [])
        s x (λ t. leaves t) (λ t. move L (many g ∷ []) t x) full)
        ∙ read_then (many g ∷ []) (x ∷ xs) (g ∷ []) s)
      where
        go : (b : Bool) → by_move L (on L (opened L) g (many g ∷ []) s x (λ t. leaves t)) x xs
            (λ t ls. read L ls t xs) ≡ and_then (parsed L g s (x ∷ xs)) (λ t rest.
            parsed L (many g) t rest)
            → by_move L (if b then on L (opened L) g (many g ∷ []) s x (λ t. leaves t)
            else leaves s) x xs (λ t ls. read L ls t xs)
            ≡ (if b then and_then (parsed L g s (x ∷ xs)) (λ t rest. parsed L (many g) t rest)
            else reads s (x ∷ xs))
        go true e = e
        go false e = refl

    pub parsed_rule : (n : N) (s : State C V) (ts : List (Placed Y)) → parsed L (rule n) s ts
        ≡ parsed L (L.says n s.context) s ts
    unfolding read
    parsed_rule n s [] = refl
    parsed_rule n s (x ∷ xs) = ap (λ d. by_move L d x xs (λ t ls. read L ls t xs))
        (move_rule L checked n [] s x)
