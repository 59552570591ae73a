-- Grammars whose next token tells which way to go.
--   is_fit g ks      so it is in g where a kind of ks stands behind it; are_fit gs ks: the same of a list
--   begins_closed g  no rule begins what g says
--   IsChecked        the test of kinds is exact, and each rule is fit and is as the language says of it, and has a text
--   IsWhole gs       gs are fit, and their last one is a token: so nothing follows their texts
use Rattle.std.specs.Prelude.{◌≡◌, Bool, true, false, not, ◌&&◌, ◌||◌, List, [], ◌∷◌, ◌++◌}
use Rattle.grammars.specs.Kinds.{IsExact, has, within, apart}
use Rattle.grammars.specs.Grammar.{State, Grammar, token, change, sequence, either, many, rule, Language}
use Rattle.grammars.specs.Derivation.{Text}
use Rattle.grammars.specs.First.{may_be_empty, first, first_then, first_of}

module _ {N K Y C V R : Type 0} where
  abbrev pub is_token : Grammar N K Y C V R → Bool
  is_token (token ks fault next build) = true
  is_token (change next build) = false
  is_token (sequence g h) = false
  is_token (either g h) = false
  is_token (many g) = false
  is_token (rule n) = false

  -- the last is a token, or there is none and b
  abbrev pub ends_by_token : Bool → List (Grammar N K Y C V R) → Bool
  ends_by_token b [] = b
  ends_by_token b (g ∷ gs) = ends_by_token (is_token g) gs

module _ {N K Y C V R : Type 0} (L : Language N K Y C V R) where
  -- a lexeme of one of the kinds can be written
  abbrev pub can_be_written : List K → Bool
  can_be_written [] = false
  can_be_written (k ∷ ks) = has L.same (k ∷ ks) (L.kind (L.sample k))

  abbrev pub is_fit : Grammar N K Y C V R → List K → Bool
  is_fit (token js fault next build) ks = can_be_written js
  is_fit (change next build) ks = true
  is_fit (sequence g h) ks = is_fit g (first_then L h ks) && is_fit h ks
  is_fit (either g h) ks =
      (is_fit g ks && is_fit h ks) && (not (may_be_empty L g) && apart L.same (first L g)
      (first_then L h ks))
  is_fit (many g) ks = is_fit g (first L g ++ ks) && (not (may_be_empty L g) && apart L.same
      (first L g) ks)
  is_fit (rule n) ks = within L.same ks (L.follows n)

  abbrev pub are_fit : List (Grammar N K Y C V R) → List K → Bool
  are_fit [] ks = true
  are_fit (g ∷ gs) ks = is_fit g (first_of L gs ks) && are_fit gs ks

  abbrev pub begins_closed : Grammar N K Y C V R → Bool
  begins_closed (token js fault next build) = true
  begins_closed (change next build) = true
  begins_closed (sequence g h) = begins_closed g && (not (may_be_empty L g) || begins_closed h)
  begins_closed (either g h) = begins_closed g && begins_closed h
  begins_closed (many g) = begins_closed g
  begins_closed (rule n) = false

  pub record IsChecked : Type 0 where
    pub kinds : IsExact L.same
    pub fit : (n : N) (c : C) → is_fit (L.says n c) (L.follows n) ≡ true
    pub closed : (n : N) (c : C) → begins_closed (L.says n c) ≡ true
    pub begins : (n : N) (c : C) → within L.same (first L (L.says n c)) (L.begins n) ≡ true
    pub empty : (n : N) (c : C) → may_be_empty L (L.says n c) ≡ true → L.empty n ≡ true
    pub text : (n : N) (s : State C V) (gs : List (Grammar N K Y C V R))
        → ((t : State C V) → Text L gs t) → Text L (rule n ∷ gs) s

  pub record IsWhole (gs : List (Grammar N K Y C V R)) : Type 0 where
    pub fit : are_fit gs [] ≡ true
    pub ends : ends_by_token true gs ≡ true
