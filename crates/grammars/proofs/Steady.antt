-- Where it doesn't matter how a reader goes on.
--   full_steady       what follows a grammar that isn't empty has no part in what its first token does
--   move_rule         a rule is read as what it says
use Rattle.std.proofs.Common.{◌≡◌, List, ◌∷◌, refl, ap₂, cond, Bool, true, false, not, ◌||◌}
use Rattle.std.proofs.lemmas.Bool.{and_parts, and_from, or_left, or_right, not-true}
use Rattle.algebra.proofs.Basics.{not_both}
use Rattle.grammars.specs.Kinds.{has}
use Rattle.grammars.specs.Grammar.{Placed, State, Grammar, token, change, sequence, either, many, rule, Language}
use Rattle.grammars.specs.First.{may_be_empty, first}
use Rattle.grammars.specs.Reader.{Move, Opening, on, closed, opened, move}
use Rattle.grammars.specs.Checked.{begins_closed, IsChecked}

-- not both, in the form in which a test tells it
pub needed : (a b : Bool) → (not a || b) ≡ true → a ≡ true → b ≡ true
needed true b e h = e
needed false b e h = absurd (cc)

module _ {N K Y C V R : Type 0} (L : Language N K Y C V R) where
  -- two ways to go on, alike where g may be left out
  abbrev Alike : Bool → (State C V → Move N K Y C V R) → (State C V → Move N K Y C V R) → Type 0
  Alike empty skip other = empty ≡ true → (t : State C V) → skip t ≡ other t

  abbrev OpensSteady : Opening L → Type 0
  OpensSteady inner = (n : N) (gs : List (Grammar N K Y C V R)) (s : State C V) (x : Placed Y)
      (skip other : State C V → Move N K Y C V R)
      → Alike (L.empty n) skip other → inner n gs s x skip ≡ inner n gs s x other

  module _ (inner : Opening L) (rules : OpensSteady inner) where
    steady : (g : Grammar N K Y C V R) (gs : List (Grammar N K Y C V R)) (s : State C V)
        (x : Placed Y) (skip other : State C V → Move N K Y C V R)
        → Alike (may_be_empty L g) skip other → on L inner g gs s x skip ≡ on L inner g gs s x other
    steady (token ks fault next build) gs s x skip other alike = refl
    steady (change next build) gs s x skip other alike = alike refl _
    steady (sequence g h) gs s x skip other alike =
        steady g (h ∷ gs) s x (λ t. on L inner h gs t x skip) (λ t. on L inner h gs t x other)
        (λ p t. steady h gs t x skip other
        (λ q. alike (and_from (may_be_empty L g) (may_be_empty L h) p q)))
    steady (either g h) gs s x skip other alike =
        ap₂ (cond (has L.same (first L g) (L.kind x.lexeme)))
        (steady g gs s x skip other (λ p. alike (or_left (may_be_empty L g) (may_be_empty L h) p)))
        (steady h gs s x skip other (λ p. alike (or_right (may_be_empty L g) (may_be_empty L h) p)))
    steady (many g) gs s x skip other alike = ap₂ (cond (has L.same (first L g) (L.kind x.lexeme)))
        (steady g (many g ∷ gs) s x skip other (λ p. alike refl)) (alike refl s)
    steady (rule n) gs s x skip other alike = rules n gs s x skip other alike

  -- closed and opened rules are alike where no rule begins
  unopened : (g : Grammar N K Y C V R) (gs : List (Grammar N K Y C V R)) (s : State C V)
      (x : Placed Y) (skip other : State C V → Move N K Y C V R)
      → begins_closed L g ≡ true → Alike (may_be_empty L g) skip other
      → on L (closed L) g gs s x skip ≡ on L (opened L) g gs s x other
  unopened (token ks fault next build) gs s x skip other b alike = refl
  unopened (change next build) gs s x skip other b alike = alike refl _
  unopened (sequence g h) gs s x skip other b alike =
      let p = and_parts (begins_closed L g) (not (may_be_empty L g) || begins_closed L h) b in
      unopened g (h ∷ gs) s x (λ t. on L (closed L) h gs t x skip)
      (λ t. on L (opened L) h gs t x other) p.0
      (λ e t. unopened h gs t x skip other (needed (may_be_empty L g) (begins_closed L h) p.1 e)
      (λ q. alike (and_from (may_be_empty L g) (may_be_empty L h) e q)))
  unopened (either g h) gs s x skip other b alike =
      let p = and_parts (begins_closed L g) (begins_closed L h) b in
      ap₂ (cond (has L.same (first L g) (L.kind x.lexeme)))
      (unopened g gs s x skip other p.0
      (λ e. alike (or_left (may_be_empty L g) (may_be_empty L h) e)))
      (unopened h gs s x skip other p.1
      (λ e. alike (or_right (may_be_empty L g) (may_be_empty L h) e)))
  unopened (many g) gs s x skip other b alike =
      ap₂ (cond (has L.same (first L g) (L.kind x.lexeme))) (unopened g (many g ∷ gs) s x skip other
      b (λ e. alike refl)) (alike refl s)
  unopened (rule n) gs s x skip other b alike = absurd (cc)

  module _ (checked : IsChecked L) where
    closed_steady : OpensSteady (closed L)
    closed_steady n gs s x skip other alike = refl

    opened_steady : OpensSteady (opened L)
    opened_steady n gs s x skip other alike = steady (closed L) closed_steady (L.says n s.context)
        gs s x skip other (λ e. alike (checked.empty n s.context e))

    pub full_steady : (g : Grammar N K Y C V R) (gs : List (Grammar N K Y C V R)) (s : State C V)
        (x : Placed Y) (skip other : State C V → Move N K Y C V R)
        → not (may_be_empty L g) ≡ true → on L (opened L) g gs s x skip ≡ on L (opened L) g gs s x
        other
    full_steady g gs s x skip other full = steady (opened L) opened_steady g gs s x skip other
        (λ e. absurd (not_both (may_be_empty L g) e (not-true (may_be_empty L g) full)))

    pub move_rule : (n : N) (gs : List (Grammar N K Y C V R)) (s : State C V) (x : Placed Y)
        → move L (rule n ∷ gs) s x ≡ move L (L.says n s.context ∷ gs) s x
    move_rule n gs s x = unopened (L.says n s.context) gs s x (λ t. move L gs t x)
        (λ t. move L gs t x) (checked.closed n s.context) (λ e t. refl)
