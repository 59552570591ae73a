-- The kinds of a text's lexemes, one by one, as a run of an automaton.
--   leads g q, leads_of gs q        the state to which the texts of g, or of the gs one behind the other, lead from q, if they lead to one
--   Runs q ks r      the kinds ks lead from q to r
--   runs             so those of a text do
use Rattle.std.proofs.Common.{◌≡◌, List, [], ◌∷◌, map, refl, ap, sym, ◌∙◌, inl, inr, Bool, true, false, Option, Some, None, if◌then◌else◌, option_and_then}
use Rattle.std.proofs.lemmas.Bool.{or_cases}
use Rattle.grammars.specs.Kinds.{IsExact, has}
use Rattle.grammars.specs.Grammar.{Placed, State, Grammar, token, change, sequence, either, many, rule, Language}
use Rattle.grammars.specs.Derivation.{Mark, Derives, derives_nothing, derives_token, derives_change, derives_sequence, derives_left, derives_right, derives_none, derives_more, derives_rule}

and_then_some : {P Q : Type 0} (o : Option P) (f : P → Option Q) (r : Q)
    → option_and_then f o ≡ Some r → (p : P) × (o ≡ Some p) × (f p ≡ Some r)
and_then_some (Some p) f r e = (p, refl, e)
and_then_some None f r e = absurd (cc)

and_then_twice : {P Q R : Type 0} (o : Option P) (f : P → Option Q) (g : Q → Option R)
    → option_and_then (λ p. option_and_then g (f p)) o ≡ option_and_then g (option_and_then f o)
and_then_twice (Some p) f g = refl
and_then_twice None f g = refl

module _ {N K Y C V R Q : Type 0} (L : Language N K Y C V R) (moves : Q → K → Option Q) (alike : Q
    → Q → Bool) (declared : N → Q → Option Q) where
  abbrev agreed : Option Q → Option Q → Option Q
  agreed None o = None
  agreed (Some p) None = None
  agreed (Some p) (Some q) = if alike p q then Some p else None

  abbrev all_to : Q → List K → Option Q
  all_to q [] = None
  all_to q (k ∷ []) = moves q k
  all_to q (k ∷ j ∷ ks) = agreed (moves q k) (all_to q (j ∷ ks))

  abbrev pub leads : Grammar N K Y C V R → Q → Option Q
  leads (token ks fault next build) q = all_to q ks
  leads (change next build) q = Some q
  leads (sequence g h) q = option_and_then (leads h) (leads g q)
  leads (either g h) q = agreed (leads g q) (leads h q)
  leads (many g) q = agreed (Some q) (leads g q)
  leads (rule n) q = declared n q

  abbrev pub leads_of : List (Grammar N K Y C V R) → Q → Option Q
  leads_of [] q = Some q
  leads_of (g ∷ gs) q = option_and_then (leads_of gs) (leads g q)

  abbrev pub Runs : Q → List K → Q → Type 0
  Runs q [] r = q ≡ r
  Runs q (k ∷ ks) r = (p : Q) × (moves q k ≡ Some p) × Runs p ks r

  module _ (kinds : IsExact L.same) (exact : IsExact alike) (rules : (n : N) (c : C) (q r : Q)
      → declared n q ≡ Some r → leads (L.says n c) q ≡ Some r) where
    both : (o p : Option Q) (r : Q) → agreed o p ≡ Some r → (o ≡ Some r) × (p ≡ Some r)
    both None p r e = absurd (cc)
    both (Some q) None r e = absurd (cc)
    both (Some q) (Some p) r e = go (alike q p) refl e
      where
        go : (b : Bool) → alike q p ≡ b → (if b then Some q else None) ≡ Some r → (Some q ≡ Some r)
            × (Some p ≡ Some r)
        go true h e = (e, ap Some (sym (exact.exact q p h)) ∙ e)
        go false h e = absurd (cc)

    one_of_them : (q : Q) (ks : List K) (k : K) (r : Q) → all_to q ks ≡ Some r
        → has L.same ks k ≡ true → moves q k ≡ Some r
    one_of_them q [] k r e h = absurd (cc)
    one_of_them q (j ∷ []) k r e h = elim (or_cases (L.same j k) false h) [
      | inl same
          ↦ ap (moves q) (sym (kinds.exact j k same)) ∙ e
      | inr never ↦ absurd (cc)
    ]
    one_of_them q (j ∷ i ∷ ks) k r e h =
        let p = both (moves q j) (all_to q (i ∷ ks)) r e in
        elim (or_cases (L.same j k) (has L.same (i ∷ ks) k) h) [
          | inl same
              ↦ ap (moves q) (sym (kinds.exact j k same)) ∙ p.0
          | inr more
              ↦ one_of_them q (i ∷ ks) k r p.1 more
        ]

    pub runs : {gs : List (Grammar N K Y C V R)} {s t : State C V} {ms : List (Mark (Placed Y) R)}
        → Derives L gs s ms t → (q r : Q) → leads_of gs q ≡ Some r
        → Runs q (map (λ (m : Mark (Placed Y) R). L.kind m.symbol.lexeme) ms) r
    runs derives_nothing q r e = let same : q ≡ r = cc in same
    runs (derives_token {ks = ks} {gs = gs} {x = x} h w) q r e = let (p, first, rest) =
        and_then_some (all_to q ks) (leads_of gs) r e in
        (p, one_of_them q ks (L.kind x.lexeme) p first h, runs w p r rest)
    runs (derives_change w) q r e = runs w q r e
    runs (derives_sequence {g = g} {h = h} {gs = gs} w) q r e =
        runs w q r (and_then_twice (leads g q) (leads h) (leads_of gs) ∙ e)
    runs (derives_left {g = g} {h = h} {gs = gs} w) q r e =
        let (p, first, rest) = and_then_some (agreed (leads g q) (leads h q)) (leads_of gs) r e in
        runs w q r (ap (option_and_then (leads_of gs)) (both (leads g q) (leads h q) p first).0
        ∙ rest)
    runs (derives_right {g = g} {h = h} {gs = gs} w) q r e =
        let (p, first, rest) = and_then_some (agreed (leads g q) (leads h q)) (leads_of gs) r e in
        runs w q r (ap (option_and_then (leads_of gs)) (both (leads g q) (leads h q) p first).1
        ∙ rest)
    runs (derives_none {g = g} {gs = gs} w) q r e =
        let (p, first, rest) = and_then_some (agreed (Some q) (leads g q)) (leads_of gs) r e in
        runs w q r (ap (option_and_then (leads_of gs)) (both (Some q) (leads g q) p first).0 ∙ rest)
    runs (derives_more {g = g} {gs = gs} w) q r e =
        let (p, first, rest) = and_then_some (agreed (Some q) (leads g q)) (leads_of gs) r e in
        let back = both (Some q) (leads g q) p first in
        runs w q r (ap (option_and_then (leads_of (many g ∷ gs))) (back.1 ∙ sym back.0) ∙ e)
    runs (derives_rule {n = n} {gs = gs} {s = s} w) q r e =
        let (p, first, rest) = and_then_some (declared n q) (leads_of gs) r e in
        runs w q r (ap (option_and_then (leads_of gs)) (rules n s.context q p first) ∙ rest)
