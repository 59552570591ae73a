-- What begins the texts of grammars.
--   first_derived       the first symbol of a text is of a kind that may begin it
--   first_full          that of a grammar that isn't empty may begin this one
--   then_within         what a grammar may begin with, with kinds behind it, is within that of another one
use Rattle.std.proofs.Common.{◌≡◌, List, [], ◌∷◌, refl, subst, ap, sym, ◌∙◌, inl, inr, Bool, true, false, not, ◌&&◌, ◌||◌}
use Rattle.std.proofs.lemmas.Bool.{and_parts, and_from, or_cases, or_left, or_right}
use Rattle.grammars.specs.Kinds.{has, within}
use Rattle.grammars.specs.Grammar.{Placed, State, Grammar, sequence, either, many, rule, Language}
use Rattle.grammars.specs.Derivation.{Mark, Derives, derives_nothing, derives_token, derives_change, derives_sequence, derives_left, derives_right, derives_none, derives_more, derives_rule}
use Rattle.grammars.specs.First.{may_be_empty, first, first_then, first_of}
use Rattle.grammars.specs.Checked.{IsChecked}
use Rattle.grammars.proofs.KindSets.{has_right, has-with_if, within_has}

-- tests, by cases
in_sequence : (p a q b r : Bool) → (p || (a && (q || (b && r))))
    ≡ ((p || (a && q)) || ((a && b) && r))
in_sequence true a q b r = refl
in_sequence false true true b r = refl
in_sequence false true false b r = refl
in_sequence false false q b r = refl

on_left : (p a q b r : Bool) → (p || (a && r)) ≡ true → ((p || q) || ((a || b) && r)) ≡ true
on_left true a q b r e = refl
on_left false true q b r e = or_right q r e
on_left false false q b r e = absurd (cc)

on_right : (p a q b r : Bool) → (q || (b && r)) ≡ true → ((p || q) || ((a || b) && r)) ≡ true
on_right true a q b r e = refl
on_right false a true b r e = refl
on_right false true false b r e = (and_parts b r e).1
on_right false false false b r e = e

full : (p a r : Bool) → (p || (a && r)) ≡ true → not a ≡ true → p ≡ true
full true a r e h = refl
full false true r e h = absurd (cc)
full false false r e h = absurd (cc)

module _ {N K Y C V R : Type 0} (L : Language N K Y C V R) where
  pub kinds_then : (g : Grammar N K Y C V R) (ks : List K) (k : K)
      → has L.same (first_then L g ks) k
      ≡ (has L.same (first L g) k || (may_be_empty L g && has L.same ks k))
  kinds_then g ks k = has-with_if L.same (may_be_empty L g) (first L g) ks k

  pub first_full : (g : Grammar N K Y C V R) (ks : List K) (k : K)
      → has L.same (first_then L g ks) k ≡ true → not (may_be_empty L g) ≡ true
      → has L.same (first L g) k ≡ true
  first_full g ks k e h = full (has L.same (first L g) k) (may_be_empty L g) (has L.same ks k)
      (sym (kinds_then g ks k) ∙ e) h

  pub then_sequence : (g h : Grammar N K Y C V R) (ks : List K) (k : K)
      → has L.same (first_then L g (first_then L h ks)) k
      ≡ has L.same (first_then L (sequence g h) ks) k
  then_sequence g h ks k =
      kinds_then g (first_then L h ks) k
      ∙ ap (λ t. has L.same (first L g) k || (may_be_empty L g && t)) (kinds_then h ks k)
      ∙ in_sequence (has L.same (first L g) k) (may_be_empty L g) (has L.same (first L h) k)
      (may_be_empty L h) (has L.same ks k)
      ∙ ap (λ t. t || ((may_be_empty L g && may_be_empty L h) && has L.same ks k))
      (sym (has-with_if L.same (may_be_empty L g) (first L g) (first L h) k))
      ∙ sym (kinds_then (sequence g h) ks k)

  pub then_either : (g h : Grammar N K Y C V R) (ks : List K) (k : K)
      → has L.same (first_then L (either g h) ks) k
      ≡ ((has L.same (first L g) k || has L.same (first L h) k) ||
      ((may_be_empty L g || may_be_empty L h) && has L.same ks k))
  then_either g h ks k = kinds_then (either g h) ks k
      ∙ ap (λ t. t || ((may_be_empty L g || may_be_empty L h) && has L.same ks k))
      (has-with_if L.same true (first L g) (first L h) k)

  pub then_left : (g h : Grammar N K Y C V R) (ks : List K) (k : K)
      → has L.same (first_then L g ks) k ≡ true → has L.same (first_then L (either g h) ks) k ≡ true
  then_left g h ks k e = then_either g h ks k
      ∙ on_left (has L.same (first L g) k) (may_be_empty L g) (has L.same (first L h) k)
      (may_be_empty L h) (has L.same ks k) (sym (kinds_then g ks k) ∙ e)

  pub then_right : (g h : Grammar N K Y C V R) (ks : List K) (k : K)
      → has L.same (first_then L h ks) k ≡ true → has L.same (first_then L (either g h) ks) k ≡ true
  then_right g h ks k e = then_either g h ks k
      ∙ on_right (has L.same (first L g) k) (may_be_empty L g) (has L.same (first L h) k)
      (may_be_empty L h) (has L.same ks k) (sym (kinds_then h ks k) ∙ e)

  then_more : (g : Grammar N K Y C V R) (ks : List K) (k : K)
      → has L.same (first_then L g (first_then L (many g) ks)) k ≡ true
      → has L.same (first_then L (many g) ks) k ≡ true
  then_more g ks k e =
      elim (or_cases (has L.same (first L g) k) (may_be_empty L g && has L.same
      (first_then L (many g) ks) k) (sym (kinds_then g (first_then L (many g) ks) k) ∙ e)) [
        | inl h ↦ kinds_then (many g) ks k ∙ or_left (has L.same (first L g) k) (has L.same ks k) h
        | inr h ↦ (and_parts (may_be_empty L g) (has L.same (first_then L (many g) ks) k) h).1
      ]

  module _ (checked : IsChecked L) where
    pub then_within : (g h : Grammar N K Y C V R) → within L.same (first L g) (first L h) ≡ true
        → (may_be_empty L g ≡ true → may_be_empty L h ≡ true)
        → (ks : List K) (k : K) → has L.same (first_then L g ks) k ≡ true
        → has L.same (first_then L h ks) k ≡ true
    then_within g h begins empty ks k e = kinds_then h ks k
        ∙ elim (or_cases (has L.same (first L g) k) (may_be_empty L g && has L.same ks k)
        (sym (kinds_then g ks k) ∙ e)) [
          | inl p ↦ or_left (has L.same (first L h) k) (may_be_empty L h && has L.same ks k)
              (within_has L.same checked.kinds (first L g) (first L h) k begins p)
          | inr p ↦ let q = and_parts (may_be_empty L g) (has L.same ks k) p in
              or_right (has L.same (first L h) k) (may_be_empty L h && has L.same ks k)
              (and_from (may_be_empty L h) (has L.same ks k) (empty q.0) q.1)
        ]

    -- k is the kind of the next token, the first of ls or else one behind
    abbrev pub Next : List (Mark (Placed Y) R) → List K → K → Type 0
    Next [] ks k = has L.same ks k ≡ true
    Next (m ∷ ms) ks k = L.kind m.symbol.lexeme ≡ k

    pub next_derived : {gs : List (Grammar N K Y C V R)} {s t : State C V}
        {ls : List (Mark (Placed Y) R)} → Derives L gs s ls t → (ks : List K) (k : K) → Next ls ks k
        → has L.same (first_of L gs ks) k ≡ true
    next_derived derives_nothing ks k e = e
    next_derived (derives_token {ks = js} h w) ks k e = subst (λ k. has L.same js k ≡ true) e h
    next_derived (derives_change w) ks k e = next_derived w ks k e
    next_derived (derives_sequence {g = g} {h = h} {gs = gs} w) ks k e =
        sym (then_sequence g h (first_of L gs ks) k) ∙ next_derived w ks k e
    next_derived (derives_left {g = g} {h = h} {gs = gs} w) ks k e =
        then_left g h (first_of L gs ks) k (next_derived w ks k e)
    next_derived (derives_right {g = g} {h = h} {gs = gs} w) ks k e =
        then_right g h (first_of L gs ks) k (next_derived w ks k e)
    next_derived (derives_none {g = g} {gs = gs} w) ks k e =
        has_right L.same (first L g) (first_of L gs ks) k (next_derived w ks k e)
    next_derived (derives_more {g = g} {gs = gs} w) ks k e = then_more g (first_of L gs ks) k
        (next_derived w ks k e)
    next_derived (derives_rule {n = n} {gs = gs} {s = s} w) ks k e =
        then_within (L.says n s.context) (rule n) (checked.begins n s.context)
        (checked.empty n s.context) (first_of L gs ks) k (next_derived w ks k e)

    pub first_derived : {gs : List (Grammar N K Y C V R)} {s t : State C V}
        {ls : List (Mark (Placed Y) R)} → Derives L gs s ls t
        → (m : Mark (Placed Y) R) (ms : List (Mark (Placed Y) R)) → ls ≡ m ∷ ms → (ks : List K)
        → has L.same (first_of L gs ks) (L.kind m.symbol.lexeme) ≡ true
    first_derived w m ms e ks = next_derived w ks (L.kind m.symbol.lexeme)
        (subst (λ ls. Next ls ks (L.kind m.symbol.lexeme)) (sym e) refl)
