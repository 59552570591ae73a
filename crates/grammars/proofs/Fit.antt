-- What holds of lists of grammars on the way of a text through them.
--   Descends P           P is kept where the first grammar is opened or done
--   descended            then it is kept where a token is taken
--   ends_descends        so it is kept that the last grammar is a token; then only nothing derives nothing (nothing_derived)
--   fit_descends         and that the grammars are fit; choice_apart, repetition_apart: what this says of two ways
use Rattle.std.proofs.Common.{◌≡◌, List, [], ◌∷◌, ◌++◌, subst, inl, inr, Bool, true, false, not, ◌&&◌, Option}
use Rattle.std.proofs.lemmas.Bool.{and_parts, and_from, cond_both}
use Rattle.grammars.specs.Kinds.{IsExact, has, apart, within, with_if}
use Rattle.grammars.specs.Derivation.{Mark, Derives, derives_nothing, derives_token, derives_change, derives_sequence, derives_left, derives_right, derives_none, derives_more, derives_rule}
use Rattle.grammars.specs.Grammar.{Placed, State, Grammar, token, change, sequence, either, many, rule, Language}
use Rattle.grammars.specs.First.{may_be_empty, first, first_then, first_of}
use Rattle.grammars.specs.Reader.{Move, takes, leaves, refuses, Opening, on, closed, opened, move}
use Rattle.grammars.specs.Checked.{is_token, ends_by_token, is_fit, are_fit, IsChecked}
use Rattle.grammars.proofs.KindSets.{has_left, has_right, has_either, within_has, all_within, narrower_apart}

module _ {N K Y C V R : Type 0} (L : Language N K Y C V R) where
  -- ---- fewer kinds behind
  abbrev IsWithin : List K → List K → Type 0
  IsWithin js ks = (k : K) → has L.same js k ≡ true → has L.same ks k ≡ true

  before_both : (a js ks : List K) → IsWithin js ks → IsWithin (a ++ js) (a ++ ks)
  before_both a js ks w k e = elim (has_either L.same a js k e) [
    | inl h ↦ has_left L.same a ks k h
    | inr h ↦ has_right L.same a ks k (w k h)
  ]

  within_then : (b : Bool) (a js ks : List K) → IsWithin js ks
      → IsWithin (with_if b a js) (with_if b a ks)
  within_then true a js ks w = before_both a js ks w
  within_then false a js ks w = λ k e. e

  narrower : (is : IsExact L.same) (g : Grammar N K Y C V R) (js ks : List K) → IsWithin js ks
      → is_fit L g ks ≡ true → is_fit L g js ≡ true
  narrower is (token ls fault next build) js ks w e = e
  narrower is (change next build) js ks w e = e
  narrower is (sequence g h) js ks w e =
      let p = and_parts (is_fit L g (first_then L h ks)) (is_fit L h ks) e in
      and_from (is_fit L g (first_then L h js)) (is_fit L h js)
      (narrower is g (first_then L h js) (first_then L h ks) (within_then (may_be_empty L h)
      (first L h) js ks w) p.0) (narrower is h js ks w p.1)
  narrower is (either g h) js ks w e =
      let p = and_parts (is_fit L g ks && is_fit L h ks) (not (may_be_empty L g) && apart L.same
      (first L g) (first_then L h ks)) e in
      let q = and_parts (is_fit L g ks) (is_fit L h ks) p.0 in
      let r = and_parts (not (may_be_empty L g)) (apart L.same (first L g) (first_then L h ks))
      p.1 in
      and_from (is_fit L g js && is_fit L h js) (not (may_be_empty L g) && apart L.same (first L g)
      (first_then L h js))
      (and_from (is_fit L g js) (is_fit L h js) (narrower is g js ks w q.0)
      (narrower is h js ks w q.1))
      (and_from (not (may_be_empty L g)) (apart L.same (first L g) (first_then L h js)) r.0
      (narrower_apart L.same (first L g) (first_then L h js) (first_then L h ks)
      (within_then (may_be_empty L h) (first L h) js ks w) r.1))
  narrower is (many g) js ks w e =
      let p = and_parts (is_fit L g (first L g ++ ks)) (not (may_be_empty L g) && apart L.same
      (first L g) ks) e in
      let q = and_parts (not (may_be_empty L g)) (apart L.same (first L g) ks) p.1 in
      and_from (is_fit L g (first L g ++ js)) (not (may_be_empty L g) && apart L.same (first L g)
      js)
      (narrower is g (first L g ++ js) (first L g ++ ks) (before_both (first L g) js ks w) p.0)
      (and_from (not (may_be_empty L g)) (apart L.same (first L g) js) q.0
      (narrower_apart L.same (first L g) js ks w q.1))
  narrower is (rule n) js ks w e = all_within L.same is js (L.follows n) (λ k h.
      within_has L.same is ks (L.follows n) k e (w k h))

  -- ---- what holds of lists of grammars on their way
  pub record Descends (P : List (Grammar N K Y C V R) → Type 0) : Type 0 where
    pub by_token : (ks : List K) (fault : C → Y → Option R) (next : C → Y → C) (build : C → Placed Y
        → V → V) (gs : List (Grammar N K Y C V R)) → P (token ks fault next build ∷ gs) → P gs
    pub by_change : (next : C → C) (build : C → V → V) (gs : List (Grammar N K Y C V R))
        → P (change next build ∷ gs) → P gs
    pub by_sequence : (g h : Grammar N K Y C V R) (gs : List (Grammar N K Y C V R))
        → P (sequence g h ∷ gs) → P (g ∷ h ∷ gs)
    pub by_left : (g h : Grammar N K Y C V R) (gs : List (Grammar N K Y C V R))
        → P (either g h ∷ gs) → P (g ∷ gs)
    pub by_right : (g h : Grammar N K Y C V R) (gs : List (Grammar N K Y C V R))
        → P (either g h ∷ gs) → P (h ∷ gs)
    pub by_none : (g : Grammar N K Y C V R) (gs : List (Grammar N K Y C V R)) → P (many g ∷ gs)
        → P gs
    pub by_more : (g : Grammar N K Y C V R) (gs : List (Grammar N K Y C V R)) → P (many g ∷ gs)
        → P (g ∷ many g ∷ gs)
    pub by_rule : (n : N) (c : C) (gs : List (Grammar N K Y C V R)) → P (rule n ∷ gs)
        → P (L.says n c ∷ gs)

  module _ (P : List (Grammar N K Y C V R) → Type 0) (descends : Descends P) where
    abbrev Leaves : Move N K Y C V R → Type 0
    Leaves (takes f t gs) = P gs
    Leaves (leaves t) = Unit {0}
    Leaves refuses = Unit {0}

    abbrev Opens : Opening L → Type 0
    Opens inner = (n : N) (gs : List (Grammar N K Y C V R)) (s : State C V) (x : Placed Y)
        (skip : State C V → Move N K Y C V R)
        → P (rule n ∷ gs) → ((t : State C V) → P gs → Leaves (skip t))
        → Leaves (inner n gs s x skip)

    module _ (inner : Opening L) (rules : Opens inner) where
      on_left : (g : Grammar N K Y C V R) (gs : List (Grammar N K Y C V R)) (s : State C V)
          (x : Placed Y) (skip : State C V → Move N K Y C V R)
          → P (g ∷ gs) → ((t : State C V) → P gs → Leaves (skip t))
          → Leaves (on L inner g gs s x skip)
      on_left (token ks fault next build) gs s x skip p later =
          cond_both (has L.same ks (L.kind x.lexeme)) (takes _ _ gs) refuses Leaves
          (λ e. descends.by_token ks fault next build gs p) (λ e. tt)
      on_left (change next build) gs s x skip p later = later _ (descends.by_change next build gs p)
      on_left (sequence g h) gs s x skip p later = on_left g (h ∷ gs) s x
          (λ t. on L inner h gs t x skip) (descends.by_sequence g h gs p) (λ t q.
          on_left h gs t x skip q later)
      on_left (either g h) gs s x skip p later =
          cond_both (has L.same (first L g) (L.kind x.lexeme)) (on L inner g gs s x skip)
          (on L inner h gs s x skip) Leaves
          (λ e. on_left g gs s x skip (descends.by_left g h gs p) later)
          (λ e. on_left h gs s x skip (descends.by_right g h gs p) later)
      on_left (many g) gs s x skip p later =
          cond_both (has L.same (first L g) (L.kind x.lexeme)) (on L inner g (many g ∷ gs) s x skip)
          (skip s) Leaves
          (λ e. on_left g (many g ∷ gs) s x skip (descends.by_more g gs p) (λ t q.
          later t (descends.by_none g gs q))) (λ e. later s (descends.by_none g gs p))
      on_left (rule n) gs s x skip p later = rules n gs s x skip p later

    closed_left : Opens (closed L)
    closed_left n gs s x skip p later = tt

    opened_left : Opens (opened L)
    opened_left n gs s x skip p later = on_left (closed L) closed_left (L.says n s.context) gs s x
        skip (descends.by_rule n s.context gs p) later

    move_left : (gs : List (Grammar N K Y C V R)) (s : State C V) (x : Placed Y) → P gs
        → Leaves (move L gs s x)
    move_left [] s x p = tt
    move_left (g ∷ gs) s x p = on_left (opened L) opened_left g gs s x (λ t. move L gs t x) p
        (λ t q. move_left gs t x q)

    pub descended : (gs hs : List (Grammar N K Y C V R)) (s u : State C V) (x : Placed Y)
        (f : Option R) → P gs → move L gs s x ≡ takes f u hs → P hs
    descended gs hs s u x f p e = subst Leaves e (move_left gs s x p)

  -- ---- the last grammar
  ends_more : (b : Bool) (gs : List (Grammar N K Y C V R)) → ends_by_token false gs ≡ true
      → ends_by_token b gs ≡ true
  ends_more b [] e = absurd (cc)
  ends_more b (g ∷ gs) e = e

  pub ends_descends : Descends (λ gs. ends_by_token true gs ≡ true)
  ends_descends = record {
    by_token = λ ks fault next build gs p. p;
    by_change = λ next build gs p. ends_more true gs p;
    by_sequence = λ g h gs p. ends_more (is_token h) gs p;
    by_left = λ g h gs p. ends_more (is_token g) gs p;
    by_right = λ g h gs p. ends_more (is_token h) gs p;
    by_none = λ g gs p. ends_more true gs p;
    by_more = λ g gs p. p;
    by_rule = λ n c gs p. ends_more (is_token (L.says n c)) gs p;
  }

  pub nothing_derived : {gs : List (Grammar N K Y C V R)} {s t : State C V}
      {ms : List (Mark (Placed Y) R)} → Derives L gs s ms t → ms ≡ [] → ends_by_token false gs
      ≡ true → ⊥
  nothing_derived derives_nothing e p = absurd (cc)
  nothing_derived (derives_token k w) e p = absurd (cc)
  nothing_derived (derives_change w) e p = nothing_derived w e p
  nothing_derived (derives_sequence {h = h} {gs = gs} w) e p =
      nothing_derived w e (ends_more (is_token h) gs p)
  nothing_derived (derives_left {g = g} {gs = gs} w) e p =
      nothing_derived w e (ends_more (is_token g) gs p)
  nothing_derived (derives_right {h = h} {gs = gs} w) e p =
      nothing_derived w e (ends_more (is_token h) gs p)
  nothing_derived (derives_none w) e p = nothing_derived w e p
  nothing_derived (derives_more w) e p = nothing_derived w e p
  nothing_derived (derives_rule {n = n} {gs = gs} {s = s} w) e p =
      nothing_derived w e (ends_more (is_token (L.says n s.context)) gs p)

  -- ---- the choices of what is fit
  pub choice_apart : (g h : Grammar N K Y C V R) (gs : List (Grammar N K Y C V R)) (ks : List K)
      → are_fit L (either g h ∷ gs) ks ≡ true
      → (not (may_be_empty L g) ≡ true) × (apart L.same (first L g) (first_of L (h ∷ gs) ks) ≡ true)
  choice_apart g h gs ks e =
      let f = first_of L gs ks in
      let p = and_parts (is_fit L (either g h) f) (are_fit L gs ks) e in
      let q = and_parts (is_fit L g f && is_fit L h f) (not (may_be_empty L g) && apart L.same
      (first L g) (first_then L h f)) p.0 in
      and_parts (not (may_be_empty L g)) (apart L.same (first L g) (first_then L h f)) q.1

  pub repetition_apart : (g : Grammar N K Y C V R) (gs : List (Grammar N K Y C V R)) (ks : List K)
      → are_fit L (many g ∷ gs) ks ≡ true
      → (not (may_be_empty L g) ≡ true) × (apart L.same (first L g) (first_of L gs ks) ≡ true)
  repetition_apart g gs ks e =
      let f = first_of L gs ks in
      let p = and_parts (is_fit L (many g) f) (are_fit L gs ks) e in
      let q = and_parts (is_fit L g (first L g ++ f)) (not (may_be_empty L g) && apart L.same
      (first L g) f) p.0 in
      and_parts (not (may_be_empty L g)) (apart L.same (first L g) f) q.1

  module _ (checked : IsChecked L) (ks : List K) where
    abbrev AreFit : List (Grammar N K Y C V R) → Type 0
    AreFit gs = are_fit L gs ks ≡ true

    of_sequence : (g h : Grammar N K Y C V R) (gs : List (Grammar N K Y C V R))
        → AreFit (sequence g h ∷ gs) → AreFit (g ∷ h ∷ gs)
    of_sequence g h gs e =
        let f = first_of L gs ks in
        let p = and_parts (is_fit L (sequence g h) f) (are_fit L gs ks) e in
        let q = and_parts (is_fit L g (first_then L h f)) (is_fit L h f) p.0 in
        and_from (is_fit L g (first_then L h f)) (is_fit L h f && are_fit L gs ks) q.0
        (and_from (is_fit L h f) (are_fit L gs ks) q.1 p.1)

    of_either : (g h : Grammar N K Y C V R) (gs : List (Grammar N K Y C V R))
        → AreFit (either g h ∷ gs) → AreFit (g ∷ gs) × AreFit (h ∷ gs)
    of_either g h gs e =
        let f = first_of L gs ks in
        let p = and_parts (is_fit L (either g h) f) (are_fit L gs ks) e in
        let q = and_parts (is_fit L g f && is_fit L h f) (not (may_be_empty L g) && apart L.same
        (first L g) (first_then L h f)) p.0 in
        let r = and_parts (is_fit L g f) (is_fit L h f) q.0 in (
          and_from (is_fit L g f) (are_fit L gs ks) r.0 p.1,
          and_from (is_fit L h f) (are_fit L gs ks) r.1 p.1,
        )

    of_many : (g : Grammar N K Y C V R) (gs : List (Grammar N K Y C V R)) → AreFit (many g ∷ gs)
        → AreFit (g ∷ many g ∷ gs)
    of_many g gs e =
        let f = first_of L gs ks in
        let p = and_parts (is_fit L (many g) f) (are_fit L gs ks) e in
        let q = and_parts (is_fit L g (first L g ++ f)) (not (may_be_empty L g) && apart L.same
        (first L g) f) p.0 in
        and_from (is_fit L g (first L g ++ f)) (are_fit L (many g ∷ gs) ks) q.0 e

    of_rule : (n : N) (c : C) (gs : List (Grammar N K Y C V R)) → AreFit (rule n ∷ gs)
        → AreFit (L.says n c ∷ gs)
    of_rule n c gs e =
        let f = first_of L gs ks in
        let p = and_parts (within L.same f (L.follows n)) (are_fit L gs ks) e in
        and_from (is_fit L (L.says n c) f) (are_fit L gs ks) (narrower checked.kinds (L.says n c) f
        (L.follows n) (λ k h. within_has L.same checked.kinds f (L.follows n) k p.0 h)
        (checked.fit n c)) p.1

    pub fit_descends : Descends AreFit
    fit_descends = record {
      by_token = λ js fault next build gs e.
          (and_parts (is_fit L (token js fault next build) (first_of L gs ks)) (are_fit L gs ks)
          e).1;
      by_change = λ next build gs e. e;
      by_sequence = of_sequence;
      by_left = λ g h gs e. (of_either g h gs e).0;
      by_right = λ g h gs e. (of_either g h gs e).1;
      by_none = λ g gs e. (and_parts (is_fit L (many g) (first_of L gs ks)) (are_fit L gs ks) e).1;
      by_more = of_many;
      by_rule = of_rule;
    }
