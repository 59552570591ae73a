-- What is read is a text, none of its tokens at fault, and back.
--   AreDerived gs s x d     with what d says of the token x, a text of gs
--   move_derived       so it is of each move
--   read_is_derived    what is read is derived
--   derived_is_read    what whole grammars derive is read
--   whole_read         the two together
use Rattle.std.proofs.Common.{◌≡◌, List, [], ◌∷◌, refl, ◌++◌, ap, sym, subst, ◌∙◌, append-nil, true, Some, None, ◌↔◌}
use Rattle.std.proofs.lemmas.Bool.{cond_both}
use Rattle.grammars.specs.Kinds.{has}
use Rattle.grammars.specs.Grammar.{Placed, State, Grammar, token, change, sequence, either, many, rule, Language, after_token}
use Rattle.grammars.specs.Derivation.{Mark, Derives, derives_nothing, derives_token, derives_change, derives_sequence, derives_left, derives_right, derives_none, derives_more, derives_rule}
use Rattle.grammars.specs.First.{first}
use Rattle.grammars.specs.Reader.{Move, takes, leaves, refuses, Opening, on, closed, opened, move, ReadResult, reads, by_move, read, at_text_end, read_whole}
use Rattle.grammars.specs.Checked.{ends_by_token, are_fit, IsChecked, IsWhole}
use Rattle.grammars.specs.FirstFault.{sound, sounds}
use Rattle.grammars.specs.Spelled.{IsRead}
use Rattle.grammars.proofs.Fit.{descended, nothing_derived, ends_descends, fit_descends}
use Rattle.grammars.proofs.Taken.{taken}

module _ {N K Y C V R : Type 0} (L : Language N K Y C V R) where
  abbrev pub AreDerived : List (Grammar N K Y C V R) → State C V → Placed Y → Move N K Y C V R
      → Type 0
  AreDerived gs s x (takes f t hs) = (ms : List (Mark (Placed Y) R)) (u : State C V)
      → Derives L hs t ms u → Derives L gs s (record { symbol = x; fault = f } ∷ ms) u
  AreDerived gs s x (leaves t) = Derives L gs s [] t
  AreDerived gs s x refuses = Unit {0}

  turned : {gs hs : List (Grammar N K Y C V R)} {s t : State C V} (x : Placed Y)
      (d : Move N K Y C V R)
      → ((ms : List (Mark (Placed Y) R)) (u : State C V) → Derives L gs s ms u
      → Derives L hs t ms u) → AreDerived gs s x d → AreDerived hs t x d
  turned x (takes f u ls) by is = λ ms v w. by (record { symbol = x; fault = f } ∷ ms) v (is ms v w)
  turned x (leaves u) by is = by [] u is
  turned x refuses by is = tt

  -- rules are opened so that what is taken is derived
  abbrev OpensDerived : Opening L → Type 0
  OpensDerived inner = (n : N) (gs : List (Grammar N K Y C V R)) (s : State C V) (x : Placed Y)
      (skip : State C V → Move N K Y C V R)
      → ((t : State C V) → AreDerived gs t x (skip t))
      → AreDerived (rule n ∷ gs) s x (inner n gs s x skip)

  module _ (inner : Opening L) (rules : OpensDerived inner) where
    on_derived : (g : Grammar N K Y C V R) (gs : List (Grammar N K Y C V R)) (s : State C V)
        (x : Placed Y) (skip : State C V → Move N K Y C V R)
        → ((t : State C V) → AreDerived gs t x (skip t))
        → AreDerived (g ∷ gs) s x (on L inner g gs s x skip)
    on_derived (token ks fault next build) gs s x skip later =
        cond_both (has L.same ks (L.kind x.lexeme)) (takes (fault s.context x.lexeme)
        (after_token next build s x) gs) refuses (AreDerived (token ks fault next build ∷ gs)
        s x) (λ e ms u w. derives_token e w) (λ e. tt)
    on_derived (change next build) gs s x skip later =
        turned x (skip _) (λ ms u w. derives_change w) (later _)
    on_derived (sequence g h) gs s x skip later =
        turned x (on L inner g (h ∷ gs) s x (λ t. on L inner h gs t x skip)) (λ ms u w.
        derives_sequence w)
        (on_derived g (h ∷ gs) s x (λ t. on L inner h gs t x skip)
        (λ t. on_derived h gs t x skip later))
    on_derived (either g h) gs s x skip later =
        cond_both (has L.same (first L g) (L.kind x.lexeme)) (on L inner g gs s x skip)
        (on L inner h gs s x skip) (AreDerived (either g h ∷ gs) s x)
        (λ e. turned x (on L inner g gs s x skip) (λ ms u w. derives_left w)
        (on_derived g gs s x skip later))
        (λ e. turned x (on L inner h gs s x skip) (λ ms u w. derives_right w)
        (on_derived h gs s x skip later))
    on_derived (many g) gs s x skip later =
        cond_both (has L.same (first L g) (L.kind x.lexeme)) (on L inner g (many g ∷ gs) s x skip)
        (skip s) (AreDerived (many g ∷ gs) s x)
        (λ e. turned x (on L inner g (many g ∷ gs) s x skip) (λ ms u w. derives_more w)
        (on_derived g (many g ∷ gs) s x skip (λ t. turned x (skip t) (λ ms u w. derives_none w)
        (later t))))
        (λ e. turned x (skip s) (λ ms u w. derives_none w) (later s))
    on_derived (rule n) gs s x skip later = rules n gs s x skip later

  closed_derived : OpensDerived (closed L)
  closed_derived n gs s x skip later = tt

  opened_derived : OpensDerived (opened L)
  opened_derived n gs s x skip later =
      turned x (on L (closed L) (L.says n s.context) gs s x skip) (λ ms u w. derives_rule w)
      (on_derived (closed L) closed_derived (L.says n s.context) gs s x skip later)

  pub move_derived : (gs : List (Grammar N K Y C V R)) (s : State C V) (x : Placed Y)
      → AreDerived gs s x (move L gs s x)
  move_derived [] s x = derives_nothing
  move_derived (g ∷ gs) s x = on_derived (opened L) opened_derived g gs s x (λ t. move L gs t x)
      (λ t. move_derived gs t x)

module _ {N K Y C V R : Type 0} (L : Language N K Y C V R) where
  pub record ReadUpTo (gs : List (Grammar N K Y C V R)) (s : State C V) (ts : List (Placed Y))
      (t : State C V) (rest : List (Placed Y)) : Type 0 where
    pub front : List (Placed Y)
    pub tokens : ts ≡ front ++ rest
    pub derivation : IsRead L gs s front t

  stops : (gs : List (Grammar N K Y C V R)) (s t u : State C V) (ts rest : List (Placed Y))
      → IsRead L gs s [] u → ◌≡◌ {A = ReadResult Y C V R} (reads u ts) (reads t rest)
      → ReadUpTo gs s ts t rest
  stops gs s t u ts rest w e =
      let same : u ≡ t = cc in
      let tokens : ts ≡ rest = cc in
      record { front = []; tokens = tokens; derivation = subst (IsRead L gs s []) same w }

  pub read_is_derived : (ts : List (Placed Y)) (gs : List (Grammar N K Y C V R)) (s t : State C V)
      (rest : List (Placed Y)) → read L gs s ts ≡ reads t rest → ReadUpTo gs s ts t rest
  unfolding read
  read_is_derived [] [] s t rest e = stops [] s t s [] rest derives_nothing e
  read_is_derived [] (g ∷ gs) s t rest e = absurd (cc)
  read_is_derived (x ∷ xs) gs s t rest e = go (move L gs s x) (move_derived L gs s x) (λ hs u.
      read_is_derived xs hs u t rest) e
    where
      go : (d : Move N K Y C V R) → AreDerived L gs s x d
          → ((hs : List (Grammar N K Y C V R)) (u : State C V) → read L hs u xs ≡ reads t rest
          → ReadUpTo hs u xs t rest)
          → by_move L d x xs (λ u hs. read L hs u xs) ≡ reads t rest → ReadUpTo gs s (x ∷ xs) t rest
      go (takes None u hs) is later e = let p = later hs u e in
          record {
            front = x ∷ p.front;
            tokens = ap (λ xs. x ∷ xs) p.tokens;
            derivation = is (sounds p.front) t p.derivation;
          }
      go (takes (Some why) u hs) is later e = absurd (cc)
      go (leaves u) is later e = stops gs s t u (x ∷ xs) rest is e
      go refuses is later e = absurd (cc)

  whole_is_derived : (gs : List (Grammar N K Y C V R)) (s t : State C V) (ts : List (Placed Y))
      → read_whole L gs s ts ≡ reads t [] → IsRead L gs s ts t
  whole_is_derived gs s t ts e =
      let p = read_is_derived ts gs s t [] (go (read L gs s ts) e) in
      subst (λ ts. IsRead L gs s ts t) (sym (p.tokens ∙ append-nil p.front)) p.derivation
    where
      go : (a : ReadResult Y C V R) → at_text_end L a ≡ reads t [] → a ≡ reads t []
      go (reads u (x ∷ xs)) e = absurd (cc)
      go a e = e

  nothing_left : (gs : List (Grammar N K Y C V R)) (s t : State C V) → ends_by_token true gs ≡ true
      → IsRead L gs s [] t → read_whole L gs s [] ≡ reads t []
  unfolding read
  nothing_left [] s t e w = ap (λ t. reads t []) (same w)
    where
      same : {s t : State C V} {ms : List (Mark (Placed Y) R)} → Derives L [] s ms t → s ≡ t
      same derives_nothing = refl
  nothing_left (g ∷ gs) s t e w = absurd (nothing_derived L w refl e)

  module _ (checked : IsChecked L) where
    derived_is_read : (ts : List (Placed Y)) (gs : List (Grammar N K Y C V R)) (s t : State C V)
        → are_fit L gs [] ≡ true → ends_by_token true gs ≡ true → IsRead L gs s ts t
        → read_whole L gs s ts ≡ reads t []
    unfolding read
    derived_is_read [] gs s t fit ends w = nothing_left gs s t ends w
    derived_is_read (x ∷ xs) gs s t fit ends w =
        let n = taken L checked w (sound x) (sounds xs) refl [] fit in
        ap (λ d. at_text_end L (by_move L d x xs (λ u hs. read L hs u xs))) n.is
        ∙ derived_is_read xs n.left n.state t
        (descended L (λ gs. are_fit L gs [] ≡ true) (fit_descends L checked []) gs n.left s n.state
        x None fit n.is)
        (descended L (λ gs. ends_by_token true gs ≡ true) (ends_descends L) gs n.left s n.state x
        None ends n.is) n.rest

    pub whole_read : (gs : List (Grammar N K Y C V R)) → IsWhole L gs
        → (s t : State C V) (ts : List (Placed Y)) → (read_whole L gs s ts ≡ reads t [])
        ↔ IsRead L gs s ts t
    whole_read gs whole s t ts = (
      whole_is_derived gs s t ts,
      derived_is_read ts gs s t whole.fit
          whole.ends,
    )
