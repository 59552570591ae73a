-- What grammars derive is taken by their reader.
--   Taken d m ms t     d takes the mark m, and what is left derives ms
--   taken              so it is
use Rattle.std.proofs.Common.{◌≡◌, List, ◌∷◌, refl, sym, subst, Bool, true, false, if◌then◌else◌}
use Rattle.std.proofs.lemmas.Bool.{cond-true, cond-false}
use Rattle.algebra.proofs.Basics.{same_head, same_tail}
use Rattle.grammars.specs.Kinds.{has}
use Rattle.grammars.specs.Grammar.{Placed, State, Grammar, token, many, Language, after_token}
use Rattle.grammars.specs.Derivation.{Mark, Derives, derives_nothing, derives_token, derives_change, derives_sequence, derives_left, derives_right, derives_none, derives_more, derives_rule}
use Rattle.grammars.specs.First.{first, first_of}
use Rattle.grammars.specs.Reader.{Move, takes, refuses, move}
use Rattle.grammars.specs.Checked.{are_fit, IsChecked}
use Rattle.grammars.proofs.KindSets.{apart_none}
use Rattle.grammars.proofs.Begun.{first_full, first_derived}
use Rattle.grammars.proofs.Steady.{full_steady, move_rule}
use Rattle.grammars.proofs.Fit.{choice_apart, repetition_apart, fit_descends}

module _ {N K Y C V R : Type 0} (L : Language N K Y C V R) where
  pub record Taken (d : Move N K Y C V R) (m : Mark (Placed Y) R) (ms : List (Mark (Placed Y) R))
      (t : State C V) : Type 0 where
    pub state : State C V
    pub left : List (Grammar N K Y C V R)
    pub is : d ≡ takes m.fault state left
    pub rest : Derives L left state ms t

  module _ {m : Mark (Placed Y) R} {ms : List (Mark (Placed Y) R)} {t : State C V} (b : Bool) where
    if_so : {d : Move N K Y C V R} (e : Move N K Y C V R) → b ≡ true → Taken d m ms t
        → Taken (if b then d else e) m ms t
    if_so {d} e h k = subst (λ d. Taken d m ms t) (sym (cond-true b d e h)) k

    if_not : (d : Move N K Y C V R) {e : Move N K Y C V R} → b ≡ false → Taken e m ms t
        → Taken (if b then d else e) m ms t
    if_not d {e} h k = subst (λ d. Taken d m ms t) (sym (cond-false b d e h)) k

  module _ (checked : IsChecked L) where
    pub taken : {gs : List (Grammar N K Y C V R)} {s t : State C V} {ls : List (Mark (Placed Y) R)}
        → Derives L gs s ls t
        → (m : Mark (Placed Y) R) (ms : List (Mark (Placed Y) R)) → ls ≡ m ∷ ms → (ks : List K)
        → are_fit L gs ks ≡ true → Taken (move L gs s m.symbol) m ms t
    taken derives_nothing m ms e ks fit = absurd (cc)
    taken (derives_token {ks = js} {fault = fault} {next = next} {build = build} {gs = gs} {s = s}
        {t = t} {x = x} {ms = ls} h w) m ms e ks fit =
        subst (λ ms. Taken (move L (token js fault next build ∷ gs) s m.symbol) m ms t)
        (same_tail e)
        (subst (λ (m : Mark (Placed Y) R).
        Taken (move L (token js fault next build ∷ gs) s m.symbol) m ls t) (same_head e)
        (if_so (has L.same js (L.kind x.lexeme)) refuses h
        (record { state = after_token next build s x; left = gs; is = refl; rest = w })))
    taken (derives_change {next = next} {build = build} {gs = gs} w) m ms e ks fit =
        taken w m ms e ks fit
    taken (derives_sequence {g = g} {h = h} {gs = gs} w) m ms e ks fit =
        taken w m ms e ks ((fit_descends L checked ks).by_sequence g h gs fit)
    taken (derives_left {g = g} {h = h} {gs = gs} w) m ms e ks fit =
        if_so (has L.same (first L g) (L.kind m.symbol.lexeme)) _
        (first_full L g (first_of L gs ks) (L.kind m.symbol.lexeme) (first_derived L checked w m ms
        e ks) (choice_apart L g h gs ks fit).0)
        (taken w m ms e ks ((fit_descends L checked ks).by_left g h gs fit))
    taken (derives_right {g = g} {h = h} {gs = gs} w) m ms e ks fit =
        if_not (has L.same (first L g) (L.kind m.symbol.lexeme)) _
        (apart_none L.same checked.kinds (first L g) (first_of L (h ∷ gs) ks)
        (L.kind m.symbol.lexeme) (choice_apart L g h gs ks fit).1
        (first_derived L checked w m ms e ks))
        (taken w m ms e ks ((fit_descends L checked ks).by_right g h gs fit))
    taken (derives_none {g = g} {gs = gs} w) m ms e ks fit =
        if_not (has L.same (first L g) (L.kind m.symbol.lexeme)) _
        (apart_none L.same checked.kinds (first L g) (first_of L gs ks) (L.kind m.symbol.lexeme)
        (repetition_apart L g gs ks fit).1 (first_derived L checked w m ms e ks))
        (taken w m ms e ks ((fit_descends L checked ks).by_none g gs fit))
    taken (derives_more {g = g} {gs = gs} {s = s} {t = t} w) m ms e ks fit =
        let full = (repetition_apart L g gs ks fit).0 in
        if_so (has L.same (first L g) (L.kind m.symbol.lexeme)) _
        (first_full L g (first_of L (many g ∷ gs) ks) (L.kind m.symbol.lexeme)
        (first_derived L checked w m ms e ks) full)
        (subst (λ d. Taken d m ms t) (full_steady L checked g (many g ∷ gs) s m.symbol
        (λ t. move L (many g ∷ gs) t m.symbol) (λ t. move L gs t m.symbol) full)
        (taken w m ms e ks ((fit_descends L checked ks).by_more g gs fit)))
    taken (derives_rule {n = n} {gs = gs} {s = s} {t = t} w) m ms e ks fit =
        subst (λ d. Taken d m ms t) (sym (move_rule L checked n gs s m.symbol))
        (taken w m ms e ks ((fit_descends L checked ks).by_rule n s.context gs fit))
