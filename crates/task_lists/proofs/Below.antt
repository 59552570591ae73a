-- Products below a monomial, place by place.
--   BelowFrom i         whether all are below depends on the places from i on alone
--   below_start, below_more, below_end     from the first place, from the next, and behind the last
--   below_fails         where the one at a place isn't below
use Rattle.std.proofs.Common.{◌≡◌, ◌↔◌, ℕ, suc, ◌+◌, ◌<◌, ◌≤◌, Bool, true, false, List, [], ◌∷◌, get_or, drop, length, IsTrue, sym, ap, subst, ◌∙◌, add-one, true≢false}
use Rattle.std.proofs.Math.Seq.{drop-cons}
use Rattle.std.proofs.lemmas.List.{drop_all}
use Rattle.algebra.specs.FieldArithmetic.{FieldArithmetic}
use Rattle.polynomials.specs.Order.{Rank}
use Rattle.polynomials.specs.Terms.{Terms, times}
use Rattle.corollaries.specs.Representation.{IsLeadBelow, AreBelow}

module _ {A : Type 0} (F : FieldArithmetic A) (O : Rank) (e : List ℕ) (qs gs : List (Terms A)) where
  abbrev pub BelowFrom : ℕ → Type 0
  BelowFrom i = AreBelow F O e qs gs ↔ AreBelow F O e (drop i qs) (drop i gs)

  pub below_start : BelowFrom 0
  below_start = (λ h. h, λ h. h)

  pub below_end : (i : ℕ) → length qs ≤ i → BelowFrom i → AreBelow F O e qs gs
  unfolding AreBelow
  below_end i l h = h.1 (subst (λ xs. AreBelow F O e xs (drop i gs)) (sym (drop_all i qs l)) tt)

  module _ {i : ℕ} {q g : Terms A} (k : i < length qs) (l : i < length gs) (is : q ≡ get_or qs i [])
      (at : g ≡ get_or gs i []) (so_far : BelowFrom i) where
    left : drop i qs ≡ q ∷ drop (suc i) qs
    left = drop-cons qs i [] k ∙ ap (λ x. x ∷ drop (suc i) qs) (sym is)

    right : drop i gs ≡ g ∷ drop (suc i) gs
    right = drop-cons gs i [] l ∙ ap (λ x. x ∷ drop (suc i) gs) (sym at)

    taken : AreBelow F O e qs gs → AreBelow F O e (q ∷ drop (suc i) qs) (g ∷ drop (suc i) gs)
    taken h = subst (λ x. AreBelow F O e x (g ∷ drop (suc i) gs)) left
        (subst (λ y. AreBelow F O e (drop i qs) y) right (so_far.0 h))

    given : AreBelow F O e (q ∷ drop (suc i) qs) (g ∷ drop (suc i) gs) → AreBelow F O e qs gs
    given h = so_far.1 (subst (λ x. AreBelow F O e x (drop i gs)) (sym left)
        (subst (λ y. AreBelow F O e (q ∷ drop (suc i) qs) y) (sym right) h))

    pub below_more : {b : Bool} → (IsTrue b ↔ IsLeadBelow F O e (times F.arithmetic q g)) → b ≡ true
        → BelowFrom (i + 1)
    unfolding AreBelow
    below_more tells t = subst BelowFrom (sym (add-one i))
        (λ h. (taken h).1, λ h. given (tells.0 t, h))

    pub below_fails : {b : Bool} → (IsTrue b ↔ IsLeadBelow F O e (times F.arithmetic q g))
        → b ≡ false → AreBelow F O e qs gs → ⊥
    unfolding AreBelow
    below_fails tells f h = true≢false (sym (tells.1 (taken h).0) ∙ f)
