-- Lists of polynomials compared place by place.
--   AgreesFrom i            whether the lists are the same depends on the places from i on alone
--   agrees_more, agrees_end     from the next place, and behind the last
--   agrees_not              where a place differs
use Rattle.std.proofs.Common.{◌≡◌, ◌↔◌, ℕ, suc, ◌+◌, ◌<◌, ◌≤◌, List, [], ◌∷◌, get_or, drop, length, sym, ap, subst, subst₂, ◌∙◌, add-one}
use Rattle.std.proofs.Math.Seq.{drop-cons}
use Rattle.std.proofs.lemmas.List.{drop_all}
use Rattle.algebra.specs.Arithmetic.{Arithmetic}
use Rattle.polynomials.specs.Terms.{Terms, Same, AllSame}

module _ {A : Type 0} (N : Arithmetic A) (ps qs : List (Terms A)) where
  abbrev pub AgreesFrom : ℕ → Type 0
  AgreesFrom i = AllSame N ps qs ↔ AllSame N (drop i ps) (drop i qs)

  pub agrees_end : (i : ℕ) → length ps ≤ i → length qs ≤ i → AgreesFrom i → AllSame N ps qs
  unfolding AllSame
  agrees_end i k l h = h.1 (subst₂ (AllSame N) (sym (drop_all i ps k)) (sym (drop_all i qs l)) tt)

  module _ (i : ℕ) {p q : Terms A} (k : i < length ps) (l : i < length qs) (is : p ≡ get_or ps i [])
      (at : q ≡ get_or qs i []) (so_far : AgreesFrom i) where
    taken : AllSame N ps qs → AllSame N (p ∷ drop (suc i) ps) (q ∷ drop (suc i) qs)
    taken h = subst₂ (AllSame N)
        (drop-cons ps i [] k ∙ ap (λ x. x ∷ drop (suc i) ps) (sym is))
        (drop-cons qs i [] l ∙ ap (λ x. x ∷ drop (suc i) qs) (sym at)) (so_far.0 h)

    given : AllSame N (p ∷ drop (suc i) ps) (q ∷ drop (suc i) qs) → AllSame N ps qs
    given h = so_far.1 (subst₂ (AllSame N)
        (sym (drop-cons ps i [] k ∙ ap (λ x. x ∷ drop (suc i) ps) (sym is)))
        (sym (drop-cons qs i [] l ∙ ap (λ x. x ∷ drop (suc i) qs) (sym at))) h)

    pub agrees_more : Same N p q → AgreesFrom (i + 1)
    unfolding AllSame
    agrees_more same = subst AgreesFrom (sym (add-one i))
        (λ h. (taken h).1, λ h. given (same, h))

    pub agrees_not : (Same N p q → ⊥) → AllSame N ps qs → ⊥
    unfolding AllSame
    agrees_not n h = n (taken h).0
