-- Polynomials with other exponents for their own: the same of the same.
--   same_retold          p with h e for its exponents e
--   same_normalized      made normal
use Rattle.std.proofs.Common.{◌≡◌, ℕ, List, [], ◌∷◌, refl, sym, ap, ◌∙◌}
use Rattle.algebra.specs.Ring.{CommRing, operations}
use Rattle.algebra.proofs.Homs.{id_hom}
use Rattle.polynomials.specs.Exponent.{exponents}
use Rattle.polynomials.specs.Terms.{Terms, Same, retold}
use Rattle.polynomials.proofs.Algebra.{gather, gather-nil, gather-cons, gather_same, same_of_gather}
use Rattle.polynomials.proofs.Exponent.{exponents_monoid}
use Rattle.exponentials.specs.Keys.{normal_key, top}
use Rattle.solvable_maps.specs.Expo.{tail, with_key, with_normal_keys}

module _ {A : Type 0} (R : CommRing A) where
  gather-retold : (f : List ℕ → A) (h : List ℕ → List ℕ) (p : Terms A)
      → gather (id_hom R) f (retold h p) ≡ gather (id_hom R) (λ e. f (h e)) p
  unfolding retold
  gather-retold f h [] = gather-nil (id_hom R) f ∙ sym (gather-nil (id_hom R) (λ e. f (h e)))
  gather-retold f h (t ∷ p) =
      gather-cons (id_hom R) f (h t.0, t.1) (retold h p)
      ∙ ap (R.add (R.mul t.1 (f (h t.0)))) (gather-retold f h p)
      ∙ sym (gather-cons (id_hom R) (λ e. f (h e)) t p)

  pub same_retold : (h : List ℕ → List ℕ) (p q : Terms A) → Same (operations R) p q
      → Same (operations R) (retold h p) (retold h q)
  same_retold h p q s = same_of_gather exponents exponents_monoid R
      (λ f. gather-retold f h p ∙ gather_same exponents exponents_monoid (id_hom R) s (λ e. f (h e))
      ∙ sym (gather-retold f h q))

  abbrev normal_exponents : ℕ → List ℕ → List ℕ
  normal_exponents r e = with_key (top e) (normal_key r e) (tail r e)

  normalized-retold : (r : ℕ) (p : Terms A) → retold (normal_exponents r) p ≡ with_normal_keys r p
  unfolding retold
  normalized-retold r [] = refl
  normalized-retold r (t ∷ p) = ap (λ q. (normal_exponents r t.0, t.1) ∷ q) (normalized-retold r p)

  pub same_normalized : (r : ℕ) (p q : Terms A) → Same (operations R) p q
      → Same (operations R) (with_normal_keys r p) (with_normal_keys r q)
  same_normalized r p q s = rw (sym (normalized-retold r p)) (rw (sym (normalized-retold r q))
      (same_retold (normal_exponents r) p q s))
