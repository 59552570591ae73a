-- Relations, of two terms each.
--   block_polynomial                         polynomials of the code in an order by blocks are polynomials in that order
--   two_items                                a list to which two were pushed
--   terms_relation                           a relation, of its two terms
--   terms_apart, terms_long                  these have different exponents, as many as they are of
--   relation_is                              the one in descending order
use Rattle.std.proofs.Common.{◌≡◌, ◌≢◌, ℕ, ◌+◌, ◌<◌, List, [], ◌∷◌, ◌++◌, length, replicate, sym, ap, ap₂, subst, ◌∙◌, arith}
use Rattle.std.specs.List.{All}
use Rattle.std.proofs.lemmas.List.Elements.{All-nil, All-cons}
use Rattle.std.proofs.lemmas.List.Kept.{AllPairs-cons}
use Rattle.algebra.specs.Fraction.{Fraction, ℚ}
use Rattle.algebra.proofs.Fractions.{ℚ_field}
use Rattle.polynomials.specs.Exponent.{plus}
use Rattle.polynomials.specs.Order.{grevlex, blocks}
use Rattle.polynomials.specs.Polynomial.{IsPolynomial}
use Rattle.polynomials.specs.Terms.{Same}
use Rattle.polynomials.proofs.Arity.{length-zeros}
use Rattle.polynomials.proofs.Exponent.{length-plus_same}
use Rattle.polynomials.proofs.Orders.{grevlex_order, blocks_order}
use Rattle.solvable_maps.specs.Uses.{unit}
use Rattle.machines.proofs.Collecting.{collect-is}
use Rattle.frac128.specs.declared.fraction.Frac.{Frac}
use Rattle.frac128.specs.FracMeaning.{fraction_of}
use Rattle.poly.specs.declared.Term.{Term}
use Rattle.poly.specs.Operations.{AreDistinct}
use Rattle.poly.specs.Seen.{terms_in}
use Rattle.poly.specs.View.{terms_of}
use Rattle.rounds.specs.Form.{front, relation, orbit_order}
use Rattle.task_lists.specs.Blocks.{Blocked, relation_of}
use Rattle.solvable_maps.proofs.Exponents.{length-unit}
use Rattle.rounds.proofs.RelationTerms.{relation_terms, relation_arity, product_apart}

pub block_polynomial : (n m : ℕ) (p : Blocked) → p.order.first ≡ n → p.arity ≡ m
    → IsPolynomial ℚ (blocks n grevlex grevlex) m (terms_in p)
block_polynomial n m p e f = subst (λ j. IsPolynomial ℚ (blocks j grevlex grevlex) m (terms_in p)) e
    (subst (λ k. IsPolynomial ℚ (blocks p.order.first grevlex grevlex) k (terms_in p)) f
    p.polynomial)

pub two_items : {X : Type 0} {none one two : List X} (a b : X) → none ≡ [] → one ≡ none ++ a ∷ []
    → two ≡ one ++ b ∷ [] → two ≡ a ∷ b ∷ []
two_items a b e f g = g ∙ ap (λ l. l ++ b ∷ []) (f ∙ ap (λ l. l ++ a ∷ []) e)

module _ (w i j : ℕ) (l : i < w) (k : j < w) {items : List (Term Frac)} {s t : Term Frac}
    (are : items ≡ s ∷ t ∷ []) (product : s.mono ≡ plus (unit w i) (unit w j))
    (one : fraction_of s.coef ≡ ℚ.one) (none : t.mono ≡ replicate w 0)
    (less : fraction_of t.coef ≡ ℚ.neg ℚ.one) where
  pub terms_relation : terms_of fraction_of items ≡ relation w i j
  terms_relation =
      ap (terms_of fraction_of) are
      ∙ ap₂ (λ (a b : List ℕ × Fraction). a ∷ b ∷ []) (ap₂ (λ (d : List ℕ) (c : Fraction). (d, c))
      product one) (ap₂ (λ (d : List ℕ) (c : Fraction). (d, c)) none less)
      ∙ sym (relation_terms w i j l k)

  pub terms_long : All (λ (u : Term Frac). length u.mono ≡ w) items
  terms_long =
      subst (All (λ (u : Term Frac). length u.mono ≡ w)) (sym are)
      (All-cons (λ (u : Term Frac). length u.mono ≡ w) s (t ∷ []) (ap length product ∙ product_long)
      (All-cons (λ (u : Term Frac). length u.mono ≡ w) t [] (ap length none ∙ length-zeros w)
      (All-nil (λ (u : Term Frac). length u.mono ≡ w))))
    where
      product_long : length (plus (unit w i) (unit w j)) ≡ w
      product_long = length-plus_same (unit w i) (unit w j) (length-unit w i
          ∙ sym (length-unit w j)) ∙ length-unit w j

  pub terms_apart : AreDistinct items
  terms_apart =
      subst AreDistinct (sym are)
      (AllPairs-cons (λ (u v : Term Frac). u.mono ≢ v.mono) s (t ∷ [])
      (All-cons (λ (v : Term Frac). s.mono ≢ v.mono) t [] (λ e. product_apart w i j l (sym product
      ∙ e ∙ none)) (All-nil (λ (v : Term Frac). s.mono ≢ v.mono)))
      (AllPairs-cons (λ (u v : Term Frac). u.mono ≢ v.mono) t []
      (All-nil (λ (v : Term Frac). t.mono ≢ v.mono)) (λ a b d m n.
      absurd (omega (arith, n)))))

pub relation_is : (r m i j : ℕ) → i < front r → j < front r → (p : Blocked)
    → p.order.first ≡ front r → p.arity ≡ front r + m
    → Same ℚ (terms_in p) (relation (front r + m) i j) → terms_in p ≡ relation_of r m i j
relation_is r m i j l k p e f s =
    collect-is ℚ_field (orbit_order r) (blocks_order (front r) grevlex grevlex grevlex_order
    grevlex_order) (front r + m) (relation (front r + m) i j) (terms_in p)
    (relation_arity (front r + m) i j (omega (arith, l)) (omega (arith, k)))
    (block_polynomial (front r) (front r + m) p e f) s
