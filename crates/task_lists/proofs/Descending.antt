-- Polynomials of an order and so many variables are polynomials in descending order.
--   fall_images, fall_rows     of lists, and of lists of these
--   rows_over                  and over so many variables
--   fall_over, rows_arity      where all are of one order
--   stage_over                 of a stage
use Rattle.std.proofs.Common.{◌≡◌, ℕ, ◌+◌, List, [], ◌∷◌, refl, subst}
use Rattle.std.specs.Prelude.{All, Vec}
use Rattle.std.proofs.lemmas.List.Elements.{All-head, All-tail}
use Rattle.std.specs.declared.alloc.Global.{Global}
use Rattle.std.specs.declared.cmp.PartialEq as PartialEq
use Rattle.algebra.specs.Each.{Each}
use Rattle.algebra.proofs.Each.{each_weaker}
use Rattle.algebra.specs.Fraction.{ℚ}
use Rattle.polynomials.specs.Polynomial.{Arity, AllArity, IsPolynomial}
use Rattle.ring_laws.specs.declared.Ring as Ring
use Rattle.monos.specs.declared.order.Order as Order
use Rattle.poly.specs.declared.Poly.{Poly}
use Rattle.poly.specs.Seen.{terms_in, terms_each, IsImage}
use Rattle.poly.specs.Standing.{IsInVariables}
use Rattle.poly.proofs.Standing.{polynomial_over, arities_over}
use Rattle.task_lists.specs.Rows.{rows_of, HaveImages}
use Rattle.corollaries.specs.Stage.{block_order, IsStageOver}
use Rattle.task_lists.specs.Images.{in_blocks, ArePolys, IsStageIn}
use Rattle.task_lists.specs.View.{stage_in}
use Rattle.task_lists.specs.declared.parts.FullStage.{FullStage}

module _ {K O : Type 0} {g : Ring.Ghosts K} {h : PartialEq.Ghosts K} {b : Order.Ghosts O}
    {e : PartialEq.Ghosts O} where
  module _ (o : O) (m : ℕ) where
    falls_image : (p : Poly K O g h b e) → IsImage o m p
        → IsPolynomial g.scalars.arithmetic (b.order o) m (terms_in p)
    falls_image p i =
        subst (λ (x : O). IsPolynomial g.scalars.arithmetic (b.order x) m (terms_in p)) i.order
        (polynomial_over m p i.arity)

    pub fall_images : (ps : List (Poly K O g h b e)) → All (IsImage o m) ps
        → Each (IsPolynomial g.scalars.arithmetic (b.order o) m) (terms_each ps)
    unfolding Each
    fall_images [] a = tt
    fall_images (p ∷ ps) a = (
      falls_image p (All-head (IsImage o m) p ps a),
      fall_images ps (All-tail (IsImage o m) p ps a),
    )

    pub fall_rows : (rows : List (Vec (Poly K O g h b e) Global)) → HaveImages o m rows
        → Each (Each (IsPolynomial g.scalars.arithmetic (b.order o) m)) (rows_of rows)
    unfolding Each
    fall_rows [] a = tt
    fall_rows (row ∷ rows) a =
        let P : Vec (Poly K O g h b e) Global → Type 0 = λ r. All (IsImage o m) r.items in (
          fall_images row.items (All-head P row rows a),
          fall_rows rows (All-tail P row rows a),
        )

  pub rows_over : (o : O) (m : ℕ) (rows : List (Vec (Poly K O g h b e) Global))
      → HaveImages o m rows → All (ArePolys m) rows
  rows_over o m rows a = λ i d l j p k. (a i d l j p k).arity

  pub fall_over : (m : ℕ) (ps : List (Poly K O g h b e)) (o : O)
      → ((p : Poly K O g h b e) → p.order ≡ o) → All (IsInVariables m) ps
      → Each (IsPolynomial g.scalars.arithmetic (b.order o) m) (terms_each ps)
  unfolding Each
  fall_over m [] o same a = tt
  fall_over m (p ∷ ps) o same a = (
    subst (λ (x : O). IsPolynomial g.scalars.arithmetic (b.order x) m (terms_in p)) (same p)
        (polynomial_over m p (All-head (IsInVariables m) p ps a)),
    fall_over m ps o same (All-tail (IsInVariables m) p ps a),
  )

  pub rows_arity : (m : ℕ) (rows : List (Vec (Poly K O g h b e) Global)) → All (ArePolys m) rows
      → Each (AllArity m) (rows_of rows)
  unfolding Each
  rows_arity m [] a = tt
  rows_arity m (row ∷ rows) a = (
    arities_over m row.items (All-head (ArePolys m) row rows a),
    rows_arity m rows (All-tail (ArePolys m) row rows a),
  )

pub stage_over : (k m : ℕ) (s : FullStage) → IsStageIn k m s → IsStageOver k m (stage_in s)
stage_over k m s i = record {
  list = fall_images (in_blocks k) (k + m) s.list.items i.list;
  gens = each_weaker (Each (IsPolynomial ℚ (block_order k) (k + m))) (AllArity (k + m))
      (λ row h. each_weaker (IsPolynomial ℚ (block_order k) (k + m)) (Arity (k + m))
      (λ p q. q.arity) row h) (rows_of s.gens.items)
      (fall_rows (in_blocks k) (k + m) s.gens.items i.gens);
  pairs = fall_rows (in_blocks k) (k + m) s.pairs.items i.pairs;
  out = fall_over m s.out.items (record {}) (λ p. refl) i.out;
  links = rows_arity m s.links.items i.links;
}
