-- The rows of cofactors of a certificate for one branch.
--   rows_at          the terms of the rows at a place among those of all branches
--   inside           there are rows for each branch
--   square_over      a square of rows, in the loop's variables
use Rattle.std.proofs.Common.{◌≡◌, ℕ, ◌<◌, List, [], map, get_or, length, arith, sym, ap, subst, subst₂, ◌∙◌}
use Rattle.std.specs.Prelude.{All, Vec}
use Rattle.std.specs.declared.alloc.Global.{Global}
use Rattle.std.proofs.lemmas.List.{length-map, get_or-map}
use Rattle.algebra.specs.Fraction.{Fraction}
use Rattle.polynomials.specs.Terms.{Terms}
use Rattle.cert_form.specs.Cert.{Polys, rows_in, blocks_in, IsSquare}

module _ (steps : Vec (Vec Polys Global) Global) {raws : List (List (List (Terms Fraction)))}
    (is : blocks_in steps ≡ raws) (b : ℕ) where
  pub inside : b < length raws → b < length steps.items
  inside l = let count : length (map rows_in steps.items) ≡ length raws = ap length is in
      omega (arith, length-map steps.items rows_in)

  pub rows_at : (rows : Vec Polys Global) → rows ≡ get_or steps.items b rows → b < length raws
      → rows_in rows ≡ get_or raws b []
  rows_at rows at l = ap rows_in at ∙ sym (get_or-map rows_in steps.items b rows [] (inside l))
      ∙ ap (λ r. get_or r b []) is

pub square_at : (m n b : ℕ) (blocks : List (Vec Polys Global)) (rows : Vec Polys Global)
    → rows ≡ get_or blocks b rows → b < length blocks → All (IsSquare m n) blocks
    → IsSquare m n rows
square_at m n b blocks rows e l h = subst (IsSquare m n) (sym e) (h b rows l)

pub square_over : (k m n p q : ℕ) (rows : Vec Polys Global) → k ≡ m → n ≡ m → p ≡ q
    → IsSquare k q rows → IsSquare n p rows
square_over k m n p q rows e f g h = subst₂ (λ x y. IsSquare x y rows) (e ∙ sym f) (sym g) h
