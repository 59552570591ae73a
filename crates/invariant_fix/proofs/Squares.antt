-- The lists of cofactors of an analysis.
--   quotients_over      the cofactors of a division have as many variables as what it is by
--   square_is           a branch's list is square, where each row is as long as the basis
use Rattle.std.proofs.Common.{◌≡◌, ℕ, ◌<◌, List, [], length, get_or, sym, ap, subst, ◌∙◌, arith, All}
use Rattle.std.specs.Global.{Vec}
use Rattle.std.proofs.lemmas.List.{length-map, get_or-map}
use Rattle.monos.specs.declared.order.Grevlex.{Grevlex}
use Rattle.poly.specs.Seen.{terms_in, terms_each}
use Rattle.loop_model.specs.FracPoly.{FracPoly}
use Rattle.ideal_ops.specs.Calls.{AreOver}
use Rattle.invariant_fix.specs.Closing.{seen_branch_steps, IsSquare}

pub quotients_over : {m n : ℕ} {o : Grevlex} {cofactors : Vec FracPoly} (qs : Vec FracPoly)
    → All (λ (q : FracPoly). (q.order ≡ o) × (q.arity ≡ n)) cofactors.items → n ≡ m → qs ≡ cofactors
    → AreOver m qs.items
quotients_over {m = m} qs like over same = subst (λ (v : Vec FracPoly). AreOver m v.items)
    (sym same) (λ k d within. (like k d within).1 ∙ over)

pub square_is : (m n : ℕ) (rows : List (Vec FracPoly)) → length (seen_branch_steps rows) ≡ n
    → ((i : ℕ) → i < n → length (get_or (seen_branch_steps rows) i []) ≡ n)
    → All (λ (row : Vec FracPoly). AreOver m row.items) rows → IsSquare m n rows
square_is m n rows high wide over = record {
  height = height;
  widths = λ i row inside. (
      let seen : get_or (seen_branch_steps rows) i [] ≡ terms_each (get_or rows i row).items =
      get_or-map (λ (v : Vec FracPoly). terms_each v.items) rows i row [] inside in
      sym (length-map (get_or rows i row).items terms_in) ∙ ap length (sym seen)
      ∙ wide i (omega (arith, inside, height)));
  arities = over;
}
  where
    height : length rows ≡ n
    height = sym (length-map rows (λ (v : Vec FracPoly). terms_each v.items)) ∙ high
