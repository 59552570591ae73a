-- The iterations of a branch are those of its map.
--   turned_keeps     a state stays one
--   iterations-are        the values of the map, n times over, are the state after n iterations
--   form_count       a closed form has a polynomial for each variable
use Rattle.std.proofs.Common.{◌≡◌, ℕ, zero, suc, List, map, length, arith, refl, sym, ap, ◌∙◌}
use Rattle.std.proofs.lemmas.List.{length-map}
use Rattle.algebra.specs.Fraction.{Fraction, ℚ}
use Rattle.polynomials.specs.Terms.{Terms, value_at}
use Rattle.solvable_maps.specs.Iterations as iterations
use Rattle.loops.specs.Program.{Expr, Program}
use Rattle.loops.specs.Map.{branch_map}
use Rattle.loops.specs.Run.{effect, IsState}
use Rattle.loops.proofs.Maps.{branch_map_values, effect_keeps_state, length-branch_map}
use Rattle.rounds.specs.Word.{branch_of}
use Rattle.rounds.specs.Orbit.{state_after}

module _ {At : Type 0} (program : Program (Expr At)) (b : ℕ) where
  abbrev pub bm : List (Terms Fraction)
  bm = branch_map program (branch_of program b)

  pub turned-last : (n : ℕ) (s : List Fraction) → state_after program b (suc n) s ≡ effect program
      (branch_of program b) (state_after program b n s)
  unfolding state_after
  turned-last zero s = refl
  turned-last (suc n) s = turned-last n (effect program (branch_of program b) s)

  pub turned_keeps : (n : ℕ) (s : List Fraction) → IsState program s
      → IsState program (state_after program b n s)
  unfolding state_after
  turned_keeps zero s is = is
  turned_keeps (suc n) s is = turned_keeps n (effect program (branch_of program b) s)
      (effect_keeps_state program (branch_of program b) s is)

  pub iterations-are : (n : ℕ) (s : List Fraction) → IsState program s
      → iterations.iterations bm n s ≡ state_after program b n s
  unfolding state_after
  iterations-are zero s is = refl
  iterations-are (suc n) s is = ap (iterations.values_at bm) (iterations-are n s is)
      ∙ branch_map_values program (branch_of program b) (state_after program b n s)
      (turned_keeps n s is)
      ∙ sym (turned-last n s)

  -- a form has a polynomial for each variable
  pub form_count : (base : List ℕ) (since : ℕ) (polys : List (Terms Fraction))
      → iterations.IsClosedFormFrom base (branch_map program (branch_of program b)) since polys
      → length polys ≡ length program.names
  form_count base since polys form =
      let s : List Fraction = map (λ x. ℚ.zero) program.names in
      let l : length s ≡ length program.names = length-map program.names _ in
      sym (length-map polys (λ p. value_at ℚ p (iterations.point base since s)))
      ∙ ap length (form.values since s (l ∙ sym (length-branch_map program (branch_of program b)))
      (omega arith) ∙ iterations-are since s l)
      ∙ turned_keeps since s l
