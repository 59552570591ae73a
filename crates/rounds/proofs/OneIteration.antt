-- One iteration of a branch: with no variables in front, the branch's map is the form, and the form at -1 tells what was.
use Rattle.std.proofs.Common.{◌≡◌, ℕ, ◌+◌, ◌<◌, Bool, false, List, [], ◌∷◌, ◌++◌, map, get_or, length, refl, arith, sym, ap, ap₂, subst, ◌∙◌}
use Rattle.std.proofs.lemmas.List.{length-map, map-append, get_or-map}
use Rattle.std.proofs.lemmas.List.Elements.{All-nil}
use Rattle.algebra.specs.Each.{Each}
use Rattle.algebra.specs.Fraction.{Fraction, ℚ}
use Rattle.algebra.proofs.Fractions.{ℚ_ring}
use Rattle.polynomials.specs.Terms.{Terms, AllSame, constant, variables}
use Rattle.polynomials.specs.Polynomial.{Arity, AllArity}
use Rattle.polynomials.proofs.Composition.{retold_itself, same_compose-variables}
use Rattle.polynomials.proofs.Same.{Same-sym}
use Rattle.polynomials.proofs.ValueAt.{value_at-compose, values_at-constants, value_at-variables}
use Rattle.solvable_maps.specs.Iterations as iterations
use Rattle.solvable_maps.specs.Iterations.{back_point, values_at, IsItself}
use Rattle.exponentials.specs.Base.{Coprime}
use Rattle.solvable_maps.proofs.OneForm.{back_to_zero}
use Rattle.ideals.specs.Members.{IsMember}
use Rattle.ideals.proofs.FractionMembers.{member_same}
use Rattle.machines.specs.Elimination.{in_front}
use Rattle.machines.proofs.Padding.{at}
use Rattle.loops.specs.Program.{Expr, Program}
use Rattle.loops.specs.Map.{branch_map}
use Rattle.loops.specs.Run.{IsState}
use Rattle.loops.proofs.Maps.{branch_map_values, length-branch_map, arity-branch_map}
use Rattle.rounds.specs.Word.{branch_of}
use Rattle.rounds.specs.Form.{Form, copies, passing, at_minus_one, iteration_before, iteration_graph}
use Rattle.rounds.specs.Orbit.{state_after, IsPoints, IsFormAt, IsIndependent, Padded, IsEliminated}
use Rattle.rounds.specs.Graph.{IsBefore, AreWide}
use Rattle.rounds.specs.Round.{IsOrbitAt}
use Rattle.rounds.proofs.BranchIterations.{bm, turned_keeps, form_count}
use Rattle.rounds.proofs.Graph.{graph_arity, graph_gives_orbit}
use Rattle.rounds.proofs.Later.{back-append}
use Rattle.rounds.proofs.WayBack.{before_values, before_arity, all_copies_arity}

abbrev pub no_point : ℕ → List Fraction
no_point n = []

no_points : IsPoints 0 no_point
no_points = record { size = λ n. refl }

-- a list with no variables in front
padded_itself : (gs : List (Terms Fraction)) → map (in_front 0) gs ++ [] ≡ gs
padded_itself [] = refl
padded_itself (g ∷ gs) = ap₂ ◌∷◌ (retold_itself g) (padded_itself gs)

alone_is_independent : (m : ℕ) → IsIndependent 0 m no_point []
alone_is_independent m = record {
  member = λ gs ga e a h. subst (λ n. IsMember ℚ n (Padded 0 m gs []) e) (zero_plus m)
      (subst (λ l. IsMember ℚ m l e) (sym (padded_itself gs))
      (member_same m gs _ e
      (Same-sym ℚ (same_compose-variables ℚ_ring m e
      (subst (λ n. Arity n e) (sym (zero_plus m)) a))) (h 0)));
}
  where
    zero_plus : (m : ℕ) → m ≡ 0 + m
    zero_plus m = omega arith

module _ {At : Type 0} (program : Program (Expr At)) (b since : ℕ) (f : Form)
    (coprime : Coprime f.base)
    (is : iterations.IsClosedFormFrom f.base (branch_map program (branch_of program b)) since
    f.polys)
    (passes : ℕ → Bool)
    (stays : (i : ℕ) → i < length program.names → passes i ≡ false
    → IsItself f.base (length program.names) f.polys i) where
  abbrev m : ℕ
  m = length program.names

  size : length (bm program b) ≡ m
  size = length-branch_map program (branch_of program b)

  zero_plus : m ≡ 0 + m
  zero_plus = omega arith

  one_iteration : (s : List Fraction) → IsState program s → iterations.iterations (bm program b) 1 s
      ≡ state_after program b 1 s
  unfolding state_after
  one_iteration s st = branch_map_values program (branch_of program b) s st

  map_at : IsFormAt program b 0 no_point (λ n. 1) (bm program b)
  map_at = record {
    arities = subst (λ n. AllArity n (bm program b)) zero_plus
        (arity-branch_map program (branch_of program b));
    iterations = λ n s st. one_iteration s st;
  }

  abbrev backs : List (Terms Fraction)
  backs = map (at_minus_one f m) f.polys

  minus_one_value : (y : List Fraction) → length y ≡ m → (ps : List (Terms Fraction))
      → map (λ q. at q y) (map (at_minus_one f m) ps) ≡ values_at ps (back_point f.base 1 y)
  minus_one_value y l [] = refl
  minus_one_value y l (p ∷ ps) = ap₂ ◌∷◌
      (value_at-compose ℚ_ring m p (map (constant m) (back_point f.base 1 []) ++ variables ℚ m) y
      ∙ ap (at p) (map-append (λ q. at q y) (map (constant m) (back_point f.base 1 []))
      (variables ℚ m) ∙ ap₂ ◌++◌ (values_at-constants ℚ_ring m (back_point f.base 1 []) y)
      (value_at-variables ℚ_ring m y l) ∙ back-append f.base coprime m 1 y))
      (minus_one_value y l ps)

  polys-length : length f.polys ≡ m
  polys-length = form_count program b f.base since f.polys is

  stays_back : (s : List Fraction) → IsState program s → (j : ℕ) → j < length backs
      → passes (0 + j) ≡ false
      → at (get_or backs j []) ([] ++ state_after program b 1 s) ≡ get_or s (0 + j) ℚ.zero
  stays_back s st j l kept =
      sym (get_or-map (λ q. at q (state_after program b 1 s)) backs j [] ℚ.zero l)
      ∙ ap (λ z. get_or z j ℚ.zero)
      (minus_one_value (state_after program b 1 s) (turned_keeps program b 1 s st) f.polys
      ∙ ap (λ y. values_at f.polys (back_point f.base 1 y)) (sym (one_iteration s st))
      ∙ back_to_zero f.base coprime (bm program b) since f.polys is 1 s (st ∙ sym size))
      ∙ (stays j (let e = length-map f.polys (at_minus_one f m) in let q = polys-length in
      omega (arith, e, q, l)) (ap passes plus ∙ kept)).is s st
      ∙ ap (λ n. get_or s n ℚ.zero) plus
    where
      plus : j ≡ 0 + j
      plus = omega arith

  abbrev t : ℕ
  t = passing (length program.names) passes

  abbrev told : List (Terms Fraction)
  told = copies (length program.names) passes 0 (length program.names)

  backs-length : length backs ≡ m
  backs-length = length-map f.polys (at_minus_one f m) ∙ polys-length

  iteration_before_is : IsBefore program b 0 (passing (length program.names) passes) no_point
      (λ n. 1)
      (copies (length program.names) passes 0 (length program.names))
      (iteration_before f (length program.names) passes)
  iteration_before_is = record {
    count = refl;
    copies = all_copies_arity m passes;
    arities = before_arity 0 t m passes backs 0 0;
    was = λ n s st.
        before_values 0 t m passes [] (map (λ c. at c s) told) s (state_after program b 1 s) refl
        (length-map told _) st (turned_keeps program b 1 s st) backs 0 0
        (let q = backs-length in omega (arith, q))
        (ap (λ n. map (λ c. at c s) (copies m passes 0 n)) backs-length)
        (stays_back s st);
  }

  no_relations : AreWide 0 (passing (length program.names) passes) (length program.names) no_point
      (iteration_before f (length program.names) passes) [] []
  unfolding Each AllSame
  no_relations = record { arities = tt; wide_arities = tt; same = tt; zero = λ n x l. All-nil _ }

  -- with any polynomials that are the iteration
  pub iteration_orbit_by : (fs : List (Terms Fraction)) → IsFormAt program b 0 no_point (λ n. 1) fs
      → (gs ks : List (Terms Fraction)) → AllArity (length program.names) gs
      → IsEliminated (0 + passing (length program.names) passes) (length program.names)
      (iteration_graph f (length program.names) passes fs gs) ks
      → IsOrbitAt program gs b (λ n. 1) ks
  iteration_orbit_by fs at_fs gs ks ga eliminated =
      graph_gives_orbit program b 0 t no_point no_points (λ n. 1) told (iteration_before f m passes)
      fs
      [] []
      at_fs iteration_before_is no_relations gs ga (alone_is_independent m) ks eliminated

  pub iteration_graph_arity : (fs : List (Terms Fraction)) → IsFormAt program b 0 no_point (λ n. 1)
      fs
      → (gs : List (Terms Fraction)) → AllArity (length program.names) gs
      → AllArity (0 + passing (length program.names) passes + length program.names)
      (iteration_graph f (length program.names) passes fs gs)
  iteration_graph_arity fs at_fs gs ga =
      graph_arity program b 0 t no_point no_points (λ n. 1) told (iteration_before f m passes) fs []
      []
      at_fs iteration_before_is no_relations gs ga
