-- The maps that the type keeps: the fact is truncated, and has one proof at most.
--   kept_maps m      the fact itself
--   letter_of        branches have the numbers from 1 on
--   place_inside, branch_there     the place of the map of the branch with a number, and this map
use Rattle.std.proofs.Common.{◌≡◌, ℕ, pred, ◌<◌, ◌+◌, ◌-◌, List, [], ◌∷◌, length, get_or, subst, arith}
use native.Mathlib.Nat.{ℕ_set}
use Rattle.std.proofs.Math.Logic.{∥∥₁_elim}
use Rattle.std.specs.Coded.{×_prop, Unit-prop}
use Rattle.std.specs.Global.{Vec}
use Rattle.std.specs.List.{AllZip}
use Rattle.algebra.specs.Fraction.{Fraction}
use Rattle.algebra.proofs.Fractions.{ℚ_ring}
use Rattle.polynomials.specs.Terms.{Terms}
use Rattle.loops.specs.Map.{start_map, branch_map}
use Rattle.loops.specs.Program.{Expr, Program}
use Rattle.rounds.specs.Word.{IsLetter}
use Rattle.poly.specs.Standing.{StandsFor, AllStandFor}
use Rattle.loop_model.specs.FracPoly.{FracPoly}
use Rattle.loop_model.specs.Maps.{IsBranchMap}
use Rattle.loop_model.proofs.BranchMaps.{maps_count, map_at}
use Rattle.counter_run.specs.Maps.{AreMaps}
use Rattle.counter_run.specs.declared.maps.Maps.{Maps}
use Rattle.closing.specs.LoopMaps.{program_in, IsBranchAt}
use Rattle.closing.specs.declared.loop_maps.LoopMaps.{LoopMaps}

zip_prop : {X Y : Type 0} (R : X → Y → Type 0) → ((x : X) (y : Y) → IsProp (R x y))
    → (xs : List X) (ys : List Y) → IsProp (AllZip R xs ys)
zip_prop R h [] [] = Unit-prop
zip_prop R h [] (y ∷ ys) = hlevel
zip_prop R h (x ∷ xs) [] = hlevel
zip_prop R h (x ∷ xs) (y ∷ ys) = ×_prop (h x y) (zip_prop R h xs ys)

stand_prop : (n : ℕ) (p : FracPoly) (q : Terms Fraction) → IsProp (StandsFor n p q)
stand_prop n p q = hlevel (ℕ_set, ℚ_ring.is_set)

all_stand_prop : (n : ℕ) (ps : List FracPoly) (qs : List (Terms Fraction))
    → IsProp (AllStandFor n ps qs)
all_stand_prop n ps qs = zip_prop (StandsFor n) (stand_prop n) ps qs

maps_prop : (program : Program (Expr ℕ)) (maps : Maps) → IsProp (AreMaps program maps)
maps_prop program maps =
    let m = length program.names in
    hlevel (
      all_stand_prop m maps.start.items (start_map program),
      zip_prop (IsBranchMap program)
          (λ images branch. all_stand_prop m images.items (branch_map program branch))
          maps.branches.items program.branches,
    )

pub kept_maps : (m : LoopMaps) → AreMaps (program_in m) m.maps.now
kept_maps m = ∥∥₁_elim m.are_maps (maps_prop (program_in m) m.maps.now) (λ x. x)

pub letter_of : (program : Program (Expr ℕ)) (i : ℕ) → i < length program.branches
    → IsLetter program (i + 1)
letter_of program i inside = record { some = omega arith; within = omega (arith, inside) }

module _ (m : LoopMaps) {letter : ℕ} (is : IsLetter (program_in m) letter) where
  pub place_inside : letter - 1 < length m.maps.now.branches.items
  place_inside =
      omega (
        arith,
        maps_count (program_in m) m.maps.now.branches.items (kept_maps m).branches,
        is.some,
        is.within,
      )

  pub branch_there : (images : Vec FracPoly)
      → images ≡ get_or m.maps.now.branches.items (letter - 1) images
      → IsBranchAt (program_in m) letter images
  branch_there images at =
      let place : letter - 1 ≡ pred letter = omega arith in
      subst (λ k. IsBranchMap (program_in m) images (get_or (program_in m).branches k [])) place
      (map_at (program_in m) m.maps.now.branches.items images (letter - 1)
      (kept_maps m).branches (omega (arith, is.some, is.within)) at)
