-- States at the ends of runs modulo a number, letter by letter.
--   sample_begins      the start's map at any numbers
--   sample_goes        a letter more
--   sample_shows       the values of monomials
use Rattle.std.proofs.Common.{◌≡◌, ℕ, ℤ, pos, List, [], ◌∷◌, ◌++◌, map, length, refl, sym, ap, subst, ◌∙◌, Option, Some, None, option_and_then}
use Rattle.std.proofs.lemmas.List.{length-map}
use Rattle.std.specs.List.{AllZip}
use Rattle.algebra.specs.Ring.{operations}
use Rattle.algebra.proofs.IntRing.{ℤ_ring}
use Rattle.algebra.specs.Fraction.{Fraction, ℚ, whole}
use Rattle.polynomials.specs.Terms.{Terms, monomial_at, value_at}
use Rattle.loops.specs.Program.{Expr, Program, Statement}
use Rattle.loops.specs.Effect.{start_from}
use Rattle.loops.specs.Run.{IsState, branch_at, effect, run_end}
use Rattle.loops.specs.Map.{start_map, branch_map}
use Rattle.loops.specs.WellFormed.{IsWellFormed}
use Rattle.loops.proofs.Maps.{branch_map_values, start_map_values}
use Rattle.loops.proofs.Invariants.{end_is_state, start_from_is}
use Rattle.closures.specs.Modulo.{AreCongruent, AreResidues}
use Rattle.closures.proofs.Residues.{residue_row}
use Rattle.closing.specs.Modulo.{IsPolynomialModulo}
use Rattle.closing.specs.Samples.{IsSampleState, IsRowOf}
use Rattle.closing.proofs.Values.{residues_near, residues_whole, residues_images}

module _ {At : Type 0} (program : Program (Expr At)) where
  run_end-push : (word : List ℕ) (b : ℕ) (s e : List Fraction)
      (branch : List (Statement (Expr At))) → branch_at program b ≡ Some branch
      → run_end program word s ≡ Some e
      → run_end program (word ++ b ∷ []) s ≡ Some (effect program branch e)
  unfolding run_end
  run_end-push [] b s e branch is h =
      let same : s ≡ e = cc in
      ap (option_and_then (λ c. run_end program [] (effect program c s))) is
      ∙ ap (λ x. Some (effect program branch x)) same
  run_end-push (c ∷ word) b s e branch is h =
      go (branch_at program c) h
      (λ d. run_end-push word b (effect program d s) e branch is)
    where
      go : (o : Option (List (Statement (Expr At))))
          → option_and_then (λ d. run_end program word (effect program d s)) o ≡ Some e
          → ((d : List (Statement (Expr At))) → run_end program word (effect program d s) ≡ Some e
          → run_end program (word ++ b ∷ []) (effect program d s)
          ≡ Some (effect program branch e))
          → option_and_then (λ d. run_end program (word ++ b ∷ []) (effect program d s)) o
          ≡ Some (effect program branch e)
      go None k ih = absurd (cc)
      go (Some d) k ih = ih d k

  module _ (q : ℤ) where
    abbrev values_at : List ℤ → List (Terms ℤ) → List ℤ
    values_at xs rs = map (λ r. value_at (operations ℤ_ring) r xs) rs

    pub sample_begins : IsWellFormed program → (ns : List ℕ) {ys : List ℤ} (rs : List (Terms ℤ))
        → length ns ≡ length program.names → AllZip (IsPolynomialModulo q) (start_map program) rs
        → AllZip (AreCongruent q) ys (map (λ r. value_at (operations ℤ_ring) r (map pos ns)) rs)
        → IsSampleState program q ns [] ys
    unfolding run_end
    sample_begins well ns {ys = ys} rs count maps near =
        let wholes : List Fraction = map (λ n. whole (pos n)) ns in
        let state : IsState program wholes = length-map ns (λ n. whole (pos n)) ∙ count in
        record {
          run = record {
            start = start_from ℚ (λ c. c) program wholes;
            word = [];
            end = start_from ℚ (λ c. c) program wholes;
            is_start = start_from_is program well wholes state;
            is_end = refl;
          };
          from = record {
            start = sym (start_map_values program wholes state);
            is_word = refl;
          };
          residues =
              residues_near q _ (values_at (map pos ns) rs) ys
              (subst (λ s. AreResidues q s (values_at (map pos ns) rs))
              (start_map_values program wholes state)
              (residues_images q wholes (map pos ns) (residues_whole q ns) (start_map program) rs
              maps)) near;
        }

    pub sample_goes : (ns word : List ℕ) (b : ℕ) (branch : List (Statement (Expr At)))
        (xs ys : List ℤ) (rs : List (Terms ℤ)) → branch_at program b ≡ Some branch
        → IsSampleState program q ns word xs
        → AllZip (IsPolynomialModulo q) (branch_map program branch) rs
        → AllZip (AreCongruent q) ys (map (λ r. value_at (operations ℤ_ring) r xs) rs)
        → IsSampleState program q ns (word ++ b ∷ []) ys
    sample_goes ns word b branch xs ys rs is sample maps near =
        let r = sample.run in
        record {
          run = record {
            start = r.start;
            word = word ++ b ∷ [];
            end = effect program branch r.end;
            is_start = r.is_start;
            is_end =
                run_end-push word b r.start r.end branch is
                (subst (λ w. run_end program w r.start ≡ Some r.end) sample.from.is_word r.is_end);
          };
          from = record { start = sample.from.start; is_word = refl };
          residues =
              residues_near q (effect program branch r.end) (values_at xs rs) ys
              (subst (λ s. AreResidues q s (values_at xs rs))
              (branch_map_values program branch r.end (end_is_state program r))
              (residues_images q r.end xs sample.residues (branch_map program branch) rs maps))
              near;
        }

    pub sample_shows : (ns word : List ℕ) (xs row : List ℤ) (es : List (List ℕ))
        → IsSampleState program q ns word xs
        → AllZip (AreCongruent q) row (map (monomial_at (operations ℤ_ring) xs) es)
        → IsRowOf program q es ns word row
    sample_shows ns word xs row es sample near =
        let r = sample.run in
        record {
          run = r;
          from = sample.from;
          residues =
              residues_near q (map (monomial_at ℚ r.end) es) _ row
              (residue_row q r.end xs sample.residues es) near;
        }
