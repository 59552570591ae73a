-- A test by computation that the divisions behind a closing fit, where all numbers are small.
--   test_small l t           the composition of the test's element fits
--   proving_small l gs s     so it does at a state, and what comes next in its division fits
--   rest_small l gs n o      so it is at each state that comes, of which there are at most n
--   small_tests_fit          then none of these divisions may not fit
use Rattle.std.proofs.Common.{◌≡◌, inl, inr, ℕ, zero, suc, Bool, true, false, List, [], ◌∷◌, refl, subst, Option, Some, None}
use Rattle.std.specs.Prelude.{◌&&◌}
use Rattle.std.proofs.lemmas.Bool.{and_parts}
use Rattle.algebra.specs.Fraction.{Fraction, fraction_size}
use Rattle.polynomials.specs.Terms.{Terms}
use Rattle.polynomials.specs.Weight.{composition_weight, composition_degrees}
use Rattle.machines.specs.Journal.{Entry}
use Rattle.machines.specs.Run.{IsRun}
use Rattle.loops.specs.Program.{Expr, Program}
use Rattle.closures.specs.Proving.{Test, State, testing, dividing, tests, images_of, next, IsPastProof}
use Rattle.closing_commands.proofs.SmallClosings.{left_small, division_holds}
use Rattle.closing_commands.proofs.SmallOperations.{small, small_holds, low, low_holds}

module _ (l : Program (Expr ℕ)) where
  unfoldable pub test_small : Test → Bool
  test_small t =
      small (composition_weight fraction_size t.element (images_of l t))
      && low (composition_degrees t.element (images_of l t))

  module _ (gs : List (Terms Fraction)) where
    unfoldable pub proving_small : State → Bool
    proving_small (testing w) = true
    proving_small (dividing t w s) = left_small gs s.current && test_small t

    unfoldable pub rest_small : ℕ → Option (Entry × State) → Bool
    rest_small n None = true
    rest_small zero (Some (e, s)) = false
    rest_small (suc n) (Some (e, s)) = proving_small s && rest_small n (next l gs s)

    small_from : (n : ℕ) (u : State) → proving_small u ≡ true
        → rest_small n (next l gs u) ≡ true → (es : List Entry) (s : State)
        → IsRun (next l gs) u es s → proving_small s ≡ true
    unfolding IsRun rest_small
    small_from n u h k [] s r = subst (λ v. proving_small v ≡ true) r h
    small_from n u h k (e ∷ es) s (v, m, r) =
        go n (subst (λ o. rest_small n o ≡ true) m k) (λ n h k. small_from n v h k es s r)
      where
        go : (n : ℕ) → rest_small n (Some (e, v)) ≡ true
            → ((n : ℕ) → proving_small v ≡ true → rest_small n (next l gs v) ≡ true
            → proving_small s ≡ true) → proving_small s ≡ true
        go zero k ih = absurd (let z : false ≡ true = k in cc)
        go (suc n) k ih =
            let both = and_parts (proving_small v) (rest_small n (next l gs v)) k in
            ih n both.0 both.1

    pub small_tests_fit : (P bs : List (Terms Fraction)) (n : ℕ)
        → rest_small n (next l gs (testing (tests l bs))) ≡ true → (es : List Entry) (t : Test)
        → IsPastProof l P gs bs es t → ⊥
    unfolding proving_small test_small
    small_tests_fit P bs n all es t h =
        let f = h.follows in
        let at = small_from n (testing (tests l bs)) refl all f.behind
        (dividing t h.waiting h.state) f.run in
        let both = and_parts (left_small gs h.state.current) (test_small t) at in
        let fits = and_parts
        (small (composition_weight fraction_size t.element (images_of l t)))
        (low (composition_degrees t.element (images_of l t))) both.1 in
        elim h.past [
          | inl p ↦ division_holds gs h.state both.0 p
          | inr (is, inl w) ↦
              small_holds (composition_weight fraction_size t.element (images_of l t)) fits.0 w
          | inr (is, inr n) ↦
              n (low_holds (composition_degrees t.element (images_of l t)) fits.1)
        ]
