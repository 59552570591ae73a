-- The lists of rounds, for a program's runs.
--   level_of_round, orbit_of_round, so_far_of_round     what the lists generate, in terms of runs
--   invariants_of_closed_round     a closed round's list generates the invariants
--   first_closed_round             no level before has all invariants alone
--   open_round_has_more            a list that isn't closed has not all invariants alone
--   closed_list_is_valid           a closed list that is zero at starts, with its cofactors, is a valid certificate
--   closed_list_has_certificate    and it has one
--   reduced_decides                two programs with as many variables have the same reduced basis exactly where they have the same invariants
--   reduced_for                    a reduced basis of a set is one of each set with the same polynomials
use Rattle.std.proofs.Common.{◌≡◌, ℕ, zero, suc, ◌<◌, ◌≤◌, ◌+◌, ◌↔◌, ◌⊎◌, inl, inr, List, [], ◌∷◌, get_or, length, arith, refl, sym, ap, ap₂, ◌∙◌, subst}
use Rattle.algebra.specs.Fraction.{Fraction, ℚ, rationals}
use Rattle.polynomials.specs.Terms.{Terms, Same, combination}
use Rattle.polynomials.specs.Order.{grevlex}
use Rattle.polynomials.specs.Polynomial.{Arity, AllArity}
use Rattle.ideals.specs.Members.{IsMember}
use Rattle.loops.specs.Program.{Expr, Program}
use Rattle.loops.specs.Inv.{Inv}
use Rattle.loops.specs.Map.{branch_map, start_map, composition}
use Rattle.loops.specs.Certificate.{Certificate, IsValid, cofactors}
use Rattle.loops.specs.WellFormed.{IsWellFormed}
use Rattle.polynomials.proofs.Arity.{arity_at}
use Rattle.rounds.specs.Word.{AtMost, Then, UpTo, IsLetter, Stays, IsZeroAtStarts}
use Rattle.rounds.specs.Level.{IsZeroAfter, InvAt, InvThen, InvUpTo}
use Rattle.rounds.specs.Generate.{Generates}
use Rattle.rounds.specs.Round.{IsOrbit, IsSoFar, IsClosed, IsRound}
use Rattle.machines.specs.Reduced.{IsReducedFor}
use Rattle.rounds.proofs.Run.{zero_of_stays, stays_of_zero, inv_of_stays, stays_of_inv}
use Rattle.rounds.proofs.Round.{orbit_generates, so_far_generates, round_generates, closed_generates, all_is_closed, round_is_least}
use Rattle.rounds.proofs.Start.{passes_start}

module _ {At : Type 0} (program : Program (Expr At)) where
  abbrev m : ℕ
  m = length program.names

  abbrev I : Terms Fraction → Type 0
  I = IsZeroAtStarts program

  runs_of_words : (W : List ℕ → Type 0) (gs : List (Terms Fraction))
      → Generates m gs (Stays program I W) → Generates m gs (IsZeroAfter program W)
  runs_of_words W gs g = record {
    arities = g.arities;
    only = λ p a i. zero_of_stays program W p a (g.only p a i);
    all = λ p a h. g.all p a (stays_of_zero program W p h);
  }

  words_of_runs : (W : List ℕ → Type 0) (gs : List (Terms Fraction))
      → Generates m gs (IsZeroAfter program W) → Generates m gs (Stays program I W)
  words_of_runs W gs g = record {
    arities = g.arities;
    only = λ p a i. stays_of_zero program W p (g.only p a i);
    all = λ p a h. g.all p a (zero_of_stays program W p a h);
  }

  pub level_of_round : IsWellFormed program → (k : ℕ) (gs : List (Terms Fraction))
      → IsRound program (IsZeroAtStarts program) k gs
      → Generates (length program.names) gs (InvAt program k)
  level_of_round w k gs r = runs_of_words (AtMost k) gs (round_generates program I w.some_branch k
      gs r)

  pub orbit_of_round : (k i : ℕ) (gs hs : List (Terms Fraction)) → IsLetter program i
      → Generates (length program.names) gs (InvAt program k) → IsOrbit program gs i hs
      → Generates (length program.names) hs (InvThen program k i)
  orbit_of_round k i gs hs l g o = runs_of_words (Then k i) hs (orbit_generates program I k i gs hs
      l (words_of_runs (AtMost k) gs g) o)

  pub so_far_of_round : (k j : ℕ) (gs hs : List (Terms Fraction)) → j ≤ length program.branches
      → Generates (length program.names) gs (InvAt program k) → IsSoFar program gs j hs
      → Generates (length program.names) hs (InvUpTo program k j)
  so_far_of_round k j gs hs l g s = runs_of_words (UpTo k j) hs (so_far_generates program I k gs
      (words_of_runs (AtMost k) gs g) j hs l s)

  pub invariants_of_closed_round : IsWellFormed program → (k : ℕ) (gs : List (Terms Fraction))
      → IsRound program (IsZeroAtStarts program) k gs → IsClosed program gs
      → Generates (length program.names) gs (Inv program)
  invariants_of_closed_round w k gs r c =
      let g = closed_generates program I w.some_branch k gs r c in record {
        arities = g.arities;
        only = λ p a i. inv_of_stays program p a (g.only p a i);
        all = λ p a h. g.all p a (stays_of_inv program p h);
      }

  pub first_closed_round : IsWellFormed program → (k : ℕ) (gs : List (Terms Fraction))
      → IsRound program (IsZeroAtStarts program) k gs → (j : ℕ) → j < k
      → ((p : Terms Fraction) → InvAt program j p → Inv program p) → ⊥
  first_closed_round w k gs r j l h = round_is_least program I w.some_branch k gs r j l
      (λ p a s. stays_of_inv program p (h p (zero_of_stays program (AtMost j) p a s)))

  pub open_round_has_more : IsWellFormed program → (k : ℕ) (gs : List (Terms Fraction))
      → IsRound program (IsZeroAtStarts program) k gs → ¬ (IsClosed program gs)
      → ¬ ((p : Terms Fraction) → InvAt program k p → Inv program p)
  open_round_has_more w k gs r open_ h =
      open_ (all_is_closed program I k gs (round_generates program I w.some_branch k gs r)
      (λ p a s. stays_of_inv program p (h p (zero_of_stays program (AtMost k) p a s))))

  -- ---- soundness
  module _ (gs : List (Terms Fraction)) (a : AllArity (length program.names) gs)
      (starts : (i : ℕ) → i < length gs → IsZeroAtStarts program (get_or gs i [])) where
    pub closed_list_is_valid : IsWellFormed program → (c : Certificate) → c.basis ≡ gs
        → ((b i : ℕ) → b < length program.branches → i < length gs
        → Same ℚ (composition program (get_or gs i [])
        (branch_map program (get_or program.branches b []))) (combination ℚ (cofactors c b i)
        gs))
        → IsValid program c
    closed_list_is_valid w c e steps = record {
      starts = λ i l. subst (λ bs. Same ℚ (composition program (get_or bs i []) (start_map program))
          []) (sym e) (passes_start program w (get_or gs i []) (arity_at m gs a i)
          (starts i (subst (λ bs. i < length bs) e l)));
      steps = λ b i k l.
          subst (λ bs.
          Same ℚ (composition program (get_or bs i [])
          (branch_map program (get_or program.branches b [])))
          (combination ℚ (cofactors c b i) bs)) (sym e)
          (steps b i k (subst (λ bs. i < length bs) e l));
    }

    letter : (b : ℕ) → b < length program.branches → IsLetter program (suc b)
    letter b k = record { some = omega arith; within = omega arith }

    -- a list with these elements
    listed : {X : Type 0} → ℕ → ℕ → (ℕ → X) → List X
    listed k zero f = []
    listed k (suc n) f = f k ∷ listed (suc k) n f

    listed_at : {X : Type 0} (k n i : ℕ) (f : ℕ → X) (d : X) → i < n → get_or (listed k n f) i d
        ≡ f (k + i)
    unfolding listed
    listed_at k zero i f d l = absurd (omega arith)
    listed_at k (suc n) zero f d l = ap f (omega arith)
    listed_at k (suc n) (suc i) f d l = listed_at (suc k) n i f d (omega arith) ∙ ap f (omega arith)

    pub closed_list_has_certificate : IsWellFormed program → IsClosed program gs → (c : Certificate)
        × (c.basis ≡ gs) × IsValid program c
    closed_list_has_certificate w closed = (c, refl, closed_list_is_valid w c refl identities)
      where
        found : (b i : ℕ) → (b < length program.branches) ⊎ (length program.branches ≤ b)
            → (i < length gs) ⊎ (length gs ≤ i) → List (Terms Fraction)
        found b i (inl k) (inl l) = (closed.turned (suc b) i (letter b k) l).cofactors
        found b i (inl k) (inr l) = []
        found b i (inr k) e = []

        cases : (i n : ℕ) → (i < n) ⊎ (n ≤ i)
        cases i n = grind arith

        of : ℕ → ℕ → List (Terms Fraction)
        of b i = found b i (cases b (length program.branches)) (cases i (length gs))

        c : Certificate
        c = record {
          basis = gs;
          steps = listed 0 (length program.branches)
              (λ b. listed 0 (length gs) (of b));
        }

        identity : (b i : ℕ) (k : (b < length program.branches) ⊎ (length program.branches ≤ b))
            (l : (i < length gs) ⊎ (length gs ≤ i)) → b < length program.branches → i < length gs
            → Same ℚ (composition program (get_or gs i [])
            (branch_map program (get_or program.branches b [])))
            (combination ℚ (found b i k l) gs)
        identity b i (inl k) (inl l) p q = (closed.turned (suc b) i (letter b k) l).is
        identity b i (inl k) (inr l) p q = absurd (omega arith)
        identity b i (inr k) l p q = absurd (omega arith)

        cofactors_are : (b i : ℕ) → b < length program.branches → i < length gs
            → cofactors c b i ≡ of b i
        cofactors_are b i k l =
            ap (λ (s : List (List (Terms Fraction))). get_or s i [])
            (listed_at 0 (length program.branches) b (λ b. listed 0 (length gs) (of b)) [] k)
            ∙ listed_at 0 (length gs) i (of (0 + b)) [] l ∙ ap₂ of (omega arith) (omega arith)

        identities : (b i : ℕ) → b < length program.branches → i < length gs
            → Same ℚ (composition program (get_or gs i [])
            (branch_map program (get_or program.branches b [])))
            (combination ℚ (cofactors c b i) gs)
        identities b i k l =
            subst (λ qs.
            Same ℚ (composition program (get_or gs i [])
            (branch_map program (get_or program.branches b []))) (combination ℚ qs gs))
            (sym (cofactors_are b i k l)) (identity b i (cases b (length program.branches))
            (cases i (length gs)) k l)

-- ---- the one basis
pub reduced_for : (m : ℕ) (P Q : Terms Fraction → Type 0) (gs : List (Terms Fraction))
    → ((p : Terms Fraction) → Arity m p → P p ↔ Q p) → IsReducedFor rationals grevlex m gs P
    → IsReducedFor rationals grevlex m gs Q
reduced_for m P Q gs h r = record {
  members = λ g i. (h g ((r.polynomials g i).arity)).0 (r.members g i);
  polynomials = r.polynomials;
  nonzero = r.nonzero;
  monic = r.monic;
  ascends = r.ascends;
  led = λ t p g i. r.led t p g ((h (t ∷ p) g.arity).1 i);
  clean = r.clean;
}

-- the list of a closed round that is reduced for its own ideal is reduced for the invariants
pub reduced_invariants : {At : Type 0} (program : Program (Expr At)) → IsWellFormed program
    → (k : ℕ) (gs : List (Terms Fraction)) → IsRound program (IsZeroAtStarts program) k gs
    → IsClosed program gs
    → IsReducedFor rationals grevlex (length program.names) gs (IsMember ℚ (length program.names)
    gs) → IsReducedFor rationals grevlex (length program.names) gs (Inv program)
reduced_invariants program w k gs r c reduced =
    let g = invariants_of_closed_round program w k gs r c in
    reduced_for (length program.names) (IsMember ℚ (length program.names) gs) (Inv program) gs
    (λ p a. (g.only p a, g.all p a)) reduced
