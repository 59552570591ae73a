-- A chain that is analysed loop by loop ends with the reduced basis of its invariants.
--   Knows c gs           gs generate the invariants of the chain c, and are their reduced basis
--   analysed_known       so does the list of each loop's finished journal
--   analysed_generates, analysed_basis     that list generates the invariants of the loops so far, and is their reduced basis
--   reduced_itself       a list that is known so is the reduced basis of its own ideal
--   analysed_one         and there is no other reduced basis
use Rattle.std.proofs.Common.{◌≡◌, ◌↔◌, ℕ, suc, ◌<◌, List, get_or, length, arith, sym, subst}
use Rattle.std.proofs.Math.Seq.{take-suc}
use Rattle.algebra.specs.Fraction.{Fraction, ℚ}
use Rattle.algebra.proofs.Fractions.{ℚ_field}
use Rattle.polynomials.specs.Order.{grevlex}
use Rattle.polynomials.specs.Terms.{Terms}
use Rattle.polynomials.specs.Polynomial.{Arity}
use Rattle.polynomials.proofs.Orders.{grevlex_order}
use Rattle.ideals.specs.Members.{IsMember}
use Rattle.machines.specs.Journal.{Entry}
use Rattle.machines.proofs.Places.{in_slice}
use Rattle.machines.proofs.Reducing.{one_reduced}
use Rattle.loops.specs.Inv.{Inv}
use Rattle.loops.specs.Program.{Expr}
use Rattle.rounds.specs.Generate.{Generates}
use Rattle.rounds.proofs.Invariants.{reduced_for}
use Rattle.rounds.specs.Journal.{IsFinished, IsFinishedFrom}
use Rattle.rounds.specs.Kept.{IsKept}
use Rattle.rounds.specs.Results.{IsReducedList}
use Rattle.rounds.proofs.Theorem.{finished_is, finished_generates, finished_from, finished_from_generates}
use Rattle.corollaries.specs.Between.{IsMapped}
use Rattle.loops.specs.Chain.{Chain, Stage, no_stage, loop_of, followed_by, up_to, ChainInv, IsChain}
use Rattle.corollaries.specs.Analysed.{Analysed, first, further, IsBasisOfChain}
use Rattle.corollaries.proofs.Mapped.{IsZeroBehind, mapped_reduced, mapped_generates}
use Rattle.corollaries.proofs.Kept.{kept_is_invariant, invariant_is_kept}
use Rattle.loops.proofs.ChainRuns.{loop_of_chain}

-- ---- lists that generate one set are reduced for it where they are for their own ideal
module _ (m : ℕ) (P Q : Terms Fraction → Type 0) (gs : List (Terms Fraction))
    (same : (p : Terms Fraction) → Arity m p → P p ↔ Q p) where
  generates_same : Generates m gs P → Generates m gs Q
  generates_same g = record {
    arities = g.arities;
    only = λ p a i. (same p a).0 (g.only p a i);
    all = λ p a h. g.all p a ((same p a).1 h);
  }

pub record Knows {At : Type 0} (c : Chain (Expr At)) (gs : List (Terms Fraction)) : Type 0 where
  pub generates : Generates (length c.first.names) gs (ChainInv c)
  pub reduced : IsBasisOfChain c gs

module _ {At : Type 0} (c : Chain (Expr At)) (gs : List (Terms Fraction)) (k : Knows c gs) where
  abbrev m : ℕ
  m = length c.first.names

  pub reduced_itself : IsReducedList (length c.first.names) gs
  reduced_itself = reduced_for m (ChainInv c) (IsMember ℚ m gs) gs (λ p a.
      (k.generates.all p a, k.generates.only p a)) k.reduced

  -- ---- the one basis
  pub known_one : (hs : List (Terms Fraction)) → IsBasisOfChain c hs → gs ≡ hs
  known_one hs r = one_reduced ℚ_field grevlex grevlex_order m gs (λ n x at.
      k.reduced.polynomials x (in_slice gs n x at)) gs hs reduced_itself
      (reduced_for m (ChainInv c) (IsMember ℚ m gs) hs (λ p a.
      (k.generates.all p a, k.generates.only p a)) r)

  -- ---- one more loop, behind its code
  module _ (g : Stage (Expr At)) (some : 0 < length g.branches) (fs : List Entry)
      (ks : List (Terms Fraction)) (mapped : IsMapped c.first g.code gs fs ks) where
    pub given_reduced : IsReducedList (length c.first.names) ks
    given_reduced = mapped_reduced c gs k.generates reduced_itself g.code fs ks mapped

    given_generates : Generates (length c.first.names) ks (IsZeroBehind c g.code)
    given_generates = mapped_generates c gs k.generates g.code fs ks mapped

    module _ (es : List Entry) (n : ℕ) (hs : List (Terms Fraction))
        (done : IsFinishedFrom (loop_of c.first g.branches) ks es n hs) where
      kept_same : (p : Terms Fraction) → Arity m p → IsKept (loop_of c.first g.branches) ks p
          ↔ ChainInv (followed_by c g) p
      kept_same p a = (
        kept_is_invariant c g ks given_generates p a,
        invariant_is_kept c g ks given_generates p,
      )

      pub known_further : Knows (followed_by c g) hs
      known_further = record {
        generates = generates_same m (IsKept (loop_of c.first g.branches) ks)
            (ChainInv (followed_by c g)) hs kept_same
            (finished_from_generates (loop_of c.first g.branches) some ks given_reduced es n hs
            done);
        reduced = reduced_for m (IsKept (loop_of c.first g.branches) ks)
            (ChainInv (followed_by c g)) hs kept_same (finished_from (loop_of c.first g.branches)
            some ks given_reduced es n hs done).2;
      }

-- ---- loop by loop
module _ {At : Type 0} (c : Chain (Expr At)) (w : IsChain c) (budget : ℕ) where
  known_first : (es : List Entry) (k : ℕ) (gs : List (Terms Fraction)) → IsFinished c.first es k gs
      → Knows (up_to 0 c) gs
  known_first es k gs done =
      let m = length c.first.names in
      let formed = w.formed 0 (omega arith) in
      let same : (p : Terms Fraction) → Arity m p → Inv c.first p ↔ ChainInv (up_to 0 c) p =
      λ p a. ((loop_of_chain c.first p).1, (loop_of_chain c.first p).0) in
      record {
        generates = generates_same m (Inv c.first) (ChainInv (up_to 0 c)) gs same
            (finished_generates c.first formed es k gs done);
        reduced = reduced_for m (Inv c.first) (ChainInv (up_to 0 c)) gs same
            (finished_is c.first formed es k gs done).2;
      }

  known_next : (j : ℕ) → j < length c.further → (hs : List (Terms Fraction))
      → Knows (followed_by (up_to j c) (get_or c.further j no_stage)) hs
      → Knows (up_to (suc j) c) hs
  known_next j l hs k = subst (λ ls. Knows (record c { further = ls }) hs)
      (sym (take-suc c.further j no_stage l)) k

  pub analysed_known : (j : ℕ) (gs : List (Terms Fraction)) → Analysed c budget j gs
      → Knows (up_to j c) gs
  analysed_known _ _ (first es k gs done few) = known_first es k gs done
  analysed_known _ _ (further j gs fs ks es k hs before l mapped done few) =
      known_next j l hs
      (known_further (up_to j c) gs (analysed_known j gs before) (get_or c.further j no_stage)
      (w.formed (suc j) (omega (arith, l))).some_branch fs ks mapped es k hs done)

  pub analysed_basis : (j : ℕ) (gs : List (Terms Fraction)) → Analysed c budget j gs
      → IsBasisOfChain (up_to j c) gs
  analysed_basis j gs a = (analysed_known j gs a).reduced

  pub analysed_generates : (j : ℕ) (gs : List (Terms Fraction)) → Analysed c budget j gs
      → Generates (length c.first.names) gs (ChainInv (up_to j c))
  analysed_generates j gs a = (analysed_known j gs a).generates

  pub analysed_one : (j : ℕ) (gs hs : List (Terms Fraction)) → Analysed c budget j gs
      → IsBasisOfChain (up_to j c) hs → gs ≡ hs
  analysed_one j gs hs a r = known_one (up_to j c) gs (analysed_known j gs a) hs r
