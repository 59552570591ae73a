-- Certificates with the same polynomials have the same verdict.
--   same_start, same_step     an identity of one holds where that of the other does
--   same_verdict              a verdict of one is a verdict of the other
use Rattle.std.proofs.Common.{ℕ, ◌<◌, List, [], get_or, length, arith, sym}
use Rattle.algebra.specs.Fraction.{Fraction, ℚ}
use Rattle.algebra.proofs.Fractions.{ℚ_ring}
use Rattle.polynomials.specs.Terms.{Terms, Same}
use Rattle.polynomials.specs.Polynomial.{AllArity}
use Rattle.polynomials.proofs.Same.{Same-sym, Same-trans, AllSame-refl, AllSame-sym, AllSame-at, AllSame-length, same_combination}
use Rattle.polynomials.proofs.Composition.{same_compose}
use Rattle.loops.specs.Program.{Expr, Program, Statement}
use Rattle.loops.specs.Map.{branch_map, start_map, composition}
use Rattle.loops.specs.Certificate.{Certificate, SameCertificate, Verdict, valid, start_fails, step_fails, IsVerdict, IsOver, PassesStart, PassesStep, element}
use Rattle.polynomials.proofs.Arity.{arity_at}
use Rattle.loops.proofs.Maps.{arity-branch_map, arity-start_map}

abbrev Alike : Terms Fraction → Terms Fraction → Type 0
Alike = Same ℚ

pub same_certificate_sym : (c d : Certificate) → SameCertificate c d → SameCertificate d c
same_certificate_sym c d s = record {
  basis = AllSame-sym ℚ _ _ s.basis;
  branches = sym s.branches;
  elements = λ b. sym (s.elements b);
  steps = λ b i. AllSame-sym ℚ _ _ (s.steps b i);
}

module _ {At : Type 0} (program : Program (Expr At)) where
  module _ (c d : Certificate) (over : IsOver program c) (other : IsOver program d)
      (s : SameCertificate c d) where
    same_element : (i : ℕ) (images : List (Terms Fraction)) → AllArity (length program.names) images
        → Alike (composition program (element c i) images) (composition program (element d i)
        images)
    same_element i images a =
        same_compose ℚ_ring (length program.names) (length program.names) (element c i)
        (element d i) images images
        (arity_at _ _ over.arities i) (arity_at _ _ other.arities i) a a
        (AllSame-at ℚ _ _ s.basis i) (AllSame-refl ℚ images)

    pub same_start : (i : ℕ) → PassesStart program c i → PassesStart program d i
    same_start i h = Same-trans ℚ
        (Same-sym ℚ (same_element i (start_map program) (arity-start_map program))) h

    pub same_step : (b i : ℕ) → PassesStep program c b i → PassesStep program d b i
    same_step b i h =
        let branch : List (Statement (Expr At)) = get_or program.branches b [] in
        Same-trans ℚ
        (Same-sym ℚ (same_element i (branch_map program branch) (arity-branch_map program branch)))
        (Same-trans ℚ h
        (same_combination ℚ_ring _ _ _ _ (s.steps b i) s.basis))

  pub same_verdict : (c d : Certificate) (v : Verdict) → IsOver program c → IsOver program d
      → SameCertificate c d → IsVerdict program c v → IsVerdict program d v
  same_verdict c d v over other s = go v
    where
      there : (j : ℕ) → j < length d.basis → j < length c.basis
      there j l = omega (arith, AllSame-length ℚ _ _ s.basis)

      here : (j : ℕ) → j < length c.basis → j < length d.basis
      here j l = omega (arith, AllSame-length ℚ _ _ s.basis)

      starts : (i : ℕ) → PassesStart program c i → PassesStart program d i
      starts = same_start c d over other s

      steps : (b i : ℕ) → PassesStep program c b i → PassesStep program d b i
      steps = same_step c d over other s

      start_back : (i : ℕ) → PassesStart program d i → PassesStart program c i
      start_back = same_start d c other over (same_certificate_sym c d s)

      step_back : (b i : ℕ) → PassesStep program d b i → PassesStep program c b i
      step_back = same_step d c other over (same_certificate_sym c d s)

      go : (v : Verdict) → IsVerdict program c v → IsVerdict program d v
      go valid h = record {
        starts = λ i l. starts i (h.starts i (there i l));
        steps = λ b i k l.
            steps b i (h.steps b i k (there i l));
      }
      go (start_fails i) h = record {
        within = here i h.within;
        fails = λ p. h.fails (start_back i p);
        before = λ j l. starts j (h.before j l);
      }
      go (step_fails b i) h = record {
        branch_within = h.branch_within;
        within = here i h.within;
        fails = λ p. h.fails (step_back b i p);
        starts = λ j l. starts j (h.starts j (there j l));
        branches_before = λ a j l k. steps a j (h.branches_before a j l (there j k));
        before = λ j l. steps b j (h.before j l);
      }
