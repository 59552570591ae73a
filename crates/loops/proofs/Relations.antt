-- The relations of sequences are those of their loop.
--   ends, of_loop      iterations lead to the sequences' later values; the relations are what the loop shows
--   length-shown       each sequence has one variable that is shown
use Rattle.std.proofs.Common.{◌≡◌, ◌↔◌, ℕ, suc, ◌+◌, List, [], ◌∷◌, length, replicate, arith, refl, sym, ap, subst, ◌∙◌, Some}
use Rattle.algebra.specs.Fraction.{Fraction, ℚ}
use Rattle.polynomials.specs.Terms.{Terms, value_at}
use Rattle.polynomials.specs.Polynomial.{Arity}
use Rattle.loops.specs.Program.{Expr}
use Rattle.loops.specs.Run.{IsStart, Run, run_end}
use Rattle.loops.specs.Sequences.{Sequence, order, AreFormed}
use Rattle.loops.specs.Turning.{program_of, first_places}
use Rattle.loops.specs.Solutions.{window, IsSolution}
use Rattle.loops.specs.Relations.{values_at_places, IsRelation, IsShown}
use Rattle.loops.proofs.Lists.{along}
use Rattle.loops.proofs.Windows.{picked_window}
use Rattle.loops.proofs.Iterations.{after_letters, letters}
use Rattle.loops.proofs.RecurrenceStarts.{start_is, is_start}
use Rattle.loops.proofs.Solved.{solution}

pub length-shown : {E : Type 0} (i : ℕ) (qs : List (Sequence E)) → length (first_places i qs)
    ≡ length qs
unfolding first_places
length-shown i [] = refl
length-shown i (q ∷ qs) = ap suc (length-shown (i + order q) qs)

module _ {At : Type 0} (qs : List (Sequence (Expr At))) (formed : AreFormed qs) where
  pub ends : (fs : ℕ → ℕ → Fraction) → IsSolution qs fs → (s : List Fraction)
      → IsStart (program_of qs) s → (n : ℕ)
      → run_end (program_of qs) (replicate n 1) s ≡ Some (window fs n qs)
  ends fs m s start n =
      ap (run_end (program_of qs) (replicate n 1)) (start_is qs formed fs m s start)
      ∙ after_letters fs qs m n 0 ∙ along (λ k. Some (window fs k qs)) (0 + n) n (omega arith)

  run_is : (fs : ℕ → ℕ → Fraction) → IsSolution qs fs → (r : Run (program_of qs))
      → r.end ≡ window fs (length r.word) qs
  run_is fs m r =
      let e : Some r.end ≡ Some (window fs (length r.word) qs) = sym r.is_end
      ∙ ap (λ w. run_end (program_of qs) w r.start) (letters qs r.word r.start r.end r.is_end)
      ∙ ends fs m r.start r.is_start (length r.word) in cc

  pub of_loop : (p : Terms Fraction) → IsRelation qs p ↔ IsShown (program_of qs) (first_places 0 qs)
      p
  of_loop p = (to, back)
    where
      to : IsRelation qs p → IsShown (program_of qs) (first_places 0 qs) p
      to h =
          let (fs, m) = solution qs in
          record {
            arity = subst (λ k. Arity k p) (sym (length-shown 0 qs)) h.arity;
            zero = λ r. ap (λ s. value_at ℚ p (values_at_places (first_places 0 qs) s))
                (run_is fs m r)
                ∙ ap (value_at ℚ p) (picked_window fs (length r.word) qs)
                ∙ h.zero fs m (length r.word);
          }

      back : IsShown (program_of qs) (first_places 0 qs) p → IsRelation qs p
      back h = record {
        arity = subst (λ k. Arity k p) (length-shown 0 qs) h.arity;
        zero = λ fs m n.
            let start = is_start qs formed fs m in
            let r : Run (program_of qs) =
            record {
              start = window fs 0 qs;
              word = replicate n 1;
              end = window fs n qs;
              is_start = start;
              is_end = ends fs m (window fs 0 qs) start n;
            } in
            sym (ap (value_at ℚ p) (picked_window fs n qs)) ∙ h.zero r;
      }
