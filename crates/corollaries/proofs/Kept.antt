-- What one more loop keeps of what is zero behind the code before it is what is invariant with that loop.
--   kept_is_invariant, invariant_is_kept
use Rattle.std.proofs.Common.{◌≡◌, ℕ, List, [], ◌∷◌, ◌++◌, length, sym, ◌∙◌, All}
use Rattle.algebra.specs.Fraction.{Fraction, ℚ}
use Rattle.polynomials.specs.Terms.{Terms, value_at}
use Rattle.polynomials.specs.Polynomial.{Arity}
use Rattle.loops.specs.Program.{Expr, Program}
use Rattle.rounds.specs.Word.{IsLetter, after_word}
use Rattle.rounds.specs.Generate.{Generates}
use Rattle.rounds.proofs.Run.{value_after_word, letters_of_run, end_of_letters}
use Rattle.rounds.proofs.Word.{arity-after_word}
use Rattle.rounds.specs.Kept.{IsKept}
use Rattle.loops.specs.Chain.{Chain, Stage, stages_of, loop_of, state_behind, followed_by, ChainRun, ChainInv}
use Rattle.corollaries.proofs.Mapped.{IsZeroBehind}
use Rattle.loops.proofs.ChainRuns.{behind_state, chain_keeps_state, chain_goes_on, last_word}

module _ {At : Type 0} (c : Chain (Expr At)) (g : Stage (Expr At)) (ks : List (Terms Fraction))
    (k : Generates (length c.first.names) ks (IsZeroBehind c g.code)) (p : Terms Fraction) where
  abbrev l : Program (Expr At)
  l = loop_of c.first g.branches

  pub kept_is_invariant : Arity (length c.first.names) p → IsKept (loop_of c.first g.branches) ks p
      → ChainInv (followed_by c g) p
  kept_is_invariant a kept = record { arity = a; zero = λ r. at_end r }
    where
      at_end : (r : ChainRun (followed_by c g)) → value_at ℚ p r.end ≡ ℚ.zero
      at_end r =
          let w = last_word c.first (stages_of c) g r.words r.start r.end r.is_end in
          let letters : All (IsLetter l) w.word =
          letters_of_run l w.word (state_behind c.first g.code w.mid) r.end w.last in
          let before : IsZeroBehind c g.code (after_word l w.word p) =
          k.only (after_word l w.word p) (arity-after_word l w.word p a)
          (kept.in_words w.word letters tt) in
          let state : length w.mid ≡ length c.first.names = chain_keeps_state c.first (stages_of c)
          w.words r.start w.mid r.is_start.state w.before in
          sym (value_after_word l p w.word (state_behind c.first g.code w.mid) r.end
          (behind_state c.first g.code w.mid state) w.last)
          ∙ before.zero (record {
            start = r.start;
            words = w.words;
            end = w.mid;
            is_start = r.is_start;
            is_end = w.before;
          })

  pub invariant_is_kept : ChainInv (followed_by c g) p → IsKept (loop_of c.first g.branches) ks p
  invariant_is_kept i = record {
    in_words = λ w all t.
        k.all (after_word l w p) (arity-after_word l w p i.arity) (before w all);
  }
    where
      before : (w : List ℕ) → All (IsLetter l) w → IsZeroBehind c g.code (after_word l w p)
      before w all = record {
        arity = arity-after_word l w p i.arity;
        zero = λ r.
            let s = state_behind c.first g.code r.end in
            let (end, h) = end_of_letters l w s all in
            let state : length r.end ≡ length c.first.names =
            chain_keeps_state c.first (stages_of c) r.words r.start r.end r.is_start.state
            r.is_end in
            value_after_word l p w s end (behind_state c.first g.code r.end state) h
            ∙ i.zero (record {
              start = r.start;
              words = r.words ++ w ∷ [];
              end = end;
              is_start = r.is_start;
              is_end = chain_goes_on c.first (stages_of c) g r.words w r.start r.end end r.is_end h;
            });
      }
