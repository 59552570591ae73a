-- Values of what is composed with a word are those at the ends of runs.
--   value_after_word       p composed with a word, at a state, is p at the word's end
--   letters_of_run         the letters of a run are numbers of branches
--   end_of_letters         each word of such letters has an end
--   zero_of_stays, stays_of_zero     what is zero at the ends of a set of words stays, with them, zero at the starts
--   inv_of_stays, stays_of_inv       and so for all words
use Rattle.std.proofs.Common.{◌≡◌, ℕ, zero, suc, ◌<◌, ◌≤◌, List, [], ◌∷◌, length, arith, refl, sym, ap, ◌∙◌, All, Option, Some, None, option_and_then}
use Rattle.std.proofs.lemmas.List.Elements.{All-nil, All-cons, All-head, All-tail}
use Rattle.std.proofs.lemmas.Option.{slice_get_within, slice_get-get_or, get_or_from_slice_get}
use Rattle.algebra.specs.Fraction.{Fraction, ℚ}
use Rattle.polynomials.specs.Terms.{Terms, value_at}
use Rattle.polynomials.specs.Polynomial.{Arity}
use Rattle.loops.specs.Program.{Expr, Program, Statement}
use Rattle.loops.specs.Run.{run_end, branch_at, effect, IsState}
use Rattle.loops.specs.Inv.{Inv}
use Rattle.loops.proofs.Maps.{value_after_branch, effect_keeps_state}
use Rattle.rounds.specs.Word.{Every, IsLetter, branch_of, after_word, Stays, IsZeroAtStarts}
use Rattle.rounds.specs.Level.{IsZeroAfter}

module _ {At : Type 0} (program : Program (Expr At)) where
  branch_at-letter : (b : ℕ) → IsLetter program b → branch_at program b ≡ Some (branch_of program b)
  unfolding branch_at
  branch_at-letter zero l = absurd (let s : 0 < 0 = l.some in omega arith)
  branch_at-letter (suc b) l = slice_get-get_or program.branches b [] (let s : suc b
      ≤ length program.branches = l.within in omega arith)

  letter_of : (b : ℕ) (branch : List (Statement (Expr At))) → branch_at program b ≡ Some branch
      → IsLetter program b × (branch_of program b ≡ branch)
  unfolding branch_at
  letter_of zero branch h = absurd (cc)
  letter_of (suc b) branch h =
      let l : b < length program.branches = slice_get_within program.branches b branch h in (
        record { some = omega arith; within = omega arith },
        get_or_from_slice_get program.branches b
            branch [] h,
      )

  pub value_after_word : (p : Terms Fraction) → (w : List ℕ) (s end : List Fraction)
      → IsState program s → run_end program w s ≡ Some end
      → value_at ℚ (after_word program w p) s ≡ value_at ℚ p end
  unfolding run_end after_word
  value_after_word p [] s end is h = let e : s ≡ end = cc in ap (value_at ℚ p) e
  value_after_word p (b ∷ w) s end is h = go (branch_at program b) refl h
      (λ t. value_after_word p w t end)
    where
      go : (o : Option (List (Statement (Expr At)))) → branch_at program b ≡ o
          → option_and_then (λ branch. run_end program w (effect program branch s)) o ≡ Some end
          → ((t : List Fraction) → IsState program t → run_end program w t ≡ Some end
          → value_at ℚ (after_word program w p) t ≡ value_at ℚ p end)
          → value_at ℚ (after_word program (b ∷ w) p) s ≡ value_at ℚ p end
      go None e h ih = absurd (cc)
      go (Some branch) e h ih =
          let same : branch_of program b ≡ branch = (letter_of b branch e).1 in
          value_after_branch program (after_word program w p) (branch_of program b) s is
          ∙ ap (λ x. value_at ℚ (after_word program w p) (effect program x s)) same
          ∙ ih (effect program branch s) (effect_keeps_state program branch s is) h

  pub letters_of_run : (w : List ℕ) (s end : List Fraction) → run_end program w s ≡ Some end
      → All (IsLetter program) w
  unfolding run_end
  letters_of_run [] s end h = All-nil _
  letters_of_run (b ∷ w) s end h = go (branch_at program b) refl h (λ t. letters_of_run w t end)
    where
      go : (o : Option (List (Statement (Expr At)))) → branch_at program b ≡ o
          → option_and_then (λ branch. run_end program w (effect program branch s)) o ≡ Some end
          → ((t : List Fraction) → run_end program w t ≡ Some end → All (IsLetter program) w)
          → All (IsLetter program) (b ∷ w)
      go None e h ih = absurd (cc)
      go (Some branch) e h ih = All-cons (IsLetter program) b w (letter_of b branch e).0
          (ih (effect program branch s) h)

  pub end_of_letters : (w : List ℕ) (s : List Fraction) → All (IsLetter program) w
      → (end : List Fraction) × (run_end program w s ≡ Some end)
  unfolding run_end
  end_of_letters [] s all = (s, refl)
  end_of_letters (b ∷ w) s all =
      let (end, h) = end_of_letters w (effect program (branch_of program b) s)
      (All-tail (IsLetter program) b w all) in (
        end,
        ap (option_and_then (λ branch. run_end program w (effect program branch s)))
            (branch_at-letter b (All-head (IsLetter program) b w all)) ∙ h,
      )

  module _ (W : List ℕ → Type 0) (p : Terms Fraction) where
    pub zero_of_stays : Arity (length program.names) p → Stays program (IsZeroAtStarts program) W p
        → IsZeroAfter program W p
    zero_of_stays a h = record {
      arity = a;
      zero = λ r t. sym (value_after_word p r.word r.start r.end r.is_start.state r.is_end)
          ∙ (h.in_words r.word (letters_of_run r.word r.start r.end r.is_end) t).zero r.start
          r.is_start;
    }

    pub stays_of_zero : IsZeroAfter program W p → Stays program (IsZeroAtStarts program) W p
    stays_of_zero h = record {
      in_words = λ w all t. record {
        zero = λ s is.
            let (end, e) = end_of_letters w s all in
            value_after_word p w s end is.state e
            ∙ h.zero (record { start = s; word = w; end = end; is_start = is; is_end = e }) t;
      };
    }

  pub inv_of_stays : (p : Terms Fraction) → Arity (length program.names) p
      → Stays program (IsZeroAtStarts program) Every p → Inv program p
  inv_of_stays p a h = let z : IsZeroAfter program Every p = zero_of_stays Every p a h in
      record { arity = a; zero = λ r. z.zero r tt }

  pub stays_of_inv : (p : Terms Fraction) → Inv program p → Stays program (IsZeroAtStarts program)
      Every p
  stays_of_inv p i = stays_of_zero Every p (record { arity = i.arity; zero = λ r t. i.zero r })
