-- The lists of rounds generate the levels, and a closed one all invariants.
--   iterations_generate       a list of what is a member after iterations that are allowed: that level and then these iterations
--   orbit_generates      an orbit of a list that generates a level: that level and then iterations of the branch
--   so_far_generates     the list so far: that level and then iterations of a branch up to the last
--   round_generates      the list of round k generates level k
--   closed_stays         what is a member of a closed list's ideal stays one
--   closed_generates     a closed round generates what stays in every word
--   all_is_closed        a list of a level that is all is closed
--   round_is_least       the level before isn't all
--   level_of_every       what stays in every word stays in those of a level
use Rattle.std.proofs.Common.{◌≡◌, ℕ, ◌<◌, ◌≤◌, ◌⊎◌, inl, inr, List, [], ◌∷◌, ◌++◌, replicate, get_or, length, arith, sym, subst, All}
use Rattle.std.proofs.lemmas.List.Elements.{All-nil, All-cons, All-head, All-tail, All-append}
use Rattle.algebra.specs.Fraction.{Fraction, ℚ}
use Rattle.polynomials.specs.Terms.{Terms}
use Rattle.polynomials.specs.Polynomial.{Arity, AllArity}
use Rattle.ideals.specs.Members.{IsMember}
use Rattle.loops.specs.Program.{Expr, Program}
use Rattle.polynomials.proofs.Arity.{arity_at}
use Rattle.loops.proofs.Maps.{arity-branch_map}
use Rattle.rounds.specs.Word.{pieces, AtMost, Ending, AnyIterations, LettersTo, Then, UpTo, Every, IsLetter, after_iteration, after_word, Stays}
use Rattle.rounds.specs.Generate.{Generates}
use Rattle.rounds.specs.Round.{IsOrbit, IsAfter, IsSoFar, IsClosed, IsRound, start, round}
use Rattle.ideals.proofs.FractionMembers.{member_at, member_turned}
use Rattle.rounds.proofs.Parts.{any_iterations}
use Rattle.rounds.proofs.Word.{no_pieces, after_word-append, arity-after_word, ending_of_iterations, iterations_of_ending, level_of_letters, letters_of_level}

module _ {At : Type 0} (program : Program (Expr At)) where
  abbrev m : ℕ
  m = length program.names

  module _ (gs : List (Terms Fraction)) (a : AllArity (length program.names) gs)
      (c : IsClosed program gs) where
    iteration_stays : (b : ℕ) (p : Terms Fraction) → IsLetter program b → Arity m p
        → IsMember ℚ m gs p
        → IsMember ℚ m gs (after_iteration program b p)
    iteration_stays b p l pa i = member_turned m m gs gs _ p a a (arity-branch_map program _) pa
        (λ j k.
        c.turned b j l k) i

    pub closed_stays : (w : List ℕ) (p : Terms Fraction) → All (IsLetter program) w → Arity m p
        → IsMember ℚ m gs p → IsMember ℚ m gs (after_word program w p)
    unfolding after_word
    closed_stays [] p all pa i = i
    closed_stays (b ∷ w) p all pa i = iteration_stays b (after_word program w p)
        (All-head (IsLetter program) b w all) (arity-after_word program w p pa)
        (closed_stays w p (All-tail (IsLetter program) b w all) pa i)

  module _ (I : Terms Fraction → Type 0) where
    -- iterations of letters that are allowed
    pub iterations_generate : (k : ℕ) (R : ℕ → ℕ → Type 0) (gs hs : List (Terms Fraction))
        → ((i t : ℕ) → R i t → IsLetter program i) → Generates m gs (Stays program I (AtMost k))
        → IsAfter program gs R hs → Generates m hs (Stays program I (Ending k R))
    iterations_generate k R gs hs l g o = record {
      arities = o.arities;
      only = λ p a h. ending_of_iterations program I k R p
          (λ i t r. g.only _ (arity-after_word program (replicate t i) p a) (o.only p a h i t r));
      all = λ p a s. o.all p a (λ i t r. g.all _ (arity-after_word program (replicate t i) p a)
          (iterations_of_ending program I k R p i t (l i t r) r s));
    }

    pub orbit_generates : (k i : ℕ) (gs hs : List (Terms Fraction)) → IsLetter program i
        → Generates m gs (Stays program I (AtMost k)) → IsOrbit program gs i hs
        → Generates m hs (Stays program I (Then k i))
    orbit_generates k i gs hs l g o = iterations_generate k (AnyIterations i) gs hs
        (λ j t e. subst (IsLetter program) (sym e) l) g (any_iterations program gs i hs o)

    pub so_far_generates : (k : ℕ) (gs : List (Terms Fraction))
        → Generates m gs (Stays program I (AtMost k)) → (j : ℕ) (hs : List (Terms Fraction))
        → j ≤ length program.branches
        → IsSoFar program gs j hs → Generates m hs (Stays program I (UpTo k j))
    so_far_generates k gs g j hs l o = iterations_generate k (LettersTo j) gs hs
        (λ i t r. record { some = r.0; within = (let n : i ≤ j = r.1 in omega (arith, n, l)) }) g o

    pub round_generates : 0 < length program.branches → (k : ℕ) (gs : List (Terms Fraction))
        → IsRound program I k gs → Generates m gs (Stays program I (AtMost k))
    unfolding after_word pieces
    round_generates some _ _ (start gs g) = record {
      arities = g.arities;
      only = λ p a i. record {
        in_words = λ w all l. subst (λ x. I (after_word program x p))
            (sym (no_pieces w l)) (g.only p a i);
      };
      all = λ p a h. g.all p a (h.in_words [] (All-nil _) (omega arith));
    }
    round_generates some _ _ (round k gs hs before open_ so_far) =
        let h : Generates m hs (Stays program I (UpTo k (length program.branches))) =
        so_far_generates k gs (round_generates some k gs before) (length program.branches) hs
        (omega arith) so_far in record {
          arities = h.arities;
          only = λ p a i. level_of_letters program I k p some (h.only p a i);
          all = λ p a s.
              h.all p a (letters_of_level program I k (LettersTo (length program.branches)) p s);
        }

    pub level_of_every : (k : ℕ) (p : Terms Fraction) → Stays program I Every p
        → Stays program I (AtMost k) p
    level_of_every k p h = record { in_words = λ w all l. h.in_words w all tt }

    pub closed_generates : 0 < length program.branches → (k : ℕ) (gs : List (Terms Fraction))
        → IsRound program I k gs → IsClosed program gs → Generates m gs (Stays program I Every)
    unfolding after_word pieces
    closed_generates some k gs r c =
        let g : Generates m gs (Stays program I (AtMost k)) = round_generates some k gs r in
        record {
          arities = g.arities;
          only = λ p a i. record {
            in_words = λ w all t. (g.only (after_word program w p) (arity-after_word program w p a)
                (closed_stays gs g.arities c w p all a i)).in_words [] (All-nil _) (omega arith);
          };
          all = λ p a h. g.all p a (level_of_every k p h);
        }

    pub all_is_closed : (k : ℕ) (gs : List (Terms Fraction))
        → Generates m gs (Stays program I (AtMost k))
        → ((p : Terms Fraction) → Arity m p → Stays program I (AtMost k) p
        → Stays program I Every p) → IsClosed program gs
    unfolding after_word
    all_is_closed k gs g h = record {
      turned = λ b i l j.
          let p : Terms Fraction = get_or gs i [] in
          let a = arity_at m gs g.arities i in
          let s : Stays program I Every p = h p a (g.only p a (member_at m gs g.arities i j)) in
          g.all (after_iteration program b p) (arity-after_word program (b ∷ []) p a)
          (record {
            in_words = λ w all t. subst I (after_word-push w b p)
                (s.in_words (w ++ b ∷ []) (All-append (IsLetter program) w (b ∷ []) all
                (All-cons (IsLetter program) b [] l (All-nil _))) tt);
          });
    }
      where
        after_word-push : (w : List ℕ) (b : ℕ) (p : Terms Fraction)
            → after_word program (w ++ b ∷ []) p ≡ after_word program w
            (after_iteration program b p)
        after_word-push w b p = after_word-append program w (b ∷ []) p

    pub round_is_least : 0 < length program.branches → (k : ℕ) (gs : List (Terms Fraction))
        → IsRound program I k gs → (j : ℕ) → j < k
        → ((p : Terms Fraction) → Arity m p → Stays program I (AtMost j) p
        → Stays program I Every p) → ⊥
    round_is_least some _ _ (start gs g) j l h = absurd (omega arith)
    round_is_least some _ _ (round k gs hs before not_closed so_far) j l h =
        go (grind arith) (λ less. round_is_least some k gs before j less h)
      where
        go : (j < k) ⊎ (j ≡ k) → (j < k → ⊥) → ⊥
        go (inl less) earlier = earlier less
        go (inr e) earlier = not_closed (all_is_closed k gs (round_generates some k gs before)
            (subst (λ i. (p : Terms Fraction) → Arity m p → Stays program I (AtMost i) p
            → Stays program I Every p) e h))
