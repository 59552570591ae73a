-- Lists that have at least the invariants of a level: the halves of what lists of rounds generate, of which no completion is needed.
--   covers_starts, covers_orbit, covers_meet, covers_level      from one list to the next
use Rattle.std.proofs.Common.{◌≤◌, ℕ, suc, List, [], replicate, length, arith, refl}
use Rattle.std.proofs.lemmas.List.Elements.{All-nil}
use Rattle.algebra.specs.Fraction.{Fraction, ℚ}
use Rattle.polynomials.specs.Terms.{Terms}
use Rattle.polynomials.specs.Polynomial.{Arity, AllArity}
use Rattle.ideals.specs.Members.{IsMember}
use Rattle.loops.specs.Program.{Expr, Program}
use Rattle.rounds.specs.Word.{pieces, AtMost, AnyIterations, LettersTo, Then, UpTo, IsLetter, after_word, Stays}
use Rattle.rounds.proofs.Word.{arity-after_word, iterations_of_ending, ending_fewer, letters_of_level}
use Rattle.corollaries.specs.Cover.{Covers}

module _ {At : Type 0} (program : Program (Expr At)) (I : Terms Fraction → Type 0) where
  abbrev m : ℕ
  m = length program.names

  -- what is in I, at the start
  pub covers_starts : (gs : List (Terms Fraction)) → Covers m gs I
      → Covers m gs (Stays program I (AtMost 0))
  unfolding after_word pieces
  covers_starts gs c = record {
    arities = c.arities;
    all = λ p a s. c.all p a (s.in_words [] (All-nil _) (omega arith));
  }

  -- any number of iterations of a branch
  pub covers_orbit : (k i : ℕ) (gs hs : List (Terms Fraction)) → IsLetter program i
      → Covers m gs (Stays program I (AtMost k)) → AllArity m hs
      → ((p : Terms Fraction) → Arity m p → ((n : ℕ)
      → IsMember ℚ m gs (after_word program (replicate n i) p)) → IsMember ℚ m hs p)
      → Covers m hs (Stays program I (Then k i))
  covers_orbit k i gs hs l c a h = record {
    arities = a;
    all = λ p b s. h p b (λ n. c.all (after_word program (replicate n i) p)
        (arity-after_word program (replicate n i) p b)
        (iterations_of_ending program I k (AnyIterations i) p i n l refl s));
  }

  pub covers_first : (k : ℕ) (hs : List (Terms Fraction)) → Covers m hs (Stays program I (Then k 1))
      → Covers m hs (Stays program I (UpTo k 1))
  covers_first k hs c = record {
    arities = c.arities;
    all = λ p a s. c.all p a (ending_fewer program I k (AnyIterations 1) (LettersTo 1) p
        (λ i t e. (omega (arith, e), omega (arith, e))) s);
  }

  -- one branch more
  pub covers_meet : (k j : ℕ) (hs ks ls : List (Terms Fraction))
      → Covers m hs (Stays program I (UpTo k j)) → Covers m ks (Stays program I (Then k (suc j)))
      → AllArity m ls
      → ((p : Terms Fraction) → Arity m p → IsMember ℚ m hs p → IsMember ℚ m ks p
      → IsMember ℚ m ls p)
      → Covers m ls (Stays program I (UpTo k (suc j)))
  covers_meet k j hs ks ls c d a h = record {
    arities = a;
    all = λ p b s. h p b (c.all p b (ending_fewer program I k (LettersTo j) (LettersTo (suc j)) p
        (λ i t r. (r.0, (let l : i ≤ j = r.1 in omega (arith, l)))) s))
        (d.all p b (ending_fewer program I k (AnyIterations (suc j)) (LettersTo (suc j)) p
        (λ i t e. (omega (arith, e), omega (arith, e))) s));
  }

  -- the whole round
  pub covers_level : (k j : ℕ) (hs : List (Terms Fraction))
      → Covers m hs (Stays program I (UpTo k j)) → Covers m hs (Stays program I (AtMost (suc k)))
  covers_level k j hs c = record {
    arities = c.arities;
    all = λ p a s. c.all p a (letters_of_level program I k (LettersTo j) p s);
  }
