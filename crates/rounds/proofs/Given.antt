-- The lists that a journal has given so far are the reduced bases of the invariants of their tasks.
--   round_after, list_of    of a round's beginning, and of a list in it
--   has_passed              the closing tests that have passed
--   run_given               the law
use Rattle.std.proofs.Common.{◌≡◌, ℕ, suc, ◌<◌, ◌≤◌, List, [], ◌∷◌, get_or, length, arith}
use Rattle.algebra.specs.Fraction.{Fraction, ℚ, rationals}
use Rattle.polynomials.specs.Terms.{Terms}
use Rattle.polynomials.proofs.Arity.{arity_at}
use Rattle.polynomials.specs.Order.{grevlex}
use Rattle.ideals.specs.Members.{IsMember}
use Rattle.machines.specs.Journal.{Entry}
use Rattle.machines.specs.Reduced.{IsReducedFor}
use Rattle.machines.specs.Run.{IsRun}
use Rattle.loops.specs.Program.{Expr, Program}
use Rattle.rounds.specs.Word as words
use Rattle.rounds.specs.Word.{AtMost, Ending, LaterIterations, FirstIterations, Every, IsLetter, after_word, Stays}
use Rattle.rounds.specs.Generate.{Generates}
use Rattle.rounds.specs.Round.{IsClosed}
use Rattle.rounds.specs.Analysis.{Setting, Work, starts, iteration, iteration_meet, orbit, meet, State, fresh, working, closing, turning, asking, form_of, iterations_of, moves}
use Rattle.rounds.specs.Lists.{HasPassed, IsRoundAfter, AreAll, IsListOf, AreOfWork, AreGiven}
use Rattle.rounds.specs.Results.{IsReducedList, Laws}
use Rattle.rounds.proofs.Word.{arity-after_word}
use Rattle.rounds.proofs.Invariants.{reduced_for}
use Rattle.rounds.proofs.Round.{iterations_generate, round_generates, all_is_closed}
use Rattle.rounds.proofs.Beginnings.{IsTold, Begins}
use Rattle.rounds.proofs.Journal as Journal
use Rattle.rounds.proofs.Journal.{since_in}

module _ {At : Type 0} (program : Program (Expr At)) (nonempty : 0 < length program.branches)
    (A : Setting) (count : length A.forms ≡ length program.branches) (laws : Laws program A)
    (I : Terms Fraction → Type 0) (begins : Begins program A I) where
  abbrev m : ℕ
  m = length program.names

  abbrev Found : ℕ → List (Terms Fraction) → Type 0
  Found = Journal.Found program nonempty A count laws I begins

  abbrev Before : List (Terms Fraction) → ℕ → ℕ → Type 0
  Before = Journal.Before program nonempty A count laws I begins

  abbrev Iterations : ℕ → List (Terms Fraction) → Type 0
  Iterations = Journal.Iterations program nonempty A count laws I begins

  abbrev IsList : (ℕ → ℕ → Type 0) → List (Terms Fraction) → List (Terms Fraction) → Type 0
  IsList = Journal.IsList program nonempty A count laws I begins

  abbrev InBranch : ℕ → ℕ → ℕ → List (Terms Fraction) → List (Terms Fraction) → Type 0
  InBranch = Journal.InBranch program nonempty A count laws I begins

  abbrev Context : Work → Type 0
  Context = Journal.Context program nonempty A count laws I begins

  abbrev Sound : State → Type 0
  Sound = Journal.Sound program nonempty A count laws I begins

  -- ---- the lists given so far, told by P along words and by Q along all
  module _ (P : (List ℕ → Type 0) → Terms Fraction → Type 0) (Q : Terms Fraction → Type 0)
      (told : IsTold program I P Q) where
    basis : (R : Terms Fraction → Type 0) (gs : List (Terms Fraction)) → IsReducedList m gs
        → Generates m gs R → IsReducedFor rationals grevlex (length program.names) gs R
    basis R gs r g = reduced_for m (IsMember ℚ m gs) R gs (λ p a. (g.only p a, g.all p a)) r

    along : (W : List ℕ → Type 0) (gs : List (Terms Fraction)) → Generates m gs (Stays program I W)
        → Generates m gs (P W)
    along W gs g = record {
      arities = g.arities;
      only = λ p a i. (told.along W p a).1 (g.only p a i);
      all = λ p a h. g.all p a ((told.along W p a).0 h);
    }

    level : (k : ℕ) (gs : List (Terms Fraction)) → Found k gs
        → Generates m gs (Stays program I (AtMost k))
    level k gs f = round_generates program I nonempty k gs f.round

    level_basis : (k : ℕ) (gs : List (Terms Fraction)) → Found k gs
        → IsReducedFor rationals grevlex (length program.names) gs (P (AtMost k))
    level_basis k gs f = basis (P (AtMost k)) gs f.reduced (along (AtMost k) gs (level k gs f))

    -- a list that isn't closed has more than what is kept
    has_more : (k : ℕ) (gs : List (Terms Fraction)) → Found k gs → (IsClosed program gs → ⊥)
        → AreAll program P Q (since_in A) k → ⊥
    has_more k gs f open_ h = open_ (all_is_closed program I k gs (level k gs f)
        (λ p a s. (told.all p a).0 (h p a ((told.along (AtMost k) p a).1 s))))

    round_after : (k : ℕ) (gs : List (Terms Fraction)) → Iterations k gs
        → IsRoundAfter program P Q (since_in A) k gs
    round_after k gs t = record {
      before = t.before;
      number = t.is;
      basis = level_basis t.before gs t.found;
      more = has_more t.before gs t.found t.open_;
    }

    list_basis : (k : ℕ) (R : ℕ → ℕ → Type 0) (gs hs : List (Terms Fraction))
        → ((i t : ℕ) → R i t → IsLetter program i) → (t : Iterations k gs) → IsList R gs hs
        → IsReducedFor rationals grevlex (length program.names) hs (P (Ending t.before R))
    list_basis k R gs hs l t h = basis (P (Ending t.before R)) hs h.reduced
        (along (Ending t.before R) hs
        (iterations_generate program I t.before R gs hs l (level t.before gs t.found) h.is))

    list_of : (k : ℕ) (R : ℕ → ℕ → Type 0) (gs hs : List (Terms Fraction))
        → ((i t : ℕ) → R i t → IsLetter program i) → Iterations k gs → IsList R gs hs
        → IsListOf program P Q (since_in A) k R gs hs
    unfolding round_after
    list_of k R gs hs l t h = record {
      round = round_after k gs t;
      basis = list_basis k R gs hs l t h;
    }

    first_letters : (k b n : ℕ) (gs so_far : List (Terms Fraction)) → InBranch k b n gs so_far
        → (i t : ℕ) → FirstIterations b n i t → IsLetter program i
    first_letters k b n gs so_far c i t r = record {
      some = r.0;
      within = let l : b < length program.branches = c.within in
          let h : i ≤ suc b = r.1 in omega (arith, l, h);
    }

    own_letter : (b : ℕ) → b < length program.branches → (i : ℕ) → i ≡ suc b → IsLetter program i
    own_letter b l i e = record { some = omega (arith, e); within = omega (arith, l, e) }

    so_far_of : (k b n : ℕ) (gs so_far : List (Terms Fraction)) → InBranch k b n gs so_far
        → IsListOf program P Q (since_in A) k (FirstIterations b n) gs so_far
    so_far_of k b n gs so_far c = list_of k (FirstIterations b n) gs so_far
        (first_letters k b n gs so_far c) c.iterations c.so_far_is

    has_passed : (k b i : ℕ) (gs : List (Terms Fraction)) → Found k gs → Before gs b i
        → HasPassed program P Q (since_in A) k gs b i
    unfolding after_word
    has_passed k b i gs f before =
        let g = along (AtMost k) gs (level k gs f) in record {
          passed = λ c j h lj. g.only _
              (arity-after_word program (suc c ∷ []) (get_or gs j []) (arity_at m gs g.arities j))
              (before.passed c j h lj);
        }

    of_work : (x : Work) → Context x → AreOfWork program P Q (since_in A) x
    unfolding Journal.Context
    of_work starts c = tt
    of_work (iteration k b n gs ks hs) c = (
      so_far_of k b n gs hs c.branch,
      list_of k (words.Iterations (suc b) n) gs ks (λ i t r. own_letter b c.branch.within i r.0)
          c.branch.iterations c.before_is,
    )
    of_work (iteration_meet k b n gs hs ks) c = (
      so_far_of k b n gs hs c.branch,
      list_of k (words.Iterations (suc b) (suc n)) gs ks (λ i t r. own_letter b c.branch.within i
          r.0)
          c.branch.iterations c.turned_is,
    )
    of_work (orbit k b gs hs) c = so_far_of k b (iterations_of A b) gs hs c
    of_work (meet k b gs hs ks) c = (
      so_far_of k b (iterations_of A b) gs hs c.branch,
      list_of k (LaterIterations (suc b) (form_of A b).since) gs ks
          (λ i t r. own_letter b c.branch.within i r.0) c.branch.iterations c.orbit_is,
    )

    whole_basis : (k : ℕ) (gs : List (Terms Fraction)) → Found k gs → IsClosed program gs
        → IsReducedFor rationals grevlex (length program.names) gs Q
    whole_basis k gs f c =
        reduced_for m (Stays program I Every) Q gs (λ p a. ((told.all p a).1, (told.all p a).0))
        (Journal.closed_basis program nonempty A count laws I begins k gs f c)

    given : (s : State) → Sound s → AreGiven program P Q (since_in A) s
    unfolding Journal.Sound
    given fresh h = tt
    given (working x s) h = of_work x h.0
    given (closing k b i gs s) h = (level_basis k gs h.found, has_passed k b i gs h.found h.before)
    given (turning k gs) h = round_after k gs h
    given (asking k gs s) h = (level_basis k gs h.found, whole_basis k gs h.found h.closed)

    pub run_given : (es : List Entry) (t : State) → IsRun (moves A) fresh es t
        → AreGiven program P Q (since_in A) t
    unfolding Journal.Sound
    run_given es t r =
        given t (Journal.run_sound program nonempty A count laws I begins es fresh t tt r)
