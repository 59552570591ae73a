-- A finished journal's list is that of a closed round, reduced.
--   Sound s             what holds at each state of an analysis
--   step_sound          and after what comes next
--   run_sound           so along each run
--   finished_round      what an analysis finishes with is the list of a closed round, reduced for its own ideal
use Rattle.std.proofs.Common.{◌≡◌, ℕ, zero, suc, ◌<◌, ◌≤◌, ◌⊎◌, inl, inr, Bool, true, false, cond, ltb, ◌&&◌, List, [], ◌∷◌, get_or, length, arith, refl, sym, ap, subst, ◌∙◌, ◌↔◌, Option, Some, None}
use Rattle.std.proofs.lemmas.Bool.{and_parts, and_cases, ltb-false, ltb-true}
use Rattle.algebra.specs.Fraction.{Fraction, ℚ, rationals}
use Rattle.polynomials.specs.Terms.{Terms}
use Rattle.polynomials.specs.Polynomial.{AllArity, IsPolynomial}
use Rattle.polynomials.specs.Order.{grevlex, blocks}
use Rattle.polynomials.proofs.Orders.{grevlex_order}
use Rattle.machines.proofs.ReducedLists.{reduced_arity}
use Rattle.ideals.specs.Members.{IsMember}
use Rattle.machines.specs.Elimination.{free_part, blend}
use Rattle.machines.specs.Event.{Event}
use Rattle.machines.specs.Journal.{Entry}
use Rattle.machines.specs.Reduced.{IsReducedFor}
use Rattle.machines.specs.Run.{IsRun, HasEnded}
use Rattle.machines.specs.Elimination as elimination
use Rattle.machines.specs.Division as division
use Rattle.loops.specs.Program.{Expr, Program}
use Rattle.rounds.specs.Word as words
use Rattle.rounds.specs.Word.{LaterIterations, FirstIterations, Every, IsLetter, after_iteration, Stays}
use Rattle.rounds.specs.Generate.{IsMeet}
use Rattle.rounds.specs.Round as rounds
use Rattle.rounds.specs.Round.{IsAfter, IsSoFar, IsClosed, IsRound}
use Rattle.rounds.specs.Orbit.{IsEliminated}
use Rattle.rounds.specs.Analysis.{Setting, Work, starts, iteration, iteration_meet, orbit, meet, State, fresh, working, closing, turning, asking, Step, goes, finished, answered, form_of, iterations_of, block, order, starting, pullback, after_closing, test, closing_from, begin_iteration, begin_orbit, begin_meet, after_iterations, begin_branch, after_branch, after_orbit, after, next_work, machine_of, list_at, after_test, closed_by, asked_by, first_step, next, move_of, moves}
use Rattle.rounds.specs.Results.{LeadsTo, EndsWork, IsReducedList, Laws}
use Rattle.rounds.proofs.Invariants.{reduced_for}
use Rattle.rounds.proofs.Parts.{own_list, no_iterations, first_so_far, later_iterations, one_iteration_more, met_iteration, met_orbit, to_next_branch}
use Rattle.rounds.proofs.Round.{closed_generates}
use Rattle.rounds.proofs.Beginnings.{Begins, comes_here, comes_longer, less_or_same, polynomial_of}

-- from which number of iterations on the form of a branch is the state
abbrev pub since_in : Setting → ℕ → ℕ
since_in A b = (form_of A b).since

module _ {At : Type 0} (program : Program (Expr At)) (nonempty : 0 < length program.branches)
    (A : Setting) (count : length A.forms ≡ length program.branches) (laws : Laws program A)
    (I : Terms Fraction → Type 0) (begins : Begins program A I) where
  abbrev m : ℕ
  m = length program.names

  -- the list of round k, reduced
  pub record Found (k : ℕ) (gs : List (Terms Fraction)) : Type 0 where
    pub round : IsRound program I k gs
    pub reduced : IsReducedList (length program.names) gs

  -- the closing tests before that of element i with branch b have passed
  pub record Before (gs : List (Terms Fraction)) (b i : ℕ) : Type 0 where
    pub passed : (c j : ℕ) → (c < b) ⊎ ((c ≡ b) × (j < i)) → j < length gs
        → IsMember ℚ m gs (after_iteration program (suc c) (get_or gs j []))

  pub record Iterations (k : ℕ) (gs : List (Terms Fraction)) : Type 0 where
    pub before : ℕ
    pub is : k ≡ suc before
    pub found : Found before gs
    pub open_ : IsClosed program gs → ⊥

  -- a list of the round that begins with gs, of iterations that are allowed
  pub record IsList (R : ℕ → ℕ → Type 0) (gs hs : List (Terms Fraction)) : Type 0 where
    pub is : IsAfter program gs R hs
    pub reduced : IsReducedList m hs

  -- so far, with n iterations of branch b
  pub record InBranch (k b n : ℕ) (gs so_far : List (Terms Fraction)) : Type 0 where
    pub iterations : Iterations k gs
    pub within : b < length program.branches
    pub so_far_is : IsList (FirstIterations b n) gs so_far

  pub record InIteration (k b n : ℕ) (gs before so_far : List (Terms Fraction)) : Type 0 where
    pub branch : InBranch k b n gs so_far
    pub few : n < iterations_of A b
    pub before_is : IsList (words.Iterations (suc b) n) gs before

  pub record InIterationMeet (k b n : ℕ) (gs so_far ks : List (Terms Fraction)) : Type 0 where
    pub branch : InBranch k b n gs so_far
    pub few : n < iterations_of A b
    pub turned_is : IsList (words.Iterations (suc b) (suc n)) gs ks

  pub record InMeet (k b : ℕ) (gs so_far hs : List (Terms Fraction)) : Type 0 where
    pub branch : InBranch k b (iterations_of A b) gs so_far
    pub orbit_is : IsList (LaterIterations (suc b) (form_of A b).since) gs hs

  unfoldable pub Context : Work → Type 0
  Context starts = A.given ≡ None
  Context (iteration k b n gs before so_far) = InIteration k b n gs before so_far
  Context (iteration_meet k b n gs so_far ks) = InIterationMeet k b n gs so_far ks
  Context (orbit k b gs so_far) = InBranch k b (iterations_of A b) gs so_far
  Context (meet k b gs so_far hs) = InMeet k b gs so_far hs

  pub Works : Work → elimination.State Fraction → Type 0
  Works x s = LeadsTo (machine_of A x).next (machine_of A x).start s

  pub record InClosing (k b i : ℕ) (gs : List (Terms Fraction)) (s : division.State Fraction) : Type
      0 where
    pub found : Found k gs
    pub before : Before gs b i
    pub branch : b < length program.branches
    pub element : i < length gs
    pub divides : LeadsTo (division.next rationals grevlex gs)
        (division.initial_state gs (pullback A b (get_or gs i []))) s

  pub record InAsking (k : ℕ) (gs : List (Terms Fraction)) (s : division.State Fraction) : Type
      0 where
    pub found : Found k gs
    pub closed : IsClosed program gs
    pub polynomial : Terms Fraction
    pub is_asked : A.asked ≡ Some polynomial
    pub divides : LeadsTo (division.next rationals grevlex gs)
        (division.initial_state gs polynomial) s

  unfoldable pub Sound : State → Type 0
  Sound fresh = Unit {0}
  Sound (working x s) = Context x × Works x s
  Sound (closing k b i gs s) = InClosing k b i gs s
  Sound (turning k gs) = Iterations k gs
  Sound (asking k gs s) = InAsking k gs s

  SoundStep : Step → Type 0
  SoundStep (goes e s) = Sound s
  SoundStep (finished k gs) = Found k gs × IsClosed program gs × (A.asked ≡ None)
  SoundStep (answered k gs s) = InAsking k gs s × HasEnded (division.next rationals grevlex gs) s

  -- ---- closing tests
  ending_sound : (k : ℕ) (gs : List (Terms Fraction)) → Found k gs → IsClosed program gs
      → (o : Option (Terms Fraction)) → A.asked ≡ o → SoundStep (after_closing A o k gs)
  unfolding SoundStep Sound
  ending_sound k gs f c None h = (f, c, h)
  ending_sound k gs f c (Some p) h = record {
    found = f;
    closed = c;
    polynomial = p;
    is_asked = h;
    divides = comes_here (division.next rationals grevlex gs) (division.initial_state gs p);
  }

  test_sound : (k b i : ℕ) (gs : List (Terms Fraction)) → Found k gs → Before gs b i
      → b < length program.branches → i < length gs → SoundStep (test A k b i gs)
  unfolding SoundStep Sound
  test_sound k b i gs f before lb li = record {
    found = f;
    before = before;
    branch = lb;
    element = li;
    divides = comes_here (division.next rationals grevlex gs)
        (division.initial_state gs (pullback A b (get_or gs i [])));
  }

  -- past the last element: all before and of branch b
  passed_all : (gs : List (Terms Fraction)) (b i : ℕ) → length gs ≤ i → Before gs b i → (c j : ℕ)
      → (c < b) ⊎ (c ≡ b) → j < length gs
      → IsMember ℚ m gs (after_iteration program (suc c) (get_or gs j []))
  passed_all gs b i l before c j (inl h) lj = before.passed c j (inl h) lj
  passed_all gs b i l before c j (inr h) lj = before.passed c j (inr (h, omega arith)) lj

  next_branch : (gs : List (Terms Fraction)) (b i : ℕ) → length gs ≤ i → Before gs b i
      → Before gs (suc b) 0
  next_branch gs b i l before = record { passed = λ c j h lj. go c j h lj }
    where
      go : (c j : ℕ) → (c < suc b) ⊎ ((c ≡ suc b) × (j < 0)) → j < length gs
          → IsMember ℚ m gs (after_iteration program (suc c) (get_or gs j []))
      go c j (inl h) lj = passed_all gs b i l before c j (less_or_same c b h) lj
      go c j (inr h) lj = absurd (let l : j < 0 = h.1 in omega arith)

  all_passed : (gs : List (Terms Fraction)) (b i : ℕ) → length gs ≤ i → (length gs ≤ 0)
      ⊎ (length program.branches ≤ suc b) → Before gs b i → IsClosed program gs
  all_passed gs b i l done before = record { turned = go }
    where
      cases : (c : ℕ) → c < length program.branches → (length program.branches ≤ suc b) → (c < b)
          ⊎ (c ≡ b)
      cases c h k = grind arith

      at : (c j : ℕ) → c < length program.branches → j < length gs → (length gs ≤ 0)
          ⊎ (length program.branches ≤ suc b)
          → IsMember ℚ m gs (after_iteration program (suc c) (get_or gs j []))
      at c j lc lj (inl none) = absurd (omega arith)
      at c j lc lj (inr last) = passed_all gs b i l before c j (cases c lc last) lj

      go : (d j : ℕ) → IsLetter program d → j < length gs
          → IsMember ℚ m gs (after_iteration program d (get_or gs j []))
      go zero j letter lj = absurd (let s : 0 < 0 = letter.some in omega arith)
      go (suc c) j letter lj = at c j (let s : suc c ≤ length program.branches = letter.within in
          omega arith) lj done

  closing_sound : (k b i : ℕ) (gs : List (Terms Fraction)) → Found k gs → Before gs b i
      → b < length program.branches → SoundStep (closing_from A k b i gs)
  unfolding closing_from
  closing_sound k b i gs f before lb = outer (ltb i (length gs)) refl
    where
      none_or_last : ltb 0 (length gs) ≡ false → length gs ≤ 0
      none_or_last h = ltb-false 0 (length gs) h

      last : ltb (suc b) (length A.forms) ≡ false → length program.branches ≤ suc b
      last h = let l = ltb-false (suc b) (length A.forms) h in omega (arith, count)

      done : (ltb 0 (length gs) ≡ false) ⊎ (ltb (suc b) (length A.forms) ≡ false) → (length gs ≤ 0)
          ⊎ (length program.branches ≤ suc b)
      done (inl h) = inl (none_or_last h)
      done (inr h) = inr (last h)

      inner : (o : Bool) → (ltb 0 (length gs) && ltb (suc b) (length A.forms)) ≡ o → length gs ≤ i
          → SoundStep (cond o (test A k (suc b) 0 gs) (after_closing A A.asked k gs))
      inner true h l =
          let both = and_parts (ltb 0 (length gs)) (ltb (suc b) (length A.forms)) h in
          test_sound k (suc b) 0 gs f (next_branch gs b i l before) (let n =
          ltb-true (suc b) (length A.forms) both.1 in omega (arith, count))
          (ltb-true 0 (length gs) both.0)
      inner false h l =
          ending_sound k gs f
          (all_passed gs b i l (done (and_cases (ltb 0 (length gs)) (ltb (suc b) (length A.forms))
          h)) before) A.asked refl

      outer : (o : Bool) → ltb i (length gs) ≡ o
          → SoundStep
          (cond o (test A k b i gs) (cond (ltb 0 (length gs) && ltb (suc b) (length A.forms))
          (test A k (suc b) 0 gs) (after_closing A A.asked k gs)))
      outer true h = test_sound k b i gs f before lb (ltb-true i (length gs) h)
      outer false h = inner (ltb 0 (length gs) && ltb (suc b) (length A.forms)) refl
          (ltb-false i (length gs) h)

  -- ---- what follows a task
  nothing_before : (gs : List (Terms Fraction)) → Before gs 0 0
  nothing_before gs = record { passed = λ c j h lj. go c j h }
    where
      go : (c j : ℕ) → (c < 0) ⊎ ((c ≡ 0) × (j < 0))
          → IsMember ℚ m gs (after_iteration program (suc c) (get_or gs j []))
      go c j (inl h) = absurd (omega arith)
      go c j (inr h) = absurd (let l : j < 0 = h.1 in omega arith)

  list_arity : (gs : List (Terms Fraction)) → IsReducedList m gs → AllArity m gs
  list_arity gs r = reduced_arity grevlex grevlex_order m gs (IsMember ℚ m gs) r

  -- n iterations of branch b are taken
  after_iterations_sound : (k b n : ℕ) (gs before so_far : List (Terms Fraction))
      → n ≤ iterations_of A b
      → InBranch k b n gs so_far → IsList (words.Iterations (suc b) n) gs before
      → SoundStep (after_iterations A k b n gs before so_far)
  unfolding after_iterations SoundStep Sound Context Works
  after_iterations_sound k b n gs before so_far l c t = go (ltb n (iterations_of A b)) refl
    where
      go : (o : Bool) → ltb n (iterations_of A b) ≡ o
          → SoundStep (cond o (begin_iteration A k b n gs before so_far)
          (begin_orbit A k b gs so_far))
      go true h = (
        record { branch = c; few = ltb-true n (iterations_of A b) h; before_is = t },
        comes_here (machine_of A (iteration k b n gs before so_far)).next
            (machine_of A (iteration k b n gs before so_far)).start,
      )
      go false h = (
        subst (λ i. InBranch k b i gs so_far) (let f = ltb-false n (iterations_of A b) h in
            let e : n ≡ iterations_of A b = omega (arith, l, f) in e) c,
        comes_here (machine_of A (orbit k b gs so_far)).next
            (machine_of A (orbit k b gs so_far)).start,
      )

  begin_branch_sound : (k b : ℕ) (gs so_far : List (Terms Fraction)) → InBranch k b 0 gs so_far
      → SoundStep (begin_branch A k b gs so_far)
  begin_branch_sound k b gs so_far c = after_iterations_sound k b 0 gs gs so_far (omega arith) c
      (record {
        is = no_iterations program gs (list_arity gs c.iterations.found.reduced) (suc b);
        reduced = c.iterations.found.reduced;
      })

  after_branch_sound : (k b : ℕ) (gs hs : List (Terms Fraction)) → Iterations k gs
      → b < length program.branches → IsSoFar program gs (suc b) hs → IsReducedList m hs
      → SoundStep (after_branch A k b gs hs)
  unfolding after_branch
  after_branch_sound k b gs hs t lb so_far reduced = go (ltb (suc b) (length A.forms)) refl
    where
      found : suc b ≡ length program.branches → Found k hs
      found e = record {
        round = subst (λ j. IsRound program I j hs) (sym t.is)
            (rounds.round t.before gs hs t.found.round t.open_ (subst (λ j. IsSoFar program gs j hs)
            e so_far));
        reduced = reduced;
      }

      go : (o : Bool) → ltb (suc b) (length A.forms) ≡ o
          → SoundStep (cond o (begin_branch A k (suc b) gs hs) (closing_from A k 0 0 hs))
      go true h = begin_branch_sound k (suc b) gs hs (record {
        iterations = t;
        within = let n = ltb-true (suc b) (length A.forms) h in omega (arith, count);
        so_far_is = record { is = to_next_branch program gs b hs so_far; reduced = reduced };
      })
      go false h = closing_sound k 0 0 hs (found (let n = ltb-false (suc b) (length A.forms) h in
          omega (arith, count))) (nothing_before hs) nonempty

  -- the intersection of the list so far with another list
  met : (w : Work) (so_far hs : List (Terms Fraction)) → block A w ≡ 1
      → starting A w ≡ blend rationals (blocks 1 grevlex grevlex) so_far hs
      → IsReducedList m so_far → IsReducedList m hs → (ls : List (Terms Fraction))
      → IsEliminated (block A w) m (starting A w) ls → IsMeet m so_far hs ls
  met w so_far hs one list r s ls e =
      let f : IsEliminated 1 m (blend rationals (blocks 1 grevlex grevlex) so_far hs) ls =
      subst (λ l. IsEliminated 1 m l ls) list
      (subst (λ n. IsEliminated n m (starting A w) ls) one e) in
      record {
        arities = f.arities;
        only = λ p a i. (laws.meets so_far hs r s p a).0 (f.only p a i);
        all = λ p a h. f.all p a ((laws.meets so_far hs r s p a).1 h);
      }

  orbit_met : (k b : ℕ) (gs so_far hs : List (Terms Fraction))
      → InBranch k b (iterations_of A b) gs so_far
      → IsList (LaterIterations (suc b) (form_of A b).since) gs hs
      → SoundStep (begin_meet A k b gs so_far hs)
  unfolding SoundStep Sound Context Works
  orbit_met k b gs so_far hs c o = (
    record { branch = c; orbit_is = o },
    comes_here (machine_of A (meet k b gs so_far hs)).next
        (machine_of A (meet k b gs so_far hs)).start,
  )

  after_orbit_sound : (k b d : ℕ) (gs so_far hs : List (Terms Fraction)) → (form_of A b).since ≡ d
      → InBranch k b (iterations_of A b) gs so_far
      → IsList (LaterIterations (suc b) (form_of A b).since) gs hs
      → SoundStep (after_orbit A d k b gs so_far hs)
  after_orbit_sound k zero zero gs so_far hs e c o = after_branch_sound k 0 gs hs c.iterations
      c.within
      (first_so_far program gs hs (subst (λ d. IsAfter program gs (LaterIterations 1 d) hs) e o.is))
      o.reduced
  after_orbit_sound k (suc b) zero gs so_far hs e c o = orbit_met k (suc b) gs so_far hs c o
  after_orbit_sound k zero (suc d) gs so_far hs e c o = orbit_met k 0 gs so_far hs c o
  after_orbit_sound k (suc b) (suc d) gs so_far hs e c o = orbit_met k (suc b) gs so_far hs c o

  after_sound : (x : Work) → Context x → (e : EndsWork A x)
      → SoundStep (after A x (list_at A x e.last))
  unfolding after Context block starting SoundStep Sound Works
  after_sound starts c made =
      let gs = list_at A starts made.last in
      closing_sound 0 0 0 gs (record {
        round = rounds.start gs (begins.starts_generate c made);
        reduced = laws.reduces starts tt tt made;
      }) (nothing_before gs) nonempty
  after_sound (iteration k b n gs before so_far) c made =
      let w = iteration k b n gs before so_far in
      let ks = list_at A w made.last in
      let r = c.before_is.reduced in (
        record {
          branch = c.branch;
          few = c.few;
          turned_is = record {
            is = one_iteration_more program gs (suc b) n before ks c.before_is.is
                (laws.iterations k b n gs before so_far ks r c.branch.within
                (laws.eliminates w c.branch.within r made));
            reduced = laws.reduces w c.branch.within r made;
          };
        },
        comes_here (machine_of A (iteration_meet k b n gs so_far ks)).next
            (machine_of A (iteration_meet k b n gs so_far ks)).start,
      )
  after_sound (iteration_meet k b n gs so_far ks) c made =
      let w = iteration_meet k b n gs so_far ks in
      let ls = list_at A w made.last in
      let both : IsReducedList m so_far × IsReducedList m ks =
      (c.branch.so_far_is.reduced, c.turned_is.reduced) in
      after_iterations_sound k b (suc n) gs ks ls (let f : n < iterations_of A b = c.few in
      omega (arith, f))
      (record {
        iterations = c.branch.iterations;
        within = c.branch.within;
        so_far_is = record {
          is = met_iteration program gs b n so_far ks ls c.branch.so_far_is.is c.turned_is.is
              (met w so_far ks refl refl both.0 both.1 ls (laws.eliminates w tt both made));
          reduced = laws.reduces w tt both made;
        };
      }) c.turned_is
  after_sound (orbit k b gs so_far) c made =
      let w = orbit k b gs so_far in
      let hs = list_at A w made.last in
      let r = c.iterations.found.reduced in
      after_orbit_sound k b (form_of A b).since gs so_far hs refl c
      (record {
        is = later_iterations program gs (suc b) (form_of A b).since hs
            (laws.orbits k b gs so_far hs r c.within (laws.eliminates w c.within r made));
        reduced = laws.reduces w c.within r made;
      })
  after_sound (meet k b gs so_far hs) c made =
      let w = meet k b gs so_far hs in
      let ls = list_at A w made.last in
      let both : IsReducedList m so_far × IsReducedList m hs =
      (c.branch.so_far_is.reduced, c.orbit_is.reduced) in
      after_branch_sound k b gs ls c.branch.iterations c.branch.within
      (met_orbit program gs b (form_of A b).since so_far hs ls c.branch.so_far_is.is c.orbit_is.is
      (met w so_far hs refl refl both.0 both.1 ls (laws.eliminates w tt both made)))
      (laws.reduces w tt both made)

  -- ---- in a task
  working_sound : (x : Work) (s : elimination.State Fraction) → Context x → Works x s
      → SoundStep (next_work A x s (elimination.next rationals (order A x) grevlex
      (free_part (block A x))
      s))
  unfolding SoundStep Sound Works
  working_sound x s c t = go (elimination.next rationals (order A x) grevlex (free_part (block A x))
      s)
      refl
    where
      go : (o : Option (Event × elimination.State Fraction))
          → elimination.next rationals (order A x) grevlex (free_part (block A x)) s ≡ o
          → SoundStep (next_work A x s o)
      go None h = after_sound x c (record { events = t.events; last = s; run = t.run; ended = h })
      go (Some (e, u)) h = (c, comes_longer (machine_of A x).next (machine_of A x).start s u e t h)

  closed_sound : (k b i : ℕ) (gs : List (Terms Fraction)) (s : division.State Fraction)
      → InClosing k b i gs s
      → SoundStep (closed_by A k b i gs s (division.next rationals grevlex gs s))
  unfolding SoundStep Sound Works
  closed_sound k b i gs s c = go (division.next rationals grevlex gs s) refl
    where
      decided : HasEnded (division.next rationals grevlex gs) s → (o : Option (Terms Fraction))
          → s.current ≡ o → SoundStep (after_test A k b i gs o)
      decided h None e = closing_sound k b (suc i) gs c.found (record {
        passed = λ d j q lj.
            passed d j q lj;
      }) c.branch
        where
          here : IsMember ℚ m gs (after_iteration program (suc b) (get_or gs i []))
          here = (laws.divides gs b i s c.found.reduced c.branch c.element c.divides h).1 e

          cases : (d j : ℕ) → (d < b) ⊎ ((d ≡ b) × (j < suc i)) → ((d < b) ⊎ ((d ≡ b) × (j < i)))
              ⊎ ((d ≡ b) × (j ≡ i))
          cases d j (inl l) = inl (inl l)
          cases d j (inr l) = at (let n : j < suc i = l.1 in less_or_same j i n)
            where
              at : (j < i) ⊎ (j ≡ i) → ((d < b) ⊎ ((d ≡ b) × (j < i))) ⊎ ((d ≡ b) × (j ≡ i))
              at (inl n) = inl (inr (l.0, n))
              at (inr n) = inr (l.0, n)

          passed : (d j : ℕ) → (d < b) ⊎ ((d ≡ b) × (j < suc i)) → j < length gs
              → IsMember ℚ m gs (after_iteration program (suc d) (get_or gs j []))
          passed d j q lj = by (cases d j q)
            where
              by : ((d < b) ⊎ ((d ≡ b) × (j < i))) ⊎ ((d ≡ b) × (j ≡ i))
                  → IsMember ℚ m gs (after_iteration program (suc d) (get_or gs j []))
              by (inl earlier) = c.before.passed d j earlier lj
              by (inr same) =
                  subst (λ x. IsMember ℚ m gs (after_iteration program (suc x) (get_or gs j [])))
                  (sym same.0)
                  (subst (λ x. IsMember ℚ m gs (after_iteration program (suc b) (get_or gs x [])))
                  (sym same.1) here)
      decided h (Some rest) e = record {
        before = k;
        is = refl;
        found = c.found;
        open_ = λ closed.
            not_none ((laws.divides gs b i s c.found.reduced c.branch c.element c.divides h).0
            (closed.turned (suc b) i (record {
              some = omega arith;
              within = let l = c.branch in
                  omega arith;
            }) c.element));
      }
        where
          not_none : s.current ≡ None → ⊥
          not_none n = let f : None ≡ Some rest = sym n ∙ e in absurd (cc)

      go : (o : Option (Event × division.State Fraction)) → division.next rationals grevlex gs s ≡ o
          → SoundStep (closed_by A k b i gs s o)
      go None h = decided h s.current refl
      go (Some (e, t)) h = record {
        found = c.found;
        before = c.before;
        branch = c.branch;
        element = c.element;
        divides = comes_longer (division.next rationals grevlex gs)
            (division.initial_state gs (pullback A b (get_or gs i []))) s t e c.divides h;
      }

  asked_sound : (k : ℕ) (gs : List (Terms Fraction)) (s : division.State Fraction) → InAsking k gs s
      → SoundStep (asked_by A k gs s (division.next rationals grevlex gs s))
  unfolding SoundStep Sound Works
  asked_sound k gs s c = go (division.next rationals grevlex gs s) refl
    where
      go : (o : Option (Event × division.State Fraction)) → division.next rationals grevlex gs s ≡ o
          → SoundStep (asked_by A k gs s o)
      go None h = (c, h)
      go (Some (e, t)) h = record {
        found = c.found;
        closed = c.closed;
        polynomial = c.polynomial;
        is_asked = c.is_asked;
        divides = comes_longer (division.next rationals grevlex gs)
            (division.initial_state gs c.polynomial) s t e c.divides h;
      }

  first_sound : (o : Option (List (Terms Fraction))) → A.given ≡ o → SoundStep (first_step A o)
  unfolding after Sound SoundStep Works Context
  first_sound None h = (h, comes_here (machine_of A starts).next (machine_of A starts).start)
  first_sound (Some gs) h =
      closing_sound 0 0 0 gs (record {
        round = rounds.start gs (begins.given_generates gs h);
        reduced = begins.given_reduced gs h;
      }) (nothing_before gs) nonempty

  step_sound : (s : State) → Sound s → SoundStep (next A s)
  unfolding next Sound SoundStep Works Context
  step_sound fresh h = first_sound A.given refl
  step_sound (working x s) h = working_sound x s h.0 h.1
  step_sound (closing k b i gs s) h = closed_sound k b i gs s h
  step_sound (turning k gs) h = begin_branch_sound k 0 gs gs (record {
    iterations = h;
    within = nonempty;
    so_far_is = record {
      is = own_list program gs (list_arity gs h.found.reduced);
      reduced = h.found.reduced;
    };
  })
  step_sound (asking k gs s) h = asked_sound k gs s h

  state_of : Option (Entry × State) → State
  state_of None = fresh
  state_of (Some x) = x.1

  moved_sound : (x : Step) → SoundStep x → (e : Entry) (u : State) → move_of A x ≡ Some (e, u)
      → Sound u
  unfolding SoundStep state_of
  moved_sound (goes f t) h e u is = subst Sound (ap state_of is) h
  moved_sound (finished k gs) h e u is = absurd (cc)
  moved_sound (answered k gs s) h e u is = absurd (cc)

  pub run_sound : (es : List Entry) (s t : State) → Sound s → IsRun (moves A) s es t → Sound t
  unfolding IsRun
  run_sound [] s t h r = subst Sound r h
  run_sound (e ∷ es) s t h r = run_sound es r.0 t (moved_sound (next A s) (step_sound s h) e r.0
      r.1) r.2

  ended_sound : (es : List Entry) (t : State) → IsRun (moves A) fresh es t → SoundStep (next A t)
  unfolding Sound
  ended_sound es t r = step_sound t (run_sound es fresh t tt r)

  pub finished_round : (es : List Entry) (t : State) (k : ℕ) (gs : List (Terms Fraction))
      → IsRun (moves A) fresh es t → next A t ≡ finished k gs → Found k gs × IsClosed program gs
  unfolding SoundStep
  finished_round es t k gs r h = let s : SoundStep (finished k gs) =
      subst SoundStep h (ended_sound es t r) in (s.0, s.1)

  pub answered_round : (es : List Entry) (t : State) (k : ℕ) (gs : List (Terms Fraction))
      (d : division.State Fraction) → IsRun (moves A) fresh es t → next A t ≡ answered k gs d
      → InAsking k gs d × HasEnded (division.next rationals grevlex gs) d
  unfolding SoundStep
  answered_round es t k gs d r h = let s : SoundStep (answered k gs d) =
      subst SoundStep h (ended_sound es t r) in s

  -- so it is the reduced basis of what stays in I
  pub closed_basis : (k : ℕ) (gs : List (Terms Fraction)) → Found k gs → IsClosed program gs
      → IsReducedFor rationals grevlex (length program.names) gs (Stays program I Every)
  closed_basis k gs f c =
      let g = closed_generates program I nonempty k gs f.round c in
      reduced_for (length program.names) (IsMember ℚ (length program.names) gs)
      (Stays program I Every) gs (λ p a. (g.only p a, g.all p a)) f.reduced

  pub finished_basis : (es : List Entry) (t : State) (k : ℕ) (gs : List (Terms Fraction))
      → IsRun (moves A) fresh es t → next A t ≡ finished k gs
      → IsRound program I k gs × IsClosed program gs
      × IsReducedFor rationals grevlex (length program.names) gs (Stays program I Every)
  finished_basis es t k gs r h = let f = finished_round es t k gs r h in
      (f.0.round, f.1, closed_basis k gs f.0 f.1)

  pub answered_basis : (es : List Entry) (t : State) (k : ℕ) (gs : List (Terms Fraction))
      (d : division.State Fraction) → IsRun (moves A) fresh es t → next A t ≡ answered k gs d
      → IsRound program I k gs × IsClosed program gs
      × IsReducedFor rationals grevlex (length program.names) gs (Stays program I Every)
  answered_basis es t k gs d r h = let a = answered_round es t k gs d r h in
      (a.0.found.round, a.0.closed, closed_basis k gs a.0.found a.0.closed)

  -- and the division of what is asked ends with nothing exactly where that stays in I
  pub answered_decides : (p : Terms Fraction) → A.asked ≡ Some p
      → IsPolynomial ℚ grevlex (length program.names) p
      → (es : List Entry) (t : State) (k : ℕ) (gs : List (Terms Fraction))
      (d : division.State Fraction) → IsRun (moves A) fresh es t → next A t ≡ answered k gs d
      → (d.current ≡ None) ↔ Stays program I Every p
  answered_decides p is h es t k gs d r e =
      let a = answered_round es t k gs d r e in
      let q : Terms Fraction = a.0.polynomial in
      let same : q ≡ p = polynomial_of (A.asked) q p a.0.is_asked is in
      let run =
      subst (λ x. LeadsTo (division.next rationals grevlex gs) (division.initial_state gs x) d)
      same a.0.divides in
      let member = laws.answers gs p d a.0.found.reduced h run a.1 in
      let g = closed_generates program I nonempty k gs a.0.found.round a.0.closed in
      ((λ n. g.only p h.arity (member.1 n)), (λ i. member.0 (g.all p h.arity i)))
