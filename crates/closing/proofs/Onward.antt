-- The levels of a closing, as the code goes through them.
--   begins                       what waits comes next
--   level_begins                 where nothing waits of a level, the next one does
--   ends                         where nothing was kept either, the closing ends with its list
--   iteration_seen, iteration_stopped      a candidate after an iteration, or a composition that stops
--   iteration_joined, iterations_next, iteration_begins, iterations_over     the iterations of one branch, one after another
--   branches_all, branch_next, branches_over   those of all branches
--   given_begins, given_over     the polynomials that are closed
--   fresh_awaits                 how a closing begins
use Rattle.std.proofs.Common.{◌≡◌, inl, ℕ, zero, suc, ◌+◌, ◌-◌, ◌<◌, ◌≤◌, List, [], ◌∷◌, ◌++◌, map, drop, length, get_or, refl, sym, ap, subst, ◌∙◌, add-one, arith}
use Rattle.std.proofs.lemmas.List.{drop_all, length-map, get_or-map}
use Rattle.algebra.specs.Each.{Each}
use Rattle.algebra.specs.In.{In}
use Rattle.algebra.proofs.In.{each_in, in_get, map-in}
use Rattle.loop_runs.proofs.Iterations.{drop_read}
use Rattle.algebra.specs.Fraction.{Fraction}
use Rattle.polynomials.specs.Terms.{Terms}
use Rattle.machines.specs.Journal.{Entry}
use Rattle.machines.specs.Run.{IsRun}
use Rattle.loops.specs.Program.{Expr, Program}
use Rattle.poly.specs.Seen.{terms_in, terms_each}
use Rattle.std.specs.Global.{Vec}
use Rattle.loop_model.specs.FracPoly.{FracPoly}
use Rattle.closures.specs.Closing as seen
use Rattle.closures.specs.Closing.{fresh, closed, begin_image, from_level, from_waiting, level_from, level_of, turned, first_candidate, next, moves}
use Rattle.closures.specs.Ends.{ComesNext}
use Rattle.closing.specs.Causes.{IsJoined, AreJoined}
use Rattle.closing.specs.Compositions.{IsTurned, IfIterationStops, iteration_operations}
use Rattle.closing.specs.Progress.{candidate_of, candidates_of, Awaits, IsGoing, IfStops, Reaches}
use Rattle.closing.specs.declared.candidates.Candidate.{Candidate}
use Rattle.closing.specs.declared.error.ClosingError.{ClosingError}
use Rattle.closing.specs.declared.error.ClosingError.TheVariants as error
use Rattle.closing.specs.declared.joining.Progress.{Progress}

module _ (program : Program (Expr ℕ)) where
  -- ---- lists of candidates
  level_none : (b n : ℕ) → level_from program b n [] ≡ []
  unfolding level_from
  level_none b zero = refl
  level_none b (suc n) = level_none (suc b) n

  pub level_more : (b n : ℕ) (xs : List seen.Candidate)
      → level_from program b (suc n) xs
      ≡ map (turned program b) xs ++ level_from program (suc b) n xs
  unfolding level_from
  level_more b n xs = refl

  pub level_over : (b : ℕ) (xs : List seen.Candidate) → level_from program b 0 xs ≡ []
  unfolding level_from
  level_over b xs = refl

  module _ (n : ℕ) (gs : List (Terms Fraction)) where
    from_level_is : (xs : List seen.Candidate)
        → from_level program n gs xs ≡ from_waiting program n gs [] xs
    unfolding from_level from_waiting
    from_level_is [] = ap (from_level program n gs) (sym (level_none 1 (length program.branches)))
    from_level_is (x ∷ xs) = refl

    pub level_is : (kept : List seen.Candidate)
        → from_waiting program n gs kept [] ≡ from_waiting program n gs [] (level_of program kept)
    unfolding from_waiting
    level_is kept = from_level_is (level_of program kept)

    pub none_is : from_waiting program n gs [] [] ≡ closed gs
    unfolding from_level from_waiting
    none_is = ap (from_level program n gs) (level_none 1 (length program.branches))

    pub first_is : (kept : List seen.Candidate) (x : seen.Candidate) (xs : List seen.Candidate)
        → from_waiting program n gs kept (x ∷ xs) ≡ begin_image program n gs kept x xs
    unfolding from_waiting
    first_is kept x xs = refl

  module _ (P : List (Terms Fraction)) where
    pub iteration_seen : (b : ℕ) (x y : Candidate) → IsTurned program b x y
        → candidate_of P y ≡ turned program b (candidate_of P x)
    iteration_seen b x y h = λ i. record {
      of = get_or P (h.of i) [];
      word = h.word i;
      polynomial = h.terms i;
    }

    module _ (es : List Entry) where
      pub going : (step : seen.Step) → ComesNext program P es step → IsGoing program P es
      going step h = record { state = h.state; follows = record { run = h.run } }

      along : (a b : seen.Step) → a ≡ b → ComesNext program P es a → ComesNext program P es b
      along a b e h = record { state = h.state; run = h.run; is = h.is ∙ e }

      pub begins : (p : Progress) (x : seen.Candidate) {waiting : List seen.Candidate}
          → Awaits program P es p (x ∷ waiting) → Reaches program P es p x waiting
      begins p x {waiting = waiting} h = record {
        comes =
            along _ _
            (first_is p.number (terms_each p.list.items) (candidates_of P p.kept.items) x waiting)
            h.comes;
        joined = h.joined;
      }

      none_joined : {xs : List seen.Candidate} → xs ≡ [] → AreJoined program P es xs
      unfolding Each
      none_joined e = subst (AreJoined program P es) (sym e) tt

      pub level_begins : (p q : Progress) → q.number ≡ p.number → q.list ≡ p.list
          → q.kept.items ≡ [] → Awaits program P es p []
          → Awaits program P es q (level_of program (candidates_of P p.kept.items))
      level_begins p q n l k h =
          let waits = level_of program (candidates_of P p.kept.items) in
          record {
            comes =
                along _ _
                (level_is p.number (terms_each p.list.items) (candidates_of P p.kept.items)
                ∙ ap (λ j. from_waiting program j (terms_each p.list.items) [] waits) (sym n)
                ∙ ap (λ (ps : Vec FracPoly). from_waiting program q.number (terms_each ps.items)
                [] waits) (sym l)
                ∙ ap (λ xs. from_waiting program q.number (terms_each q.list.items)
                (candidates_of P xs) waits) (sym k)) h.comes;
            joined = none_joined (ap (candidates_of P) k);
          }

      pub ends : (p : Progress) → p.kept.items ≡ [] → Awaits program P es p []
          → ComesNext program P es (closed (terms_each p.list.items))
      ends p k h =
          along _ _
          (ap (λ xs. from_waiting program p.number (terms_each p.list.items)
          (candidates_of P xs) []) k
          ∙ none_is p.number (terms_each p.list.items)) h.comes

      pub waits : (p : Progress) (xs ys : List seen.Candidate) → xs ≡ ys
          → Awaits program P es p xs → Awaits program P es p ys
      waits p xs ys e h = subst (Awaits program P es p) e h

      pub iteration_stopped : (limit b : ℕ) (p : Progress) (x : Candidate)
          (waiting : List seen.Candidate) (e : ClosingError)
          → IsJoined program P es (candidate_of P x)
          → Awaits program P es p (turned program b (candidate_of P x) ∷ waiting)
          → IfIterationStops program b x e → IfStops program P limit es e
      iteration_stopped limit b p x waiting (error.Limit w) j h s = record {
        candidate = turned program b (candidate_of P x);
        is_word = sym s.0;
        cause =
            record {
              operations = iteration_operations program b (terms_in x.polynomial);
              composing =
                  inl (record {
                    number = p.number;
                    list = terms_each p.list.items;
                    kept = candidates_of P p.kept.items;
                    waiting = waiting;
                    comes = (begins p (turned program b (candidate_of P x)) h).comes;
                    letter = b;
                    from = candidate_of P x;
                    joined = j;
                    is = refl;
                    operations = refl;
                  });
              limit = s.1;
            };
      }
      iteration_stopped limit b p x waiting (error.Wide w) j h s = record {
        candidate = turned program b (candidate_of P x);
        is_word = sym s.0;
        cause =
            inl (record {
              operations = iteration_operations program b (terms_in x.polynomial);
              composing =
                  inl (record {
                    number = p.number;
                    list = terms_each p.list.items;
                    kept = candidates_of P p.kept.items;
                    waiting = waiting;
                    comes = (begins p (turned program b (candidate_of P x)) h).comes;
                    letter = b;
                    from = candidate_of P x;
                    joined = j;
                    is = refl;
                    operations = refl;
                  });
              wide = s.1;
            });
      }
      iteration_stopped limit b p x waiting error.Budget j h s = absurd s
      iteration_stopped limit b p x waiting error.Memory j h s = going _ h.comes

-- ---- one item of a list that is walked through
rest_read : {A B : Type 0} (f : A → B) (xs : List A) (i : ℕ) (x : A) → i < length xs
    → x ≡ get_or xs i x → map f (drop i xs) ≡ f x ∷ map f (drop (i + 1) xs)
rest_read f xs i x l e = ap (map f) (drop_read xs i x l e)

rest_over : {A B : Type 0} (f : A → B) (xs : List A) (i : ℕ) → length xs ≤ i
    → map f (drop i xs) ≡ []
rest_over f xs i l = ap (map f) (drop_all i xs l)

module _ (program : Program (Expr ℕ)) (P : List (Terms Fraction)) (es : List Entry)
    (p : Progress) where
  -- ---- the iterations of a branch
  module _ (b : ℕ) (level : List Candidate) (waiting : List seen.Candidate) (i : ℕ) where
    abbrev iterations_from : ℕ → List seen.Candidate
    iterations_from j = map (turned program b) (candidates_of P (drop j level)) ++ waiting

    module _ (x : Candidate) (l : i < length level) (e : x ≡ get_or level i x) where
      pub iteration_joined : AreJoined program P es (candidates_of P level)
          → IsJoined program P es (candidate_of P x)
      iteration_joined j =
          each_in (IsJoined program P es) (candidates_of P level) (candidate_of P x) j
          (map-in (candidate_of P) level x (subst (λ y. In y level) (sym e) (in_get level i x l)))

      pub iterations_next : Awaits program P es p (iterations_from i)
          → Awaits program P es p
          (turned program b (candidate_of P x) ∷ iterations_from (i + 1))
      iterations_next h =
          waits program P es p (iterations_from i) _ (ap (λ xs. map (turned program b) xs
          ++ waiting) (rest_read (candidate_of P) level i x l e)) h

      pub iteration_begins : {y : Candidate} → IsTurned program b x y
          → Awaits program P es p (iterations_from i)
          → Reaches program P es p (candidate_of P y) (iterations_from (i + 1))
      iteration_begins {y = y} h a =
          subst (λ z. Reaches program P es p z (iterations_from (i + 1)))
          (sym (iteration_seen program P b x y h)) (begins program P es p
          (turned program b (candidate_of P x)) (iterations_next a))

    pub iterations_over : length level ≤ i → Awaits program P es p (iterations_from i)
        → Awaits program P es p waiting
    iterations_over l h =
        waits program P es p (iterations_from i) waiting
        (ap (λ xs. map (turned program b) xs ++ waiting)
        (rest_over (candidate_of P) level i l)) h

  -- ---- the branches
  pub branches_all : (xs : List seen.Candidate) → Awaits program P es p (level_of program xs)
      → Awaits program P es p (level_from program 1 (length program.branches - 0) xs)
  branches_all xs h =
      let a : length program.branches ≡ length program.branches - 0 = omega arith in
      waits program P es p _ _ (ap (λ k. level_from program 1 k xs) a) h

  module _ (xs : List seen.Candidate) (n i : ℕ) where
    branch_more : i < n → level_from program (suc i) (n - i) xs
        ≡ map (turned program (i + 1)) xs ++ level_from program (suc (i + 1)) (n - (i + 1)) xs
    branch_more l =
        let a : n - i ≡ suc (n - (i + 1)) = omega (arith, l) in
        ap (λ k. level_from program (suc i) k xs) a
        ∙ level_more program (suc i) (n - (i + 1)) xs
        ∙ ap (λ b. map (turned program b) xs ++ level_from program (suc b) (n - (i + 1)) xs)
        (sym (add-one i))

    pub branch_next : i < n → Awaits program P es p (level_from program (suc i) (n - i) xs)
        → Awaits program P es p
        (map (turned program (i + 1)) xs ++ level_from program (suc (i + 1)) (n - (i + 1)) xs)
    branch_next l h = waits program P es p _ _ (branch_more l) h

    pub branches_over : n ≤ i → Awaits program P es p (level_from program (suc i) (n - i) xs)
        → Awaits program P es p []
    branches_over l h =
        let a : n - i ≡ 0 = omega (arith, l) in
        waits program P es p _ _
        (ap (λ k. level_from program (suc i) k xs) a ∙ level_over program (suc i) xs) h

  -- ---- the polynomials that are closed
  module _ (ps : List FracPoly) (same : P ≡ terms_each ps) (i : ℕ) where
    abbrev given_from : ℕ → List seen.Candidate
    given_from j = map first_candidate (drop j (terms_each ps))

    module _ (x : FracPoly) (l : i < length ps) (e : x ≡ get_or ps i x) (y : Candidate)
        (of : y.of ≡ i) (word : y.word.items ≡ []) (terms : terms_in y.polynomial ≡ terms_in x)
      where
        long : i < length (terms_each ps)
        long = let a = length-map ps terms_in in omega (arith, a, l)

        at : (d : Terms Fraction) → get_or (terms_each ps) i d ≡ terms_in x
        at d = get_or-map terms_in ps i x d l ∙ ap terms_in (sym e)

        first : first_candidate (terms_in x) ≡ candidate_of P y
        first = λ k. record {
          of = (sym (at []) ∙ ap (λ qs. get_or qs i []) (sym same)
              ∙ ap (λ j. get_or P j []) (sym of)) k;
          word = sym word k;
          polynomial = sym terms k;
        }

        pub given_begins : Awaits program P es p (given_from i)
            → Reaches program P es p (candidate_of P y) (given_from (i + 1))
        given_begins h =
            begins program P es p (candidate_of P y) (waits program P es p (given_from i) _
            (rest_read first_candidate (terms_each ps) i (terms_in x) long (sym (at (terms_in x)))
            ∙ ap (λ z. z ∷ given_from (i + 1)) first) h)

    pub given_over : length ps ≤ i → Awaits program P es p (given_from i)
        → Awaits program P es p []
    given_over l h =
        waits program P es p _ _
        (rest_over first_candidate (terms_each ps) i
        (let a = length-map ps terms_in in omega (arith, a, l))) h

pub fresh_awaits : (program : Program (Expr ℕ)) (P : List (Terms Fraction)) {es : List Entry}
    (p : Progress)
    → es ≡ [] → p.number ≡ 0 → p.list.items ≡ [] → p.kept.items ≡ []
    → Awaits program P es p (map first_candidate P)
unfolding Each IsRun next
fresh_awaits program P {es = es} p none n l k = record {
  comes =
      record {
        state = fresh;
        run = subst (λ fs. IsRun (moves program P) fresh fs fresh) (sym none) refl;
        is =
            ap (λ j. from_waiting program j [] [] (map first_candidate P)) (sym n)
            ∙ ap (λ gs. from_waiting program p.number (terms_each gs) []
            (map first_candidate P)) (sym l)
            ∙ ap (λ xs. from_waiting program p.number (terms_each p.list.items)
            (candidates_of P xs) (map first_candidate P)) (sym k);
      };
  joined = subst (λ xs. AreJoined program P es (candidates_of P xs)) (sym k) tt;
}
