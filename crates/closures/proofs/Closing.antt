-- What holds at each state of a closing, and at its end.
--   item program x       the candidate in the ring
--   IsCandidate          a polynomial of the closure, with a polynomial of the list and a word
--   IsSound              of the list, what was kept and what waits: a level on its way
--   Sound, SoundStep     of states, and of what comes next
--   run_sound            so along each run
--   closed_is, countered_is     what a closing ends with
use Rattle.std.proofs.Common.{◌≡◌, ◌⊎◌, inl, inr, ℕ, zero, suc, ◌<◌, ◌≤◌, List, [], ◌∷◌, ◌++◌, map, length, get_or, refl, sym, ap, ap₂, subst, ◌∙◌, arith, All, Option, Some, None, ◌+◌}
use Rattle.std.proofs.lemmas.List.{map-append}
use Rattle.std.proofs.lemmas.List.Elements.{All-cons}
use Rattle.algebra.specs.Each.{Each}
use Rattle.algebra.specs.In.{In}
use Rattle.algebra.specs.Ring.{CommRing}
use Rattle.algebra.proofs.Each.{each_weaker, each-map, each-append}
use Rattle.algebra.proofs.In.{each_in, each_from, map-in, in_place, in_left, in_right, in_push}
use Rattle.algebra.proofs.RingSolver.{ring, ring_rules}
use Rattle.algebra.specs.Fraction.{Fraction, ℚ, rationals}
use Rattle.algebra.proofs.Fractions.{ℚ_ring, ℚ_zero_test, ℚ_field}
use Rattle.polynomials.specs.Terms.{Terms, Same, negate}
use Rattle.polynomials.specs.Order.{grevlex}
use Rattle.polynomials.specs.Polynomial.{Arity, AllArity, IsPolynomial}
use Rattle.polynomials.proofs.Arity.{arity-append, arity-negate, arity-compose, arity_at}
use Rattle.polynomials.proofs.Orders.{grevlex_order}
use Rattle.polynomials.proofs.Poly.{Poly, poly_ring, poly_same, poly-append, poly-negate, poly-nil}
use Rattle.polynomials.proofs.Same.{Same-sym, Same-trans}
use Rattle.ideals.specs.Ideal.{InIdeal, AllInIdeal}
use Rattle.ideals.specs.Members.{IsMember}
use Rattle.ideals.proofs.Ideal.{in_ideal_same, in_ideal_add, in_ideal_neg, in_ideal_head, in_ideal_tail, in_ideal_trans, all_in_itself}
use Rattle.ideals.proofs.Members.{member_in, member_out}
use Rattle.ideals.proofs.FractionMembers.{member_at}
use Rattle.machines.specs.Event.{Event}
use Rattle.machines.specs.Collect.{collect}
use Rattle.machines.specs.Division as division
use Rattle.machines.specs.Elimination as elimination
use Rattle.machines.specs.Reduced.{IsReducedFor}
use Rattle.machines.specs.Run.{HasEnded}
use Rattle.machines.proofs.Collecting.{collect-polynomial, collect-same}
use Rattle.machines.proofs.Places.{each_at}
use Rattle.machines.proofs.ReducedLists.{reduced_arity, reduced_generates, reduced_for_itself}
use Rattle.loops.specs.Program.{Expr, Program}
use Rattle.loops.specs.Map.{start_map, composition}
use Rattle.loops.proofs.Maps.{arity-branch_map, arity-start_map}
use Rattle.rounds.specs.Results.{LeadsTo}
use Rattle.rounds.specs.Round.{IsClosed}
use Rattle.rounds.specs.Word.{IsLetter, after_iteration, after_word}
use Rattle.rounds.proofs.Beginnings.{comes_here, comes_longer}
use Rattle.rounds.proofs.Word.{arity-after_word}
use Rattle.corollaries.specs.Word.{IsEarlier}
use Rattle.corollaries.specs.Image.{image}
use Rattle.corollaries.proofs.Images.{letters_of_counter, image_of_counter}
use Rattle.closures.specs.Closure.{InClosure, IsZeroFromStart, IsIdeal}
use Rattle.closures.specs.Closing.{Candidate, with_polynomial, State, fresh, dividing, extending, Step, goes, closed, countered, next_extended, begin_extended, extended_list, turned, level_from, level_of, from_start, from_level, from_waiting, by_start, by_rest, divided, extended}
use Rattle.closures.specs.Ends.{IsClosure, IsFirstCounter}
use Rattle.closures.proofs.Ideals.{members_in, IsNothing, from_start_ideal, same_put}
use Rattle.closures.proofs.Closures.{closure_ideal, closure_kept, closure_closed}
use Rattle.closures.proofs.Series as series
use Rattle.closures.proofs.Series.{Item, word_at, level, image_in}
use Rattle.closures.proofs.Levels.{InLevel, level_next, level_passed, level_kept, level_over, level_closed, level_has}
use Rattle.closures.proofs.Parts.{of, extended_reduced, rest_polynomial, rest_differs, letter_map, of_iteration, of_word}

module _ {At : Type 0} (program : Program (Expr At)) (Ps : List (Terms Fraction))
    (ps : Each (IsPolynomial ℚ grevlex (length program.names)) Ps) where
  abbrev m : ℕ
  m = length program.names

  abbrev R : CommRing (Poly m ℚ_ring)
  R = poly_ring m ℚ_ring

  abbrev pub item : Candidate → Item (Poly (length program.names) ℚ_ring)
  item x = record { value = of m x.polynomial; from = of m x.of; word = x.word }

  abbrev pub list : List (Terms Fraction) → List (Poly m ℚ_ring)
  list gs = map (of m) gs

  pub arities : AllArity m Ps
  arities = each_weaker (IsPolynomial ℚ grevlex m) (Arity m) (λ p h. h.arity) Ps ps

  pub record IsCandidate (x : Candidate) : Type 0 where
    pub given : In x.of Ps
    pub letters : All (IsLetter program) x.word
    pub polynomial : IsPolynomial ℚ grevlex m x.polynomial
    pub in_closure : InClosure program Ps x.polynomial

  pub record IsSound (gs : List (Terms Fraction)) (kept waiting : List Candidate) : Type 0 where
    pub number : ℕ
    pub before : List (Poly m ℚ_ring)
    pub level : InLevel R (letter_map program) (IsLetter program) (list Ps) number before
        (map item kept) (map item waiting) (list gs)
    pub reduced : IsReducedFor rationals grevlex m gs (IsMember ℚ m gs)
    pub in_closure : Each (InClosure program Ps) gs
    pub from_start : Each (IsZeroFromStart program) gs
    pub kept_are : Each IsCandidate kept
    pub waiting_are : Each IsCandidate waiting

  -- the candidate x is one that waited, less a member, and is 0 at the starts
  pub record IsExtending (gs : List (Terms Fraction)) (kept : List Candidate) (x : Candidate)
      (waiting : List Candidate) : Type 0 where
    pub from : Terms Fraction
    pub sound : IsSound gs kept (with_polynomial from x ∷ waiting)
    pub differs : InIdeal R (list gs) (R.add (of m from) (R.neg (of m x.polynomial)))
    pub candidate : IsCandidate x
    pub zero : IsZeroFromStart program x.polynomial

  unfoldable pub Sound : State → Type 0
  Sound fresh = Unit {0}
  Sound (dividing n gs kept x waiting s) =
      IsSound gs kept (x ∷ waiting)
      × LeadsTo (division.next rationals grevlex gs) (division.initial_state gs x.polynomial) s
  Sound (extending n gs kept x waiting s) =
      IsExtending gs kept x waiting
      × LeadsTo next_extended (begin_extended gs x.polynomial) s

  unfoldable pub SoundStep : Step → Type 0
  SoundStep (goes e s) = Sound s
  SoundStep (closed gs) = IsClosure program Ps gs
  SoundStep (countered x q) = IsFirstCounter program Ps x q

  -- ---- lists and the ring
  pub list_arity : (gs : List (Terms Fraction))
      → IsReducedFor rationals grevlex m gs (IsMember ℚ m gs) → AllArity m gs
  list_arity gs r = reduced_arity grevlex grevlex_order m gs (IsMember ℚ m gs) r

  pub differs_member : (gs : List (Terms Fraction)) → AllArity m gs → (p q : Terms Fraction)
      → Arity m p → Arity m q → InIdeal R (list gs) (R.add (of m p) (R.neg (of m q)))
      → IsMember ℚ m gs (p ++ negate ℚ q)
  differs_member gs ga p q a b i =
      member_out m ℚ_ring ℚ_zero_test gs (p ++ negate ℚ q) ga
      (arity-append m p (negate ℚ q) a (arity-negate m ℚ q b))
      (in_ideal_same R (poly-append m ℚ_ring p (negate ℚ q)
      ∙ ap (R.add (of m p)) (poly-negate m ℚ_ring q)) i)

  zero_of_member : (gs : List (Terms Fraction)) → AllArity m gs
      → Each (IsZeroFromStart program) gs → (q : Terms Fraction) → Arity m q → IsMember ℚ m gs q
      → IsZeroFromStart program q
  zero_of_member gs ga z q a i =
      (members_in m (IsNothing program) (from_start_ideal program) gs q
      (each_from gs (λ g k. record {
        arity = each_in (Arity m) gs g ga k;
        zero = each_in (IsZeroFromStart program) gs g z k;
      })) a i).zero

  -- what differs by a member has the same value at the starts
  same_from_start : (gs : List (Terms Fraction)) → AllArity m gs
      → Each (IsZeroFromStart program) gs → (p q : Terms Fraction) → Arity m p → Arity m q
      → InIdeal R (list gs) (R.add (of m p) (R.neg (of m q)))
      → Same ℚ (composition program p (start_map program))
      (composition program q (start_map program))
  same_from_start gs ga z p q a b i =
      let zero : IsZeroFromStart program (p ++ negate ℚ q) =
      zero_of_member gs ga z (p ++ negate ℚ q)
      (arity-append m p (negate ℚ q) a (arity-negate m ℚ q b))
      (differs_member gs ga p q a b i) in
      same_put program p q a b zero

  closure : IsIdeal m (InClosure program Ps)
  closure = closure_ideal program Ps arities

  pub in_list : (gs : List (Terms Fraction)) → AllArity m gs → (p : Terms Fraction) → Arity m p
      → InIdeal R (list gs) (of m p) → IsMember ℚ m gs p
  in_list gs ga p a i = member_out m ℚ_ring ℚ_zero_test gs p ga a i

  in_itself : (gs : List (Terms Fraction)) → AllArity m gs → (p : Terms Fraction) → In p gs
      → IsMember ℚ m gs p
  in_itself gs ga p i =
      let (j, l, e) = in_place gs [] p i in subst (IsMember ℚ m gs) e (member_at m gs ga j l)

  -- ---- iterations of candidates
  pub of_arity : (x : Candidate) → IsCandidate x → Arity m x.of
  of_arity x h = each_in (Arity m) Ps x.of arities h.given

  turned_item : (b : ℕ) (x : Candidate) → IsCandidate x
      → item (turned program b x) ≡ series.turned R (letter_map program) b (item x)
  turned_item b x h =
      ap (λ v. the_item v (of m x.of) (b ∷ x.word))
      (poly_same m ℚ_ring (collect-same ℚ_field grevlex grevlex_order
      (after_iteration program b x.polynomial))
      ∙ of_iteration program b x.polynomial h.polynomial.arity)
    where
      the_item : Poly m ℚ_ring → Poly m ℚ_ring → List ℕ → Item (Poly m ℚ_ring)
      the_item v f w = record { value = v; from = f; word = w }

  turned_is : (b : ℕ) (x : Candidate) → IsLetter program b → IsCandidate x
      → IsCandidate (turned program b x)
  turned_is b x letter h =
      let iteration = after_iteration program b x.polynomial in
      let is = collect-polynomial ℚ_field grevlex grevlex_order m iteration
      (arity-compose m ℚ x.polynomial _ (arity-branch_map program _)) in
      record {
        given = h.given;
        letters = All-cons (IsLetter program) b x.word letter h.letters;
        polynomial = is;
        in_closure =
            closure.same iteration (collect rationals grevlex iteration) is.arity
            (Same-sym ℚ (collect-same ℚ_field grevlex grevlex_order iteration))
            ((closure_kept program Ps arities).turned b x.polynomial letter h.in_closure);
      }

  turned_items : (b : ℕ) (xs : List Candidate) → Each IsCandidate xs
      → map item (map (turned program b) xs)
      ≡ map (series.turned R (letter_map program) b) (map item xs)
  unfolding Each
  turned_items b [] h = refl
  turned_items b (x ∷ xs) h = ap₂ ◌∷◌ (turned_item b x h.0) (turned_items b xs h.1)

  level_items : (n b : ℕ) (xs : List Candidate) → Each IsCandidate xs
      → map item (level_from program b n xs) ≡ level R (letter_map program) b n (map item xs)
  unfolding level_from level
  level_items zero b xs h = refl
  level_items (suc n) b xs h =
      map-append item (map (turned program b) xs) (level_from program (suc b) n xs)
      ∙ ap₂ ◌++◌ (turned_items b xs h) (level_items n (suc b) xs h)

  level_are : (n b : ℕ) (xs : List Candidate)
      → ((c : ℕ) → b ≤ c → c < b + n → IsLetter program c) → Each IsCandidate xs
      → Each IsCandidate (level_from program b n xs)
  unfolding level_from Each
  level_are zero b xs l h = tt
  level_are (suc n) b xs l h =
      each-append IsCandidate (map (turned program b) xs) (level_from program (suc b) n xs)
      (each-map IsCandidate (turned program b) xs
      (each_weaker IsCandidate (λ x. IsCandidate (turned program b x))
      (λ x i. turned_is b x (l b (omega arith) (omega arith)) i) xs h))
      (level_are n (suc b) xs (λ c m k. l c (omega arith) (omega arith)) h)

  letter_range : (b : ℕ) → IsLetter program b → (0 < b) × (b ≤ length program.branches)
  letter_range b l = (l.some, l.within)

  letter_in : (b : ℕ) → 0 < b → b ≤ length program.branches → IsLetter program b
  letter_in b s w = record { some = s; within = w }

  -- ---- the end of a level
  module _ (gs : List (Terms Fraction)) (kept : List Candidate) (s : IsSound gs kept []) where
    abbrev ga : AllArity m gs
    ga = list_arity gs s.reduced

    abbrev B : List (Poly m ℚ_ring)
    B = list gs

    level_is : map item (level_of program kept)
        ≡ level R (letter_map program) 1 (length program.branches) (map item kept)
    level_is = level_items (length program.branches) 1 kept s.kept_are

    next_sound : IsSound gs [] (level_of program kept)
    unfolding Each
    next_sound = record {
      number = suc s.number;
      before = B;
      level =
          subst (λ ys. InLevel R (letter_map program) (IsLetter program) (list Ps) (suc s.number)
          B [] ys B) (sym level_is)
          (level_over R (letter_map program) (IsLetter program) (list Ps)
          (length program.branches) letter_range letter_in s.number s.before (map item kept) B
          s.level);
      reduced = s.reduced;
      in_closure = s.in_closure;
      from_start = s.from_start;
      kept_are = tt;
      waiting_are =
          level_are (length program.branches) 1 kept
          (λ c l k. letter_in c (omega arith) (omega arith)) s.kept_are;
    }

    module _ (none : level_of program kept ≡ []) where
      iterations_in : (b : ℕ) → IsLetter program b
          → AllInIdeal R B (map (letter_map program b).to B)
      iterations_in b l =
          level_closed R (letter_map program) (IsLetter program) (list Ps)
          (length program.branches) letter_range letter_in s.number s.before (map item kept) B
          s.level (sym level_is ∙ ap (map item) none) b l

      is_closed : IsClosed program gs
      is_closed = record {
        turned = λ b i l il.
            let g = get_or gs i [] in
            let a = arity_at m gs ga i in
            in_list gs ga (after_iteration program b g)
            (arity-compose m ℚ g _ (arity-branch_map program _))
            (in_ideal_same R (of_iteration program b g a)
            (image_in R (letter_map program b) B B (of m g) (iterations_in b l)
            (member_in m ℚ_ring gs g (member_at m gs ga i il))));
      }

      has_first : Each (IsMember ℚ m gs) Ps
      has_first =
          each_from Ps (λ p i. in_list gs ga p (each_in (Arity m) Ps p arities i)
          (level_has R (letter_map program) (IsLetter program) (list Ps)
          (length program.branches) letter_range letter_in s.number s.before (map item kept) B
          s.level (of m p) (map-in (of m) Ps p i)))

      has_all : (q : Terms Fraction) → InClosure program Ps q → IsMember ℚ m gs q
      has_all q i = closure_closed program Ps gs arities ga is_closed has_first q i

      pub closed_is : IsClosure program Ps gs
      closed_is = record {
        reduced =
            record {
              members = λ g i. each_in (InClosure program Ps) gs g s.in_closure i;
              polynomials = s.reduced.polynomials;
              nonzero = s.reduced.nonzero;
              monic = s.reduced.monic;
              ascends = s.reduced.ascends;
              led = λ t p h i. s.reduced.led t p h (has_all (t ∷ p) i);
              clean = s.reduced.clean;
            };
        generates =
            record {
              arities = ga;
              only = λ q a i. members_in m (InClosure program Ps) closure gs q s.in_closure a i;
              all = λ q a i. has_all q i;
            };
        from_start = s.from_start;
      }

  pub waiting_sound : (n : ℕ) (gs : List (Terms Fraction)) (kept waiting : List Candidate)
      → IsSound gs kept waiting → SoundStep (from_waiting program n gs kept waiting)
  unfolding from_waiting from_level SoundStep Sound
  waiting_sound n gs kept (x ∷ xs) s =
      (s, comes_here (division.next rationals grevlex gs) (division.initial_state gs x.polynomial))
  waiting_sound n gs kept [] s = go (level_of program kept) refl (next_sound gs kept s)
    where
      go : (l : List Candidate) → level_of program kept ≡ l → IsSound gs [] l
          → SoundStep (from_level program n gs l)
      go [] e h = closed_is gs kept s e
      go (x ∷ xs) e h = (
        h,
        comes_here (division.next rationals grevlex gs) (division.initial_state gs x.polynomial),
      )

  -- ---- the end of a division
  module _ (n : ℕ) (gs : List (Terms Fraction)) (kept : List Candidate) (x : Candidate)
      (waiting : List Candidate) (s : IsSound gs kept (x ∷ waiting))
      (d : division.State Fraction)
      (to : LeadsTo (division.next rationals grevlex gs) (division.initial_state gs x.polynomial) d)
    where
      abbrev is_x : IsCandidate x
      is_x = each_in IsCandidate (x ∷ waiting) x s.waiting_are (inl refl)

      abbrev xa : Arity m x.polynomial
      xa = is_x.polynomial.arity

      abbrev gsa : AllArity m gs
      gsa = list_arity gs s.reduced

      abbrev rest : Terms Fraction
      rest = division.remainder d

      rest_is : IsPolynomial ℚ grevlex m rest
      rest_is = rest_polynomial m gs s.reduced x.polynomial is_x.polynomial d to

      less_rest : InIdeal R (list gs) (R.add (of m x.polynomial) (R.neg (of m rest)))
      less_rest = rest_differs m gs s.reduced x.polynomial is_x.polynomial d to

      passed : rest ≡ [] → IsSound gs kept waiting
      unfolding Each
      passed e = record {
        number = s.number;
        before = s.before;
        level =
            level_passed R (letter_map program) (IsLetter program) (list Ps) s.number s.before
            (map item kept) (item x) (map item waiting) (list gs) s.level
            (in_ideal_same R (sym (none (of m x.polynomial) (of m rest)
            (ap (of m) e ∙ poly-nil m ℚ_ring))) less_rest);
        reduced = s.reduced;
        in_closure = s.in_closure;
        from_start = s.from_start;
        kept_are = s.kept_are;
        waiting_are = s.waiting_are.1;
      }
        where
          none : (a r : Poly m ℚ_ring) → r ≡ R.zero → R.add a (R.neg r) ≡ a
          none a r e = ap (λ z. R.add a (R.neg z)) e ∙ plain a
            where
              plain : (a : Poly m ℚ_ring) → R.add a (R.neg R.zero) ≡ a
              plain a = ring R (a ∷ []) (search ring_rules depth 40) refl

      rest_in_closure : InClosure program Ps rest
      unfolding Each
      rest_in_closure =
          members_in m (InClosure program Ps) closure (x.polynomial ∷ gs) rest
          (is_x.in_closure, s.in_closure) rest_is.arity
          (in_list (x.polynomial ∷ gs) (xa, gsa) rest rest_is.arity
          (in_ideal_same R (back (of m x.polynomial) (of m rest))
          (in_ideal_add R (in_ideal_head R) (in_ideal_neg R (in_ideal_tail R less_rest)))))
        where
          back : (a r : Poly m ℚ_ring) → r ≡ R.add a (R.neg (R.add a (R.neg r)))
          back a r = ring R (a ∷ r ∷ []) (search ring_rules depth 40) refl

      rest_candidate : (r : Terms Fraction) → rest ≡ r → IsCandidate (with_polynomial r x)
      rest_candidate r e = record {
        given = is_x.given;
        letters = is_x.letters;
        polynomial = subst (IsPolynomial ℚ grevlex m) e rest_is;
        in_closure = subst (InClosure program Ps) e rest_in_closure;
      }

      extending_is : (r : Terms Fraction) → rest ≡ r → from_start program r ≡ []
          → IsExtending gs kept (with_polynomial r x) waiting
      extending_is r e z = record {
        from = x.polynomial;
        sound = s;
        differs = subst (λ q. InIdeal R (list gs) (R.add (of m x.polynomial) (R.neg (of m q)))) e
            less_rest;
        candidate = rest_candidate r e;
        zero =
            subst (λ q. Same ℚ (composition program r (start_map program)) q) z
            (Same-sym ℚ (collect-same ℚ_field grevlex grevlex_order
            (composition program r (start_map program))));
      }

      -- the rest differs from what the candidate comes from by a member
      less_word : InIdeal R (list gs)
          (R.add (of m rest) (R.neg (of m (after_word program x.word x.of))))
      less_word =
          let next = level_next R (letter_map program) (IsLetter program) (list Ps) s.number
          s.before (map item kept) (item x) (map item waiting) (list gs) s.level in
          in_ideal_same R
          (ap (λ w. R.add (of m rest) (R.neg w)) (of_word program x.word x.of (of_arity x is_x))
          ∙ through (of m x.polynomial) (of m rest)
          (word_at R (letter_map program) x.word (of m x.of)))
          (in_ideal_add R (in_ideal_neg R less_rest) next.same)
        where
          through : (a r w : Poly m ℚ_ring) → R.add r (R.neg w)
              ≡ R.add (R.neg (R.add a (R.neg r))) (R.add a (R.neg w))
          through a r w = ring R (a ∷ r ∷ w ∷ []) (search ring_rules depth 40) refl

      earlier_zero : (p : Terms Fraction) → In p Ps → (v : List ℕ) → All (IsLetter program) v
          → IsEarlier v x.word → IsZeroFromStart program (after_word program v p)
      earlier_zero p i v all e =
          let a = each_in (Arity m) Ps p arities i in
          let va = arity-after_word program v p a in
          let next = level_next R (letter_map program) (IsLetter program) (list Ps) s.number
          s.before (map item kept) (item x) (map item waiting) (list gs) s.level in
          zero_of_member gs gsa s.from_start (after_word program v p) va
          (in_list gs gsa (after_word program v p) va
          (in_ideal_same R (of_word program v p a)
          (next.earlier (of m p) (map-in (of m) Ps p i) v all e)))

      countered_is : (r : Terms Fraction) → rest ≡ r → (t : List ℕ × Fraction)
          (q : Terms Fraction) → from_start program r ≡ t ∷ q
          → IsFirstCounter program Ps (with_polynomial r x) (t ∷ q)
      countered_is r e t q h = record {
        given = is_x.given;
        letters = is_x.letters;
        is =
            subst (λ u. Same ℚ u (image program x.of x.word)) h
            (Same-trans ℚ (collect-same ℚ_field grevlex grevlex_order
            (composition program r (start_map program)))
            (subst (λ u. Same ℚ (composition program u (start_map program))
            (image program x.of x.word)) e
            (same_from_start gs gsa s.from_start rest (after_word program x.word x.of)
            rest_is.arity (arity-after_word program x.word x.of (of_arity x is_x)) less_word)));
        polynomial =
            subst (IsPolynomial ℚ grevlex m) h
            (collect-polynomial ℚ_field grevlex grevlex_order m
            (composition program r (start_map program))
            (arity-compose m ℚ r (start_map program) (arity-start_map program)));
        nonzero = λ n. cc;
        none = λ p i v l c.
            image_of_counter program p v c
            (earlier_zero p i v (letters_of_counter program p v c) l);
      }

      start_sound : (r : Terms Fraction) → rest ≡ r → (o : Terms Fraction)
          → from_start program r ≡ o
          → SoundStep (by_start program n gs kept (with_polynomial r x) waiting o)
      unfolding by_start SoundStep Sound
      start_sound r e [] h = (extending_is r e h, comes_here next_extended (begin_extended gs r))
      start_sound r e (t ∷ q) h = countered_is r e t q h

      rest_sound : (r : Terms Fraction) → rest ≡ r
          → SoundStep (by_rest program n gs kept x waiting r)
      unfolding by_rest
      rest_sound [] e = waiting_sound (suc n) gs kept waiting (passed e)
      rest_sound (t ∷ r) e = start_sound (t ∷ r) e (from_start program (t ∷ r)) refl

      pub divided_sound : (o : Option (Event × division.State Fraction))
          → division.next rationals grevlex gs d ≡ o
          → SoundStep (divided program n gs kept x waiting d o)
      unfolding divided SoundStep Sound
      divided_sound None e = rest_sound rest refl
      divided_sound (Some (f, t)) e = (
        s,
        comes_longer (division.next rationals grevlex gs) (division.initial_state gs x.polynomial)
            d t f to e,
      )

  -- ---- the end of a completion
  module _ (n : ℕ) (gs : List (Terms Fraction)) (kept : List Candidate) (x : Candidate)
      (waiting : List Candidate) (h : IsExtending gs kept x waiting)
      (c : elimination.State Fraction)
      (to : LeadsTo next_extended (begin_extended gs x.polynomial) c) where
    abbrev hs : List (Terms Fraction)
    hs = gs ++ x.polynomial ∷ []

    abbrev new : List (Terms Fraction)
    new = extended_list c

    hs_are : Each (IsPolynomial ℚ grevlex m) hs
    unfolding Each
    hs_are =
        each-append (IsPolynomial ℚ grevlex m) gs (x.polynomial ∷ [])
        (each_from gs h.sound.reduced.polynomials) (h.candidate.polynomial, tt)

    hsa : AllArity m hs
    hsa = each_weaker (IsPolynomial ℚ grevlex m) (Arity m) (λ p i. i.arity) hs hs_are

    module _ (ended : HasEnded next_extended c) where
      new_reduced : IsReducedFor rationals grevlex m new (IsMember ℚ m hs)
      new_reduced = extended_reduced m hs hs_are c to ended

      new_itself : IsReducedFor rationals grevlex m new (IsMember ℚ m new)
      new_itself =
          reduced_for_itself grevlex grevlex_order m hs
          (each_at (IsPolynomial ℚ grevlex m) hs hs_are) new new_reduced hsa

      na : AllArity m new
      na = reduced_arity grevlex grevlex_order m new (IsMember ℚ m hs) new_reduced

      new_has : (p : Terms Fraction) → In p hs → InIdeal R (list new) (of m p)
      new_has p i =
          member_in m ℚ_ring new p
          (reduced_generates grevlex grevlex_order m hs
          (each_at (IsPolynomial ℚ grevlex m) hs hs_are) new new_reduced p
          (each_in (Arity m) hs p hsa i) (in_itself hs hsa p i))

      each_of_list : (E : List (Poly m ℚ_ring)) (ps : List (Terms Fraction))
          → ((p : Terms Fraction) → In p ps → InIdeal R E (of m p)) → AllInIdeal R E (list ps)
      each_of_list E ps f = each-map (InIdeal R E) (of m) ps (each_from ps f)

      to_new : AllInIdeal R (list new) (of m x.polynomial ∷ list gs)
      unfolding Each
      to_new = (
        new_has x.polynomial (in_right x.polynomial gs (x.polynomial ∷ []) (inl refl)),
        each_of_list (list new) gs (λ p i. new_has p (in_left p gs (x.polynomial ∷ []) i)),
      )

      from_old : AllInIdeal R (of m x.polynomial ∷ list gs) (list hs)
      from_old =
          each_of_list (of m x.polynomial ∷ list gs) hs (λ p i. go p (in_push gs x.polynomial p i))
        where
          go : (p : Terms Fraction) → In p gs ⊎ (p ≡ x.polynomial)
              → InIdeal R (of m x.polynomial ∷ list gs) (of m p)
          go p (inl i) =
              in_ideal_tail R
              (each_in (InIdeal R (list gs)) (list gs) (of m p) (all_in_itself R (list gs))
              (map-in (of m) gs p i))
          go p (inr e) = in_ideal_same R (ap (of m) e) (in_ideal_head R)

      from_new : AllInIdeal R (of m x.polynomial ∷ list gs) (list new)
      from_new =
          each_of_list (of m x.polynomial ∷ list gs) new
          (λ p i. in_ideal_trans R (of m x.polynomial ∷ list gs) (list hs) from_old
          (member_in m ℚ_ring hs p (new_reduced.members p i)))

      new_closure : Each (InClosure program Ps) new
      unfolding Each
      new_closure =
          each_from new (λ p i. members_in m (InClosure program Ps) closure hs p
          (each-append (InClosure program Ps) gs (x.polynomial ∷ []) h.sound.in_closure
          (h.candidate.in_closure, tt)) (each_in (Arity m) new p na i) (new_reduced.members p i))

      new_zero : Each (IsZeroFromStart program) new
      unfolding Each
      new_zero =
          each_from new (λ p i. zero_of_member hs hsa
          (each-append (IsZeroFromStart program) gs (x.polynomial ∷ []) h.sound.from_start
          (h.zero, tt)) p (each_in (Arity m) new p na i) (new_reduced.members p i))

      kept_sound : IsSound new (kept ++ x ∷ []) waiting
      unfolding Each
      kept_sound = record {
        number = h.sound.number;
        before = h.sound.before;
        level =
            subst (λ ks. InLevel R (letter_map program) (IsLetter program) (list Ps)
            h.sound.number h.sound.before ks (map item waiting) (list new))
            (sym (map-append item kept (x ∷ [])))
            (level_kept R (letter_map program) (IsLetter program) (list Ps) h.sound.number
            h.sound.before (map item kept) (item (with_polynomial h.from x)) (map item waiting)
            (list gs) h.sound.level (of m x.polynomial) (list new) h.differs to_new from_new);
        reduced = new_itself;
        in_closure = new_closure;
        from_start = new_zero;
        kept_are = each-append IsCandidate kept (x ∷ []) h.sound.kept_are (h.candidate, tt);
        waiting_are = h.sound.waiting_are.1;
      }

    pub extended_sound : (o : Option (Event × elimination.State Fraction)) → next_extended c ≡ o
        → SoundStep (extended program n gs kept x waiting c o)
    unfolding extended SoundStep Sound
    extended_sound None e = waiting_sound (suc n) new (kept ++ x ∷ []) waiting (kept_sound e)
    extended_sound (Some (f, t)) e =
        (h, comes_longer next_extended (begin_extended gs x.polynomial) c t f to e)
