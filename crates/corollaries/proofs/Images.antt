-- Images decide which words counter a polynomial.
--   arity-image          an image is a polynomial in the variables
--   letters_of_counter   the letters of such a word are numbers of branches
--   value_of_image       the image's value at a point is the polynomial's at the end of the run
--     from
--                        the start that the point makes
--   image_fixed          a variable that init sets doesn't matter
--   counter_of_image, image_of_counter      a word counters exactly where its image isn't 0
--   point_of_start, start_of_point          the first start is the first point of the image
--   refutes              a word that counters a polynomial shows that it is no invariant
--   inv_of_none          what no word counters is an invariant
use Rattle.std.proofs.Common.{◌≡◌, ◌≢◌, ◌⊎◌, inl, inr, ℕ, zero, suc, ◌+◌, ◌≤◌, ◌<◌, List, [], ◌∷◌, ◌++◌, length, get_or, refl, sym, ap, subst, ◌∙◌, arith, Bool, true, false, true≢false, All, Option, Some}
use Rattle.std.specs.Prelude.{IsSomeAnd}
use Rattle.std.proofs.lemmas.List.{length-append}
use Rattle.std.proofs.lemmas.List.Elements.{All-nil, All-cons, All-head, All-tail}
use Rattle.algebra.specs.Fraction.{Fraction, ℚ}
use Rattle.algebra.proofs.Fractions.{ℚ_ring, fraction_eq, fraction_eq_refl, fraction_eq_true}
use Rattle.polynomials.specs.Terms.{Terms, Same, value_at}
use Rattle.polynomials.specs.Polynomial.{Arity}
use Rattle.polynomials.proofs.Arity.{arity-compose}
use Rattle.polynomials.proofs.SameDecided.{decide_same}
use Rattle.polynomials.proofs.ValueAt.{value_at_same, value_at-nil}
use Rattle.loops.specs.Program.{Expr, Program, Equation}
use Rattle.loops.specs.Effect.{start_from}
use Rattle.loops.specs.Run.{Run, run_end, IsState}
use Rattle.loops.specs.Inv.{Inv}
use Rattle.loops.specs.Map.{start_map}
use Rattle.loops.specs.WellFormed.{IsWellFormed}
use Rattle.loops.proofs.Starts.{start_from_start, start_by_free}
use Rattle.loops.proofs.Maps.{value_at_start, start_keeps_state, arity-start_map}
use Rattle.loops.proofs.Invariants.{start_from_is}
use Rattle.rounds.specs.Word.{IsLetter, after_word}
use Rattle.rounds.proofs.Run.{value_after_word, letters_of_run, end_of_letters}
use Rattle.corollaries.specs.Word.{IsLess, IsEarlier}
use Rattle.corollaries.specs.Counter.{Counters, IsFirstWord, NoneCounters, start_of, EndsOff, IsFirstStart}
use Rattle.corollaries.specs.Point.{wholes, IsFirstPoint}
use Rattle.corollaries.specs.Image.{image}
use Rattle.corollaries.proofs.Order.{less_total, earlier_total}
use Rattle.corollaries.proofs.Points.{length-wholes, first_points}

is_some_at : {X : Type 0} (P : X → Type 0) (o : Option X) (x : X) → o ≡ Some x → P x → IsSomeAnd o P
is_some_at P o x e h = subst (λ u. IsSomeAnd u P) (sym e) h

of_some : {X : Type 0} (P : X → Type 0) (o : Option X) (x : X) → o ≡ Some x → IsSomeAnd o P → P x
of_some P o x e h = subst (λ u. IsSomeAnd u P) e h

module _ {At : Type 0} (program : Program (Expr At)) (p : Terms Fraction) where
  abbrev m : ℕ
  m = length program.names

  pub letters_of_counter : (w : List ℕ) → Counters program p w → All (IsLetter program) w
  letters_of_counter w c =
      subst (All (IsLetter program)) c.is_word
      (letters_of_run program c.run.word c.run.start c.run.end c.run.is_end)

  pub arity-image : (w : List ℕ) → Arity m (image program p w)
  arity-image w =
      arity-compose m ℚ (after_word program w p) (start_map program) (arity-start_map program)

  -- at a state
  pub value_of_image : (w : List ℕ) (s end : List Fraction) → IsState program s
      → run_end program w (start_from ℚ (λ c. c) program s) ≡ Some end
      → value_at ℚ (image program p w) s ≡ value_at ℚ p end
  value_of_image w s end is h =
      value_at_start program (after_word program w p) s is
      ∙ value_after_word program p w (start_from ℚ (λ c. c) program s) end
      (start_keeps_state program s is) h

  pub image_of_counter : (w : List ℕ) → Counters program p w → Same ℚ (image program p w) [] → ⊥
  image_of_counter w c z =
      let r = c.run in
      let same : start_from ℚ (λ c. c) program r.start ≡ r.start =
      start_from_start ℚ (λ c. c) program r.start r.is_start.holds in
      let ends : run_end program w (start_from ℚ (λ c. c) program r.start) ≡ Some r.end =
      ap (run_end program w) same ∙ ap (λ v. run_end program v r.start) (sym c.is_word)
      ∙ r.is_end in
      c.not_zero
      (sym (value_of_image w r.start r.end r.is_start.state ends)
      ∙ value_at_same ℚ_ring (image program p w) [] r.start z ∙ value_at-nil ℚ_ring r.start)

  module _ (w : List ℕ) (all : All (IsLetter program) w) where
    end_of : (s : List Fraction) → (end : List Fraction) × (run_end program w s ≡ Some end)
    end_of s = end_of_letters program w s all

    points_state : (xs : List ℕ) → length xs ≡ m → IsState program (wholes xs)
    points_state xs l = length-wholes xs ∙ l

    pub ends_off : (xs : List ℕ) → length xs ≡ m
        → value_at ℚ (image program p w) (wholes xs) ≢ ℚ.zero → EndsOff program p w xs
    ends_off xs l n =
        let (end, h) = end_of (start_of program xs) in
        is_some_at (λ end. value_at ℚ p end ≢ ℚ.zero)
        (run_end program w (start_of program xs)) end h
        (λ z. n (value_of_image w (wholes xs) end (points_state xs l) h ∙ z))

    pub off_of_ends : (xs : List ℕ) → length xs ≡ m → EndsOff program p w xs
        → value_at ℚ (image program p w) (wholes xs) ≢ ℚ.zero
    off_of_ends xs l e z =
        let (end, h) = end_of (start_of program xs) in
        of_some (λ end. value_at ℚ p end ≢ ℚ.zero) (run_end program w (start_of program xs)) end h e
        (sym (value_of_image w (wholes xs) end (points_state xs l) h) ∙ z)

    pub zero_of_ends : (xs : List ℕ) → length xs ≡ m → (EndsOff program p w xs → ⊥)
        → value_at ℚ (image program p w) (wholes xs) ≡ ℚ.zero
    zero_of_ends xs l n = go (fraction_eq (value_at ℚ (image program p w) (wholes xs)) ℚ.zero) refl
      where
        go : (b : Bool) → fraction_eq (value_at ℚ (image program p w) (wholes xs)) ℚ.zero ≡ b
            → value_at ℚ (image program p w) (wholes xs) ≡ ℚ.zero
        go true e = fraction_eq_true _ _ e
        go false e =
            absurd (n
            (ends_off xs l
            (λ z. let t : fraction_eq (value_at ℚ (image program p w) (wholes xs)) ℚ.zero ≡ true =
            subst (λ v. fraction_eq v ℚ.zero ≡ true) (sym z) (fraction_eq_refl ℚ.zero) in
            true≢false (sym t ∙ e))))

    pub point_of_start : (xs : List ℕ) → IsFirstStart program p w xs
        → IsFirstPoint m (image program p w) xs
    point_of_start xs f = record {
      count = f.count;
      off = off_of_ends xs f.count f.off;
      first = λ ys l h. zero_of_ends ys l (f.first ys l h);
    }

    pub start_of_point : (xs : List ℕ) → IsFirstPoint m (image program p w) xs
        → IsFirstStart program p w xs
    start_of_point xs f = record {
      count = f.count;
      off = ends_off xs f.count f.off;
      first = λ ys l h e. off_of_ends ys l e (f.first ys l h);
    }

    -- of a well-formed program
    module _ (well : IsWellFormed program) where
      pub counter_of_point : (xs : List ℕ) → length xs ≡ m
          → value_at ℚ (image program p w) (wholes xs) ≢ ℚ.zero → Counters program p w
      counter_of_point xs l n =
          let (end, h) = end_of (start_of program xs) in
          record {
            run =
                record {
                  start = start_of program xs;
                  word = w;
                  end = end;
                  is_start = start_from_is program well (wholes xs) (points_state xs l);
                  is_end = h;
                };
            is_word = refl;
            not_zero = λ z. n (value_of_image w (wholes xs) end (points_state xs l) h ∙ z);
          }

      pub counter_of_image : (Same ℚ (image program p w) [] → ⊥) → Counters program p w
      counter_of_image n =
          let (xs, f) = first_points m (image program p w) (arity-image w) n in
          counter_of_point xs f.count f.off

  -- a variable that init sets doesn't matter
  pub image_fixed : IsWellFormed program
      → (w : List ℕ) (before behind : List Fraction) (x y : Fraction)
      → length before + suc (length behind) ≡ m
      → ((i : ℕ) → All (λ (e : Equation (Expr At)). i ≢ e.name) program.init → i ≢ length before)
      → value_at ℚ (image program p w) (before ++ x ∷ behind) ≡ value_at ℚ (image program p w)
      (before ++ y ∷ behind)
  image_fixed well w before behind x y l set =
      let is : (z : Fraction) → IsState program (before ++ z ∷ behind) =
      λ z. length-append before (z ∷ behind) ∙ l in
      value_at_start program (after_word program w p) (before ++ x ∷ behind) (is x)
      ∙ ap (value_at ℚ (after_word program w p))
      (start_by_free ℚ (λ c. c) program well (before ++ x ∷ behind) (before ++ y ∷ behind)
      (is x) (is y) (λ i free. other before i (set i free)))
      ∙ sym (value_at_start program (after_word program w p) (before ++ y ∷ behind) (is y))
    where
      other : (before : List Fraction) (i : ℕ) → i ≢ length before
          → get_or (before ++ x ∷ behind) i ℚ.zero ≡ get_or (before ++ y ∷ behind) i ℚ.zero
      other [] zero n = absurd (n refl)
      other [] (suc i) n = refl
      other (b ∷ before) zero n = refl
      other (b ∷ before) (suc i) n = other before i (λ e. n (ap suc e))

  pub decide_counter : IsWellFormed program → (w : List ℕ)
      → Counters program p w ⊎ (Counters program p w → ⊥)
  decide_counter well w = letters (decide_letters w)
    where
      decide_letters : (w : List ℕ) → All (IsLetter program) w ⊎ (All (IsLetter program) w → ⊥)
      decide_letters [] = inl (All-nil _)
      decide_letters (b ∷ w) = go (one b) (decide_letters w)
        where
          one : (b : ℕ) → IsLetter program b ⊎ (IsLetter program b → ⊥)
          one b = here (cases b (length program.branches))
            where
              cases : (b n : ℕ) → ((0 < b) × (b ≤ n)) ⊎ ((b ≡ 0) ⊎ (n < b))
              cases b n = grind arith

              here : ((0 < b) × (b ≤ length program.branches))
                  ⊎ ((b ≡ 0) ⊎ (length program.branches < b))
                  → IsLetter program b ⊎ (IsLetter program b → ⊥)
              here (inl h) = inl (record { some = h.0; within = h.1 })
              here (inr (inl h)) = inr (λ l. let s : 0 < b = l.some in omega arith)
              here (inr (inr h)) =
                  inr (λ l. let s : b ≤ length program.branches = l.within in omega arith)

          go : IsLetter program b ⊎ (IsLetter program b → ⊥)
              → All (IsLetter program) w ⊎ (All (IsLetter program) w → ⊥)
              → All (IsLetter program) (b ∷ w) ⊎ (All (IsLetter program) (b ∷ w) → ⊥)
          go (inl h) (inl k) = inl (All-cons (IsLetter program) b w h k)
          go (inl h) (inr k) = inr (λ a. k (All-tail (IsLetter program) b w a))
          go (inr h) k = inr (λ a. h (All-head (IsLetter program) b w a))

      letters : All (IsLetter program) w ⊎ (All (IsLetter program) w → ⊥)
          → Counters program p w ⊎ (Counters program p w → ⊥)
      letters (inr n) = inr (λ c. n (letters_of_counter w c))
      letters (inl all) =
          zero_or (decide_same ℚ_ring fraction_eq fraction_eq_refl fraction_eq_true
          (image program p w) [])
        where
          zero_or : Same ℚ (image program p w) [] ⊎ (Same ℚ (image program p w) [] → ⊥)
              → Counters program p w ⊎ (Counters program p w → ⊥)
          zero_or (inl z) = inr (λ c. image_of_counter w c z)
          zero_or (inr n) = inl (counter_of_image w all well n)

  pub some_start : IsWellFormed program → (w : List ℕ) → Counters program p w
      → (xs : List ℕ) × IsFirstStart program p w xs
  some_start well w c =
      let (xs, f) = first_points m (image program p w) (arity-image w) (image_of_counter w c) in
      (xs, start_of_point w (letters_of_counter w c) xs f)

  pub start_one : (w xs ys : List ℕ) → IsFirstStart program p w xs → IsFirstStart program p w ys
      → xs ≡ ys
  start_one w xs ys f g = go (less_total xs ys (f.count ∙ sym g.count))
    where
      go : IsLess xs ys ⊎ ((xs ≡ ys) ⊎ IsLess ys xs) → xs ≡ ys
      go (inl h) = absurd (g.first xs f.count h f.off)
      go (inr (inl e)) = e
      go (inr (inr h)) = absurd (f.first ys g.count h g.off)

  pub word_one : (v w : List ℕ) → IsFirstWord program p v → IsFirstWord program p w → v ≡ w
  word_one v w f g = go (earlier_total v w)
    where
      go : IsEarlier v w ⊎ ((v ≡ w) ⊎ IsEarlier w v) → v ≡ w
      go (inl h) = absurd (g.first v h f.counters)
      go (inr (inl e)) = e
      go (inr (inr h)) = absurd (f.first w h g.counters)

  -- ---- invariants
  pub refutes : (w : List ℕ) → Counters program p w → Inv program p → ⊥
  refutes w c i = c.not_zero (i.zero c.run)

  pub inv_of_none : Arity m p → ((n : ℕ) → NoneCounters program p n) → Inv program p
  inv_of_none a h =
      record { arity = a; zero = λ r. zero_at r (fraction_eq (value_at ℚ p r.end) ℚ.zero) refl }
    where
      zero_at : (r : Run program) (b : Bool) → fraction_eq (value_at ℚ p r.end) ℚ.zero ≡ b
          → value_at ℚ p r.end ≡ ℚ.zero
      zero_at r true e = fraction_eq_true _ _ e
      zero_at r false e =
          absurd (h (length r.word) r.word (omega arith)
          (record {
            run = r;
            is_word = refl;
            not_zero =
                λ z. true≢false
                (sym (subst (λ v. fraction_eq v ℚ.zero ≡ true) (sym z) (fraction_eq_refl ℚ.zero))
                ∙ e);
          }))
