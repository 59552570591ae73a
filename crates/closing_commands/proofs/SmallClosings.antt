-- A test by computation that nothing stops a closing, where all numbers are small, nothing comes in its completions, and no letter but 1 is taken.
--   left_small gs o              the next cutting of what is left of a division fits;  division_holds: so nothing of the division is past
--   is_none, is_empty, nothing_comes     nothing comes in a completion, nor in the tidying behind it
--   monic_small ps               making each of the ps monic fits
--   state_small l s              so all of this is at a state, and the compositions of its candidate are small
--   step_small l P n step        so it is at each state that comes, of which there are at most n;  closing_small: so it is at each state of the closing
--   small_closing_unlimited      then no composition passes a limit
--   small_closing_fits           and nothing of a composition or a task may not fit
use Rattle.std.proofs.Common.{◌≡◌, inl, inr, ℕ, zero, suc, Bool, true, false, eqb, List, [], ◌∷◌, ◌++◌, length, refl, sym, ap, subst, ◌∙◌, Option, Some, None}
use Rattle.std.specs.Prelude.{◌&&◌, slice_get}
use Rattle.std.proofs.lemmas.Bool.{eqb-true, and_parts}
use Rattle.algebra.specs.Fraction.{Fraction, fraction_size, fractions, rationals}
use Rattle.algebra.specs.Size.{sum_size, product_size, quotient_size}
use Rattle.polynomials.specs.Exponent.{plus}
use Rattle.polynomials.specs.Order.{grevlex}
use Rattle.polynomials.specs.Terms.{Terms}
use Rattle.polynomials.specs.Weight.{degrees}
use Rattle.machines.specs.Completion as completion
use Rattle.machines.specs.Cut.{Cutting, all_places, find_cut, lead_number}
use Rattle.machines.specs.Division as division
use Rattle.machines.specs.Elimination as elimination
use Rattle.machines.specs.Elimination.{completing, tidying_up}
use Rattle.machines.specs.Journal.{Entry, Begin, Image}
use Rattle.machines.specs.Pairs.{skip_covered}
use Rattle.machines.specs.Past.{IsPastCut, IsPastMonic, IsPastDivision, IsPastStart, IsPastActing, IsPastTaking, IsPastTailing, IsPastDropping, IsPastElimination}
use Rattle.machines.specs.Run.{IsRun}
use Rattle.machines.specs.Tidying.{TailCut, tail_cut, drop_place, by_lead}
use Rattle.machines.proofs.Runs.{run_then}
use Rattle.loops.specs.Program.{Expr, Program}
use Rattle.loop_model.specs.Operations.{Operation}
use Rattle.closures.specs.Closing.{Candidate, State, fresh, dividing, extending, Step, goes, closed, countered, next, move_of, moves}
use Rattle.closures.specs.Follows.{IsPastAt, IsPastTask}
use Rattle.closing.specs.Causes.{IsComposed, IsStarting, IsComposing}
use Rattle.closing.specs.Compositions.{iteration_operations, start_operations}
use Rattle.closing_commands.specs.Deciding.{HasCountered, IsWideWord}
use Rattle.closing_commands.specs.DecideClauses.{HasLimit, HasWideWord}
use Rattle.closing_commands.proofs.SmallOperations.{small, small_holds, low, low_holds, weigh, all_small_operations, small_unlimited, small_narrow}

-- ---- divisions
unfoldable pub quotient_small : Cutting Fraction → Bool
quotient_small c =
    small (quotient_size (fraction_size c.term.1) (fraction_size (lead_number rationals c.of)))

unfoldable pub difference_small : Terms Fraction → Cutting Fraction → Bool
difference_small p c =
    small (sum_size (weigh p) (product_size (fraction_size c.number) (weigh c.of)))

unfoldable pub shift_low : Cutting Fraction → Bool
shift_low c = low (plus c.by (degrees c.of))

unfoldable pub cutting_small : Terms Fraction → Option (Cutting Fraction) → Bool
cutting_small p None = true
cutting_small p (Some c) = quotient_small c && (difference_small p c && shift_low c)

cutting_fits : (p : Terms Fraction) (c : Cutting Fraction) → cutting_small p (Some c) ≡ true
    → IsPastCut fractions rationals p c → ⊥
unfolding cutting_small quotient_small difference_small shift_low
cutting_fits p c h past =
    let first = and_parts (quotient_small c) (difference_small p c && shift_low c) h in
    let rest = and_parts (difference_small p c) (shift_low c) first.1 in
    elim past [
      | inl w ↦ small_holds _ first.0 w
      | inr (inl w) ↦ small_holds _ rest.0 w
      | inr (inr n) ↦ n (low_holds (plus c.by (degrees c.of)) rest.1)
    ]

unfoldable pub left_small : List (Terms Fraction) → Option (Terms Fraction) → Bool
left_small gs None = true
left_small gs (Some p) = cutting_small p (find_cut rationals all_places gs p)

pub division_holds : (gs : List (Terms Fraction)) (s : division.State Fraction)
    → left_small gs s.current ≡ true → IsPastDivision fractions rationals gs s → ⊥
unfolding left_small
division_holds gs s h past =
    let at : left_small gs (Some past.left) ≡ true =
    subst (λ o. left_small gs o ≡ true) past.current h in
    cutting_fits past.left past.cutting
    (subst (λ o. cutting_small past.left o ≡ true) past.found at) past.past

-- ---- completions in which nothing comes
unfoldable pub is_none : {X : Type 0} → Option X → Bool
is_none None = true
is_none (Some x) = false

unfoldable pub is_empty : {X : Type 0} → List X → Bool
is_empty [] = true
is_empty (x ∷ xs) = false

unfoldable pub nothing_comes : elimination.State Fraction → Bool
nothing_comes (completing s) =
    is_none s.current
    && (is_empty (skip_covered (completion.leads s.basis) s.waiting)
    && is_none (tail_cut rationals (by_lead grevlex s.basis)))
nothing_comes (tidying_up gs) = false

not_acting : (gs : List (Terms Fraction)) (w : List (ℕ × ℕ)) (o : Option (Terms Fraction))
    → is_none o ≡ true → is_empty (skip_covered (completion.leads gs) w) ≡ true
    → IsPastActing fractions rationals gs w o → ⊥
unfolding is_none is_empty
not_acting gs w (Some p) n e past = absurd (let z : false ≡ true = n in cc)
not_acting gs w None n e past = go (skip_covered (completion.leads gs) w) e past
  where
    go : (v : List (ℕ × ℕ)) → is_empty v ≡ true → IsPastTaking fractions rationals gs v → ⊥
    go [] e past = past
    go (a ∷ v) e past = absurd (let z : false ≡ true = e in cc)

not_tailing : (o : Option (TailCut Fraction)) → is_none o ≡ true
    → IsPastTailing fractions rationals o → ⊥
unfolding is_none
not_tailing None n past = past
not_tailing (Some c) n past = absurd (let z : false ≡ true = n in cc)

not_tidying : (gs : List (Terms Fraction)) → is_none (tail_cut rationals gs) ≡ true
    → (o : Option ℕ) → IsPastDropping fractions rationals gs o → ⊥
not_tidying gs n (Some k) past = past
not_tidying gs n None past = not_tailing (tail_cut rationals gs) n past

nothing_past : (s : elimination.State Fraction) → nothing_comes s ≡ true
    → IsPastElimination fractions rationals grevlex grevlex (λ hs. hs) s → ⊥
unfolding nothing_comes
nothing_past (tidying_up gs) h past = absurd (let z : false ≡ true = h in cc)
nothing_past (completing s) h past =
    let first = and_parts (is_none s.current)
    (is_empty (skip_covered (completion.leads s.basis) s.waiting)
    && is_none (tail_cut rationals (by_lead grevlex s.basis))) h in
    let rest = and_parts (is_empty (skip_covered (completion.leads s.basis) s.waiting))
    (is_none (tail_cut rationals (by_lead grevlex s.basis))) first.1 in
    elim past [
      | inl a ↦ not_acting s.basis s.waiting s.current first.0 rest.0 a
      | inr t ↦
          not_tidying (by_lead grevlex s.basis) rest.1
          (drop_place rationals (by_lead grevlex s.basis)) t.1
    ]

unfoldable pub monic_small : List (Terms Fraction) → Bool
monic_small [] = true
monic_small (p ∷ ps) =
    small (quotient_size (weigh p) (fraction_size (lead_number rationals p))) && monic_small ps

monic_fits : (ps : List (Terms Fraction)) → monic_small ps ≡ true → (k : ℕ) (p : Terms Fraction)
    → slice_get ps k ≡ Some p → IsPastMonic fractions rationals p → ⊥
unfolding monic_small
monic_fits [] h k p at past = absurd (let z : ⊥ = cc in z)
monic_fits (q ∷ ps) h zero p at past =
    let both = and_parts
    (small (quotient_size (weigh q) (fraction_size (lead_number rationals q))))
    (monic_small ps) h in
    let same : q ≡ p =
    (let e : ◌≡◌ {A = Option (Terms Fraction)} (Some q) (Some p) = at in cc) in
    small_holds (quotient_size (weigh q) (fraction_size (lead_number rationals q))) both.0
    (subst (λ r. IsPastMonic fractions rationals r) (sym same) past).1
monic_fits (q ∷ ps) h (suc k) p at past =
    monic_fits ps (and_parts
    (small (quotient_size (weigh q) (fraction_size (lead_number rationals q))))
    (monic_small ps) h).1 k p at past

-- ---- a closing
unfoldable pub first_letter : List ℕ → Bool
first_letter [] = true
first_letter (b ∷ w) = eqb b 1

module _ (l : Program (Expr ℕ)) where
  abbrev pub are_small : List Operation → Bool
  are_small os = all_small_operations (length l.names) os

  unfoldable pub state_small : State → Bool
  state_small fresh = true
  state_small (dividing n gs kept x waiting s) =
      first_letter x.word
      && (left_small gs s.current && are_small (start_operations l (division.remainder s)))
  state_small (extending n gs kept x waiting s) =
      nothing_comes s
      && (monic_small (gs ++ x.polynomial ∷ [])
      && are_small (iteration_operations l 1 x.polynomial))

  past_not : (s : State) (x : Candidate) → state_small s ≡ true → IsPastAt l [] x s → ⊥
  unfolding state_small
  past_not fresh x h past = past
  past_not (dividing n gs kept y waiting s) x h past =
      division_holds gs s
      (and_parts (left_small gs s.current) (are_small (start_operations l (division.remainder s)))
      (and_parts (first_letter y.word)
      (left_small gs s.current && are_small (start_operations l (division.remainder s))) h).1).0
      past.1
  past_not (extending n gs kept y waiting s) x h past =
      let first = and_parts (nothing_comes s) (monic_small (gs ++ y.polynomial ∷ [])
      && are_small (iteration_operations l 1 y.polynomial)) h in
      let rest = and_parts (monic_small (gs ++ y.polynomial ∷ []))
      (are_small (iteration_operations l 1 y.polynomial)) first.1 in
      elim past.1 [
        | inl p ↦ nothing_past s first.0 p
        | inr p ↦
            let q : IsPastStart fractions rationals (gs ++ y.polynomial ∷ []) = p.1 in
            monic_fits (gs ++ y.polynomial ∷ []) rest.0 q.place q.element q.at q.past
      ]

  module _ (P : List (Terms Fraction)) where
    unfoldable pub step_small : ℕ → Step → Bool
    step_small n (closed gs) = true
    step_small n (countered x q) = true
    step_small zero (goes e s) = false
    step_small (suc n) (goes e s) = state_small s && step_small n (next l P s)

    small_behind : (n : ℕ) (u : State) → state_small u ≡ true
        → step_small n (next l P u) ≡ true → (es : List Entry) (s : State)
        → IsRun (moves l P) u es s → state_small s ≡ true
    unfolding IsRun step_small
    small_behind n u h k [] s r = subst (λ v. state_small v ≡ true) r h
    small_behind n u h k (e ∷ es) s (v, m, r) =
        go n (next l P u) k m (λ n t h k r. small_behind n t h k es s r)
      where
        go : (n : ℕ) (step : Step) → step_small n step ≡ true → move_of l P step ≡ Some (e, v)
            → ((n : ℕ) (t : State) → state_small t ≡ true → step_small n (next l P t) ≡ true
            → IsRun (moves l P) t es s → state_small s ≡ true) → state_small s ≡ true
        go n (closed gs) k m ih =
            absurd (let z : ◌≡◌ {A = Option (Entry × State)} None (Some (e, v)) = m in cc)
        go n (countered x q) k m ih =
            absurd (let z : ◌≡◌ {A = Option (Entry × State)} None (Some (e, v)) = m in cc)
        go zero (goes f t) k m ih = absurd (let z : false ≡ true = k in cc)
        go (suc n) (goes f t) k m ih =
            let both = and_parts (state_small t) (step_small n (next l P t)) k in
            let pair : ◌≡◌ {A = Option (Entry × State)} (Some (f, t)) (Some (e, v)) = m in
            let inner : ◌≡◌ {A = Entry × State} (f, t) (e, v) = cc in
            let same : t ≡ v = ap (λ (y : Entry × State). y.1) inner in
            ih n t both.0 both.1 (subst (λ y. IsRun (moves l P) y es s) (sym same) r)

    module _ (n : ℕ) (all : step_small n (next l P fresh) ≡ true) where
      pub closing_small : (es : List Entry) (s : State) → IsRun (moves l P) fresh es s
          → state_small s ≡ true
      unfolding state_small
      closing_small es s r = small_behind n fresh refl all es s r

      module _ (es : List Entry) (x : Candidate) (os : List Operation) where
        one_letter : (b : ℕ) (w : List ℕ) → x.word ≡ b ∷ w → first_letter x.word ≡ true → b ≡ 1
        unfolding first_letter
        one_letter b w e h = eqb-true b 1 (subst (λ v. first_letter v ≡ true) e h)

        composed_small : IsComposed l P es x os → are_small os ≡ true
        unfolding state_small
        composed_small c =
            let started = dividing c.number c.list c.kept x c.waiting
            (division.initial_state c.list x.polynomial) in
            let run = run_then (moves l P) fresh c.comes.state started es (Begin (Image c.number))
            c.comes.run (ap (move_of l P) c.comes.is) in
            let at = closing_small (es ++ Begin (Image c.number) ∷ []) started run in
            let word : x.word ≡ c.letter ∷ c.from.word = ap (λ (y : Candidate). y.word) c.is in
            let letter = one_letter c.letter c.from.word word (and_parts (first_letter x.word)
            (left_small c.list (Some x.polynomial)
            && are_small (start_operations l x.polynomial)) at).0 in
            let joined = c.joined in
            let extended = closing_small joined.before _ joined.follows.run in
            let first = and_parts (nothing_comes joined.state)
            (monic_small (joined.list ++ c.from.polynomial ∷ [])
            && are_small (iteration_operations l 1 c.from.polynomial)) extended in
            let rest = and_parts (monic_small (joined.list ++ c.from.polynomial ∷ []))
            (are_small (iteration_operations l 1 c.from.polynomial)) first.1 in
            let those : iteration_operations l 1 c.from.polynomial ≡ os =
            sym (c.operations ∙ ap (λ b. iteration_operations l b c.from.polynomial) letter) in
            subst (λ qs. are_small qs ≡ true) those rest.1

        starting_small : IsStarting l P es x os → are_small os ≡ true
        unfolding state_small
        starting_small c =
            let has = c.has in
            let at = closing_small es _ has.follows.run in
            let first = and_parts (first_letter x.word) (left_small c.list has.last.current
            && are_small (start_operations l (division.remainder has.last))) at in
            let rest = and_parts (left_small c.list has.last.current)
            (are_small (start_operations l (division.remainder has.last))) first.1 in
            let those : start_operations l (division.remainder has.last) ≡ os =
            sym (c.operations ∙ sym (ap (start_operations l) has.is)) in
            subst (λ qs. are_small qs ≡ true) those rest.1

        composing_small : IsComposing l P es x os → are_small os ≡ true
        composing_small (inl c) = composed_small c
        composing_small (inr c) = starting_small c

      task_fits : (es : List Entry) (x : Candidate) → IsPastTask l P es x → ⊥
      task_fits es x h = past_not h.state x (closing_small es h.state h.follows.run) h.past

  module _ (p : Terms Fraction) (n : ℕ) (all : step_small (p ∷ []) n (next l (p ∷ []) fresh) ≡ true)
    where
      pub small_closing_unlimited : HasLimit l p → ⊥
      small_closing_unlimited h =
          let c = h.is.cause in
          small_unlimited (length l.names) c.operations
          (composing_small (p ∷ []) n all h.entries h.is.candidate c.operations c.composing) 0
          c.limit

      pub small_closing_fits : ((es : List Entry) (w : List ℕ) → HasCountered l p es w
          → IsWideWord l p w → ⊥) → HasWideWord l p → ⊥
      small_closing_fits run h = elim h.is [
        | inl s ↦ elim s.cause [
          | inl w ↦
              small_narrow (length l.names) w.operations
              (composing_small (p ∷ []) n all h.journal.entries s.candidate w.operations
              w.composing)
              0 w.wide
          | inr q ↦ task_fits (p ∷ []) n all h.journal.entries s.candidate q
        ]
        | inr c ↦ run h.journal.entries h.word c.0 c.1
      ]
