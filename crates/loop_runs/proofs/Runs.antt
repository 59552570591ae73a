-- Replays are runs.
--   replay_start, replay_ends, replay_states      what is replayed is a run, through its states
--   count_refused, start_refused, branch_refused  what is refused for its count, its start or a letter is none
--   run_replayed                                  a run is replayed, or a number doesn't fit
use Rattle.std.proofs.Common.{◌≡◌, ◌≢◌, ◌∙◌, sym, ap, ap₂, refl, ℕ, suc, Bool, true, false, List, [], ◌∷◌, length, get_or, map, set, take, replicate, ◌++◌, All, Option, Some, None, Result, Ok, Err, ◌⊎◌, inl, inr, ⊎_elim, eq-eqb}
use Rattle.std.specs.Prelude.{◌==◌, ok_or, option_and_then}
use Rattle.std.specs.Option.{option_map_or}
use Rattle.std.proofs.lemmas.Bool.{eqb-true}
use Rattle.std.proofs.lemmas.List.Elements.{All-nil, All-cons, All-head, All-tail}
use Rattle.algebra.specs.Fraction.{Fraction, ℚ}
use Rattle.loops.specs.Program.{Expr, Program, Equation, Statement}
use Rattle.loops.specs.Effect.{store, after_statement, after_branch}
use Rattle.loops.specs.Run.{value, effect, branch_at, run_end, states, IsStart}
use Rattle.std.specs.Prelude.{IfSome, IfOk}
use Rattle.std.specs.Result.{is_ok}
use Rattle.std.specs.Global.{Vec}
use Rattle.frac128.specs.declared.fraction.Frac.{Frac}
use Rattle.loop_model.specs.View.{program_of}
use Rattle.loop_model.specs.declared.loop_.Loop.{Loop}
use Rattle.loop_runs.specs.Seen.{numbers_of, states_or_fault}
use Rattle.loop_runs.specs.declared.error.RunError.{RunError}
use Rattle.loop_runs.specs.Checked.{all_fit, number_if, checked_value}
use Rattle.loop_runs.specs.Replay.{RunFault, count, start, no_branch, wide, same_number, and_then, start_fault, values, statement_end, branch_end, iteration_end, states_from, replay_of}
use Rattle.loop_runs.proofs.Iterations.{same_number_decides, start_wide, start_holds, start_fails, replayed_on, replayed_start, replayed_count}

-- ---- values
-- what a checked value is: none, or the value
value_or_none : {At : Type 0} (e : Expr At) (s : List Fraction) → (checked_value e s ≡ None)
    ⊎ (checked_value e s ≡ Some (value e s))
unfolding checked_value
value_or_none e s = go (all_fit e s)
  where
    go : (b : Bool) → (number_if b (value e s) ≡ None)
        ⊎ (number_if b (value e s) ≡ Some (value e s))
    go true = inr refl
    go false = inl refl

-- ---- the start
abbrev Holds : {At : Type 0} → List Fraction → Equation (Expr At) → Type 0
Holds s e = get_or s e.name ℚ.zero ≡ value e.value s

-- the first equation: it is refused as too wide, or it doesn't hold, or it holds
first_equation : {At : Type 0} (e : Equation (Expr At)) (es : List (Equation (Expr At)))
    (s : List Fraction)
    → (start_fault (e ∷ es) s ≡ Some (wide 0 e.name))
    ⊎ ((start_fault (e ∷ es) s ≡ Some (start e.name)) × (Holds s e → ⊥))
    ⊎ ((start_fault (e ∷ es) s ≡ start_fault es s) × Holds s e)
first_equation e es s = ⊎_elim (λ h. inl (start_wide e es s (sym h)))
    (λ h. inr (go (same_number v w) refl h)) (value_or_none e.value s)
  where
    v : Fraction
    v = value e.value s

    w : Fraction
    w = get_or s e.name ℚ.zero

    go : (b : Bool) → same_number v w ≡ b → checked_value e.value s ≡ Some v
        → ((start_fault (e ∷ es) s ≡ Some (start e.name)) × (Holds s e → ⊥))
        ⊎ ((start_fault (e ∷ es) s ≡ start_fault es s) × Holds s e)
    go true t h = let same : v ≡ w = (same_number_decides v w).0 t in
        inr (start_holds e es s v (sym h) same, sym same)
    go false t h =
        let other : v ≢ w = λ q. let k : same_number v w ≡ true = (same_number_decides v w).1 q in
        let no : true ≡ false = sym k ∙ t in cc in
        inl (start_fails e es s v (sym h) other, λ q. other (sym q))

-- all equations hold, or one is refused
start_cases : {At : Type 0} (es : List (Equation (Expr At))) (s : List Fraction)
    → ((start_fault es s ≡ None) × All (Holds s) es)
    ⊎ ((v : ℕ) × (start_fault es s ≡ Some (start v)) × (All (Holds s) es → ⊥))
    ⊎ ((v : ℕ) × (start_fault es s ≡ Some (wide 0 v)))
unfolding start_fault
start_cases [] s = inl (refl, All-nil (Holds s))
start_cases (e ∷ es) s = go (first_equation e es s) (start_cases es s)
  where
    go : (start_fault (e ∷ es) s ≡ Some (wide 0 e.name))
        ⊎ ((start_fault (e ∷ es) s ≡ Some (start e.name)) × (Holds s e → ⊥))
        ⊎ ((start_fault (e ∷ es) s ≡ start_fault es s) × Holds s e)
        → ((start_fault es s ≡ None) × All (Holds s) es)
        ⊎ ((v : ℕ) × (start_fault es s ≡ Some (start v)) × (All (Holds s) es → ⊥))
        ⊎ ((v : ℕ) × (start_fault es s ≡ Some (wide 0 v)))
        → ((start_fault (e ∷ es) s ≡ None) × All (Holds s) (e ∷ es))
        ⊎ ((v : ℕ) × (start_fault (e ∷ es) s ≡ Some (start v)) × (All (Holds s) (e ∷ es) → ⊥))
        ⊎ ((v : ℕ) × (start_fault (e ∷ es) s ≡ Some (wide 0 v)))
    go (inl w) rest = inr (inr (e.name, w))
    go (inr (inl (k, not))) rest = inr (inl (e.name, k, λ a. not (All-head (Holds s) e es a)))
    go (inr (inr (k, h))) (inl (n, a)) = inl (k ∙ n, All-cons (Holds s) e es h a)
    go (inr (inr (k, h))) (inr (inl (v, n, not))) =
        inr (inl (v, k ∙ n, λ a. not (All-tail (Holds s) e es a)))
    go (inr (inr (k, h))) (inr (inr (v, n))) = inr (inr (v, k ∙ n))

-- ---- statements
-- the values are those of the definition, or one doesn't fit
values_cases : {At : Type 0} (i : ℕ) (vs : List ℕ) (es : List (Expr At)) (s : List Fraction)
    → ((xs : List Fraction) × (values i vs es s ≡ Ok xs)
    × ((r : List Fraction) → store vs xs r ≡ store vs (map (λ e. value e s) es) r))
    ⊎ ((v : ℕ) × (values i vs es s ≡ Err (wide i v)))
unfolding values store
values_cases i [] es s = inl ([], refl, λ r. refl)
values_cases i (v ∷ vs) [] s = inl ([], refl, λ r. refl)
values_cases i (v ∷ vs) (e ∷ es) s = ⊎_elim (λ n. inr (v, ap (λ o. first o (values i vs es s)) n))
    (λ h. go h (values_cases i vs es s)) (value_or_none e s)
  where
    first : Option Fraction → Result (List Fraction) RunFault → Result (List Fraction) RunFault
    first o r = and_then (λ x. and_then (λ xs. Ok (x ∷ xs)) r) (ok_or o (wide i v))

    go : checked_value e s ≡ Some (value e s)
        → ((xs : List Fraction) × (values i vs es s ≡ Ok xs)
        × ((r : List Fraction) → store vs xs r ≡ store vs (map (λ e. value e s) es) r))
        ⊎ ((w : ℕ) × (values i vs es s ≡ Err (wide i w)))
        → ((xs : List Fraction) × (first (checked_value e s) (values i vs es s) ≡ Ok xs)
        × ((r : List Fraction)
        → store (v ∷ vs) xs r ≡ store (v ∷ vs) (map (λ e. value e s) (e ∷ es)) r))
        ⊎ ((w : ℕ) × (first (checked_value e s) (values i vs es s) ≡ Err (wide i w)))
    go h (inl (xs, k, same)) = inl (value e s ∷ xs, ap₂ first h k, λ r. same (set r v (value e s)))
    go h (inr (w, k)) = inr (w, ap₂ first h k)

statement_cases : {At : Type 0} (i : ℕ) (c : Statement (Expr At)) (s : List Fraction)
    → (statement_end i c s ≡ Ok (after_branch ℚ (λ c. c) (c ∷ []) s))
    ⊎ ((v : ℕ) × (statement_end i c s ≡ Err (wide i v)))
unfolding after_statement after_branch
statement_cases i c s =
    ⊎_elim (λ (xs, k, same). inl (ap (and_then (λ xs. Ok (store c.targets xs s))) k
    ∙ ap Ok (same s)))
    (λ (v, k). inr (v, ap (and_then (λ xs. Ok (store c.targets xs s))) k))
    (values_cases i c.targets c.values s)

branch_cases : {At : Type 0} (i : ℕ) (cs : List (Statement (Expr At))) (s : List Fraction)
    → (branch_end i cs s ≡ Ok (after_branch ℚ (λ c. c) cs s))
    ⊎ ((v : ℕ) × (branch_end i cs s ≡ Err (wide i v)))
unfolding branch_end after_branch
branch_cases i [] s = inl refl
branch_cases i (c ∷ cs) s =
    ⊎_elim (λ k. ⊎_elim (λ m. inl (ap (and_then (branch_end i cs)) k ∙ m)) (λ (v, m).
    inr (v, ap (and_then (branch_end i cs)) k ∙ m))
    (branch_cases i cs (after_branch ℚ (λ c. c) (c ∷ []) s)))
    (λ (v, k). inr (v, ap (and_then (branch_end i cs)) k)) (statement_cases i c s)

iteration_cases : {At : Type 0} (program : Program (Expr At)) (i : ℕ)
    (cs : List (Statement (Expr At)))
    (s : List Fraction)
    → (iteration_end (length program.names) (length program.locals) i cs s
    ≡ Ok (effect program cs s))
    ⊎ ((v : ℕ) × (iteration_end (length program.names) (length program.locals) i cs s
    ≡ Err (wide i v)))
unfolding iteration_end
iteration_cases program i cs s =
    let cut : Result (List Fraction) RunFault → Result (List Fraction) RunFault =
    and_then (λ t. Ok (take (length program.names) t)) in
    ⊎_elim (λ k. inl (ap cut k)) (λ (v, k). inr (v, ap cut k))
    (branch_cases i cs (s ++ replicate (length program.locals) ℚ.zero))

-- ---- words
module _ {At : Type 0} (program : Program (Expr At)) where
  -- the states are those of a run, or a letter has no branch, or a number doesn't fit
  abbrev Cases : ℕ → List ℕ → List Fraction → Result (List (List Fraction)) RunFault → Type 0
  Cases i word s r =
      ((end : List Fraction) × (run_end program word s ≡ Some end)
      × (r ≡ Ok (states program word s)))
      ⊎ ((run_end program word s ≡ None) × ((j : ℕ) × (r ≡ Err (no_branch j))))
      ⊎ ((j : ℕ) × (v : ℕ) × (r ≡ Err (wide j v)))

  states_cases : (i : ℕ) (word : List ℕ) (s : List Fraction)
      → Cases i word s (states_from program i word s)
  unfolding states_from run_end states
  states_cases i [] s = inl (s, refl, refl)
  states_cases i (b ∷ word) s = at (branch_at program b) (λ t. states_cases (suc i) word t)
    where
      from : Option (List (Statement (Expr At))) → Result (List (List Fraction)) RunFault
      from o = and_then (λ branch.
          and_then (λ t. and_then (λ ts. Ok (s ∷ ts)) (states_from program (suc i) word t))
          (iteration_end (length program.names) (length program.locals) (suc i) branch s))
          (ok_or o (no_branch i))

      end_of : Option (List (Statement (Expr At))) → Option (List Fraction)
      end_of o = option_and_then (λ branch. run_end program word (effect program branch s)) o

      all_of : Option (List (Statement (Expr At))) → List (List Fraction)
      all_of o = s ∷ option_map_or (λ branch. states program word (effect program branch s)) o []

      at : (o : Option (List (Statement (Expr At))))
          → ((t : List Fraction) → Cases (suc i) word t (states_from program (suc i) word t))
          → ((end : List Fraction) × (end_of o ≡ Some end) × (from o ≡ Ok (all_of o)))
          ⊎ ((end_of o ≡ None) × ((j : ℕ) × (from o ≡ Err (no_branch j))))
          ⊎ ((j : ℕ) × (v : ℕ) × (from o ≡ Err (wide j v)))
      at None rest = inr (inl (refl, (i, refl)))
      at (Some branch) rest = ⊎_elim (λ k. on k (rest (effect program branch s))) (λ (v, k).
          inr (inr (suc i, v, ap next k))) (iteration_cases program (suc i) branch s)
        where
          next : Result (List Fraction) RunFault → Result (List (List Fraction)) RunFault
          next r = and_then (λ t. and_then (λ ts. Ok (s ∷ ts)) (states_from program (suc i) word t))
              r

          on : iteration_end (length program.names) (length program.locals) (suc i) branch s
              ≡ Ok (effect program branch s) → Cases (suc i) word (effect program branch s)
              (states_from program (suc i) word (effect program branch s))
              → ((end : List Fraction) × (end_of (Some branch) ≡ Some end)
              × (from (Some branch) ≡ Ok (all_of (Some branch))))
              ⊎ ((end_of (Some branch) ≡ None)
              × ((j : ℕ) × (from (Some branch) ≡ Err (no_branch j))))
              ⊎ ((j : ℕ) × (v : ℕ) × (from (Some branch) ≡ Err (wide j v)))
          on k (inl (end, e, q)) = inl (end, e, ap next k ∙ ap (and_then (λ ts. Ok (s ∷ ts))) q)
          on k (inr (inl (e, (j, q)))) =
              inr (inl (e, (j, ap next k ∙ ap (and_then (λ ts. Ok (s ∷ ts))) q)))
          on k (inr (inr (j, v, q))) =
              inr (inr (j, v, ap next k ∙ ap (and_then (λ ts. Ok (s ∷ ts))) q))

  -- ---- a replay
  module _ (s : List Fraction) (word : List ℕ) where
    data Replay : Type 0 where
      miscounted : length s ≢ length program.names → replay_of program s word
          ≡ Err (count (length s) (length program.names)) → Replay
      no_start : (v : ℕ) → (All (Holds s) program.init → ⊥) → replay_of program s word
          ≡ Err (start v) → Replay
      no_run : (i : ℕ) → run_end program word s ≡ None → replay_of program s word
          ≡ Err (no_branch i) → Replay
      too_wide : (i v : ℕ) → replay_of program s word ≡ Err (wide i v) → Replay
      runs : (end : List Fraction) → length s ≡ length program.names → All (Holds s) program.init
          → run_end program word s ≡ Some end → replay_of program s word
          ≡ Ok (states program word s) → Replay

    replay_cases : Replay
    replay_cases = count_cases (length s == length program.names) refl
      where
        started : length s ≡ length program.names → All (Holds s) program.init
            → replay_of program s word ≡ states_from program 0 word s → Replay
        started l a k =
            ⊎_elim (λ (end, e, q). runs end l a e (k ∙ q))
            (⊎_elim (λ (e, rest). no_run rest.0 e (k ∙ rest.1)) (λ (j, v, q).
            too_wide j v (k ∙ q))) (states_cases 0 word s)

        counted : length s ≡ length program.names → Replay
        counted l =
            ⊎_elim (λ (n, a). started l a (replayed_on program s word l (sym n)))
            (⊎_elim (λ (v, n, not).
            no_start v not (sym (replayed_start program s word l (start v) (sym n))))
            (λ (v, n).
            too_wide 0 v (sym (replayed_start program s word l (wide 0 v) (sym n)))))
            (start_cases program.init s)

        count_cases : (b : Bool) → (length s == length program.names) ≡ b → Replay
        count_cases true e = counted (eqb-true _ _ e)
        count_cases false e =
            let other : length s ≢ length program.names =
            λ l. let k : (length s == length program.names) ≡ true = eq-eqb _ _ l in
            let no : true ≡ false = sym k ∙ e in cc in
            miscounted other (sym (replayed_count program s word other))

    module _ (ss : List (List Fraction)) (h : replay_of program s word ≡ Ok ss) where
      replay_run : (length s ≡ length program.names) × All (Holds s) program.init
          × ((end : List Fraction) × (run_end program word s ≡ Some end))
          × (ss ≡ states program word s)
      replay_run = elim replay_cases [
        | miscounted n k ↦ absurd (let no = sym k ∙ h in cc)
        | no_start v n k ↦ absurd (let no = sym k ∙ h in cc)
        | no_run i e k ↦ absurd (let no = sym k ∙ h in cc)
        | too_wide i v k ↦ absurd (let no = sym k ∙ h in cc)
        | runs end l a e k ↦ (l, a, (end, e), cc)
      ]

      pub replay_start : IsStart program s
      replay_start = record { state = replay_run.0; holds = replay_run.1 }

      pub replay_ends : (end : List Fraction) × (run_end program word s ≡ Some end)
      replay_ends = replay_run.2

      pub replay_states : ss ≡ states program word s
      replay_states = replay_run.3

    pub run_replayed : (end : List Fraction) → IsStart program s → run_end program word s ≡ Some end
        → (replay_of program s word ≡ Ok (states program word s))
        ⊎ ((i : ℕ) × (v : ℕ) × (replay_of program s word ≡ Err (wide i v)))
    run_replayed end is e = elim replay_cases [
      | miscounted n k ↦ absurd (n is.state)
      | no_start v n k ↦ absurd (n is.holds)
      | no_run i f k ↦ absurd (let no = sym f ∙ e in cc)
      | too_wide i v k ↦ inr (i, v, k)
      | runs end l a f k ↦ inl k
    ]

    pub count_refused : (g w : ℕ) → replay_of program s word ≡ Err (count g w) → (g ≡ length s)
        × (w ≡ length program.names) × (g ≢ w)
    count_refused g w h = elim replay_cases [
      | miscounted n k ↦ let same = sym h ∙ k in let gs : g ≡ length s = cc in
          let ws : w ≡ length program.names = cc in (gs, ws, λ e. n (sym gs ∙ e ∙ ws))
      | no_start v n k ↦ absurd (let no = sym k ∙ h in cc)
      | no_run i e k ↦ absurd (let no = sym k ∙ h in cc)
      | too_wide i v k ↦ absurd (let no = sym k ∙ h in cc)
      | runs end l a e k ↦ absurd (let no = sym k ∙ h in cc)
    ]

    pub start_refused : (v : ℕ) → replay_of program s word ≡ Err (start v) → IsStart program s → ⊥
    start_refused v h is = elim replay_cases [
      | miscounted n k ↦ n is.state
      | no_start w n k ↦ n is.holds
      | no_run i e k ↦ let no = sym k ∙ h in cc
      | too_wide i w k ↦ let no = sym k ∙ h in cc
      | runs end l a e k ↦ let no = sym k ∙ h in cc
    ]

    pub branch_refused : (i : ℕ) → replay_of program s word ≡ Err (no_branch i)
        → run_end program word s ≡ None
    branch_refused i h = elim replay_cases [
      | miscounted n k ↦ absurd (let no = sym k ∙ h in cc)
      | no_start v n k ↦ absurd (let no = sym k ∙ h in cc)
      | no_run j e k ↦ e
      | too_wide j v k ↦ absurd (let no = sym k ∙ h in cc)
      | runs end l a e k ↦ absurd (let no = sym k ∙ h in cc)
    ]

-- ---- the answer of the code
pub answer_starts : (lp : Loop) (xs : List Frac) (word : List ℕ)
    (r : Result (Vec (Vec Frac)) RunError)
    → IfSome (states_or_fault r) (λ q. q ≡ replay_of (program_of lp) (numbers_of xs) word)
    → is_ok r ≡ true
    → IsStart (program_of lp) (numbers_of xs)
answer_starts lp xs word (Ok found) h ok = replay_start (program_of lp) (numbers_of xs) word _
    (sym h)
answer_starts lp xs word (Err e) h ok = absurd (cc)

pub answer_states : (lp : Loop) (xs : List Frac) (word : List ℕ)
    (r : Result (Vec (Vec Frac)) RunError)
    → IfSome (states_or_fault r) (λ q. q ≡ replay_of (program_of lp) (numbers_of xs) word)
    → IfOk r (λ found. map (λ s. numbers_of s.items) found.items ≡ states (program_of lp) word
    (numbers_of xs))
answer_states lp xs word (Ok found) h = replay_states (program_of lp) (numbers_of xs) word _ (sym h)
answer_states lp xs word (Err e) h = tt
