-- The loop of sequences that are laid out: its parts by the lists that were read.
--   total_more, starts_more, iterations_more     one sequence more
--   names_laid, sequence_names_laid, given_laid, size_laid, iteration_laid, shown_laid, count_laid     the parts
--   formed_laid, limits_laid     the sequences are well formed, and their loop is within the limits
use Rattle.std.proofs.Common.{◌≡◌, ℕ, zero, suc, pred, ◌+◌, ◌<◌, ◌≤◌, List, [], ◌∷◌, ◌++◌, length, take, drop, arith, refl, sym, ap, ap₂, subst, ◌∙◌, All}
use Rattle.std.proofs.lemmas.List.{append_assoc, length-take-le, length-drop, take-append-drop}
use Rattle.std.proofs.lemmas.List.Elements.{All-nil, All-cons, All-append}
use Rattle.algebra.specs.Each.{Each}
use Rattle.algebra.proofs.Each.{each-left, each-right, each_weaker}
use Rattle.loops.specs.Limits.{most_names, most_bytes, most_branches, most_statements, operators, highest_exponent, IsSmall, IsWithinLimits}
use Rattle.loops.specs.Program.{Expr, variable, Equation, Statement}
use Rattle.loops.specs.WellFormed.{Uses}
use Rattle.loops.specs.Sequences.{Sequence, order, given_values, size, sequence_names, AreFormed}
use Rattle.loops.specs.Turning.{names, names_of, all_given, equations, first_places, variables_from, iteration, step, program_of}
use Rattle.loops.proofs.RecurrenceStarts.{length-names}
use Rattle.loop_text.specs.LoopLayout.{total, starts, iterations, IsGiven, UsesBelow, AreLaid}
use Rattle.loop_text.specs.Names.{sequence_variables, all_variables}
use Rattle.loop_text.specs.SeqReader.{sequence_of, sequences_from}

-- ---- one sequence more
pub total_more : (rs : List ℕ) (r : ℕ) → total (rs ++ r ∷ []) ≡ total rs + r
unfolding total
total_more [] r = omega arith
total_more (q ∷ rs) r = let h = total_more rs r in omega (arith, h)

pub starts_more : (i : ℕ) (rs : List ℕ) (r : ℕ)
    → starts i (rs ++ r ∷ []) ≡ starts i rs ++ (i + total rs) ∷ []
unfolding starts total
starts_more i [] r = ap (λ k. k ∷ []) (omega arith)
starts_more i (q ∷ rs) r = ap (λ l. i ∷ l)
    (starts_more (i + q) rs r ∙ ap (λ k. starts (i + q) rs ++ k ∷ []) (omega arith))

pub iterations_more : (i : ℕ) (rs : List ℕ) (es : List (Expr ℕ)) (r : ℕ) (e : Expr ℕ)
    → length rs ≡ length es → iterations i (rs ++ r ∷ []) (es ++ e ∷ [])
    ≡ iterations i rs es ++ (variables_from (suc (i + total rs)) (pred r) ++ e ∷ [])
unfolding iterations total
iterations_more i [] [] r e l = ap (λ k. variables_from (suc k) (pred r) ++ e ∷ []) (omega arith)
iterations_more i [] (d ∷ es) r e l = absurd (omega (arith, l))
iterations_more i (q ∷ rs) [] r e l = absurd (omega (arith, l))
iterations_more i (q ∷ rs) (d ∷ es) r e l =
    let more = variables_from (suc (i + (q + total rs))) (pred r) ++ e ∷ [] in
    ap (λ l. variables_from (suc i) (pred q) ++ d ∷ l)
    (iterations_more (i + q) rs es r e (omega (arith, l))
    ∙ ap (λ k. iterations (i + q) rs es ++ (variables_from (suc k) (pred r) ++ e ∷ []))
    (omega arith))
    ∙ sym (append_assoc (variables_from (suc i) (pred q)) (d ∷ iterations (i + q) rs es) more)

-- ---- one sequence
module _ (w : List ℕ) (e : Expr ℕ) where
  names_one : (us : List (Expr ℕ)) → 0 < length us
      → names_of (sequence_of w us e) ≡ sequence_variables w (length us)
  unfolding sequence_variables
  names_one [] l = absurd (omega (arith, l))
  names_one (u ∷ us) l = refl

  given_one : (us : List (Expr ℕ)) → 0 < length us → given_values (sequence_of w us e) ≡ us
  given_one [] l = absurd (omega (arith, l))
  given_one (u ∷ us) l = refl

  order_one : (us : List (Expr ℕ)) → 0 < length us → order (sequence_of w us e) ≡ length us
  order_one [] l = absurd (omega (arith, l))
  order_one (u ∷ us) l = refl

  later_one : (us : List (Expr ℕ)) → 0 < length us
      → length (sequence_of w us e).later ≡ pred (length us)
  later_one [] l = absurd (omega (arith, l))
  later_one (u ∷ us) l = refl

  name_one : (us : List (Expr ℕ)) → (sequence_of w us e).name ≡ w
  name_one [] = refl
  name_one (u ∷ us) = refl

  next_one : (us : List (Expr ℕ)) → (sequence_of w us e).next ≡ e
  next_one [] = refl
  next_one (u ∷ us) = refl

  taken : (r : ℕ) (rs : List ℕ) (vs : List (Expr ℕ)) → r + total rs ≡ length vs
      → length (take r vs) ≡ r
  taken r rs vs h = length-take-le r vs (omega (arith, h))

  behind : (r : ℕ) (rs : List ℕ) (vs : List (Expr ℕ)) → r + total rs ≡ length vs
      → total rs ≡ length (drop r vs)
  behind r rs vs h = omega (arith, h, length-drop r vs)

  some_taken : (r : ℕ) (rs : List ℕ) (vs : List (Expr ℕ)) → r + total rs ≡ length vs → 0 < r
      → 0 < length (take r vs)
  some_taken r rs vs h l = subst (λ k. 0 < k) (sym (taken r rs vs h)) l

-- ---- all of them, with as many orders and recurrences as names
names_laid : (ws : List (List ℕ)) (rs : List ℕ) (vs es : List (Expr ℕ))
    → length rs ≡ length ws → length es ≡ length ws → Each (λ r. 0 < r) rs
    → total rs ≡ length vs → names (sequences_from ws rs vs es) ≡ all_variables ws rs
unfolding sequences_from names all_variables total Each
names_laid [] rs vs es a b c t = refl
names_laid (w ∷ ws) [] vs es a b c t = absurd (omega (arith, a))
names_laid (w ∷ ws) (r ∷ rs) vs [] a b c t = absurd (omega (arith, b))
names_laid (w ∷ ws) (r ∷ rs) vs (e ∷ es) a b c t =
    ap₂ (λ x y. x ++ y)
    (names_one w e (take r vs) (some_taken w e r rs vs t c.0)
    ∙ ap (sequence_variables w) (taken w e r rs vs t))
    (names_laid ws rs (drop r vs) es (omega (arith, a)) (omega (arith, b)) c.1
    (behind w e r rs vs t))

given_laid : (ws : List (List ℕ)) (rs : List ℕ) (vs es : List (Expr ℕ))
    → length rs ≡ length ws → length es ≡ length ws → Each (λ r. 0 < r) rs
    → total rs ≡ length vs → all_given (sequences_from ws rs vs es) ≡ vs
unfolding sequences_from all_given total Each
given_laid [] [] [] es a b c t = refl
given_laid [] [] (v ∷ vs) es a b c t = absurd (omega (arith, t))
given_laid [] (r ∷ rs) vs es a b c t = absurd (omega (arith, a))
given_laid (w ∷ ws) [] vs es a b c t = absurd (omega (arith, a))
given_laid (w ∷ ws) (r ∷ rs) vs [] a b c t = absurd (omega (arith, b))
given_laid (w ∷ ws) (r ∷ rs) vs (e ∷ es) a b c t =
    ap₂ (λ x y. x ++ y) (given_one w e (take r vs) (some_taken w e r rs vs t c.0))
    (given_laid ws rs (drop r vs) es (omega (arith, a)) (omega (arith, b)) c.1
    (behind w e r rs vs t))
    ∙ take-append-drop r vs

size_laid : (ws : List (List ℕ)) (rs : List ℕ) (vs es : List (Expr ℕ))
    → length rs ≡ length ws → length es ≡ length ws → Each (λ r. 0 < r) rs
    → total rs ≡ length vs → size (sequences_from ws rs vs es) ≡ length vs
unfolding sequences_from size total Each
size_laid [] [] vs es a b c t = t
size_laid [] (r ∷ rs) vs es a b c t = absurd (omega (arith, a))
size_laid (w ∷ ws) [] vs es a b c t = absurd (omega (arith, a))
size_laid (w ∷ ws) (r ∷ rs) vs [] a b c t = absurd (omega (arith, b))
size_laid (w ∷ ws) (r ∷ rs) vs (e ∷ es) a b c t =
    let h = size_laid ws rs (drop r vs) es (omega (arith, a)) (omega (arith, b)) c.1
    (behind w e r rs vs t) in
    let k = order_one w e (take r vs) (some_taken w e r rs vs t c.0) ∙ taken w e r rs vs t in
    let l = length-drop r vs in
    omega (arith, h, k, l, t)

iteration_laid : (i : ℕ) (ws : List (List ℕ)) (rs : List ℕ) (vs es : List (Expr ℕ))
    → length rs ≡ length ws → length es ≡ length ws → Each (λ r. 0 < r) rs
    → total rs ≡ length vs → iteration i (sequences_from ws rs vs es) ≡ iterations i rs es
unfolding sequences_from iteration iterations total Each
iteration_laid i [] [] vs es a b c t = refl
iteration_laid i [] (r ∷ rs) vs es a b c t = absurd (omega (arith, a))
iteration_laid i (w ∷ ws) [] vs es a b c t = absurd (omega (arith, a))
iteration_laid i (w ∷ ws) (r ∷ rs) vs [] a b c t = absurd (omega (arith, b))
iteration_laid i (w ∷ ws) (r ∷ rs) vs (e ∷ es) a b c t =
    let some = some_taken w e r rs vs t c.0 in
    let long = taken w e r rs vs t in
    let q = sequence_of w (take r vs) e in
    let rest = sequences_from ws rs (drop r vs) es in
    ap (λ k. variables_from (suc i) k ++ q.next ∷ iteration (i + order q) rest)
    (later_one w e (take r vs) some ∙ ap pred long)
    ∙ ap (λ d. variables_from (suc i) (pred r) ++ d ∷ iteration (i + order q) rest)
    (next_one w e (take r vs))
    ∙ ap (λ k. variables_from (suc i) (pred r) ++ e ∷ iteration (i + k) rest)
    (order_one w e (take r vs) some ∙ long)
    ∙ ap (λ l. variables_from (suc i) (pred r) ++ e ∷ l)
    (iteration_laid (i + r) ws rs (drop r vs) es (omega (arith, a)) (omega (arith, b)) c.1
    (behind w e r rs vs t))

shown_laid : (i : ℕ) (ws : List (List ℕ)) (rs : List ℕ) (vs es : List (Expr ℕ))
    → length rs ≡ length ws → length es ≡ length ws → Each (λ r. 0 < r) rs
    → total rs ≡ length vs → first_places i (sequences_from ws rs vs es) ≡ starts i rs
unfolding sequences_from first_places starts total Each
shown_laid i [] [] vs es a b c t = refl
shown_laid i [] (r ∷ rs) vs es a b c t = absurd (omega (arith, a))
shown_laid i (w ∷ ws) [] vs es a b c t = absurd (omega (arith, a))
shown_laid i (w ∷ ws) (r ∷ rs) vs [] a b c t = absurd (omega (arith, b))
shown_laid i (w ∷ ws) (r ∷ rs) vs (e ∷ es) a b c t =
    ap (λ k. i ∷ first_places (i + k) (sequences_from ws rs (drop r vs) es))
    (order_one w e (take r vs) (some_taken w e r rs vs t c.0) ∙ taken w e r rs vs t)
    ∙ ap (λ l. i ∷ l) (shown_laid (i + r) ws rs (drop r vs) es (omega (arith, a))
    (omega (arith, b)) c.1 (behind w e r rs vs t))

sequence_names_laid : (ws : List (List ℕ)) (rs : List ℕ) (vs es : List (Expr ℕ))
    → length rs ≡ length ws → length es ≡ length ws
    → sequence_names (sequences_from ws rs vs es) ≡ ws
unfolding sequences_from
sequence_names_laid [] rs vs es a b = refl
sequence_names_laid (w ∷ ws) [] vs es a b = absurd (omega (arith, a))
sequence_names_laid (w ∷ ws) (r ∷ rs) vs [] a b = absurd (omega (arith, b))
sequence_names_laid (w ∷ ws) (r ∷ rs) vs (e ∷ es) a b =
    ap₂ ◌∷◌ (name_one w e (take r vs))
    (sequence_names_laid ws rs (drop r vs) es (omega (arith, a)) (omega (arith, b)))

count_laid : (ws : List (List ℕ)) (rs : List ℕ) (vs es : List (Expr ℕ))
    → length rs ≡ length ws → length es ≡ length ws
    → length (sequences_from ws rs vs es) ≡ length ws
unfolding sequences_from
count_laid [] rs vs es a b = refl
count_laid (w ∷ ws) [] vs es a b = absurd (omega (arith, a))
count_laid (w ∷ ws) (r ∷ rs) vs [] a b = absurd (omega (arith, b))
count_laid (w ∷ ws) (r ∷ rs) vs (e ∷ es) a b =
    ap suc (count_laid ws rs (drop r vs) es (omega (arith, a)) (omega (arith, b)))

abbrev Closed : Expr ℕ → Type 0
Closed e = Uses (λ i. ⊥) e

closed_each : (qs : List (Sequence (Expr ℕ))) → Each (λ e. Uses (λ i. ⊥) e) (all_given qs)
    → Each (λ (q : Sequence (Expr ℕ)). Each (Uses (λ i. ⊥)) (given_values q)) qs
unfolding all_given Each
closed_each [] h = tt
closed_each (q ∷ qs) h = (
  each-left Closed (given_values q) (all_given qs) h,
  closed_each qs (each-right Closed (given_values q) (all_given qs) h),
)

nexts_laid : (m : ℕ) (ws : List (List ℕ)) (rs : List ℕ) (vs es : List (Expr ℕ))
    → Each (UsesBelow m) es
    → Each (λ (q : Sequence (Expr ℕ)). Uses (λ i. i < m) q.next) (sequences_from ws rs vs es)
unfolding sequences_from Each
nexts_laid m [] rs vs es h = tt
nexts_laid m (w ∷ ws) [] vs es h = tt
nexts_laid m (w ∷ ws) (r ∷ rs) vs [] h = tt
nexts_laid m (w ∷ ws) (r ∷ rs) vs (e ∷ es) h = (
  subst (Uses (λ i. i < m)) (sym (next_one w e (take r vs))) h.0.uses,
  nexts_laid m ws rs (drop r vs) es h.1,
)

module _ (ws : List (List ℕ)) (rs : List ℕ) (vs es : List (Expr ℕ))
    (laid : AreLaid ws rs vs es) where
  abbrev qs : List (Sequence (Expr ℕ))
  qs = sequences_from ws rs vs es

  pub names_are : names (sequences_from ws rs vs es) ≡ all_variables ws rs
  names_are = names_laid ws rs vs es laid.orders laid.nexts laid.values.some laid.values.count

  pub sequence_names_are : sequence_names (sequences_from ws rs vs es) ≡ ws
  sequence_names_are = sequence_names_laid ws rs vs es laid.orders laid.nexts

  pub given_are : all_given (sequences_from ws rs vs es) ≡ vs
  given_are = given_laid ws rs vs es laid.orders laid.nexts laid.values.some laid.values.count

  pub size_is : size (sequences_from ws rs vs es) ≡ length vs
  size_is = size_laid ws rs vs es laid.orders laid.nexts laid.values.some laid.values.count

  pub iteration_is : iteration 0 (sequences_from ws rs vs es) ≡ iterations 0 rs es
  iteration_is = iteration_laid 0 ws rs vs es laid.orders laid.nexts laid.values.some
      laid.values.count

  pub shown_are : first_places 0 (sequences_from ws rs vs es) ≡ starts 0 rs
  shown_are = shown_laid 0 ws rs vs es laid.orders laid.nexts laid.values.some laid.values.count

  pub formed_laid : AreFormed (sequences_from ws rs vs es)
  formed_laid = record {
    some = subst (λ n. 0 < n) (sym (count_laid ws rs vs es laid.orders laid.nexts)) laid.some;
    values = closed_each qs (subst (Each Closed) (sym given_are)
        (each_weaker IsGiven Closed (λ e h. h.uses) vs laid.values.given));
    nexts = nexts_laid (size qs) ws rs vs es
        (subst (λ m. Each (UsesBelow m) es) (sym size_is) laid.over);
  }

-- ---- within the limits
small_equations : (i : ℕ) (vs : List (Expr ℕ)) → Each IsGiven vs
    → All (λ (e : Equation (Expr ℕ)). IsSmall e.value) (equations i vs)
unfolding equations Each
small_equations i [] h = All-nil _
small_equations i (v ∷ vs) h =
    All-cons (λ (e : Equation (Expr ℕ)). IsSmall e.value) (record { name = i; value = v })
    (equations (suc i) vs) h.0.small (small_equations (suc i) vs h.1)

small_variables : (i r : ℕ) → All (IsSmall {At = ℕ}) (variables_from i r)
unfolding variables_from operators highest_exponent
small_variables i zero = All-nil _
small_variables i (suc r) =
    All-cons IsSmall (variable i) (variables_from (suc i) r)
    (record { few_operators = omega arith; low_exponents = omega arith })
    (small_variables (suc i) r)

small_iterations : (m i : ℕ) (rs : List ℕ) (es : List (Expr ℕ)) → Each (UsesBelow m) es
    → All IsSmall (iterations i rs es)
unfolding iterations Each
small_iterations m i [] es h = All-nil _
small_iterations m i (r ∷ rs) [] h = All-nil _
small_iterations m i (r ∷ rs) (e ∷ es) h =
    All-append IsSmall (variables_from (suc i) (pred r)) (e ∷ iterations (i + r) rs es)
    (small_variables (suc i) (pred r))
    (All-cons IsSmall e (iterations (i + r) rs es) h.0.small (small_iterations m (i + r) rs es h.1))

module _ (ws : List (List ℕ)) (rs : List ℕ) (vs es : List (Expr ℕ))
    (laid : AreLaid ws rs vs es) where
  pub limits_laid : All (λ w. length w ≤ most_bytes) (all_variables ws rs)
      → IsWithinLimits (program_of (sequences_from ws rs vs es))
  unfolding most_branches most_statements
  limits_laid short =
      let qs = sequences_from ws rs vs es in
      let small : All IsSmall (iteration 0 qs) =
      subst (All IsSmall) (sym (iteration_is ws rs vs es laid))
      (small_iterations (length vs) 0 rs es laid.over) in
      record {
        few_names = subst (λ n. n ≤ most_names)
            (sym (length-names qs ∙ size_is ws rs vs es laid)) laid.values.few;
        short_names = subst (All (λ w. length w ≤ most_bytes))
            (sym (names_are ws rs vs es laid)) short;
        few_locals = omega arith;
        short_locals = All-nil _;
        few_branches = omega arith;
        few_statements = omega arith;
        init = subst (λ l. All (λ (e : Equation (Expr ℕ)). IsSmall e.value) (equations 0 l))
            (sym (given_are ws rs vs es laid)) (small_equations 0 vs laid.values.given);
        values = All-cons (All (λ (s : Statement (Expr ℕ)). All IsSmall s.values))
            (step qs ∷ []) []
            (All-cons (λ (s : Statement (Expr ℕ)). All IsSmall s.values) (step qs) [] small
            (All-nil _)) (All-nil _);
      }
