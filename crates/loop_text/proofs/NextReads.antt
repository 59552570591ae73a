-- Recurrences, one by one.
--   fillers n, length-fillers     a list of this length
--   next_sum                      a right side that was read
--   begins_iteration, more_iteration, ends_iteration     what the variables of one sequence become
--   IsGoing f c i ts k     the first i recurrences were read, from the cursor c on up to k, and the variables of these sequences become ts
--   begins_going, at_next, at_last, more_going, ends_going     none yet; one is next, or none; one more; all
use Rattle.std.proofs.Common.{◌≡◌, ◌<◌, ◌≤◌, ◌+◌, ◌-◌, ℕ, zero, suc, pred, List, [], ◌∷◌, ◌++◌, length, take, map, get_or, nat_lt, true, false, arith, refl, sym, ap, ap₂, subst, ◌∙◌, Ok, Err, Result, Vec, Global}
use Rattle.std.proofs.lemmas.Bool.Decides.{nat_tests}
use Rattle.std.proofs.lemmas.List.{append_assoc, append-nil, length_push, map_push, take_more, take_all, length-take-le}
use Rattle.algebra.specs.Each.{Each}
use Rattle.algebra.proofs.Each.{each-append}
use Rattle.loops.specs.Limits.{most_names}
use Rattle.loops.specs.Program.{Expr, variable}
use Rattle.loop_model.specs.ExpressionView.{expr_of}
use Rattle.loop_model.specs.declared.expr.Expr as code
use Rattle.loop_model.specs.declared.expr.Expr.TheVariants as code_expr
use Rattle.grammars.specs.Grammar.{rule, sequence}
use Rattle.grammars.specs.Embedded.{with_part}
use Rattle.poly_text.specs.CursorView.{rest, behind}
use Rattle.poly_text.specs.Reads.{state_in, behind_expr}
use Rattle.poly_text.specs.Sums.{a_sum}
use Rattle.poly_text.specs.declared.cursor.Cursor.{Cursor}
use Rattle.poly_text.specs.declared.error.TextError.{TextError}
use Rattle.poly_text.proofs.CursorReads.{here}
use Rattle.poly_text.proofs.Paths.{GivesError, reading_rule, reading_change, stopped, then_on}
use Rattle.loops.specs.Turning.{variables_from}
use Rattle.loop_text.specs.Seqs.{SeqState, more_nexts, next, next_if, of_nexts, in_nexts, sums_in_nexts, keep, seq_language}
use Rattle.loop_text.specs.LoopLayout.{total, iterations, UsesBelow}
use Rattle.loop_text.proofs.LoopLayout.{iterations_more, total_more}
use Rattle.loop_text.proofs.SeqChecked.{seqs_checked, nexts_embedded}
use Rattle.loop_text.specs.declared.sequence_firsts.Firsts.{Firsts}
use Rattle.loop_text.specs.Firsts.{values_in, behind_all, AreMade}
use Rattle.loop_text.specs.SequenceSeen.{ReadsIteration, HasReadIteration}
use Rattle.loop_text.specs.SequenceStates.{reading, IsFault}
use Rattle.loop_text.proofs.SequenceSumReads.{sum_read}
use Rattle.loop_text.proofs.SequenceValueReads.{in_sum, ReadsSum}

pub fillers : ℕ → List (Expr ℕ)
fillers zero = []
fillers (suc n) = variable 0 ∷ fillers n

pub length-fillers : (n : ℕ) → length (fillers n) ≡ n
unfolding fillers
length-fillers zero = refl
length-fillers (suc n) = ap suc (length-fillers n)

module _ (f : Firsts) (ns : List (Expr ℕ)) (e : Expr ℕ) (count : ℕ) (c d : Cursor) where
  abbrev pub behind_sum : SeqState
  behind_sum = with_part sums_in_nexts (state_in (behind_expr (in_sum f.variables) e) count)
      (behind_all f ns)

  pub next_sum : ReadsSum f.variables e count c d
      → Ok (behind_sum, rest d) ≡ reading (rule (of_nexts a_sum)) (behind_all f ns) (rest c)
  next_sum h = sum_read in_nexts (λ x. refl) sums_in_nexts nexts_embedded (behind_all f ns) (rest c)
      (state_in (behind_expr (in_sum f.variables) e) count) (rest d) h

-- ---- what the variables of one sequence become
module _ (first : ℕ) (ts : List (Expr ℕ)) where
  pub begins_iteration : ts ≡ ts ++ variables_from (suc first) (first + 1 - suc first)
  unfolding variables_from
  begins_iteration =
      let none : 0 ≡ first + 1 - suc first = omega arith in
      sym (append-nil ts) ∙ ap (λ k. ts ++ variables_from (suc first) k) none

  variables_suc : (i k : ℕ) → variables_from {At = ℕ} i (suc k)
      ≡ variables_from i k ++ variable (i + k) ∷ []
  unfolding variables_from
  variables_suc i zero = ap (λ k. variable k ∷ []) (omega arith)
  variables_suc i (suc k) = ap (λ l. variable i ∷ l)
      (variables_suc (suc i) k
      ∙ ap (λ n. variables_from (suc i) k ++ variable n ∷ []) (omega arith))

  pub more_iteration : (var : ℕ) → suc first ≤ var
      → (ts ++ variables_from (suc first) (var - suc first)) ++ variable var ∷ []
      ≡ ts ++ variables_from (suc first) (var + 1 - suc first)
  more_iteration var low =
      let k : suc (var - suc first) ≡ var + 1 - suc first = omega (arith, low) in
      let v : suc first + (var - suc first) ≡ var = omega (arith, low) in
      append_assoc ts (variables_from (suc first) (var - suc first)) (variable var ∷ [])
      ∙ ap (λ l. ts ++ l)
      (ap (λ n. variables_from (suc first) (var - suc first) ++ variable n ∷ []) (sym v)
      ∙ sym (variables_suc (suc first) (var - suc first)) ∙ ap (variables_from (suc first)) k)

  pub ends_iteration : (var order : ℕ) → 0 < order → suc first ≤ var → var ≤ first + order
      → first + order ≤ var
      → ts ++ variables_from (suc first) (var - suc first)
      ≡ ts ++ variables_from (suc first) (pred order)
  ends_iteration var order some low high end =
      let k : var - suc first ≡ pred order = omega (arith, some, low, high, end) in
      ap (λ n. ts ++ variables_from (suc first) n) k

pub seen_variable : (i : ℕ) → expr_of (code_expr.Variable i) ≡ variable i
unfolding expr_of
seen_variable i = refl

pub record IsGoing (f : Firsts) (c : Cursor) (i : ℕ) (ts : List code.Expr)
    (k : Cursor) : Type 0 where
  pub nexts : List (Expr ℕ)
  pub count : length nexts ≡ i
  pub over : Each (UsesBelow (length (values_in f))) nexts
  pub iteration : map expr_of ts ≡ iterations 0 (take i f.orders.items) nexts
  pub same : reading (rule more_nexts) (behind_all f []) (rest c)
      ≡ reading (rule more_nexts) (behind_all f nexts) (rest k)

none_before : (n : ℕ) → n ≡ 0 + n
none_before n = omega arith

module _ (f : Firsts) (c : Cursor) where
  pub begins_going : (ts : List code.Expr) → ts ≡ [] → IsGoing f c 0 ts c
  unfolding Each iterations
  begins_going ts none = record {
    nexts = [];
    count = refl;
    over = tt;
    iteration = ap (map expr_of) none;
    same = refl;
  }

  module _ (m : AreMade f) (i : ℕ) (ts : List code.Expr) (k : Cursor) (g : IsGoing f c i ts k) where
    at_rule : reading (rule more_nexts) (behind_all f g.nexts) (rest k)
        ≡ reading (next_if (nat_lt (length g.nexts) (length f.sequences)))
        (behind_all f g.nexts) (rest k)
    at_rule = reading_rule seq_language seqs_checked more_nexts (behind_all f g.nexts) (rest k)

    at_next : i < length f.orders.items
        → reading (rule more_nexts) (behind_all f []) (rest c)
        ≡ reading (sequence next (rule more_nexts)) (behind_all f g.nexts) (rest k)
    at_next l =
        let a = g.count in let b = m.count in
        let test : nat_lt (length g.nexts) (length f.sequences) ≡ true = grind (arith, nat_tests) in
        g.same ∙ at_rule ∙ ap (λ b. reading (next_if b) (behind_all f g.nexts) (rest k)) test

    pub next_stops : i < length f.orders.items → (e : TextError)
        (result : Result (Vec code.Expr Global × Cursor) TextError)
        → GivesError result e → IsFault e (reading next (behind_all f g.nexts) (rest k))
        → ReadsIteration f c result
    next_stops l e result gives h =
        subst (ReadsIteration f c) (sym (gives.1 ∙ ap Err gives.2))
        (subst (IsFault e) (sym (at_next l))
        (stopped seq_language next (rule more_nexts) (behind_all f g.nexts) (rest k) e h))

    pub more_going : i < length f.orders.items → (e : code.Expr) (us : List code.Expr) (d : Cursor)
        → Ok (behind_all f (g.nexts ++ expr_of e ∷ []), rest d)
        ≡ reading next (behind_all f g.nexts) (rest k)
        → UsesBelow (length f.variables) (expr_of e)
        → map expr_of us ≡ map expr_of ts ++ (variables_from (suc (total (take i f.orders.items)))
        (pred (get_or f.orders.items i 0)) ++ expr_of e ∷ [])
        → IsGoing f c (i + 1) us d
    unfolding Each
    more_going l e us d read over iteration = record {
      nexts = g.nexts ++ expr_of e ∷ [];
      count = length_push g.nexts (expr_of e) ∙ ap (λ n. n + 1) g.count;
      over = each-append (UsesBelow (length (values_in f))) g.nexts (expr_of e ∷ []) g.over
          (subst (λ n. UsesBelow n (expr_of e)) m.long over, tt);
      iteration = iteration
          ∙ ap (λ l. l ++ (variables_from (suc (total (take i f.orders.items)))
          (pred (get_or f.orders.items i 0)) ++ expr_of e ∷ [])) g.iteration
          ∙ ap (λ k. iterations 0 (take i f.orders.items) g.nexts ++ (variables_from (suc k)
          (pred (get_or f.orders.items i 0)) ++ expr_of e ∷ []))
          (none_before (total (take i f.orders.items)))
          ∙ sym (iterations_more 0 (take i f.orders.items) g.nexts (get_or f.orders.items i 0)
          (expr_of e)
          (length-take-le i f.orders.items (let x = l in omega (arith, x)) ∙ sym g.count))
          ∙ ap (λ l. iterations 0 l (g.nexts ++ expr_of e ∷ []))
          (sym (take_more f.orders.items i 0 l));
      same = at_next l
          ∙ then_on seq_language next (rule more_nexts) (behind_all f g.nexts) (rest k)
          (behind_all f (g.nexts ++ expr_of e ∷ [])) (rest d) read;
    }

    pub ends_going : length f.orders.items ≤ i → i ≤ length f.orders.items
        → (r : Vec code.Expr Global) → r.items ≡ ts → HasReadIteration f c (r, k)
    ends_going l h r is =
        let a = g.count in let b = m.count in
        let test : nat_lt (length g.nexts) (length f.sequences) ≡ false
        = grind (arith, nat_tests) in
        record {
          nexts = g.nexts;
          iteration = record {
            count = omega (arith, a, b, l, h);
            over = g.over;
            is = ap (map expr_of) is ∙ g.iteration
                ∙ ap (λ l. iterations 0 l g.nexts) (take_all i f.orders.items l);
          };
          goes = sym (g.same ∙ at_rule
              ∙ ap (λ b. reading (next_if b) (behind_all f g.nexts) (rest k)) test
              ∙ reading_change seq_language (λ c. c) keep (behind_all f g.nexts) (here k)
              (behind k));
        }

-- ---- numbers
pub total_take : (rs : List ℕ) (i : ℕ) → i < length rs
    → total (take i rs) + get_or rs i 0 ≤ total rs
unfolding total
total_take [] i l = absurd (omega (arith, l))
total_take (r ∷ rs) zero l = omega arith
total_take (r ∷ rs) (suc i) l = let h = total_take rs i (omega (arith, l)) in omega (arith, h)

each_some : (rs : List ℕ) (i : ℕ) → i < length rs → Each (λ r. 0 < r) rs → 0 < get_or rs i 0
unfolding Each
each_some [] i l h = absurd (omega (arith, l))
each_some (r ∷ rs) zero l h = h.0
each_some (r ∷ rs) (suc i) l h = each_some rs i (omega (arith, l)) h.1

module _ (f : Firsts) (m : AreMade f) (i : ℕ) (l : i < length f.orders.items) where
  pub some_order : 0 < get_or f.orders.items i 0
  some_order = each_some f.orders.items i l m.values.some

  pub few_places : total (take i f.orders.items) + get_or f.orders.items i 0 ≤ most_names
  few_places =
      let a = total_take f.orders.items i l in
      let b = m.values.count in
      let c = m.values.few in omega (arith, a, b, c)

  pub total_take_more : total (take i f.orders.items) + get_or f.orders.items i 0
      ≡ total (take (i + 1) f.orders.items)
  total_take_more = sym (ap total (take_more f.orders.items i 0 l)
      ∙ total_more (take i f.orders.items) (get_or f.orders.items i 0))

pub order_fits : (n : ℕ) → n ≤ most_names → n ≤ 4096
unfolding most_names
order_fits n h = omega (arith, h)

module _ (f : Firsts) (i first order : ℕ) (first_is : first ≡ total (take i f.orders.items))
    (order_is : order ≡ get_or f.orders.items i 0) where
  pub iteration_of : (ts later us : List code.Expr) (e : code.Expr)
      → map expr_of later ≡ map expr_of ts ++ variables_from (suc first) (pred order)
      → us ≡ later ++ e ∷ []
      → map expr_of us ≡ map expr_of ts ++ (variables_from (suc (total (take i f.orders.items)))
      (pred (get_or f.orders.items i 0)) ++ expr_of e ∷ [])
  iteration_of ts later us e a b =
      ap (map expr_of) b ∙ map_push expr_of later e ∙ ap (λ l. l ++ expr_of e ∷ []) a
      ∙ append_assoc (map expr_of ts) (variables_from (suc first) (pred order)) (expr_of e ∷ [])
      ∙ ap₂ (λ n r. map expr_of ts ++ (variables_from (suc n) (pred r) ++ expr_of e ∷ []))
      first_is order_is
