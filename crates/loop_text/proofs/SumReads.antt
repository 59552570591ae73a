-- Sums in loops.
--   sum_read, sum_fault       what the reader of sums reads is what the language of loops reads
--   right_side_read, equation_read     a right side of a statement and of an equation
--   has_used                  the variables that stand in equations
use Rattle.std.proofs.Common.{◌≡◌, ℕ, suc, List, [], ◌∷◌, ◌++◌, map, length, refl, ap, sym, ◌∙◌, Bool, ◌||◌, Ok, Err, arith}
use Rattle.std.specs.List.{fold, list_any}
use Rattle.std.proofs.Math.Bool.{or-false, or_assoc, or_comm}
use Rattle.std.proofs.lemmas.List.{length_push}
use Rattle.std.proofs.lemmas.List.Sums.{fold-append}
use Rattle.loops.specs.Program.{Expr, number, variable, neg, add, sub, mul, divide, power, Equation}
use Rattle.loop_model.specs.Uses.{uses}
use Rattle.loop_model.specs.ExpressionView.{expr_of}
use Rattle.grammars.specs.Grammar.{change, sequence, rule}
use Rattle.grammars.specs.Reader as answer
use Rattle.grammars.specs.Reader.{ReadResult, parsed}
use Rattle.grammars.specs.Embedded.{part, with_part, answer_in}
use Rattle.grammars.proofs.Lifted.{lifted_read}
use Rattle.poly_text.specs.Lexemes.{Lexeme, Placed}
use Rattle.poly_text.specs.Reasons.{Reason, init_uses, unset}
use Rattle.poly_text.specs.NameFaults.{has}
use Rattle.poly_text.specs.Faults.{fault_of}
use Rattle.poly_text.specs.Sums.{SumContext, SumValue, SumState, a_sum, sum_language}
use Rattle.poly_text.specs.CursorView.{rest, behind}
use Rattle.poly_text.specs.Reads.{used_by, Around, state_in, behind_expr}
use Rattle.poly_text.specs.Telling as telling
use Rattle.poly_text.specs.Told.{Told, told}
use Rattle.poly_text.specs.declared.error.TextError.{TextError}
use Rattle.poly_text.specs.declared.cursor.Cursor.{Cursor}
use Rattle.poly_text.proofs.Paths.{IsFault, fault_passes, then_on, reading_change}
use Rattle.loop_model.specs.Parts.{equation_of}
use Rattle.loop_model.specs.declared.statement.Init.{Init}
use Rattle.loop_text.specs.Loops.{LoopContext, LoopValue, LoopState, no_sum_value, sum, end_equation, end_value, with_equation, with_value, right_side, sums_in_loops, loop_language}
use Rattle.loop_text.specs.States.{reading, used_in, Inits, in_init, Before, in_statement}
use Rattle.loop_text.proofs.LoopChecked.{sums_embedded}
use Rattle.poly_text.proofs.CursorReads.{here}
use Rattle.loop_text.specs.declared.begun.Begun.{Begun}

-- ---- what is read
module _ (s : LoopState) (ts : List Placed) where
  abbrev in_loop : Told SumContext SumValue → Told LoopContext LoopValue
  in_loop (Ok r) = Ok (with_part sums_in_loops r.0 s, r.1)
  in_loop (Err f) = Err f

  told_in : (a : ReadResult Lexeme SumContext SumValue Reason) → told (answer_in sums_in_loops a s)
      ≡ in_loop (told a)
  told_in (answer.reads t rest) = refl
  told_in (answer.refused x why) = refl
  told_in answer.unended = refl

  abbrev sum_told : Told SumContext SumValue
  sum_told = telling.reading sum_language (rule a_sum) (part sums_in_loops s) ts

  sum_reading : reading sum s ts ≡ in_loop sum_told
  unfolding telling.reading
  sum_reading = ap told (lifted_read sums_in_loops sum_language loop_language sums_embedded
      (rule a_sum) s ts) ∙ told_in (parsed sum_language (rule a_sum) (part sums_in_loops s) ts)

  pub sum_read : (t : SumState) (us : List Placed) → Ok (t, us) ≡ sum_told
      → Ok (with_part sums_in_loops t s, us) ≡ reading sum s ts
  sum_read t us e = ap in_loop e ∙ sym sum_reading

  pub sum_fault : (e : TextError) → IsFault e sum_told → IsFault e (reading sum s ts)
  sum_fault e h = fault_passes (fault_of e) sum_told (reading sum s ts) (λ f h. ap in_loop h
      ∙ sym sum_reading) h

swapped : (a b c : Bool) → (b || (a || c)) ≡ ((a || b) || c)
swapped a b c = sym (or_assoc b a c) ∙ ap (λ d. d || c) (or_comm b a)

has_used_by : (e : Expr ℕ) (us : List ℕ) (i : ℕ) → has (used_by e us) i ≡ (uses e i || has us i)
unfolding used_by uses
has_used_by (number n) us i = refl
has_used_by (variable j) us i = refl
has_used_by (neg at e) us i = has_used_by e us i
has_used_by (add at e f) us i = has_used_by f (used_by e us) i
    ∙ ap (λ b. uses f i || b) (has_used_by e us i) ∙ swapped (uses e i) (uses f i) (has us i)
has_used_by (sub at e f) us i = has_used_by f (used_by e us) i
    ∙ ap (λ b. uses f i || b) (has_used_by e us i) ∙ swapped (uses e i) (uses f i) (has us i)
has_used_by (mul at e f) us i = has_used_by f (used_by e us) i
    ∙ ap (λ b. uses f i || b) (has_used_by e us i) ∙ swapped (uses e i) (uses f i) (has us i)
has_used_by (divide at e n) us i = has_used_by e us i
has_used_by (power at e n) us i = has_used_by e us i

pub has_used : (start : List Init) (i : ℕ) → has (used_in (map equation_of start)) i ≡ list_any
    (λ (e : Init). uses (expr_of e.value) i) start
has_used start i = go start [] ∙ or-false (list_any (λ (e : Init). uses (expr_of e.value) i) start)
  where
    go : (es : List Init) (us : List ℕ)
        → has (fold (λ us (e : Equation (Expr ℕ)). used_by e.value us) us (map equation_of es)) i
        ≡ (list_any (λ (e : Init). uses (expr_of e.value) i) es || has us i)
    go [] us = refl
    go (e ∷ es) us = go es (used_by (expr_of e.value) us)
        ∙ ap (λ b. list_any (λ (e : Init). uses (expr_of e.value) i) es || b)
        (has_used_by (expr_of e.value) us i)
        ∙ swapped (uses (expr_of e.value) i) (list_any (λ (e : Init). uses (expr_of e.value) i) es)
        (has us i)

-- ---- right sides
abbrev pub in_sum : List (List ℕ) → List ℕ → Reason → List ℕ → Around
in_sum names refused why used = record {
  names = names;
  refused = refused;
  refusal = why;
  depth = 0;
  used = used;
  value = no_sum_value;
}

module _ (names : List (List ℕ)) (e : Expr ℕ) (count : ℕ) (c d : Cursor) where
  -- a sum that was read where no other waits
  abbrev ReadsSum : List ℕ → Reason → List ℕ → Type 0
  ReadsSum refused why used = Ok (
    state_in (behind_expr (in_sum names refused why used) e) count,
    rest d,
  ) ≡ telling.reading sum_language (rule a_sum)
      (state_in (in_sum names refused why used) 0) (rest c)

  pub right_side_read : (us : List ℕ) (n : Begun) (b : Before) (is : List ℕ) (es : List (Expr ℕ))
      → ReadsSum us unset [] → Ok (in_statement names us n b is (es ++ e ∷ []), rest d)
      ≡ reading right_side (in_statement names us n b is es) (rest c)
  right_side_read us n b is es h =
      let s = in_statement names us n b is es in
      let t = with_part sums_in_loops (state_in (behind_expr (in_sum names us unset []) e) count)
      s in
      let one_more : length (es ++ e ∷ []) ≡ suc (length es) = length_push es e ∙ omega arith in
      ap (λ k. Ok (
        record {
          context = record (in_statement names us n b is (es ++ e ∷ [])).context { values = k };
          value = (in_statement names us n b is (es ++ e ∷ [])).value;
        },
        rest d,
      )) one_more
      ∙ sym (then_on loop_language sum (change end_value with_value) s (rest c) t (rest d)
      (sum_read s (rest c) _ (rest d) h) ∙ reading_change loop_language end_value with_value t
      (here d) (behind d))

  pub equation_read : (locals : List (List ℕ)) (set : List ℕ) (init : Inits) (i : ℕ)
      → ReadsSum set init_uses (used_in init)
      → Ok (in_init names locals set (init ++ record { name = i; value = e } ∷ []) [], rest d)
      ≡ reading (sequence sum (change end_equation with_equation))
      (in_init names locals set init (i ∷ [])) (rest c)
  equation_read locals set init i h =
      let s = in_init names locals set init (i ∷ []) in
      let t = with_part sums_in_loops
      (state_in (behind_expr (in_sum names set init_uses (used_in init)) e) count) s in
      let more = in_init names locals set (init ++ record { name = i; value = e } ∷ []) [] in
      ap (λ us.
      Ok (
        record {
          context = record more.context { sum = record more.context.sum { used = us } };
          value = more.value;
        },
        rest d,
      )) (fold-append (λ us (e : Equation (Expr ℕ)).
      used_by e.value us) [] init (record { name = i; value = e } ∷ []))
      ∙ sym (then_on loop_language sum (change end_equation with_equation) s (rest c) t (rest d)
      (sum_read s (rest c) _ (rest d) h) ∙ reading_change loop_language end_equation
      with_equation t (here d) (behind d))
