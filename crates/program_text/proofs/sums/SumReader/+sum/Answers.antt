use Rattle.std.proofs.Common.{◌≡◌, ◌<◌, ◌+◌, ◌*◌, refl, ap, sym, subst, ◌∙◌, Ok, Err, arith, inl, inr, Bool, true, false, IsTrue, [], ◌∷◌, ◌++◌, length, map}
use Rattle.std.proofs.lemmas.Result.{err_from_is_err_and}
use Rattle.std.proofs.lemmas.List.{map_push, length-map}
use Rattle.program_model.specs.SyntaxView.{divisor_of}
use Rattle.program_text.specs.declared.sums.Part.{Part}
use Rattle.loops.specs.Program.{number, variable, neg, mul}
use Rattle.loop_model.specs.ExpressionView.{expr_of}
use Rattle.grammars.specs.Grammar.{change, sequence, rule}
use Rattle.poly_text.specs.Tokens.{is_sign}
use Rattle.program_text.specs.Lexemes.{is_sign_of, tokens_from}
use Rattle.program_text.specs.NextToken.{seen_lexeme}
use Rattle.program_text.specs.declared.cursor.Cursor.{Cursor}
use Rattle.program_text.specs.CursorView.{rest, bytes_left, begins_by_number}
use Rattle.program_text.specs.Sums.{SumState, Rule, a_sum, a_factor, a_divisor, divided, push, sum_language, atom, parentheses, closing, factor, raising, opposite, negation, times, over, combine, next_factor, product, joint, sign_of, joins, next_product, note}
use Rattle.program_text.specs.Reads.{Progress, progress_of, counted, Around, around, state_in, state_behind, behind_expr, with_operator, inside, Counts}
use Rattle.program_text.proofs.SumChecked.{sums_checked}
use Rattle.program_text.proofs.Paths.{reading_rule, continued, GoesOn, start, on, over as instead, ends, stops, stops_last}
use Rattle.program_text.proofs.CursorReads.{sign_here}
use Rattle.program_text.proofs.PartSteps.{atom_number, atom_large, atom_name, atom_refused, atom_parentheses, no_atom, parentheses_barred, parentheses_past, opening_read, factor_opposite, factor_atom, opposite_past, minus_read, negation_done, division_done, over_factor, more_times, more_over, no_more_factors, more_joins, no_more_products}
use Rattle.program_text.proofs.ReaderSteps.{operand, factor_rule, uncounted, operand_fails, operand_done, chain_fails, chain_begins, chain_ends, way_fails, way_goes}
use Rattle.program_text.proofs.sums.SumReader.+sum.Goals as goal

-- a + and a - are signs
known : (negative : Bool) → IsTrue (is_sign (sign_of negative))
known false = refl
known true = refl

-- ---- behind a first token, and by an atom
opened : (a : Around) (n : Progress) (k : Cursor) → is_sign_of (seen_lexeme k.token.lexeme) 40
    ≡ true
    → a.depth < 64 → (d : Cursor) → tokens_from k.text.now k.token.end ≡ rest d
    → GoesOn sum_language parentheses (state_in a n) (rest k) (sequence (rule a_sum) closing)
    (state_in (inside a) n) (rest d)
opened a n k is room d next = on (start sum_language parentheses (state_in a n) (rest k))
    (opening_read a n k (sign_here k 40 is) room d next)

behind_minus : (a : Around) (n : Progress) (k : Cursor) → is_sign_of (seen_lexeme k.token.lexeme) 45
    ≡ true
    → a.depth < 64 → n.operators < 1024 → (d : Cursor) → tokens_from k.text.now k.token.end ≡ rest d
    → GoesOn sum_language opposite (state_in a n) (rest k) (sequence (rule a_factor) negation)
    (state_in (inside (with_operator a k.token.at)) (counted n)) (rest d)
behind_minus a n k is room few d next = on (start sum_language opposite (state_in a n) (rest k))
    (minus_read a n k (sign_here k 45 is) room few d next)

by_atom : (s : SumState) (k : Cursor) → is_sign_of (seen_lexeme k.token.lexeme) 45 ≡ false
    → GoesOn sum_language factor s (rest k) (sequence atom raising) s (rest k)
by_atom s k is = instead (start sum_language factor s (rest k)) (sequence atom raising) s (rest k)
    (factor_atom s k is)

-- ---- atoms
pub atom-returns-in_ok-value-in-Number-clause-reads :
    goal.atom-returns-in_ok-value-in-Number-clause-reads
unfolding expr_of
atom-returns-in_ok-value-in-Number-clause-reads t c = λ v.
    atom_number (around c.args.self.now c.args.depth v) (progress_of c.args.progress) c.args.cursor
    c.in-Number.value c.in-Number.is c.next.result c.next.ensures.tokens _
    (ap expr_of c.in_ok-value-in-Number.ensures.ok ∙ ap number c.whole-value.ensures)

pub atom-returns-in-Large-clause-reads : goal.atom-returns-in-Large-clause-reads
atom-returns-in-Large-clause-reads t c = λ v.
    atom_large (around c.args.self.now c.args.depth v) (progress_of c.args.progress) c.args.cursor
    c.in-Large.is

pub atom-returns-in_ok-value-in-Ok-clause-reads : goal.atom-returns-in_ok-value-in-Ok-clause-reads
unfolding expr_of
atom-returns-in_ok-value-in-Ok-clause-reads t c = λ v.
    atom_name (around c.args.self.now c.args.depth v) (progress_of c.args.progress) c.args.cursor
    c.in-Name.word c.in-Name.is c.in-Ok.ensures.free c.next-in-Ok.result
    c.next-in-Ok.ensures.tokens _
    (ap expr_of c.in_ok-value-in-Ok.ensures.ok ∙ ap variable c.in-Ok.ensures.ok)

pub atom-returns-in-Err-clause-reads : goal.atom-returns-in-Err-clause-reads
atom-returns-in-Err-clause-reads t c = λ v.
    atom_refused (around c.args.self.now c.args.depth v) (progress_of c.args.progress) c.args.cursor
    c.in-Name.word c.in-Name.is c.in-Err.error c.in-Err.ensures.err

pub atom-returns-in-Sign-clause-reads : goal.atom-returns-in-Sign-clause-reads
atom-returns-in-Sign-clause-reads t c = λ v.
    let a = around c.args.self.now c.args.depth v in
    let s = state_in a (progress_of c.args.progress) in
    continued sum_language atom parentheses s s (state_behind a) c.args.cursor c.args.cursor
    c.parentheses.result (atom_parentheses s c.args.cursor c.in-Sign.field-0 c.in-Sign.is)
    (c.parentheses.ensures.reads v)

pub atom-returns-in_default-clause-reads : goal.atom-returns-in_default-clause-reads
atom-returns-in_default-clause-reads t c = λ v.
    no_atom (state_in (around c.args.self.now c.args.depth v) (progress_of c.args.progress))
    c.args.cursor
    c.in_default.not-Number c.in_default.not-Large c.in_default.not-Name
    (c.in_default.not-Sign 40)

-- ---- parentheses
pub parentheses-returns-then-not-is_sign-clause-reads :
    goal.parentheses-returns-then-not-is_sign-clause-reads
parentheses-returns-then-not-is_sign-clause-reads t c = λ v.
    parentheses_barred (state_in (around c.args.self.now c.args.depth v)
    (progress_of c.args.progress))
    c.args.cursor (sym c.if-not-is_sign.ensures)

pub parentheses-returns-then-depth-ge-MOST_DEPTH-clause-reads :
    goal.parentheses-returns-then-depth-ge-MOST_DEPTH-clause-reads
parentheses-returns-then-depth-ge-MOST_DEPTH-clause-reads t c = λ v.
    parentheses_past (around c.args.self.now c.args.depth v) (progress_of c.args.progress)
    c.args.cursor
    (sign_here c.args.cursor 40 (sym c.if-not-is_sign.ensures)) c.if-depth-ge-MOST_DEPTH.true

pub parentheses-returns-in_err-sum-clause-reads : goal.parentheses-returns-in_err-sum-clause-reads
parentheses-returns-in_err-sum-clause-reads t c = λ v.
    let a = around c.args.self.now c.args.depth v in
    stops (opened a (progress_of c.args.progress) c.args.cursor (sym c.if-not-is_sign.ensures)
    c.if-depth-ge-MOST_DEPTH.false c.next.result c.next.ensures.tokens) (state_behind a)
    (err_from_is_err_and c.from_residual.result c.from_residual.ensures.1)
    (c.in_err-sum.ensures.reads v)

pub parentheses-returns-in_err-end-clause-reads : goal.parentheses-returns-in_err-end-clause-reads
parentheses-returns-in_err-end-clause-reads t c = λ v.
    let a = around c.args.self.now c.args.depth v in
    stops_last
    (on (opened a (progress_of c.args.progress) c.args.cursor (sym c.if-not-is_sign.ensures)
    c.if-depth-ge-MOST_DEPTH.false c.next.result c.next.ensures.tokens)
    (c.in_ok-sum.ensures.reads v)) (state_behind a)
    (err_from_is_err_and c.from_residual-in_err-end.result c.from_residual-in_err-end.ensures.1)
    (c.in_err-end.ensures.goes (behind_expr a (expr_of c.in_ok-sum.sum.value.value))
    (progress_of c.in_ok-sum.sum.progress))

pub parentheses-returns-clause-reads : goal.parentheses-returns-clause-reads
parentheses-returns-clause-reads t c = λ v.
    let a = around c.args.self.now c.args.depth v in
    ends (on (opened a (progress_of c.args.progress) c.args.cursor (sym c.if-not-is_sign.ensures)
    c.if-depth-ge-MOST_DEPTH.false c.next.result c.next.ensures.tokens)
    (c.in_ok-sum.ensures.reads v))
    (c.in_ok-end.ensures.goes (behind_expr a (expr_of c.in_ok-sum.sum.value.value))
    (progress_of c.in_ok-sum.sum.progress))

-- ---- factors
pub factor-returns-then-is_sign-clause-reads : goal.factor-returns-then-is_sign-clause-reads
factor-returns-then-is_sign-clause-reads t c = λ v.
    let a = around c.args.self.now c.args.depth v in
    let s = state_in a (progress_of c.args.progress) in
    continued sum_language factor opposite s s (state_behind a) c.args.cursor c.args.cursor
    c.opposite.result (factor_opposite s c.args.cursor
    (sign_here c.args.cursor 45 (sym c.if-is_sign.ensures))) (c.opposite.ensures.reads v)

pub factor-returns-in_err-atom-clause-reads : goal.factor-returns-in_err-atom-clause-reads
factor-returns-in_err-atom-clause-reads t c = λ v.
    let a = around c.args.self.now c.args.depth v in
    stops (by_atom (state_in a (progress_of c.args.progress)) c.args.cursor
    (sym c.if-is_sign.ensures))
    (state_behind a) (err_from_is_err_and c.from_residual.result c.from_residual.ensures.1)
    (c.in_err-atom.ensures.reads v)

pub factor-returns-clause-reads : goal.factor-returns-clause-reads
factor-returns-clause-reads t c = λ v.
    let a = around c.args.self.now c.args.depth v in
    continued sum_language factor raising (state_in a (progress_of c.args.progress))
    (state_behind a c.in_ok-atom.atom) (state_behind a) c.args.cursor c.in_ok-atom.end
    c.power.result
    (on (by_atom (state_in a (progress_of c.args.progress)) c.args.cursor
    (sym c.if-is_sign.ensures))
    (c.in_ok-atom.ensures.reads v)).same (c.power.ensures.reads a)

pub opposite-returns-then-depth-ge-MOST_DEPTH-clause-reads :
    goal.opposite-returns-then-depth-ge-MOST_DEPTH-clause-reads
opposite-returns-then-depth-ge-MOST_DEPTH-clause-reads t c = λ v.
    opposite_past (around c.args.self.now c.args.depth v) (progress_of c.args.progress)
    c.args.cursor
    (sign_here c.args.cursor 45 c.requires) (elim c.then-depth-ge-MOST_DEPTH.either [
      | inl h
          ↦ inl h
      | inr h ↦ inr h.1
    ])

pub opposite-returns-in_err-factor-clause-reads : goal.opposite-returns-in_err-factor-clause-reads
opposite-returns-in_err-factor-clause-reads t c = λ v.
    let a = around c.args.self.now c.args.depth v in
    let e = c.in_err-factor.field-0.0 in
    stops (behind_minus a (progress_of c.args.progress) c.args.cursor c.requires
    c.if-depth-ge-MOST_DEPTH.false
    c.if-progress-ge-MOST_OPERATORS.false c.next.result c.next.ensures.tokens)
    (state_behind a)
    (err_from_is_err_and c.from_residual.result c.from_residual.ensures.1)
    (factor_rule c.args.self.now (c.args.depth + 1) (counted (progress_of c.args.progress))
    c.next.result (Err e)
    c.in_err-factor.ensures.reads (note c.args.cursor.token.at v))

pub opposite-returns-clause-reads : goal.opposite-returns-clause-reads
unfolding expr_of
opposite-returns-clause-reads t c = λ v.
    let a = around c.args.self.now c.args.depth v in
    let k = c.args.cursor in
    let q = c.in_ok-factor.factor in
    let end = c.in_ok-factor.end in
    let value : expr_of c.in_ok-value.value.value ≡ neg k.token.at (expr_of q.value.value) =
    ap expr_of c.in_ok-value.ensures.ok in
    ap (λ e. Ok (state_in (behind_expr a e) (progress_of q.progress), rest end)) value
    ∙ ends (on (behind_minus a (progress_of c.args.progress) k c.requires
    c.if-depth-ge-MOST_DEPTH.false
    c.if-progress-ge-MOST_OPERATORS.false c.next.result c.next.ensures.tokens)
    (factor_rule c.args.self.now (c.args.depth + 1) (counted (progress_of c.args.progress))
    c.next.result
    (Ok (q, end)) c.in_ok-factor.ensures.reads (note k.token.at v)))
    (negation_done a (progress_of q.progress) k.token.at (expr_of q.value.value) end)

-- ---- products
pub times-returns-in_err-next-clause-reads : goal.times-returns-in_err-next-clause-reads
times-returns-in_err-next-clause-reads t c =
    uncounted c.args.self.now c.args.depth c.args.product c.args.cursor 42 refl
    (sign_here c.args.cursor 42 c.requires) (sequence (rule a_factor) (combine mul))
    c.in_err-next.ensures.goes
    (err_from_is_err_and c.from_residual.result c.from_residual.ensures.1)

pub times-returns-in_err-factor-clause-reads : goal.times-returns-in_err-factor-clause-reads
times-returns-in_err-factor-clause-reads t c =
    operand_fails c.args.self.now c.args.depth c.args.product c.args.cursor 42 refl
    (sign_here c.args.cursor 42 c.requires) (rule a_factor) mul c.in_ok-next.next
    c.in_ok-next.ensures.goes
    (factor_rule c.args.self.now c.args.depth (counted (progress_of c.args.product.progress))
    c.in_ok-next.next
    (Err c.in_err-factor.field-0.0) c.in_err-factor.ensures.reads)
    (err_from_is_err_and c.from_residual-in_err-factor.result
    c.from_residual-in_err-factor.ensures.1)

pub times-returns-clause-reads : goal.times-returns-clause-reads
unfolding expr_of
times-returns-clause-reads t c =
    let q = c.in_ok-factor.factor in
    operand_done c.args.self.now c.args.depth c.args.product c.args.cursor 42 refl
    (sign_here c.args.cursor 42 c.requires) (rule a_factor) mul c.in_ok-next.next
    c.in_ok-next.ensures.goes q
    (record { value = c.in_ok-value.value; progress = q.progress }) c.in_ok-factor.end
    (factor_rule c.args.self.now c.args.depth (counted (progress_of c.args.product.progress))
    c.in_ok-next.next
    (Ok (q, c.in_ok-factor.end)) c.in_ok-factor.ensures.reads)
    (ap expr_of c.in_ok-value.ensures.ok) refl

pub product-returns-in_err-product-clause-reads : goal.product-returns-in_err-product-clause-reads
product-returns-in_err-product-clause-reads t c = chain_fails c.args.self.now c.args.depth
    (progress_of c.args.progress) c.args.cursor product factor next_factor (λ s ts. refl)
    c.in_err-product.ensures.reads (err_from_is_err_and c.from_residual.result
    c.from_residual.ensures.1)

pub product-loop-product-init : goal.product-loop-product-init
product-loop-product-init t c = (
  c.in_ok-product.ensures.falls,
  chain_begins c.args.self.now c.args.depth (progress_of c.args.progress) c.args.cursor product
      factor
      next_factor (λ s ts. refl) c.in_ok-product.product c.in_ok-product.at
      c.in_ok-product.ensures.reads,
)

pub product-returns-in_err-next-clause-reads : goal.product-returns-in_err-next-clause-reads
product-returns-in_err-next-clause-reads t c =
    let at = c.loop-product.at in
    way_fails c.args.self.now c.args.depth (progress_of c.args.progress) c.args.cursor product
    factor next_factor
    (λ s ts. refl) times c.loop-product.product at c.loop-product.invariant.1
    (more_times at (sign_here at 42 (sym c.if-is_sign.ensures)))
    c.in_err-next.ensures.reads (err_from_is_err_and c.from_residual-in_err-next.result
    c.from_residual-in_err-next.ensures.1)

pub product-loop-product-preserved-then-is_sign : goal.product-loop-product-preserved-then-is_sign
product-loop-product-preserved-then-is_sign t c = (
  let first = c.in_ok-next.ensures.falls in let second = c.loop-product.invariant.0 in
      omega (arith, first, second),
  let at = c.loop-product.at in
      way_goes c.args.self.now c.args.depth (progress_of c.args.progress) c.args.cursor product
      factor
      next_factor (λ s ts. refl) times c.loop-product.product at c.loop-product.invariant.1
      (more_times at (sign_here at 42 (sym c.if-is_sign.ensures)))
      c.in_ok-next.next c.in_ok-next.end c.in_ok-next.ensures.reads,
)

pub product-returns-in_err-next-2-clause-reads : goal.product-returns-in_err-next-2-clause-reads
product-returns-in_err-next-2-clause-reads t c =
    let at = c.loop-product.at in
    way_fails c.args.self.now c.args.depth (progress_of c.args.progress) c.args.cursor product
    factor next_factor
    (λ s ts. refl) over c.loop-product.product at c.loop-product.invariant.1
    (more_over at (sign_here at 47 (sym c.if-is_sign-2.ensures)))
    c.in_err-next-2.ensures.reads (err_from_is_err_and c.from_residual-in_err-next-2.result
    c.from_residual-in_err-next-2.ensures.1)

pub product-loop-product-preserved : goal.product-loop-product-preserved
product-loop-product-preserved t c = (
  let first = c.in_ok-next-2.ensures.falls in let second = c.loop-product.invariant.0 in
      omega (arith, first, second),
  let at = c.loop-product.at in
      way_goes c.args.self.now c.args.depth (progress_of c.args.progress) c.args.cursor product
      factor
      next_factor (λ s ts. refl) over c.loop-product.product at c.loop-product.invariant.1
      (more_over at (sign_here at 47 (sym c.if-is_sign-2.ensures)))
      c.in_ok-next-2.next c.in_ok-next-2.end c.in_ok-next-2.ensures.reads,
)

pub product-times-requires : goal.product-times-requires
product-times-requires t c =
    let room = c.loop-product.invariant.0 in (
      subst (λ n. 8 * bytes_left c.loop-product.at < n) c.decreases (omega (arith, room)),
      sym c.if-is_sign.ensures,
    )

pub product-returns-else-is_sign-2-clause-reads : goal.product-returns-else-is_sign-2-clause-reads
product-returns-else-is_sign-2-clause-reads t c =
    chain_ends c.args.self.now c.args.depth (progress_of c.args.progress) c.args.cursor product
    factor
    next_factor (λ s ts. refl) c.loop-product.product c.loop-product.at
    c.loop-product.invariant.1
    (no_more_factors c.loop-product.at (sym c.if-is_sign.ensures) (sym c.if-is_sign-2.ensures))

pub product-returns-else-is_sign-2-clause-falls : goal.product-returns-else-is_sign-2-clause-falls
product-returns-else-is_sign-2-clause-falls t c = c.loop-product.invariant.0

-- ---- quotients
pub over-returns-in_err-next-clause-reads : goal.over-returns-in_err-next-clause-reads
over-returns-in_err-next-clause-reads t c =
    uncounted c.args.self.now c.args.depth c.args.product c.args.cursor 47 refl
    (sign_here c.args.cursor 47 c.requires) (rule a_divisor) c.in_err-next.ensures.goes
    (err_from_is_err_and c.from_residual.result c.from_residual.ensures.1)

behind_slash : (a : Around) (p : Part) (k next : Cursor) → is_sign_of (seen_lexeme k.token.lexeme)
    47
    ≡ true → Counts p.progress.operators k (Ok next) → GoesOn sum_language over (state_behind a p)
    (rest k) (rule a_divisor)
    (state_in (operand p k a) (counted (progress_of p.progress))) (rest next)
behind_slash a p k next is counts = on (start sum_language over (state_behind a p) (rest k))
    (counts (behind_expr a (expr_of p.value.value)) (progress_of p.progress).divisors 47 refl
    (sign_here k 47 is))

pub over-returns-then-not-begins_by_number-clause-reads :
    goal.over-returns-then-not-begins_by_number-clause-reads
over-returns-then-not-begins_by_number-clause-reads t c = λ v.
    let a = around c.args.self.now c.args.depth v in
    let p = c.args.product in
    let k = c.args.cursor in
    let next = c.in_ok-next.next in
    continued sum_language over (rule a_divisor) (state_behind a p)
    (state_in (operand p k a) (counted (progress_of p.progress))) (state_behind a) k next
    c.over_factor.result (behind_slash a p k next c.requires c.in_ok-next.ensures.goes).same
    (c.over_factor.ensures.reads v)

pub over-returns-else-self-clause-reads : goal.over-returns-else-self-clause-reads
over-returns-else-self-clause-reads t c = λ v.
    let a = around c.args.self.now c.args.depth v in
    let p = c.args.product in
    let k = c.args.cursor in
    let next = c.in_ok-next.next in
    continued sum_language over (rule a_divisor) (state_behind a p)
    (state_in (operand p k a) (counted (progress_of p.progress))) (state_behind a) k next
    c.over_number.result (behind_slash a p k next c.requires c.in_ok-next.ensures.goes).same
    (c.over_number.ensures.reads v)

abbrev divides : Rule
divides = sequence factor (change (λ c. c) (λ c v. divided c.names v))

by_factor : (s : SumState) (k : Cursor) → s.context.free ≡ true → begins_by_number k ≡ false
    → GoesOn sum_language (rule a_divisor) s (rest k) divides s (rest k)
by_factor s k free other = instead (start sum_language (rule a_divisor) s (rest k)) divides s
    (rest k)
    (over_factor s k free other)

pub over_factor-returns-in_err-factor-clause-reads :
    goal.over_factor-returns-in_err-factor-clause-reads
over_factor-returns-in_err-factor-clause-reads t c = λ v.
    let a = around c.args.self.now c.args.depth v in
    let p = expr_of c.args.product.value in
    let n = progress_of c.args.progress in
    let s = state_in (with_operator (behind_expr a p) c.args.at) n in
    stops (by_factor s c.args.cursor c.requires.free c.requires.no_number) (state_behind a)
    (err_from_is_err_and c.from_residual.result c.from_residual.ensures.1)
    (c.in_err-factor.ensures.reads (note c.args.at (push p v)))

pub over_factor-returns-clause-reads : goal.over_factor-returns-clause-reads
unfolding expr_of
over_factor-returns-clause-reads t c = λ v.
    let a = around c.args.self.now c.args.depth v in
    let p = expr_of c.args.product.value in
    let n = progress_of c.args.progress in
    let at = c.args.at in
    let s = state_in (with_operator (behind_expr a p) at) n in
    let q = c.in_ok-factor.factor in
    let m = progress_of q.progress in
    let end = c.in_ok-factor.end in
    let divisors : map divisor_of c.push.new.self.items ≡ m.divisors
    ++ record { at = at; value = expr_of q.value.value } ∷ [] =
    ap (map divisor_of) c.in_ok-push.ensures.items ∙ map_push divisor_of q.progress.divisors.items _
    ∙ ap (λ e. m.divisors ++ record { at = at; value = expr_of e } ∷ [])
    c.into_inner-value.ensures in
    let index : c.len.result + c.len-2.result ≡ length a.names + length m.divisors = omega (
      arith,
      c.len.ensures.len,
      c.len-2.ensures,
      length-map q.progress.divisors.items divisor_of,
      q.progress.divisors.ok,
    ) in
    let value : expr_of c.in_ok-value.value.value ≡ mul at p (variable (length a.names + length
    m.divisors)) =
    ap expr_of c.in_ok-value.ensures.ok ∙ ap (λ e. mul at p (expr_of e)) c.in_ok-right.ensures.ok
    ∙ ap (λ i. mul at p (variable i)) index in
    ap (λ e. Ok (
      state_in (behind_expr a e)
          (record m { divisors = map divisor_of c.push.new.self.items }),
      rest end,
    )) value
    ∙ ap (λ ds. Ok (
      state_in (behind_expr a (mul at p (variable (length a.names + length
          m.divisors)))) (record m { divisors = ds }),
      rest end,
    )) divisors
    ∙ ends (on (by_factor s c.args.cursor c.requires.free c.requires.no_number)
    (c.in_ok-factor.ensures.reads (note at (push p v))))
    (division_done a m at p (expr_of q.value.value) end)

-- ---- sums
pub addition-returns-in_err-next-clause-reads : goal.addition-returns-in_err-next-clause-reads
addition-returns-in_err-next-clause-reads t c =
    let b = c.args.negative in
    uncounted c.args.self.now c.args.depth c.args.sum c.args.cursor (sign_of b) (known b)
    (sign_here c.args.cursor (sign_of b) c.requires) (sequence product (combine (joint b)))
    c.in_err-next.ensures.goes
    (err_from_is_err_and c.from_residual.result c.from_residual.ensures.1)

pub addition-returns-in_err-product-clause-reads : goal.addition-returns-in_err-product-clause-reads
addition-returns-in_err-product-clause-reads t c =
    let b = c.args.negative in
    operand_fails c.args.self.now c.args.depth c.args.sum c.args.cursor (sign_of b) (known b)
    (sign_here c.args.cursor (sign_of b) c.requires) product (joint b) c.in_ok-next.next
    c.in_ok-next.ensures.goes
    c.in_err-product.ensures.reads (err_from_is_err_and c.from_residual-in_err-product.result
    c.from_residual-in_err-product.ensures.1)

pub addition-returns-clause-reads : goal.addition-returns-clause-reads
addition-returns-clause-reads t c =
    let b = c.args.negative in
    let q = c.in_ok-product.product in
    operand_done c.args.self.now c.args.depth c.args.sum c.args.cursor (sign_of b) (known b)
    (sign_here c.args.cursor (sign_of b) c.requires) product (joint b) c.in_ok-next.next
    c.in_ok-next.ensures.goes q
    (record { value = c.in_ok-value.value; progress = q.progress }) c.in_ok-product.end
    c.in_ok-product.ensures.reads (ap expr_of c.in_ok-value.ensures.ok ∙ c.joint-joint.ensures)
    refl

pub sum-returns-in_err-sum-clause-reads : goal.sum-returns-in_err-sum-clause-reads
sum-returns-in_err-sum-clause-reads t c =
    chain_fails c.args.self.now c.args.depth (progress_of c.args.progress) c.args.cursor
    (rule a_sum) product
    next_product (reading_rule sum_language sums_checked a_sum) c.in_err-sum.ensures.reads
    (err_from_is_err_and c.from_residual.result c.from_residual.ensures.1)

pub sum-loop-sum-init : goal.sum-loop-sum-init
sum-loop-sum-init t c = (
  c.in_ok-sum.ensures.falls,
  chain_begins c.args.self.now c.args.depth (progress_of c.args.progress) c.args.cursor (rule a_sum)
      product
      next_product (reading_rule sum_language sums_checked a_sum) c.in_ok-sum.sum c.in_ok-sum.at
      c.in_ok-sum.ensures.reads,
)

pub sum-returns-in_err-next-clause-reads : goal.sum-returns-in_err-next-clause-reads
sum-returns-in_err-next-clause-reads t c =
    let at = c.loop-sum.at in
    way_fails c.args.self.now c.args.depth (progress_of c.args.progress) c.args.cursor (rule a_sum)
    product
    next_product (reading_rule sum_language sums_checked a_sum) (joins false) c.loop-sum.sum at
    c.loop-sum.invariant.1
    (more_joins at false (sign_here at 43 (sym c.if-is_sign.ensures))) c.in_err-next.ensures.reads
    (err_from_is_err_and c.from_residual-in_err-next.result
    c.from_residual-in_err-next.ensures.1)

pub sum-loop-sum-preserved-then-is_sign : goal.sum-loop-sum-preserved-then-is_sign
sum-loop-sum-preserved-then-is_sign t c = (
  let first = c.in_ok-next.ensures.falls in let second = c.loop-sum.invariant.0 in
      omega (arith, first, second),
  let at = c.loop-sum.at in
      way_goes c.args.self.now c.args.depth (progress_of c.args.progress) c.args.cursor (rule a_sum)
      product
      next_product (reading_rule sum_language sums_checked a_sum) (joins false) c.loop-sum.sum
      at c.loop-sum.invariant.1
      (more_joins at false (sign_here at 43 (sym c.if-is_sign.ensures))) c.in_ok-next.next
      c.in_ok-next.end c.in_ok-next.ensures.reads,
)

pub sum-returns-in_err-next-2-clause-reads : goal.sum-returns-in_err-next-2-clause-reads
sum-returns-in_err-next-2-clause-reads t c =
    let at = c.loop-sum.at in
    way_fails c.args.self.now c.args.depth (progress_of c.args.progress) c.args.cursor (rule a_sum)
    product
    next_product (reading_rule sum_language sums_checked a_sum) (joins true) c.loop-sum.sum at
    c.loop-sum.invariant.1
    (more_joins at true (sign_here at 45 (sym c.if-is_sign-2.ensures)))
    c.in_err-next-2.ensures.reads (err_from_is_err_and c.from_residual-in_err-next-2.result
    c.from_residual-in_err-next-2.ensures.1)

pub sum-loop-sum-preserved : goal.sum-loop-sum-preserved
sum-loop-sum-preserved t c = (
  let first = c.in_ok-next-2.ensures.falls in let second = c.loop-sum.invariant.0 in
      omega (arith, first, second),
  let at = c.loop-sum.at in
      way_goes c.args.self.now c.args.depth (progress_of c.args.progress) c.args.cursor (rule a_sum)
      product
      next_product (reading_rule sum_language sums_checked a_sum) (joins true) c.loop-sum.sum at
      c.loop-sum.invariant.1
      (more_joins at true (sign_here at 45 (sym c.if-is_sign-2.ensures))) c.in_ok-next-2.next
      c.in_ok-next-2.end c.in_ok-next-2.ensures.reads,
)

pub sum-returns-else-is_sign-2-clause-reads : goal.sum-returns-else-is_sign-2-clause-reads
sum-returns-else-is_sign-2-clause-reads t c =
    chain_ends c.args.self.now c.args.depth (progress_of c.args.progress) c.args.cursor (rule a_sum)
    product
    next_product (reading_rule sum_language sums_checked a_sum) c.loop-sum.sum c.loop-sum.at
    c.loop-sum.invariant.1
    (no_more_products c.loop-sum.at (sym c.if-is_sign.ensures) (sym c.if-is_sign-2.ensures))

pub sum-returns-else-is_sign-2-clause-falls : goal.sum-returns-else-is_sign-2-clause-falls
sum-returns-else-is_sign-2-clause-falls t c = c.loop-sum.invariant.0

pub sum-addition-requires : goal.sum-addition-requires
sum-addition-requires t c =
    let room = c.loop-sum.invariant.0 in (
      subst (λ n. 8 * bytes_left c.loop-sum.at < n) c.decreases (omega (arith, room)),
      sym c.if-is_sign.ensures,
    )
