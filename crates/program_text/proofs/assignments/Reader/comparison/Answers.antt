use Rattle.std.proofs.Common.{◌≡◌, Bool, refl, ap, sym, ◌∙◌, Option, Some, None, Ok}
use Rattle.program_text.specs.Reads.{progress_of}
use Rattle.program_text.specs.Sums.{sum_language}
use Rattle.program_text.specs.States.{plain_state, with_sides}
use Rattle.program_text.proofs.CompareReads.{sign_missing, behind_sign, with_left, compared}
use Rattle.program_text.proofs.Answering.{err_from_is_err_and, expr_of, rest, start, stops}
use Rattle.program_text.proofs.assignments.Reader.comparison.Goals as goal

nothing_said : (o : Option Bool) → ((b : Bool) → o ≡ Some b → ⊥) → o ≡ None
nothing_said None other = refl
nothing_said (Some b) other = absurd (other b refl)

pub returns-in_err-left-clause-reads : goal.returns-in_err-left-clause-reads
returns-in_err-left-clause-reads c = λ v.
    stops (start sum_language _ _ _) _ (err_from_is_err_and c.from_residual.result
    c.from_residual.ensures.1) (rw c.new.ensures.items at c.in_err-left.ensures.reads v)

pub returns-in_default-clause-reads : goal.returns-in_default-clause-reads
returns-in_default-clause-reads c = λ v.
    let left = c.in_ok-left.left in
    rw c.syntax_fault.ensures (sign_missing c.args.self.now.names.now c.args.may_differ v
    c.args.cursor (expr_of left.value.value) (progress_of left.progress) c.in_ok-left.sign
    (rw c.new.ensures.items at c.in_ok-left.ensures.reads v)
    (sym c.sign_says.ensures ∙ nothing_said c.sign_says.result c.in_default.not-Some))

pub returns-in_err-right-clause-reads : goal.returns-in_err-right-clause-reads
returns-in_err-right-clause-reads c = λ v.
    let names = c.args.self.now.names.now in
    let left = c.in_ok-left.left in
    let l = expr_of left.value.value in
    let sign = c.in_ok-left.sign in
    let says = sym c.sign_says.ensures ∙ c.in-Some.is in
    let reads = rw c.new.ensures.items at c.in_ok-left.ensures.reads v in
    let b = c.args.may_differ in
    let m = progress_of left.progress in
    let before = with_left names b v c.args.cursor l m sign reads c.in-Some.equal says
    c.next.result c.next.ensures.tokens in
    stops {t = plain_state names before} {us = rest c.next.result}
    (behind_sign names b v c.args.cursor l m sign reads c.in-Some.equal says c.next.result
    c.next.ensures.tokens) _
    (err_from_is_err_and c.from_residual-in_err-right.result
    c.from_residual-in_err-right.ensures.1)
    (rw c.new-2.ensures.items at c.in_err-right.ensures.reads before)

pub returns-clause-reads : goal.returns-clause-reads
returns-clause-reads c = λ v.
    let names = c.args.self.now.names.now in
    let left = c.in_ok-left.left in
    let right = c.in_ok-right.right in
    let l = expr_of left.value.value in
    let sign = c.in_ok-left.sign in
    let says = sym c.sign_says.ensures ∙ c.in-Some.is in
    let reads = rw c.new.ensures.items at c.in_ok-left.ensures.reads v in
    let b = c.args.may_differ in
    let m = progress_of left.progress in
    let before = with_left names b v c.args.cursor l m sign reads c.in-Some.equal says
    c.next.result c.next.ensures.tokens in
    let end = rest c.in_ok-right.end in
    ap (λ e. Ok (
      plain_state names (with_sides (record {
        at = sign.token.at;
        equal = c.in-Some.equal;
        left = expr_of e;
        right = expr_of c.into_inner-right.result;
      }) v),
      end,
    )) c.into_inner-left.ensures
    ∙ ap (λ e. Ok (
      plain_state names (with_sides (record {
        at = sign.token.at;
        equal = c.in-Some.equal;
        left = l;
        right = expr_of e;
      }) v),
      end,
    )) c.into_inner-right.ensures
    ∙ compared names b v c.args.cursor l m sign reads c.in-Some.equal says c.next.result
    c.next.ensures.tokens (expr_of right.value.value) (progress_of right.progress)
    c.in_ok-right.end (rw c.new-2.ensures.items at c.in_ok-right.ensures.reads before)
