use Rattle.std.proofs.Common.{◌≡◌, ℕ, suc, List, ap, sym, ◌∷◌, [], ◌∙◌, map, Ok, Option, None, unwrap_or}
use Rattle.loop_model.specs.Names.{place_of}
use Rattle.poly_text.specs.Kinds.{word_in}
use Rattle.loop_text.proofs.WordReads.{named_here, no_name_here, word_barred, word_fails}
use Rattle.loop_text.proofs.Answering.{err_from_is_err_and, sequence, rest, seen_lexeme, Reason, or_else, limit, no_first, GoesOn, start, on, ends, stops_going, stops_last_going, statement_of, Begun, LoopContext, keep, statement_fault, name_fault, target_fault, begin_statement, aim, end_statement, with_statement, only_target, right_side, statement_end, sign, single, loop_language, Before, between, behind, in_statement, IsLeft, left_fault, statement_limit}
use Rattle.loop_text.specs.OpenBranch.{within, behind_statement}
use Rattle.loop_text.proofs.statements.OpenBranch.read_single.Goals as goal
use Rattle.loop_text.proofs.statements.OpenBranch.read_single.Goals.{In_ok-target}

abbrev fault : LoopContext → List ℕ → Option Reason
fault c w = or_else (statement_fault c) (name_fault c w (target_fault c))

abbrev next : LoopContext → List ℕ → LoopContext
next c w = aim (begin_statement c) w

only : (names : List (List ℕ)) (us : List ℕ) (n m : Begun) (b : Before)
    → statement_limit n.statements ≡ None → m ≡ record n { statements = suc n.statements }
    → IsLeft names [] [] fault next (between names us n b) (λ i. in_statement names us m b (i ∷ [])
    [])
only names us n m b free more = record {
  faults = λ w. ap (λ o. or_else o (left_fault names [] [] w)) free;
  goes = λ w. ap (λ m. in_statement names us m b (unwrap_or (place_of names w) 0 ∷ []) [])
      (sym more);
}

pub returns-in_default-clause-goes : goal.returns-in_default-clause-goes
returns-in_default-clause-goes c = λ b.
    let k = c.args.cursor in
    let s = within c.args.self.now c.args.begun.now b in
    rw c.syntax_fault.ensures
    (no_first loop_language only_target (sequence (sign 61) (sequence right_side statement_end)) s
    (rest k) _ (word_barred fault next s k (no_name_here k c.in_default.not-Name)))

pub returns-in_err-begin_statement-clause-goes : goal.returns-in_err-begin_statement-clause-goes
returns-in_err-begin_statement-clause-goes c = λ b.
    let k = c.args.cursor in
    let s = within c.args.self.now c.args.begun.now b in
    stops_going (start loop_language _ _ _) _ (err_from_is_err_and c.from_residual.result
    c.from_residual.ensures.1)
    (rw c.in_err-begin_statement.ensures.limit.1 (word_fails fault next s k limit
    (named_here k c.in-Name.field-0 c.in-Name.is)
    (ap (λ o. or_else o (name_fault s.context (word_in (seen_lexeme k.token.lexeme))
    (target_fault s.context))) c.in_err-begin_statement.ensures.limit.0)))

pub returns-in_err-target-clause-goes : goal.returns-in_err-target-clause-goes
returns-in_err-target-clause-goes c = λ b.
    let o = c.args.self.now in
    let names = o.names.now in
    let n = c.begin_statement.new.self in
    let now = behind b (map statement_of o.statements.items) in
    let begun = c.in_ok-begin_statement.ensures in
    stops_going (start loop_language _ _ _) _
    (err_from_is_err_and c.from_residual-in_err-target.result
    c.from_residual-in_err-target.ensures.1)
    (c.in_err-target.ensures.reads fault next (between names o.unset.items c.args.begun.now
    now) (λ i. in_statement names o.unset.items n now (i ∷ []) [])
    (only names o.unset.items c.args.begun.now n now begun.limit begun.count))

-- behind the target
named : (c : In_ok-target) (b : Before)
    → GoesOn loop_language single (between c.args.self.now.names.now c.args.self.now.unset.items
    c.args.begun.now
    b) (rest c.args.cursor)
    (sequence (sign 61) (sequence right_side statement_end)) (in_statement c.args.self.now.names.now
    c.args.self.now.unset.items c.begin_statement.new.self b (c.in_ok-target.target ∷ []) [])
    (rest c.in_ok-target.behind)
named c b =
    let names = c.args.self.now.names.now in
    let n = c.begin_statement.new.self in
    let begun = c.in_ok-begin_statement.ensures in
    on (start loop_language _ _ _) (c.in_ok-target.ensures.reads fault next
    (between names c.args.self.now.unset.items c.args.begun.now b)
    (λ i. in_statement names c.args.self.now.unset.items n b (i ∷ []) [])
    (only names c.args.self.now.unset.items c.args.begun.now n b begun.limit begun.count))

pub returns-in_err-right-clause-goes : goal.returns-in_err-right-clause-goes
returns-in_err-right-clause-goes c = λ b.
    stops_going (named (goal.at-returns-in_err-right-clause-goes c).In_ok-target
    (behind b (map statement_of c.args.self.now.statements.items))) _
    (err_from_is_err_and c.from_residual-in_err-right.result
    c.from_residual-in_err-right.ensures.1) (c.in_err-right.ensures.goes (λ c. c) keep _)

pub returns-in_err-behind-clause-goes : goal.returns-in_err-behind-clause-goes
returns-in_err-behind-clause-goes c = λ b.
    let now = behind b (map statement_of c.args.self.now.statements.items) in
    stops_going (on (named (goal.at-returns-in_err-behind-clause-goes c).In_ok-target now)
    (c.in_ok-right.ensures.goes (λ c. c) keep _)) _
    (err_from_is_err_and c.from_residual-in_err-behind.result
    c.from_residual-in_err-behind.ensures.1)
    (rw (c.deref.ensures.value, c.new-values.ensures.items) at c.in_err-behind.ensures.goes
    c.begin_statement.new.self now (c.in_ok-target.target ∷ []))

pub returns-in_err-end-clause-goes : goal.returns-in_err-end-clause-goes
returns-in_err-end-clause-goes c = λ b.
    let now = behind b (map statement_of c.args.self.now.statements.items) in
    let right = on (named (goal.at-returns-in_err-end-clause-goes c).In_ok-target now)
    (c.in_ok-right.ensures.goes (λ c. c) keep _) in
    stops_last_going (on right (rw (c.deref.ensures.value, c.new-values.ensures.items) at
    c.in_ok-behind.ensures.goes c.begin_statement.new.self now (c.in_ok-target.target
    ∷ []))) _ (err_from_is_err_and c.from_residual-in_err-end.result
    c.from_residual-in_err-end.ensures.1)
    (c.in_err-end.ensures.goes end_statement with_statement _)

pub returns-clause-goes : goal.returns-clause-goes
returns-clause-goes c = λ b.
    let o = c.args.self.now in
    let n = c.begin_statement.new.self in
    let now = behind b (map statement_of o.statements.items) in
    let end = rest c.in_ok-end.end in
    let right = on (named (goal.at-returns-clause-goes c).In_ok-target now)
    (c.in_ok-right.ensures.goes (λ c. c) keep _) in
    ap (λ s. Ok (s, end)) (c.in_ok-push_statement.ensures n b)
    ∙ ap (λ is. Ok (behind_statement o is c.read_value.new.values.items n b, end))
    c.in_ok-targets.ensures.items
    ∙ ends (on right (rw (c.deref.ensures.value, c.new-values.ensures.items) at
    c.in_ok-behind.ensures.goes n now (c.in_ok-target.target ∷ [])))
    (c.in_ok-end.ensures.goes end_statement with_statement _)
