use Rattle.std.proofs.Common.{◌≡◌, ◌+◌, ◌++◌, ◌∙◌, sym, ap, subst, map, take, length, replicate, All, arith}
use Rattle.std.proofs.lemmas.Result.{err_from_is_err_and}
use Rattle.std.proofs.lemmas.List.{length-append, length-replicate, length-map, length-take-le}
use Rattle.algebra.specs.Fraction.{ℚ}
use Rattle.frac128.specs.FracMeaning.{fraction_of}
use Rattle.loops.specs.WellFormed.{IsStatement}
use Rattle.loop_model.specs.Parts.{statement_of}
use Rattle.loop_runs.specs.Seen.{numbers_of, IsWithin}
use Rattle.loop_runs.proofs.Iterations.{passes_on, padded, iteration_read, iteration_stops}
use Rattle.loop_runs.proofs.steps.after_iteration.Goals as goal
use Rattle.loop_runs.proofs.steps.after_iteration.Goals.{In_ok-resize}

zeros_behind : (c : In_ok-resize) → numbers_of c.resize.new.self.items
    ≡ numbers_of c.args.state.items ++ replicate c.args.locals ℚ.zero
zeros_behind c =
    let long = c.args.state.ok in
    let size = c.len-variables.ensures in
    padded _ _ c.args.locals c.args.state.items c.resize.new.self.items c.zero.result
    (omega (arith, long.0, size)) (omega (arith, long.0, size)) c.zero.ensures
    c.in_ok-resize.ensures.items

pub returns-in_err-after-clause-end : goal.returns-in_err-after-clause-end
returns-in_err-after-clause-end c =
    let p = err_from_is_err_and c.from_residual-in_err-after.result
    c.from_residual-in_err-after.ensures.1 in
    rw (p.1, p.2) (passes_on c.in_err-after.field-0.0 _ _ c.in_err-after.ensures.end
    (λ f e. iteration_stops (length c.args.state.items) c.args.locals c.args.step
    (map statement_of c.args.branch.now) (numbers_of c.args.state.items)
    c.resize.new.self.items f
    (zeros_behind (goal.at-returns-in_err-after-clause-end c).In_ok-resize) e))

long : (c : In_ok-resize) → length c.resize.new.self.items ≡ length c.args.state.items
    + c.args.locals
long c =
    sym (length-map c.resize.new.self.items fraction_of) ∙ ap length (zeros_behind c)
    ∙ length-append (numbers_of c.args.state.items) (replicate c.args.locals ℚ.zero)
    ∙ ap (λ n. n + length (replicate c.args.locals ℚ.zero)) (length-map c.args.state.items
    fraction_of)
    ∙ ap (λ n. length c.args.state.items + n) (length-replicate c.args.locals ℚ.zero)

pub after_branch-requires : goal.after_branch-requires
after_branch-requires c = subst (λ n. All (λ s. IsStatement n (statement_of s)) c.args.branch.now)
    (sym (long (goal.at-after_branch-requires c).In_ok-resize)) c.requires.statements

pub returns-in_err-after-clause-within : goal.returns-in_err-after-clause-within
returns-in_err-after-clause-within c =
    let p = err_from_is_err_and c.from_residual-in_err-after.result
    c.from_residual-in_err-after.ensures.1 in
    rw (p.1, p.2) (subst (λ n. IsWithin n c.in_err-after.field-0.0)
    (long (goal.at-returns-in_err-after-clause-within c).In_ok-resize)
    c.in_err-after.ensures.within)

pub returns-clause-end : goal.returns-clause-end
returns-clause-end c =
    let size = c.len-variables.ensures in
    let cut = c.truncate.ensures.items ∙ ap (λ n. take n c.in_ok-after.after.items) (size
    ∙ c.args.state.ok.0) in
    iteration_read (length c.args.state.items) c.args.locals c.args.step
    (map statement_of c.args.branch.now) (numbers_of c.args.state.items) c.resize.new.self.items
    c.in_ok-after.after.items c.truncate.new.self.items
    (zeros_behind (goal.at-returns-clause-end c).In_ok-resize) c.in_ok-after.ensures.end cut

pub returns-clause-len : goal.returns-clause-len
returns-clause-len c =
    let size = c.len-variables.ensures in
    let whole = c.in_ok-after.ensures.len ∙ long (goal.at-returns-clause-len c).In_ok-resize in
    ap length c.truncate.ensures.items ∙ length-take-le c.len-variables.result
    c.in_ok-after.after.items (omega (arith, whole, size, c.args.state.ok.0)) ∙ size
    ∙ c.args.state.ok.0
