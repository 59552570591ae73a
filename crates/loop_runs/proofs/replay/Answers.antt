use Rattle.std.proofs.Common.{◌≡◌, ◌∙◌, sym, ap, ap₂, subst, length, rules, vec_len, None}
use Rattle.std.proofs.lemmas.Result.{err_from_is_err_and}
use Rattle.std.proofs.lemmas.List.{length-map}
use Rattle.frac128.specs.FracMeaning.{fraction_of}
use Rattle.loop_model.specs.View.{program_of}
use Rattle.loop_runs.specs.Replay.{start_fault}
use Rattle.loop_runs.specs.Seen.{numbers_of, fault_of, IsWithin}
use Rattle.loop_runs.proofs.replay.Goals as goal
use Rattle.loop_runs.proofs.Fits.{equations_here}
use Rattle.loop_runs.proofs.Runs.{answer_starts, answer_states}
use Rattle.loop_runs.proofs.Iterations.{start_passes, within_more, replayed_count, replayed_start, replayed_on}

pub returns-then-len-variables-clause-replays : goal.returns-then-len-variables-clause-replays
returns-then-len-variables-clause-replays c =
    let program = program_of c.args.lp.now in
    let s = numbers_of c.args.start.now.items in
    let long : length c.args.start.now.items ≡ vec_len c.args.start.now = search rules in
    let given : length s ≡ c.len-then-len-variables.result = length-map c.args.start.now.items
    fraction_of ∙ long ∙ sym c.len-then-len-variables.ensures in
    let wanted : length program.names ≡ c.len-variables.result =
    ap length (sym c.names.ensures.names) ∙ sym c.len-variables.ensures.len in
    rw (← given, ← wanted) (replayed_count program s c.args.word.now.items
    (λ e. c.if-len-variables.true (c.len.ensures ∙ sym c.len-then-len-variables.ensures
    ∙ sym given ∙ e ∙ wanted)))

pub check_start-requires : goal.check_start-requires
check_start-requires c =
    let same : length c.deref.result.now ≡ length (program_of c.args.lp.now).names =
    c.deref.ensures.len ∙ sym c.len.ensures ∙ c.if-len-variables.false ∙ c.len-variables.ensures.len
    ∙ ap length c.names.ensures.names in
    rw same (equations_here c.args.lp.now c.start.result.now c.start.ensures)

pub returns-in_err-check_start-clause-replays : goal.returns-in_err-check_start-clause-replays
returns-in_err-check_start-clause-replays c =
    let program = program_of c.args.lp.now in
    let s = numbers_of c.args.start.now.items in
    let same : length s ≡ length program.names =
    ap (λ xs. length (numbers_of xs)) (sym c.deref.ensures.value)
    ∙ length-map c.deref.result.now fraction_of
    ∙ c.deref.ensures.len ∙ sym c.len.ensures ∙ c.if-len-variables.false
    ∙ c.len-variables.ensures.len ∙ ap length c.names.ensures.names in
    let fault : fault_of c.in_err-check_start.field-0.0 ≡ start_fault program.init s =
    c.in_err-check_start.ensures.fault
    ∙ ap₂ start_fault c.start.ensures (ap numbers_of c.deref.ensures.value) in
    let p = err_from_is_err_and c.from_residual.result c.from_residual.ensures.1 in
    rw (p.1, p.2) (start_passes c.in_err-check_start.field-0.0 _ _ fault (λ f e.
    replayed_start program s c.args.word.now.items same f e))

pub returns-clause-replays : goal.returns-clause-replays
returns-clause-replays c =
    let program = program_of c.args.lp.now in
    let s = numbers_of c.args.start.now.items in
    let same : length s ≡ length program.names =
    ap (λ xs. length (numbers_of xs)) (sym c.deref.ensures.value)
    ∙ length-map c.deref.result.now fraction_of
    ∙ c.deref.ensures.len ∙ sym c.len.ensures ∙ c.if-len-variables.false
    ∙ c.len-variables.ensures.len ∙ ap length c.names.ensures.names in
    let none : None ≡ start_fault program.init s =
    c.in_ok-check_start.ensures.fault
    ∙ ap₂ start_fault c.start.ensures (ap numbers_of c.deref.ensures.value) in
    rw (replayed_on program s c.args.word.now.items same none, ← c.deref-2.ensures.value)
    c.follow.ensures.follows

pub returns-clause-start : goal.returns-clause-start
returns-clause-start c = answer_starts c.args.lp.now c.args.start.now.items c.args.word.now.items
    c.follow.result (returns-clause-replays c)

pub returns-clause-states : goal.returns-clause-states
returns-clause-states c = answer_states c.args.lp.now c.args.start.now.items c.args.word.now.items
    c.follow.result (returns-clause-replays c)

pub returns-in_err-check_start-clause-within : goal.returns-in_err-check_start-clause-within
returns-in_err-check_start-clause-within c =
    let program = program_of c.args.lp.now in
    let same : length c.deref.result.now ≡ length program.names =
    c.deref.ensures.len ∙ sym c.len.ensures ∙ c.if-len-variables.false ∙ c.len-variables.ensures.len
    ∙ ap length c.names.ensures.names in
    let p = err_from_is_err_and c.from_residual.result c.from_residual.ensures.1 in
    rw (p.1, p.2) (within_more (length program.names) (length program.locals)
    c.in_err-check_start.field-0.0 (subst (λ n. IsWithin n c.in_err-check_start.field-0.0)
    same c.in_err-check_start.ensures.within))
