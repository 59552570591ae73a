use Rattle.std.proofs.Common.{refl, ap, ◌∷◌, [], ◌++◌, ◌∙◌, Ok}
use Rattle.loop_text.proofs.Answering.{err_from_is_err_and, rest, start, stops_last_going, name_fault, target_fault, aim, loop_language, in_statement}
use Rattle.loop_text.proofs.statements.read_target.Goals as goal

pub returns-in_err-target-clause-goes : goal.returns-in_err-target-clause-goes
returns-in_err-target-clause-goes c = λ us n b.
    let before = c.args.targets.now.items in
    let s = in_statement c.args.names.now us n b before [] in
    stops_last_going (start loop_language _ _ _) _ (err_from_is_err_and c.from_residual.result
    c.from_residual.ensures.1)
    (rw c.deref.ensures.value at c.in_err-target.ensures.reads (λ c w.
    name_fault c w (target_fault c)) aim s (λ i. in_statement c.args.names.now us n b
    (before ++ i ∷ []) []) (record { faults = λ w. refl; goes = λ w. refl }))

pub returns-clause-goes : goal.returns-clause-goes
returns-clause-goes c = λ us n b.
    let before = c.args.targets.now.items in
    ap (λ is. Ok (in_statement c.args.names.now us n b is [], rest c.in_ok-target.end))
    c.in_ok-push.ensures.items
    ∙ rw c.deref.ensures.value at c.in_ok-target.ensures.reads (λ c w.
    name_fault c w (target_fault c)) aim (in_statement c.args.names.now us n b before [])
    (λ i. in_statement c.args.names.now us n b (before ++ i ∷ []) [])
    (record { faults = λ w. refl; goes = λ w. refl })
