use Rattle.std.proofs.Common.{refl, ap, ◌∷◌, [], ◌++◌, ◌∙◌, Ok}
use Rattle.program_text.proofs.Answering.{err_from_is_err_and, rest, start, stops_last_going, target_fault, aim, word_keeps, program_language, in_set}
use Rattle.program_text.proofs.assignments.Reader.target.Goals as goal

pub returns-in_err-target-clause-goes : goal.returns-in_err-target-clause-goes
returns-in_err-target-clause-goes c = λ n d w.
    let before = c.args.targets.now.items in
    let names = c.args.self.now.names.now in
    stops_last_going (start program_language _ _ _) _ (err_from_is_err_and c.from_residual.result
    c.from_residual.ensures.1)
    (rw c.deref.ensures.value at c.in_err-target.ensures.reads target_fault aim word_keeps
    (in_set names n d w before [] []) (λ i. in_set names n d w (before ++ i ∷ []) [] [])
    (record { faults = λ w. refl; goes = λ w. refl }))

pub returns-clause-goes : goal.returns-clause-goes
returns-clause-goes c = λ n d w.
    let before = c.args.targets.now.items in
    let names = c.args.self.now.names.now in
    ap (λ is. Ok (in_set names n d w is [] [], rest c.in_ok-target.end)) c.in_ok-push.ensures.items
    ∙ rw c.deref.ensures.value at c.in_ok-target.ensures.reads target_fault aim word_keeps
    (in_set names n d w before [] []) (λ i. in_set names n d w (before ++ i ∷ []) [] [])
    (record { faults = λ w. refl; goes = λ w. refl })
