use Rattle.std.proofs.Common.{[], ◌∷◌, ◌++◌, refl, ap, ◌∙◌}
use Rattle.loop_model.specs.declared.statement.Statement.{Statement}
use Rattle.loops.specs.Turning.{places}
use Rattle.loop_text.specs.LoopLayout.{starts}
use Rattle.loop_text.proofs.IterationReads.{some_variable, loop_formed, loop_within, is_loop_of}
use Rattle.loop_text.proofs.sequence_turning.with_iteration.Goals as goal

pub new-lp-requires-clause-some_name : goal.new-lp-requires-clause-some_name
new-lp-requires-clause-some_name c =
    let r = c.requires in
    some_variable c.args.firsts r.made r.some r.nexts c.args.iteration.items r.iteration

pub new-lp-requires-clause-well_formed : goal.new-lp-requires-clause-well_formed
new-lp-requires-clause-well_formed c =
    let r = c.requires in
    let s : Statement = record { targets = c.in_ok-targets.targets; values = c.args.iteration } in
    loop_formed c.args.firsts r.made r.some r.nexts c.args.iteration.items r.iteration
    c.push.new.self
    c.push-2.new.self s (c.in_ok-targets.ensures ∙ ap (places 0) c.len.ensures.len) refl
    (c.in_ok-push.ensures.items ∙ ap (λ l. l ++ s ∷ []) c.new-statements.ensures.items)
    (c.in_ok-push-2.ensures.items
    ∙ ap (λ l. l ++ c.push.new.self ∷ []) c.new-branches.ensures.items) _ c.empty-locals.ensures

pub new-lp-requires-clause-limited : goal.new-lp-requires-clause-limited
new-lp-requires-clause-limited c =
    let r = c.requires in
    let s : Statement = record { targets = c.in_ok-targets.targets; values = c.args.iteration } in
    loop_within c.args.firsts r.made r.some r.nexts c.args.iteration.items r.iteration
    c.push.new.self
    c.push-2.new.self s (c.in_ok-targets.ensures ∙ ap (places 0) c.len.ensures.len) refl
    (c.in_ok-push.ensures.items ∙ ap (λ l. l ++ s ∷ []) c.new-statements.ensures.items)
    (c.in_ok-push-2.ensures.items
    ∙ ap (λ l. l ++ c.push.new.self ∷ []) c.new-branches.ensures.items) _ c.empty-locals.ensures
    c.len.ensures.names

pub returns : goal.returns
returns c = λ ns t.
    let r = c.requires in
    let s : Statement = record { targets = c.in_ok-targets.targets; values = c.args.iteration } in
    is_loop_of c.args.firsts r.made r.some ns c.args.iteration.items t c.push.new.self
    c.push-2.new.self s (c.in_ok-targets.ensures ∙ ap (places 0) c.len.ensures.len) refl
    (c.in_ok-push.ensures.items ∙ ap (λ l. l ++ s ∷ []) c.new-statements.ensures.items)
    (c.in_ok-push-2.ensures.items
    ∙ ap (λ l. l ++ c.push.new.self ∷ []) c.new-branches.ensures.items) _ c.empty-locals.ensures
    _ c.new-lp.ensures (c.in_ok-shown.ensures ∙ ap (starts 0) c.deref.ensures.value) refl
