use Rattle.std.proofs.Common.{◌∙◌, ◌-◌, sym, ap, length, get_or, [], arith}
use Rattle.std.proofs.lemmas.List.{get_or_append_left, get_or-append_right}
use Rattle.std.proofs.lemmas.Option.{get_or_from_slice_get}
use Rattle.loop_model.specs.View.{program_of}
use Rattle.replay_commands.proofs.run_texts.name.Goals as goal

pub returns-then-index-variables : goal.returns-then-index-variables
returns-then-index-variables c =
    let program = program_of c.args.lp.now in
    let size = c.len-variables.ensures.len ∙ ap length c.names.ensures.names in
    get_or_append_left program.names program.locals [] c.args.index (omega (arith, size))
    ∙ ap (λ ns. get_or ns c.args.index []) (sym c.names-then-index-variables.ensures.names)
    ∙ get_or_from_slice_get _ c.args.index _ [] c.name.ensures

pub returns-else-index-variables : goal.returns-else-index-variables
returns-else-index-variables c =
    let program = program_of c.args.lp.now in
    let size = c.len-variables.ensures.len ∙ ap length c.names.ensures.names in
    let behind = c.args.index - c.len-variables.result in
    get_or-append_right program.names program.locals c.len-variables.result c.args.index []
    (sym size) (omega arith)
    ∙ ap (λ ns. get_or ns behind []) (sym c.locals.ensures.locals)
    ∙ get_or_from_slice_get _ behind _ [] c.name-else-index-variables.ensures
