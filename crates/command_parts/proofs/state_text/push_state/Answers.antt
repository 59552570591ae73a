use Rattle.std.proofs.Common.{rules, string_bytes, arith}
use Rattle.std.proofs.lemmas.Result.{on_ok_weaker}
use Rattle.command_parts.proofs.StateLaws.{entry_pushed, line_pushed}
use Rattle.command_parts.proofs.state_text.push_state.Goals as goal

pub loop-index-preserved : goal.loop-index-preserved
loop-index-preserved c =
    entry_pushed (string_bytes c.args.text.now)
    (string_bytes c.loop-index.text) _ c.args.names.now c.args.state.now c.loop-index.index
    (string_bytes c.name.result.now) c.index-state-index.result
    c.requires (omega arith) c.name.ensures c.index-state-index.is c.loop-index.invariant
    (search rules)

pub returns : goal.returns
returns c =
    on_ok_weaker c.push.result
    (line_pushed (string_bytes c.args.text.now)
    (string_bytes c.loop-index.text) _ c.args.names.now c.args.state.now c.loop-index.index
    c.requires (omega arith) c.loop-index.invariant)
    (search rules)
