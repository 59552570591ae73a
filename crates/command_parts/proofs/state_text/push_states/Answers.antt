use Rattle.std.proofs.Common.{rules, string_bytes, arith}
use Rattle.command_parts.proofs.StateLaws.{state_pushed, states_pushed}
use Rattle.command_parts.proofs.state_text.push_states.Goals as goal

pub loop-state-preserved : goal.loop-state-preserved
loop-state-preserved c =
    state_pushed (string_bytes c.args.text.now) (string_bytes c.loop-state.text) _ c.args.names.now
    c.args.states.now c.loop-state.state-index c.state-item.result (omega arith) c.state-item.is
    c.loop-state.invariant (search rules)

pub returns : goal.returns
returns c =
    states_pushed (string_bytes c.args.text.now) (string_bytes c.loop-state.text) c.args.names.now
    c.args.states.now c.loop-state.state-index (omega arith) c.loop-state.invariant
