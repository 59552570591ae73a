use Rattle.std.proofs.Common.{◌≡◌, ◌++◌, string_bytes, take}
use Rattle.command_parts.proofs.StateLaws.{text_of}
use Rattle.command_parts.proofs.state_text.push_states.Given as goal

abbrev pub invariant-loop-state : goal.invariant-loop-state
invariant-loop-state l =
    string_bytes l.text ≡ string_bytes l.initial.text ++ text_of l.names
    (take l.state-index l.states)
