use Rattle.std.proofs.Common.{◌≡◌, ◌++◌, string_bytes, take}
use Rattle.command_parts.proofs.StateLaws.{joined, entries}
use Rattle.command_parts.proofs.state_text.push_state.Given as goal

abbrev pub invariant-loop-index : goal.invariant-loop-index
invariant-loop-index l =
    string_bytes l.text ≡ string_bytes l.initial.text ++ joined
    (take l.index (entries l.names l.state))
