use Rattle.std.proofs.Common.{◌≡◌, ◌+◌, drop, if◌then◌else◌}
use Rattle.poly_text.specs.Tokens.{blank_len, comment_len}
use Rattle.poly_text.proofs.tokens.skip_blanks.Given as goal

abbrev pub invariant-loop-at : goal.invariant-loop-at
invariant-loop-at l = l.from + blank_len (drop l.from l.text) ≡ l.at + (if l.in_comment
    then comment_len (drop l.at l.text) else blank_len (drop l.at l.text))
