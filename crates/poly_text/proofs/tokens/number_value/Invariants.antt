use Rattle.std.proofs.Common.{◌≡◌, take, pos}
use Rattle.std.specs.Str.Parse.{digits_value}
use Rattle.poly_text.proofs.tokens.number_value.Given as goal

abbrev pub invariant-loop-digit : goal.invariant-loop-digit
invariant-loop-digit l = l.value ≡ pos (digits_value 10 (take l.digit-index l.digits))
