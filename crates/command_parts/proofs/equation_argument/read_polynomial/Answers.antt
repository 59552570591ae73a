use Rattle.std.proofs.Common.{rules, string_bytes}
use Rattle.std.proofs.lemmas.Option.{IfSome_then}
use Rattle.loop_model.specs.View.{program_of}
use Rattle.io_edge.specs.Refusals.{seen_refusal}
use Rattle.command_parts.proofs.Reading.{polynomial_read, refusal_read}
use Rattle.command_parts.proofs.equation_argument.read_polynomial.Goals as goal

pub returns-in-Ok-clause-polynomial : goal.returns-in-Ok-clause-polynomial
returns-in-Ok-clause-polynomial c =
    polynomial_read (program_of c.args.lp.now) (string_bytes c.args.equation.now) _
    c.names.result.now (search rules) c.names.ensures.names c.in-Ok.polynomial c.in-Ok.ensures

pub returns-in-Err-clause-unread : goal.returns-in-Err-clause-unread
returns-in-Err-clause-unread c =
    IfSome_then (seen_refusal c.refusal.result) c.refusal.ensures
    (λ a says. refusal_read (program_of c.args.lp.now) (string_bytes c.args.equation.now) _
    c.names.result.now (search rules) c.names.ensures.names c.in-Err.why c.in-Err.ensures a says)
