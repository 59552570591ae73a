-- The refusals of proofs as the definitions see them.
--   proving_answer n e  what is answered, with the budget n, to divisions that stopped behind a closing; want of memory has none
use Rattle.std.specs.Prelude.{ℕ, Option, Some, None}
use Rattle.closing.specs.declared.proving.ProvingError.{ProvingError}
use Rattle.closing.specs.declared.proving.ProvingError.TheVariants as proving_error
use Rattle.io_edge.specs.Texts.{Answer}
use Rattle.command_parts.specs.FaultTexts.{exhausted_answer}
use Rattle.closing_commands.specs.ProvedTexts.{wide_test_answer}

abbrev pub proving_answer : ℕ → ProvingError → Option Answer
proving_answer n (proving_error.Wide branch element) = Some (wide_test_answer branch element)
proving_answer n proving_error.Budget = Some (exhausted_answer n)
proving_answer n proving_error.Memory = None
