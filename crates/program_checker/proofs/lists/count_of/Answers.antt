use Rattle.std.proofs.Common.{rules}
use Rattle.cert_form.proofs.Each as each_laws
use Rattle.program_checker.proofs.lists.count_of.Goals as goal

pub returns-in-Some : goal.returns-in-Some
returns-in-Some c = search (rules, each_laws.count_is)
