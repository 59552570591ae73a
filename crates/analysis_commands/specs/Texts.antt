-- The answer to an analysis that has found its list.
--   found_answer kind names c     what is told of the certificate c of the basis, as a yes
use Rattle.std.specs.Prelude.{ℕ, List}
use Rattle.loops.specs.Certificate.{Certificate}
use Rattle.analysis_commands.specs.Certificates.{found_text}
use Rattle.analysis_commands.specs.declared.kind.Kind.{Kind}
use Rattle.io_edge.specs.declared.answer.Status.TheVariants as status
use Rattle.io_edge.specs.Texts.{Answer, with_text}

abbrev pub found_answer : Kind → List (List ℕ) → Certificate → Answer
found_answer kind names c = with_text status.Yes (found_text kind names c)
