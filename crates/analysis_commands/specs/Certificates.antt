-- What is told of an analysis that has found its list.
--   certificate_text names c     the text of the certificate c, and a line feed
--   found_text kind names c      the basis of c, or the certificate
use Rattle.std.specs.Prelude.{ℕ, List}
use Rattle.loops.specs.Certificate.{Certificate}
use Rattle.cert_form.specs.Written.{text_of}
use Rattle.command_parts.specs.BasisTexts.{line, basis_text}
use Rattle.analysis_commands.specs.declared.kind.Kind.{Kind}
use Rattle.analysis_commands.specs.declared.kind.Kind.TheVariants as kinds

abbrev pub certificate_text : List (List ℕ) → Certificate → List ℕ
certificate_text names c = line (text_of names c)

abbrev pub found_text : Kind → List (List ℕ) → Certificate → List ℕ
found_text kinds.Basis names c = basis_text names c.basis
found_text kinds.Certificate names c = certificate_text names c
