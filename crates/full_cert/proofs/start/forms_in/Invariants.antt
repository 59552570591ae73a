use Rattle.std.proofs.Common.{◌≡◌, vec_len}
use Rattle.std.specs.Prelude.{All}
use Rattle.cert_form.specs.Path.{path_bytes}
use Rattle.full_cert.specs.PartsForm.{form_at}
use Rattle.task_lists.specs.Images.{IsFormOver}
use Rattle.task_lists.specs.View.{form_in}
use Rattle.full_cert.proofs.Each.{EachSoFar}
use Rattle.full_cert.proofs.start.forms_in.Given as goal

abbrev pub invariant-loop-i : goal.invariant-loop-i
invariant-loop-i l = record {
  count : vec_len l.found ≡ l.i;
  images : All (IsFormOver l.variables) l.found.items;
  so_far : EachSoFar (form_in) (form_at l.variables) (path_bytes l.path) l.list l.i l.found.items;
}
