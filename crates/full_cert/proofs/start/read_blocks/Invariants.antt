use Rattle.std.proofs.Common.{◌≡◌, vec_len}
use Rattle.std.specs.Prelude.{All}
use Rattle.cert_form.specs.Path.{path_bytes}
use Rattle.task_lists.specs.Rows.{rows_of}
use Rattle.full_cert.specs.PartsForm.{block_at}
use Rattle.task_lists.specs.Images.{AreRows}
use Rattle.full_cert.proofs.Each.{EachSoFar}
use Rattle.full_cert.proofs.start.read_blocks.Given as goal

abbrev pub invariant-loop-i : goal.invariant-loop-i
invariant-loop-i l = record {
  count : vec_len l.found ≡ l.i;
  images : All (AreRows l.variables) l.found.items;
  so_far : EachSoFar (λ b. rows_of b.items) (block_at l.variables l.elements) (path_bytes l.path)
      l.list l.i l.found.items;
}
