use Rattle.std.proofs.Common.{◌≡◌, vec_len}
use Rattle.std.specs.Prelude.{unsigned_abs}
use Rattle.cert_form.specs.Path.{path_bytes}
use Rattle.full_cert.proofs.Each.{EachSoFar}
use Rattle.frac128.specs.declared.Whole.{Whole}
use Rattle.full_cert.specs.PartsForm.{base_number_at}
use Rattle.full_cert.proofs.form.base_numbers.Given as goal

abbrev pub invariant-loop-i : goal.invariant-loop-i
invariant-loop-i l = record {
  count : vec_len l.found ≡ l.i;
  so_far : EachSoFar (λ (w : Whole). unsigned_abs w.value) base_number_at
      (path_bytes l.path) l.list l.i l.found.items;
}
