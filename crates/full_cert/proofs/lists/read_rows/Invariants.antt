use Rattle.std.proofs.Common.{◌≡◌, vec_len}
use Rattle.poly.specs.Seen.{terms_each}
use Rattle.cert_form.specs.Path.{path_bytes}
use Rattle.full_cert.specs.Tables.{raws_with}
use Rattle.task_lists.specs.Rows.{HaveImages}
use Rattle.full_cert.proofs.Each.{EachSoFar}
use Rattle.full_cert.proofs.lists.read_rows.Given as goal

abbrev pub invariant-loop-i : goal.invariant-loop-i
invariant-loop-i g l = record {
  count : vec_len l.found ≡ l.i;
  images : HaveImages l.order l.arity l.found.items;
  so_far : EachSoFar (λ row. terms_each row.items) (raws_with l.count (g.O.Order.order l.order)
      l.arity)
      (path_bytes l.path) l.list l.i l.found.items;
}
