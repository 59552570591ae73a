use Rattle.std.proofs.Common.{◌≡◌, vec_len}
use Rattle.std.specs.Prelude.{All}
use Rattle.poly.specs.Seen.{terms_in, IsImage}
use Rattle.cert_form.specs.Path.{path_bytes}
use Rattle.full_cert.specs.Raw.{raw_at}
use Rattle.full_cert.proofs.Each.{EachSoFar}
use Rattle.full_cert.proofs.lists.read_each.Given as goal

abbrev pub invariant-loop-i : goal.invariant-loop-i
invariant-loop-i g l = record {
  count : vec_len l.found ≡ l.i;
  images : All (IsImage l.order l.arity) l.found.items;
  so_far : EachSoFar terms_in (raw_at (g.O.Order.order l.order) l.arity)
      (path_bytes l.path) l.list l.i l.found.items;
}
