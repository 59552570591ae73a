use Rattle.std.proofs.Common.{◌≡◌, ◌<◌, vec_len, take}
use Rattle.std.specs.Prelude.{IfSome}
use Rattle.std.specs.List.{AllZip}
use Rattle.cert_form.specs.Path.{path_bytes}
use Rattle.task_lists.specs.View.{form_in, branch_in}
use Rattle.full_cert.specs.Form.{given_bound}
use Rattle.task_lists.specs.Images.{IsBranchIn}
use Rattle.full_cert.proofs.EachBranch.{BranchesSoFar}
use Rattle.full_cert.proofs.round.RoundReader.read_branches.Given as goal

abbrev pub invariant-loop-i : goal.invariant-loop-i
invariant-loop-i l = record {
  count : vec_len l.found ≡ l.i;
  short : IfSome l.so_far (λ n. n < given_bound);
  images : AllZip (IsBranchIn l.self.variables) (take l.i l.self.forms.now) l.found.items;
  so_far : BranchesSoFar branch_in form_in l.self.variables l.self.before l.self.forms.now
      (path_bytes l.path) l.list l.so_far l.i l.found.items;
}
