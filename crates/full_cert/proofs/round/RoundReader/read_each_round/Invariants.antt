use Rattle.std.proofs.Common.{◌≡◌, ◌<◌, vec_len, map}
use Rattle.std.specs.Prelude.{All}
use Rattle.cert_form.specs.Path.{path_bytes}
use Rattle.task_lists.specs.View.{form_in, round_in}
use Rattle.full_cert.specs.Form.{given_bound}
use Rattle.task_lists.specs.Images.{AreBranchesIn}
use Rattle.full_cert.proofs.EachRound.{RoundsSoFar}
use Rattle.full_cert.proofs.round.RoundReader.read_each_round.Given as goal

abbrev pub invariant-loop-i : goal.invariant-loop-i
invariant-loop-i l = record {
  count : vec_len l.found ≡ l.i;
  short : l.before < given_bound;
  images : All (AreBranchesIn l.self.variables l.self.forms.now) l.found.items;
  so_far : RoundsSoFar round_in l.self.variables l.self.before (map form_in l.self.forms.now)
      (path_bytes l.path) l.list l.before l.i l.found.items;
}
