use Rattle.std.proofs.Common.{arith, map, ap, ◌∙◌}
use Rattle.std.proofs.lemmas.Grind.{common_steps}
use Rattle.algebra.proofs.Lists.{have_more}
use Rattle.cert_form.proofs.Each.{passed}
use Rattle.cert_form.proofs.Paths.{place_is}
use Rattle.task_lists.specs.View.{branch_in, round_in}
use Rattle.task_lists.specs.Images.{AreBranchesIn}
use Rattle.full_cert.specs.Form.{last_given}
use Rattle.full_cert.proofs.EachRound.{rounds_more, rounds_fault}
use Rattle.full_cert.proofs.round.RoundReader.read_each_round.Goals as goal

pub loop-i-preserved : goal.loop-i-preserved
loop-i-preserved c =
    let r = c.args.self.now in
    record {
      count = grind (arith, common_steps);
      short = c.last_given-before.ensures.short;
      images = have_more (AreBranchesIn r.variables r.forms.now) _ _ _ c.in_ok-push.ensures.items
          c.loop-i.invariant.images c.in_ok-round.ensures.images;
      so_far = rounds_more round_in r.variables r.before _ _ _ _ _ _ c.loop-i.invariant.so_far
          c.loop-i-test.true c.index-list-i.is (place_is _ _) c.in_ok-round.ensures.reads
          c.in_ok-push.ensures.items (c.last_given-before.ensures.given
          ∙ ap (λ bs. last_given c.loop-i.before (map branch_in bs)) c.deref.ensures.value);
    }

pub returns-in_err-round-clause-reads : goal.returns-in_err-round-clause-reads
returns-in_err-round-clause-reads c = passed _ _ _ _ c.from_residual.ensures.1
    (rounds_fault round_in c.args.self.now.variables c.args.self.now.before _ _ _ _ _ _
    c.loop-i.invariant.so_far c.loop-i-test.true c.index-list-i.is (place_is _ _) _
    c.in_err-round.ensures.reads)
