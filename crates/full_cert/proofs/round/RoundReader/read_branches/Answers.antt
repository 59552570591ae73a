use Rattle.std.proofs.Common.{get_or, ap, rules, arith}
use Rattle.std.proofs.lemmas.Grind.{common_steps}
use Rattle.cert_form.proofs.Each.{passed}
use Rattle.cert_form.proofs.Paths.{place_is}
use Rattle.task_lists.specs.View.{form_in, branch_in}
use Rattle.full_cert.proofs.EachBranch.{branches_start, branches_none, branches_more, branches_fault, branches_in}
use Rattle.full_cert.proofs.round.RoundReader.read_branches.Goals as goal

pub loop-i-init : goal.loop-i-init
loop-i-init c =
    let r = c.args.self.now in
    record {
      count = grind (arith, common_steps);
      short = tt;
      images = branches_none r.variables r.forms.now c.new-found.ensures.items;
      so_far = branches_start branch_in form_in r.variables r.before r.forms.now _ _
          c.new-found.ensures.items;
    }

pub loop-i-preserved : goal.loop-i-preserved
loop-i-preserved c =
    let r = c.args.self.now in
    let its = ap (get_or r.forms.now c.loop-i.i) c.index-self-i.is in
    record {
      count = grind (arith, common_steps);
      short = c.given.ensures.short;
      images = branches_in r.variables r.forms.now c.loop-i.i _ (search rules) its
          c.loop-i.invariant.images c.in_ok-branch.ensures.images c.in_ok-push.ensures.items;
      so_far = branches_more branch_in form_in r.variables r.before r.forms.now _ _ _ _ _
          c.loop-i.invariant.so_far c.loop-i-test.true (search rules) c.index-list-i.is its
          (place_is _ _) c.in_ok-branch.ensures.reads c.in_ok-push.ensures.items
          c.given.ensures.given;
    }

pub returns-in_err-branch-clause-reads : goal.returns-in_err-branch-clause-reads
returns-in_err-branch-clause-reads c =
    let r = c.args.self.now in
    passed _ _ _ _ c.from_residual.ensures.1 (branches_fault branch_in form_in r.variables r.before
    r.forms.now _ _ _ _ _ c.loop-i.invariant.so_far c.loop-i-test.true (search rules)
    c.index-list-i.is (ap (get_or r.forms.now c.loop-i.i) c.index-self-i.is) (place_is _ _) _
    c.in_err-branch.ensures.reads)
