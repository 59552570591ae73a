use Rattle.std.proofs.Common.{◌≡◌, ◌<◌, ◌-◌, length, sym, ap, ◌∙◌, arith}
use Rattle.loop_model.proofs.BranchMaps.{count_seen}
use Rattle.corollaries.specs.Full.{so_far}
use Rattle.cert_checker.specs.FullJudge.{program_by, cert_by}
use Rattle.cert_checker.proofs.Branches.{before_none, before_is, last_branch}
use Rattle.cert_checker.proofs.Begun.{in_round, given_here, given_over}
use Rattle.cert_checker.proofs.full_judge.FullJudge.list_before.Goals as goal
use Rattle.cert_checker.proofs.full_judge.FullJudge.list_before.Goals.{After-branches}

-- the round before, and the last branch
module _ (c : After-branches) where
  some : 0 < c.args.round
  some = grind (arith, c.if-round-eq0.false)

  earlier : c.args.round - 1 < length (cert_by c.args.self.now).rounds
  earlier = omega (arith, some, c.requires.round)

  count : length c.branches.result.now ≡ length (program_by c.args.self.now).branches
  count = count_seen _ _ _ c.branches.ensures.branches

  last : length c.branches.result.now - 1 < length (program_by c.args.self.now).branches
  last = omega (arith, count, c.branches.ensures.some)

pub returns-then-round-eq0-clause-before : goal.returns-then-round-eq0-clause-before
returns-then-round-eq0-clause-before c = before_none (program_by c.args.self.now)
    (cert_by c.args.self.now) c.args.round c.if-round-eq0.true

pub index-requires-2 : goal.index-requires-2
index-requires-2 c =
    let e = (goal.at.index-requires-2 c).After-branches in
    in_round c.requires.judge (earlier e) c.index.ensures (last e)

pub returns-clause-before : goal.returns-clause-before
returns-clause-before c =
    let e = (goal.at.returns-clause-before c).After-branches in
    let program = program_by c.args.self.now in
    let cert = cert_by c.args.self.now in
    c.list_of.ensures.given
    ∙ given_here c.requires.judge (earlier e) c.index.ensures (last e) c.index-2.ensures
    ∙ ap (so_far cert (c.args.round - 1)) (ap (λ n. n - 1) (count e)
    ∙ sym (last_branch (length program.branches)))
    ∙ sym (before_is program cert c.requires.judge.counted c.args.round (some e))

pub returns-clause-over : goal.returns-clause-over
returns-clause-over c =
    let e = (goal.at.returns-clause-over c).After-branches in
    c.list_of.ensures.over (length (program_by c.args.self.now).names)
    (given_over c.requires.judge (earlier e) c.index.ensures (last e) c.index-2.ensures)
