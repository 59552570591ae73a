use Rattle.std.proofs.Common.{rules, ◌≤◌, length}
use Rattle.monos.proofs.Shorts.{few_lcm}
use Rattle.monos.proofs.Mono.lcm_of_lists.Goals as goal

pub returns-in_err-maxima-clause-short : goal.returns-in_err-maxima-clause-short
returns-in_err-maxima-clause-short c = λ short.
    let few : length c.args.self.now ≤ 16 = few_lcm c.args.self.now c.args.other.now c.requires
    short in
    search rules
