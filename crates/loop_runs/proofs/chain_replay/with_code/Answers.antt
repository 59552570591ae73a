use Rattle.std.proofs.Common.{◌≡◌, ◌<◌, ◌∙◌, ◌-◌, ap, subst, length, arith}
use Rattle.std.specs.Prelude.{IfSome}
use Rattle.std.proofs.lemmas.Bool.Decides.{nat_tests}
use Rattle.std.proofs.lemmas.Result.{IfOk-weaker}
use Rattle.loop_model.specs.View.{program_of}
use Rattle.loop_runs.specs.Parts.{code_in}
use Rattle.loop_runs.specs.Seen.{states_or_fault}
use Rattle.loop_runs.specs.ChainReplay.{with_word}
use Rattle.loop_runs.specs.ChainRunsSeen.{states_of}
use Rattle.loop_runs.proofs.Following.{code_length, code_as_word, no_code, no_step, one_step}
use Rattle.loop_runs.proofs.chain_replay.with_code.Goals as goal
use Rattle.loop_runs.proofs.chain_replay.with_code.Goals.{Then-is_empty, Else-is_empty}

-- the code has as many statements as the one branch
none : (c : Then-is_empty) → length (code_in c.args.code.now) ≡ 0
none c =
    let b = c.index-branches-0.result in
    let e : length b.items ≡ 0 = grind (arith, nat_tests, c.if-is_empty.ensures) in
    code_length c.args.code.now c.branches.result.now b c.branches.ensures.branches
    c.branches.ensures.some c.index-branches-0.is ∙ e

some : (c : Else-is_empty) → 0 < length (code_in c.args.code.now)
some c =
    let b = c.index-branches-0.result in
    let e : 0 < length b.items = grind (arith, nat_tests, c.if-is_empty.ensures) in
    let q = code_length c.args.code.now c.branches.result.now b c.branches.ensures.branches
    c.branches.ensures.some c.index-branches-0.is in
    omega (arith, e, q)

pub returns-then-is_empty-clause-states : goal.returns-then-is_empty-clause-states
returns-then-is_empty-clause-states c =
    no_code c.args.code.now (states_of c.args.states.items) c.args.letters
    (length c.args.states.items - 1) (none c)

pub returns-then-is_empty-clause-count : goal.returns-then-is_empty-clause-count
returns-then-is_empty-clause-count c =
    let e = no_step (code_in c.args.code.now) (none c) in omega (arith, e)

pub returns-clause-states : goal.returns-clause-states
returns-clause-states c =
    let program = program_of c.args.code.now in
    let ss = states_of c.args.states.items in
    let steps = length c.args.states.items - 1 in
    subst (λ x. IfSome (states_or_fault c.with_word.result) (λ r. r ≡ x))
    (ap (λ w. with_word program c.args.letters steps w ss) c.in_ok-once.ensures.items
    ∙ code_as_word c.args.code.now ss c.args.letters steps c.requires.once c.requires.free
    (some (goal.at-returns-clause-states c).Else-is_empty))
    c.with_word.ensures.states

pub returns-clause-count : goal.returns-clause-count
returns-clause-count c =
    let letters = ap length c.in_ok-once.ensures.items in
    let step = one_step (code_in c.args.code.now)
    (some (goal.at-returns-clause-count c).Else-is_empty) in
    IfOk-weaker c.with_word.result _ _ (λ found e. omega (arith, e, letters, step))
    c.with_word.ensures.count
