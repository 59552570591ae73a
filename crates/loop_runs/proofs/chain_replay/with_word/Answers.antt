use Rattle.std.proofs.Common.{◌≡◌, ◌∙◌, sym, ap, subst, ◌-◌, ◌<◌, length, arith}
use Rattle.std.proofs.lemmas.List.{length-map, length-append}
use Rattle.loop_model.specs.View.{program_of}
use Rattle.loop_runs.specs.Seen.{numbers_of}
use Rattle.loop_runs.proofs.Following.{replay_long, has_room, word_found, word_refused, all_joined}
use Rattle.loop_runs.proofs.chain_replay.with_word.Goals as goal

pub remove-requires : goal.remove-requires
remove-requires c =
    let more = c.in-Ok.more in
    let long = replay_long (program_of c.args.lp.now) (numbers_of c.index.result.now.items)
    c.args.word.now.items _ c.in-Ok.ensures.replays in
    let size = length-map more.items (λ s. numbers_of s.items) in
    let len = more.ok.0 in
    omega (arith, long, size, len)

pub refusal_behind-requires-clause-room : goal.refusal_behind-requires-clause-room
refusal_behind-requires-clause-room c =
    let ss = c.args.states.items in
    let steps = c.len-steps.result - 1 in
    let len = c.len-steps.ensures in
    let states = c.args.states.ok in
    let word = c.args.word.now.ok in
    let few = c.args.states.small in
    let short = c.args.word.now.small in
    let some : steps < length ss = (let r = c.requires.few in omega (arith, r, len, states.0)) in
    has_room c.args.lp.now c.requires.free c.args.word.now.items ss c.args.letters steps
    c.index.result.now (omega (arith, some)) (omega (arith, len, states.0)) c.index.ensures
    (subst (λ s. length s.items ≡ length (program_of c.args.lp.now).names) (sym c.index.ensures)
    (c.requires.sizes steps c.index.result.now some))
    c.in-Err.error _ c.in-Err.ensures.replays
    (omega (arith, len, states.0, states.1, few, word.0, word.1, short))

pub returns-in_ok-append-in-Ok-clause-states : goal.returns-in_ok-append-in-Ok-clause-states
returns-in_ok-append-in-Ok-clause-states c =
    let ss = c.args.states.items in
    let steps = c.len-steps.result - 1 in
    let len = c.len-steps.ensures in
    let states = c.args.states.ok in
    let some : steps < length ss = (let r = c.requires.few in omega (arith, r, len, states.0)) in
    word_found c.args.lp.now c.requires.free c.args.word.now.items ss c.args.letters steps
    c.index.result.now (omega (arith, some)) (omega (arith, len, states.0)) c.index.ensures
    (subst (λ s. length s.items ≡ length (program_of c.args.lp.now).names) (sym c.index.ensures)
    (c.requires.sizes steps c.index.result.now some))
    c.in-Ok.more.items c.remove.new.self.items c.append.new.self.items c.in-Ok.ensures.replays
    c.remove.ensures.items c.in_ok-append-in-Ok.ensures.items

pub returns-in_ok-append-in-Ok-clause-count : goal.returns-in_ok-append-in-Ok-clause-count
returns-in_ok-append-in-Ok-clause-count c =
    let more = c.in-Ok.more in
    let long = replay_long (program_of c.args.lp.now) (numbers_of c.index.result.now.items)
    c.args.word.now.items _ c.in-Ok.ensures.replays in
    let size = length-map more.items (λ s. numbers_of s.items) in
    let both = ap length c.in_ok-append-in-Ok.ensures.items
    ∙ length-append c.args.states.items c.remove.new.self.items in
    let cut = c.remove.ensures.len in
    let len = more.ok.0 in
    let rest = c.remove.new.self.ok.0 in
    omega (arith, long, size, both, cut, len, rest)

pub returns-in_ok-append-in-Ok-clause-sizes : goal.returns-in_ok-append-in-Ok-clause-sizes
returns-in_ok-append-in-Ok-clause-sizes c =
    all_joined (λ s. length s.items ≡ length (program_of c.args.lp.now).names) c.args.states.items
    c.in-Ok.more.items c.remove.new.self.items c.append.new.self.items c.requires.sizes
    c.in-Ok.ensures.sizes c.remove.ensures.items c.in_ok-append-in-Ok.ensures.items

pub returns-in-Err-clause-states : goal.returns-in-Err-clause-states
returns-in-Err-clause-states c =
    let ss = c.args.states.items in
    let steps = c.len-steps.result - 1 in
    let len = c.len-steps.ensures in
    let states = c.args.states.ok in
    let some : steps < length ss = (let r = c.requires.few in omega (arith, r, len, states.0)) in
    word_refused c.args.lp.now c.requires.free c.args.word.now.items ss c.args.letters steps
    c.index.result.now (omega (arith, some)) (omega (arith, len, states.0)) c.index.ensures
    (subst (λ s. length s.items ≡ length (program_of c.args.lp.now).names) (sym c.index.ensures)
    (c.requires.sizes steps c.index.result.now some))
    c.in-Err.error c.refusal_behind.result c.in-Err.ensures.replays c.refusal_behind.ensures.fault
