use Rattle.std.proofs.Common.{◌≡◌, ◌∙◌, sym, ap, subst, ◌∷◌, ◌-◌, ⊎_elim, inl, inr, All, ℕ, drop, take, length, arith, rules}
use Rattle.std.specs.Iterator.Adapters.{zip_first, zip_second}
use Rattle.std.specs.Slice.Iter.{iter_rest}
use Rattle.std.proofs.lemmas.List.{length-map, take_rest}
use Rattle.std.proofs.lemmas.List.Elements.{All-head, All-tail}
use Rattle.std.proofs.lemmas.Result.{err_from_is_err_and}
use Rattle.std.proofs.lemmas.Slice.Zip.{Zip-more, either_empty_from_Zip}
use Rattle.loops.specs.Program.{Expr, Program}
use Rattle.loop_runs.specs.Seen.{numbers_of}
use Rattle.loop_runs.specs.Replay.{replay_of}
use Rattle.loop_runs.proofs.Iterations.{passes_on}
use Rattle.loop_runs.specs.Parts.{stage_of, stages_in, IsStageOf}
use Rattle.loop_runs.specs.ChainSeen.{chain_in}
use Rattle.loop_runs.specs.ChainReplay.{chain_replay_of}
use Rattle.loop_runs.specs.ChainRunsSeen.{states_of, words_of}
use Rattle.loop_runs.proofs.ChainRuns.{chain_replay_states}
use Rattle.loop_runs.proofs.Following.{words_begin_with_the_first, first_refused, left_begins, behind_code, stops_in_code, behind_word, stops_in_word, words_end, replay_long}
use Rattle.loop_runs.proofs.chain_replay.replay_chain.Goals as goal

pub returns-in_err-states-clause-replays : goal.returns-in_err-states-clause-replays
returns-in_err-states-clause-replays c =
    let chain = chain_in c.args.chain.now in
    let s = numbers_of c.args.start.now.items in
    let w = c.index-words-0.result in
    let rest = words_of (drop 1 c.args.words.now) in
    let split = words_begin_with_the_first c.args.words.now w
    (let r = c.requires in omega (arith, r)) c.index-words-0.is in
    let p = err_from_is_err_and c.from_residual.result c.from_residual.ensures.1 in
    let refused = rw c.first.ensures at c.in_err-states.ensures.replays in
    rw (p.1, p.2, split) (passes_on c.in_err-states.field-0.0 (replay_of chain.first s w.items)
    (chain_replay_of chain s (w.items ∷ rest)) refused
    (λ f h. first_refused chain s w.items rest f h))

pub loop-stage-init : goal.loop-stage-init
loop-stage-init c =
    let chain = chain_in c.args.chain.now in
    let s = numbers_of c.args.start.now.items in
    let w = c.index-words-0.result in
    let states = c.in_ok-states.states.items in
    let split = words_begin_with_the_first c.args.words.now w
    (let r = c.requires in omega (arith, r)) c.index-words-0.is in
    let replayed = rw c.first.ensures at c.in_ok-states.ensures.replays in
    let stages : iter_rest (zip_first c.into_iter-stage-iterator.result) ≡ c.further.result.now =
    search rules in
    let behind : iter_rest (zip_second c.into_iter-stage-iterator.result)
    ≡ take (length c.args.words.now - 1) (drop 1 c.args.words.now) = search rules in
    let long = replay_long chain.first s w.items (states_of states) replayed in
    let size = length-map states (λ t. numbers_of t.items) in
    let letters : c.len-letters.result ≡ length w.items = search rules in
    record {
      left = left_begins chain s w.items (words_of (drop 1 c.args.words.now))
          (words_of c.args.words.now) _ _ (states_of states) c.len-letters.result
          (length states - 1) replayed letters (ap (λ n. n - 1) (sym size)) split
          (ap stages_in stages ∙ c.further.ensures.stages)
          (ap words_of (behind ∙ take_rest c.args.words.now 1));
      few = omega (arith, long, size, letters);
      alike = rw stages c.further.ensures.alike;
      sizes = subst (λ (p : Program (Expr ℕ)). All (λ t. length t.items ≡ length p.names) states)
          c.first.ensures c.in_ok-states.ensures.sizes;
    }

pub returns-in_err-states-2-clause-replays : goal.returns-in_err-states-2-clause-replays
returns-in_err-states-2-clause-replays c =
    let chain = chain_in c.args.chain.now in
    let g = c.in-Some.stage.now in
    let m = Zip-more c.loop-stage.stage-iterator c.next.new.self c.next.result
    (c.in-Some.stage, c.in-Some.word) c.in-Some.is c.next.ensures.steps in
    let i = rw (m.0, m.1) at c.loop-stage.invariant in
    let is = All-head (IsStageOf chain.first) g _ i.alike in
    let p = err_from_is_err_and c.from_residual-in_err-states-2.result
    c.from_residual-in_err-states-2.ensures.1 in
    rw (p.1, p.2) (passes_on c.in_err-states-2.field-0.0 _ _ c.in_err-states-2.ensures.states
    (λ f h. stops_in_code chain.first g is _ c.loop-stage.letters _ _ c.in-Some.word.now.items _ _
    f i.left h))

pub returns-in_err-states-3-clause-replays : goal.returns-in_err-states-3-clause-replays
returns-in_err-states-3-clause-replays c =
    let chain = chain_in c.args.chain.now in
    let g = c.in-Some.stage.now in
    let w = c.in-Some.word.now.items in
    let states = c.loop-stage.states.items in
    let coded = c.in_ok-states-2.states.items in
    let m = Zip-more c.loop-stage.stage-iterator c.next.new.self c.next.result
    (c.in-Some.stage, c.in-Some.word) c.in-Some.is c.next.ensures.steps in
    let i = rw (m.0, m.1) at c.loop-stage.invariant in
    let is = All-head (IsStageOf chain.first) g _ i.alike in
    let few = i.few in
    let count = c.in_ok-states-2.ensures.count in
    let left = behind_code chain.first g is _ c.loop-stage.letters (length states - 1)
    (length coded - 1) _ w _ _ (states_of coded) i.left c.in_ok-states-2.ensures.states
    (omega (arith, few, count)) in
    let p = err_from_is_err_and c.from_residual-in_err-states-3.result
    c.from_residual-in_err-states-3.ensures.1 in
    rw (p.1, p.2) (passes_on c.in_err-states-3.field-0.0 _ _ c.in_err-states-3.ensures.states
    (λ f h. stops_in_word chain.first g is _ c.loop-stage.letters _ _ w _ (states_of coded) f left
    h))

pub loop-stage-preserved : goal.loop-stage-preserved
loop-stage-preserved c =
    let chain = chain_in c.args.chain.now in
    let g = c.in-Some.stage.now in
    let w = c.in-Some.word.now.items in
    let states = c.loop-stage.states.items in
    let coded = c.in_ok-states-2.states.items in
    let found = c.in_ok-states-3.states.items in
    let m = Zip-more c.loop-stage.stage-iterator c.next.new.self c.next.result
    (c.in-Some.stage, c.in-Some.word) c.in-Some.is c.next.ensures.steps in
    let i = rw (m.0, m.1) at c.loop-stage.invariant in
    let is = All-head (IsStageOf chain.first) g _ i.alike in
    let few = i.few in
    let count = c.in_ok-states-2.ensures.count in
    let more = c.in_ok-states-3.ensures.count in
    let letters = c.len-letters-in-loop-stage.ensures in
    let word = c.in-Some.word.now.ok.0 in
    let left = behind_code chain.first g is _ c.loop-stage.letters (length states - 1)
    (length coded - 1) _ w _ _ (states_of coded) i.left c.in_ok-states-2.ensures.states
    (omega (arith, few, count)) in
    record {
      left = behind_word chain.first g is _ c.loop-stage.letters (length coded - 1) _
          (length found - 1) _ w _ (states_of coded) (states_of found) left
          c.in_ok-states-3.ensures.states (omega (arith, letters, word))
          (omega (arith, few, count, more));
      few = omega (arith, few, count, more, letters, word);
      alike = All-tail (IsStageOf chain.first) g _ i.alike;
      sizes = subst (λ ns. All (λ t. length t.items ≡ length ns) found) is.2.0
          c.in_ok-states-3.ensures.sizes;
    }

pub returns-clause-replays : goal.returns-clause-replays
returns-clause-replays c =
    let chain = chain_in c.args.chain.now in
    let e = either_empty_from_Zip c.loop-stage.stage-iterator c.next.new.self c.next.result
    c.in-None.is c.next.ensures.steps in
    words_end chain.first _ _ _ _ _ _ c.loop-stage.invariant.left
    (⊎_elim (λ q. inl (ap stages_in q)) (λ q. inr (ap words_of q)) e)

pub returns-clause-states : goal.returns-clause-states
returns-clause-states c =
    chain_replay_states (chain_in c.args.chain.now) (numbers_of c.args.start.now.items)
    (words_of c.args.words.now)
    (let size = length-map c.args.words.now (λ w. w.items) in
    let many = length-map c.args.chain.now.further.items stage_of in
    let all = c.requires in omega (arith, size, many, all))
    (states_of c.loop-stage.states.items) (sym (returns-clause-replays c))
