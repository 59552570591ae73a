use Rattle.std.proofs.Common.{◌≡◌, ◌+◌, [], length, arith, refl, subst}
use Rattle.std.proofs.lemmas.Result.{err_from_is_err_and}
use Rattle.loop_model.proofs.BranchMaps.{inside_seen, past_seen, count_seen}
use Rattle.counter_run.specs.Words.{with_letter, with_each_letter}
use Rattle.counter_run.specs.Search.{loop_of, sought, words_in, IsCountering, IsLayer, Appends}
use Rattle.counter_run.proofs.Searching.{letters_none, letter_more, letter_found, letter_stopped}
use Rattle.counter_run.proofs.search.Search.next_layer.Goals as goal

pub loop-index-init : goal.loop-index-init
loop-index-init c =
    letters_none (loop_of c.args.self.now) (sought c.args.self.now) c.args.self.now.most
    (words_in c.args.tried.now.words.items) c.args.tried.now.cost _ c.new.ensures.items refl
    c.requires.little

pub extend_layer-requires-clause-branch : goal.extend_layer-requires-clause-branch
extend_layer-requires-clause-branch c =
    inside_seen _ c.branches-index-end.result.now (loop_of c.args.self.now).branches
    c.loop-index.index c.branches-index-end.ensures.branches c.loop-index-test.true

pub returns-in_err-more-clause-stopped : goal.returns-in_err-more-clause-stopped
returns-in_err-more-clause-stopped c =
    let s = c.args.self.now in
    let inside = inside_seen _ c.branches-index-end.result.now (loop_of s).branches
    c.loop-index.index c.branches-index-end.ensures.branches c.loop-index-test.true in
    let e = err_from_is_err_and c.from_residual.result c.from_residual.ensures.1 in
    rw (e.1, e.2)
    (letter_stopped (loop_of s) (sought s) s.most (words_in c.args.tried.now.words.items)
    (length (loop_of s).branches) c.loop-index.index inside [] c.args.tried.now.cost
    c.loop-index.longer c.loop-index.invariant c.in_err-more.field-0.0
    c.in_err-more.ensures.stopped)

pub returns-in-Found-clause-found : goal.returns-in-Found-clause-found
returns-in-Found-clause-found c =
    let s = c.args.self.now in
    let inside = inside_seen _ c.branches-index-end.result.now (loop_of s).branches
    c.loop-index.index c.branches-index-end.ensures.branches c.loop-index-test.true in
    letter_found (loop_of s) (sought s) s.most (words_in c.args.tried.now.words.items)
    (length (loop_of s).branches) c.loop-index.index inside [] c.args.tried.now.cost
    c.loop-index.longer c.loop-index.invariant
    (IsCountering (loop_of s) (sought s) s.most c.in-Found.found_word)
    (subst (IsLayer (loop_of s) (sought s) s.most
    (with_letter (c.loop-index.index + 1) (words_in c.args.tried.now.words.items))
    c.loop-index.longer.words.items c.loop-index.longer.cost) c.in-Found.is
    c.in_ok-more.ensures.found)

pub loop-index-preserved : goal.loop-index-preserved
loop-index-preserved c =
    let s = c.args.self.now in
    let inside = inside_seen _ c.branches-index-end.result.now (loop_of s).branches
    c.loop-index.index c.branches-index-end.ensures.branches c.loop-index-test.true in
    letter_more (loop_of s) (sought s) s.most (words_in c.args.tried.now.words.items)
    (length (loop_of s).branches) c.loop-index.index inside [] c.args.tried.now.cost
    c.loop-index.longer c.loop-index.invariant c.in-Words.more
    (subst (IsLayer (loop_of s) (sought s) s.most
    (with_letter (c.loop-index.index + 1) (words_in c.args.tried.now.words.items))
    c.loop-index.longer.words.items c.loop-index.longer.cost) c.in-Words.is
    c.in_ok-more.ensures.found)

pub returns-clause-found : goal.returns-clause-found
returns-clause-found c =
    let s = c.args.self.now in
    let past = past_seen _ c.branches-index-end.result.now (loop_of s).branches c.loop-index.index
    c.branches-index-end.ensures.branches c.loop-index-test.false in
    let last = c.loop-index.auto.index-end in
    let count = count_seen _ c.branches-index-end.result.now (loop_of s).branches
    c.branches-index-end.ensures.branches in
    let same : c.loop-index.index ≡ length (loop_of s).branches =
    omega (arith, count, past, last, c.loop-index-test.false) in
    subst (λ n. Appends (loop_of s) (sought s) s.most
    (with_each_letter n (words_in c.args.tried.now.words.items)) [] c.args.tried.now.cost
    c.loop-index.longer) same c.loop-index.invariant
