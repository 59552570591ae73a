use Rattle.std.proofs.Common.{◌≡◌, ◌≤◌, ◌∷◌, ◌++◌, [], length, rules, arith, ap, refl, subst, ◌∙◌, None, All}
use Rattle.std.proofs.lemmas.Result.{err_from_is_err_and}
use Rattle.counter_run.specs.Costs.{most_cost, costs}
use Rattle.counter_run.specs.Words.{with_each_letter, words_up_to}
use Rattle.counter_run.specs.Search.{loop_of, sought, words_in, HasZeroImage, IsImageOf, IsTested, IfWordStops, IsCountering, IsLayer}
use Rattle.counter_run.specs.declared.search.CounteringWord.{CounteringWord}
use Rattle.counter_run.proofs.Searching.{empty_found, empty_stopped, up_to_none, up_to_one, length_found, length_stopped}
use Rattle.counter_run.proofs.search.Search.first_word.Goals as goal

pub returns-in_err-test-clause-stopped : goal.returns-in_err-test-clause-stopped
returns-in_err-test-clause-stopped c =
    let s = c.args.self.now in
    let e = err_from_is_err_and c.from_residual-in_err-test.result
    c.from_residual-in_err-test.ensures.1 in
    rw (e.1, e.2)
    (empty_stopped (loop_of s) (sought s) s.most (length (loop_of s).branches)
    c.in_err-test.field-0.0
    (subst (λ w. IfWordStops (loop_of s) (sought s) s.most 0 w c.in_err-test.field-0.0)
    c.in_ok-empty.ensures.word c.in_err-test.ensures.stopped))

pub returns-in-Some-clause-found : goal.returns-in-Some-clause-found
returns-in-Some-clause-found c =
    let s = c.args.self.now in
    let found_word : CounteringWord = record {
      word = c.in_ok-empty.empty.word;
      image =
          c.in-Some.image;
    } in
    let tested = subst (λ w. IsTested (loop_of s) (sought s) s.most 0 w c.in_ok-test.test)
    c.in_ok-empty.ensures.word c.in_ok-test.ensures.tested in
    empty_found (loop_of s) (sought s) s.most (length (loop_of s).branches)
    (IsCountering (loop_of s) (sought s) s.most found_word) (
      record {
        is_word = c.in_ok-empty.ensures.word;
        has = subst (IsImageOf (loop_of s) (sought s) []) c.in-Some.is tested.image;
      },
      subst (λ n. n ≤ most_cost) tested.counted tested.little,
    )

pub loop-length-init : goal.loop-length-init
loop-length-init c =
    let s = c.args.self.now in
    let none : c.in_ok-test.test.image ≡ None = search rules in
    up_to_none (loop_of s) (sought s) s.most (length (loop_of s).branches) c.in_ok-empty.empty _
    (c.in_ok-push.ensures.items ∙ ap (λ xs. xs ++ c.in_ok-empty.empty ∷ [])
    c.new.ensures.items) c.in_ok-empty.ensures.word c.in_ok-empty.ensures.composes
    c.in_ok-test.test c.in_ok-test.ensures.tested refl
    (subst (IsImageOf (loop_of s) (sought s) c.in_ok-empty.empty.word.items) none
    c.in_ok-test.ensures.tested.image)

pub returns-in_err-longer-clause-stopped : goal.returns-in_err-longer-clause-stopped
returns-in_err-longer-clause-stopped c =
    let s = c.args.self.now in
    let e = err_from_is_err_and c.from_residual-in_err-longer.result
    c.from_residual-in_err-longer.ensures.1 in
    rw (e.1, e.2)
    (length_stopped (loop_of s) (sought s) s.most (length (loop_of s).branches)
    c.loop-length._length c.loop-length-test.true c.loop-length.tried c.loop-length.invariant
    c.in_err-longer.field-0.0 c.in_err-longer.ensures.stopped)

pub returns-in-Found-clause-found : goal.returns-in-Found-clause-found
returns-in-Found-clause-found c =
    let s = c.args.self.now in
    length_found (loop_of s) (sought s) s.most (length (loop_of s).branches)
    c.loop-length._length c.loop-length-test.true c.loop-length.tried c.loop-length.invariant
    (IsCountering (loop_of s) (sought s) s.most c.in-Found.found_word)
    (subst (IsLayer (loop_of s) (sought s) s.most
    (with_each_letter (length (loop_of s).branches) (words_in c.loop-length.tried.words.items))
    [] c.loop-length.tried.cost) c.in-Found.is c.in_ok-longer.ensures.found)

pub loop-length-preserved : goal.loop-length-preserved
loop-length-preserved c =
    let s = c.args.self.now in
    up_to_one (loop_of s) (sought s) s.most (length (loop_of s).branches)
    c.loop-length._length c.loop-length-test.true c.loop-length.tried c.loop-length.invariant
    c.in-Words.longer
    (subst (IsLayer (loop_of s) (sought s) s.most
    (with_each_letter (length (loop_of s).branches) (words_in c.loop-length.tried.words.items))
    [] c.loop-length.tried.cost) c.in-Words.is c.in_ok-longer.ensures.found)

pub returns-clause-found : goal.returns-clause-found
returns-clause-found c =
    let s = c.args.self.now in
    let same : c.loop-length._length ≡ s.most = omega arith in (
      subst (λ n. All (HasZeroImage (loop_of s) (sought s))
          (words_up_to (length (loop_of s).branches) n)) same c.loop-length.invariant.zeros,
      subst (λ n. costs (loop_of s) (sought s) s.most
          (words_up_to (length (loop_of s).branches) n) ≤ most_cost) same
          (subst (λ k. k ≤ most_cost) c.loop-length.invariant.counted
          c.loop-length.invariant.little),
    )
