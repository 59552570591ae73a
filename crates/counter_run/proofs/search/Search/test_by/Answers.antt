use Rattle.std.proofs.Common.{◌≡◌, length, nat_lt, true, false, sym, ◌∙◌}
use Rattle.std.proofs.lemmas.List.Elements.{same_from_all_zip}
use Rattle.poly.proofs.Standing.{arity_over}
use Rattle.counter_run.specs.Costs.{most_cost}
use Rattle.counter_run.specs.Search.{loop_of, sought, word_in}
use Rattle.counter_run.proofs.ComposedWords.{image_free_word, image_cost, image_zero, image_found}
use Rattle.counter_run.proofs.Costs.{cost_little, cost_much}
use Rattle.counter_run.proofs.search.Search.test_by.Goals as goal

pub returns-then-is_too_much-clause-stopped : goal.returns-then-is_too_much-clause-stopped
returns-then-is_too_much-clause-stopped c =
    let s = c.args.self.now in
    let arity = arity_over (length (loop_of s).names) s.polynomial.now c.requires.search.arity in
    let t = c.args.word.now in
    let much : nat_lt most_cost c.saturating_add-cost.result ≡ true =
    sym c.is_too_much.ensures ∙ c.if-is_too_much.true in
    let start = image_cost (loop_of s) (sought s) arity t c.requires.word
    s.maps.now.start.items c.requires.search.maps.start c.args.composition
    c.requires.composition in (
      same_from_all_zip _ _ _ c.in_ok-clone.ensures.cases.0 (λ x y h. h),
      (
        image_free_word (loop_of s) (sought s) arity t c.requires.word
            s.maps.now.start.items c.requires.search.maps.start c.args.composition
            c.requires.composition,
        cost_much (loop_of s) (sought s) s.most (word_in t) c.args.before _ _ _ _ _ _
            c.requires.word.counted start c.keeping_cost.ensures c.saturating_add-composing.ensures
            c.saturating_add-tried.ensures c.saturating_add-cost.ensures much,
      ),
    )

pub returns-then-is_zero-clause-tested : goal.returns-then-is_zero-clause-tested
returns-then-is_zero-clause-tested c =
    let s = c.args.self.now in
    let arity = arity_over (length (loop_of s).names) s.polynomial.now c.requires.search.arity in
    let t = c.args.word.now in
    let little : nat_lt most_cost c.saturating_add-cost.result ≡ false =
    sym c.is_too_much.ensures ∙ c.if-is_too_much.false in
    let start = image_cost (loop_of s) (sought s) arity t c.requires.word
    s.maps.now.start.items c.requires.search.maps.start c.args.composition
    c.requires.composition in
    let told = cost_little (loop_of s) (sought s) s.most (word_in t) c.args.before _ _ _ _ _ _
    c.requires.word.counted start c.keeping_cost.ensures c.saturating_add-composing.ensures
    c.saturating_add-tried.ensures c.saturating_add-cost.ensures little in
    record {
      image =
          image_zero (loop_of s) (sought s) arity t c.requires.word
          s.maps.now.start.items c.requires.search.maps.start c.args.composition
          c.requires.composition c.is_zero.result c.is_zero.ensures c.if-is_zero.true;
      counted = told.0;
      little = told.1;
    }

pub returns-clause-tested : goal.returns-clause-tested
returns-clause-tested c =
    let s = c.args.self.now in
    let arity = arity_over (length (loop_of s).names) s.polynomial.now c.requires.search.arity in
    let t = c.args.word.now in
    let little : nat_lt most_cost c.saturating_add-cost.result ≡ false =
    sym c.is_too_much.ensures ∙ c.if-is_too_much.false in
    let start = image_cost (loop_of s) (sought s) arity t c.requires.word
    s.maps.now.start.items c.requires.search.maps.start c.args.composition
    c.requires.composition in
    let told = cost_little (loop_of s) (sought s) s.most (word_in t) c.args.before _ _ _ _ _ _
    c.requires.word.counted start c.keeping_cost.ensures c.saturating_add-composing.ensures
    c.saturating_add-tried.ensures c.saturating_add-cost.ensures little in
    record {
      image =
          image_found (loop_of s) (sought s) arity t c.requires.word
          s.maps.now.start.items c.requires.search.maps.start c.args.composition
          c.requires.composition c.is_zero.result c.is_zero.ensures c.if-is_zero.false;
      counted = told.0;
      little = told.1;
    }
