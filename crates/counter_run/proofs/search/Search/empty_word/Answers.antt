use Rattle.std.proofs.Common.{refl, sym, subst, ◌∙◌}
use Rattle.algebra.specs.Fraction.{ℚ}
use Rattle.polynomials.specs.Terms.{Same}
use Rattle.polynomials.proofs.Same.{Same-refl}
use Rattle.counter_run.specs.Search.{loop_of, sought}
use Rattle.counter_run.proofs.ComposedWords.{empty_composed}
use Rattle.counter_run.proofs.search.Search.empty_word.Goals as goal

pub returns-clause-composes : goal.returns-clause-composes
returns-clause-composes c =
    let s = c.args.self.now in
    empty_composed (loop_of s) (sought s)
    (record { word = c.new.result; polynomial = c.in_ok-copy.field-0; cost = 0 })
    c.new.ensures.items
    (record {
      order = refl;
      arity = c.in_ok-copy.ensures.arity ∙ c.requires.search.arity;
      same =
          subst (λ x. Same ℚ x (sought s)) (sym c.in_ok-copy.ensures.terms)
          (Same-refl ℚ (sought s));
    }) refl
