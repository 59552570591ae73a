use Rattle.std.proofs.Common.{◌≡◌, [], drop}
use Rattle.poly.specs.Seen.{terms_in, terms_each}
use Rattle.poly.specs.View.{terms_of}
use Rattle.frac128.specs.FracMeaning.{fraction_of}
use Rattle.counter_run.specs.Composition.{composition_onto, composition_operations}
use Rattle.counter_run.specs.Costs.{image_length}
use Rattle.counter_run.proofs.Compositions.{Continues}
use Rattle.counter_run.proofs.Costs.{Counts}
use Rattle.counter_run.proofs.composition.count_anew.Given as goal

abbrev pub invariant-loop-term : goal.invariant-loop-term
invariant-loop-term l =
    let m = l.polynomial.arity in
    let images = terms_each l.images.items in
    let left = terms_of fraction_of (drop l.term-index l.polynomial.terms.items) in
    record {
      arity : l.total.arity ≡ m;
      goes : Continues m (composition_operations m images (terms_in l.total) left)
          (composition_onto m images (terms_in l.total) left)
          (composition_operations m images [] (terms_in l.polynomial))
          (composition_onto m images [] (terms_in l.polynomial));
      counts : Counts (image_length m images) left (terms_in l.polynomial) l.cost;
    }
