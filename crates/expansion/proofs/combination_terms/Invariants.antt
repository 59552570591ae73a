use Rattle.std.proofs.Common.{◌≡◌, ◌≤◌, ◌+◌}
use Rattle.std.specs.Iterator.Adapters.{zip_first, zip_second}
use Rattle.std.specs.Slice.Iter.{iter_rest}
use Rattle.poly.specs.Seen.{terms_each}
use Rattle.expansion.specs.Counts.{most_terms, combination_terms}
use Rattle.expansion.proofs.combination_terms.Given as goal

abbrev pub invariant-loop-cofactor : goal.invariant-loop-cofactor
invariant-loop-cofactor g l =
    let left = combination_terms (terms_each (iter_rest (zip_first l.cofactor-iterator)))
    (terms_each (iter_rest (zip_second l.cofactor-iterator))) in
    record {
      is : l.total + left ≡ combination_terms (terms_each l.cofactors) (terms_each l.list);
      few : l.total ≤ most_terms;
    }
