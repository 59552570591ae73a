use Rattle.std.proofs.Common.{◌+◌, length, take}
use Rattle.poly.specs.Seen.{terms_each}
use Rattle.counter_run.specs.Combination.{AreMonomialImages}
use Rattle.counter_run.specs.Words.{with_letter}
use Rattle.counter_run.specs.Search.{loop_of, sought, words_in, Appends}
use Rattle.counter_run.proofs.search.Search.extend_layer.Given as goal

abbrev pub invariant-loop-suffix : goal.invariant-loop-suffix
invariant-loop-suffix l =
    let m = length (loop_of l.self).names in
    record {
      appends : Appends (loop_of l.self) (sought l.self) l.self.most
          (with_letter (l.branch + 1) (words_in (take l.suffix-index l.layer.items)))
          l.initial.tried.words.items l.initial.tried.cost l.tried;
      known : AreMonomialImages m (terms_each l.images.items) l.known.items;
      at_start : AreMonomialImages m (terms_each l.self.maps.now.start.items)
          l.known_at_start.items;
    }
