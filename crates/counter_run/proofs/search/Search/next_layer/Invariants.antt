use Rattle.std.proofs.Common.{[]}
use Rattle.counter_run.specs.Words.{with_each_letter}
use Rattle.counter_run.specs.Search.{loop_of, sought, words_in, Appends}
use Rattle.counter_run.proofs.search.Search.next_layer.Given as goal

abbrev pub invariant-loop-index : goal.invariant-loop-index
invariant-loop-index l =
    Appends (loop_of l.self) (sought l.self) l.self.most
    (with_each_letter l.index (words_in l.tried.words.items)) [] l.tried.cost l.longer
