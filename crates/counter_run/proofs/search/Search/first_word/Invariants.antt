use Rattle.std.proofs.Common.{length}
use Rattle.counter_run.specs.Search.{loop_of, sought}
use Rattle.counter_run.proofs.Searching.{IsUpTo}
use Rattle.counter_run.proofs.search.Search.first_word.Given as goal

abbrev pub invariant-loop-length : goal.invariant-loop-length
invariant-loop-length l =
    IsUpTo (loop_of l.self) (sought l.self) l.self.most
    (length (loop_of l.self).branches) l._length l.tried
