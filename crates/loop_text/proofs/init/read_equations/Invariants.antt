use Rattle.std.proofs.Common.{[], map}
use Rattle.loop_text.specs.Loops.{start}
use Rattle.loop_text.proofs.Answering.{sequence, rest, bytes_left, GoesOn, equation_of, comma_list, init_end, loop_language, in_init, with_names}
use Rattle.loop_text.proofs.init.read_equations.Given as goal

abbrev pub invariant-loop-set : goal.invariant-loop-set
invariant-loop-set l = GoesOn loop_language (sequence (comma_list start) init_end)
    (with_names l.names.variables l.names.locals) (rest l.fn.cursor)
    (sequence (comma_list start) init_end) (in_init l.names.variables l.names.locals l.set.items
    (map equation_of l.start.items) []) (rest l.at)

abbrev pub decreases-loop-set : goal.decreases-loop-set
decreases-loop-set l = bytes_left l.at
