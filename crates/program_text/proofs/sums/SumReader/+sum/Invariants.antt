use Rattle.std.proofs.Common.{◌+◌, ◌*◌, ◌<◌}
use Rattle.grammars.specs.Grammar.{rule}
use Rattle.program_text.specs.CursorView.{bytes_left}
use Rattle.program_text.specs.Reads.{progress_of}
use Rattle.program_text.specs.Sums.{a_sum, product, next_factor, next_product}
use Rattle.program_text.proofs.ReaderSteps.{Chains}
use Rattle.program_text.proofs.sums.SumReader.+sum.Given as goal

abbrev pub decreases-parentheses : goal.decreases-parentheses
decreases-parentheses l = 8 * bytes_left l.cursor

abbrev pub decreases-opposite : goal.decreases-opposite
decreases-opposite l = 8 * bytes_left l.cursor

abbrev pub decreases-times : goal.decreases-times
decreases-times l = 8 * bytes_left l.cursor

abbrev pub decreases-over : goal.decreases-over
decreases-over l = 8 * bytes_left l.cursor

abbrev pub decreases-over_factor : goal.decreases-over_factor
decreases-over_factor l = 8 * bytes_left l.cursor + 3

abbrev pub decreases-addition : goal.decreases-addition
decreases-addition l = 8 * bytes_left l.cursor

abbrev pub decreases-atom : goal.decreases-atom
decreases-atom l = 8 * bytes_left l.cursor + 1

abbrev pub decreases-factor : goal.decreases-factor
decreases-factor l = 8 * bytes_left l.cursor + 2

abbrev pub decreases-product : goal.decreases-product
decreases-product l = 8 * bytes_left l.cursor + 3

abbrev pub decreases-sum : goal.decreases-sum
decreases-sum l = 8 * bytes_left l.cursor + 4

-- the factors that follow are read behind the product
abbrev pub invariant-product-loop-product : goal.invariant-product-loop-product
invariant-product-loop-product l = (bytes_left l.at < bytes_left l.fn.cursor)
    × Chains l.fn.self l.fn.depth (progress_of l.fn.progress) l.fn.cursor product next_factor
    l.product l.at

abbrev pub decreases-product-loop-product : goal.decreases-product-loop-product
decreases-product-loop-product l = bytes_left l.at

-- the products that follow are read behind the sum
abbrev pub invariant-sum-loop-sum : goal.invariant-sum-loop-sum
invariant-sum-loop-sum l = (bytes_left l.at < bytes_left l.fn.cursor)
    × Chains l.fn.self l.fn.depth (progress_of l.fn.progress) l.fn.cursor (rule a_sum) next_product
    l.sum l.at

abbrev pub decreases-sum-loop-sum : goal.decreases-sum-loop-sum
decreases-sum-loop-sum l = bytes_left l.at
