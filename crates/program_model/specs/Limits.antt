-- The limits of a program's text that the program shows.
--   most_names, most_depth     variables, and blocks in one another: as many as a text may have statements, since what is behind `else` has the `if` of an `else if` inside of it
--   depth b                    how many blocks stand in one another inside of the block b;  depth_inside s: inside of the statement s
use Rattle.std.specs.Prelude.{ℕ, suc, max}
use Rattle.program_model.specs.Program.{Statement, step, assert, branch, loop, Block, empty, behind}

abbrev pub most_names : ℕ
most_names = 16

abbrev pub most_depth : ℕ
most_depth = 256

module _ {E : Type 0} where
  unfoldable mutual
    pub depth_inside : Statement E → ℕ
    depth_inside (step c) = 0
    depth_inside (assert at k) = 0
    depth_inside (branch at g a b) = suc (max (depth a) (depth b))
    depth_inside (loop at g a) = suc (depth a)

    pub depth : Block E → ℕ
    depth empty = 0
    depth (behind b s) = max (depth b) (depth_inside s)
