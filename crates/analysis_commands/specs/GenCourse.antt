-- The course of `gen` of n loops: it reads no file; the meter is opened for the analyses of the loops, one after another, and the answer is one by how they end.
use Rattle.std.specs.Prelude.{ℕ}
use Rattle.io_edge.specs.Course.{Course, ends}
use Rattle.analysis_commands.specs.Counting.{HasCounted, AnswersFamily}

abbrev pub course : ℕ → Course
course n = ends (HasCounted n) (AnswersFamily n)
