-- The course of `run`: LOOP is read, and the run is answered by its states, or its first refusal. It leaves the meter alone.
use Rattle.std.specs.Prelude.{◌≡◌}
use Rattle.loop_runs.specs.Replay.{replay_of}
use Rattle.io_edge.specs.Course.{Course, silent}
use Rattle.command_parts.specs.LoopReading.{with_loop}
use Rattle.replay_commands.specs.RunTexts.{run_answer}
use Rattle.replay_commands.specs.RunArguments.{Request}

abbrev pub course : Request → Course
course request = with_loop request.file (λ l.
    silent (λ a. a ≡ run_answer l.names l.locals (replay_of l request.values request.word)))
