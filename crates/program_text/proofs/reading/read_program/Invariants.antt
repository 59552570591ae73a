use Rattle.std.proofs.Common.{[]}
use Rattle.grammars.specs.Grammar.{many, rule}
use Rattle.program_text.specs.Lexemes.{tokens}
use Rattle.program_text.specs.Programs.{a_statement, program, the_end, nothing, nothing_built}
use Rattle.program_text.proofs.Answering.{sequence, rest, bytes_left, GoesOn, program_language, at_statement, with_block, block_of}
use Rattle.program_text.proofs.reading.read_program.Given as goal

abbrev pub invariant-loop-reader : goal.invariant-loop-reader
invariant-loop-reader l =
    GoesOn program_language (sequence program the_end) nothing (tokens l.bytes)
    (sequence (many (rule a_statement)) the_end)
    (at_statement l.reader.names.now l.begun 0 (with_block (block_of l.statements.items)
    (record nothing_built { blocks = [] }))) (rest l.at)

abbrev pub decreases-loop-reader : goal.decreases-loop-reader
decreases-loop-reader l = bytes_left l.at
