use Rattle.std.proofs.Common.{ap, sym, ◌∙◌, [], Ok}
use Rattle.program_model.specs.StatementView.{block_behind}
use Rattle.program_text.specs.Programs.{ProgramValue, nothing_built, most_names, most_statements}
use Rattle.program_text.proofs.WholeReads.{whole_fails, text_begins, text_due}
use Rattle.program_text.proofs.WellRead.{ended, ended_well}
use Rattle.program_text.proofs.Answering.{err_from_is_err_and, on, over, at_statement, with_block, block_of}
use Rattle.program_text.proofs.reading.read_program.Goals as goal

abbrev bare : ProgramValue
bare = record nothing_built { blocks = [] }

pub returns-in_err-names : goal.returns-in_err-names
returns-in_err-names c = record {
  reads = whole_fails c.args.bytes.now (text_begins c.args.bytes.now c.new.result c.new.ensures)
      (err_from_is_err_and c.from_residual.result c.from_residual.ensures.1)
      c.in_err-names.ensures.reads;
}

pub loop-reader-init : goal.loop-reader-init
unfolding block_behind
loop-reader-init c = rw c.new-statements.ensures.items
    (on (text_begins c.args.bytes.now c.new.result c.new.ensures) c.in_ok-names.ensures.reads)

pub returns-in_err-at : goal.returns-in_err-at
returns-in_err-at c = record {
  reads = whole_fails c.args.bytes.now (over c.loop-reader.invariant _ _ _
      (text_due _ c.loop-reader.at (sym c.loop-reader-test.ensures)))
      (err_from_is_err_and c.from_residual-in_err-at.result c.from_residual-in_err-at.ensures.1)
      (c.in_err-at.ensures.goes bare);
}

pub loop-reader-preserved : goal.loop-reader-preserved
loop-reader-preserved c = on (over c.loop-reader.invariant _ _ _
    (text_due _ c.loop-reader.at (sym c.loop-reader-test.ensures))) (c.in_ok-at.ensures.goes bare)

pub new-requires-2-clause-some_name : goal.new-requires-2-clause-some_name
new-requires-2-clause-some_name c =
    (ended_well c.args.bytes.now (at_statement c.in_ok-names.names c.loop-reader.begun 0
    (with_block (block_of c.loop-reader.statements.items) bare)) c.loop-reader.at
    c.loop-reader.invariant (sym c.loop-reader-test.ensures)).some_name

pub new-requires-2-clause-few_names : goal.new-requires-2-clause-few_names
unfolding most_names
new-requires-2-clause-few_names c =
    (ended_well c.args.bytes.now (at_statement c.in_ok-names.names c.loop-reader.begun 0
    (with_block (block_of c.loop-reader.statements.items) bare)) c.loop-reader.at
    c.loop-reader.invariant (sym c.loop-reader-test.ensures)).few_names

pub new-requires-2-clause-no_unknown : goal.new-requires-2-clause-no_unknown
new-requires-2-clause-no_unknown c =
    (ended_well c.args.bytes.now (at_statement c.in_ok-names.names c.loop-reader.begun 0
    (with_block (block_of c.loop-reader.statements.items) bare)) c.loop-reader.at
    c.loop-reader.invariant (sym c.loop-reader-test.ensures)).no_unknown

pub new-requires-2-clause-well_formed : goal.new-requires-2-clause-well_formed
new-requires-2-clause-well_formed c =
    (ended_well c.args.bytes.now (at_statement c.in_ok-names.names c.loop-reader.begun 0
    (with_block (block_of c.loop-reader.statements.items) bare)) c.loop-reader.at
    c.loop-reader.invariant (sym c.loop-reader-test.ensures)).well_formed

pub new-requires-2-clause-shallow : goal.new-requires-2-clause-shallow
unfolding most_statements
new-requires-2-clause-shallow c =
    (ended_well c.args.bytes.now (at_statement c.in_ok-names.names c.loop-reader.begun 0
    (with_block (block_of c.loop-reader.statements.items) bare)) c.loop-reader.at
    c.loop-reader.invariant (sym c.loop-reader-test.ensures)).shallow

pub returns : goal.returns
returns c = record {
  reads = ap Ok c.new-2.ensures
      ∙ ended c.args.bytes.now (at_statement c.in_ok-names.names c.loop-reader.begun 0
      (with_block (block_of c.loop-reader.statements.items) bare)) c.loop-reader.at
      c.loop-reader.invariant (sym c.loop-reader-test.ensures);
}
