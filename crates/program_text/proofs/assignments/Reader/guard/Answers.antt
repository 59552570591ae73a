use Rattle.std.proofs.Common.{◌≡◌, suc, ap, ap₂, sym, subst, ◌∙◌, refl, add-one, arith, None, Ok, Err, option_map}
use Rattle.std.specs.Prelude.{IfSome}
use Rattle.std.proofs.lemmas.Bool.{le-leb, lt-leb}
use Rattle.poly_text.specs.Reasons.{limit, unless}
use Rattle.program_model.specs.Program.{empty}
use Rattle.program_text.specs.Faults.{fault_of}
use Rattle.program_text.specs.GuardReads.{with_text}
use Rattle.program_text.specs.Programs.{guard, block_fault, open_block, with_empty, with_guard as keep_guard, most_blocks, ProgramContext, ProgramValue}
use Rattle.program_text.specs.Told.{Told}
use Rattle.program_text.specs.declared.error.ProgramTextError.{ProgramTextError}
use Rattle.program_text.proofs.Paths.{stops_last, IsFault}
use Rattle.program_text.proofs.Answering.{err_from_is_err_and, behind, rest, start, sign_read, sign_at_fault, program_language, at_statement, with_block, with_guard}
use Rattle.program_text.proofs.assignments.Reader.guard.Goals as goal

no_fault : (e : ProgramTextError) (y : Told ProgramContext ProgramValue) → fault_of e ≡ None
    → IsFault e y
no_fault e y none = subst (λ o. IfSome (option_map Err o) (λ (r : Told ProgramContext
    ProgramValue). r ≡ y)) (sym none) tt

pub returns-in_err-text-clause-reads : goal.returns-in_err-text-clause-reads
returns-in_err-text-clause-reads c = λ n w.
    stops_last (start program_language guard (at_statement c.args.self.now.names.now n c.args.depth
    w) (behind c.args.cursor)) _
    (err_from_is_err_and c.from_residual.result c.from_residual.ensures.1)
    (c.in_err-text.ensures.reads (at_statement c.args.self.now.names.now n c.args.depth w))

pub returns-then-depth-ge-MOST_BLOCKS-clause-reads :
    goal.returns-then-depth-ge-MOST_BLOCKS-clause-reads
unfolding most_blocks
returns-then-depth-ge-MOST_BLOCKS-clause-reads c = λ n w.
    let s = at_statement c.args.self.now.names.now n c.args.depth w in
    let reads = c.in_ok-text.ensures.reads in
    sign_at_fault 123 block_fault open_block (λ c v. with_empty c (keep_guard c v))
    (with_text c.in_ok-text.text.items s) c.in_ok-text.opening refl reads.0 limit
    (ap (λ t. unless t limit) (lt-leb (suc c.args.depth) 16 (let deep =
    c.if-depth-ge-MOST_BLOCKS.true in omega (arith, deep)))) ∙ sym (reads.1 s)

pub returns-in_err-guard-clause-reads : goal.returns-in_err-guard-clause-reads
returns-in_err-guard-clause-reads c = λ n w.
    stops_last (start program_language guard (at_statement c.args.self.now.names.now n c.args.depth
    w) (behind c.args.cursor)) _
    (err_from_is_err_and c.from_residual-in_err-guard.result
    c.from_residual-in_err-guard.ensures.1)
    (no_fault c.in_err-guard.field-0.0 _ c.in_err-guard.ensures.memory)

pub returns-clause-reads : goal.returns-clause-reads
unfolding most_blocks
returns-clause-reads c = λ n w.
    let names = c.args.self.now.names.now in
    let s = at_statement names n c.args.depth w in
    let reads = c.in_ok-text.ensures.reads in
    ap₂ (λ g k. Ok (
      at_statement names n k (with_block empty (with_guard g w)),
      rest c.next.result,
    )) (rw c.deref.ensures.value at c.in_ok-guard.ensures.guard) (add-one c.args.depth)
    ∙ sign_read 123 block_fault open_block (λ c v. with_empty c (keep_guard c v))
    (with_text c.in_ok-text.text.items s) c.in_ok-text.opening refl reads.0
    (ap (λ t. unless t limit) (le-leb (suc c.args.depth) 16 c.if-depth-ge-MOST_BLOCKS.false))
    c.next.result c.next.ensures.tokens ∙ sym (reads.1 s)
