use Rattle.std.proofs.Common.{◌≡◌, sym, subst, ◌∙◌, Ok, inr, arith}
use Rattle.std.specs.Prelude.{IfSome}
use Rattle.loop_model.specs.View.{program_of}
use Rattle.loop_text.specs.LoopReader.{loop_of}
use Rattle.loop_text.specs.Seen.{loop_or_fault}
use Rattle.loop_text.specs.Family.{loop_text}
use Rattle.analysis_commands.proofs.Tallying.{without_fault, unanalysed_for, next_for, loop_read}
use Rattle.analysis_commands.proofs.gen_command.count_loop.Goals as goal

pub returns-in-Ok-clause-refused : goal.returns-in-Ok-clause-refused
returns-in-Ok-clause-refused c =
    let l = program_of c.in-Ok.lp in
    let loop : Ok l ≡ loop_of (loop_text c.args.number) =
    loop_read l c.as_bytes.result.now (loop_text c.args.number) c.in-Ok.ensures
    (c.as_bytes.ensures.value ∙ c.in_ok-text.ensures) in
    unanalysed_for c.args.number l c.count_basis.new.meter c.count_basis.result loop
    c.count_basis.ensures.refused

pub returns-in-Ok-clause-kept : goal.returns-in-Ok-clause-kept
returns-in-Ok-clause-kept c =
    let l = program_of c.in-Ok.lp in
    let loop : Ok l ≡ loop_of (loop_text c.args.number) =
    loop_read l c.as_bytes.result.now (loop_text c.args.number) c.in-Ok.ensures
    (c.as_bytes.ensures.value ∙ c.in_ok-text.ensures) in
    inr (record { loop = l; is_loop = sym loop; analysed = c.count_basis.ensures.analysed })

pub returns-in-Ok-clause-next : goal.returns-in-Ok-clause-next
returns-in-Ok-clause-next c =
    let l = program_of c.in-Ok.lp in
    let loop : Ok l ≡ loop_of (loop_text c.args.number) =
    loop_read l c.as_bytes.result.now (loop_text c.args.number) c.in-Ok.ensures
    (c.as_bytes.ensures.value ∙ c.in_ok-text.ensures) in
    next_for c.args.number l c.count_basis.new.meter c.args.counts.now c.count_basis.new.counts
    c.count_basis.result loop c.count_basis.ensures.counted

pub want_of_memory-requires : goal.want_of_memory-requires
want_of_memory-requires c =
    without_fault c.in-Err.error c.as_bytes.result.now c.args.number
    (let fits = c.ranges.number.fits in omega (arith, fits))
    (subst (λ r. IfSome (loop_or_fault r) (λ s. s ≡ loop_of c.as_bytes.result.now)) c.in-Err.is
    c.read_loop.ensures) (c.as_bytes.ensures.value ∙ c.in_ok-text.ensures)
