use Rattle.std.proofs.Common.{◌≡◌, ◌<◌, [], length, rules, string_bytes, arith}
use Rattle.std.proofs.lemmas.Bool.Decides.{nat_tests}
use Rattle.command_parts.proofs.Pushing.{all_pushed, basis_pushed, equation_of, equations_more, empty_read_back, equations_read_back, no_equations}
use Rattle.command_parts.proofs.bases.basis_text.Goals as goal

pub loop-element-init : goal.loop-element-init
loop-element-init c = no_equations c.args.names.now c.args.basis.now _ (search rules)

pub loop-element-preserved : goal.loop-element-preserved
loop-element-preserved c =
    equations_more c.args.names.now c.args.basis.now c.loop-element.element-index
    (string_bytes c.loop-element.text) _ c.loop-element.invariant c.element-item.result
    (omega arith) c.element-item.is
    (search rules) (search rules)

pub returns-then-is_empty-clause-read_back : goal.returns-then-is_empty-clause-read_back
returns-then-is_empty-clause-read_back c =
    let none : length c.args.basis.now ≡ 0 = grind (arith, nat_tests, c.if-is_empty.ensures) in
    empty_read_back c.args.names.now c.from_str.result c.args.basis.now none (search rules)

pub returns-clause-text : goal.returns-clause-text
returns-clause-text c =
    let some : 0 < length c.args.basis.now = grind (arith, nat_tests, c.if-is_empty.ensures) in
    basis_pushed c.args.names.now c.args.basis.now _ some (all_pushed (equation_of c.args.names.now)
    c.args.basis.now c.loop-element.element-index [] _ (omega arith)
    c.loop-element.invariant.so_far)

pub returns-clause-read_back : goal.returns-clause-read_back
returns-clause-read_back c = equations_read_back c.args.names.now c.args.basis.now
    c.loop-element.element-index _ c.loop-element.invariant (omega arith) (search rules)
