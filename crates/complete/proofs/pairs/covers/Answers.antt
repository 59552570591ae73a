use Rattle.std.proofs.Common.{not, eqb, length, sym, ap, ◌∙◌}
use Rattle.machines.specs.Cut.{divides}
use Rattle.machines.proofs.DividesTest.{divides_is}
use Rattle.complete.specs.declared.pair.Parts.{Parts}
use Rattle.complete.specs.Pairs.{rows_of}
use Rattle.complete.specs.Table.{of_either}
use Rattle.complete.proofs.Walking.{third_fails, last_tells, apart}
use Rattle.complete.proofs.pairs.covers.Goals as goal

pub returns-then-not-divides : goal.returns-then-not-divides
returns-then-not-divides c =
    let t = rows_of c.args.table.now in
    let parts = c.args.pair.now.parts.value in
    let multiple = ap (λ (p : Parts). p.multiple) c.deref-3.ensures in
    let told = divides_is c.divides.result _ _ (c.requires.same ∙ sym (ap length multiple))
    c.divides.ensures in
    third_fails (not (eqb c.args.place parts.left)) (not (eqb c.args.place parts.right))
    (divides c.args.lead.now parts.multiple) (not (of_either t parts.left c.args.place))
    (not (of_either t parts.right c.args.place))
    (sym (told ∙ ap (divides c.args.lead.now) multiple) ∙ c.if-not-divides.true)

pub returns : goal.returns
returns c =
    let t = rows_of c.args.table.now in
    let k = c.args.place in
    let multiple = ap (λ (p : Parts). p.multiple) c.deref-3.ensures in
    let told = divides_is c.divides.result _ _ (c.requires.same ∙ sym (ap length multiple))
    c.divides.ensures in
    last_tells _ _ _ _ _ _
    (apart _ _ (λ e. c.if-place-deref.false (e
    ∙ sym (ap (λ (p : Parts). p.left) c.deref.ensures))))
    (apart _ _ (λ e. c.if-place-deref-2.false (e
    ∙ sym (ap (λ (p : Parts). p.right) c.deref-2.ensures))))
    (sym (told ∙ ap (divides c.args.lead.now) multiple) ∙ c.if-not-divides.false)
    (ap not (sym (c.waits.ensures ∙ ap (λ (p : Parts). of_either t p.left k) c.deref-4.ensures)
    ∙ c.if-waits.false)) (ap not (c.waits-2.ensures
    ∙ ap (λ (p : Parts). of_either t p.right k) c.deref-5.ensures))
