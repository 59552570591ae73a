use Rattle.std.proofs.Common.{rules, ◌≡◌, ℕ, List, Err, length, sym, ap, subst, ◌∙◌}
use Rattle.std.proofs.lemmas.Result.{err_from_is_err_and}
use Rattle.algebra.specs.Each.{Each}
use Rattle.closures.specs.Monomials.{AreAscending}
use Rattle.ideal_ops.specs.Calls.{AreOver}
use Rattle.closing.proofs.ElementsLeft.{ascend_at, width_at, few_at, arities_at, told_left, none_left}
use Rattle.residue_rows.specs.declared.elements.ElementsError.TheVariants.{Wide}
use Rattle.closing.proofs.Stopped.{begun_at}
use Rattle.closing.proofs.sampling.Sampling.elements_left.Goals as goal

pub elements_of-requires-clause-arities : goal.elements_of-requires-clause-arities
elements_of-requires-clause-arities c =
    let at = c.requires.at in
    subst (λ (es : List (List ℕ)). Each (λ e. length e ≡ c.len.result) es)
    (sym c.deref.ensures.value) (arities_at at.2
    (c.len.ensures.len ∙ ap length c.names.ensures.names))

pub elements_of-requires-clause-ascend : goal.elements_of-requires-clause-ascend
elements_of-requires-clause-ascend c =
    let at = c.requires.at in
    subst AreAscending (sym c.deref.ensures.value) (ascend_at at.2)

pub elements_of-requires-clause-width : goal.elements_of-requires-clause-width
elements_of-requires-clause-width c =
    let at = c.requires.at in
    width_at at.2 ∙ ap length (sym c.deref.ensures.value)

pub returns-in-Ok-clause-over : goal.returns-in-Ok-clause-over
returns-in-Ok-clause-over c =
    subst (λ n. AreOver n c.in-Ok.elements.items)
    (c.len.ensures.len ∙ ap length c.names.ensures.names) c.in-Ok.ensures.arities

pub returns-in-Ok-clause-few : goal.returns-in-Ok-clause-few
returns-in-Ok-clause-few c =
    let at = c.requires.at in
    few_at at.2 _ c.deref.result.now c.deref.ensures.value c.in-Ok.ensures.few

pub returns-in-Ok-clause-left : goal.returns-in-Ok-clause-left
returns-in-Ok-clause-left c = λ d ps a.
    told_left a (c.len.ensures.len ∙ ap length c.names.ensures.names) c.deref.ensures.value _
    (λ given all form values. c.in-Ok.ensures.tidy d given all form values)
    (c.in-Ok.ensures.standard d) c.in-Ok.ensures.told

pub returns-in_err-copy-in-Err-Wide-clause-stopped :
    goal.returns-in_err-copy-in-Err-Wide-clause-stopped
returns-in_err-copy-in-Err-Wide-clause-stopped c = λ d ps a enough limit.
    let e = err_from_is_err_and c.from_residual.result c.from_residual.ensures.1 in
    rw (e.1, e.2) (begun_at _ d ps a.search)

pub returns-in_ok-copy-in-Err-Wide-clause-stopped :
    goal.returns-in_ok-copy-in-Err-Wide-clause-stopped
returns-in_ok-copy-in-Err-Wide-clause-stopped c = λ d ps a enough limit.
    let is : c.in-Err-Wide.field-0 ≡ Wide c.in-Err-Wide.lead = search rules in
    none_left a (c.len.ensures.len ∙ ap length c.names.ensures.names) c.deref.ensures.value
    c.in-Err-Wide.lead _ (c.in-Err-Wide.ensures.place c.in-Err-Wide.lead (ap Err is))
    (c.in_ok-copy-in-Err-Wide.ensures.ok ∙ c.index.ensures)
    (c.in-Err-Wide.ensures.leads c.in-Err-Wide.lead (ap Err is))
    (c.in-Err-Wide.ensures.untold c.in-Err-Wide.lead (ap Err is)) enough
    (λ given p form poly candidate. c.in-Err-Wide.ensures.wide c.in-Err-Wide.lead (ap Err is) given
    p form poly candidate)

pub returns-in-Err-Memory-clause-stopped : goal.returns-in-Err-Memory-clause-stopped
returns-in-Err-Memory-clause-stopped c = λ d ps a enough limit.
    begun_at _ d ps a.search
