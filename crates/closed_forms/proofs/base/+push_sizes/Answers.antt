use Rattle.std.proofs.Common.{pos, ◌<ℤ◌, map, refl}
use Rattle.std.proofs.lemmas.Result.{on_ok_weaker}
use Rattle.frac128.specs.declared.Whole.{Whole}
use Rattle.linear.specs.Rows.{fractions_of}
use Rattle.coprime_base.specs.Sizes.{sizes}
use Rattle.algebra.proofs.Lists.{have_more}
use Rattle.closed_forms.specs.Values.{size_at}
use Rattle.closed_forms.proofs.Mixing.{nothing_behind}
use Rattle.closed_forms.proofs.Sizing.{behind_next, head_nonzero}
use Rattle.closed_forms.proofs.base.+push_sizes.Goals as goal

pub returns-in_default-clause-sizes : goal.returns-in_default-clause-sizes
returns-in_default-clause-sizes t c = nothing_behind
    (λ values. map (size_at c.args.below) (fractions_of values)) refl _
    (sizes c.args.out.now.items) c.in_default.ensures.cases

pub returns-clause-sizes : goal.returns-clause-sizes
returns-clause-sizes t c =
    on_ok_weaker c.push_sizes.result (behind_next (size_at c.args.below) _ _ c.size_of.result
    c.in-Some.ensures.cases.0 c.in_ok-push.ensures.items c.size_of.ensures.size)
    c.push_sizes.ensures.sizes

pub returns-clause-positive : goal.returns-clause-positive
returns-clause-positive t c =
    on_ok_weaker c.push_sizes.result (λ h old some.
    let own = head_nonzero c.in-Some.ensures.cases.0 some in
    h (have_more (λ (w : Whole). pos 0 <ℤ w.value) _ _ _ c.in_ok-push.ensures.items old
    (c.size_of.ensures.positive own.0)) own.1) c.push_sizes.ensures.positive
