use Rattle.std.proofs.Common.{◌<◌, ◌^◌, All, subst, sym, ap, ◌∙◌}
use Rattle.exponentials.specs.Base.{IsTheBase}
use Rattle.exponentials.proofs.Orders.{each-all}
use Rattle.coprime_base.specs.Sizes.{sizes}
use Rattle.coprime_base.proofs.Sized.{positive_sizes, base_small}
use Rattle.coprime_base.proofs.base.Goals as goal

pub coarsest-requires : goal.coarsest-requires
coarsest-requires c = subst (All (λ x. 0 < x)) (sym (c.in_ok-waiting.ensures.ok
    ∙ ap sizes c.as_slice.ensures.value))
    (each-all (λ x. 0 < x) _ (positive_sizes c.args.list.now.items c.requires))

pub numbers_of_sizes-requires : goal.numbers_of_sizes-requires
numbers_of_sizes-requires c =
    subst (All (λ b. b < 2 ^ 127)) (sym c.as_slice-2.ensures.value)
    (base_small c.args.list.now.items c.in_ok-found.found.items c.requires
    (subst (λ l. IsTheBase l c.in_ok-found.found.items) (c.in_ok-waiting.ensures.ok
    ∙ ap sizes c.as_slice.ensures.value) c.in_ok-found.ensures))
