use Rattle.std.proofs.Common.{◌≡◌, subst}
use Rattle.std.proofs.lemmas.Result.{IfOk-weaker}
use Rattle.exponentials.specs.Base.{IsTheBase}
use Rattle.linear.specs.Rows.{fractions_of}
use Rattle.coprime_base.specs.Sizes.{sizes, ArePositive}
use Rattle.solvable_maps.specs.Classes.{sizes_of}
use Rattle.closed_forms.proofs.Sizing.{positive_none, sizes_are, few_sizes}
use Rattle.closed_forms.proofs.base.base_among.Goals as goal
use Rattle.closed_forms.proofs.base.base_among.Goals.{In_ok-push_sizes-2}

-- the sizes of all values
module _ (c : In_ok-push_sizes-2) where
  positive : ArePositive c.push_sizes-2.new.out.items
  positive = c.in_ok-push_sizes-2.ensures.positive (c.in_ok-push_sizes.ensures.positive
      (positive_none c.new-sizes.ensures.items) c.requires.nonzero) c.requires.nonzero

  all : sizes c.push_sizes-2.new.out.items ≡ sizes_of (fractions_of c.args.values.now)
  all = sizes_are _ _ _ c.new-sizes.ensures.items c.in_ok-push_sizes.ensures.sizes
      c.in_ok-push_sizes-2.ensures.sizes

pub base-requires : goal.base-requires
base-requires c = positive (goal.at.base-requires c).In_ok-push_sizes-2

pub returns-clause-base : goal.returns-clause-base
returns-clause-base c =
    IfOk-weaker c.base.result _ _ (λ found. subst (λ list. IsTheBase list (sizes found.items))
    (all (goal.at.returns-clause-base c).In_ok-push_sizes-2)) c.base.ensures.base

pub returns-clause-few : goal.returns-clause-few
returns-clause-few c =
    let at = (goal.at.returns-clause-few c).In_ok-push_sizes-2 in
    IfOk-weaker c.base.result _ _ (λ found is. few_sizes _ found.items c.args.values.now
    c.requires.few (all at) (positive at) is) c.base.ensures.base
