use Rattle.std.proofs.Common.{◌≡◌, Err, sym, ap, subst, ◌∙◌, rules}
use Rattle.exponentials.specs.Base.{IsTheBase}
use Rattle.poly.specs.Seen.{terms_each}
use Rattle.coprime_base.specs.Sizes.{sizes}
use Rattle.solvable.proofs.Using.{length_each}
use Rattle.solvable_maps.specs.Classes.{sizes_of}
use Rattle.closed_forms.specs.Refusal.{IfRefusedBy}
use Rattle.closed_forms.specs.States.{zeros_in, some_of}
use Rattle.closed_forms.specs.Values.{values_in}
use Rattle.closed_forms.proofs.Counting.{twelve_values}
use Rattle.closed_forms.proofs.Ending.{form_base_is, all_pass, is_too_long, later_state, refused_first, refused_on}
use Rattle.closed_forms.proofs.Splitting.{map_of}
use Rattle.closed_forms.proofs.map_in_work.MapInWork.new.Goals as goal
use Rattle.closed_forms.proofs.map_in_work.MapInWork.new.Goals.{In_ok-base}

pub splits_of-requires-clause-classes : goal.splits_of-requires-clause-classes
splits_of-requires-clause-classes c = rw c.deref.ensures.value c.in-Ok.ensures.classes

pub returns-in_err-splits-clause-refused : goal.returns-in_err-splits-clause-refused
returns-in_err-splits-clause-refused c =
    let M = terms_each c.args.map.images.now.items in
    let e = c.in_err-splits.field-0.0 in
    refused_on (IfRefusedBy M) e _ c.from_residual.ensures.1
    (refused_first M e c.in_err-splits.ensures.refused)

pub long_class-requires : goal.long_class-requires
long_class-requires c = rw c.deref-2.ensures.value c.in-Ok.ensures.classes

pub returns-in-Some-clause-refused : goal.returns-in-Some-clause-refused
returns-in-Some-clause-refused c =
    let images = c.args.map.images.now.items in
    is_too_long (terms_each images) (c.in-Ok.ensures.solvable (search rules)) (all_pass images
    c.args.map.square c.in_ok-splits.ensures.splits) _
    (rw c.deref-2.ensures.value c.in-Ok.ensures.classes) (sym (length_each images)) c.in-Some.is
    c.in_ok-variable.ensures

pub base_of-requires : goal.base_of-requires
base_of-requires c = rw c.deref-3.ensures.value (twelve_values _ c.args.map.few c.args.map.square
    c.in_ok-splits.ensures.splits)

-- the base of the values but zero, and how many are zero
module _ (c : In_ok-base) where
  base_is : IsTheBase (sizes_of (some_of (values_in c.in_ok-splits.splits.items)))
      (sizes c.in_ok-base.base.items)
  base_is = subst (λ splits. IsTheBase (sizes_of (some_of (values_in splits)))
      (sizes c.in_ok-base.base.items)) c.deref-3.ensures.value c.in_ok-base.ensures.base

  count_is : c.in_ok-base.iterations ≡ zeros_in (values_in c.in_ok-splits.splits.items)
  count_is = c.in_ok-base.ensures.zeros
      ∙ ap (λ splits. zeros_in (values_in splits)) c.deref-3.ensures.value

pub returns-in-Err-Wide-clause-refused : goal.returns-in-Err-Wide-clause-refused
returns-in-Err-Wide-clause-refused c =
    let at = (goal.at.returns-in-Err-Wide-clause-refused c).In_ok-base in
    let images = c.args.map.images.now.items in
    let M = terms_each images in
    let splits = c.in_ok-splits.splits.items in
    let are = c.in_ok-splits.ensures.splits in
    let bs = sizes c.in_ok-base.base.items in
    record {
      solvable = c.in-Ok.ensures.solvable (search rules);
      pass = all_pass images c.args.map.square are;
      later = later_state
          (form_base_is are (map_of images c.args.map.square) bs (base_is at))
          (record { splits = splits; are = are; count = sym (count_is at) })
          (c.in-Err-Wide.ensures.wide (ap Err c.in-Err-Wide.field-0-is));
    }

pub returns-clause-work : goal.returns-clause-work
returns-clause-work c =
    let at = (goal.at.returns-clause-work c).In_ok-base in
    record {
      solvable = c.in-Ok.ensures.solvable (search rules);
      classes = c.in-Ok.ensures.classes;
      splits = c.in_ok-splits.ensures.splits;
      base = base_is at;
      short = c.in_ok-base.ensures.few;
      iterations = count_is at;
      states = c.in-Ok-states.ensures.states;
      arities = c.in-Ok-states.ensures.arities;
    }
