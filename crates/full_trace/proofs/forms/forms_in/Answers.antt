use Rattle.std.proofs.Common.{◌≡◌, List, [], ◌∷◌, ◌++◌, map, sym, ap, ap₂, subst, ◌∙◌, refl}
use Rattle.std.specs.List.{All}
use Rattle.std.proofs.lemmas.List.{map-id, map-append}
use Rattle.std.proofs.lemmas.Iterator.Adapters.{YieldsList-from_vec}
use Rattle.std.proofs.lemmas.Iterator.Consumers.{YieldsList-end}
use Rattle.algebra.proofs.Lists.{have_more}
use Rattle.corollaries.specs.Full.{WrittenForm}
use Rattle.coprime_base.specs.Sizes.{sizes}
use Rattle.task_lists.specs.View.{form_in}
use Rattle.task_lists.specs.declared.parts.FullForm.{FullForm}
use Rattle.invariant_fix.specs.Setting.{FitsBranch}
use Rattle.invariant_fix.specs.declared.branches.Branch.{Branch}
use Rattle.full_trace.specs.Tasks.{written_of}
use Rattle.task_lists.specs.Images.{IsFormOver}
use Rattle.full_trace.proofs.FormsMade.{form_fits, but_last, last_of}
use Rattle.full_trace.proofs.forms.forms_in.Goals as goal

pub loop-branch-preserved : goal.loop-branch-preserved
loop-branch-preserved c =
    let i = c.loop-branch.invariant in
    let b = c.in-Some.branch in
    let f : FullForm = record { base = b.form.base; polys = c.in_ok-polys.polys } in
    let same : form_in f ≡ written_of b.form = ap (λ ts. let g : WrittenForm =
    record { base = sizes b.form.base.items; polys = ts } in g) c.in_ok-polys.ensures.bodies in
    record {
      forms = ap (map form_in) c.in_ok-push.ensures.items
          ∙ map-append form_in c.loop-branch.forms.items (f ∷ [])
          ∙ ap₂ (λ (xs : List WrittenForm) (x : WrittenForm). xs ++ x ∷ []) i.forms same
          ∙ sym (map-append (λ (d : Branch). written_of d.form) c.loop-branch.yielded (b ∷ []));
      over = λ m a. have_more (IsFormOver m) _ _ f
          c.in_ok-push.ensures.items (i.over m (but_last (FitsBranch m) c.loop-branch.yielded b a))
          (form_fits m b f (last_of (FitsBranch m) _ b a) refl
          (c.in_ok-polys.ensures.over (sizes b.form.base.items) m
          (last_of (FitsBranch m) _ b a).form_over));
    }

pub returns-clause-over : goal.returns-clause-over
returns-clause-over c = λ m a.
    let gives = c.into_iter-branch-iterator.ensures.into_iter_gives in
    let e = YieldsList-end (YieldsList-from_vec {s = c.into_iter-branch-iterator.result} _ gives.0
    (gives.1 ∙ c.args.branches.ok.0)) _ _ c.loop-branch.yielded_by _ c.next.new.self c.in-None.is
    c.next.ensures.steps in
    c.loop-branch.invariant.over m
    (subst (All (FitsBranch m)) (sym (sym (map-id c.loop-branch.yielded) ∙ e.0)) a)
