use Rattle.std.proofs.Common.{◌≡◌, List, All, map, length, sym, ap, subst, ◌∙◌}
use Rattle.std.proofs.lemmas.Result.{IfOk-weaker}
use Rattle.poly.specs.Seen.{terms_each}
use Rattle.linear.specs.Rows.{rows_of}
use Rattle.solvable.proofs.Using.{FracPoly}
use Rattle.solvable_maps.specs.Iterations.{width}
use Rattle.closed_forms.specs.Known.{variable_in, IsPastRowOf}
use Rattle.closed_forms.specs.SplitClass.{base_at}
use Rattle.closed_forms.specs.Values.{AreOver}
use Rattle.closed_forms.proofs.Filling.{made_within}
use Rattle.closed_forms.proofs.Settling.{forms_wide, values_count, vars_is, group_low, setting_is, back_count, variables_turned, past_rows, past_forms}
use Rattle.closed_forms.proofs.Mixing.{wide_on}
use Rattle.closed_forms.proofs.class.SplitClass.closed_class.Goals as goal

pub invariant_of-class : goal.invariant_of-class
invariant_of-class c =
    record {
      inside = group_low c.requires.class c.requires.ready c.in_ok-setting.ensures.setting;
      forms = forms_wide c.requires.class.split;
      values = values_count c.requires.class.split;
      within = made_within _ _ c.requires.class.made;
      ready = setting_is c.requires.class c.requires.ready c.in_ok-setting.ensures.setting;
    }

pub returns-in_err-forms-clause-wide : goal.returns-in_err-forms-clause-wide
returns-in_err-forms-clause-wide c =
    wide_on c.from_residual-in_err-forms.ensures.1
    (λ w. past_forms c.requires.class c.requires.ready c.in_ok-setting.ensures.setting
    (c.in_err-forms.ensures.wide w))

pub variables-requires : goal.variables-requires
variables-requires c = subst (λ (fs : List FracPoly). All (λ (p : FracPoly). p.arity
    ≡ width (length (base_at c.args.self.now)) (length c.in_ok-setting.setting.earlier.items)) fs)
    (sym c.deref.ensures.value) c.in_ok-forms.ensures.arities

pub returns-clause-count : goal.returns-clause-count
returns-clause-count c =
    IfOk-weaker c.variables.result _ _ (λ news e. e ∙ back_count c.requires.class c.requires.ready
    c.in_ok-setting.ensures.setting) c.variables.ensures.count

pub returns-clause-over : goal.returns-clause-over
returns-clause-over c =
    IfOk-weaker c.variables.result _ _
    (λ news. subst (λ n. AreOver (base_at c.args.self.now) n news.items)
    (vars_is c.requires.class c.requires.ready c.in_ok-setting.ensures.setting))
    c.variables.ensures.over

pub returns-clause-variables : goal.returns-clause-variables
returns-clause-variables c =
    let done = c.in_ok-forms.forms.items in
    IfOk-weaker c.variables.result _ _
    (λ news e r. variables_turned c.requires.class c.requires.ready c.in_ok-setting.ensures.setting
    done c.in_ok-forms.ensures.count
    c.in_ok-forms.ensures.forms news.items
    (e ∙ ap (λ fs. map (λ row. variable_in (base_at c.args.self.now) row (terms_each fs))
    (rows_of c.in_ok-setting.setting.back.items)) c.deref.ensures.value) r)
    c.variables.ensures.variables

pub returns-clause-wide : goal.returns-clause-wide
returns-clause-wide c =
    let done = c.in_ok-forms.forms.items in
    λ w. past_rows c.requires.class c.requires.ready c.in_ok-setting.ensures.setting
    done c.in_ok-forms.ensures.count c.in_ok-forms.ensures.forms
    (subst (λ fs. IsPastRowOf (rows_of c.in_ok-setting.setting.back.items) (terms_each fs))
    c.deref.ensures.value (c.variables.ensures.wide w))
