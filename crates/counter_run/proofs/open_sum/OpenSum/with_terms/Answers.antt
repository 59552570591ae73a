use Rattle.std.proofs.Common.{◌≡◌, ◌++◌, All, length, refl, sym, ap, subst, ◌∙◌}
use Rattle.frac128.specs.declared.fraction.Frac.{Frac}
use Rattle.poly.specs.declared.Term.{Term}
use Rattle.counter_run.proofs.OpenSums.{put_arities, put_behind}
use Rattle.counter_run.proofs.open_sum.OpenSum.with_terms.Goals as goal

pub invariant_of-result : goal.invariant_of-result
invariant_of-result c =
    let items : c.append.new.self.items ≡ c.args.self.terms.items ++ c.args.polynomial.terms.items =
    c.in_ok-append.ensures.items
    ∙ ap (λ v. c.args.self.terms.items ++ v.items) c.into_terms.ensures in
    record {
      arities =
          subst (All (λ (t : Term Frac). length t.mono ≡ c.args.self.total.arity)) (sym items)
          (put_arities c.args.self c.args.polynomial c.requires.arity);
    }

pub returns : goal.returns
returns c =
    put_behind c.args.self c.args.polynomial _ c.requires.arity c.requires.few refl
    (c.in_ok-append.ensures.items
    ∙ ap (λ v. c.args.self.terms.items ++ v.items) c.into_terms.ensures)
    c.with_terms_of-came.ensures
