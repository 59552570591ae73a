use Rattle.std.proofs.Common.{inl, ◌≡◌, ◌+◌, ◌∷◌, drop, refl, sym, subst, ap, ◌∙◌}
use Rattle.std.proofs.lemmas.List.{drop_all}
use Rattle.std.proofs.lemmas.List.Elements.{All-push}
use Rattle.std.proofs.lemmas.Result.{err_from_is_err_and}
use Rattle.poly.specs.Seen.{terms_each}
use Rattle.loop_model.proofs.Items.{past_list}
use Rattle.program_families.specs.Views.{job_of, arity_in, rests_of, pair_of, HaveArity}
use Rattle.program_families.specs.declared.job.Rest.{Rest}
use Rattle.program_families.proofs.LesserMonomials.{rests_more}
use Rattle.program_families.proofs.Products.{rests_begin, rests_over_begin}
use Rattle.program_families.proofs.Shown.{generators_are, graph_in, is_graph}
use Rattle.program_families.proofs.Tasks.{next_item, rests_along, rests_none}
use Rattle.program_families.proofs.job.Job.rests.Goals as goal

pub loop-monomial-init : goal.loop-monomial-init
loop-monomial-init c = record {
  limit = refl;
  over = rests_over_begin (arity_in c.args.self.now) c.new-rests.result.items
      c.new-rests.ensures.items;
  comes = λ start h.
      rests_along c.args.self.now.variables (job_of c.args.self.now)
      (terms_each c.args.basis.now.items) start c.args.meter.now.entries _ _ _ _
      (rests_begin c.new-rests.result.items c.new-rests.ensures.items) refl h;
}

pub returns-in_err-rest-clause-takes : goal.returns-in_err-rest-clause-takes
returns-in_err-rest-clause-takes c = λ start h.
    let ms = c.args.self.now.monomials.now.items in
    let i = c.loop-monomial.monomial-index in
    let e = err_from_is_err_and c.from_residual-in_err-rest.result
    c.from_residual-in_err-rest.ensures.1 in
    rw (e.1, e.2)
    (c.in_err-rest.ensures.takes start (drop (i + 1) ms)
    (rests_along c.args.self.now.variables (job_of c.args.self.now)
    (terms_each c.args.basis.now.items) start c.loop-monomial.meter.entries _ _ _ _
    (ap rests_of (sym c.deref.ensures.value))
    (next_item ms _ c.deref-monomial-items.ensures.value i c.monomial-item.result
    c.loop-monomial-test.true c.monomial-item.is
    ∙ ap (λ x. x ∷ drop (i + 1) ms) (sym c.in_ok-copy.ensures.ok))
    (c.loop-monomial.invariant.comes start h)))

pub loop-monomial-preserved : goal.loop-monomial-preserved
loop-monomial-preserved c =
    let m = arity_in c.args.self.now in
    let n = c.args.self.now.variables in
    let j = job_of c.args.self.now in
    let gs = terms_each c.args.basis.now.items in
    let ms = c.args.self.now.monomials.now.items in
    let i = c.loop-monomial.monomial-index in
    let r = c.in_ok-rest.rest in
    record {
      limit = c.next_rest.ensures.limit ∙ c.loop-monomial.invariant.limit;
      over = subst (HaveArity m) (sym c.in_ok-push.ensures.items)
          (All-push (λ (x : Rest). x.polynomial.arity ≡ m) c.loop-monomial.rests.items r
          c.loop-monomial.invariant.over c.in_ok-rest.ensures.arity);
      comes = λ start h.
          rests_along n j gs start c.next_rest.new.meter.entries _ _ _ _
          (ap (λ rs. pair_of r ∷ rests_of rs) c.deref.ensures.value
          ∙ sym (rests_more c.loop-monomial.rests.items r)
          ∙ ap rests_of (sym c.in_ok-push.ensures.items)) refl
          (c.in_ok-rest.ensures.takes start (drop (i + 1) ms)
          (rests_along n j gs start c.loop-monomial.meter.entries _ _ _ _
          (ap rests_of (sym c.deref.ensures.value))
          (next_item ms _ c.deref-monomial-items.ensures.value i c.monomial-item.result
          c.loop-monomial-test.true c.monomial-item.is
          ∙ ap (λ x. x ∷ drop (i + 1) ms) (sym c.in_ok-copy.ensures.ok))
          (c.loop-monomial.invariant.comes start h)));
    }

pub returns-clause-takes : goal.returns-clause-takes
returns-clause-takes c = λ start h.
    let ms = c.args.self.now.monomials.now.items in
    let i = c.loop-monomial.monomial-index in
    rests_none c.args.self.now.variables (job_of c.args.self.now)
    (terms_each c.args.basis.now.items) start c.loop-monomial.meter.entries
    (rests_of c.loop-monomial.rests.items) (drop i ms)
    (drop_all i ms (past_list ms _ c.deref-monomial-items.ensures.value i
    c.loop-monomial-test.false)) (c.loop-monomial.invariant.comes start h)

pub returns-clause-rests : goal.returns-clause-rests
returns-clause-rests c = λ d are start h.
    let self = c.args.self.now in
    let k = returns-clause-takes c start h in
    let i = c.requires.job in
    c.ended_tasks_keep_the_target.ensures.rests (graph_in self i) (is_graph self i) d (job_of self)
    are (inl refl)
    (generators_are self i) k.follows.entries k.state k.follows.run
    (terms_each c.args.basis.now.items) (rests_of c.loop-monomial.rests.items) k.is
