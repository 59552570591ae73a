use Rattle.std.proofs.Common.{◌+◌, sym, ap, subst, subst₂, ◌∙◌}
use Rattle.std.proofs.lemmas.Result.{IfOk-weaker}
use Rattle.ideal_ops.specs.Eliminating.{HaveBlock}
use Rattle.task_lists.specs.Late.{front_in}
use Rattle.task_lists.specs.Starting.{orbit_starting}
use Rattle.invariant_fix.specs.Orbits.{vars_of}
use Rattle.invariant_fix.proofs.LateForms.{whole_fits, whole_front, whole_list, whole_past, vars_are, late_front, late_list, late_past}
use Rattle.invariant_fix.proofs.branches.Branch.starting_list.Goals as goal

pub orbit_list-requires : goal.orbit_list-requires
orbit_list-requires c = record {
  fits = whole_fits c.args.self.now c.requires.branch c.len-vars.result
      (c.len-vars.ensures ∙ c.args.self.now.images.ok.0) c.requires.some c.args.basis.now
      c.requires.basis;
}

pub returns-then-self-eq0-clause-list : goal.returns-then-self-eq0-clause-list
returns-then-self-eq0-clause-list c =
    let b = c.args.self.now in
    let vars = c.len-vars.ensures ∙ b.images.ok.0 in
    IfOk-weaker c.orbit_list.result _ _
    (λ g e. e ∙ ap (λ m. orbit_starting m b.form.base b.back c.args.basis.now) vars
    ∙ sym (whole_list b c.requires.branch c.if-self-eq0.true c.args.basis.now))
    c.orbit_list.ensures.list

pub returns-then-self-eq0-clause-block : goal.returns-then-self-eq0-clause-block
returns-then-self-eq0-clause-block c =
    let b = c.args.self.now in
    IfOk-weaker c.orbit_list.result _ _
    (λ g h. subst₂ (λ n m. HaveBlock n (n + m) g.items)
    (sym (whole_front b c.requires.branch c.if-self-eq0.true))
    (c.len-vars.ensures ∙ b.images.ok.0) h) c.orbit_list.ensures.block

pub returns-then-self-eq0-clause-wide : goal.returns-then-self-eq0-clause-wide
returns-then-self-eq0-clause-wide c = λ w. whole_past c.args.self.now c.requires.branch
    c.if-self-eq0.true c.args.basis.now (c.orbit_list.ensures.wide w)

pub returns-clause-list : goal.returns-clause-list
returns-clause-list c =
    let b = c.args.self.now in
    let f = c.late_form.result in
    let e = c.late_form.ensures in
    IfOk-weaker c.orbit_list-2.result _ _ (λ g h. h ∙ late_list c.requires.branch f e.base e.polys
    e.passing c.if-self-eq0.false c.args.basis.now) c.orbit_list-2.ensures.list

pub returns-clause-block : goal.returns-clause-block
returns-clause-block c =
    let b = c.args.self.now in
    let f = c.late_form.result in
    let e = c.late_form.ensures in
    let fits = c.requires.branch in
    IfOk-weaker c.orbit_list-2.result _ _ (λ g h. subst (λ n. HaveBlock n (n + vars_of b) g.items)
    (late_front fits f e.base e.polys e.passing c.if-self-eq0.false) (subst (λ m. HaveBlock
    (front_in f) (front_in f + m) g.items) (vars_are fits f e.base e.polys e.passing) h))
    c.orbit_list-2.ensures.block

pub returns-clause-wide : goal.returns-clause-wide
returns-clause-wide c = λ w.
    let b = c.args.self.now in
    let f = c.late_form.result in
    let e = c.late_form.ensures in
    late_past c.requires.branch f e.base e.polys e.passing
    c.if-self-eq0.false c.args.basis.now (c.orbit_list-2.ensures.wide w)
