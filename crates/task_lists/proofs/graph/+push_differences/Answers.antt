use Rattle.std.proofs.Common.{rules, ◌≡◌, ◌+◌, suc, ◌++◌, ◌∷◌, [], length, ap, arith}
use Rattle.std.proofs.lemmas.Result.{on_ok_weaker, err_from_is_err_and}
use Rattle.algebra.specs.Fraction.{ℚ}
use Rattle.polynomials.specs.Terms.{compose, negate}
use Rattle.poly.specs.Seen.{terms_in, terms_each}
use Rattle.rounds.specs.Form.{variable_at}
use Rattle.task_lists.specs.Shapes.{width_of}
use Rattle.task_lists.proofs.Differences.{pushed, nothing_more, less_none, differences_next, past_difference_here, past_difference_later, tail_over}
use Rattle.task_lists.proofs.graph.+push_differences.Goals as goal

pub returns-in_default-clause-differences : goal.returns-in_default-clause-differences
returns-in_default-clause-differences t c = λ qs a.
    let w = width_of c.args.shape in
    nothing_more w c.args.out.now.items qs _
    (less_none _ c.args.forms.now (λ f. compose ℚ w f (terms_each c.args.images.now.items))
    c.in_default.ensures.cases) a

pub returns-in_err-difference-clause-wide : goal.returns-in_err-difference-clause-wide
returns-in_err-difference-clause-wide t c =
    let w = width_of c.args.shape in
    let n = c.args.shape.front + c.args.shape.copies + c.args.place in
    let p = err_from_is_err_and c.from_residual.result c.from_residual.ensures.1 in
    let some = ap length c.in-Some.ensures.cases.0 in
    let few = c.requires.places in
    λ x. past_difference_here w n (suc n) (omega (arith, some, few)) (let e : suc n ≡ suc n =
    omega arith in e) c.args.forms.now c.in-Some.forms.now c.in-Some.form.now
    c.in-Some.ensures.cases.0 (terms_each c.args.images.now.items)
    (c.in_err-difference.ensures.wide (cc (p.1, p.2, x)))

pub push_differences-requires : goal.push_differences-requires
push_differences-requires t c =
    let some = ap length c.in-Some.ensures.cases.0 in
    let few = c.requires.places in (
      search rules,
      (
        c.requires.some,
        (
          c.requires.few,
          (
            omega (arith, some, few),
            (
              c.requires.count,
              (
                c.requires.images,
                tail_over _ c.in-Some.ensures.cases.0
                    c.requires.forms,
              ),
            ),
          ),
        ),
      ),
    )

pub returns-clause-differences : goal.returns-clause-differences
returns-clause-differences t c = λ qs a.
    let w = width_of c.args.shape in
    let n = c.args.shape.front + c.args.shape.copies + c.args.place in
    let images = terms_each c.args.images.now.items in
    let f = c.in-Some.form.now in
    let some = ap length c.in-Some.ensures.cases.0 in
    let few = c.requires.places in
    on_ok_weaker _ (differences_next w n (c.args.shape.front + c.args.shape.copies
    + (c.args.place + 1)) (omega (arith, some, few)) (omega arith) c.args.forms.now
    c.in-Some.forms.now f c.in-Some.ensures.cases.0 (λ x. compose ℚ w x images) _ qs)
    (c.push_differences.ensures.differences (qs ++ (variable_at w n ++ negate ℚ
    (compose ℚ w (terms_in f) images)) ∷ []) (pushed w _ qs _ c.in_ok-push.ensures.items a
    c.in_ok-difference.ensures.difference))

pub returns-clause-wide : goal.returns-clause-wide
returns-clause-wide t c = λ x.
    let w = width_of c.args.shape in
    let n = c.args.shape.front + c.args.shape.copies + c.args.place in
    let some = ap length c.in-Some.ensures.cases.0 in
    let few = c.requires.places in
    past_difference_later w n (c.args.shape.front + c.args.shape.copies + (c.args.place + 1))
    (omega (arith, some, few)) (omega arith) c.args.forms.now c.in-Some.forms.now
    c.in-Some.form.now c.in-Some.ensures.cases.0 (terms_each c.args.images.now.items)
    (c.push_differences.ensures.wide x)
