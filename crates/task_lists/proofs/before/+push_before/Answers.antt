use Rattle.std.proofs.Common.{rules, ◌+◌, ◌++◌, ◌∷◌, [], arith}
use Rattle.std.proofs.lemmas.Result.{on_ok_weaker}
use Rattle.poly.specs.Seen.{terms_in}
use Rattle.rounds.specs.Form.{variable_at, with_room_for}
use Rattle.task_lists.specs.Shapes.{width_of}
use Rattle.task_lists.proofs.Differences.{pushed, variable_stands, copy_next, told_next, passers_next, passers_same, tail_over}
use Rattle.task_lists.proofs.before.+push_before.Goals as goal

pub push_before-requires : goal.push_before-requires
push_before-requires t c =
    let s = c.args.shape in
    let q = c.requires.copies in
    let n = passers_next c.in-Some-Some.passing.now
    c.in-Some-Some.ensures.cases.0 c.if-passes.true in (
      search rules,
      (
        omega (arith, q, n),
        (
          c.requires.few,
          tail_over _
              c.in-Some-Some.ensures'.cases.0
              c.requires.over,
        ),
      ),
    )

pub returns-then-passes : goal.returns-then-passes
returns-then-passes t c = record {
  before = λ qs a.
      let s = c.args.shape in
      let w = width_of s in
      on_ok_weaker _ (copy_next w s.front (with_room_for s.front s.copies s.variables)
      c.in-Some-Some.ensures.cases.0 c.in-Some-Some.ensures'.cases.0 c.args.copy (c.args.copy + 1)
      c.push_before.new.out.items qs c.if-passes.true (omega arith))
      (c.push_before.ensures.before (qs ++ variable_at w (s.front + c.args.copy) ∷ []) (pushed w _
      qs _ c.in_ok-push.ensures.items a (variable_stands w _ c.in_ok-variable.field-0
      c.in_ok-variable.ensures.terms c.in_ok-variable.ensures.arity)));
}

pub push_before-requires-2 : goal.push_before-requires-2
push_before-requires-2 t c =
    let s = c.args.shape in
    let q = c.requires.copies in
    let n = passers_same c.in-Some-Some.passing.now
    c.in-Some-Some.ensures.cases.0 c.if-passes.false in (
      search rules,
      (
        omega (arith, q, n),
        (
          c.requires.few,
          tail_over _
              c.in-Some-Some.ensures'.cases.0
              c.requires.over,
        ),
      ),
    )

pub returns : goal.returns
returns t c = record {
  before = λ qs a.
      let s = c.args.shape in
      let w = width_of s in
      on_ok_weaker _ (told_next w s.front (with_room_for s.front s.copies s.variables)
      c.in-Some-Some.ensures.cases.0 c.in-Some-Some.ensures'.cases.0 c.args.copy (c.args.copy + 1)
      c.push_before-2.new.out.items qs c.if-passes.false)
      (c.push_before-2.ensures.before (qs ++ with_room_for s.front s.copies s.variables
      (terms_in c.in-Some-Some.poly.now) ∷ []) (pushed w _ qs _ c.in_ok-push-2.ensures.items a
      c.in_ok-widened.ensures.widened));
}
