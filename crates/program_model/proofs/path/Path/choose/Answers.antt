use Rattle.std.proofs.Common.{◌+◌, [], arith, refl, sym, subst, ◌∙◌}
use Rattle.std.proofs.lemmas.List.{length-set}
use Rattle.std.proofs.lemmas.List.Elements.{All-set}
use Rattle.poly.specs.Standing.{IsInVariables}
use Rattle.program_model.specs.PathEvents.{most_unknowns, step_events}
use Rattle.program_model.proofs.EventLaws.{count_free, count_stops}
use Rattle.program_model.proofs.Inverting.{unknown_is}
use Rattle.program_model.proofs.PathLaws.{wider, wide_length, wide_over, wide_zeros_over, chosen, choose_unknowns}
use Rattle.program_model.proofs.Values.{IsUnknown, unknown_values}
use Rattle.program_model.proofs.path.Path.choose.Goals as goal

pub index_mut-requires : goal.index_mut-requires
index_mut-requires c =
    let e = c.in_ok-path.ensures in
    let w = wider c.args.self c.in_ok-path.path e.variables e.from e.unknowns e.zeros e.images in
    let l = wide_length _ _ c.requires.ready.room w in
    let h = c.requires.ready.whole in
    let t = c.requires.target in
    let k = c.in_ok-path.path.images.ok.0 in
    omega (arith, l, h, t, k)

pub returns-then-self-ge-MOST_UNKNOWNS-clause-makes :
    goal.returns-then-self-ge-MOST_UNKNOWNS-clause-makes
unfolding step_events
returns-then-self-ge-MOST_UNKNOWNS-clause-makes c n u cs h =
    let l = c.if-self-ge-MOST_UNKNOWNS.true in
    let k = h.unknowns in
    count_stops c.args.at _ most_unknowns [] (omega (arith, l, k))

pub returns-clause-ready : goal.returns-clause-ready
returns-clause-ready c =
    let e = c.in_ok-path.ensures in
    let q = c.in_ok-path.path in
    let r = c.requires.ready.room in
    let w = wider c.args.self q e.variables e.from e.unknowns e.zeros e.images in
    let y = unknown_is _ (q.unknowns + q.variables) _ _ c.in_ok-unknown.unknown refl
    c.in_ok-unknown.ensures.variable in
    let s = r.some in
    let f = r.few_variables in
    let n = c.requires.ready.whole in
    let v = e.variables in
    let k = e.unknowns in
    let few = c.if-self-ge-MOST_UNKNOWNS.false in
    let l = length-set q.images.items c.args.target c.in_ok-unknown.unknown
    ∙ wide_length _ _ r w in
    record {
      room = record {
        some = omega (arith, s, v);
        few_variables = omega (arith, f, v);
        few_unknowns = omega (arith, few, k);
        images = All-set (IsInVariables _) _ c.args.target _ y.arity (wide_over _ _ r w);
        zeros = wide_zeros_over _ _ r w;
        count = omega (arith, n, v, l);
      };
      whole = l ∙ c.requires.ready.whole ∙ sym e.variables;
      variables = e.variables;
    }

pub returns-clause-makes : goal.returns-clause-makes
unfolding step_events
returns-clause-makes c n u cs h =
    let e = c.in_ok-path.ensures in
    let q = c.in_ok-path.path in
    let r = c.requires.ready.room in
    let w = wider c.args.self q e.variables e.from e.unknowns e.zeros e.images in
    let y = unknown_is _ (q.unknowns + q.variables) _ _ c.in_ok-unknown.unknown refl
    c.in_ok-unknown.ensures.variable in
    let j = e.unknowns in
    let k = h.unknowns in
    let few = c.if-self-ge-MOST_UNKNOWNS.false in
    let new = subst (λ i. IsUnknown (q.unknowns + q.variables) i c.in_ok-unknown.unknown)
    (omega (arith, j)) (unknown_values _ _ c.in_ok-unknown.unknown y) in (
      record {
        variables = e.variables ∙ h.variables;
        from = e.from ∙ h.from;
        unknowns = e.unknowns ∙ choose_unknowns cs c.args.target _ h.unknowns;
        follows = chosen _ _ r w n u cs h c.in_ok-unknown.unknown new c.args.target;
      },
      count_free c.args.at _ most_unknowns (λ g. omega (arith, g, few, k)),
    )
