use Rattle.std.proofs.Common.{◌≡◌, ◌<◌, ◌-◌, ◌++◌, ◌∷◌, [], arith, refl, sym, subst, ◌∙◌, All}
use Rattle.std.proofs.lemmas.List.Elements.{All-push}
use Rattle.flows.specs.Steps.{differ}
use Rattle.loops.specs.WellFormed.{Uses}
use Rattle.poly.specs.Seen.{terms_each, arity_of}
use Rattle.poly.specs.Standing.{IsInVariables}
use Rattle.poly.proofs.Standing.{stands_all_itself}
use Rattle.loop_model.specs.ExpressionView.{expr_of}
use Rattle.loop_model.specs.Operations.{value}
use Rattle.program_model.specs.SyntaxView.{comparison_of}
use Rattle.program_model.specs.Follows.{Follows}
use Rattle.program_model.specs.PathEvents.{places, behind, side}
use Rattle.program_model.proofs.PathLaws.{wider, wide_length, wide_over, wide_zeros_over, wide_arity, wide_state, differs, differ_unknowns}
use Rattle.program_model.proofs.Inverted.{state_stands, state_arity, stops_formed, itself, stops_inverse, free_inverse, inverse_new, inverse_zero}
use Rattle.program_model.proofs.Inverting as inverting
use Rattle.program_model.proofs.Values.{side_values}
use Rattle.program_model.proofs.path.Path.differ.Goals as goal

pub side-requires-clause-state : goal.side-requires-clause-state
side-requires-clause-state c =
    let e = c.in_ok-path.ensures in
    let w = wider c.args.self c.in_ok-path.path e.variables e.from e.unknowns e.zeros e.images in
    wide_state _ _ c.requires.ready.room w

pub side-requires-clause-left : goal.side-requires-clause-left
side-requires-clause-left c =
    let e = c.in_ok-path.ensures in
    let w = wider c.args.self c.in_ok-path.path e.variables e.from e.unknowns e.zeros e.images in
    subst (λ k. Uses (λ i. i < k) (expr_of c.args.comparison.now.left))
    (sym (wide_length _ _ c.requires.ready.room w ∙ c.requires.ready.whole))
    c.requires.comparison.left

pub side-requires-clause-right : goal.side-requires-clause-right
side-requires-clause-right c =
    let e = c.in_ok-path.ensures in
    let w = wider c.args.self c.in_ok-path.path e.variables e.from e.unknowns e.zeros e.images in
    subst (λ k. Uses (λ i. i < k) (expr_of c.args.comparison.now.right))
    (sym (wide_length _ _ c.requires.ready.room w ∙ c.requires.ready.whole))
    c.requires.comparison.right

pub returns-in_err-side-clause-makes : goal.returns-in_err-side-clause-makes
returns-in_err-side-clause-makes c n u cs h =
    let e = c.in_ok-path.ensures in
    let p = c.args.self in
    let q = c.in_ok-path.path in
    let r = c.requires.ready.room in
    let w = wider p q e.variables e.from e.unknowns e.zeros e.images in
    let k = comparison_of c.args.comparison.now in
    stops_formed p q r w n u cs [] h k.at (side k) _ c.in_err-side.field-0.0 _
    c.from_residual-in_err-side.ensures.1
    (c.in_err-side.ensures (places n cs 1) (behind n cs 0 1) (state_arity p q r w n u cs [] h)
    (state_stands p q r w n u cs [] h))

pub invert-requires : goal.invert-requires
invert-requires c =
    let e = c.in_ok-path.ensures in
    let q = c.in_ok-path.path in
    let w = wider c.args.self q e.variables e.from e.unknowns e.zeros e.images in
    let z = c.in_ok-side.ensures (arity_of q.images.items) (terms_each q.images.items) refl
    (stands_all_itself _ q.images.items (wide_state _ _ c.requires.ready.room w)) in
    let a = z.0.arity ∙ wide_arity _ _ c.requires.ready.room w in
    let s = c.requires.ready.room.some in
    let v = e.variables in
    let k = e.unknowns in
    omega (arith, a, s, v, k)

pub returns-in_err-inverse-clause-makes : goal.returns-in_err-inverse-clause-makes
returns-in_err-inverse-clause-makes c n u cs h =
    let e = c.in_ok-path.ensures in
    let p = c.args.self in
    let q = c.in_ok-path.path in
    let r = c.requires.ready.room in
    let w = wider p q e.variables e.from e.unknowns e.zeros e.images in
    let k = comparison_of c.args.comparison.now in
    let b = behind n cs 0 1 in
    let v = c.in_ok-side.side in
    let f = c.in_ok-side.ensures (places n cs 1) b (state_arity p q r w n u cs [] h)
    (state_stands p q r w n u cs [] h) in
    let j = e.unknowns in
    let last : q.unknowns - 1 ≡ p.unknowns = omega (arith, j) in
    stops_inverse p q r w n u cs [] h k.at (side k) v f _ last _ c.in_err-inverse.field-0.0 _
    c.from_residual-in_err-inverse.ensures.1
    (c.in_err-inverse.ensures (value (places n cs 1) b (side k))
    (itself p q r w n u cs [] h k.at (side k) v f _ last))

pub returns-clause-ready : goal.returns-clause-ready
returns-clause-ready c =
    let e = c.in_ok-path.ensures in
    let q = c.in_ok-path.path in
    let r = c.requires.ready.room in
    let w = wider c.args.self q e.variables e.from e.unknowns e.zeros e.images in
    let x = c.in_ok-side.ensures (arity_of q.images.items) (terms_each q.images.items) refl
    (stands_all_itself _ q.images.items (wide_state _ _ r w)) in
    let a = x.0.arity ∙ wide_arity _ _ r w in
    let new = inverting.inverse_new c.in_ok-side.side c.args.comparison.now.at _
    c.in_ok-inverse.inverse c.in_ok-inverse.ensures in
    let s = r.some in
    let f = r.few_variables in
    let n = r.count in
    let v = e.variables in
    let k = e.unknowns in
    let few = new.few in
    let l = wide_length _ _ r w in
    record {
      room = record {
        some = omega (arith, s, v);
        few_variables = omega (arith, f, v);
        few_unknowns = omega (arith, few, k);
        images = wide_over _ _ r w;
        zeros = subst (All (IsInVariables _)) (sym c.in_ok-push.ensures.items)
            (All-push (IsInVariables _) _ _ (wide_zeros_over _ _ r w) (new.zero ∙ a));
        count = omega (arith, n, v, l);
      };
      whole = wide_length _ _ r w ∙ c.requires.ready.whole ∙ sym e.variables;
      variables = e.variables;
    }

pub returns-clause-makes : goal.returns-clause-makes
returns-clause-makes c n u cs h =
    let e = c.in_ok-path.ensures in
    let p = c.args.self in
    let q = c.in_ok-path.path in
    let r = c.requires.ready.room in
    let w = wider p q e.variables e.from e.unknowns e.zeros e.images in
    let k = comparison_of c.args.comparison.now in
    let b = behind n cs 0 1 in
    let v = c.in_ok-side.side in
    let x = c.in_ok-side.ensures (arity_of q.images.items) (terms_each q.images.items) refl
    (stands_all_itself _ q.images.items (wide_state _ _ r w)) in
    let f = c.in_ok-side.ensures (places n cs 1) b (state_arity p q r w n u cs [] h)
    (state_stands p q r w n u cs [] h) in
    let j = e.unknowns in
    let last : q.unknowns - 1 ≡ p.unknowns = omega (arith, j) in
    let made = c.in_ok-inverse.ensures (value (places n cs 1) b (side k))
    (itself p q r w n u cs [] h k.at (side k) v f _ last) in
    let y = c.in_ok-inverse.inverse in (
      record {
        variables = e.variables ∙ h.variables;
        from = e.from ∙ h.from;
        unknowns = e.unknowns ∙ differ_unknowns cs k.left k.right _ h.unknowns;
        follows = subst (λ zs. Follows n (cs ++ differ k.left k.right ∷ []) [] zs q.images.items)
            (sym c.in_ok-push.ensures.items)
            (differs p q r w n u cs h y.unknown
            (inverse_new p q r w n u cs [] h k.at (side k) v f _ last y made) k.left k.right v
            y.zero (side_values _ k.at q.images.items k.left k.right v refl x.0)
            (inverse_zero p q r w n u cs [] h k.at (side k) v f _ last y made));
      },
      free_inverse p q r w n u cs [] h k.at (side k) v f _ last y made,
    )
