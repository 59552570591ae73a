use Rattle.std.proofs.Common.{◌≡◌, ◌<◌, ◌-◌, ◌++◌, ◌∷◌, [], length, suc, arith, sym, ap, subst, subst₂, ◌∙◌, All}
use Rattle.std.proofs.lemmas.List.{length-append, length_push}
use Rattle.std.proofs.lemmas.List.Elements.{All-push}
use Rattle.loops.specs.WellFormed.{Uses}
use Rattle.poly.specs.Standing.{IsInVariables}
use Rattle.poly.specs.Seen.{arity_of}
use Rattle.loop_model.specs.ExpressionView.{expr_of}
use Rattle.loop_model.specs.Operations.{value}
use Rattle.loop_model.proofs.StateLaws.{formed_stop}
use Rattle.program_model.specs.Follows.{Follows}
use Rattle.program_model.specs.PathEvents.{places, behind}
use Rattle.program_model.proofs.PathLaws.{wider, wide_length, wide_over, wide_zeros_over, wide_arity, wide_state, divided}
use Rattle.program_model.proofs.Inverted.{state_stands, state_arity, stops_formed, formed_here, itself, stops_inverse, free_inverse, inverse_new, inverse_zero}
use Rattle.program_model.proofs.Inverting as inverting
use Rattle.program_model.proofs.path.Path.divide.Goals as goal

pub expr_poly-requires-clause-uses : goal.expr_poly-requires-clause-uses
expr_poly-requires-clause-uses c =
    let e = c.in_ok-path.ensures in
    let w = wider c.args.self c.in_ok-path.path e.variables e.from e.unknowns e.zeros e.images in
    subst (λ k. Uses (λ i. i < k) (expr_of c.args.divisor.now.value))
    (sym (wide_length _ _ c.requires.room w)) c.requires.uses

pub expr_poly-requires-clause-state : goal.expr_poly-requires-clause-state
expr_poly-requires-clause-state c =
    let e = c.in_ok-path.ensures in
    let w = wider c.args.self c.in_ok-path.path e.variables e.from e.unknowns e.zeros e.images in
    wide_state _ _ c.requires.room w

pub returns-in_err-value-clause-makes : goal.returns-in_err-value-clause-makes
returns-in_err-value-clause-makes c n u cs ds h =
    let e = c.in_ok-path.ensures in
    let q = c.in_ok-path.path in
    let w = wider c.args.self q e.variables e.from e.unknowns e.zeros e.images in
    let d = c.args.divisor.now in
    stops_formed c.args.self q c.requires.room w n u cs ds h d.at (expr_of d.value) _
    c.in_err-value.field-0.0 _ c.from_residual-in_err-value.ensures.1
    (formed_stop _ q.images.items (behind n cs (length ds) (suc (length ds)))
    (state_stands c.args.self q c.requires.room w n u cs ds h) (arity_of q.images.items)
    (state_arity c.args.self q c.requires.room w n u cs ds h) (expr_of d.value)
    c.in_err-value.field-0.0 c.in_err-value.ensures.stops)

pub invert-requires : goal.invert-requires
invert-requires c =
    let e = c.in_ok-path.ensures in
    let w = wider c.args.self c.in_ok-path.path e.variables e.from e.unknowns e.zeros e.images in
    let a = c.in_ok-value.ensures.value.arity ∙ wide_arity _ _ c.requires.room w in
    let s = c.requires.room.some in
    let v = e.variables in
    let k = e.unknowns in
    omega (arith, a, s, v, k)

pub returns-in_err-inverse-clause-makes : goal.returns-in_err-inverse-clause-makes
returns-in_err-inverse-clause-makes c n u cs ds h =
    let e = c.in_ok-path.ensures in
    let p = c.args.self in
    let q = c.in_ok-path.path in
    let w = wider p q e.variables e.from e.unknowns e.zeros e.images in
    let d = c.args.divisor.now in
    let b = behind n cs (length ds) (suc (length ds)) in
    let v = c.in_ok-value.value in
    let x = c.in_ok-value.ensures in
    let f = formed_here p q c.requires.room w n u cs ds h (expr_of d.value) v x.value x.free in
    let k = e.unknowns in
    let last : q.unknowns - 1 ≡ p.unknowns = omega (arith, k) in
    stops_inverse p q c.requires.room w n u cs ds h d.at (expr_of d.value) v f _ last _
    c.in_err-inverse.field-0.0 _ c.from_residual-in_err-inverse.ensures.1
    (c.in_err-inverse.ensures (value (places n cs (suc (length ds))) b (expr_of d.value))
    (itself p q c.requires.room w n u cs ds h d.at (expr_of d.value) v f _ last))

pub returns-clause-room : goal.returns-clause-room
returns-clause-room c =
    let e = c.in_ok-path.ensures in
    let w = wider c.args.self c.in_ok-path.path e.variables e.from e.unknowns e.zeros e.images in
    let a = c.in_ok-value.ensures.value.arity ∙ wide_arity _ _ c.requires.room w in
    let new = inverting.inverse_new c.in_ok-value.value c.args.divisor.now.at _
    c.in_ok-inverse.inverse c.in_ok-inverse.ensures in
    let s = c.requires.room.some in
    let f = c.requires.room.few_variables in
    let n = c.requires.room.count in
    let v = e.variables in
    let k = e.unknowns in
    let few = new.few in
    let l = wide_length _ _ c.requires.room w in
    let m = ap length c.in_ok-push-2.ensures.items ∙ length_push _ _ in
    record {
      some = omega (arith, s, v);
      few_variables = omega (arith, f, v);
      few_unknowns = omega (arith, few, k);
      images = subst (All (IsInVariables _)) (sym c.in_ok-push-2.ensures.items)
          (All-push (IsInVariables _) _ _ (wide_over _ _ c.requires.room w) (new.unknown ∙ a));
      zeros = subst (All (IsInVariables _)) (sym c.in_ok-push.ensures.items)
          (All-push (IsInVariables _) _ _ (wide_zeros_over _ _ c.requires.room w) (new.zero ∙ a));
      count = omega (arith, n, v, l, m);
    }

pub returns-clause-count : goal.returns-clause-count
returns-clause-count c =
    let e = c.in_ok-path.ensures in
    let w = wider c.args.self c.in_ok-path.path e.variables e.from e.unknowns e.zeros e.images in
    let l = wide_length _ _ c.requires.room w in
    let m = ap length c.in_ok-push-2.ensures.items ∙ length_push _ _ in
    omega (arith, l, m)

pub returns-clause-makes : goal.returns-clause-makes
returns-clause-makes c n u cs ds h =
    let e = c.in_ok-path.ensures in
    let p = c.args.self in
    let q = c.in_ok-path.path in
    let w = wider p q e.variables e.from e.unknowns e.zeros e.images in
    let d = c.args.divisor.now in
    let b = behind n cs (length ds) (suc (length ds)) in
    let v = c.in_ok-value.value in
    let x = c.in_ok-value.ensures in
    let f = formed_here p q c.requires.room w n u cs ds h (expr_of d.value) v x.value x.free in
    let k = e.unknowns in
    let last : q.unknowns - 1 ≡ p.unknowns = omega (arith, k) in
    let made = c.in_ok-inverse.ensures
    (value (places n cs (suc (length ds))) b (expr_of d.value))
    (itself p q c.requires.room w n u cs ds h d.at (expr_of d.value) v f _ last) in
    let y = c.in_ok-inverse.inverse in
    let j = h.unknowns in
    let l = length-append ds (expr_of d.value ∷ []) in (
      record {
        variables = e.variables ∙ h.variables;
        from = e.from ∙ h.from;
        unknowns = omega (arith, j, k, l);
        follows = subst₂ (Follows n cs (ds ++ expr_of d.value ∷ []))
            (sym c.in_ok-push.ensures.items) (sym c.in_ok-push-2.ensures.items)
            (divided p q c.requires.room w n u cs ds h (expr_of d.value) v y.unknown y.zero
            x.value
            (inverse_new p q c.requires.room w n u cs ds h d.at (expr_of d.value) v f _ last y
            made)
            (inverse_zero p q c.requires.room w n u cs ds h d.at (expr_of d.value) v f _ last y
            made));
      },
      free_inverse p q c.requires.room w n u cs ds h d.at (expr_of d.value) v f _ last y made,
    )
