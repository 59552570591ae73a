use Rattle.std.proofs.Common.{◌<◌, ◌++◌, ◌∷◌, [], refl, sym, subst, ◌∙◌, All}
use Rattle.std.proofs.lemmas.List.Elements.{All-push}
use Rattle.flows.specs.Steps.{equal}
use Rattle.loops.specs.WellFormed.{Uses}
use Rattle.poly.specs.Seen.{terms_each, arity_of}
use Rattle.poly.specs.Standing.{IsInVariables}
use Rattle.poly.proofs.Standing.{stands_all_itself}
use Rattle.loop_model.specs.ExpressionView.{expr_of}
use Rattle.loop_model.specs.Operations.{operations}
use Rattle.program_model.specs.SyntaxView.{comparison_of}
use Rattle.program_model.specs.PathEvents.{places, behind, side, at_path}
use Rattle.program_model.specs.Follows.{Follows}
use Rattle.program_model.proofs.Behind.{follows_stands}
use Rattle.program_model.proofs.EventLaws.{free_events, stops_events, handed_on}
use Rattle.program_model.proofs.PathLaws.{room_arity, room_state, equals_here, equal_unknowns, divided_arity}
use Rattle.program_model.proofs.Values.{side_values}
use Rattle.program_model.proofs.path.Path.equal.Goals as goal

pub side-requires-clause-state : goal.side-requires-clause-state
side-requires-clause-state c = room_state _ c.requires.ready.room

pub side-requires-clause-left : goal.side-requires-clause-left
side-requires-clause-left c = subst (λ k. Uses (λ i. i < k) (expr_of c.args.comparison.now.left))
    (sym c.requires.ready.whole) c.requires.comparison.left

pub side-requires-clause-right : goal.side-requires-clause-right
side-requires-clause-right c = subst (λ k. Uses (λ i. i < k) (expr_of c.args.comparison.now.right))
    (sym c.requires.ready.whole) c.requires.comparison.right

pub returns-in_err-zero-clause-makes : goal.returns-in_err-zero-clause-makes
returns-in_err-zero-clause-makes c n u cs h =
    let p = c.args.self in
    let k = side (comparison_of c.args.comparison.now) in
    let m = places n cs 0 in
    let b = behind n cs 0 0 in
    handed_on (at_path n cs 0 0 k) _ c.in_err-zero.field-0.0 _ c.from_residual.ensures.1
    (stops_events m (operations m b k) c.in_err-zero.field-0.0
    (c.in_err-zero.ensures m b (divided_arity p c.requires.ready.room n u cs [] h)
    (follows_stands n cs [] _ _ h.follows)))

pub returns-clause-ready : goal.returns-clause-ready
returns-clause-ready c =
    let r = c.requires.ready.room in
    let z = c.in_ok-zero.ensures (arity_of c.args.self.images.items)
    (terms_each c.args.self.images.items) refl
    (stands_all_itself _ c.args.self.images.items (room_state _ r)) in
    record {
      room = record {
        some = r.some;
        few_variables = r.few_variables;
        few_unknowns = r.few_unknowns;
        images = r.images;
        zeros = subst (All (IsInVariables _)) (sym c.in_ok-push.ensures.items)
            (All-push (IsInVariables _) _ _ r.zeros (z.0.arity ∙ room_arity _ r));
        count = r.count;
      };
      whole = c.requires.ready.whole;
      variables = refl;
    }

pub returns-clause-makes : goal.returns-clause-makes
returns-clause-makes c n u cs h =
    let p = c.args.self in
    let r = c.requires.ready.room in
    let k = comparison_of c.args.comparison.now in
    let m = places n cs 0 in
    let b = behind n cs 0 0 in
    let z = c.in_ok-zero.ensures (arity_of p.images.items)
    (terms_each p.images.items) refl
    (stands_all_itself _ p.images.items (room_state _ r)) in
    let f = c.in_ok-zero.ensures m b (divided_arity p r n u cs [] h)
    (follows_stands n cs [] _ _ h.follows) in (
      record {
        variables = h.variables;
        from = h.from;
        unknowns = equal_unknowns cs k.left k.right _ h.unknowns;
        follows = subst (λ zs. Follows n (cs ++ equal k.left k.right ∷ []) [] zs p.images.items)
            (sym c.in_ok-push.ensures.items)
            (equals_here p r n u cs h k.left k.right c.in_ok-zero.zero
            (side_values _ k.at p.images.items k.left k.right c.in_ok-zero.zero refl z.0));
      },
      free_events m (operations m b (side k)) f.1,
    )
