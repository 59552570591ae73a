use Rattle.std.proofs.Common.{◌++◌, ◌∷◌, [], length, map, sym, subst, ◌∙◌, ap, All, arith, refl}
use Rattle.flows.specs.Steps.{assign}
use Rattle.poly.specs.Seen.{arity_of}
use Rattle.poly.specs.Standing.{IsInVariables}
use Rattle.loop_model.specs.ExpressionView.{expr_of}
use Rattle.loop_model.specs.Operations.{operations_all}
use Rattle.loop_model.specs.Parts.{statement_of}
use Rattle.loop_model.proofs.StateLaws.{after_free, after_stops}
use Rattle.program_model.specs.Events.{all_formed}
use Rattle.program_model.specs.PathEvents.{places, behind}
use Rattle.program_model.specs.Follows.{Follows}
use Rattle.program_model.proofs.Behind.{follows_stands}
use Rattle.program_model.proofs.EventLaws.{free_events, stops_events, handed_on}
use Rattle.program_model.proofs.PathLaws.{room_arity, room_state, stored, stored_length, stored_over, assign_unknowns, divided_arity}
use Rattle.program_model.proofs.path.Path.store.Goals as goal

pub after-requires-clause-state : goal.after-requires-clause-state
after-requires-clause-state c = room_state _ c.requires.room

pub returns-in_err-images-clause-makes : goal.returns-in_err-images-clause-makes
returns-in_err-images-clause-makes c n u cs ds h =
    let p = c.args.self in
    let es = map expr_of c.args.statement.now.values.items in
    let m = places n cs (length ds) in
    let b = behind n cs (length ds) (length ds) in
    handed_on (all_formed m (operations_all m b es)) _ c.in_err-images.field-0.0 _
    c.from_residual.ensures.1
    (stops_events m (operations_all m b es) c.in_err-images.field-0.0
    (after_stops m p.images.items b (follows_stands n cs ds _ _ h.follows)
    (arity_of p.images.items) (divided_arity p c.requires.room n u cs ds h) es
    c.in_err-images.field-0.0 c.in_err-images.ensures))

pub returns-clause-ready : goal.returns-clause-ready
returns-clause-ready c =
    let r = c.requires.room in
    let l = ap length c.truncate.ensures.items
    ∙ stored_length _ c.args.self.variables c.args.self.images.items c.in_ok-images.images.items
    (statement_of c.args.statement.now) c.in_ok-images.ensures.0 c.requires.room.count in
    record {
      room = record {
        some = r.some;
        few_variables = r.few_variables;
        few_unknowns = r.few_unknowns;
        images = subst (All (IsInVariables _)) (sym c.truncate.ensures.items)
            (stored_over _ _ c.args.self.variables c.args.self.images.items
            c.in_ok-images.images.items (statement_of c.args.statement.now)
            c.in_ok-images.ensures.0 (room_arity _ r));
        zeros = r.zeros;
        count = omega (arith, l);
      };
      whole = l;
      variables = refl;
    }

pub returns-clause-makes : goal.returns-clause-makes
returns-clause-makes c n u cs ds h =
    let p = c.args.self in
    let st = statement_of c.args.statement.now in
    let m = places n cs (length ds) in
    let b = behind n cs (length ds) (length ds) in (
      record {
        variables = h.variables;
        from = h.from;
        unknowns = assign_unknowns cs ds st.values st.targets _ h.unknowns;
        follows = subst (Follows n (cs ++ assign ds st.targets st.values ∷ []) []
            p.zeros.items) (sym c.truncate.ensures.items)
            (stored p c.requires.room n u cs ds h c.in_ok-images.images.items st
            c.requires.targets c.in_ok-images.ensures.0);
      },
      free_events m (operations_all m b st.values)
          (after_free m p.images.items b (follows_stands n cs ds _ _ h.follows)
          (arity_of p.images.items) (divided_arity p c.requires.room n u cs ds h) st.values
          c.in_ok-images.ensures.1),
    )
