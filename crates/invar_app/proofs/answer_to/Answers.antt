use Rattle.std.proofs.Common.{ap, refl, rules, arith, ◌≡◌, suc, map, string_bytes, String, List, [], ◌∷◌, length}
use Rattle.std.specs.Prelude.{None}
use Rattle.std.specs.declared.alloc.Global.{Global}
use Rattle.io_edge.proofs.Going.{obeys_nothing, obeys_same}
use Rattle.invar_app.specs.Arguments.{command_by, command_of, course_of}
use Rattle.invar_app.proofs.answer_to.Goals as goal

no_arguments : (arguments : List (String Global)) → length arguments ≡ 0
    → None ≡ command_of (map string_bytes arguments)
no_arguments [] e = refl
no_arguments (w ∷ ws) e = absurd (let x : suc (length ws) ≡ 0 = e in omega (arith, x))

pub returns-in-Some : goal.returns-in-Some
returns-in-Some g c =
    let rest = map string_bytes c.in-Some.rest.now in
    let arguments = map string_bytes c.args.arguments.now in
    let is : string_bytes c.in-Some.argument.now ∷ rest ≡ arguments = search rules in
    obeys_same (course_of c.args.meter.now) (command_by (string_bytes c.in-Some.argument.now) rest)
    (command_of arguments) _ _ c.answer_by.result (ap command_of is) c.answer_by.ensures

pub returns-in-None : goal.returns-in-None
returns-in-None g c =
    let none : length c.args.arguments.now ≡ 0 = search rules in
    obeys_nothing (course_of c.args.meter.now) (command_of (map string_bytes c.args.arguments.now))
    _ _
    (no_arguments c.args.arguments.now none) refl refl
