use Rattle.std.proofs.Common.{◌≡◌, string_bytes, sym, ap, ◌∙◌, arith}
use Rattle.std.proofs.lemmas.Grind.{common_steps}
use Rattle.std.proofs.lemmas.Result.{IfOk-weaker}
use Rattle.cert_form.specs.Form.{part}
use Rattle.cert_form.specs.Path.{path_bytes, member_path}
use Rattle.cert_form.proofs.Paths.{member_is, place_is}
use Rattle.cert_form.proofs.fault.+text_of.Goals as goal

pub returns-in_ok-object-in-Member : goal.returns-in_ok-object-in-Member
returns-in_ok-object-in-Member t c =
    let object : string_bytes c.in_ok-object-in-Member.object ≡ path_bytes c.in-Member.object.now =
    c.in_ok-object-in-Member.ensures in
    let name = c.in-Member.name.now in
    let whole : path_bytes c.args.path.now ≡ member_path (path_bytes c.in-Member.object.now) name =
    ap path_bytes c.in-Member.is ∙ member_is c.in-Member.object c.in-Member.name in
    IfOk-weaker c.format.result _ _ (λ text is.
    let said : string_bytes text ≡ member_path (path_bytes c.in-Member.object.now) name =
    grind (arith, common_steps) in said ∙ sym whole) c.format.ensures.ok

pub returns-in_ok-list-in-Place : goal.returns-in_ok-list-in-Place
returns-in_ok-list-in-Place t c =
    let list : string_bytes c.in_ok-list-in-Place.list ≡ path_bytes c.in-Place.list.now =
    c.in_ok-list-in-Place.ensures in
    let place = c.in-Place.place in
    let whole : path_bytes c.args.path.now ≡ part (path_bytes c.in-Place.list.now) place =
    ap path_bytes c.in-Place.is ∙ place_is c.in-Place.list c.in-Place.place in
    IfOk-weaker c.format-in-Place.result _ _ (λ text is.
    let said : string_bytes text ≡ part (path_bytes c.in-Place.list.now) c.in-Place.place =
    grind (arith, common_steps) in said ∙ sym whole) c.format-in-Place.ensures.ok
