use Rattle.std.proofs.Common.{rules, ◌≡◌}
use Rattle.std.proofs.lemmas.List.Elements.{All-nil}
use Rattle.poly.specs.Seen.{arity_of}
use Rattle.loop_model.proofs.OperatorLaws.{constant_stands}
use Rattle.loop_model.proofs.forming.number.Goals as goal

pub returns : goal.returns
returns c =
    let arity : c.map_or-arity.result ≡ arity_of c.args.state.now.items = search rules in (
      constant_stands c.in_ok-constant.field-0 arity c.whole.ensures
          c.in_ok-constant.ensures.constant,
      All-nil _,
    )
