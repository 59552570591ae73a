use Rattle.std.proofs.Common.{◌∙◌, ap, Global}
use Rattle.std.specs.Prelude.{position, string_bytes}
use Rattle.std.specs.Str.{bytes_eq}
use Rattle.loop_model.specs.Names.{place_of}
use Rattle.loop_model.proofs.NameLaws.{place-of_texts, no-text}
use Rattle.loop_model.proofs.names.Names.position.Goals as goal

pub returns-in-Ok-clause-place : goal.returns-in-Ok-clause-place
returns-in-Ok-clause-place c = c.get_index_of.ensures.index
    ∙ ap (λ w. position (λ n. bytes_eq w (string_bytes {Z = Global} n)) c.self.inside.set.keys)
    c.in-Ok.ensures.cases.0
    ∙ place-of_texts c.args.name.now c.self.inside.set.keys ∙ ap (λ ns. place_of ns c.args.name.now)
    c.self.view_is

pub returns-in-Err-clause-place : goal.returns-in-Err-clause-place
returns-in-Err-clause-place c = no-text c.args.name.now c.self.inside.set.keys
    c.in-Err.ensures.cases.0 ∙ ap (λ ns. place_of ns c.args.name.now) c.self.view_is
