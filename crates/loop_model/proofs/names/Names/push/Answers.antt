use Rattle.std.proofs.Common.{◌≡◌, ◌∙◌, ap, sym, Some, true, false}
use Rattle.std.specs.Prelude.{is_some}
use Rattle.loop_model.specs.Names.{place_of, is_name, bad, twice}
use Rattle.loop_model.proofs.NameLaws.{fault-bad, fault-twice, fault-none}
use Rattle.loop_model.proofs.names.Names.push.Goals as goal

pub returns-then-not-is_name-clause-fault : goal.returns-then-not-is_name-clause-fault
returns-then-not-is_name-clause-fault c =
    let none : is_name c.args.name.now ≡ false = sym c.is_name.ensures ∙ c.if-not-is_name.true in
    λ rest. ap (λ n. Some (bad n)) c.len-index.ensures.len
    ∙ fault-bad c.args.self.now c.args.name.now rest none

pub returns-then-is_some-clause-fault : goal.returns-then-is_some-clause-fault
returns-then-is_some-clause-fault c =
    let name : is_name c.args.name.now ≡ true = sym c.is_name.ensures ∙ c.if-not-is_name.false in
    let there : is_some (place_of c.args.self.now c.args.name.now) ≡ true =
    sym (ap is_some c.position.ensures.place) ∙ sym c.is_some.ensures ∙ c.if-is_some.true in
    λ rest. ap (λ n. Some (twice n)) c.len-index.ensures.len
    ∙ fault-twice c.args.self.now c.args.name.now rest name there

pub returns-clause-free : goal.returns-clause-free
returns-clause-free c =
    let name : is_name c.args.name.now ≡ true = sym c.is_name.ensures ∙ c.if-not-is_name.false in
    let new : is_some (place_of c.args.self.now c.args.name.now) ≡ false =
    sym (ap is_some c.position.ensures.place) ∙ sym c.is_some.ensures ∙ c.if-is_some.false in
    λ rest. fault-none c.args.self.now c.args.name.now rest name new
