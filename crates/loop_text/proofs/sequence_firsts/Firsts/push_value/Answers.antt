use Rattle.std.proofs.Common.{◌≡◌, ◌≤◌, length, IsTrue, None, sym, ap, subst, ◌∙◌, ◌∷◌, [], ◌++◌}
use Rattle.loops.specs.Limits.{most_bytes}
use Rattle.loop_model.specs.Names.{place_of}
use Rattle.loop_model.specs.Words.{is_plain_word}
use Rattle.loop_text.proofs.Named.{new_plain, new_short, new_other}
use Rattle.loop_text.proofs.FirstReads.{ready, more_open}
use Rattle.loop_text.proofs.sequence_firsts.Firsts.push_value.Goals as goal

pub push_new-requires-clause-plain : goal.push_new-requires-clause-plain
push_new-requires-clause-plain c =
    let f = c.args.self.now in
    subst (λ v. IsTrue (is_plain_word v)) (sym (c.deref.ensures.value ∙ c.in_ok-variable.ensures))
    (new_plain c.requires.open.before f.orders.items c.args.name.now c.args.index f.variables
    (ready f c.args.index c.args.name.now c.requires.open c.requires.room))

pub push_new-requires-clause-short : goal.push_new-requires-clause-short
push_new-requires-clause-short c =
    let f = c.args.self.now in
    subst (λ v. length v ≤ most_bytes) (sym (c.deref.ensures.value ∙ c.in_ok-variable.ensures))
    (new_short c.requires.open.before f.orders.items c.args.name.now c.args.index f.variables
    (ready f c.args.index c.args.name.now c.requires.open c.requires.room))

pub push_new-requires-clause-other : goal.push_new-requires-clause-other
push_new-requires-clause-other c =
    let f = c.args.self.now in
    subst (λ v. place_of f.variables v ≡ None)
    (sym (c.deref.ensures.value ∙ c.in_ok-variable.ensures))
    (new_other c.requires.open.before f.orders.items c.args.name.now c.args.index f.variables
    (ready f c.args.index c.args.name.now c.requires.open c.requires.room))

pub returns-clause-open : goal.returns-clause-open
returns-clause-open c =
    let f = c.args.self.now in
    more_open f c.args.index c.args.name.now c.requires.open c.requires.room c.push_new.new.self
    c.push.new.self _
    (c.in_ok-push_new.ensures.ok ∙ ap (λ v. f.variables ++ v ∷ [])
    (c.deref.ensures.value ∙ c.in_ok-variable.ensures))
    c.in_ok-push.ensures.items c.len-var.ensures.len c.requires.given
