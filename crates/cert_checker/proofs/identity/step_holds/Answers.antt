use Rattle.std.proofs.Common.{ap, subst₂, inr}
use Rattle.poly.specs.Seen.{terms_each}
use Rattle.task_lists.specs.Past.{IsPastCombination}
use Rattle.cert_checker.proofs.IdentityLaws.{composed_stands, composed_arities, combined_tells}
use Rattle.cert_checker.proofs.identity.step_holds.Goals as goal

pub compose-requires-clause-arities : goal.compose-requires-clause-arities
compose-requires-clause-arities c = composed_arities _ c.requires.some c.requires.images

pub returns-clause-holds : goal.returns-clause-holds
returns-clause-holds c =
    let composed = composed_stands _ c.args.element.now _ c.requires.some c.requires.images
    c.in_ok-composed.ensures.composition in
    combined_tells _ _ _ _ _ composed.same (ap terms_each c.deref.ensures.value)
    (ap terms_each c.deref-2.ensures.value) c.is_combination.ensures.holds

pub returns-clause-wide : goal.returns-clause-wide
returns-clause-wide c = λ wide. inr (subst₂ IsPastCombination (ap terms_each c.deref.ensures.value)
    (ap terms_each c.deref-2.ensures.value) (c.is_combination.ensures.wide wide))
