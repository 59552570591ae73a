use Rattle.std.proofs.Common.{refl}
use Rattle.std.proofs.lemmas.List.{nil_from_length}
use Rattle.poly_text.proofs.PrintedTerms.{terms_more, terms_end}
use Rattle.poly_text.proofs.printing.push_later.Goals as goal

pub loop-term-init : goal.loop-term-init
loop-term-init c = record { so_far = refl; narrow = λ narrow. narrow; within = c.requires }

pub loop-term-preserved : goal.loop-term-preserved
loop-term-preserved c = terms_more c.loop-term.invariant c.in-Some.term.now c.in-Some.later.now
    c.in-Some.ensures.cases.0 _ c.in_ok-push_signed.ensures.text c.in_ok-push_signed.ensures.narrow

pub returns-clause-text : goal.returns-clause-text
returns-clause-text c = terms_end c.loop-term.invariant (nil_from_length c.loop-term.rest.now
    c.in_default.ensures.cases)
