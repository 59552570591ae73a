use Rattle.std.proofs.Common.{pos, is_some, ap, subst}
use Rattle.std.specs.Prelude.{IfSome}
use Rattle.poly.specs.Seen.{terms_in}
use Rattle.residue_rows.specs.Modulus.{modulus}
use Rattle.closing.specs.Modulo.{AreTermsModulo, HasNoResidues}
use Rattle.closing.specs.Maps.{modular_terms}
use Rattle.closing.proofs.Modular.{images_more, some_item}
use Rattle.closing.proofs.modular_maps.residue_map.Goals as goal

pub returns-in_default-clause-none : goal.returns-in_default-clause-none
returns-in_default-clause-none c = λ none.
    some_item (λ p. HasNoResidues (pos modulus) (terms_in p)) _ _ c.loop-image-test.true
    c.image-item.is (c.in_ok-image.ensures.none (ap is_some c.in_default.is))

pub loop-image-preserved : goal.loop-image-preserved
loop-image-preserved c =
    images_more (AreTermsModulo (pos modulus)) terms_in modular_terms c.args.map.now _ _
    c.in-Some.image c.loop-image-test.true c.image-item.is c.loop-image.invariant (subst (λ found.
    IfSome found (λ r. AreTermsModulo (pos modulus) (terms_in c.image-item.result)
    (modular_terms r))) c.in-Some.is c.in_ok-image.ensures.residues) c.in_ok-push.ensures.items
