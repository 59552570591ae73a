use Rattle.std.proofs.Common.{pos, is_some, ap, subst}
use Rattle.std.specs.Prelude.{IfSome}
use Rattle.std.specs.List.{AllZip, Any}
use Rattle.poly.specs.Seen.{terms_in, terms_each}
use Rattle.residue_rows.specs.Modulus.{modulus}
use Rattle.closing.specs.Modulo.{AreTermsModulo, HasNoResidues}
use Rattle.closing.specs.Maps.{modular_terms_each, IsMapModulo}
use Rattle.closing.proofs.Modular.{zip_more, some_item}
use Rattle.closing.proofs.modular_maps.branch_maps.Goals as goal

pub returns-in_default-clause-none : goal.returns-in_default-clause-none
returns-in_default-clause-none c = λ none.
    some_item (λ map. Any (λ p. HasNoResidues (pos modulus) (terms_in p)) map.items) _ _
    c.loop-map-test.true c.map-item.is (subst (Any (λ p. HasNoResidues (pos modulus) (terms_in p)))
    c.deref.ensures.value (c.in_ok-map.ensures.none (ap is_some c.in_default.is)))

pub loop-map-preserved : goal.loop-map-preserved
loop-map-preserved c =
    zip_more IsMapModulo c.args.maps.now _ c.loop-map.map-index c.map-item.result c.in-Some.map
    c.loop-map-test.true c.map-item.is c.loop-map.invariant (subst (λ ps. AllZip
    (AreTermsModulo (pos modulus)) (terms_each ps) (modular_terms_each c.in-Some.map.items))
    c.deref.ensures.value (subst (λ found. IfSome found (λ rs. AllZip (AreTermsModulo (pos modulus))
    (terms_each c.deref.result.now) (modular_terms_each rs.items))) c.in-Some.is
    c.in_ok-map.ensures.map)) c.in_ok-push.ensures.items
